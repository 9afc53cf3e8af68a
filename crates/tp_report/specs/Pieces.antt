-- The texts of pieces.
use Rattle.std.specs.Prelude.{ℕ, List, ◌++◌, decimal}
use Rattle.std.specs.Fmt.{signed_decimal}
use Rattle.tp_report.specs.Texts.{h8, status_text, state_text, registers_text, reading_text, reply_text, log_text, bytes_text}
use Rattle.tp_report.specs.declared.pieces.Part.{Part}
use Rattle.tp_report.specs.declared.pieces.Part.TheVariants as part
use Rattle.tp_report.specs.declared.pieces.Piece.{Piece}
use Rattle.tp_report.specs.declared.pieces.Piece.TheVariants.{Text, Number, Signed, Hex, Status, State, Registers, Readings, Replies, Bytes}
use Rattle.domain_view.specs.Models.{view_model}

abbrev pub part_text : Part → List ℕ
part_text (part.Text text) = text.now
part_text (part.Number n) = decimal n
part_text (part.Hex word) = h8 word

abbrev pub piece_text : Piece → List ℕ
piece_text (Text text) = text.now
piece_text (Number n) = decimal n
piece_text (Signed z) = signed_decimal z
piece_text (Hex word) = h8 word
piece_text (Status status) = status_text status
piece_text (State state) = state_text state
piece_text (Registers regs) = registers_text regs.now
piece_text (Readings view) = log_text reading_text (view_model view.now).readings
piece_text (Replies view) = log_text reply_text (view_model view.now).replies
piece_text (Bytes bytes) = bytes_text bytes.now

-- the text of an item, after another text
abbrev pub after : {A : Type 0} → List ℕ → (A → List ℕ) → A → List ℕ
after before text item = before ++ text item

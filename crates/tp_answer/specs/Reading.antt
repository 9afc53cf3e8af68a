-- The record of the image that bytes are, for the command that asks for it, and the rules that they break.
use Rattle.std.specs.Prelude.{ℕ, List, [], ◌∷◌, Result, Ok, Err}
use Rattle.image_record.specs.declared.refusal.Refusal.{Refusal}
use Rattle.image_record.specs.Record as text
use Rattle.image_text.specs.Record.{image_of}
use Rattle.image_check.specs.Checking.{broken, broken_but_pads}
use Rattle.tp_words.specs.declared.Command.{Command}
use Rattle.tp_words.specs.declared.Command.TheVariants.{Check, Bound, Run, Alone, Gen, Demo, Ablate, Harts, Redact}

-- of the record of a text: pads may be too short where their bound is asked for
unfoldable pub broken_for : Command → text.Raw → List Refusal
broken_for Check i = broken i
broken_for Bound i = broken_but_pads i
broken_for (Run n) i = broken i
broken_for (Alone d n) i = broken i
broken_for (Gen s) i = broken i
broken_for (Demo s) i = broken i
broken_for (Ablate off n) i = broken i
broken_for (Harts n s) i = broken i
broken_for (Redact d) i = broken i

-- of the text itself, too
unfoldable pub broken_in : Command → Result text.Raw Refusal → List Refusal
broken_in c (Err r) = r ∷ []
broken_in c (Ok i) = broken_for c i

abbrev pub unless_broken : text.Raw → List Refusal → Result text.Raw Refusal
unless_broken i [] = Ok i
unless_broken i (r ∷ rs) = Err r

unfoldable pub checked_for : Command → Result text.Raw Refusal → Result text.Raw Refusal
checked_for c (Err r) = Err r
checked_for c (Ok i) = unless_broken i (broken_for c i)

-- the record, or the first rule that it breaks
unfoldable pub record_for : Command → List ℕ → Result text.Raw Refusal
record_for c bytes = checked_for c (image_of bytes)

-- Texts as what is written in turn.
use Rattle.std.proofs.Common.{◌≡◌, ◌≢◌, ℕ, List, [], ◌++◌, length, codes, decimal, Some, ap, refl, ◌∙◌}
use Rattle.std.specs.Prelude.{if◌then◌else◌, ◌==◌}
use Rattle.std.specs.List.{flat_map}
use Rattle.std.proofs.lemmas.List.{append-nil}
use Rattle.std.proofs.lemmas.Bool.{ne_eqb}
use Rattle.hex.specs.Hex.{encode_lower}
use Rattle.kernel_call.specs.Logs.{Log}
use Rattle.tp_report.specs.Texts.{spaced, last_text, items_text, log_text, bytes_text}
use Rattle.tp_report.specs.Pieces.{after}
use Rattle.tp_report.specs.Batches.{Holding, CutIn}
use Rattle.tp_report.proofs.Batches.{cut_in_first}

pub last_text-Some : {A : Type 0} (item : A → List ℕ) (x : A)
    → last_text item (Some x) ≡ after (codes " last ") item x ++ codes " list"
unfolding last_text spaced
last_text-Some item x = refl

pub log_text-none : {A : Type 0} (item : A → List ℕ) (l : Log A) → l.count ≡ 0
    → log_text item l ≡ decimal l.count
unfolding log_text
log_text-none item l none = ap (λ n. decimal l.count ++ (if n == 0 then [] else items_text item l)) none ∙ append-nil (decimal l.count)

pub log_text-some : {A : Type 0} (item : A → List ℕ) (l : Log A) → l.count ≢ 0
    → log_text item l ≡ decimal l.count ++ (last_text item l.last ++ flat_map (spaced item) l.first)
unfolding log_text items_text
log_text-some item l some = rw (ne_eqb l.count 0 some)

pub bytes_text-some : (bytes : List ℕ) → length bytes ≢ 0 → bytes_text bytes ≡ codes " " ++ encode_lower bytes
unfolding bytes_text
bytes_text-some bytes some = rw (ne_eqb (length bytes) 0 some)

-- the sink was cut short in the count of a log
pub cut_in_count : {A : Type 0} (item : A → List ℕ) (l : Log A) (a b : Holding) → CutIn a b (decimal l.count)
    → CutIn a b (log_text item l)
unfolding log_text
cut_in_count item l a b cut = cut_in_first a b (decimal l.count) (if l.count == 0 then [] else items_text item l) cut

-- An image that was read and checked, or the first rule that it breaks.
use Rattle.std.proofs.Common.{◌≡◌, ℕ, List, [], ◌∷◌, Some, Result, Ok, Err, refl, sym, ap, ◌∙◌}
use Rattle.std.specs.Prelude.{slice_get, IfOk, IfErr}
use Rattle.std.proofs.lemmas.Option.{same_Some}
use Rattle.image_record.specs.declared.refusal.Refusal.{Refusal}
use Rattle.image_record.specs.Record as text
use Rattle.image_text.specs.Record.{image_of}
use Rattle.image_record.specs.declared.refusal.ReadRefusal.{ReadRefusal}
use Rattle.image_record.specs.declared.refusal.ReadRefusal.TheVariants.{Broken, Memory}
use Rattle.image_check.specs.Outcomes.{IsFirst}
use Rattle.tp_words.specs.declared.Command.{Command}
use Rattle.tp_words.specs.declared.Command.TheVariants.{Check}
use Rattle.image_check.specs.Image.{image_from}
use Rattle.image_check.specs.Checking.{broken}
use Rattle.tp_answer.specs.Accepting.{Accepting}
use Rattle.tp_answer.specs.Reading.{unless_broken, broken_for, checked_for, record_for}

-- the first of some broken rules is what refuses the image
first_refuses : (t : text.Raw) (due : List Refusal) (r : Refusal) → slice_get due 0 ≡ Some r
    → unless_broken t due ≡ Err r
first_refuses t [] r e = cc
first_refuses t (q ∷ qs) r e = ap (λ (x : Refusal). Err x) (same_Some q r e)

pub accepts_checked : (c : Command) (t : text.Raw) (found : Result text.Raw Refusal)
    (result : Result text.Raw ReadRefusal) → found ≡ Ok t
    → IfErr result (IsFirst (broken_for c t)) → IfOk result (λ u. broken_for c u ≡ [])
    → IfOk result (λ u. u ≡ t) → Accepting result (checked_for c found)
unfolding checked_for
accepts_checked c t found (Ok u) is refused accepted same =
    let whole : broken_for c t ≡ [] = ap (broken_for c) (sym same) ∙ accepted in
    rw (is, whole, same) refl
accepts_checked c t found (Err (Broken r)) is refused accepted same = rw is (first_refuses t (broken_for c t) r refused)
accepts_checked c t found (Err Memory) is refused accepted same = tt

-- a text that reads as a record that breaks no rule
pub checks_unbroken : (bytes : List ℕ) (t : text.Raw) → image_of bytes ≡ Ok t → broken t ≡ []
    → record_for Check bytes ≡ Ok t
unfolding record_for checked_for broken_for
checks_unbroken bytes t reads unbroken = rw (reads, unbroken)

abbrev pub value_or : text.Raw → Result text.Raw Refusal → text.Raw
value_or i (Ok j) = j
value_or i (Err r) = i

-- where a record is due, it is that one
pub accepting_made : (result : Result text.Raw ReadRefusal) (found : Result text.Raw Refusal) (i : text.Raw)
    → found ≡ Ok i → Accepting result found → IfOk result (λ t. image_from t ≡ image_from i)
accepting_made (Ok t) found i due accepting = ap image_from (ap (value_or i) (sym accepting ∙ due))
accepting_made (Err e) found i due accepting = tt

-- and it is never refused but for want of memory
pub accepting_unbroken : (result : Result text.Raw ReadRefusal) (found : Result text.Raw Refusal) (i : text.Raw)
    → found ≡ Ok i → Accepting result found → IfErr result (λ e. e ≡ Memory)
accepting_unbroken (Ok t) found i due accepting = tt
accepting_unbroken (Err Memory) found i due accepting = refl
accepting_unbroken (Err (Broken r)) found i due accepting = absurd (cc (due, accepting))

-- the record of a text, which breaks no rule of the command's
pub record Found (c : Command) (read : Result text.Raw Refusal) (i : text.Raw) : Type 0 where
  pub is : read ≡ Ok i
  pub unbroken : broken_for c i ≡ []

found_unbroken : (c : Command) (t i : text.Raw) (rs : List Refusal) → broken_for c t ≡ rs
    → unless_broken t rs ≡ Ok i → Found c (Ok t) i
found_unbroken c t i [] none e =
    let same = ap (value_or i) e in
    record { is = ap Ok same; unbroken = ap (broken_for c) (sym same) ∙ none }
found_unbroken c t i (r ∷ rs) none e = absurd (cc)

pub found_in : (c : Command) (read : Result text.Raw Refusal) (i : text.Raw) → checked_for c read ≡ Ok i
    → Found c read i
unfolding checked_for
found_in c (Err r) i e = absurd (cc)
found_in c (Ok t) i e = found_unbroken c t i (broken_for c t) refl e

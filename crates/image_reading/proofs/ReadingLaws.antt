-- An image that was read and breaks no rule may be run.
use Rattle.std.proofs.Common.{◌≡◌, ℕ, List, [], ◌∷◌, Result, Ok, Err, refl, ap, subst}
use Rattle.image_record.specs.declared.refusal.Refusal.{Refusal}
use Rattle.image_record.specs.Record as text
use Rattle.image_text.specs.Record.{image_of}
use Rattle.image_record.specs.Record.{InKeyRanges}
use Rattle.image_text.proofs.Ranges.{ranges_law}
use Rattle.image_check.specs.Checking.{broken}
use Rattle.image_check.proofs.Running.{runnable_law}
use Rattle.image_check.specs.Image.{Image}
use Rattle.image_reading.specs.Reading.{unless_broken, checked, image}
use Rattle.image_check.specs.Laws.{Runnable}

abbrev value_or : Image → Result Image Refusal → Image
value_or i (Ok j) = j
value_or i (Err r) = i

unbroken_runs : (t : text.Raw) (i : Image) (rs : List Refusal) → InKeyRanges t → broken t ≡ rs
    → unless_broken t rs ≡ Ok i → Runnable i
unbroken_runs t i [] ranges whole e = subst Runnable (ap (value_or i) e) (runnable_law t ranges whole)
unbroken_runs t i (r ∷ rs) ranges whole e = absurd (cc)

checked_runs : (found : Result text.Raw Refusal) (i : Image) → ((t : text.Raw) → found ≡ Ok t → InKeyRanges t)
    → checked found ≡ Ok i → Runnable i
unfolding checked
checked_runs (Err r) i ranges e = absurd (cc)
checked_runs (Ok t) i ranges e = unbroken_runs t i (broken t) (ranges t refl) refl e

pub read_runs : (bytes : List ℕ) (i : Image) → image bytes ≡ Ok i → Runnable i
unfolding image
read_runs bytes i e = checked_runs (image_of bytes) i (ranges_law bytes) e

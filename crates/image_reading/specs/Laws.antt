-- The law of what is read, as a type; it is a clause of a function of `laws`.
use Rattle.std.specs.Prelude.{◌≡◌, ℕ, List, Ok}
use Rattle.image_check.specs.Image.{Image}
use Rattle.image_check.specs.Laws.{Runnable}
use Rattle.image_reading.specs.Reading.{image}

-- every image that breaks no rule may be run
abbrev pub ReadingLaw : Type 0
ReadingLaw = (bytes : List ℕ) (i : Image) → image bytes ≡ Ok i → Runnable i

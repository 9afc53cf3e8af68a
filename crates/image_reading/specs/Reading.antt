-- The image that bytes are, where they are TOML, their keys are those of the key table, and no rule is broken.
use Rattle.std.specs.Prelude.{ℕ, List, [], ◌∷◌, Result, Ok, Err}
use Rattle.image_record.specs.declared.refusal.Refusal.{Refusal}
use Rattle.image_record.specs.Record as text
use Rattle.image_text.specs.Record.{image_of}
use Rattle.image_check.specs.Checking.{broken}
use Rattle.image_check.specs.Image.{Image, image_from}

-- an image has at most 1,048,576 bytes
abbrev pub most_bytes : ℕ
most_bytes = 1048576

abbrev pub unless_broken : text.Raw → List Refusal → Result Image Refusal
unless_broken i [] = Ok (image_from i)
unless_broken i (r ∷ rs) = Err r

unfoldable pub checked : Result text.Raw Refusal → Result Image Refusal
checked (Err r) = Err r
checked (Ok i) = unless_broken i (broken i)

-- the image, or its first broken rule
unfoldable pub image : List ℕ → Result Image Refusal
image bytes = checked (image_of bytes)

-- What runs: what all domains may know, and what each has of its own.
use Rattle.std.specs.Prelude.{ℕ, List}
use Rattle.image_record.specs.Record as text
use Rattle.image_check.specs.Public.{Public, public_of}
use Rattle.image_check.specs.Own.{Own, own_at, owns_of}

pub record Image : Type 0 where
  pub all : Public
  pub owns : List Own

-- what the record of an image's text says
abbrev pub image_from : text.Raw → Image
image_from i = record { all = public_of i; owns = owns_of i }

abbrev pub own_of : Image → ℕ → Own
own_of i d = own_at i.owns d

-- When parts in the code stand for an image that breaks no rule but that of pads.
use Rattle.std.specs.Prelude.{◌≡◌, List, []}
use Rattle.image_record.specs.Record.{Raw, InKeyRanges}
use Rattle.image_check.specs.Checking.{broken_but_pads}
use Rattle.image_check.specs.Public.{Public, public_of}
use Rattle.image_check.specs.Own.{Own, owns_of}

pub record IsUnpadded (i : Raw) (p : Public) (owns : List Own) : Type 0 where
  pub ranges : InKeyRanges i
  pub accepted : broken_but_pads i ≡ []
  pub public_is : p ≡ public_of i
  pub owns_are : owns ≡ owns_of i

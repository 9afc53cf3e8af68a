-- How bytes are taken for an image.
use Rattle.std.specs.Prelude.{◌≡◌, Result, Ok, Err}
use Rattle.image_record.specs.declared.refusal.Refusal.{Refusal}
use Rattle.image_record.specs.Record as text
use Rattle.image_record.specs.declared.refusal.ReadRefusal.{ReadRefusal}
use Rattle.image_record.specs.declared.refusal.ReadRefusal.TheVariants.{Broken, Memory}

-- the first broken rule, unless memory ran out
abbrev pub IsRefused : ReadRefusal → Result text.Raw Refusal → Type 0
IsRefused (Broken r) found = found ≡ Err r
IsRefused Memory found = Unit {0}

-- the record was found, or its first broken rule, unless memory ran out
abbrev pub Accepting : Result text.Raw ReadRefusal → Result text.Raw Refusal → Type 0
Accepting (Ok i) found = found ≡ Ok i
Accepting (Err refusal) found = IsRefused refusal found

-- How reading answers.
use Rattle.std.specs.Prelude.{◌≡◌, Result, Ok, Err}
use Rattle.image_record.specs.declared.refusal.Refusal.{Refusal}
use Rattle.image_record.specs.declared.refusal.ReadRefusal.{ReadRefusal}
use Rattle.image_record.specs.declared.refusal.ReadRefusal.TheVariants.{Broken, Memory}

-- what is read, or refused, is what is found in the bytes, unless memory ran out
abbrev pub Agrees : {X Y : Type 0} → (X → Y) → Result X ReadRefusal → Result Y Refusal → Type 0
Agrees model (Ok x) found = found ≡ Ok (model x)
Agrees model (Err Memory) found = Unit {0}
Agrees model (Err (Broken r)) found = found ≡ Err r

-- How the test of a rule ends, and how a value is made where memory may run out.
use Rattle.std.specs.Prelude.{◌≡◌, Option, Some, None, Result, Ok, Err}
use Rattle.image_record.specs.declared.refusal.Refusal.{Refusal}
use Rattle.image_record.specs.declared.refusal.ReadRefusal.{ReadRefusal}
use Rattle.image_record.specs.declared.refusal.ReadRefusal.TheVariants.{Broken, Memory}

-- passed where there is no broken case, else refused with that case
abbrev pub IsVerdict : {X : Type 0} → Result X Refusal → Option Refusal → Type 0
IsVerdict (Ok x) broken_case = broken_case ≡ None
IsVerdict (Err r) broken_case = broken_case ≡ Some r

-- the same, unless memory ran out
abbrev pub IsVerdictOrMemory : {X : Type 0} → Result X ReadRefusal → Option Refusal → Type 0
IsVerdictOrMemory (Ok x) broken_case = broken_case ≡ None
IsVerdictOrMemory (Err Memory) broken_case = Unit {0}
IsVerdictOrMemory (Err (Broken r)) broken_case = broken_case ≡ Some r

-- a value is made, unless memory ran out
abbrev pub Makes : {X Y : Type 0} → (X → Y) → Result X ReadRefusal → Y → Type 0
Makes model (Ok x) y = model x ≡ y
Makes model (Err Memory) y = Unit {0}
Makes model (Err (Broken r)) y = ⊥

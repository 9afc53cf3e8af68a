-- The calls of an object in memory, numbered from 1, of which listed ones fail.
use Rattle.std.specs.Prelude.{◌≡◌, ℕ, ◌+◌, List, [], Contains}
use Rattle.tp_io.specs.Causes.{one_more}

pub record Calls : Type 0 where
  pub made : ℕ  -- how many were made; the greatest u64 stands for that many or more
  pub failing : List ℕ  -- the numbers of those that fail
  pub faults : ℕ  -- how often one failed

-- the next call is listed
abbrev pub FailsNext : Calls → Type 0
FailsNext calls = Contains calls.failing (calls.made + 1)

abbrev pub no_calls : List ℕ → Calls
no_calls failing = record { made = 0; failing = failing; faults = 0 }

abbrev pub call_made : Calls → Calls
call_made calls = record calls { made = one_more calls.made }

abbrev pub call_failed : Calls → Calls
call_failed calls = record calls { made = one_more calls.made; faults = one_more calls.faults }

-- where no call is listed, none has failed
abbrev pub IsFaultless : Calls → Type 0
IsFaultless calls = calls.failing ≡ [] → calls.faults ≡ 0

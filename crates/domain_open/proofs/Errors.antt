-- Results that are errors.
use Rattle.std.proofs.Common.{Ok, Err, Result, IfOk, IsErrAnd}

-- an error has no value
pub no_value : {A E : Type 0} (P : A → Type 0) (r : Result A E) (Q : E → Type 0) → IsErrAnd r Q → IfOk r P
no_value P (Ok x) Q h = absurd h
no_value P (Err e) Q h = tt

-- Actions over a state: each notes what it did, in order, and may end early.
use Rattle.std.specs.Prelude.{Bool, true, false, List, [], ◌∷◌, ◌++◌, ◌⊎◌}
use Rattle.std.proofs.Common.{inl, inr}

-- what an action leaves behind: its notes, the state, and an early end (inl) or a value (inr)
pub record Done (S N E A : Type 0) : Type 0 where
  pub notes : List N
  pub state : S
  pub value : E ⊎ A

abbrev pub Act : Type 0 → Type 0 → Type 0 → Type 0 → Type 0
Act S N E A = S → Done S N E A

-- goes on with the value, or keeps the early end
unfoldable pub go_on : {S N E A B : Type 0} → Done S N E A → (A → Act S N E B) → E ⊎ A → Done S N E B
go_on r f (inl e) = record { notes = r.notes; state = r.state; value = inl e }
go_on r f (inr a) =
    let q = f a r.state in
    record { notes = r.notes ++ q.notes; state = q.state; value = q.value }

infixl 10 ◌>>=◌
unfoldable pub ◌>>=◌ : {S N E A B : Type 0} → Act S N E A → (A → Act S N E B) → Act S N E B
◌>>=◌ x f = λ s. let r = x s in go_on r f r.value

infixl 10 ◌>>◌
unfoldable pub ◌>>◌ : {S N E A B : Type 0} → Act S N E A → Act S N E B → Act S N E B
◌>>◌ x y = x >>= (λ _. y)

unfoldable pub give : {S N E A : Type 0} → A → Act S N E A
give a = λ s. record { notes = []; state = s; value = inr a }

-- ends early
unfoldable pub stop : {S N E A : Type 0} → E → Act S N E A
stop e = λ s. record { notes = []; state = s; value = inl e }

unfoldable pub note : {S N E : Type 0} → N → Act S N E (Unit {0})
note n = λ s. record { notes = n ∷ []; state = s; value = inr tt }

-- ends early unless the test passes
unfoldable pub check : {S N E : Type 0} → E → Bool → Act S N E (Unit {0})
check e true = give tt
check e false = stop e

-- either way out of an action whose early end and value are of one type
unfoldable pub either : {A : Type 0} → A ⊎ A → A
either (inl a) = a
either (inr a) = a

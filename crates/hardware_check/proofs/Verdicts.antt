-- The first broken case of several, and of tests one after another.
use Rattle.std.proofs.Common.{◌≡◌, Bool, true, false, Option, Some, None, ap, ◌∙◌}
use Rattle.std.specs.Prelude.{if◌then◌else◌}
use Rattle.image_record.specs.Cases.{or_else}

-- no case here: that of the rest
pub past : {A : Type 0} (o p q : Option A) → o ≡ None → p ≡ q → or_else o p ≡ q
past o p q none rest = ap (λ x. or_else x p) none ∙ rest

-- the case is here
pub here : {A : Type 0} (o p : Option A) (r : A) → o ≡ Some r → or_else o p ≡ Some r
here o p r some = ap (λ x. or_else x p) some

-- a test that is met, or not
pub met : {A : Type 0} (b : Bool) (x y z : A) → b ≡ true → x ≡ z → (if b then x else y) ≡ z
met b x y z is same = ap (λ (t : Bool). if t then x else y) is ∙ same

pub unmet : {A : Type 0} (b : Bool) (x y z : A) → b ≡ false → y ≡ z → (if b then x else y) ≡ z
unmet b x y z is same = ap (λ (t : Bool). if t then x else y) is ∙ same

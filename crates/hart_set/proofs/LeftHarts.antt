-- The harts that a word names one of, one hart after the other.
use Rattle.std.proofs.Common.{◌≡◌, ◌∙◌, ℕ, suc, ◌+◌, Bool, true, false, [], ◌∷◌, ◌++◌, ap, arith}
use Rattle.std.specs.Prelude.{if◌then◌else◌}
use Rattle.event_orders.specs.Orders.{passing}

module _ (test : ℕ → Bool) (h : ℕ) where
  passing_if : (b : Bool) → test h ≡ b → passing test (h + 1) ≡ (if b then passing test h ++ h ∷ [] else passing test h)
  unfolding passing
  passing_if b is =
      let one : h + 1 ≡ suc h = omega arith in
      ap (λ (k : ℕ). passing test k) one ∙ ap (λ (x : Bool). if x then passing test h ++ h ∷ [] else passing test h) is

  pub one_more : test h ≡ true → passing test (h + 1) ≡ passing test h ++ h ∷ []
  one_more is = passing_if true is

  pub no_more : test h ≡ false → passing test (h + 1) ≡ passing test h
  no_more is = passing_if false is

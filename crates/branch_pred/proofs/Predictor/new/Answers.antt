use Rattle.std.proofs.Common.{arith, lit≤, ◌^◌, ◌≤◌, ◌≡◌, ◌<◌, ◌⊎◌, ℕ, List, length, replicate, sym, subst}
use Rattle.std.specs.Prelude.{All}
use Rattle.std.specs.Int.{IsPowerOfTwo}
use Rattle.std.proofs.lemmas.Nat.{pow_pos}
use Rattle.std.proofs.Math.Nat.{pow-le-pow_right}
use Rattle.std.proofs.lemmas.List.{length-replicate}
use Rattle.std.proofs.lemmas.List.Elements.{All-replicate}
use Rattle.branch_pred.proofs.Predictor.new.Goals as goal

-- as many as were asked for
counted : {X : Type 0} (P : ℕ → Type 0) (xs : List X) (n : ℕ) (x : X) → xs ≡ replicate n x → P n
    → P (length xs)
counted P xs n x same is = subst (λ (ys : List _). P (length ys)) (sym same) (subst P (sym (length-replicate n x)) is)

pub invariant_of-result : goal.invariant_of-result
invariant_of-result c = record {
  sound = record {
    power = counted IsPowerOfTwo _ _ 1 c.in_ok-new_counters.ensures.items c.requires.sizes.counters;
    small =
        subst (All (λ (counter : ℕ). counter < 4)) (sym c.in_ok-new_counters.ensures.items)
        (All-replicate (λ (counter : ℕ). counter < 4) _ 1 (omega arith));
    few = c.requires.sizes.history;
    history = pow_pos c.args.sizes.history;
    targets = counted (λ (n : ℕ). (n ≡ 0) ⊎ IsPowerOfTwo n) _ _ _ c.in_ok-no_targets.ensures.items c.requires.sizes.targets;
  };
  next =
      let some = pow_pos c.args.sizes.history in
      let few : 2 ^ c.args.sizes.history ≤ 2 ^ 8 = pow-le-pow_right (lit≤ tt) c.requires.sizes.history in
      omega (arith, some, few);
}

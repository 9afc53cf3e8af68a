use Rattle.std.proofs.Common.{◌≡◌, ◌∙◌, ◌⊎◌, ℕ, suc, ◌+◌, ◌<◌, ◌≤◌, Option, Some, None, IfSome, inl, inr, sym, ap, refl, subst, arith}
use Rattle.sched_table.specs.Schedule.{harts_in}
use Rattle.event_orders.specs.Orders as orders
use Rattle.event_orders.specs.Orders.{earlier}
use Rattle.hart_machine.specs.HartMachine.{machine_of}
use Rattle.hart_set.specs.Standing.{AtHart}
use Rattle.hart_set.specs.Models.{image_of, harts_after}
use Rattle.hart_set.proofs.First.{has_left, has_none}
use Rattle.hart_set.proofs.Standing.{its_slots}
use Rattle.hart_set.proofs.choice.first.Goals.{then-slots, else-slots}
use Rattle.hart_set.proofs.choice.first.Goals as goal

-- what holds of the one before and of this one holds of either
either : (P : ℕ → Type 0) (first now : Option ℕ) (h : ℕ) → (now ≡ Some h) ⊎ (now ≡ first) → IfSome first P → P h
    → IfSome now P
either P first now h (inl this) was is = subst (λ (o : Option ℕ). IfSome o P) (sym this) is
either P first now h (inr that) was is = subst (λ (o : Option ℕ). IfSome o P) (sym that) was

wider : (o : Option ℕ) (h : ℕ) → IfSome o (λ g. g < h) → IfSome o (λ g. g < h + 1)
wider None h below = tt
wider (Some g) h below = omega (arith, below)

within : (o : Option ℕ) (h n : ℕ) → h ≤ n → IfSome o (λ g. g < h) → IfSome o (λ g. g < n)
within None h n le below = tt
within (Some g) h n le below = omega (arith, le, below)

pub loop-h-init : goal.loop-h-init
unfolding orders.first
loop-h-init c = record { first = λ order stands. refl; below = tt; left = tt }

pub earlier-first-requires : goal.earlier-first-requires
earlier-first-requires c =
    let there : c.loop-h.h < harts_in (image_of c.args.harts.now).all.schedule = omega (arith, c.loop-h-test.true, c.harts-h-end.ensures.value) in
    record {
      first = within c.loop-h.first c.loop-h.h (harts_in (image_of c.args.harts.now).all.schedule) (omega (arith, there)) c.loop-h.invariant.below;
      hart = there;
    }

pub loop-h-preserved : goal.loop-h-preserved
loop-h-preserved c =
    let inv = c.loop-h.invariant in
    let v = c.args.harts.now in
    let n = c.args.slots in
    let h = c.loop-h.h in
    let there : h < harts_in (image_of v).all.schedule = omega (arith, c.loop-h-test.true, c.harts-h-end.ensures.value) in
    let next : h + 1 ≡ suc h = omega arith in
    elim c.if-slots.branch [
      | then-slots w ↦ record {
        first = λ order stands.
            let m = machine_of (image_of v) in
            let s = harts_after v order in
            let here = its_slots v order stands h there c.slots.result c.slots.ensures.value in
            w.first-is ∙ w.earlier-first.ensures.value order stands
            ∙ ap (λ (o : Option ℕ). earlier m s o h) (inv.first order stands)
            ∙ sym (has_left m s n h (omega (arith, here, w.if-slots)))
            ∙ ap (λ (k : ℕ). orders.first m n s k) (sym next);
        below =
            subst (λ (o : Option ℕ). IfSome o (λ g. g < h + 1)) (sym w.first-is)
            (either (λ g. g < h + 1) c.loop-h.first w.earlier-first.result h w.earlier-first.ensures.either
            (wider c.loop-h.first h inv.below) (omega arith));
        left =
            subst (λ (o : Option ℕ). IfSome o (λ g. AtHart v.1 g (λ x. x.slots < 65536))) (sym w.first-is)
            (either (λ g. AtHart v.1 g (λ x. x.slots < 65536)) c.loop-h.first w.earlier-first.result h w.earlier-first.ensures.either
            inv.left (λ x got. omega (arith, c.slots.ensures.value x got, w.if-slots, c.requires.few)));
      }
      | else-slots w ↦ record {
        first = λ order stands.
            let m = machine_of (image_of v) in
            let s = harts_after v order in
            let here = its_slots v order stands h there c.slots.result c.slots.ensures.value in
            w.first-is ∙ inv.first order stands
            ∙ sym (has_none m s n h (omega (arith, here, w.if-slots)))
            ∙ ap (λ (k : ℕ). orders.first m n s k) (sym next);
        below = subst (λ (o : Option ℕ). IfSome o (λ g. g < h + 1)) (sym w.first-is) (wider c.loop-h.first h inv.below);
        left = subst (λ (o : Option ℕ). IfSome o (λ g. AtHart v.1 g (λ x. x.slots < 65536))) (sym w.first-is) inv.left;
      }
    ]

pub returns : goal.returns
returns c =
    let v = c.args.harts.now in
    let inv = c.loop-h.invariant in
    let over : c.loop-h.h ≡ harts_in (image_of v).all.schedule = omega arith in
    record {
      first = λ order stands.
          inv.first order stands
          ∙ ap (λ (k : ℕ). orders.first (machine_of (image_of v)) c.args.slots (harts_after v order) k) over;
      hart = within c.loop-h.first c.loop-h.h (harts_in (image_of v).all.schedule) (omega (arith, over)) inv.below;
      slots = inv.left;
    }

-- Guards, all on or one off; and slots in which moments of all domains come.
use Rattle.std.proofs.Common.{◌≡◌, ℕ, zero, suc, ◌-◌, ◌<◌, ◌≤◌, ltb, Bool, true, false, Option, Some, None, refl, sym, ◌∙◌, arith, ltb-true, lt-ltb, le-ltb}
use Rattle.tp_base.specs.Table.{at, put}
use Rattle.guards.specs.declared.Guard.{Guard}
use Rattle.guards.specs.declared.Guard.TheVariants as guard
use Rattle.kernel_clone.specs.Footprints.{IsLayout}
use Rattle.mem_system.specs.Operations.{shared_region}
use Rattle.call_table.specs.Domain.{is_running}
use Rattle.image_check.specs.Image.{Image, own_of}
use Rattle.std.specs.Prelude.{if◌then◌else◌}
use Rattle.world_view.specs.Cost.{hierarchy, region}
use Rattle.world_view.specs.Machine.{Guards, guarded, guards_of, setting_by, World, clock_of, caches_of, dom_of, part_of, with_part, with_hart, delivered, Owned, first_due, delivered_or_step, step_among, steps_among, open_slot}
use Rattle.world_view.specs.Relations.{IsDomain}
use Rattle.world_view.proofs.opening.Separate.{Separated}
use Rattle.world_view.proofs.opening.OpeningFacts.{kernel_of}
use Rattle.world_view.proofs.steps.Fuel.{step_later, delivery_takes}
use Rattle.world_view.proofs.runs.SwitchParts.{region_is}

-- costs and lines are the machine's, each clone is one, and all share the same lines
pub record AreGuards (i : Image) (g : Guards) : Type 0 where
  pub costs : i.all.hardware.costs ≡ g.levels.costs
  pub products : i.all.hardware.muldiv ≡ g.levels.products
  pub line : i.all.hardware.line ≡ g.levels.line_size
  pub layout : (d : ℕ) → IsDomain i d → IsLayout (g.clone d)
  pub region : (d : ℕ) → shared_region (g.clone d) ≡ region i.all.hardware

module _ (i : Image) (r : Separated i) where
  own_layouts : (d : ℕ) → IsDomain i d → IsLayout ((guarded i).clone d)
  unfolding guarded
  own_layouts d is = (kernel_of i r d is).has_layout

  own_regions : (d : ℕ) → shared_region ((guarded i).clone d) ≡ region i.all.hardware
  unfolding guarded
  own_regions d = region_is i.all.hardware (own_of i d)

  first_is : IsDomain i 0
  first_is = let is = r.named 0 in omega (arith, is)

  pub are_guards : (off : Option Guard) → AreGuards i (guards_of off i)
  unfolding guarded hierarchy
  are_guards None = record { costs = refl; products = refl; line = refl; layout = own_layouts; region = own_regions }
  are_guards (Some guard.Flush) = record { costs = refl; products = refl; line = refl; layout = own_layouts; region = own_regions }
  are_guards (Some guard.Prefetch) = record { costs = refl; products = refl; line = refl; layout = own_layouts; region = own_regions }
  are_guards (Some guard.Pad) = record { costs = refl; products = refl; line = refl; layout = own_layouts; region = own_regions }
  are_guards (Some guard.Colour) = record { costs = refl; products = refl; line = refl; layout = own_layouts; region = own_regions }
  are_guards (Some guard.Clone) = record {
    costs = refl;
    products = refl;
    line = refl;
    layout = λ d is. own_layouts 0 first_is;
    region = λ d. own_regions 0;
  }
  are_guards (Some guard.Irq) = record { costs = refl; products = refl; line = refl; layout = own_layouts; region = own_regions }

-- ---- steps of a slot in which moments of all domains come

stops : {A : Type 0} (b : Bool) (x y : A) → b ≡ false → elim b [ true ↦ x | false ↦ y ] ≡ y
stops true x y e = cc
stops false x y e = refl

goes : {A : Type 0} (b : Bool) (x y : A) → b ≡ true → elim b [ true ↦ x | false ↦ y ] ≡ x
goes true x y e = refl
goes false x y e = cc

both : {A : Type 0} (b : Bool) (x z y : A) → (b ≡ true → x ≡ z)
    → ◌≡◌ {A = A} (elim b [ true ↦ x | false ↦ y ]) (elim b [ true ↦ z | false ↦ y ])
both true x z y f = f refl
both false x z y f = refl

module _ (i : Image) (r : Separated i) (g : Guards) (d end : ℕ) where
  later_if : (w : World) (o : Option Owned) → clock_of 0 w < end
      → clock_of 0 w < clock_of 0 (delivered_or_step g i 0 d end w o)
  unfolding with_part with_hart at put delivered
  later_if w None h = step_later (setting_by g i d) r.timed end (part_of 0 d w) h
  later_if w (Some x) h =
      let takes = delivery_takes (setting_by g i d) (caches_of 0 w) in
      let trap = r.timed.trap in
      omega (arith, takes, trap)

  -- each step moves the clock on
  pub among_later : (w : World) → clock_of 0 w < end → clock_of 0 w < clock_of 0 (step_among g i 0 d end w)
  unfolding step_among
  among_later w h = later_if w (if is_running (dom_of w d).status then first_due i 0 w i.all.domains else None) h

  enough : (n m : ℕ) (w : World) → end - clock_of 0 w ≤ n → end - clock_of 0 w ≤ m
      → steps_among g i 0 d end n w ≡ steps_among g i 0 d end m w
  unfolding steps_among
  enough zero zero w h k = refl
  enough zero (suc m) w h k = sym (stops (ltb (clock_of 0 w) end) _ w (le-ltb (clock_of 0 w) end (omega arith)))
  enough (suc n) zero w h k = stops (ltb (clock_of 0 w) end) _ w (le-ltb (clock_of 0 w) end (omega arith))
  enough (suc n) (suc m) w h k =
      both (ltb (clock_of 0 w) end) _ _ w
      (λ e.
      let later = among_later w (ltb-true (clock_of 0 w) end e) in
      enough n m (step_among g i 0 d end w) (omega arith) (omega arith))

  one_more : (n : ℕ) (w : World) → clock_of 0 w < end
      → steps_among g i 0 d end (suc n) w ≡ steps_among g i 0 d end n (step_among g i 0 d end w)
  unfolding steps_among
  one_more n w h = goes (ltb (clock_of 0 w) end) _ w (lt-ltb (clock_of 0 w) end h)

  -- a slot is one step and then the rest of it
  pub open_step : (w : World) → clock_of 0 w < end
      → open_slot g i d end w ≡ open_slot g i d end (step_among g i 0 d end w)
  open_step w h =
      let later = among_later w h in
      enough (end - clock_of 0 w) (suc (end - clock_of 0 w)) w (omega arith) (omega arith)
      ∙ one_more (end - clock_of 0 w) w h
      ∙ enough (end - clock_of 0 w) (end - clock_of 0 (step_among g i 0 d end w)) (step_among g i 0 d end w) (omega arith) (omega arith)

  pub open_done : (w : World) → end ≤ clock_of 0 w → open_slot g i d end w ≡ w
  unfolding steps_among
  open_done w h = enough (end - clock_of 0 w) 0 w (omega arith) (omega arith)

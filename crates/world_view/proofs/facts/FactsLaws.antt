-- The facts of every domain hold before and after each slot, whoever runs, and their leaves are within rights: with all guards
-- on, and with any of them off; and after each event.
use Rattle.std.proofs.Common.{◌≡◌, ℕ, zero, suc, ◌-◌, ◌<◌, ltb, Bool, true, false, Option, Some, None, sym, refl, subst, subst₂, inl, inr, arith}
use Rattle.std.specs.Prelude.{IfSome, length, if◌then◌else◌}
use Rattle.tp_base.specs.Table.{at, put, at-put_other, at-put_same}
use Rattle.std.proofs.lemmas.Bool.{cases_eq}
use Rattle.phys_mem.specs.Mem.{frame_at}
use Rattle.irq_partition.specs.declared.Moment.{Moment}
use Rattle.irq_partition.specs.Interrupts.{next_of}
use Rattle.call_table.specs.Domain.{Dom, is_running}
use Rattle.image_check.specs.Image.{Image, own_of}
use Rattle.sched_table.specs.Schedule.{entry_of_slot}
use Rattle.world_view.specs.Frames.{own_frame}
use Rattle.world_view.specs.Kernel.{opening_dom, no_dom}
use Rattle.world_view.specs.Event.{Storage, interrupts_of}
use Rattle.world_view.specs.Machine.{with_hart, clock_of, Guards, setting_by, delivered, Local, World, step, steps, dom_of, part_of, with_part, Owned, if_due, first_of, first_due, delivered_or_step, step_among, steps_among, slot_if, opening, own_slot, ends_by, run_slot_by, switch_by, switch_on, whole_by, with_end}
use Rattle.world_view.specs.Relations.{IsDomain}
use Rattle.world_view.proofs.opening.Separate.{Separated}
use Rattle.world_view.proofs.facts.RightsLaws.{HasBoth, both_with, same_caps, step_keeps_both}
use Rattle.world_view.proofs.opening.OpeningFacts.{kernel_of, parties_of}
use Rattle.world_view.proofs.opening.OpeningRights.{opening_both}
use Rattle.world_view.proofs.opening.OpeningLaws.{opening_dom_is}
use Rattle.world_view.proofs.steps.Fuel.{steps_by}
use Rattle.world_view.proofs.steps.StepLaws.{delivered_caps, keeps_itself}
use Rattle.world_view.proofs.runs.PartyLaws.{others_frames}
use Rattle.world_view.proofs.steps.Clones.{step_same, step_keeps_so, steps_keep_so}

-- ---- whose moment comes first

abbrev pub OwnerBelow : ℕ → Option Owned → Type 0
OwnerBelow n o = IfSome o (λ x. x.owner < n)

due_if : (b : Bool) (n : ℕ) (x : Owned) → x.owner < n → OwnerBelow n (if b then Some x else None)
due_if true n x h = h
due_if false n x h = tt

due_below : (now d : ℕ) (next : Option Moment) → OwnerBelow (suc d) (if_due now d next)
due_below now d None = tt
due_below now d (Some x) = due_if _ (suc d) _ (omega arith)

first_if : (b : Bool) (n : ℕ) (x y : Owned) → x.owner < n → y.owner < n
    → OwnerBelow n (if b then Some y else Some x)
first_if true n x y h k = k
first_if false n x y h k = h

first_below : (n : ℕ) (x y : Option Owned) → OwnerBelow n x → OwnerBelow n y → OwnerBelow n (first_of x y)
first_below n None y h k = k
first_below n (Some x) None h k = h
first_below n (Some x) (Some y) h k = first_if _ n x y h k

more : (n : ℕ) (o : Option Owned) → OwnerBelow n o → OwnerBelow (suc n) o
more n None h = tt
more n (Some x) h = omega (arith, h)

-- the first moment that is due is of one of these domains
pub due_owner : (i : Image) (w : World) (n : ℕ) → OwnerBelow n (first_due i 0 w n)
unfolding first_due
due_owner i w zero = tt
due_owner i w (suc d) =
    first_below (suc d) (first_due i 0 w d) _ (more d (first_due i 0 w d) (due_owner i w d))
    (due_below (clock_of 0 w) d (next_of (interrupts_of (own_of i d) (dom_of w d))))

or_none : (b : Bool) (n : ℕ) (o : Option Owned) → OwnerBelow n o → OwnerBelow n (if b then o else None)
or_none true n o h = h
or_none false n o h = tt

module _ (i : Image) (r : Separated i) where
  abbrev BothOf : World → ℕ → Type 0
  BothOf w d = HasBoth i.all.hardware (own_of i d) (dom_of w d) w.storage

  -- of every domain
  abbrev pub AllBoth : World → Type 0
  AllBoth w = (d : ℕ) → IsDomain i d → BothOf w d

  -- what changes one domain, and memory in its frames alone, keeps it of all
  changed : (h e : ℕ) → IsDomain i e → (w : World) (s : Local)
      → HasBoth i.all.hardware (own_of i e) s.dom s.storage
      → ((f : ℕ) → own_frame i.all.hardware (own_of i e) f ≡ false → frame_at s.storage.mem f ≡ frame_at w.storage.mem f)
      → AllBoth w → AllBoth (with_part h e w s)
  unfolding with_part with_hart at put
  changed h e ie w s both outside before d is =
      let p = i.all.hardware in
      elim (cases_eq d e) [
        | inl same ↦
            subst (λ (x : ℕ). HasBoth p (own_of i x) (dom_of (with_part h e w s) x) s.storage) (sym same)
            (both_with p (own_of i e) s.dom _ s.storage s.storage (at-put_same no_dom w.doms e s.dom) (λ f own. refl) both)
        | inr apart ↦
            both_with p (own_of i d) (dom_of w d) _ w.storage s.storage (at-put_other no_dom w.doms e d s.dom apart)
            (others_frames p (own_of i d) (own_of i e) (parties_of i r d e is ie apart) s.storage.mem w.storage.mem outside) (before d is)
      ]

  module _ (g : Guards) where
    -- one step of a domain
    step_both : (e end : ℕ) (s : Local) → IsDomain i e → HasBoth i.all.hardware (own_of i e) s.dom s.storage
        → HasBoth i.all.hardware (own_of i e) (step (setting_by g i e) end s).dom (step (setting_by g i e) end s).storage
    step_both e end s ie h =
        let p = i.all.hardware in
        let o = own_of i e in
        let n = step_same p o g.levels (g.clone e) false end s in
        subst₂ (λ (d : Dom) (t : Storage). HasBoth p o d t) (sym n.0) (sym n.1)
        (step_keeps_both p o (kernel_of i r e ie) false end s h)

    -- steps of one domain
    pub own_keeps : (e end n : ℕ) (w : World) → IsDomain i e → AllBoth w
        → AllBoth (with_part 0 e w (steps (setting_by g i e) end n (part_of 0 e w)))
    own_keeps e end n w ie before =
        let p = i.all.hardware in
        let o = own_of i e in
        let s = part_of 0 e w in
        let h = before e ie in
        let kept = steps_keep_so p o g.levels (g.clone e) false (kernel_of i r e ie) end n s.storage s
        (keeps_itself p o s h.facts) in
        changed 0 e ie w (steps (setting_by g i e) end n s)
        (steps_by (setting_by g i e) end (λ (t : Local). HasBoth p o t.dom t.storage) (λ t below k. step_both e end t ie k) n s h)
        kept.outside before

    pub step_keeps_all : (h e end : ℕ) (w : World) → IsDomain i e → AllBoth w
        → AllBoth (with_part h e w (step (setting_by g i e) end (part_of h e w)))
    step_keeps_all h e end w ie before =
        let p = i.all.hardware in
        let o = own_of i e in
        let s = part_of h e w in
        let its = before e ie in
        let kept = step_keeps_so p o g.levels (g.clone e) false (kernel_of i r e ie) end s.storage s
        (keeps_itself p o s its.facts) in
        changed h e ie w (step (setting_by g i e) end s) (step_both e end s ie its) kept.outside before

    -- a delivery leaves capabilities and memory
    delivery_keeps : (e d line : ℕ) (w : World) → IsDomain i e → AllBoth w
        → AllBoth (with_part 0 e w (delivered (setting_by g i d) line (part_of 0 e w)))
    unfolding delivered
    delivery_keeps e d line w ie before =
        let p = i.all.hardware in
        let o = own_of i e in
        let s = part_of 0 e w in
        changed 0 e ie w (delivered (setting_by g i d) line s)
        (same_caps p o (kernel_of i r e ie) s.dom _ s.storage (delivered_caps line s.dom) (before e ie)) (λ f out. refl) before

    pub among_keeps_if : (d end : ℕ) (w : World) (o : Option Owned) → IsDomain i d
        → OwnerBelow (length i.owns) o → AllBoth w
        → AllBoth (delivered_or_step g i 0 d end w o)
    among_keeps_if d end w None is below before = step_keeps_all 0 d end w is before
    among_keeps_if d end w (Some x) is below before = delivery_keeps x.owner d x.moment.line w below before

    pub among_keeps : (d end : ℕ) (w : World) → IsDomain i d → AllBoth w → AllBoth (step_among g i 0 d end w)
    unfolding step_among
    among_keeps d end w is before =
        let o = if is_running (dom_of w d).status then first_due i 0 w i.all.domains else None in
        among_keeps_if d end w o is
        (subst (λ (n : ℕ). OwnerBelow n o) r.counted
        (or_none (is_running (dom_of w d).status) i.all.domains (first_due i 0 w i.all.domains) (due_owner i w i.all.domains)))
        before

    open_if : (b : Bool) (x y : World) → AllBoth x → AllBoth y → AllBoth (elim b [ true ↦ x | false ↦ y ])
    open_if true x y h k = h
    open_if false x y h k = k

    open_keeps : (d end n : ℕ) (w : World) → IsDomain i d → AllBoth w → AllBoth (steps_among g i 0 d end n w)
    unfolding steps_among
    open_keeps d end zero w is before = before
    open_keeps d end (suc n) w is before =
        open_if (ltb (clock_of 0 w) end) _ w (open_keeps d end n (step_among g i 0 d end w) is (among_keeps d end w is before)) before

    slot_keeps : (b : Bool) (d end : ℕ) (w : World) → IsDomain i d → AllBoth w
        → AllBoth (slot_if b g i d end w)
    unfolding own_slot
    slot_keeps true d end w is before = own_keeps d end (end - clock_of 0 w) w is before
    slot_keeps false d end w is before = open_keeps d end (end - clock_of 0 w) w is before

    -- a switch leaves domains and memory as they are
    pub switch_keeps : (k : ℕ) (w : World) → AllBoth w → AllBoth (switch_by g i k w)
    unfolding switch_by switch_on with_hart
    switch_keeps k w before d is = let was = before d is in record { facts = was.facts; rights = was.rights }

    -- before and after each slot
    pub at_slot : (k : ℕ) → AllBoth (whole_by g i k)
    unfolding whole_by run_slot_by with_end
    at_slot zero = λ d is.
        both_with i.all.hardware (own_of i d) (opening_dom i.all.hardware (own_of i d)) _
        (opening i).storage (opening i).storage (opening_dom_is i r d is) (λ f own. refl) (opening_both i r d is)
    at_slot (suc k) =
        let w = whole_by g i k in
        let begun = switch_by g i k w in
        let d = (entry_of_slot i.all.schedule k).domain in
        slot_keeps g.irq d (ends_by g i k (clock_of 0 begun)) begun (r.named k) (switch_keeps k w (at_slot k))

-- All events of a slot in which moments of all domains come, of the code beside the definition's: there is one hart.
use Rattle.std.proofs.Common.{◌≡◌, ◌∙◌, ℕ, suc, ◌+◌, ◌*◌, ◌^◌, ◌<◌, ◌≤◌, false, true≢false, inl, inr, List, length, replicate, Option, Some, None, refl, sym, ap, subst, subst₂, arith}
use Rattle.std.specs.Prelude.{slice_get, IfSome}
use Rattle.std.proofs.Math.ListN.{set}
use Rattle.cycle_cost.specs.Ranges.{most_event}
use Rattle.phys_mem.specs.Contents.{Contents}
use Rattle.repl_policy.specs.declared.AnyPolicy.{AnyPolicy}
use Rattle.mem_system.specs.Contents.{CoreContents, system}
use Rattle.l2_colour.specs.Contents.{L2Contents}
use Rattle.mail_slots.specs.Boxes.{Boxes}
use Rattle.guards.specs.declared.Guard.{Guard}
use Rattle.sched_table.specs.Schedule.{harts_in}
use Rattle.image_check.specs.Image.{Image, own_of}
use Rattle.image_check.specs.Laws.{Runnable}
use Rattle.kernel_call.specs.declared.domain.Domain.{Domain}
use Rattle.kernel_call.specs.Models.{CountsUpTo}
use Rattle.world_view.proofs.harts.OneHart.{one_hart}
use Rattle.world_view.specs.Machine.{World, guarded, guards_of, caches_of, clock_of, open_slot}
use Rattle.world_view.specs.Harts.{Harts, IsOnOneHart, domain_in, slots_of, harts_by, after_by}
use Rattle.world_view.specs.Frames.{root_of}
use Rattle.mem_system.specs.Translation.{KeepsLeaves}
use Rattle.domain_step.specs.Standing.{MachineStands}
use Rattle.domain_step.specs.Usage.{IsUsed}
use Rattle.domain_step.specs.InSlot.{StandsIn}
use Rattle.domain_step.specs.OpenSlot.{CountUpTo, Becomes}
use Rattle.hart_orders.specs.declared.hart.Slot.{Slot}
use Rattle.hart_orders.specs.declared.hart.Hart.{Hart as CodeHart}
use Rattle.hart_orders.specs.Off.{IsServed}
use Rattle.hart_orders.proofs.Held.{Held}
use Rattle.hart_orders.proofs.Through.{WholeOpen, whole_open}
use Rattle.hart_set.specs.declared.set.State.{State}
use Rattle.hart_set.specs.Standing.{StandsFor}
use Rattle.hart_set.specs.Slots.{SlotEnds}
use Rattle.hart_set.specs.Reached.{IsReached}
use Rattle.hart_set.proofs.Bounds.{in_bounds_next}
use Rattle.hart_set.proofs.GoingOn.{end_early}
use Rattle.hart_set.proofs.Called.{Called, slot_ended, reached_ended, s, holds, held_at}
use Rattle.hart_set.proofs.Running.{its, at, far, slot_domain, leaves_d, over_ended, stands_next}

-- what the code leaves
pub record AmongEnd : Type 0 where
  pub memory : Contents
  pub mail : Boxes
  pub core : CoreContents AnyPolicy
  pub l2 : L2Contents AnyPolicy
  pub domains : List Domain
  pub clock : ℕ

-- what it keeps of it: the slot is over
pub record Ended (t : State) (h : ℕ) (x : CodeHart) (z : AmongEnd) (t' : State) (x' : CodeHart) : Type 0 where
  pub off : t.off ≡ t'.off
  pub memory : t'.memory ≡ z.memory
  pub mail : t'.mail ≡ z.mail
  pub l2 : t'.l2 ≡ z.l2
  pub core : x'.core ≡ z.core
  pub clock : x'.clock ≡ z.clock
  pub slots : x'.slots ≡ suc x.slots
  pub now_in : x'.slot ≡ None
  pub ended : x'.ended ≡ x.ended
  pub harts : t'.harts.items ≡ set t.harts.items h x'
  pub domains : t'.domains.items ≡ z.domains
  pub used : t'.used.items ≡ t.used.items

module _ (i : Image) (r : Runnable i) (s : Harts) (t : State) (was : Held t.off i r s) (is : StandsFor i s t)
    (below : 0 < harts_in i.all.schedule) (x : CodeHart) (got : slice_get t.harts.items 0 ≡ Some x)
    (slot : Slot) (inside : x.slot ≡ Some slot) where
  pub stands_among : StandsIn t.off i slot.domain s.world t.memory t.mail (system x.core t.l2) t.domains.items x.clock
  stands_among =
      let whose = (at i r s t was is 0 below x got slot inside).whose in
      record {
        runnable = r;
        domain = slot_domain i r s t was is 0 below x got slot inside;
        machine = (its i r s t was is 0 below x got).machine;
        all_domains = is.all_domains;
        each_domain = is.each_domain;
        each_facts = λ e ie. (was.facts e ie).facts;
        each_rights = λ e ie. (was.facts e ie).rights;
        leaves =
            subst (λ (e : ℕ). KeepsLeaves s.world.storage.mem t.memory.frames (root_of i.all.hardware (own_of i e)) x.core.tlb) (sym whose)
            (leaves_d i r s t was is 0 below x got slot inside);
      }

  module _ (z : AmongEnd)
      (over : StandsIn t.off i slot.domain (open_slot (guards_of t.off i) i slot.domain slot.end s.world) z.memory z.mail
      (system z.core z.l2) z.domains z.clock)
      (served : IsServed t.off i) (all : (guards_of t.off i).irq ≡ false)
      (ran : WholeOpen t.off i r served below all (slots_of 0 s) s)
      (t' : State) (x' : CodeHart) (kept : Ended t 0 x z t' x') where
    abbrev k : ℕ
    k = slots_of 0 s

    abbrev later : Harts
    later = after_by t.off i (replicate ran.events 0) s

    over_now : StandsIn t.off i (domain_in i 0 k) later.world z.memory z.mail (system z.core z.l2) z.domains z.clock
    over_now =
        let is_in = at i r s t was is 0 below x got slot inside in
        subst (λ (w : World). StandsIn t.off i (domain_in i 0 k) w z.memory z.mail (system z.core z.l2) z.domains z.clock) (sym ran.world)
        (subst₂ (λ (d end : ℕ). StandsIn t.off i d (open_slot (guards_of t.off i) i d end s.world) z.memory z.mail
        (system z.core z.l2) z.domains z.clock)
        is_in.whose is_in.until over)

    abbrev MachineOver : Harts → Contents → Boxes → CoreContents AnyPolicy → L2Contents AnyPolicy → ℕ → Type 0
    MachineOver u memory mail core l2 now =
        MachineStands i.all.hardware (guards_of t.off i).levels false memory mail (system core l2) now
        u.world.storage (caches_of 0 u.world) (clock_of 0 u.world)

    pub stands_over : StandsFor i later t'
    stands_over =
        let g = guards_of t.off i in
        stands_next i r s t was is 0 below x got later (suc k) false t' x'
        (record {
          off = kept.off;
          progress = ran.goes.over ran.past;
          machine =
              subst₂ (λ (c : CoreContents AnyPolicy) (l : L2Contents AnyPolicy). MachineOver later t'.memory t'.mail c l x'.clock)
              (sym kept.core) (sym kept.l2)
              (subst (λ (m : Boxes). MachineOver later t'.memory m z.core z.l2 x'.clock) (sym kept.mail)
              (subst₂ (λ (c : Contents) (n : ℕ). MachineOver later c z.mail z.core z.l2 n) (sym kept.memory) (sym kept.clock)
              over_now.machine));
          slots = kept.slots ∙ ap suc (its i r s t was is 0 below x got).slots;
          slot = kept.now_in;
          ended = kept.ended ∙ over_ended i r s t was is 0 below x got slot inside later ran.goes.ended;
          leaves = subst (λ (o : Option Slot). IfSome o (λ y. KeepsLeaves later.world.storage.mem t'.memory.frames
              (root_of i.all.hardware (own_of i y.domain)) x'.core.tlb)) (sym kept.now_in) tt;
          harts = kept.harts;
          all_domains = ap length kept.domains ∙ over_now.all_domains;
          each_domain = λ e y got_e. over_now.each_domain e y (subst (λ (ys : List Domain). slice_get ys e ≡ Some y) kept.domains got_e);
          all_entries = ap length kept.used ∙ is.all_entries;
          each_entry = subst₂ IsUsed (sym kept.used) (sym ran.goes.used) is.each_entry;
        }) ran.goes.left

-- ---- as a call finds and leaves it

-- with all guards on each domain's moments are its own
own_alone : (off : Option Guard) (i : Image) → off ≡ None → (guards_of off i).irq ≡ false → ⊥
unfolding guarded
own_alone None i none all = absurd (true≢false all)
own_alone (Some g) i none all = absurd (cc none)

first_alone : (i : Image) (t : State) (h : ℕ) (x : CodeHart) → Called i t h x → (guards_of t.off i).irq ≡ false → IsOnOneHart i
first_alone i t h x c all = elim c.reached.served [
  | inl none ↦ absurd (own_alone t.off i none all)
  | inr one ↦ one
]

-- so there is one hart, which is called
pub is_first : (i : Image) (t : State) (h : ℕ) (x : CodeHart) → Called i t h x → (guards_of t.off i).irq ≡ false → h ≡ 0
is_first i t h x c all = let one = first_alone i t h x c all in let below = c.below in omega (arith, one, below)

-- and its clock is that of all domains
pub few_here : (i : Image) (t : State) (x : CodeHart) → Called i t 0 x → (guards_of t.off i).irq ≡ false → CountUpTo x.clock t.domains.items
few_here i t x c all d y got =
    let home = (one_hart i (first_alone i t 0 x c all)).home d in
    c.reached.in_bounds.few_calls d y got x (subst (λ (n : ℕ). slice_get t.harts.items n ≡ Some x) (sym home) c.got)

module _ (i : Image) (t : State) (x : CodeHart) (c : Called i t 0 x) (slot : Slot) (inside : x.slot ≡ Some slot) where
  pub stands_here : StandsIn t.off i slot.domain (s i t 0 x c).world t.memory t.mail (system x.core t.l2) t.domains.items x.clock
  stands_here =
      stands_among i c.reached.accepted (s i t 0 x c) t (holds i t 0 x c) c.reached.stands c.below x c.got slot inside

  module _ (z : AmongEnd)
      (becomes : Becomes (λ g j w. open_slot g j slot.domain slot.end w) slot.domain t.memory t.mail (system x.core t.l2) t.domains.items
      x.clock z.memory z.mail (system z.core z.l2) z.domains z.clock)
      (all : (guards_of t.off i).irq ≡ false) (t' : State) (x' : CodeHart) (kept : Ended t 0 x z t' x') where
    pub ends_among : SlotEnds i 0 t t'
    ends_among order of_harts stands =
        let u = harts_by t.off i order in
        let so = held_at i t 0 x c order of_harts in
        let in_it = far i c.reached.accepted u t so stands 0 c.below x c.got slot inside in
        let ran = whole_open t.off i c.reached.accepted c.reached.served c.below all (slots_of 0 u) u so in_it in
        let begun = stands_among i c.reached.accepted u t so stands c.below x c.got slot inside in
        (slot_ended i t 0 t' order ran.events (slots_of 0 u) refl kept.off
        (stands_over i c.reached.accepted u t so stands c.below x c.got slot inside z (becomes t.off i u.world begun)
        c.reached.served all ran t' x' kept)
        (ran.goes.over ran.past)).0

    pub reached_among : x.slots < 65536 → CountUpTo z.clock z.domains → x.clock ≤ z.clock → z.clock < slot.end + most_event
        → IsReached i t'
    reached_among not_last few later soon =
        let ends = ends_among c.reached.order c.reached.of_harts c.reached.stands in
        let slots = kept.slots in
        let clock = kept.clock in
        let end = end_early i t 0 x c slot inside in
        let one = first_alone i t 0 x c all in
        reached_ended i t 0 x c t' kept.off ends
        (in_bounds_next i t t' 0 x x' c.got c.reached.in_bounds (omega (arith, not_last, slots))
        (record {
          clock = λ none. omega (arith, end, slots, clock, soon);
          end = subst (λ (o : Option Slot). IfSome o (λ y. y.end ≤ 2 ^ 61 + x'.slots * 2 ^ 40 + 2 ^ 39)) (sym kept.now_in) tt;
        })
        (omega (arith, later, clock)) kept.harts
        (λ d y got_d. inl (record {
          home = (one_hart i one).home d;
          few = subst (λ (n : ℕ). CountsUpTo n y) (sym clock)
              (few d y (subst (λ (ys : List Domain). slice_get ys d ≡ Some y) kept.domains got_d));
        })))

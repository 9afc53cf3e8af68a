-- Events of a hart of the code beside the definition's, with all guards on or with one off.
use Rattle.std.proofs.Common.{◌≡◌, ◌≢◌, ◌∙◌, ℕ, suc, ◌<◌, ◌≤◌, Bool, true, false, List, Option, Some, None, length, refl, sym, ap, subst, subst₂, arith, ◌⊎◌, inl, inr}
use Rattle.std.specs.Prelude.{slice_get, IfSome}
use Rattle.std.proofs.Math.ListN.{set}
use Rattle.std.proofs.lemmas.List.{length-set}
use Rattle.std.proofs.lemmas.Option.{slice_get_within}
use Rattle.phys_mem.specs.Contents.{Contents}
use Rattle.repl_policy.specs.declared.AnyPolicy.{AnyPolicy}
use Rattle.repl_policy.specs.Members.{any_rule, any_stands_for}
use Rattle.mem_system.specs.Contents.{CoreContents, system}
use Rattle.mem_system.specs.Translation.{KeepsLeaves}
use Rattle.l2_colour.specs.Contents.{L2Contents}
use Rattle.cap_table.specs.Slots.{Slots}
use Rattle.call_table.specs.Domain.{Dom}
use Rattle.call_table.specs.Claims.{is_mine, claims, Facts}
use Rattle.mail_slots.specs.Boxes.{Boxes}
use Rattle.guards.specs.declared.Guard.{Guard}
use Rattle.hardware_check.specs.Hardware.{Hardware}
use Rattle.sched_table.specs.Schedule.{harts_in}
use Rattle.image_check.specs.Image.{Image, own_of}
use Rattle.image_check.specs.Laws.{Runnable}
use Rattle.kernel_call.specs.declared.domain.Domain.{Domain}
use Rattle.kernel_call.specs.Facts.{HasFacts}
use Rattle.world_view.specs.Frames.{root_of}
use Rattle.world_view.specs.Kernel.{estate}
use Rattle.world_view.specs.Machine.{Local, Setting, Guards, guards_of, setting_by, hart_of, dom_of, part_of, caches_of, clock_of, ended_of}
use Rattle.world_view.specs.Relations.{IsDomain}
use Rattle.world_view.specs.Harts.{Harts, Progress, progress_of, slots_of, domain_in, end_by}
use Rattle.world_view.proofs.opening.Separate.{separated}
use Rattle.world_view.proofs.opening.OpeningFacts.{kernel_of}
use Rattle.world_view.proofs.actions.TableLaws.{root_is}
use Rattle.world_view.proofs.harts.OnHart.{separated_on, hart_is}
use Rattle.world_view.proofs.runs.GuardLaws.{are_guards}
use Rattle.domain_step.specs.Kept.{IsSetting}
use Rattle.domain_step.specs.Moves.{StandsIn, Moves}
use Rattle.domain_step.specs.Standing.{MachineStands, DomainStands}
use Rattle.domain_step.proofs.Standing.{stands_in, machine_of, domain_of}
use Rattle.domain_step.specs.Usage.{IsUsed}
use Rattle.domain_step.proofs.Elements.{each_set_kept}
use Rattle.hart_orders.specs.declared.hart.Slot.{Slot}
use Rattle.hart_orders.specs.declared.hart.Hart.{Hart as CodeHart}
use Rattle.hart_set.specs.declared.set.State.{State}
use Rattle.hart_set.specs.Standing.{StandsFor, HartStands, slot_if, ended_if}
use Rattle.hart_set.proofs.Others.{Besides, hart_stands, IsIn, in_slot}
use Rattle.hart_orders.specs.Off.{IsServed}
use Rattle.hart_orders.proofs.Held.{Held, LeavesOthers, end_stays}
use Rattle.hart_orders.proofs.Through.{Ran}

-- what the code's step leaves, or all that it does up to a slot's end
pub record StepEnd : Type 0 where
  pub memory : Contents
  pub mail : Boxes
  pub core : CoreContents AnyPolicy
  pub l2 : L2Contents AnyPolicy
  pub domain : Domain
  pub clock : ℕ

-- what the code keeps of it: so many slots of the hart have ended, and it is in this one
pub record Stepped (t : State) (h : ℕ) (x : CodeHart) (d : ℕ) (z : StepEnd) (m : ℕ) (o : Option Slot) (t' : State) (x' : CodeHart) : Type 0 where
  pub memory : t'.memory ≡ z.memory
  pub mail : t'.mail ≡ z.mail
  pub l2 : t'.l2 ≡ z.l2
  pub core : x'.core ≡ z.core
  pub clock : x'.clock ≡ z.clock
  pub slots : x'.slots ≡ m
  pub now_in : x'.slot ≡ o
  pub ended : x'.ended ≡ x.ended
  pub off : t.off ≡ t'.off
  pub harts : t'.harts.items ≡ set t.harts.items h x'
  pub domains : t'.domains.items ≡ set t.domains.items d z.domain
  pub used : t'.used.items ≡ t.used.items

-- its slot goes on
pub record GoesOn (t : State) (h : ℕ) (x : CodeHart) (slot : Slot) (z : StepEnd) (t' : State) (x' : CodeHart) : Type 0 where
  pub soon : z.clock < slot.end
  pub kept : Stepped t h x slot.domain z x.slots (Some slot) t' x'

-- or has ended
pub record IsOver (t : State) (h : ℕ) (x : CodeHart) (slot : Slot) (z : StepEnd) (t' : State) (x' : CodeHart) : Type 0 where
  pub past : slot.end ≤ z.clock
  pub kept : Stepped t h x slot.domain z (suc x.slots) None t' x'

module _ (i : Image) (r : Runnable i) (s : Harts) (t : State) (was : Held t.off i r s) (is : StandsFor i s t) (h : ℕ)
    (below : h < harts_in i.all.schedule) (x : CodeHart) (got : slice_get t.harts.items h ≡ Some x) where
  abbrev p : Hardware
  p = i.all.hardware

  abbrev g : Guards
  g = guards_of t.off i

  abbrev k : ℕ
  k = slots_of h s

  abbrev d : ℕ
  d = domain_in i h k

  pub its : HartStands i s t h x
  its = is.each_hart h x got

  d_is : IsDomain i d
  d_is = (separated_on i r h below).named k

  -- a domain of the code has its facts
  facts_at : (e : ℕ) (y : Domain) → IsDomain i e → slice_get t.domains.items e ≡ Some y
      → HasFacts (estate p (own_of i e)) t.memory s.world.storage.mem y
  unfolding estate
  facts_at e y ie got_e =
      let o = own_of i e in
      let caps : (dom_of s.world e).caps ≡ y.caps = sym (ap (λ (m : Dom). m.caps) (is.each_domain e y got_e).dom.same) in
      record {
        estate = (kernel_of i (separated i r) e ie).has_estate;
        frames = sym its.machine.frames;
        has = (is.each_domain e y got_e).has;
        holds = its.machine.holds;
        facts =
            subst (λ (slots : Slots). Facts (estate p o).root (is_mine (estate p o)) (claims (estate p o) slots) s.world.storage.mem) caps
            (was.facts e ie).facts.facts;
      }

  pub sound : (e : ℕ) → IsDomain i e → IsSetting (setting_by g i e)
  sound e ie =
      let are = are_guards i (separated i r) t.off in
      record { costs = are.costs; products = are.products; line = are.line; clone = are.layout e ie }

  -- ---- what events of it leave of another hart

  besides : (s' : Harts) (t' : State) → LeavesOthers t.off i r h s s' → (j : ℕ) → j < harts_in i.all.schedule → j ≢ h
      → Besides i h j s s' t t'
  besides s' t' left j j_below other =
      let e = domain_in i j (slots_of j s) in
      let home = hart_is i r j j_below (slots_of j s) in
      let left_e = left e ((separated_on i r j j_below).named (slots_of j s)) (λ q. other (sym (q ∙ home))) in
      record {
        hart = subst (λ (n : ℕ). hart_of n s'.world ≡ hart_of n s.world) home left_e.hart;
        progress = subst (λ (n : ℕ). progress_of n s' ≡ progress_of n s) home left_e.progress;
        frames = left_e.part.frames;
        facts = (was.facts e ((separated_on i r j j_below).named (slots_of j s))).facts;
      }

  -- ---- the code after events of it

  pub record After (s' : Harts) (m : ℕ) (b : Bool) (t' : State) (x' : CodeHart) : Type 0 where
    pub off : t.off ≡ t'.off
    pub progress : progress_of h s' ≡ record { slots = m; inside = b }
    pub machine : MachineStands p g.levels false t'.memory t'.mail (system x'.core t'.l2) x'.clock
        s'.world.storage (caches_of h s'.world) (clock_of h s'.world)
    pub slots : x'.slots ≡ m
    pub slot : x'.slot ≡ slot_if b (domain_in i h m) (end_by g i h m s'.world)
    pub ended : x'.ended ≡ ended_if b g i h m s'.world
    pub leaves : IfSome x'.slot
        (λ y. KeepsLeaves s'.world.storage.mem t'.memory.frames (root_of p (own_of i y.domain)) x'.core.tlb)
    pub harts : t'.harts.items ≡ set t.harts.items h x'
    pub all_domains : length t'.domains.items ≡ length i.owns
    pub each_domain : (e : ℕ) (y : Domain) → slice_get t'.domains.items e ≡ Some y
        → DomainStands (setting_by g i e) y (dom_of s'.world e)
    pub all_entries : length t'.used.items ≡ length i.all.schedule
    pub each_entry : IsUsed t'.used.items s'.world.used

  module _ (s' : Harts) (m : ℕ) (b : Bool) (t' : State) (x' : CodeHart) (a : After s' m b t' x') (left : LeavesOthers t.off i r h s s') where
    -- with the guard off that was
    abbrev u : State
    u = record t' { off = t.off }

    own_stands : HartStands i s' u h x'
    own_stands = record {
      machine = a.machine;
      slots = a.slots ∙ sym (ap (λ (q : Progress). q.slots) a.progress);
      slot = a.slot ∙ sym (ap (λ (q : Progress). slot_if q.inside (domain_in i h q.slots) (end_by g i h q.slots s'.world)) a.progress);
      ended = a.ended ∙ sym (ap (λ (q : Progress). ended_if q.inside g i h q.slots s'.world) a.progress);
      leaves = a.leaves;
    }

    others_stand : (j : ℕ) (z : CodeHart) → j ≢ h → slice_get t.harts.items j ≡ Some z
        → HartStands i s' u j z
    others_stand j z other got_j =
        let j_below : j < harts_in i.all.schedule = omega (arith, slice_get_within t.harts.items j z got_j, is.all_harts) in
        hart_stands i h j s s' t u z x' refl (besides s' u left j j_below other) (is.each_hart j z got_j) own_stands

    stands_there : StandsFor i s' u
    stands_there =
        let within = slice_get_within t.harts.items h x got in
        record {
          all_harts = ap length a.harts ∙ length-set t.harts.items h x' ∙ is.all_harts;
          each_hart = λ j z got_j.
              each_set_kept (HartStands i s' u) t.harts.items h x' within own_stands (λ e v apart got_e. others_stand e v apart got_e)
              j z (subst (λ (hs : List CodeHart). slice_get hs j ≡ Some z) a.harts got_j);
          all_domains = a.all_domains;
          each_domain = a.each_domain;
          all_entries = a.all_entries;
          each_entry = a.each_entry;
        }

    pub stands_next : StandsFor i s' t'
    stands_next = subst (λ (o : Option Guard). StandsFor i s' (record t' { off = o })) a.off stands_there

  -- ---- events of its domain

  module _ (slot : Slot) (inside : x.slot ≡ Some slot) where
    pub at : IsIn (progress_of h s).inside d (end_by g i h k s.world) slot
    at = in_slot (progress_of h s).inside d (end_by g i h k s.world) slot (sym inside ∙ its.slot)

    pub far : progress_of h s ≡ record { slots = k; inside = true }
    far = ap (λ (b : Bool). record { slots = k; inside = b }) at.inside

    pub slot_domain : slot.domain < length i.owns
    slot_domain = subst (λ (e : ℕ). e < length i.owns) (sym at.whose) d_is

    pub early : x.clock < slot.end
    early = let soon = was.soon h below at.inside in omega (arith, soon, its.machine.time, at.until)

    -- its end is kept
    pub end_kept : x.ended ≡ slot.end
    end_kept = its.ended ∙ ap (λ (b : Bool). ended_if b g i h k s.world) at.inside ∙ sym at.until

    pub leaves_d : KeepsLeaves s.world.storage.mem t.memory.frames (root_of p (own_of i d)) x.core.tlb
    leaves_d =
        subst (λ (e : ℕ). KeepsLeaves s.world.storage.mem t.memory.frames (root_of p (own_of i e)) x.core.tlb) at.whose
        (subst (λ (o : Option Slot). IfSome o (λ (z : Slot). KeepsLeaves s.world.storage.mem
        t.memory.frames (root_of p (own_of i z.domain)) x.core.tlb)) inside its.leaves)

    -- when it is over, as it is kept
    pub over_ended : (later : Harts) → ended_of h later.world ≡ ended_of h s.world → x.ended ≡ ended_if false g i h (suc k) later.world
    over_ended later same = end_kept ∙ at.until ∙ sym (end_stays g i h k later.world s.world same)

    still_slot : (later : Harts) → ended_of h later.world ≡ ended_of h s.world
        → Some slot ≡ slot_if true d (end_by g i h k later.world)
    still_slot later same =
        sym inside ∙ its.slot ∙ ap (λ (b : Bool). slot_if b d (end_by g i h k s.world)) at.inside
        ∙ ap (λ (n : ℕ). slot_if true d n) (sym (end_stays g i h k later.world s.world same))

    module _ (y : Domain) (got_y : slice_get t.domains.items slot.domain ≡ Some y) where
      got_d : slice_get t.domains.items d ≡ Some y
      got_d = subst (λ (e : ℕ). slice_get t.domains.items e ≡ Some y) at.whose got_y

      leaves_y : KeepsLeaves s.world.storage.mem t.memory.frames y.map x.core.tlb
      leaves_y =
          subst (λ (root : ℕ). KeepsLeaves s.world.storage.mem t.memory.frames root x.core.tlb)
          (sym ((is.each_domain d y got_d).has.root ∙ root_is p (own_of i d))) leaves_d

      pub begun : StandsIn any_rule any_stands_for (setting_by g i d) t.memory t.mail y
          (system x.core t.l2) x.clock (part_of h d s.world)
      begun =
          stands_in (setting_by g i d) t.memory t.mail y (system x.core t.l2) x.clock (part_of h d s.world)
          (kernel_of i (separated i r) d d_is)
          (sound d d_is) its.machine (is.each_domain d y got_d) (facts_at d y d_is got_d) leaves_y

      -- the code leaves it as f does: one event, or all up to the slot's end
      module _ (f : Setting → ℕ → Local → Local) (z : StepEnd)
          (moved : Moves any_rule any_stands_for (λ w. f w slot.end) t.memory t.mail y (system x.core t.l2) x.clock
          z.memory z.mail z.domain (system z.core z.l2) z.clock)
          (served : IsServed t.off i) (s' : Harts) (ran : Ran t.off i r served h below k f s s') where
        abbrev Stands : Local → Type 0
        Stands v = StandsIn any_rule any_stands_for (setting_by g i d) z.memory z.mail z.domain (system z.core z.l2) z.clock v

        over : Stands (part_of h d s'.world)
        over =
            subst Stands
            (ap (λ (e : ℕ). f (setting_by g i d) e (part_of h d s.world)) at.until ∙ sym ran.part)
            (moved (setting_by g i d) (part_of h d s.world) begun)

        abbrev Machine : Contents → Boxes → CoreContents AnyPolicy → L2Contents AnyPolicy → ℕ → Type 0
        Machine memory mail core l2 now =
            MachineStands p g.levels false memory mail (system core l2) now s'.world.storage (caches_of h s'.world) (clock_of h s'.world)

        machine_after : Machine z.memory z.mail z.core z.l2 z.clock
        machine_after = machine_of (setting_by g i d) z.memory z.mail z.domain (system z.core z.l2) z.clock (part_of h d s'.world) over

        abbrev Leaves : Option Slot → Contents → CoreContents AnyPolicy → Type 0
        Leaves o memory core = IfSome o (λ v. KeepsLeaves s'.world.storage.mem memory.frames (root_of p (own_of i v.domain)) core.tlb)

        leaves_after : Leaves (Some slot) z.memory z.core
        leaves_after =
            subst (λ (root : ℕ). KeepsLeaves s'.world.storage.mem z.memory.frames root z.core.tlb)
            (over.facts.has.root ∙ root_is p (own_of i d) ∙ ap (λ (e : ℕ). root_of p (own_of i e)) (sym at.whose)) over.leaves

        domains_after : (e : ℕ) (v : Domain) → slice_get (set t.domains.items slot.domain z.domain) e ≡ Some v
            → DomainStands (setting_by g i e) v (dom_of s'.world e)
        domains_after e v got_e =
            each_set_kept (λ j q. DomainStands (setting_by g i j) q (dom_of s'.world j)) t.domains.items d z.domain
            (slice_get_within t.domains.items d y got_d)
            (domain_of (setting_by g i d) z.memory z.mail z.domain (system z.core z.l2) z.clock (part_of h d s'.world) over)
            (λ j q apart got_j. subst (DomainStands (setting_by g i j) q) (sym (ran.doms j apart)) (is.each_domain j q got_j))
            e v (subst (λ (n : ℕ). slice_get (set t.domains.items n z.domain) e ≡ Some v) at.whose got_e)

        after : (m : ℕ) (b : Bool) (o : Option Slot) → progress_of h s' ≡ record { slots = m; inside = b }
            → o ≡ slot_if b (domain_in i h m) (end_by g i h m s'.world) → x.ended ≡ ended_if b g i h m s'.world
            → Leaves o z.memory z.core
            → (t' : State) (x' : CodeHart) → Stepped t h x slot.domain z m o t' x' → After s' m b t' x'
        after m b o progress is_slot ends leaves t' x' did = record {
          off = did.off;
          progress = progress;
          machine =
              subst₂ (λ (c : CoreContents AnyPolicy) (l : L2Contents AnyPolicy). Machine t'.memory t'.mail c l x'.clock) (sym did.core) (sym did.l2)
              (subst (λ (m : Boxes). Machine t'.memory m z.core z.l2 x'.clock) (sym did.mail)
              (subst₂ (λ (c : Contents) (n : ℕ). Machine c z.mail z.core z.l2 n) (sym did.memory) (sym did.clock) machine_after));
          slots = did.slots;
          slot = did.now_in ∙ is_slot;
          ended = did.ended ∙ ends;
          leaves =
              subst (λ (q : Option Slot). Leaves q t'.memory x'.core) (sym did.now_in)
              (subst₂ (Leaves o) (sym did.memory) (sym did.core) leaves);
          harts = did.harts;
          all_domains = ap length did.domains ∙ length-set t.domains.items slot.domain z.domain ∙ is.all_domains;
          each_domain = λ e v got_e. domains_after e v (subst (λ (ys : List Domain). slice_get ys e ≡ Some v) did.domains got_e);
          all_entries = ap length did.used ∙ is.all_entries;
          each_entry = subst₂ IsUsed (sym did.used) (sym ran.goes.used) is.each_entry;
        }

        stands_on : (t' : State) (x' : CodeHart) → GoesOn t h x slot z t' x' → StandsFor i s' t'
        stands_on t' x' on =
            let now : z.clock ≡ clock_of h s'.world = over.time in
            let kept = subst (λ (n : ℕ). Stepped t h x slot.domain z n (Some slot) t' x') its.slots on.kept in
            let progress = ran.goes.soon (omega (arith, on.soon, now, at.until)) in
            let end = end_stays g i h k s'.world s.world ran.goes.ended in
            stands_next s' k true t' x'
            (after k true (Some slot) progress (still_slot s' ran.goes.ended) (end_kept ∙ at.until ∙ sym end) leaves_after t' x' kept)
            ran.goes.left

        stands_over : (t' : State) (x' : CodeHart) → IsOver t h x slot z t' x' → StandsFor i s' t'
        stands_over t' x' ends =
            let now : z.clock ≡ clock_of h s'.world = over.time in
            let kept = subst (λ (n : ℕ). Stepped t h x slot.domain z (suc n) None t' x') its.slots ends.kept in
            let progress = ran.goes.over (omega (arith, ends.past, now, at.until)) in
            stands_next s' (suc k) false t' x'
            (after (suc k) false None progress refl (over_ended s' ran.goes.ended) tt t' x' kept) ran.goes.left

        pub stands_stepped : (t' : State) (x' : CodeHart)
            → GoesOn t h x slot z t' x' ⊎ IsOver t h x slot z t' x' → StandsFor i s' t'
        stands_stepped t' x' (inl on) = stands_on t' x' on
        stands_stepped t' x' (inr ends) = stands_over t' x' ends

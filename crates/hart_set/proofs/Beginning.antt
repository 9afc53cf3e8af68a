-- The switch into a hart's next slot, of the code beside the definition's, with all guards on or with one off.
use Rattle.std.proofs.Common.{◌≡◌, ◌∙◌, ℕ, suc, ◌+◌, ◌-◌, ◌<◌, ◌≤◌, max, Bool, true, false, List, [], ◌∷◌, ◌++◌, Option, Some, None, length, ltb, lt-ltb, le-ltb, refl, sym, ap, ap₂, subst, subst₂, arith, ◌⊎◌, inl, inr}
use Rattle.std.specs.Prelude.{slice_get, IfSome, if◌then◌else◌}
use Rattle.std.proofs.Math.ListN.{set}
use Rattle.phys_mem.specs.Mem.{Mem}
use Rattle.repl_policy.specs.declared.AnyPolicy.{AnyPolicy}
use Rattle.repl_policy.specs.Members.{any_rule, any_stands_for}
use Rattle.cycle_cost.specs.Costs.{CostTable}
use Rattle.kernel_clone.specs.Footprints.{Layout}
use Rattle.phys_mem.specs.Contents.{Contents}
use Rattle.mem_system.specs.Hierarchy.{Hierarchy}
use Rattle.mem_system.specs.Cost.{Caches, Touched, touched_all}
use Rattle.mem_system.specs.Contents.{CoreContents, SystemStands, system, hierarchy_of}
use Rattle.mem_system.specs.Translation.{KeepsLeaves}
use Rattle.l2_colour.specs.Contents.{L2Contents}
use Rattle.mem_system.specs.Operations as operations
use Rattle.domain_switch.specs.Switch.{IsSwitched}
use Rattle.hardware_check.specs.Hardware.{Hardware}
use Rattle.sched_table.specs.Schedule.{harts_in, entry_of_slot, switch_entry, start, outgoing, place_on}
use Rattle.image_check.specs.Image.{Image, own_of}
use Rattle.image_check.specs.Laws.{Runnable}
use Rattle.kernel_call.specs.declared.domain.Domain.{Domain}
use Rattle.phys_mem.specs.Holds.{Holds}
use Rattle.mail_slots.specs.Boxes.{Boxes}
use Rattle.world_view.specs.Mail.{switched_boxes}
use Rattle.world_view.specs.Event.{Storage}
use Rattle.world_view.specs.Frames.{root_of}
use Rattle.world_view.specs.Machine.{World, Hart, no_hart, dom_of, Guards, guards_of, caches_of, clock_of, ended_of, clone_by, setting_by, ended_by, ends_by, begins_by, switch_work_by, with_mail, switch_on, with_hart, with_end, cycles_on, noted}
use Rattle.world_view.specs.Harts.{Harts, image_on, IsOutside, progress_of, slots_of, domain_in, end_on, start_on, end_by, with_end_by, proceeds, settles, next_by}
use Rattle.world_view.proofs.opening.Separate.{separated}
use Rattle.world_view.proofs.runs.GuardLaws.{are_guards}
use Rattle.world_view.proofs.runs.SwitchParts.{work_by_is, caches-with, clock-with}
use Rattle.world_view.proofs.harts.Runs.{progress-same}
use Rattle.tp_base.specs.Table.{at-put_same}
use Rattle.domain_step.specs.Standing.{MachineStands, DomainStands}
use Rattle.domain_step.specs.Usage.{IsUsed}
use Rattle.hart_orders.specs.declared.hart.Slot.{Slot}
use Rattle.hart_orders.specs.declared.hart.Hart.{Hart as CodeHart}
use Rattle.hart_orders.specs.Off.{IsServed}
use Rattle.hart_orders.proofs.Held.{Held, begun_by, next_outside, next_leaves, same_guards}
use Rattle.hart_set.specs.declared.set.State.{State}
use Rattle.hart_set.specs.Standing.{StandsFor, HartStands, slot_if, ended_if}
use Rattle.hart_set.proofs.Others.{in_none}
use Rattle.hart_set.proofs.Running.{its, After, stands_next}

-- what the code's switch is given
pub record SwitchGiven : Type 0 where
  pub loads : Bool
  pub flushes : Bool
  pub out : Option Layout
  pub into : Layout
  pub until : ℕ

-- ---- times, where pads are on and where they are not

waits_is : (b : Bool) (now until start : ℕ) → (b ≡ true → until ≡ start) → (b ≡ false → until ≡ 0)
    → max now until ≡ (if b then max now start else now)
waits_is true now until start padded unpadded = ap (max now) (padded refl)
waits_is false now until start padded unpadded = ap (max now) (unpadded refl) ∙ omega arith

ends_is : (b : Bool) (begins start begun length : ℕ) → (b ≡ true → begins ≡ start) → (b ≡ false → begins ≡ begun)
    → begins + length ≡ (if b then start + length else begun + length)
ends_is true begins start begun length padded unpadded = ap (λ (n : ℕ). n + length) (padded refl)
ends_is false begins start begun length padded unpadded = ap (λ (n : ℕ). n + length) (unpadded refl)

module _ (i : Image) (r : Runnable i) (s : Harts) (t : State) (was : Held t.off i r s) (is : StandsFor i s t) (h : ℕ)
    (below : h < harts_in i.all.schedule) (x : CodeHart) (got : slice_get t.harts.items h ≡ Some x) (between : x.slot ≡ None) where
  abbrev p : Hardware
  p = i.all.hardware

  abbrev on : Image
  on = image_on i h

  abbrev g : Guards
  g = guards_of t.off i

  abbrev k : ℕ
  k = slots_of h s

  abbrev d : ℕ
  d = domain_in i h k

  there : HartStands i s t h x
  there = its i r s t was is h below x got

  pub outside : IsOutside h s
  outside = in_none (progress_of h s).inside d (end_by g i h k s.world) (sym between ∙ there.slot)

  -- when the last slot ended
  pub ended_was : x.ended ≡ ended_by g on h k s.world
  ended_was = there.ended ∙ ap (λ (b : Bool). ended_if b g i h k s.world) outside

  pub record AreGiven (q : SwitchGiven) : Type 0 where
    pub loads : q.loads ≡ g.prefetch
    pub flushes : q.flushes ≡ g.flush
    pub out : q.out ≡ clone_by g (outgoing on.all.schedule k)
    pub into : q.into ≡ g.clone d
    pub padded : g.pad ≡ true → q.until ≡ start_on i h k
    pub unpadded : g.pad ≡ false → q.until ≡ 0

  -- what it touches
  abbrev pub given_work : SwitchGiven → Caches → Touched
  given_work q c =
      touched_all (hierarchy_of any_rule (system x.core t.l2)) x.core.pinned c
      (operations.switch_by q.loads q.flushes x.core.costs q.out q.into)

  -- what it gives
  pub record Switches (q : SwitchGiven) (core' : CoreContents AnyPolicy) (l2' : L2Contents AnyPolicy) (used now : ℕ) : Type 0 where
    pub levels : hierarchy_of any_rule (system core' l2') ≡ hierarchy_of any_rule (system x.core t.l2)
    pub pinned : core'.pinned ≡ x.core.pinned
    pub work : (c : Caches) → SystemStands any_stands_for (system x.core t.l2) c
        → IsSwitched any_stands_for x.ended x.clock used (system core' l2') (given_work q c)
    pub clock : (c : Caches) → SystemStands any_stands_for (system x.core t.l2) c
        → now ≡ max (x.clock + (given_work q c).cost) q.until
    pub kept : (m : Mem) (frames root : ℕ) → KeepsLeaves m frames root core'.tlb

  module _ (q : SwitchGiven) (are : AreGiven q) (core' : CoreContents AnyPolicy) (l2' : L2Contents AnyPolicy) (used now : ℕ)
      (did : Switches q core' l2' used now) where
    abbrev c : Caches
    c = caches_of h s.world

    -- by the definition the entries are those of the hart
    abbrev gh : Guards
    gh = guards_of t.off on

    abbrev work_at : Guards → Touched
    work_at y = switch_work_by y on (outgoing on.all.schedule k) d c

    costs_are : x.core.costs ≡ p.costs
    costs_are = sym ((are_guards i (separated i r) t.off).costs ∙ ap (λ (y : Hierarchy). y.costs) there.machine.levels)

    -- what it touches is the definition's work
    work_is : given_work q c ≡ work_at g
    work_is =
        let touches = λ (loads flushes : Bool) (costs : CostTable) (out : Option Layout) (into : Layout).
        operations.switch_by loads flushes costs out into in
        ap₂ (λ (y : Hierarchy) (b : Bool). touched_all y b c (touches q.loads q.flushes x.core.costs q.out q.into))
        (sym there.machine.levels) there.machine.pinned
        ∙ ap (λ (y : CostTable). touched_all g.levels false c (touches q.loads q.flushes y q.out q.into)) costs_are
        ∙ ap₂ (λ (a b : Bool). touched_all g.levels false c (touches a b p.costs q.out q.into)) are.loads are.flushes
        ∙ ap₂ (λ (a : Option Layout) (b : Layout). touched_all g.levels false c (touches g.prefetch g.flush p.costs a b)) are.out are.into
        ∙ sym (work_by_is g on (outgoing on.all.schedule k) d c ((are_guards i (separated i r) t.off).region d))

    switched : IsSwitched any_stands_for x.ended x.clock used (system core' l2') (work_at g)
    switched =
        subst (IsSwitched any_stands_for x.ended x.clock used (system core' l2')) work_is (did.work c there.machine.caches)

    now_is : now ≡ begins_by g on k (clock_of h s.world + (work_at g).cost)
    now_is =
        did.clock c there.machine.caches
        ∙ ap₂ (λ (n m : ℕ). max (n + m) q.until) there.machine.time (ap (λ (y : Touched). y.cost) work_is)
        ∙ waits_is g.pad _ q.until (start_on i h k) are.padded are.unpadded

    -- the world as the slot begins, by guards that are the same
    abbrev place : ℕ
    place = place_on i.all.schedule h (switch_entry on.all.schedule k)

    abbrev begun_at : Guards → World
    begun_at y = with_end_by y i h k (noted place (cycles_on y on h k s.world) (switch_on y on h k s.world))

    abbrev begun : World
    begun = begun_by t.off i r h s

    begun_is : begun ≡ begun_at g
    unfolding begun_by
    begun_is = ap begun_at (same_guards t.off i h)

    -- who leaves, and what the switch makes of boxes
    abbrev leaving : Option ℕ
    leaving = outgoing on.all.schedule k

    abbrev moved : Boxes → Boxes
    moved = switched_boxes leaving d

    -- what is told of it where nobody notes the end, and so where somebody does
    record IsBegun (w : World) : Type 0 where
      storage : w.storage ≡ record s.world.storage { boxes = moved s.world.storage.boxes }
      caches : caches_of h w ≡ (work_at g).caches
      clock : clock_of h w ≡ begins_by g on k (clock_of h s.world + (work_at g).cost)
      doms : (e : ℕ) → dom_of w e ≡ dom_of s.world e
      used_is : w.used ≡ s.world.used ++ (place, cycles_on g on h k s.world) ∷ []

    noted_is : IsBegun (noted place (cycles_on g on h k s.world) (switch_on g on h k s.world))
    unfolding switch_on with_hart
    noted_is = record {
      storage = refl;
      caches = caches-with h (with_mail leaving d s.world) (work_at g).caches _;
      clock = clock-with h (with_mail leaving d s.world) (work_at g).caches _;
      doms = λ e. refl;
      used_is = refl;
    }

    -- when it ends is noted with it
    noted_if : (b : Bool) (w : World) (end : ℕ) → IsBegun w → IsBegun (if b then w else with_end h w end)
    unfolding with_end
    noted_if true w end told = told
    noted_if false w end told = record {
      storage = told.storage;
      caches = ap (λ (y : Hart). record { core = y.core; l2 = w.l2 }) (at-put_same no_hart w.harts h _) ∙ told.caches;
      clock = ap (λ (y : Hart). y.clock) (at-put_same no_hart w.harts h _) ∙ told.clock;
      doms = told.doms;
      used_is = told.used_is;
    }

    told : IsBegun begun
    told =
        let w = noted place (cycles_on g on h k s.world) (switch_on g on h k s.world) in
        subst IsBegun (sym begun_is) (noted_if g.pad w (ends_by g on k (clock_of h w)) noted_is)

    end_if : (b : Bool) (w : World) (end : ℕ) → (b ≡ true → end ≡ end_on i h k)
        → end ≡ (if b then end_on i h k else ended_of h (if b then w else with_end h w end))
    unfolding with_end
    end_if true w end padded = padded refl
    end_if false w end padded = sym (ap (λ (y : Hart). y.ended) (at-put_same no_hart w.harts h _))

    -- when the slot ends
    module _ (begins : ℕ) (padded : g.pad ≡ true → begins ≡ start_on i h k) (unpadded : g.pad ≡ false → begins ≡ now) where
      abbrev end : ℕ
      end = begins + (entry_of_slot on.all.schedule k).length

      end_is : end ≡ end_by g i h k begun
      end_is =
          let w = noted place (cycles_on g on h k s.world) (switch_on g on h k s.world) in
          let so : end ≡ ends_by g on k (clock_of h w) =
          ends_is g.pad begins (start_on i h k) now (entry_of_slot on.all.schedule k).length padded unpadded
          ∙ ap (ends_by g on k) (now_is ∙ sym noted_is.clock) in
          subst (λ (n : ℕ). n ≡ end_by g i h k begun) (sym so)
          (subst (λ (v : World). ends_by g on k (clock_of h w) ≡ end_by g i h k v) (sym begun_is)
          (end_if g.pad w (ends_by g on k (clock_of h w)) (λ pads. ap (λ (b : Bool). if b then end_on i h k
          else clock_of h w + (entry_of_slot on.all.schedule k).length) pads)))

      -- ---- what the code keeps of it

      pub record Begun (t' : State) (x' : CodeHart) : Type 0 where
        pub off : t.off ≡ t'.off
        pub memory : t'.memory ≡ t.memory
        pub mail : t'.mail ≡ moved t.mail
        pub l2 : t'.l2 ≡ l2'
        pub core : x'.core ≡ core'
        pub clock : x'.clock ≡ now
        pub ended : x'.ended ≡ end
        pub harts : t'.harts.items ≡ set t.harts.items h x'
        pub domains : t'.domains.items ≡ t.domains.items
        pub long : length t'.used.items ≡ length t.used.items
        pub noted : (us : List (ℕ × ℕ)) → IsUsed t.used.items us → IsUsed t'.used.items (us ++ (place, used) ∷ [])

      -- it is in the slot, or that is over
      pub record IsIn (x' : CodeHart) : Type 0 where
        pub early : now < end
        pub slots : x'.slots ≡ x.slots
        pub slot : x'.slot ≡ Some (record { domain = d; end = end })

      pub record IsPast (x' : CodeHart) : Type 0 where
        pub late : end ≤ now
        pub slots : x'.slots ≡ suc x.slots
        pub slot : x'.slot ≡ None

      module _ (t' : State) (x' : CodeHart) (b : Begun t' x') where
        machine_there : MachineStands p g.levels false t'.memory t'.mail (system x'.core t'.l2) x'.clock
            begun.storage (caches_of h begun) (clock_of h begun)
        machine_there =
            subst₂ (λ (y : CoreContents AnyPolicy) (l : L2Contents AnyPolicy). MachineStands p g.levels
            false t'.memory t'.mail (system y l) x'.clock begun.storage (caches_of h begun) (clock_of h begun))
            (sym b.core) (sym b.l2)
            (record {
              frames = ap (λ (y : Contents). y.frames) b.memory ∙ there.machine.frames;
              holds = subst₂ (λ (y : Contents) (z : Storage). Holds y z.mem) (sym b.memory) (sym told.storage) there.machine.holds;
              boxes = b.mail ∙ ap moved there.machine.boxes ∙ sym (ap (λ (z : Storage). z.boxes) told.storage);
              levels = there.machine.levels ∙ sym did.levels;
              pinned = did.pinned ∙ there.machine.pinned;
              caches = subst (SystemStands any_stands_for (system core' l2')) (sym told.caches) switched.next;
              time = b.clock ∙ now_is ∙ sym told.clock;
            })

        cycles_are : used ≡ cycles_on g on h k s.world
        cycles_are = switched.time ∙ ap₂ (λ (n m : ℕ). n + (work_at g).cost - m) there.machine.time ended_was

        leaves_if : (o : Option Slot) → o ≡ x'.slot
            → IfSome o (λ y. KeepsLeaves begun.storage.mem t'.memory.frames (root_of p (own_of i y.domain)) x'.core.tlb)
        leaves_if None same = tt
        leaves_if (Some y) same =
            subst (λ (z : CoreContents AnyPolicy). KeepsLeaves begun.storage.mem t'.memory.frames (root_of p (own_of i y.domain)) z.tlb)
            (sym b.core) (did.kept begun.storage.mem t'.memory.frames (root_of p (own_of i y.domain)))

        after_if : (m : ℕ) (inside : Bool) → (later : Harts) → later ≡ proceeds h s begun m inside → x'.slots ≡ m
            → x'.slot ≡ slot_if inside (domain_in i h m) (end_by g i h m begun)
            → x'.ended ≡ ended_if inside g i h m begun
            → After i r s t was is h below x got later m inside t' x'
        unfolding proceeds
        after_if m inside later same slots slot ended =
            subst (λ (v : Harts). After i r s t was is h below x got v m inside t' x') (sym same)
            (record {
              off = b.off;
              progress = progress-same h s begun m inside;
              machine = machine_there;
              slots = slots;
              slot = slot;
              ended = ended;
              leaves = leaves_if x'.slot refl;
              harts = b.harts;
              all_domains = ap length b.domains ∙ is.all_domains;
              each_domain = λ e z got_e.
                  subst (DomainStands (setting_by g i e) z) (sym (told.doms e))
                  (is.each_domain e z (subst (λ (ys : List Domain). slice_get ys e ≡ Some z) b.domains got_e));
              all_entries = b.long ∙ is.all_entries;
              each_entry =
                  subst (IsUsed t'.used.items)
                  (ap (λ (n : ℕ). s.world.used ++ (place, n) ∷ []) cycles_are ∙ sym told.used_is)
                  (b.noted s.world.used is.each_entry);
            })

        settled : next_by t.off i h s ≡ (if ltb (clock_of h begun) (end_by g i h k begun) then proceeds h s begun k true
            else proceeds h s begun (suc k) false)
        unfolding settles
        settled = next_outside t.off i r h s outside

        clock_is : clock_of h begun ≡ now
        clock_is = told.clock ∙ sym now_is

        after_next : IsIn x' ⊎ IsPast x' → (m : ℕ) × (inside : Bool)
            × After i r s t was is h below x got (next_by t.off i h s) m inside t' x'
        after_next (inl its_in) =
            let soon : clock_of h begun < end_by g i h k begun = let e = its_in.early in let c = clock_is in let n = end_is in omega (arith, e, c, n) in (
              k,
              true,
              after_if k true (next_by t.off i h s)
                  (settled ∙ ap (λ (a : Bool). if a then proceeds h s begun k true else proceeds h s begun (suc k) false) (lt-ltb _ _ soon))
                  (its_in.slots ∙ there.slots)
                  (its_in.slot ∙ ap (λ (n : ℕ). slot_if true d n) end_is) (b.ended ∙ end_is),
            )
        after_next (inr past) =
            let over : end_by g i h k begun ≤ clock_of h begun = let e = past.late in let c = clock_is in let n = end_is in omega (arith, e, c, n) in (
              suc k,
              false,
              after_if (suc k) false (next_by t.off i h s)
                  (settled ∙ ap (λ (a : Bool). if a then proceeds h s begun k true else proceeds h s begun (suc k) false) (le-ltb _ _ over))
                  (past.slots ∙ ap suc there.slots)
                  past.slot (b.ended ∙ end_is),
            )

        pub stands_begun : IsServed t.off i → IsIn x' ⊎ IsPast x' → StandsFor i (next_by t.off i h s) t'
        stands_begun served which =
            let (m, inside, after) = after_next which in
            stands_next i r s t was is h below x got (next_by t.off i h s) m inside t' x' after
            (next_leaves t.off i r served h below s was)

-- The switch into a hart's next slot, as the code finds and leaves it.
use Rattle.std.proofs.Common.{◌≡◌, ◌∙◌, ℕ, zero, suc, ◌+◌, ◌*◌, ◌^◌, ◌<◌, ◌≤◌, max, Bool, true, false, List, [], ◌∷◌, ◌++◌, replicate, append_assoc, Option, Some, None, option_map, length, ◌⊎◌, inl, inr, refl, sym, ap, ap₂, subst, arith}
use Rattle.std.specs.Prelude.{slice_get, IfSome}
use Rattle.std.proofs.Math.ListN.{set}
use Rattle.std.proofs.lemmas.List.Elements.{All-push}
use Rattle.std.proofs.lemmas.List.{length-set, get_or-set_same}
use Rattle.std.proofs.lemmas.Option.{same_Some, slice_get-get_or}
use Rattle.guards.specs.declared.Guard.{Guard}
use Rattle.phys_mem.specs.Mem.{Mem}
use Rattle.repl_policy.specs.declared.AnyPolicy.{AnyPolicy}
use Rattle.repl_policy.specs.Members.{any_rule, any_stands_for}
use Rattle.kernel_clone.specs.Footprints.{IsLayout}
use Rattle.kernel_clone.specs.Models.{layout_model}
use Rattle.kernel_clone.specs.declared.CloneLayout.{CloneLayout}
use Rattle.mem_system.specs.Cost.{Caches, touched_all}
use Rattle.mem_system.specs.Contents.{CoreContents, SystemStands, system, hierarchy_of}
use Rattle.mem_system.specs.Translation.{KeepsLeaves}
use Rattle.l2_colour.specs.Contents.{L2Contents}
use Rattle.mem_system.specs.Operations as operations
use Rattle.domain_switch.specs.Switch.{IsSwitched, layout_if}
use Rattle.sched_table.specs.declared.schedule.Entry.{Entry}
use Rattle.sched_table.specs.declared.schedule.Turn.{Turn}
use Rattle.sched_table.specs.Schedule.{harts_in, switch_entry, outgoing, on_hart, place_on}
use Rattle.image_check.specs.Image.{Image}
use Rattle.image_check.specs.Laws.{Runnable}
use Rattle.kernel_call.specs.declared.domain.Domain.{Domain}
use Rattle.world_view.specs.Mail.{switched_boxes}
use Rattle.world_view.specs.Machine.{Guards, guards_of, clone_by}
use Rattle.world_view.specs.Relations.{IsDomain}
use Rattle.world_view.specs.Harts.{Harts, harts_by, next_by, progress_of, slots_of}
use Rattle.world_view.specs.HartLaws.{AreHartsOf}
use Rattle.world_view.proofs.opening.Separate.{separated}
use Rattle.world_view.proofs.runs.GuardLaws.{are_guards}
use Rattle.world_view.proofs.harts.OnHart.{separated_on}
use Rattle.domain_step.specs.Usage.{IsUsed, CountedUpTo}
use Rattle.hart_orders.specs.declared.hart.Slot.{Slot}
use Rattle.hart_orders.specs.declared.hart.Hart.{Hart as CodeHart}
use Rattle.hart_set.specs.declared.set.State.{State}
use Rattle.hart_set.specs.Standing.{StandsFor, IsEarly}
use Rattle.hart_set.specs.Reached.{IsReached}
use Rattle.hart_set.specs.Slots.{NextStands, EndsSlot, SlotEnds, SlotEndsIn}
use Rattle.hart_set.specs.Turns.{IsTurn}
use Rattle.hart_set.proofs.Bounds.{counted, in_bounds_next}
use Rattle.hart_set.proofs.Others.{in_none}
use Rattle.hart_set.proofs.Called.{Called, s, holds, held_at, pushed, reached_next}
use Rattle.hart_set.proofs.Beginning.{SwitchGiven, AreGiven, stands_begun}

-- an image's domains are few
pub few_numbers : (i : Image) → Runnable i → (o : Option ℕ) → IfSome o (IsDomain i) → IfSome o (λ d. d < 32)
few_numbers i r None named = tt
few_numbers i r (Some d) named = let few = r.few_domains in omega (arith, few, named)

module _ (i : Image) (t : State) (h : ℕ) (x : CodeHart) (c : Called i t h x) (between : x.slot ≡ None) where
  abbrev g : Guards
  g = guards_of t.off i

  pub clock_early : x.clock ≤ 2 ^ 61 + x.slots * 2 ^ 40
  clock_early = (c.reached.in_bounds.early h x c.got).clock between

  pub few_slots : x.slots ≤ 65536
  few_slots = c.reached.in_bounds.few_slots h x c.got

  -- a kernel clone of it is one
  pub clone_on : (e : ℕ) (y : Domain) → IsDomain i e → slice_get t.domains.items e ≡ Some y → IsLayout (layout_model y.layout)
  clone_on e y ie got_e =
      subst IsLayout (sym (c.reached.stands.each_domain e y got_e).layout)
      ((are_guards i (separated i c.reached.accepted) t.off).layout e ie)

  leaves_named : (n e : ℕ) → outgoing (on_hart i.all.schedule h) n ≡ Some e → IsDomain i e
  leaves_named zero e same = absurd (cc same)
  leaves_named (suc n) e same =
      subst (IsDomain i) (same_Some _ _ same) ((separated_on i c.reached.accepted h c.below).named n)

  out_if : (o : Option ℕ) → ((e : ℕ) → o ≡ Some e → IsDomain i e) → (out : Option CloneLayout)
      → option_map layout_model out ≡ clone_by g o → IfSome out (λ clone. IsLayout (layout_model clone))
  out_if o named None same = tt
  out_if None named (Some l) same = absurd (cc same)
  out_if (Some e) named (Some l) same =
      subst IsLayout (sym (same_Some _ _ same)) ((are_guards i (separated i c.reached.accepted) t.off).layout e (named e refl))

  pub out_on : (out : Option CloneLayout)
      → option_map layout_model out ≡ clone_by g (outgoing (on_hart i.all.schedule h) x.slots)
      → IfSome out (λ clone. IsLayout (layout_model clone))
  out_on out same = out_if (outgoing (on_hart i.all.schedule h) x.slots) (leaves_named x.slots) out same

  pub counted_few : CountedUpTo (2 ^ 31) t.used.items
  counted_few = counted i c.reached.accepted (s i t h x c) t (holds i t h x c) c.reached.stands c.reached.in_bounds x

  module _ (turn : Turn) (is_turn : IsTurn (on_hart i.all.schedule h) x.slots turn) where
    -- what the code's switch is given and gives
    pub record Switched (loads flushes : Bool) (out : Option CloneLayout) (into : CloneLayout) (until : ℕ)
        (core' : CoreContents AnyPolicy) (l2' : L2Contents AnyPolicy) (used now : ℕ) : Type 0 where
      pub loads_is : loads ≡ g.prefetch
      pub flushes_is : flushes ≡ g.flush
      pub padded : g.pad ≡ true → until ≡ turn.start
      pub unpadded : g.pad ≡ false → until ≡ 0
      pub levels : hierarchy_of any_rule (system core' l2') ≡ hierarchy_of any_rule (system x.core t.l2)
      pub pinned : core'.pinned ≡ x.core.pinned
      pub work : (caches : Caches) → SystemStands any_stands_for (system x.core t.l2) caches
          → IsSwitched any_stands_for x.ended x.clock used (system core' l2')
          (touched_all (hierarchy_of any_rule (system x.core t.l2)) x.core.pinned caches
          (operations.switch_by loads flushes x.core.costs (layout_if out) (layout_model into)))
      pub clock : (caches : Caches) → SystemStands any_stands_for (system x.core t.l2) caches
          → now ≡ max (x.clock + (touched_all (hierarchy_of any_rule (system x.core t.l2)) x.core.pinned caches
          (operations.switch_by loads flushes x.core.costs (layout_if out) (layout_model into))).cost) until
      pub kept : (m : Mem) (frames root : ℕ) → KeepsLeaves m frames root core'.tlb

    -- what the code keeps of it
    pub record Entered (core' : CoreContents AnyPolicy) (l2' : L2Contents AnyPolicy) (used now end : ℕ)
        (t' : State) (x' : CodeHart) : Type 0 where
      pub off : t.off ≡ t'.off
      pub memory : t'.memory ≡ t.memory
      pub mail : t'.mail ≡ switched_boxes (outgoing (on_hart i.all.schedule h) x.slots) turn.entry.domain t.mail
      pub l2 : t'.l2 ≡ l2'
      pub core : x'.core ≡ core'
      pub clock : x'.clock ≡ now
      pub ended : x'.ended ≡ end
      pub harts : t'.harts.items ≡ set t.harts.items h x'
      pub domains : t'.domains.items ≡ t.domains.items
      pub long : length t'.used.items ≡ length t.used.items
      pub noted : (us : List (ℕ × ℕ)) → IsUsed t.used.items us
          → IsUsed t'.used.items (us ++ (place_on i.all.schedule h (switch_entry (on_hart i.all.schedule h) x.slots), used) ∷ [])

    -- it is in the slot, or that is over
    pub record IsInside (now end : ℕ) (x' : CodeHart) : Type 0 where
      pub early : now < end
      pub slots : x'.slots ≡ x.slots
      pub slot : x'.slot ≡ Some (record { domain = turn.entry.domain; end = end })

    pub record IsPast (now end : ℕ) (x' : CodeHart) : Type 0 where
      pub late : end ≤ now
      pub slots : x'.slots ≡ suc x.slots
      pub slot : x'.slot ≡ None

    module _ (loads flushes : Bool) (out : Option CloneLayout) (y : Domain) (got_y : slice_get t.domains.items turn.entry.domain ≡ Some y)
        (out_is : option_map layout_model out ≡ clone_by g (outgoing (on_hart i.all.schedule h) x.slots)) (until : ℕ)
        (core' : CoreContents AnyPolicy) (l2' : L2Contents AnyPolicy) (used now : ℕ)
        (did : Switched loads flushes out y.layout until core' l2' used now)
        (begins : ℕ) (padded : g.pad ≡ true → begins ≡ turn.start) (unpadded : g.pad ≡ false → begins ≡ now)
        (t' : State) (x' : CodeHart) (left : Entered core' l2' used now (begins + turn.entry.length) t' x')
        (which : IsInside now (begins + turn.entry.length) x' ⊎ IsPast now (begins + turn.entry.length) x') where
      module _ (order : List ℕ) (of_harts : AreHartsOf i order) (stands : StandsFor i (harts_by t.off i order) t) where
        abbrev u : Harts
        u = harts_by t.off i order

        abbrev k : ℕ
        k = slots_of h u

        k_is : x.slots ≡ k
        k_is = (stands.each_hart h x c.got).slots

        now_turn : IsTurn (on_hart i.all.schedule h) k turn
        now_turn = subst (λ (n : ℕ). IsTurn (on_hart i.all.schedule h) n turn) k_is is_turn

        abbrev given : SwitchGiven
        given = record { loads = loads; flushes = flushes; out = layout_if out; into = layout_model y.layout; until = until }

        are : AreGiven i c.reached.accepted u t (held_at i t h x c order of_harts) stands h c.below x c.got between given
        are = record {
          loads = did.loads_is;
          flushes = did.flushes_is;
          out = subst (λ (n : ℕ). option_map layout_model out ≡ clone_by g (outgoing (on_hart i.all.schedule h) n)) k_is out_is;
          into = (stands.each_domain turn.entry.domain y got_y).layout ∙ ap (λ (e : Entry). g.clone e.domain) now_turn.entry;
          padded = λ pads. did.padded pads ∙ now_turn.start;
          unpadded = did.unpadded;
        }

        stands_entered : StandsFor i (next_by t.off i h u) t'
        stands_entered =
            let length_is = ap (λ (e : Entry). begins + e.length) now_turn.entry in
            stands_begun i c.reached.accepted u t (held_at i t h x c order of_harts) stands h c.below x c.got between
            given are core' l2' used now
            (record { levels = did.levels; pinned = did.pinned; work = did.work; clock = did.clock; kept = did.kept })
            begins (λ pads. padded pads ∙ now_turn.start) unpadded t' x'
            (record {
              off = left.off;
              memory = left.memory;
              mail =
                  left.mail
                  ∙ ap₂ (λ (n : ℕ) (e : Entry). switched_boxes (outgoing (on_hart i.all.schedule h) n) e.domain t.mail)
                  k_is now_turn.entry;
              l2 = left.l2;
              core = left.core;
              clock = left.clock;
              ended = left.ended ∙ length_is;
              harts = left.harts;
              domains = left.domains;
              long = left.long;
              noted = subst
                  (λ (n : ℕ). (us : List (ℕ × ℕ)) → IsUsed t.used.items us
                  → IsUsed t'.used.items (us ++ (place_on i.all.schedule h (switch_entry (on_hart i.all.schedule h) n), used) ∷ []))
                  k_is left.noted;
            })
            c.reached.served
            (elim which [
              | inl its_in ↦ inl (record {
                early = subst (λ (n : ℕ). now < n) length_is its_in.early;
                slots = its_in.slots;
                slot =
                    its_in.slot
                    ∙ ap₂ (λ (e : Entry) (n : ℕ). Some (record { domain = e.domain; end = n })) now_turn.entry length_is;
              })
              | inr past ↦ inr (record {
                late = subst (λ (n : ℕ). n ≤ now) length_is past.late;
                slots = past.slots;
                slot = past.slot;
              })
            ])

      pub entered : NextStands i h t t'
      entered = pushed i t h x c t' stands_entered

      -- ---- its bounds

      module _ (not_last : x.slots < 65536) (later : x.clock ≤ now) (worked : now < max x.clock turn.start + 2 ^ 33)
          (soon : turn.start < 2 ^ 61) (counts : begins ≤ max turn.start now) (short : turn.entry.length ≤ 1000000) where
        early_if : IsInside now (begins + turn.entry.length) x' ⊎ IsPast now (begins + turn.entry.length) x' → IsEarly x'
        early_if (inl its_in) =
            let clock = clock_early in
            let slots = its_in.slots in
            record {
              clock = λ none. absurd (cc (none, its_in.slot));
              end = subst (λ (o : Option Slot). IfSome o (λ z. z.end ≤ 2 ^ 61 + x'.slots * 2 ^ 40 + 2 ^ 39)) (sym its_in.slot)
                  (omega (arith, clock, slots, worked, soon, counts, short));
            }
        early_if (inr past) =
            let clock = clock_early in
            let slots = past.slots in
            let at = left.clock in
            record {
              clock = λ none. omega (arith, clock, slots, worked, soon, at);
              end = subst (λ (o : Option Slot). IfSome o (λ z. z.end ≤ 2 ^ 61 + x'.slots * 2 ^ 40 + 2 ^ 39)) (sym past.slot) tt;
            }

        slots_if : IsInside now (begins + turn.entry.length) x' ⊎ IsPast now (begins + turn.entry.length) x' → x'.slots ≤ 65536
        slots_if (inl its_in) = let slots = its_in.slots in omega (arith, not_last, slots)
        slots_if (inr past) = let slots = past.slots in omega (arith, not_last, slots)

        pub reached_entered : IsReached i t'
        reached_entered =
            let clock = left.clock in
            reached_next i t h x c t' stands_entered left.off
            (in_bounds_next i t t' h x x' c.got c.reached.in_bounds (slots_if which) (early_if which)
            (omega (arith, later, clock)) left.harts
            (λ e v got_e. inr (subst (λ (ys : List Domain). slice_get ys e ≡ Some v) left.domains got_e)))

-- what was put at a place is there
pub set_there : {A : Type 0} (xs : List A) (n : ℕ) (y : A) → n < length xs → slice_get (set xs n y) n ≡ Some y
set_there xs n y within =
    let long = length-set xs n y in
    slice_get-get_or (set xs n y) n y (omega (arith, within, long)) ∙ ap Some (get_or-set_same xs n y y within)

-- ---- and then the slot, to its end

-- where it was over with the switch
pub ended_begun : (i : Image) (t t' : State) (h : ℕ) (x x' : CodeHart) → slice_get t.harts.items h ≡ Some x
    → slice_get t'.harts.items h ≡ Some x' → x'.slots ≡ suc x.slots → x'.slot ≡ None → t.off ≡ t'.off
    → NextStands i h t t' → SlotEndsIn i h 1 t t'
ended_begun i t t' h x x' got got' slots none off begins order of_harts stands =
    let next = begins order of_harts stands in
    let its_now = next.each_hart h x' got' in
    let was = (stands.each_hart h x got).slots in
    subst (λ (o : Option Guard). (ends : EndsSlot i order h (record t' { off = o })) × (ends.events ≡ 1)) off (
      record {
        events = 1;
        stands = subst (λ (o : Option Guard). StandsFor i (harts_by t.off i (order ++ h ∷ [])) (record t' { off = o })) (sym off) next;
        slots = sym its_now.slots ∙ slots ∙ ap suc was;
        outside = in_none (progress_of h (harts_by t.off i (order ++ h ∷ []))).inside _ _ (sym none ∙ its_now.slot);
      },
      refl,
    )

module _ (i : Image) (t t' later : State) (h : ℕ) (x x' : CodeHart) (below : h < harts_in i.all.schedule)
    (got : slice_get t.harts.items h ≡ Some x) (got' : slice_get t'.harts.items h ≡ Some x') (same : x'.slots ≡ x.slots)
    (off : t.off ≡ t'.off) (more : t'.off ≡ later.off) (begins : NextStands i h t t') where
  -- after the order before, with the switch
  module _ (order : List ℕ) (of_harts : AreHartsOf i order) (stands : StandsFor i (harts_by t.off i order) t) where
    abbrev begun : List ℕ
    begun = order ++ h ∷ []

    next : StandsFor i (harts_by t.off i begun) t'
    next = begins order of_harts stands

    next_here : StandsFor i (harts_by t'.off i begun) t'
    next_here = subst (λ (o : Option Guard). StandsFor i (harts_by o i begun) t') off next

    of_harts_too : AreHartsOf i begun
    of_harts_too = All-push (λ (j : ℕ). j < harts_in i.all.schedule) order h of_harts below

    with_switch : EndsSlot i begun h later → EndsSlot i order h later
    with_switch rest =
        let slots : slots_of h (harts_by t.off i begun) ≡ slots_of h (harts_by t.off i order) =
        sym (next.each_hart h x' got').slots ∙ same ∙ (stands.each_hart h x got).slots in
        let all : begun ++ replicate rest.events h ≡ order ++ replicate (suc rest.events) h =
        append_assoc order (h ∷ []) (replicate rest.events h) in
        let as_before = sym (off ∙ more) in
        record {
          events = suc rest.events;
          stands = subst (λ (o : List ℕ). StandsFor i (harts_by later.off i o) later) all rest.stands;
          slots =
              ap (λ (o : List ℕ). slots_of h (harts_by later.off i o)) (sym all) ∙ rest.slots
              ∙ ap suc (ap (λ (o : Option Guard). slots_of h (harts_by o i begun)) as_before ∙ slots
              ∙ ap (λ (o : Option Guard). slots_of h (harts_by o i order)) (sym as_before));
          outside = subst (λ (o : List ℕ). (progress_of h (harts_by later.off i o)).inside ≡ false) all rest.outside;
        }

  pub through_begun : SlotEnds i h t' later → SlotEnds i h t later
  through_begun ends order of_harts stands =
      with_switch order of_harts stands
      (ends (order ++ h ∷ []) (of_harts_too order of_harts stands) (next_here order of_harts stands))

  pub through_counted : (events : ℕ) → SlotEndsIn i h events t' later → SlotEndsIn i h (suc events) t later
  unfolding with_switch
  through_counted events ends order of_harts stands =
      let rest = ends (order ++ h ∷ []) (of_harts_too order of_harts stands) (next_here order of_harts stands) in
      (with_switch order of_harts stands rest.0, ap suc rest.1)

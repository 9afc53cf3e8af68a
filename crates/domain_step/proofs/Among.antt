-- One event in a slot in which moments of all domains come, of the code and of the definitions.
use Rattle.std.proofs.Common.{◌≡◌, ℕ, ◌+◌, Bool, true, false, List, length, Option, Some, None, refl, ap, ap₂, sym, subst, ◌∙◌, arith}
use Rattle.std.specs.Prelude.{slice_get}
use Rattle.std.proofs.Math.ListN.{set}
use Rattle.std.proofs.lemmas.List.{length-set}
use Rattle.std.proofs.lemmas.Option.{slice_get_within}
use Rattle.tp_base.specs.Table.{at, put, at-put_same, at-put_other}
use Rattle.phys_mem.specs.Contents.{Contents}
use Rattle.repl_policy.specs.declared.AnyPolicy.{AnyPolicy}
use Rattle.repl_policy.specs.Members.{any_rule, any_stands_for}
use Rattle.guards.specs.declared.Guard.{Guard}
use Rattle.cycle_cost.specs.Costs.{CostTable}
use Rattle.irq_partition.specs.declared.Moment.{Moment}
use Rattle.irq_partition.specs.Interrupts.{next_of}
use Rattle.kernel_clone.specs.declared.CloneLayout.{CloneLayout}
use Rattle.kernel_clone.specs.Footprints.{Layout, WorkDone, delivery_op}
use Rattle.kernel_clone.specs.Models.{layout_model}
use Rattle.mem_system.specs.Hierarchy.{Hierarchy}
use Rattle.mem_system.specs.Cost.{Touch, touched_all}
use Rattle.mem_system.specs.Contents.{SystemContents, SystemSteps, MakesTouches, hierarchy_of}
use Rattle.mem_system.specs.Translation.{KeepsLeaves}
use Rattle.mem_system.specs.Operations.{operation, plain}
use Rattle.call_table.specs.Domain.{Dom, is_running, delivered_on}
use Rattle.call_table.specs.declared.DomainStatus.TheVariants.{Running}
use Rattle.image_check.specs.Image.{Image, own_of}
use Rattle.mail_slots.specs.Boxes.{Boxes}
use Rattle.kernel_call.specs.declared.domain.Domain.{Domain}
use Rattle.kernel_call.specs.Models.{Stands, Becomes}
use Rattle.kernel_call.specs.Threads.{KeepsAtDelivery}
use Rattle.world_view.specs.Frames.{root_of}
use Rattle.world_view.specs.Kernel.{estate, no_dom}
use Rattle.world_view.specs.Event.{delivery_touches, interrupts_of}
use Rattle.world_view.specs.Machine.{Guards, World, Local, caches_of, dom_of, part_of, with_part, with_hart, guards_of, setting_by, delivered, step, Owned, first_due, step_among}
use Rattle.world_view.proofs.opening.Separate.{Separated, separated}
use Rattle.world_view.proofs.facts.FactsLaws.{AllBoth, among_keeps}
use Rattle.world_view.proofs.runs.GuardLaws.{are_guards}
use Rattle.domain_step.specs.Moves as moves
use Rattle.domain_step.specs.Standing.{DomainStands}
use Rattle.domain_step.proofs.Events.{has_still}
use Rattle.domain_step.specs.InSlot.{StandsIn}
use Rattle.domain_step.specs.OpenSlot.{first_among}
use Rattle.domain_step.proofs.Elements.{each_set}
use Rattle.domain_step.proofs.InSlot.{all_both, after_own}
use Rattle.domain_step.proofs.Moments.{among_is}

module _ (off : Option Guard) (i : Image) (d : ℕ) (w : World) (memory : Contents) (mail : Boxes)
    (system : SystemContents AnyPolicy)
    (domains : List Domain) (now : ℕ) (is : StandsIn off i d w memory mail system domains now) where
  abbrev g : Guards
  g = guards_of off i

  abbrev r : Separated i
  r = separated i is.runnable

  -- ---- the moments that are due

  next_there : (e : ℕ) (x : Domain) → slice_get domains e ≡ Some x
      → next_of x.interrupts ≡ next_of (interrupts_of (own_of i e) (dom_of w e))
  unfolding interrupts_of
  next_there e x got =
      let at = is.each_domain e x got in
      ap₂ (λ (ms : List Moment) (n : ℕ). slice_get ms n) at.moments
      (ap (λ (m : Dom). m.delivered) at.dom.same)

  -- whether it runs
  runs_there : (x : Domain) → slice_get domains d ≡ Some x
      → is_running (dom_of w d).status ≡ is_running x.status
  runs_there x got = sym (ap (λ (m : Dom). is_running m.status) (is.each_domain d x got).dom.same)

  -- the first moment that is due
  first_there : first_among now domains (length domains) ≡ first_due i 0 w i.all.domains
  first_there =
      among_is now domains i w is.all_domains is.machine.time next_there (length domains) (omega arith)
      ∙ ap (first_due i 0 w) (is.all_domains ∙ sym r.counted)

  -- ---- an event of domain d itself

  abbrev begun : Local
  begun = part_of 0 d w

  own_if : (b : Bool) (o : Option Owned) (end : ℕ) → is_running (dom_of w d).status ≡ b
      → first_due i 0 w i.all.domains ≡ o
      → (b ≡ true → o ≡ None) → step_among g i 0 d end w ≡ with_part 0 d w (step (setting_by g i d) end begun)
  unfolding step_among
  own_if true None end runs first none = rw (runs, first) refl
  own_if true (Some x) end runs first none = absurd (cc (none refl))
  own_if false o end runs first none = rw runs refl

  -- it doesn't run, or no moment is due
  pub own_event : (end : ℕ) (x : Domain) → slice_get domains d ≡ Some x
      → (is_running x.status ≡ true → first_among now domains (length domains) ≡ None)
      → step_among g i 0 d end w ≡ with_part 0 d w (step (setting_by g i d) end begun)
  own_event end x got none =
      own_if (is_running (dom_of w d).status) (first_due i 0 w i.all.domains) end refl refl
      (λ runs. sym first_there ∙ none (sym (runs_there x got) ∙ runs))

  pub own_stands : (end : ℕ) (x y : Domain) (memory' : Contents) (mail' : Boxes) (system' : SystemContents AnyPolicy)
      (later : ℕ)
      → slice_get domains d ≡ Some x
      → (is_running x.status ≡ true → first_among now domains (length domains) ≡ None)
      → moves.StandsIn any_rule any_stands_for (setting_by g i d) memory' mail' y system' later
      (step (setting_by g i d) end begun)
      → StandsIn off i d (step_among g i 0 d end w) memory' mail' system' (set domains d y) later
  own_stands end x y memory' mail' system' later got none over =
      let s = step (setting_by g i d) end begun in
      let to = own_event end x got none in
      let both = subst (AllBoth i r) to
      (among_keeps i r g d end w is.domain (all_both off i d w memory mail system domains now is)) in
      subst (λ (v : World). StandsIn off i d v memory' mail' system' (set domains d y) later) (sym to)
      (after_own off i d w memory mail system domains now is s x y memory' mail' system' later got both over)

  -- ---- a delivery, to any domain

  due_if : (b : Bool) (o : Owned) (end : ℕ) → is_running (dom_of w d).status ≡ b → b ≡ true
      → first_due i 0 w i.all.domains ≡ Some o
      → step_among g i 0 d end w ≡ with_part 0 o.owner w (delivered (setting_by g i d) o.moment.line
      (part_of 0 o.owner w))
  unfolding step_among
  due_if true o end runs t first = rw (runs, first) refl
  due_if false o end runs t first = absurd (cc t)

  delivery : (end : ℕ) (x : Domain) (o : Owned) → slice_get domains d ≡ Some x → x.status ≡ Running
      → first_among now domains (length domains) ≡ Some o
      → step_among g i 0 d end w ≡ with_part 0 o.owner w (delivered (setting_by g i d) o.moment.line
      (part_of 0 o.owner w))
  delivery end x o got runs first =
      due_if (is_running (dom_of w d).status) o end refl (runs_there x got ∙ ap is_running runs)
      (sym first_there ∙ first)

  -- what it touches is the work of the clone of domain d
  touches_there : (layout : CloneLayout) (work : WorkDone) → layout_model layout ≡ g.clone d
      → work ≡ plain delivery_op
      → operation system.core.costs (layout_model layout) work ≡ delivery_touches i.all.hardware (g.clone d)
  unfolding delivery_touches
  touches_there layout work same work_is =
      let costs : i.all.hardware.costs ≡ system.core.costs =
      (are_guards i r off).costs ∙ ap (λ (h : Hierarchy). h.costs) is.machine.levels in
      ap (λ (c : CostTable). operation c (layout_model layout) work) (sym costs)
      ∙ ap (λ (l : Layout). operation i.all.hardware.costs l work) same
      ∙ ap (operation i.all.hardware.costs (g.clone d)) work_is

  pub due_stands : (end : ℕ) (x y z : Domain) (o : Owned) (work : WorkDone)
      (system' : SystemContents AnyPolicy) (cycles later : ℕ)
      → slice_get domains d ≡ Some x → x.status ≡ Running → slice_get domains o.owner ≡ Some y
      → first_among now domains (length domains) ≡ Some o
      → Becomes (delivered_on o.moment.line) y z → KeepsAtDelivery y z → work ≡ plain delivery_op
      → MakesTouches any_rule any_stands_for (operation system.core.costs (layout_model x.layout) work)
      cycles system system'
      → system'.core.tlb ≡ system.core.tlb → later ≡ now + cycles
      → StandsIn off i d (step_among g i 0 d end w) memory mail system' (set domains o.owner z) later
  unfolding with_part with_hart at put delivered
  due_stands end x y z o work system' cycles later got runs of_owner first becomes keeps work_is made
      buffer time =
      let p = i.all.hardware in
      let to = delivery end x o got runs first in
      let s = delivered (setting_by g i d) o.moment.line (part_of 0 o.owner w) in
      let both = subst (AllBoth i r) to
      (among_keeps i r g d end w is.domain (all_both off i d w memory mail system domains now is)) in
      let ts = delivery_touches p (g.clone d) in
      let makes : MakesTouches any_rule any_stands_for ts cycles system system' =
      subst (λ (us : List Touch). MakesTouches any_rule any_stands_for us cycles system system')
      (touches_there x.layout work (is.each_domain d x got).layout work_is) made in
      let steps : SystemSteps any_stands_for cycles system'
      (touched_all g.levels false (caches_of 0 w) ts) =
      subst (λ (h : Hierarchy). SystemSteps any_stands_for cycles system'
      (touched_all h false (caches_of 0 w) ts)) (sym is.machine.levels)
      (subst (λ (b : Bool). SystemSteps any_stands_for cycles system'
      (touched_all (hierarchy_of any_rule system) b (caches_of 0 w) ts)) is.machine.pinned
      (makes.steps (caches_of 0 w) is.machine.caches)) in
      let was = is.each_domain o.owner y of_owner in
      let within = slice_get_within domains o.owner y of_owner in
      let dom : Stands z (delivered_on o.moment.line (dom_of w o.owner)) =
      subst (λ (m : Dom). Stands z (delivered_on o.moment.line m)) was.dom.same
      (becomes (dom_of w o.owner).readings (dom_of w o.owner).replies was.dom.readings was.dom.replies) in
      let new : DomainStands (setting_by g i o.owner) z (delivered_on o.moment.line (dom_of w o.owner)) =
      record {
        dom = dom;
        has = has_still (estate p (own_of i o.owner)) y z was.has keeps.caps keeps.pool keeps.map keeps.calls keeps.number;
        layout = ap (λ (c : CloneLayout). layout_model c) keeps.layout ∙ was.layout;
        moments = keeps.moments ∙ was.moments;
      } in
      subst (λ (v : World). StandsIn off i d v memory mail system' (set domains o.owner z) later) (sym to)
      (record {
        runnable = is.runnable;
        domain = is.domain;
        machine = record {
          frames = is.machine.frames;
          holds = is.machine.holds;
          boxes = is.machine.boxes;
          levels = is.machine.levels ∙ sym makes.same;
          pinned = makes.pinned ∙ is.machine.pinned;
          caches = steps.next;
          time = omega (arith, time, steps.cost, is.machine.time);
        };
        all_domains = length-set domains o.owner z ∙ is.all_domains;
        each_domain =
            each_set (λ j q. DomainStands (setting_by g i j) q (dom_of w j))
            (λ j q. DomainStands (setting_by g i j) q (dom_of (with_part 0 o.owner w s) j))
            domains o.owner z within
            (subst (DomainStands (setting_by g i o.owner) z)
            (sym (at-put_same no_dom w.doms o.owner s.dom)) new)
            (λ j q apart. subst (DomainStands (setting_by g i j) q)
            (sym (at-put_other no_dom w.doms o.owner j s.dom apart)))
            is.each_domain;
        each_facts = λ e ie. (both e ie).facts;
        each_rights = λ e ie. (both e ie).rights;
        leaves =
            subst (KeepsLeaves w.storage.mem memory.frames (root_of p (own_of i d))) (sym buffer) is.leaves;
      })

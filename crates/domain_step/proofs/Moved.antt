-- A domain in its slot, of the code and of the definitions.
use Rattle.std.proofs.Common.{◌≡◌, ◌≢◌, ℕ, zero, suc, ◌+◌, ◌<◌, ◌≤◌, Bool, List, [], ◌∷◌, length, Option, Some, None, leb, true, false, inl, inr, refl, sym, ap, subst, ◌∙◌, arith}
use Rattle.std.specs.Prelude.{option_map, slice_get}
use Rattle.std.proofs.lemmas.Bool.{cases_Bool, cases_lt, lt-leb}
use Rattle.std.proofs.lemmas.Option.{none-some}
use Rattle.phys_mem.specs.Contents.{Contents}
use Rattle.irq_partition.specs.declared.Moment.{Moment}
use Rattle.irq_partition.specs.Interrupts.{Interrupts, next_of, cycle_of, line_by, next_cycle, due}
use Rattle.thread_set.specs.Threads.{is_ready}
use Rattle.cap_table.specs.Slots.{Slots}
use Rattle.cycle_cost.specs.Costs.{CostTable}
use Rattle.kernel_clone.specs.Footprints.{Layout, WorkDone, delivery_op}
use Rattle.kernel_clone.specs.declared.CloneLayout.{CloneLayout}
use Rattle.kernel_clone.specs.Models.{layout_model}
use Rattle.tlb_model.specs.Buffer.{Buffer}
use Rattle.set_cache.specs.Rule.{Rule}
use Rattle.mem_system.specs.Cost.{Touch, Touched, at_no_cost, touched_all}
use Rattle.mem_system.specs.Contents.{SystemContents, MakesTouches, hierarchy_of}
use Rattle.mem_system.specs.Translation.{KeepsLeaves}
use Rattle.mem_system.specs.Operations.{operation, plain}
use Rattle.call_table.specs.declared.DomainStatus.{DomainStatus}
use Rattle.call_table.specs.declared.DomainStatus.TheVariants.{Running, Exited, Stopped}
use Rattle.call_table.specs.Domain.{Dom, is_running, delivered_on}
use Rattle.call_table.specs.Claims.{is_mine, claims, Facts}
use Rattle.mail_slots.specs.Boxes.{Boxes}
use Rattle.kernel_call.specs.declared.domain.Domain.{Domain}
use Rattle.kernel_call.specs.Models.{Becomes, Stands}
use Rattle.world_view.specs.Kernel.{estate}
use Rattle.world_view.specs.Event.{Act, instruction, interrupts_of, idle_until, delivery_touches}
use Rattle.world_view.specs.Machine.{Setting, Local, paid, delivered, step, stretch}
use Rattle.world_view.proofs.steps.Fuel.{IsTimed, idle_past, step_later, stretch_step, stretch_done}
use Rattle.world_view.proofs.steps.CodeLaws.{step-running, step-due, step-idle, step-still}
use Rattle.domain_step.specs.Kept.{Fits, KeptOf}
use Rattle.domain_step.specs.Stands.{GoesOn, IsPlain, IsOther}
use Rattle.domain_step.specs.Moves.{Yields, Left, Leaves, StandsIn, Moves, Runs, Happen, MovesAlong}
use Rattle.domain_step.proofs.Charges.{same_costs, owed, fits_still, steps_there}
use Rattle.domain_step.proofs.Events.{has_still}

pub not_running : (status : DomainStatus) → status ≢ Running → is_running status ≡ false
not_running Running other = absurd (other refl)
not_running (Exited code) other = refl
not_running (Stopped code pc value) other = refl

-- ---- moments

-- the line of a moment, if it is there
abbrev line_of : Option Moment → Option ℕ
line_of next = option_map (λ x. x.line) next

line_of_next : (now line : ℕ) (next : Option Moment) → line_by now next ≡ Some line
    → line_of next ≡ Some line
line_of_next now line None is = absurd (none-some line is)
line_of_next now line (Some x) is =
    elim (cases_Bool (leb x.at now)) [
      | inl come ↦ rw come at is
      | inr later ↦ absurd (none-some line (rw later at is))
    ]

-- what is due is the next moment's line
pub due_line : (s : Interrupts) (now line : ℕ) → due now s ≡ Some line → line_of (next_of s) ≡ Some line
unfolding due
due_line s now line is = line_of_next now line (next_of s) is

left_of_next : (xs : List Moment) (n line : ℕ) → line_of (slice_get xs n) ≡ Some line → n < length xs
left_of_next [] n line is = absurd (none-some line is)
left_of_next (x ∷ xs) zero line is = omega arith
left_of_next (x ∷ xs) (suc n) line is = let rest = left_of_next xs n line is in omega (arith, rest)

-- a moment that is due is left
pub due_left : (s : Interrupts) (now line : ℕ) → due now s ≡ Some line → s.delivered < length s.moments
due_left s now line is = left_of_next s.moments s.delivered line (due_line s now line is)

-- where none is due, the next is later, and so is the end
pub idle_later : (s : Interrupts) (now end : ℕ) → now < end → due now s ≡ None
    → now < idle_until end (next_cycle s)
unfolding due next_cycle
idle_later s now end early none = idle_past now end (next_of s) early none

is_due : (s : Interrupts) (now end : ℕ) → now < end → idle_until end (next_cycle s) ≤ now
    → (o : Option ℕ) → due now s ≡ o → (line : ℕ) × (o ≡ Some line)
is_due s now end before early None none = absurd (omega (arith, early, idle_later s now end before none))
is_due s now end before early (Some line) is = (line, refl)

-- where the next isn't later, and the end is, some line is due
pub due_by : (s : Interrupts) (now end : ℕ) → now < end → idle_until end (next_cycle s) ≤ now
    → (line : ℕ) × (due now s ≡ Some line)
due_by s now end before early = is_due s now end before early (due now s) refl

not_yet : (now end : ℕ) (next : Option Moment) → now < idle_until end (cycle_of next)
    → line_by now next ≡ None
not_yet now end None early = refl
not_yet now end (Some x) early =
    let later : now < x.at = omega (arith, early) in
    rw (lt-leb x.at now later) refl

-- and until then none is due
pub none_before : (s : Interrupts) (now end : ℕ) → now < idle_until end (next_cycle s) → due now s ≡ None
unfolding due next_cycle
none_before s now end early = not_yet now end (next_of s) early

-- a domain that goes on is still one whose next event is an instruction
pub plain_on : (old new : Domain) (now : ℕ) → GoesOn old new → IsPlain old now → IsPlain new now
plain_on old new now on plain = record {
  running = on.status ∙ plain.running;
  ready = ap is_ready on.thread ∙ plain.ready;
  none = ap (due now) on.interrupts ∙ plain.none;
}

never : (b : Bool) (now end : ℕ) → now < end → (b ≡ true → end ≤ now) → b ≡ false
never false now end early other = refl
never true now end early other = absurd (omega (arith, early, other refl))

-- one that runs, at a clock at which no moment is due, has no thread that is ready where no instruction comes next
pub not_ready : (d : Domain) (now end : ℕ) → now < end → d.status ≡ Running → due now d.interrupts ≡ None
    → IsOther d now end → is_ready d.threads.active.state ≡ false
not_ready d now end early running none other =
    never (is_ready d.threads.active.state) now end early
    (λ ready. other (record { running = running; ready = ready; none = none }))

-- from then on no instruction comes next before the end
pub other_from : (d : Domain) (now end : ℕ) → idle_until end (next_cycle d.interrupts) ≤ now
    → IsOther d now end
other_from d now end late plain =
    elim (cases_lt now end) [
      | inl early ↦ absurd (omega (arith, late, idle_later d.interrupts now end early plain.none))
      | inr over ↦ over
    ]

-- ---- events that happen

module _ (w : Setting) (end until : ℕ) where
  pub happen_then : (n m : ℕ) (s x y : Local) → Happen w end until n s x → Happen w end until m x y
      → Happen w end until (n + m) s y
  happen_then zero m s x y here more =
      let count : m ≡ 0 + m = omega arith in
      subst (λ (k : ℕ). Happen w end until k s y) count (subst (λ (z : Local). Happen w end until m z y) (sym here) more)
  happen_then (suc n) m s x y (early, rest) more =
      let count : suc (n + m) ≡ suc n + m = omega arith in
      subst (λ (k : ℕ). Happen w end until k s y) count (early, happen_then n m (step w end s) x y rest more)

pub happen_sooner : (w : Setting) (end sooner until : ℕ) → sooner ≤ until → (n : ℕ) (s x : Local)
    → Happen w end sooner n s x → Happen w end until n s x
happen_sooner w end sooner until most zero s x here = here
happen_sooner w end sooner until most (suc n) s x (early, rest) =
    (omega (arith, early, most), happen_sooner w end sooner until most n (step w end s) x rest)

module _ (w : Setting) (timed : IsTimed w.machine) (end until : ℕ) where
  pub whole_slot : until ≡ end → (n : ℕ) (s x : Local) → Happen w end until n s x → end ≤ x.clock → stretch w end s ≡ x
  whole_slot all zero s x here past =
      stretch_done w timed end s (subst (λ (y : Local). end ≤ y.clock) (sym here) past) ∙ here
  whole_slot all (suc n) s x (early, rest) past =
      stretch_step w timed end s (omega (arith, early, all)) ∙ whole_slot all n (step w end s) x rest past

  no_more : (n : ℕ) (s x : Local) → until ≤ s.clock → Happen w end until n s x → s ≡ x
  no_more zero s x past here = here
  no_more (suc n) s x past (early, rest) = absurd (omega (arith, early, past))

  -- each event takes a cycle or more
  pub one_event : until ≤ end → (n : ℕ) (s x : Local) → until ≡ s.clock + 1 → Happen w end until n s x → until ≤ x.clock
      → step w end s ≡ x
  one_event within zero s x one here past =
      let same = ap (λ (y : Local). y.clock) here in
      absurd (omega (arith, one, same, past))
  one_event within (suc n) s x one (early, rest) past =
      let later = step_later w timed end s (omega (arith, early, within)) in
      no_more n (step w end s) x (omega (arith, one, later)) rest

-- ---- between events

module _ {P : Type 0} (rule : P → ℕ → Rule) (stands : P → ℕ → ℕ → List ℕ → Type 0) where
  -- an instruction costs in the machine what it does in the hierarchy
  same_base : (w : Setting) (memory : Contents) (system : SystemContents P) → Fits rule w memory system
      → w.machine.costs.base ≡ system.core.costs.base
  same_base w memory system fits = ap (λ (c : CostTable). c.base) (same_costs rule w memory system fits)

  -- one step in a slot that ends then
  abbrev step_to : ℕ → Setting → Local → Local
  step_to end w = step w end

  -- the definitions' domain has the same interrupts, and the same current thread
  module _ (w : Setting) (memory : Contents) (mail : Boxes) (d : Domain) (system : SystemContents P) (now : ℕ) (s : Local)
      (i : StandsIn rule stands w memory mail d system now s) where
    -- between events nothing is spent
    opens : KeptOf rule stands w d memory mail system 0 s.storage (at_no_cost s.caches)
    opens = record {
      fits = i.fits;
      facts = i.facts;
      boxes = i.boxes;
      layout = i.layout;
      leaves = i.leaves;
      cost = refl;
      caches = i.caches;
    }

    interrupts_there : interrupts_of w.own s.dom ≡ d.interrupts
    unfolding interrupts_of
    interrupts_there =
        ap (λ (m : Dom). record { moments = w.own.moments; delivered = m.delivered; bits = m.bits })
        (sym i.dom.same)
        ∙ ap
        (λ (ms : List Moment).
        record { moments = ms; delivered = d.interrupts.delivered; bits = d.interrupts.bits })
        (sym i.moments)

    due_there : due s.clock (interrupts_of w.own s.dom) ≡ due now d.interrupts
    due_there =
        ap (λ (t : ℕ). due t (interrupts_of w.own s.dom)) (sym i.time) ∙ ap (due now) interrupts_there

    none_there : due now d.interrupts ≡ None → due s.clock (interrupts_of w.own s.dom) ≡ None
    none_there none = due_there ∙ none

    ready_there : (b : _) → is_ready d.threads.active.state ≡ b
        → is_ready s.dom.threads.current.state ≡ b
    ready_there b is = ap (λ (m : Dom). is_ready m.threads.current.state) (sym i.dom.same) ∙ is

    running_is : is_running s.dom.status ≡ is_running d.status
    running_is = ap (λ (m : Dom). is_running m.status) (sym i.dom.same)

    running_there : d.status ≡ Running → is_running s.dom.status ≡ true
    running_there runs = running_is ∙ ap is_running runs

    -- the code has the same, and only the clock is another
    same_at : (later : ℕ) (t : ℕ) → later ≡ t
        → StandsIn rule stands w memory mail d system later (record s { clock = t })
    same_at later t is = record {
      fits = i.fits;
      dom = i.dom;
      facts = i.facts;
      boxes = i.boxes;
      layout = i.layout;
      leaves = i.leaves;
      caches = i.caches;
      moments = i.moments;
      time = is;
    }

  module _ (end : ℕ) (memory memory' : Contents) (mail mail' : Boxes) (old new : Domain)
      (system system' : SystemContents P) where
    -- the instruction of a setting's domain, at a clock
    abbrev instruction_at : Setting → ℕ → Dom → Act Dom
    instruction_at w t m =
        instruction w.machine (estate w.machine w.own) w.clone t m

    pub moves_running : (now later base spent : ℕ) → old.status ≡ Running
        → ((w : Setting) → Leaves w (instruction_at w now)
        old (KeptOf rule stands w old memory mail system 0) new (KeptOf rule stands w new memory' mail' system' spent))
        → due now old.interrupts ≡ None → is_ready old.threads.active.state ≡ true
        → new.interrupts.moments ≡ old.interrupts.moments
        → base ≡ system'.core.costs.base → later ≡ now + base + spent
        → Moves rule stands (step_to end) memory mail old system now memory' mail' new system' later
    unfolding paid
    moves_running now later base spent runs leaves none ready moments price is w s i =
        let K = KeptOf rule stands w new memory' mail' system' spent in
        let Does : ℕ → Dom → Type 0 =
        λ t m. Yields w (instruction_at w t m) s.storage (at_no_cost s.caches) (Left new K) in
        let left : Does now s.dom =
        subst (Does now) i.dom.same
        (leaves w s.storage (at_no_cost s.caches) s.dom.readings s.dom.replies
        (opens w memory mail old system now s i) i.dom.readings i.dom.replies) in
        let next : Does s.clock s.dom = subst (λ (t : ℕ). Does t s.dom) i.time left in
        let r = instruction_at w s.clock s.dom s.storage in
        let q = touched_all w.levels w.pinned s.caches r.notes in
        let kept : K r.state q =
        subst (λ (x : Touched). K r.state x) (owed w s.caches r.notes) next.met.kept in
        let base_is : w.machine.costs.base ≡ base = same_base w memory' system' kept.fits ∙ sym price in
        let runs_one =
        step-running w end s (running_there w memory mail old system now s i runs)
        (none_there w memory mail old system now s i none) (ready_there w memory mail old system now s i true ready) in
        subst (StandsIn rule stands w memory' mail' new system' later) (sym runs_one) (record {
          fits = kept.fits;
          dom = next.met.dom;
          facts = kept.facts;
          boxes = kept.boxes;
          layout = kept.layout;
          leaves = kept.leaves;
          caches = kept.caches;
          moments = moments ∙ i.moments;
          time = omega (arith, is, i.time, base_is, kept.cost);
        })

    -- what they stand for after some change of it
    module _ (f : Setting → Local → Local) (now later : ℕ)
        (moves : Moves rule stands f memory mail old system now memory' mail' new system' later)
        (runs : Runs rule stands memory mail old system now) where
      -- then
      abbrev stands_then : StandsIn rule stands runs.setting memory' mail' new system' later
          (f runs.setting runs.state)
      stands_then = moves runs.setting runs.state runs.stands_in

      pub runs_on : Runs rule stands memory' mail' new system' later
      runs_on = record {
        setting = runs.setting;
        state = f runs.setting runs.state;
        stands_in = stands_then;
      }

      pub hierarchy_stays : hierarchy_of rule system' ≡ hierarchy_of rule system
      hierarchy_stays = sym stands_then.fits.levels ∙ runs.stands_in.fits.levels

      pub pinned_stays : system'.core.pinned ≡ system.core.pinned
      pinned_stays = stands_then.fits.pinned ∙ sym runs.stands_in.fits.pinned

  module _ (end : ℕ) (memory : Contents) (mail : Boxes) (d : Domain) (system : SystemContents P) (now : ℕ) where
    -- only the clock goes on
    abbrev Waits : ℕ → Type 0
    Waits later = Moves rule stands (step_to end) memory mail d system now memory mail d system later

    pub moves_still : is_running d.status ≡ false → Waits end
    moves_still still w s i =
        let stays : is_running s.dom.status ≡ false = running_is w memory mail d system now s i ∙ still in
        subst (StandsIn rule stands w memory mail d system end)
        (sym (step-still w end s stays))
        (same_at w memory mail d system now s i end end refl)

    -- no thread is ready: the clock goes on alone
    pub moves_idle : (later : ℕ) → d.status ≡ Running → due now d.interrupts ≡ None
        → is_ready d.threads.active.state ≡ false → later ≡ idle_until end (next_cycle d.interrupts)
        → Waits later
    moves_idle later runs none idle is w s i =
        let same = interrupts_there w memory mail d system now s i in
        let goes =
        step-idle w end s (running_there w memory mail d system now s i runs)
        (none_there w memory mail d system now s i none) (ready_there w memory mail d system now s i false idle) in
        let t : ℕ = idle_until end (next_cycle (interrupts_of w.own s.dom)) in
        subst (StandsIn rule stands w memory mail d system later) (sym goes)
        (same_at w memory mail d system now s i later t
        (is ∙ ap (λ (x : Interrupts). idle_until end (next_cycle x)) (sym same)))

  module _ (end : ℕ) (memory : Contents) (mail : Boxes) (old new : Domain) (system system' : SystemContents P) where
    -- what a delivery touches in the machine
    module _ (w : Setting) (k : CloneLayout) (work : WorkDone) (fits : Fits rule w memory system)
        (same : layout_model k ≡ w.clone) (is : work ≡ plain delivery_op) where
      touches_there : operation system.core.costs (layout_model k) work
          ≡ delivery_touches w.machine w.clone
      unfolding delivery_touches
      touches_there =
          ap (λ (c : CostTable). operation c (layout_model k) work)
          (sym (same_costs rule w memory system fits))
          ∙ ap (λ (l : Layout). operation w.machine.costs l work) same
          ∙ ap (λ (x : WorkDone). operation w.machine.costs w.clone x) is

    -- a moment is delivered
    pub moves_due : (now later cycles line : ℕ) (work : WorkDone) → old.status ≡ Running
        → due now old.interrupts ≡ Some line
        → Becomes (delivered_on line) old new → new.caps ≡ old.caps → new.pool ≡ old.pool
        → new.map ≡ old.map → new.layout ≡ old.layout → new.calls ≡ old.calls → new.number ≡ old.number
        → new.interrupts.moments ≡ old.interrupts.moments → work ≡ plain delivery_op
        → MakesTouches rule stands (operation system.core.costs (layout_model new.layout) work) cycles
        system system'
        → system'.core.tlb ≡ system.core.tlb → later ≡ now + cycles
        → Moves rule stands (step_to end) memory mail old system now memory mail new system' later
    unfolding delivered
    moves_due now later cycles line work runs comes becomes caps pool map clone calls number moments is made buffer time
        w s i =
        let e = estate w.machine w.own in
        let ts = delivery_touches w.machine w.clone in
        let placed : layout_model new.layout ≡ w.clone =
        ap (λ (c : CloneLayout). layout_model c) clone ∙ i.layout in
        let makes : MakesTouches rule stands ts cycles system system' =
        subst (λ (us : List Touch). MakesTouches rule stands us cycles system system')
        (touches_there w new.layout work i.fits placed is) made in
        let steps =
        steps_there rule stands w memory system system' ts cycles s.caches makes i.fits
        (makes.steps s.caches i.caches) in
        let dom : Stands new (delivered_on line s.dom) =
        subst (λ (m : Dom). Stands new (delivered_on line m)) i.dom.same
        (becomes s.dom.readings s.dom.replies i.dom.readings i.dom.replies) in
        let due_is = due_there w memory mail old system now s i ∙ comes in
        let goes =
        step-due w end s line (running_there w memory mail old system now s i runs)
        due_is in
        let FactsOf : Slots → Type 0 = λ slots. Facts e.root (is_mine e) (claims e slots) s.storage.mem in
        let Keeps : ℕ → Buffer P → Type 0 = λ n b. KeepsLeaves s.storage.mem memory.frames n b in
        subst (StandsIn rule stands w memory mail new system' later) (sym goes) (record {
          fits = fits_still rule stands w memory system system' ts cycles makes i.fits;
          dom = dom;
          facts = record {
            estate = i.facts.estate;
            frames = i.facts.frames;
            has = has_still e old new i.facts.has caps pool map calls number;
            holds = i.facts.holds;
            facts = subst FactsOf (sym caps) i.facts.facts;
          };
          boxes = i.boxes;
          layout = placed;
          leaves = subst (λ (b : Buffer P). Keeps new.map b) (sym buffer)
              (subst (λ (n : ℕ). Keeps n system.core.tlb) (sym map) i.leaves);
          caches = steps.next;
          moments = moments ∙ i.moments;
          time = omega (arith, time, i.time, steps.cost);
        })

  -- ---- events along a slot

  module _ (end until : ℕ) where
    abbrev pub Along : (events : ℕ) → Contents → Boxes → Domain → SystemContents P → ℕ
        → Contents → Boxes → Domain → SystemContents P → ℕ → Type 0
    Along = MovesAlong rule stands end until

    pub along_none : (memory : Contents) (mail : Boxes) (d : Domain) (system : SystemContents P) (now : ℕ)
        → Along 0 memory mail d system now memory mail d system now
    along_none memory mail d system now w s i = record { state = s; each = refl; stands_in = i }

    -- those before a clock that is no later are events before this one, too
    pub along_then : (memory between memory' : Contents) (mail midway mail' : Boxes) (old now new : Domain)
        (system middle system' : SystemContents P) (first clock later sooner n k all : ℕ) → sooner ≤ until → all ≡ n + k
        → Along n memory mail old system first between midway now middle clock
        → MovesAlong rule stands end sooner k between midway now middle clock memory' mail' new system' later
        → Along all memory mail old system first memory' mail' new system' later
    along_then memory between memory' mail midway mail' old now new system middle system' first clock later sooner n k all
        most sum so_far more w s i =
        let x = so_far w s i in
        let y = more w x.state x.stands_in in
        record {
          state = y.state;
          each =
              subst (λ (m : ℕ). Happen w end until m s y.state) (sym sum)
              (happen_then w end until n k s x.state y.state x.each
              (happen_sooner w end sooner until most k x.state y.state y.each));
          stands_in = y.stands_in;
        }

    pub along_step : (memory : Contents) (mail : Boxes) (old : Domain) (system : SystemContents P) (first : ℕ)
        (memory' : Contents) (mail' : Boxes) (new : Domain) (system' : SystemContents P) (later : ℕ) → first < until
        → Moves rule stands (λ w. step w end) memory mail old system first memory' mail' new system' later
        → Along 1 memory mail old system first memory' mail' new system' later
    along_step memory mail old system first memory' mail' new system' later below moves w s i =
        let early : s.clock < until = subst (λ (n : ℕ). n < until) i.time below in
        record { state = step w end s; each = (early, refl); stands_in = moves w s i }

    module _ (memory : Contents) (mail : Boxes) (old : Domain) (system : SystemContents P) (first : ℕ)
        (base : 0 < system.core.costs.base) (trap : 0 < system.core.costs.trap)
        (memory' : Contents) (mail' : Boxes) (now : Domain) (system' : SystemContents P) (clock n : ℕ)
        (so_far : Along n memory mail old system first memory' mail' now system' clock) (past : until ≤ clock) where
      timed_there : (w : Setting) (s : Local) → StandsIn rule stands w memory mail old system first s
          → IsTimed w.machine
      timed_there w s i = record {
        base = subst (λ (n : ℕ). 0 < n) (sym (same_base w memory system i.fits)) base;
        trap = subst (λ (n : ℕ). 0 < n) (sym (ap (λ (c : CostTable). c.trap) (same_costs rule w memory system i.fits))) trap;
      }

      over : (w : Setting) (s : Local) (i : StandsIn rule stands w memory mail old system first s)
          → until ≤ ((so_far w s i).state).clock
      over w s i = subst (λ (n : ℕ). until ≤ n) (so_far w s i).stands_in.time past

      -- up to the end they are the whole slot
      pub along_whole : until ≡ end
          → Moves rule stands (λ w. stretch w end) memory mail old system first memory' mail' now system' clock
      along_whole all w s i =
          let x = so_far w s i in
          let far = over w s i in
          let same : stretch w end s ≡ x.state =
          whole_slot w (timed_there w s i) end until all n s x.state x.each (omega (arith, far, all)) in
          subst (StandsIn rule stands w memory' mail' now system' clock) (sym same) x.stands_in

      -- within a cycle they are one
      pub along_once : until ≤ end → until ≡ first + 1
          → Moves rule stands (λ w. step w end) memory mail old system first memory' mail' now system' clock
      along_once within one w s i =
          let x = so_far w s i in
          let far = over w s i in
          let here = i.time in
          let same : step w end s ≡ x.state =
          one_event w (timed_there w s i) end until within n s x.state (omega (arith, one, here)) x.each far in
          subst (StandsIn rule stands w memory' mail' now system' clock) (sym same) x.stands_in

-- A slot of the code's domain alone, and of the definitions.
use Rattle.mail_slots.specs.Boxes.{Boxes, opening, ends}
use Rattle.mail_slots.specs.Sides.{bring}
use Rattle.std.proofs.Common.{[], ap₂, ◌≡◌, ℕ, Bool, true, List, refl, sym, ap, subst, subst₂, ◌∙◌}
use Rattle.tp_base.specs.Table.{empty}
use Rattle.phys_mem.specs.Contents.{Contents}
use Rattle.phys_mem.specs.Holds.{Holds}
use Rattle.phys_mem.specs.Mem.{Mem}
use Rattle.repl_policy.specs.declared.AnyPolicy.{AnyPolicy}
use Rattle.repl_policy.specs.Members.{any_rule, any_stands_for}
use Rattle.cycle_cost.specs.Costs.{CostTable}
use Rattle.kernel_clone.specs.Footprints.{Layout}
use Rattle.mem_system.specs.Hierarchy.{Hierarchy}
use Rattle.mem_system.specs.Cost.{Touch, Core, Caches, EmptyTlb, Flush, fresh_core, cold, touched, touched_all, on_core, pass_on, below_all}
use Rattle.set_cache.specs.Cache.{Sets}
use Rattle.mem_system.specs.Contents.{SystemContents, SystemStands, MakesTouch, MakesTouches, hierarchy_of}
use Rattle.mem_system.specs.Translation.{KeepsLeaves}
use Rattle.mem_system.specs.Operations.{enter, leave}
use Rattle.sched_table.specs.Schedule.{start}
use Rattle.cap_table.specs.Slots.{Slots}
use Rattle.call_table.specs.Domain.{Dom}
use Rattle.call_table.specs.Claims.{is_mine, claims, Facts}
use Rattle.kernel_call.specs.declared.domain.Domain.{Domain}
use Rattle.kernel_call.specs.Facts as call
use Rattle.kernel_call.specs.Facts.{Has}
use Rattle.kernel_call.specs.Models.{Stands}
use Rattle.hardware_check.specs.Hardware.{Hardware}
use Rattle.image_check.specs.Public.{Public}
use Rattle.image_check.specs.Own.{Own}
use Rattle.world_view.specs.Cost.{hierarchy}
use Rattle.world_view.specs.Kernel.{estate, layout}
use Rattle.world_view.specs.Opening.{placed}
use Rattle.world_view.specs.Machine.{setting, Local, enter_part, alone_opening, alone_enter, alone_out, alone_mail, alone}
use Rattle.domain_open.specs.Placing.{IsOpened}
use Rattle.domain_step.specs.Moves.{StandsIn}
use Rattle.domain_step.proofs.Standing.{is_setting, machine_of, domain_of}
use Rattle.alone_run.specs.Runs.{RunsAlone}
use Rattle.alone_run.specs.Standing.{Kept, kept, StandsFor, HasFacts}
use Rattle.alone_run.proofs.States.{kernel, alone_facts, alone_fresh}

-- the code's parts stand for a state of the domain alone
abbrev pub Stand : Hardware → Own → Kept → Local → Type 0
Stand p o k s = StandsIn any_rule any_stands_for (setting p o true) k.memory k.mail k.domain k.system k.clock s

pub stands_of : (p : Hardware) (o : Own) (k : Kept) (s : Local) → Stand p o k s → StandsFor p o s k
stands_of p o k s is =
    let w = setting p o true in
    record {
      machine = machine_of w k.memory k.mail k.domain k.system k.clock s is;
      domain = domain_of w k.memory k.mail k.domain k.system k.clock s is;
    }

pub facts_of : (p : Hardware) (o : Own) (k : Kept) (s : Local) → Stand p o k s → HasFacts p o s k
facts_of p o k s is = record { buffer = is.leaves; facts = is.facts }

-- ---- touches without charge

makes_all : (h : Hierarchy) (b : Bool) (ts : List Touch) (n : ℕ) (old new : SystemContents AnyPolicy)
    (c : Caches) → hierarchy_of any_rule old ≡ h → old.core.pinned ≡ b
    → MakesTouches any_rule any_stands_for ts n old new → SystemStands any_stands_for old c
    → SystemStands any_stands_for new (touched_all h b c ts).caches
makes_all h b ts n old new c levels pinned made is =
    subst₂ (λ (l : Hierarchy) (q : Bool). SystemStands any_stands_for new (touched_all l q c ts).caches)
    levels pinned (made.steps c is).next

makes_one : (h : Hierarchy) (b : Bool) (t : Touch) (n : ℕ) (old new : SystemContents AnyPolicy) (c : Caches)
    → hierarchy_of any_rule old ≡ h → old.core.pinned ≡ b
    → MakesTouch any_rule any_stands_for t n old new → SystemStands any_stands_for old c
    → SystemStands any_stands_for new (touched h b c t).caches
makes_one h b t n old new c levels pinned made is =
    subst₂ (λ (l : Hierarchy) (q : Bool). SystemStands any_stands_for new (touched l q c t).caches) levels pinned (made.steps c is).next

-- a fresh core has nothing in its buffer
empty_is : (h : Hierarchy) (b : Bool) (l2 : Sets)
    → (touched h b (record { core = fresh_core h; l2 = l2 }) EmptyTlb).caches
    ≡ record { core = fresh_core h; l2 = l2 }
unfolding touched on_core fresh_core pass_on below_all
empty_is h b l2 = refl

-- ---- a slot

module _ (p : Public) (o : Own) {number : ℕ} (runs : RunsAlone p o number) where
  has_facts : (d k : ℕ) (memory : Contents) (x : Domain) → memory.frames ≡ p.hardware.frames
      → Holds memory (alone p o d k).storage.mem
      → Stands x (alone p o d k).dom → Has (estate p.hardware o) x
      → call.HasFacts (estate p.hardware o) memory (alone p o d k).storage.mem x
  unfolding estate
  has_facts d k memory x frames holds stands has =
      let h = p.hardware in
      let s = alone p o d k in
      let caps : s.dom.caps ≡ x.caps = sym (ap (λ (m : Dom). m.caps) stands.same) in
      record {
        estate = (kernel p o runs).has_estate;
        frames = sym frames;
        has = has;
        holds = holds;
        facts =
            subst (λ (slots : Slots).
            Facts (estate h o).root (is_mine (estate h o)) (claims (estate h o) slots) s.storage.mem) caps
            (alone_facts p o runs d k).facts;
      }

  -- before the first slot
  pub opened : (d : ℕ) (memory : Contents) (mail : Boxes) (system : SystemContents AnyPolicy) (x : Domain)
      → mail ≡ opening p.mail → memory.frames ≡ p.hardware.frames → Holds memory (placed p.hardware o empty)
      → hierarchy_of any_rule system ≡ hierarchy p.hardware → system.core.pinned ≡ true
      → SystemStands any_stands_for system (cold (hierarchy p.hardware))
      → ((mem : Mem) (frames root : ℕ) → KeepsLeaves mem frames root system.core.tlb) → IsOpened p.hardware o x
      → Stand p.hardware o (kept memory mail system x 0) (alone p o d 0)
  unfolding alone_mail alone_opening
  opened d memory mail system x boxes frames holds levels pinned caches no_leaves is = record {
    fits = record {
      kernel = kernel p o runs;
      sound = is_setting p.hardware o true (kernel p o runs);
      frames = sym frames;
      levels = sym levels;
      pinned = pinned;
    };
    dom = is.stands;
    facts = has_facts d 0 memory x frames holds is.stands is.has;
    boxes = boxes;
    layout = is.layout;
    leaves = no_leaves (placed p.hardware o empty) memory.frames x.map;
    caches = caches;
    moments = is.moments;
    time = refl;
  }

  -- the domain has entered: its core is fresh from the end of its last slot on
  pub begun : (d k : ℕ) (c : Kept) (l : Layout) (empty entered : SystemContents AnyPolicy) (e now : ℕ)
      → StandsFor p.hardware o (alone p o d k) c
      → l ≡ layout p.hardware o
      → MakesTouch any_rule any_stands_for EmptyTlb 0 c.system empty
      → ((mem : Mem) (frames root : ℕ) → KeepsLeaves mem frames root empty.core.tlb)
      → MakesTouches any_rule any_stands_for (enter l) e empty entered → entered.core.tlb ≡ empty.core.tlb
      → now ≡ start p.schedule k
      → Stand p.hardware o (kept c.memory c.mail entered c.domain now) (alone_enter p o k [] (alone p o d k))
  unfolding alone_enter enter_part bring
  begun d k c l empty entered e now is clone empties no_leaves enters buffer time =
      let h = hierarchy p.hardware in
      let s = alone p o d k in
      let m = is.machine in
      let levels : hierarchy_of any_rule empty ≡ h = empties.same ∙ sym m.levels in
      let pinned : empty.core.pinned ≡ true = empties.pinned ∙ m.pinned in
      let was : SystemStands any_stands_for c.system (record s.caches { core = fresh_core h }) =
      subst (λ (core : Core). SystemStands any_stands_for c.system (record s.caches { core = core })) (alone_fresh p o d k) m.caches in
      let fresh : SystemStands any_stands_for empty (record s.caches { core = fresh_core h }) =
      subst (SystemStands any_stands_for empty) (empty_is h true s.caches.l2)
      (makes_one h true EmptyTlb 0 c.system empty (record s.caches { core = fresh_core h }) (sym m.levels) m.pinned empties was) in
      let into : MakesTouches any_rule any_stands_for (enter (layout p.hardware o)) e empty entered =
      subst (λ (x : Layout). MakesTouches any_rule any_stands_for (enter x) e empty entered) clone enters in
      record {
        fits = record {
          kernel = kernel p o runs;
          sound = is_setting p.hardware o true (kernel p o runs);
          frames = sym m.frames;
          levels = sym (enters.same ∙ levels);
          pinned = enters.pinned ∙ pinned;
        };
        dom = is.domain.dom;
        facts = has_facts d k c.memory c.domain m.frames m.holds is.domain.dom is.domain.has;
        boxes = m.boxes;
        layout = is.domain.layout;
        leaves =
            subst (KeepsLeaves s.storage.mem c.memory.frames c.domain.map) (sym buffer)
            (no_leaves s.storage.mem c.memory.frames c.domain.map);
        caches =
            makes_all h true (enter (layout p.hardware o)) e empty entered
            (record s.caches { core = fresh_core h }) levels pinned into fresh;
        moments = is.domain.moments;
        time = time;
      }

-- the domain has left, its dirty lines are written back, and what it put into boxes went off
pub left : (p : Hardware) (o : Own) (c : Kept) (l : Layout) (gone new : SystemContents AnyPolicy) (n f : ℕ) (mail : Boxes)
    (s : Local) → mail ≡ ends c.domain.number c.mail → Stand p o c s
    → l ≡ layout p o → MakesTouches any_rule any_stands_for (leave c.system.core.costs l) n c.system gone
    → MakesTouch any_rule any_stands_for Flush f gone new
    → ((mem : Mem) (frames root : ℕ) → KeepsLeaves mem frames root new.core.tlb)
    → Stand p o (kept c.memory mail new c.domain c.clock) (alone_out p o s)
unfolding alone_out hierarchy estate
left p o c l gone new n f mail s went is clone leaves flushes no_leaves =
    let h = hierarchy p in
    let out : MakesTouches any_rule any_stands_for (leave p.costs (layout p o)) n c.system gone =
    subst₂ (λ (t : CostTable) (x : Layout). MakesTouches any_rule any_stands_for (leave t x) n c.system gone)
    (costs_are p c.system is.fits.levels) clone leaves in
    let caches = makes_all h true (leave p.costs (layout p o)) n c.system gone s.caches (sym is.fits.levels) is.fits.pinned out is.caches in
    record {
      fits = record {
        kernel = is.fits.kernel;
        sound = is.fits.sound;
        frames = is.fits.frames;
        levels = is.fits.levels ∙ sym leaves.same ∙ sym flushes.same;
        pinned = flushes.pinned ∙ leaves.pinned ∙ is.fits.pinned;
      };
      dom = is.dom;
      facts = is.facts;
      boxes = went ∙ ap₂ ends is.facts.has.number is.boxes;
      layout = is.layout;
      leaves = no_leaves s.storage.mem c.memory.frames c.domain.map;
      caches =
          makes_one h true Flush f gone new (touched_all h true s.caches (leave p.costs (layout p o))).caches
          (leaves.same ∙ sym is.fits.levels) (leaves.pinned ∙ is.fits.pinned) flushes caches;
      moments = is.moments;
      time = is.time;
    }
  where
    costs_are : (p : Hardware) (system : SystemContents AnyPolicy)
        → hierarchy p ≡ hierarchy_of any_rule system → system.core.costs ≡ p.costs
    costs_are p system levels = ap (λ (h : Hierarchy). h.costs) (sym levels)

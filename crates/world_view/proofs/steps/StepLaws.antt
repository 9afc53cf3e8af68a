-- Steps of the domain from states that are beside give states that are beside, at equal cost.
use Rattle.mail_slots.specs.Sides.{others_side}
use Rattle.std.proofs.Common.{◌≡◌, ℕ, Bool, true, false, ◌+◌, ◌⊎◌, inl, inr, length, Option, Some, None, List, ap, sym, refl, subst, subst₂}
use Rattle.tp_base.specs.Act.{either}
use Rattle.phys_mem.specs.Mem.{frame_at}
use Rattle.hardware_check.specs.Hardware.{Hardware}
use Rattle.image_check.specs.Own.{Own}
use Rattle.thread_set.specs.Threads.{waiter}
use Rattle.call_table.specs.Domain.{Dom, recorded, with_bit, signalled_by, signalled, delivered_on}
use Rattle.cap_table.specs.Slots.{Slots}
use Rattle.call_table.specs.Claims.{is_mine, claims, Facts}
use Rattle.world_view.specs.Frames.{own_frame}
use Rattle.world_view.specs.Kernel.{estate, layout}
use Rattle.mem_system.specs.Cost.{Touch, Caches, touched_all}
use Rattle.mem_system.specs.Sharing.{BesideTouched}
use Rattle.world_view.specs.Cost.{hierarchy, region, own_colour}
use Rattle.world_view.specs.Event.{Storage, instruction, delivery_touches, Event, event}
use Rattle.world_view.specs.Event.Event.{Jump, Deliver, Run}
use Rattle.world_view.specs.Machine.{setting, Local, paid, delivered, happened, step, steps}
use Rattle.world_view.specs.Relations.{IsKernel, HasFacts, MayAll, Resident, OwnDirty, BesideStorage, BesideCaches, Beside}
use Rattle.world_view.specs.EventLaws.{event_touches, step_touches, StepTouchesLaw}
use Rattle.world_view.proofs.steps.Fuel.{steps_by}
use Rattle.world_view.proofs.touches.CostLaws.{own_touches, own_resident, own_dirties}
use Rattle.world_view.proofs.actions.ActLaws.{Known, Alike, instruction_near}
use Rattle.world_view.proofs.touches.KernelTouches.{delivery_may}

-- the facts hold of the domain that an action gives, whichever way it ends
either_known : (p : Hardware) (o : Own) (v : Dom ⊎ Dom) (s : Storage)
    → Known p o (λ x r. HasFacts p o x r) v s → HasFacts p o (either v) s
unfolding either
either_known p o (inl x) s h = h
either_known p o (inr x) s h = h

-- a delivery leaves capabilities, so the facts hold still
signalled_caps : (line : ℕ) (t : Option ℕ) (d : Dom) → (signalled_by line t d).caps ≡ d.caps
unfolding signalled_by with_bit recorded
signalled_caps line None d = refl
signalled_caps line (Some t) d = refl

pub delivered_caps : (line : ℕ) (d : Dom) → (delivered_on line d).caps ≡ d.caps
unfolding delivered_on signalled
delivered_caps line d = signalled_caps line (waiter line d.threads) (record d { delivered = d.delivered + 1 })

pub delivered_facts : (p : Hardware) (o : Own) (line : ℕ) (d : Dom) (s : Storage) → HasFacts p o d s
    → HasFacts p o (delivered_on line d) s
delivered_facts p o line d s h =
    let same = sym (delivered_caps line d) in
    record {
      slots = subst (λ (caps : Slots). length caps ≡ 64) same h.slots;
      facts = subst (λ (caps : Slots). Facts (estate p o).root (is_mine (estate p o)) (claims (estate p o) caps) s.mem) same h.facts;
    }

module _ (p : Hardware) (o : Own) (end : ℕ) (first : Local) where
  -- the same event, of the same domain at the same clock
  happened_near : (d : Dom) (t : ℕ) (s a : Storage) (c k : Caches) (e : Event) → IsKernel p o
      → HasFacts p o d s → BesideStorage p o first.storage s a → BesideCaches p o first.caches c k
      → Beside p o first
      (happened (setting p o false) (record { dom = d; storage = s; caches = c; clock = t }) e)
      (happened (setting p o true) (record { dom = d; storage = a; caches = k; clock = t }) e)
  unfolding happened paid delivered
  happened_near d t s a c k (Jump u) kernel facts storage caches =
      record { kernel = kernel; dom = refl; facts = facts; storage = storage; caches = caches; clock = refl }
  happened_near d t s a c k (Deliver line) kernel facts storage caches =
      let r = own_touches p o kernel first.caches (delivery_touches p (layout p o)) c k (delivery_may p o kernel) caches in
      record {
        kernel = kernel;
        dom = refl;
        facts = delivered_facts p o line d s facts;
        storage = storage;
        caches = r.caches;
        clock = ap (λ x. t + x) r.cost;
      }
  happened_near d t s a c k Run kernel facts storage caches =
      let n = (instruction_near p o kernel d first.storage t).runs s a storage facts in
      let ts = (instruction p (estate p o) (layout p o) t d s).notes in
      let r =
      subst (λ (us : List Touch). BesideTouched (hierarchy p) (own_colour o) (region p)
      first.caches.l2 (touched_all (hierarchy p) false c ts) (touched_all (hierarchy p) true k us))
      n.notes (own_touches p o kernel first.caches ts c k n.may caches) in
      record {
        kernel = kernel;
        dom = ap either n.value;
        facts =
            either_known p o (instruction p (estate p o) (layout p o) t d s).value
            (instruction p (estate p o) (layout p o) t d s).state n.known;
        storage = n.state;
        caches = r.caches;
        clock = ap (λ x. t + (p.costs.base + x)) r.cost;
      }

  pub step_near : (s a : Local) → Beside p o first s a
      → Beside p o first (step (setting p o false) end s) (step (setting p o true) end a)
  unfolding step
  step_near s a b =
      subst₂ (λ (d : Dom) (t : ℕ). Beside p o first
      (happened (setting p o false) s (event o s.clock end s.dom))
      (happened (setting p o true)
      (record { dom = d; storage = a.storage; caches = a.caches; clock = t }) (event o t end d))) b.dom
      b.clock
      (happened_near s.dom s.clock s.storage a.storage s.caches a.caches (event o s.clock end s.dom) b.kernel b.facts b.storage b.caches)

-- ---- what a step does to the caches

caches_if : (p : Hardware) (o : Own) (pinned : Bool) (s : Local) (e : Event)
    → (happened (setting p o pinned) s e).caches ≡ (touched_all (hierarchy p) pinned s.caches (event_touches p o s e)).caches
unfolding happened paid delivered touched_all
caches_if p o pinned s (Jump t) = refl
caches_if p o pinned s (Deliver line) = refl
caches_if p o pinned s Run = refl

pub step_caches : StepTouchesLaw
unfolding step
step_caches p o pinned end s = caches_if p o pinned s (event o s.clock end s.dom)

-- ---- one machine's steps, whatever its caches hold

-- the domain's facts hold; outside its frames memory is as at first, and so are the boxes but for its side of them
pub record Keeps (p : Hardware) (o : Own) (first : Storage) (s : Local) : Type 0 where
  pub facts : HasFacts p o s.dom s.storage
  pub outside : (f : ℕ) → own_frame p o f ≡ false → frame_at s.storage.mem f ≡ frame_at first.mem f
  pub others : others_side o.number s.storage.boxes ≡ others_side o.number first.boxes

pub keeps_itself : (p : Hardware) (o : Own) (s : Local) → HasFacts p o s.dom s.storage → Keeps p o s.storage s
keeps_itself p o s facts = record { facts = facts; outside = λ f out. refl; others = refl }

module _ (p : Hardware) (o : Own) (kernel : IsKernel p o) where
  -- an instruction beside itself
  ran : (t : ℕ) (first : Storage) (s : Local) → Keeps p o first s
      → Alike p o kernel s.dom first (λ x r. HasFacts p o x r)
      (instruction p (estate p o) (layout p o) t s.dom s.storage)
      (instruction p (estate p o) (layout p o) t s.dom s.storage)
  ran t first s h =
      (instruction_near p o kernel s.dom first t).runs s.storage s.storage
      (record { same = λ f own. refl; outside = h.outside; side = refl; others = h.others }) h.facts

  -- it touches what it may
  pub may_run : (t : ℕ) (s : Local) → HasFacts p o s.dom s.storage
      → MayAll p o (instruction p (estate p o) (layout p o) t s.dom s.storage).notes
  may_run t s facts = (ran t s.storage s (keeps_itself p o s facts)).may

  touches_if : (s : Local) (e : Event) → HasFacts p o s.dom s.storage → MayAll p o (event_touches p o s e)
  touches_if s (Jump t) facts = tt
  touches_if s (Deliver line) facts = delivery_may p o kernel
  touches_if s Run facts = may_run s.clock s facts

  -- and so it does in any step
  pub step_may : (end : ℕ) (s : Local) → HasFacts p o s.dom s.storage → MayAll p o (step_touches p o end s)
  step_may end s facts = touches_if s (event o s.clock end s.dom) facts

  keeps_if : (pinned : Bool) (first : Storage) (s : Local) (e : Event) → Keeps p o first s
      → Keeps p o first (happened (setting p o pinned) s e)
  unfolding happened paid delivered
  keeps_if pinned first s (Jump t) h = record { facts = h.facts; outside = h.outside; others = h.others }
  keeps_if pinned first s (Deliver line) h = record {
    facts = delivered_facts p o line s.dom s.storage h.facts;
    outside = h.outside;
    others = h.others;
  }
  keeps_if pinned first s Run h =
      let n = ran s.clock first s h in
      record {
        facts =
            either_known p o (instruction p (estate p o) (layout p o) s.clock s.dom s.storage).value
            (instruction p (estate p o) (layout p o) s.clock s.dom s.storage).state n.known;
        outside = n.state.outside;
        others = n.state.others;
      }

  pub step_keeps : (pinned : Bool) (end : ℕ) (first : Storage) (s : Local) → Keeps p o first s
      → Keeps p o first (step (setting p o pinned) end s)
  unfolding step
  step_keeps pinned end first s h = keeps_if pinned first s (event o s.clock end s.dom) h

  pub steps_keep : (pinned : Bool) (end n : ℕ) (first : Storage) (s : Local) → Keeps p o first s
      → Keeps p o first (steps (setting p o pinned) end n s)
  steps_keep pinned end n first s h =
      steps_by (setting p o pinned) end (Keeps p o first) (λ t below k. step_keeps pinned end first t k) n s h

  -- its own lines stay the only dirty ones
  pub step_dirties : (pinned : Bool) (end : ℕ) (s : Local) → HasFacts p o s.dom s.storage
      → OwnDirty p o s.caches
      → OwnDirty p o (step (setting p o pinned) end s).caches
  step_dirties pinned end s facts dirty =
      subst (OwnDirty p o) (sym (step_caches p o pinned end s))
      (own_dirties p o kernel pinned (step_touches p o end s) s.caches (step_may end s facts) dirty)

  -- what is shared stays in place
  pub step_resident : (end : ℕ) (s : Local) → HasFacts p o s.dom s.storage → Resident p s.caches
      → Resident p (step (setting p o false) end s).caches
  step_resident end s facts resident =
      subst (Resident p) (sym (step_caches p o false end s))
      (own_resident p o kernel (step_touches p o end s) s.caches (step_may end s facts) resident)

  -- what holds wherever the facts do, and each step keeps, holds after so many steps
  record Holds (Q : Local → Type 0) (s : Local) : Type 0 where
    keeps : Keeps p o s.storage s
    so : Q s

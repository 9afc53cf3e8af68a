-- What the code has of a hart while another has an event.
use Rattle.std.proofs.Common.{◌≡◌, ◌∙◌, ℕ, Bool, true, false, Option, Some, None, refl, sym, ap, ap₂, subst, subst₂}
use Rattle.std.proofs.lemmas.Option.{same_Some}
use Rattle.std.specs.Prelude.{IfSome, if◌then◌else◌}
use Rattle.phys_mem.specs.Mem.{Mem}
use Rattle.sv32_walk.specs.Walk.{Walk}
use Rattle.tlb_model.specs.Buffer.{Buffer}
use Rattle.l2_colour.specs.Contents.{L2Contents}
use Rattle.repl_policy.specs.declared.AnyPolicy.{AnyPolicy}
use Rattle.repl_policy.specs.Members.{any_rule, any_stands_for}
use Rattle.mem_system.specs.Hierarchy.{Hierarchy}
use Rattle.mem_system.specs.Contents.{CoreContents, CoreStands, system, hierarchy_of}
use Rattle.mem_system.specs.Translation.{KeepsLeaves}
use Rattle.guards.specs.declared.Guard.{Guard}
use Rattle.hardware_check.specs.Hardware.{Hardware}
use Rattle.sched_table.specs.Schedule.{last_end}
use Rattle.image_check.specs.Own.{Own}
use Rattle.image_check.specs.Image.{Image, own_of}
use Rattle.call_table.specs.Domain.{Dom}
use Rattle.world_view.specs.Frames.{root_of}
use Rattle.world_view.specs.Event.{Storage}
use Rattle.world_view.specs.Machine.{Hart, Guards, guards_of, hart_of, dom_of}
use Rattle.world_view.specs.Relations.{SameFrames, HasFacts}
use Rattle.world_view.specs.Harts.{Harts, Progress, progress_of, image_on, slots_of, domain_in, end_on, end_by}
use Rattle.world_view.proofs.actions.TableLaws.{IsPage, Walkable, walkable, walk_alike, root_is}
use Rattle.hart_orders.specs.declared.hart.Slot.{Slot}
use Rattle.hart_orders.specs.declared.hart.Hart.{Hart as CodeHart}
use Rattle.hart_set.specs.declared.set.State.{State}
use Rattle.hart_set.specs.Standing.{HartStands, slot_of, slot_if, ended_if}

-- ---- the hierarchy of a core over one second level, by that of another core over it

parts_of : Hierarchy → Hierarchy → Hierarchy
parts_of a b = record a { line_size = b.line_size; back = b.back; l2 = b.l2 }

pub levels_over : (h : Hierarchy) (c c' : CoreContents AnyPolicy) (l l' : L2Contents AnyPolicy)
    → h ≡ hierarchy_of any_rule (system c l)
    → h ≡ hierarchy_of any_rule (system c' l') → h ≡ hierarchy_of any_rule (system c l')
unfolding parts_of
levels_over h c c' l l' own other = ap₂ parts_of own other

-- ---- leaves that a buffer keeps, where the domain's frames are as they were

pub leaves_still : (p : Hardware) (o : Own) (d : Dom) (s : Storage) (m : Mem) (tlb : Buffer AnyPolicy)
    → HasFacts p o d s
    → SameFrames p o m s.mem → KeepsLeaves s.mem p.frames (root_of p o) tlb → KeepsLeaves m p.frames (root_of p o) tlb
leaves_still p o d s m tlb facts same kept = record {
  each = λ page leaf found.
      let was = kept.each page leaf found in
      record {
        at = was.at;
        access = was.access;
        small = was.small;
        in_page = was.in_page;
        walked =
            ap (λ (w : Walk). w.result)
            (walk_alike p o (root_of p o) (IsPage p o d s.mem) s.mem
            (subst (λ (root : ℕ). Walkable p o root (IsPage p o d s.mem) s.mem) (root_is p o) (walkable p o d s.mem facts))
            was.at was.access m (λ f own. sym (same f own)))
            ∙ was.walked;
      };
}

-- ---- the slot of a hart that is in one

pub record IsIn (b : Bool) (d end : ℕ) (y : Slot) : Type 0 where
  pub inside : b ≡ true
  pub whose : y.domain ≡ d
  pub until : y.end ≡ end

pub in_slot : (b : Bool) (d end : ℕ) (y : Slot) → Some y ≡ slot_if b d end → IsIn b d end y
in_slot true d end y is =
    let same = same_Some _ _ is in record { inside = refl; whose = ap (λ (x : Slot). x.domain) same; until = ap (λ (x : Slot). x.end) same }
in_slot false d end y is = absurd (cc is)

pub in_none : (b : Bool) (d end : ℕ) → None ≡ slot_if b d end → b ≡ false
in_none true d end is = absurd (cc is)
in_none false d end is = refl

-- ---- a hart of which nothing changes

-- what an event of another hart leaves
pub record Besides (i : Image) (h g : ℕ) (s s' : Harts) (t t' : State) : Type 0 where
  pub hart : hart_of g s'.world ≡ hart_of g s.world
  pub progress : progress_of g s' ≡ progress_of g s
  pub frames : SameFrames i.all.hardware (own_of i (domain_in i g (slots_of g s))) s'.world.storage.mem
      s.world.storage.mem
  pub facts : HasFacts i.all.hardware (own_of i (domain_in i g (slots_of g s)))
      (dom_of s.world (domain_in i g (slots_of g s))) s.world.storage

module _ (i : Image) (h g : ℕ) (s s' : Harts) (t t' : State) (z x' : CodeHart) (off : t'.off ≡ t.off) (b : Besides i h g s s' t t')
    (was : HartStands i s t g z) (did : HartStands i s' t' h x') where
  abbrev on : Guards
  on = guards_of t.off i

  end_is : (k : ℕ) → end_by on i g k s'.world ≡ end_by on i g k s.world
  end_is k = ap (λ (x : Hart). if on.pad then end_on i g k else x.ended) b.hart

  slot_is : slot_of (guards_of t'.off i) i g s' ≡ slot_of on i g s
  slot_is =
      ap (λ (o : Option Guard). slot_of (guards_of o i) i g s') off
      ∙ ap (λ (x : Progress). slot_if x.inside (domain_in i g x.slots) (end_by on i g x.slots s'.world)) b.progress
      ∙ ap (slot_if (progress_of g s).inside (domain_in i g (slots_of g s))) (end_is (slots_of g s))

  ended_so : (inside : Bool) (k : ℕ) → ended_if inside on i g k s.world ≡ ended_if inside on i g k s'.world
  ended_so true k = sym (end_is k)
  ended_so false k = ap (λ (x : Hart). if on.pad then last_end (image_on i g).all.schedule k else x.ended) (sym b.hart)

  ended_is : ended_if (progress_of g s).inside on i g (slots_of g s) s.world
      ≡ ended_if (progress_of g s').inside (guards_of t'.off i) i g (slots_of g s') s'.world
  ended_is =
      ended_so (progress_of g s).inside (slots_of g s)
      ∙ ap (λ (x : Progress). ended_if x.inside on i g x.slots s'.world) (sym b.progress)
      ∙ ap (λ (o : Option Guard). ended_if (progress_of g s').inside (guards_of o i) i g (slots_of g s') s'.world) (sym off)

  leaves_if : (o : Option Slot) → o ≡ slot_of on i g s
      → IfSome o (λ y. KeepsLeaves s.world.storage.mem t.memory.frames (root_of i.all.hardware (own_of i y.domain)) z.core.tlb)
      → IfSome o (λ y. KeepsLeaves s'.world.storage.mem t'.memory.frames (root_of i.all.hardware (own_of i y.domain)) z.core.tlb)
  leaves_if None is kept = tt
  leaves_if (Some y) is kept =
      let p = i.all.hardware in
      let d = domain_in i g (slots_of g s) in
      let whose = (in_slot (progress_of g s).inside d _ y is).whose in
      let here : KeepsLeaves s.world.storage.mem p.frames (root_of p (own_of i d)) z.core.tlb =
      subst₂ (λ (n e : ℕ). KeepsLeaves s.world.storage.mem n (root_of p (own_of i e)) z.core.tlb) was.machine.frames whose kept in
      let there = leaves_still p (own_of i d) (dom_of s.world d) s.world.storage s'.world.storage.mem z.core.tlb b.facts b.frames here in
      subst₂ (λ (n e : ℕ). KeepsLeaves s'.world.storage.mem n (root_of p (own_of i e)) z.core.tlb)
      (sym did.machine.frames) (sym whose) there

  pub hart_stands : HartStands i s' t' g z
  hart_stands = record {
    machine = record {
      frames = did.machine.frames;
      holds = did.machine.holds;
      boxes = did.machine.boxes;
      levels =
          ap (λ (o : Option Guard). (guards_of o i).levels) off
          ∙ levels_over on.levels z.core x'.core t.l2 t'.l2 was.machine.levels
          (ap (λ (o : Option Guard). (guards_of o i).levels) (sym off) ∙ did.machine.levels);
      pinned = was.machine.pinned;
      caches = record {
        core = subst (λ (x : Hart). CoreStands any_stands_for z.core x.core) (sym b.hart) was.machine.caches.core;
        l2 = did.machine.caches.l2;
      };
      time = was.machine.time ∙ ap (λ (x : Hart). x.clock) (sym b.hart);
    };
    slots = was.slots ∙ ap (λ (x : Progress). x.slots) (sym b.progress);
    slot = was.slot ∙ sym slot_is;
    ended = was.ended ∙ ended_is;
    leaves = leaves_if z.slot was.slot was.leaves;
  }

-- A kernel call, of the code and of the definitions: its operation is charged, and then the buffer emptied or kept.
use Rattle.std.proofs.Common.{◌≡◌, ◌∙◌, ap, sym, subst, refl, ℕ, ◌+◌, Bool, true, false, List, [], ◌∷◌, ◌++◌, length, arith}
use Rattle.std.specs.Prelude.{if◌then◌else◌}
use Rattle.tp_base.specs.Act as act
use Rattle.tp_base.specs.Act.{either}
use Rattle.phys_mem.specs.Contents.{Contents}
use Rattle.phys_mem.specs.Mem.{Mem}
use Rattle.set_cache.specs.Rule.{Rule}
use Rattle.cycle_cost.specs.Costs.{CostTable}
use Rattle.kernel_clone.specs.Footprints.{Layout, WorkDone}
use Rattle.kernel_clone.specs.declared.CloneLayout.{CloneLayout}
use Rattle.kernel_clone.specs.Models.{layout_model, work_model}
use Rattle.tlb_model.specs.Buffer.{Buffer}
use Rattle.mem_system.specs.Cost.{Touch, Touched, EmptyTlb}
use Rattle.mem_system.specs.Contents.{SystemContents, MakesTouch, MakesTouches}
use Rattle.mem_system.specs.Translation.{KeepsLeaves}
use Rattle.mem_system.proofs.Leaves.{keeps_by}
use Rattle.mem_system.proofs.Touches.{makes_one, makes_then}
use Rattle.mem_system.specs.Operations.{operation}
use Rattle.call_table.specs.declared.Reply.{Reply}
use Rattle.call_table.specs.Domain.{Dom}
use Rattle.call_table.specs.Calls.{Note, empties, work_of, number_made}
use Rattle.call_table.specs.Mail.{called}
use Rattle.call_table.specs.Claims.{Estate}
use Rattle.call_table.specs.Laws.{Kept as HasClaims}
use Rattle.call_table.proofs.MailCalls.{storage_walks}
use Rattle.mail_slots.specs.Boxes.{Boxes}
use Rattle.kernel_call.specs.declared.domain.Domain.{Domain}
use Rattle.kernel_call.specs.declared.outcome.Outcome.{Outcome}
use Rattle.kernel_call.specs.Models.{dom_model}
use Rattle.kernel_call.specs.Calls.{KeepsParts}
use Rattle.kernel_call.specs.Mailboxes.{HasCalled}
use Rattle.world_view.specs.Kernel.{estate}
use Rattle.world_view.specs.Event.{Storage, call_touches, make_call}
use Rattle.world_view.specs.Machine.{Setting}
use Rattle.domain_step.specs.Kept.{KeptOf}
use Rattle.domain_step.specs.Moves.{Yields, Left}
use Rattle.domain_step.proofs.Charges.{same_costs, fits_still, touches_paid}

append_none : (ts : List Touch) → ts ++ [] ≡ ts
append_none [] = refl
append_none (t ∷ ts) = ap (λ (us : List Touch). t ∷ us) (append_none ts)

-- a call with the code's boxes is one with those of the storage
pub with_boxes : (e : Estate) (d : Dom) (memory : Contents) (mail mail' : Boxes) (new : Domain) (number before : ℕ)
    (outcome : Outcome) (s : Storage) → mail ≡ s.boxes
    → HasCalled e memory mail' new number before outcome (called e d (record { mem = s.mem; boxes = mail }))
    → HasCalled e memory mail' new number before outcome (called e d s)
with_boxes e d memory mail mail' new number before outcome s same has =
    subst (λ (b : Boxes). HasCalled e memory mail' new number before outcome
    (called e d (record { mem = s.mem; boxes = b }))) same has

module _ {P : Type 0} (rule : P → ℕ → Rule) (stands : P → ℕ → ℕ → List ℕ → Type 0) (w : Setting)
    (old new : Domain) (memory memory' : Contents) (mail mail' : Boxes) (system : SystemContents P) (spent : ℕ)
    (readings : List ℕ) (replies : List Reply) (outcome : Outcome) (s : Storage) (r : Touched)
    (k : KeptOf rule stands w old memory mail system spent s r)
    (has : HasCalled (estate w.machine w.own) memory' mail' new
    (number_made (estate w.machine w.own) (dom_model old readings replies)) (length replies) outcome
    (called (estate w.machine w.own) (dom_model old readings replies) s))
    (keeps : KeepsParts old new) (frames : memory'.frames ≡ memory.frames) where
  abbrev done : act.Done Storage Note Dom Dom
  done = called (estate w.machine w.own) (dom_model old readings replies) s

  abbrev touches : List Touch
  touches = call_touches w.machine w.clone (number_made (estate w.machine w.own) (dom_model old readings replies)) done.notes

  abbrev ours : List Touch
  ours = operation system.core.costs (layout_model new.layout) (work_model outcome.work)

  abbrev theirs : List Touch
  theirs = operation w.machine.costs w.clone (work_of (number_made (estate w.machine w.own) (dom_model old readings replies)) done.notes)

  same_layout : layout_model new.layout ≡ w.clone
  same_layout = ap (λ (c : CloneLayout). layout_model c) keeps.layout ∙ k.layout

  -- the operation that is charged is the definition's
  same_operation : ours ≡ theirs
  same_operation =
      ap (λ (c : CostTable). operation c (layout_model new.layout) (work_model outcome.work)) (sym (same_costs rule w memory system k.fits))
      ∙ ap (λ (l : Layout). operation w.machine.costs l (work_model outcome.work)) same_layout
      ∙ ap (λ (x : WorkDone). operation w.machine.costs w.clone x) has.work

  -- what the code keeps after all its touches
  called_kept : (last : SystemContents P) (spent' cycles : ℕ)
      → MakesTouches rule stands touches cycles system last → spent' ≡ spent + cycles
      → KeepsLeaves done.state.mem memory'.frames new.map last.core.tlb
      → Yields w (make_call w.machine (estate w.machine w.own) w.clone (dom_model old readings replies)) s r
      (Left new (KeptOf rule stands w new memory' mail' last spent'))
  unfolding make_call either
  called_kept last spent' cycles makes more leaves =
      let paid =
      touches_paid rule stands w memory system last touches spent spent' cycles r makes k.fits
      (record { cost = k.cost; next = k.caches }) more in
      let fits = fits_still rule stands w memory system last touches cycles makes k.fits in
      record {
        met = record {
          dom = has.dom;
          kept = record {
            fits = record {
              kernel = fits.kernel;
              sound = fits.sound;
              frames = fits.frames ∙ sym frames;
              levels = fits.levels;
              pinned = fits.pinned;
            };
            facts = has.facts;
            boxes = has.mail;
            layout = same_layout;
            leaves = leaves;
            cost = paid.cost;
            caches = paid.next;
          };
        };
      }

  -- where the buffer isn't emptied, each kept leaf is still its walk's
  leaves_still : empties done.notes ≡ false → KeepsLeaves done.state.mem memory'.frames new.map system.core.tlb
  leaves_still still =
      let e = estate w.machine w.own in
      let facts : HasClaims e (dom_model old readings replies) s.mem = record { slots = k.facts.has.slots; facts = k.facts.facts } in
      let stays = storage_walks e (dom_model old readings replies) s facts still in
      let top : old.map ≡ e.root = k.facts.has.root in
      let all : memory.frames ≡ e.share.frames = sym k.facts.frames in
      let before : KeepsLeaves s.mem e.share.frames e.root system.core.tlb =
      subst (λ (n : ℕ). KeepsLeaves s.mem e.share.frames n system.core.tlb) top
      (subst (λ (n : ℕ). KeepsLeaves s.mem n old.map system.core.tlb) all k.leaves) in
      let after : KeepsLeaves done.state.mem e.share.frames e.root system.core.tlb =
      keeps_by s.mem done.state.mem e.share.frames e.root system.core.tlb
      (λ at leaf a small is. stays.each at leaf a is) before in
      subst (λ (n : ℕ). KeepsLeaves done.state.mem memory'.frames n system.core.tlb) (sym has.facts.has.root)
      (subst (λ (n : ℕ). KeepsLeaves done.state.mem n e.root system.core.tlb) has.facts.frames after)

  module _ (mid : SystemContents P) (spent' cycles : ℕ)
      (makes : MakesTouches rule stands ours cycles system mid) (more : spent' ≡ spent + cycles) where
    pub called_still : mid.core.tlb ≡ system.core.tlb → empties done.notes ≡ false
        → Yields w (make_call w.machine (estate w.machine w.own) w.clone (dom_model old readings replies)) s r
        (Left new (KeptOf rule stands w new memory' mail' mid spent'))
    unfolding call_touches
    called_still buffer still =
        let all : touches ≡ theirs = ap (λ (b : Bool). theirs ++ (if b then EmptyTlb ∷ [] else [])) still ∙ append_none theirs in
        let leaves : KeepsLeaves done.state.mem memory'.frames new.map mid.core.tlb =
        subst (λ (b : Buffer P). KeepsLeaves done.state.mem memory'.frames new.map b) (sym buffer) (leaves_still still) in
        called_kept mid spent' cycles
        (subst (λ (ts : List Touch). MakesTouches rule stands ts cycles system mid)
        (same_operation ∙ sym all) makes) more leaves

    pub called_emptied : (last : SystemContents P) → MakesTouch rule stands EmptyTlb 0 mid last
        → ((m : Mem) (n root : ℕ) → KeepsLeaves m n root last.core.tlb) → empties done.notes ≡ true
        → Yields w (make_call w.machine (estate w.machine w.own) w.clone (dom_model old readings replies)) s r
        (Left new (KeptOf rule stands w new memory' mail' last spent'))
    unfolding call_touches
    called_emptied last empty none emptied =
        let all : touches ≡ theirs ++ (EmptyTlb ∷ []) = ap (λ (b : Bool). theirs ++ (if b then EmptyTlb ∷ [] else [])) emptied in
        let both : MakesTouches rule stands (ours ++ (EmptyTlb ∷ [])) (cycles + 0) system last =
        makes_then rule stands ours (EmptyTlb ∷ []) cycles 0 system mid last makes (makes_one rule stands EmptyTlb 0 mid last empty) in
        called_kept last spent' (cycles + 0)
        (subst (λ (ts : List Touch). MakesTouches rule stands ts (cycles + 0) system last)
        (ap (λ (ts : List Touch). ts ++ (EmptyTlb ∷ [])) same_operation ∙ sym all) both)
        (omega (arith, more)) (none done.state.mem memory'.frames new.map)

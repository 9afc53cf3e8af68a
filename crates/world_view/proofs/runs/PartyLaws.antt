-- What another party does, or is done for it, leaves a party's frames and sets, where the dirty lines are the other's.
use Rattle.mail_slots.proofs.Sides.{others_law}
use Rattle.std.proofs.Common.{◌≡◌, ℕ, Bool, true, false, IsTrue, true≢false, sym, ◌∙◌, refl, subst}
use Rattle.phys_mem.specs.Mem.{Mem, frame_at}
use Rattle.mem_system.specs.Cost.{Caches}
use Rattle.mem_system.specs.Operations.{leave, enter}
use Rattle.hardware_check.specs.Hardware.{Hardware}
use Rattle.image_check.specs.Own.{Own}
use Rattle.world_view.specs.Frames.{own_frame}
use Rattle.world_view.specs.Kernel.{layout}
use Rattle.world_view.specs.Cost.{region, own_colour}
use Rattle.world_view.specs.Machine.{setting, Local, step, enter_part}
use Rattle.world_view.specs.EventLaws.{step_touches}
use Rattle.world_view.specs.Laws.{PartiesSwapLaw, PartyFramesLaw, OthersStepLaw, OthersLeaveLaw, OthersEnterLaw, PrefetchLaw, FlushLaw, SettledLaw}
use Rattle.world_view.specs.Relations.{SameFrames, SameSets, SamePart, AreParties}
use Rattle.world_view.proofs.opening.Separate.{frames_apart}
use Rattle.world_view.proofs.touches.Hierarchies.{some_data}
use Rattle.world_view.proofs.touches.KernelTouches.{leave_may, enter_may}
use Rattle.world_view.proofs.touches.CostLaws.{others_touches, prefetch_others, flush_others, settled_own}
use Rattle.world_view.proofs.steps.StepLaws.{keeps_itself, step_keeps, step_may, step_caches}

-- a colour of the other's is none of its own
unnamed : (b : Bool) {c : Bool} → (IsTrue b → c ≡ false) → IsTrue c → b ≡ false
unnamed false none is = refl
unnamed true none is = absurd (true≢false (sym is ∙ none refl))

pub parties_swap : PartiesSwapLaw
parties_swap p o other parties = record {
  kernel = parties.others_kernel;
  others_kernel = parties.kernel;
  apart = λ colour is. unnamed (own_colour o colour) (parties.apart colour) is;
  numbers = λ same. parties.numbers (sym same);
}

pub party_frames : PartyFramesLaw
party_frames p o other f parties own = frames_apart p o other f parties.apart own

-- what changed in the other's frames alone leaves its own
pub others_frames : (p : Hardware) (o other : Own) → AreParties p o other → (m k : Mem)
    → ((f : ℕ) → own_frame p other f ≡ false → frame_at m f ≡ frame_at k f) → SameFrames p o m k
others_frames p o other parties m k outside f own = outside f (party_frames p o other f parties own)

-- ---- its events

pub others_step : OthersStepLaw
others_step p o other end s parties facts dirty =
    let its = parties.others_kernel in
    let kept = step_keeps p other its false end s.storage s (keeps_itself p other s facts) in
    record {
      frames = others_frames p o other parties (step (setting p other false) end s).storage.mem s.storage.mem kept.outside;
      side = others_law o.number other.number _ _ parties.numbers kept.others;
      sets = subst (λ (c : Caches). SameSets p o c s.caches) (sym (step_caches p other false end s))
          (others_touches p o other parties (step_touches p other end s) s.caches (step_may p other its end s facts) dirty);
    }

-- equal to a state that is equal to a third
pub part_trans : (p : Hardware) (o : Own) (s t a : Local) → SamePart p o s t → SamePart p o t a
    → SamePart p o s a
part_trans p o s t a h k = record {
  frames = λ f own. h.frames f own ∙ k.frames f own;
  side = h.side ∙ k.side;
  sets = λ m own. h.sets m own ∙ k.sets m own;
}

pub part_itself : (p : Hardware) (o : Own) (s : Local) → SamePart p o s s
part_itself p o s = record { frames = λ f own. refl; side = refl; sets = λ m own. refl }

-- ---- phases of a switch

pub others_leave : OthersLeaveLaw
others_leave p o other c parties dirty =
    others_touches p o other parties (leave p.costs (layout p other)) c (leave_may p other parties.others_kernel (region p)) dirty

pub others_enter : OthersEnterLaw
unfolding enter_part
others_enter p o other c parties dirty =
    others_touches p o other parties (enter (layout p other)) c (enter_may p other parties.others_kernel (region p)) dirty

pub prefetch_leaves : PrefetchLaw
prefetch_leaves p o other c parties dirty = prefetch_others p o parties.kernel (own_colour other) parties.apart c dirty

pub flush_leaves : FlushLaw
flush_leaves p o other c parties dirty = flush_others p o parties.kernel (own_colour other) parties.apart c dirty

-- its own dirty lines are written back by the flush as they would be without the prefetch
pub settled : SettledLaw
settled p o c is kernel = settled_own p o kernel (some_data p is) c

-- What the code's machine stands for within a slot, with all guards on or with one off.
use Rattle.std.specs.Prelude.{◌≡◌, ℕ, false, List, length, slice_get, Option, Some}
use Rattle.phys_mem.specs.Contents.{Contents}
use Rattle.repl_policy.specs.declared.AnyPolicy.{AnyPolicy}
use Rattle.guards.specs.declared.Guard.{Guard}
use Rattle.mem_system.specs.Contents.{SystemContents}
use Rattle.mem_system.specs.Translation.{KeepsLeaves}
use Rattle.image_check.specs.Image.{Image, own_of}
use Rattle.image_check.specs.Laws.{Runnable}
use Rattle.mail_slots.specs.Boxes.{Boxes}
use Rattle.kernel_call.specs.declared.domain.Domain.{Domain}
use Rattle.domain_step.specs.Standing.{MachineStands, DomainStands}
use Rattle.world_view.specs.Frames.{root_of}
use Rattle.world_view.specs.Machine.{World, caches_of, clock_of, dom_of, guards_of, setting_by}
use Rattle.world_view.specs.Relations.{IsDomain, HasFacts, HasRights}

-- memory, boxes, hierarchy, domains and clock stand for a world of an accepted image in a slot of domain d; the
-- facts of each domain hold there, and the buffer keeps walks of domain d
pub record StandsIn (off : Option Guard) (i : Image) (d : ℕ) (w : World) (memory : Contents)
    (mail : Boxes) (system : SystemContents AnyPolicy) (domains : List Domain) (now : ℕ) : Type 0 where
  pub runnable : Runnable i
  pub domain : IsDomain i d
  pub machine : MachineStands i.all.hardware (guards_of off i).levels false memory mail system now w.storage
      (caches_of 0 w) (clock_of 0 w)
  pub all_domains : length domains ≡ length i.owns
  pub each_domain : (e : ℕ) (x : Domain) → slice_get domains e ≡ Some x
      → DomainStands (setting_by (guards_of off i) i e) x (dom_of w e)
  pub each_facts : (e : ℕ) → IsDomain i e → HasFacts i.all.hardware (own_of i e) (dom_of w e) w.storage
  pub each_rights : (e : ℕ) → IsDomain i e → HasRights i.all.hardware (own_of i e) (dom_of w e) w.storage
  pub leaves : KeepsLeaves w.storage.mem memory.frames (root_of i.all.hardware (own_of i d)) system.core.tlb

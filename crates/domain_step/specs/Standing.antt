-- How parts of the code stand for a machine, and for a domain on it, between two events.
use Rattle.std.specs.Prelude.{◌≡◌, ℕ, Bool}
use Rattle.phys_mem.specs.Contents.{Contents}
use Rattle.phys_mem.specs.Holds.{Holds}
use Rattle.repl_policy.specs.declared.AnyPolicy.{AnyPolicy}
use Rattle.repl_policy.specs.Members.{any_rule, any_stands_for}
use Rattle.kernel_clone.specs.Models.{layout_model}
use Rattle.call_table.specs.Domain.{Dom}
use Rattle.mail_slots.specs.Boxes.{Boxes}
use Rattle.kernel_call.specs.declared.domain.Domain.{Domain}
use Rattle.kernel_call.specs.Models.{Stands}
use Rattle.kernel_call.specs.Facts.{Has}
use Rattle.mem_system.specs.Hierarchy.{Hierarchy}
use Rattle.mem_system.specs.Cost.{Caches}
use Rattle.mem_system.specs.Contents.{SystemContents, SystemStands, hierarchy_of}
use Rattle.hardware_check.specs.Hardware.{Hardware}
use Rattle.world_view.specs.Kernel.{estate}
use Rattle.world_view.specs.Event.{Storage}
use Rattle.world_view.specs.Machine.{Setting}

-- what is kept for all domains of a machine: memory and boxes stand for this storage, each set of each cache and of the
-- buffer and the predictor's counters for these caches, and the clock is the same
pub record MachineStands (p : Hardware) (h : Hierarchy) (b : Bool) (memory : Contents) (mail : Boxes)
    (system : SystemContents AnyPolicy) (now : ℕ) (s : Storage) (c : Caches) (t : ℕ) : Type 0 where
  pub frames : memory.frames ≡ p.frames
  pub holds : Holds memory s.mem
  pub boxes : mail ≡ s.boxes
  pub levels : h ≡ hierarchy_of any_rule system
  pub pinned : system.core.pinned ≡ b
  pub caches : SystemStands any_stands_for system c
  pub time : now ≡ t

-- a domain of the code stands for this one, in its estate, with its clone and its moments
pub record DomainStands (w : Setting) (x : Domain) (d : Dom) : Type 0 where
  pub dom : Stands x d
  pub has : Has (estate w.machine w.own) x
  pub layout : layout_model x.layout ≡ w.clone
  pub moments : x.interrupts.moments ≡ w.own.moments

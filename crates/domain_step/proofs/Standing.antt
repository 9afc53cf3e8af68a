-- Between two events a domain in its slot stands in its setting where the machine and the domain do, and their facts hold.
use Rattle.std.proofs.Common.{ℕ, Bool, refl, sym}
use Rattle.phys_mem.specs.Contents.{Contents}
use Rattle.repl_policy.specs.declared.AnyPolicy.{AnyPolicy}
use Rattle.repl_policy.specs.Members.{any_rule, any_stands_for}
use Rattle.mail_slots.specs.Boxes.{Boxes}
use Rattle.kernel_call.specs.declared.domain.Domain.{Domain}
use Rattle.kernel_call.specs.Facts.{HasFacts}
use Rattle.mem_system.specs.Contents.{SystemContents}
use Rattle.mem_system.specs.Translation.{KeepsLeaves}
use Rattle.hardware_check.specs.Hardware.{Hardware}
use Rattle.image_check.specs.Own.{Own}
use Rattle.world_view.specs.Cost.{hierarchy}
use Rattle.world_view.specs.Kernel.{estate}
use Rattle.world_view.specs.Machine.{Setting, setting, Local}
use Rattle.world_view.specs.Relations.{IsKernel}
use Rattle.domain_step.specs.Kept.{IsSetting}
use Rattle.domain_step.specs.Standing.{MachineStands, DomainStands}
use Rattle.domain_step.specs.Moves.{StandsIn}

-- that of a domain with the clone of its own is one
pub is_setting : (p : Hardware) (o : Own) (pinned : Bool) → IsKernel p o → IsSetting (setting p o pinned)
unfolding hierarchy
is_setting p o pinned kernel = record { costs = refl; products = refl; line = refl; clone = kernel.has_layout }

module _ (w : Setting) (memory : Contents) (mail : Boxes) (x : Domain) (system : SystemContents AnyPolicy) (now : ℕ)
    (s : Local) where
  -- what is kept for all domains, and the domain in its slot
  abbrev pub OfMachine : Type 0
  OfMachine = MachineStands w.machine w.levels w.pinned memory mail system now s.storage s.caches s.clock

  abbrev pub InSlot : Type 0
  InSlot = StandsIn any_rule any_stands_for w memory mail x system now s

  pub stands_in : IsKernel w.machine w.own → IsSetting w → OfMachine → DomainStands w x s.dom
      → HasFacts (estate w.machine w.own) memory s.storage.mem x → KeepsLeaves s.storage.mem memory.frames x.map system.core.tlb
      → InSlot
  stands_in kernel sound machine domain facts leaves = record {
    fits = record {
      kernel = kernel;
      sound = sound;
      frames = sym machine.frames;
      levels = machine.levels;
      pinned = machine.pinned;
    };
    dom = domain.dom;
    facts = facts;
    boxes = machine.boxes;
    layout = domain.layout;
    leaves = leaves;
    caches = machine.caches;
    moments = domain.moments;
    time = machine.time;
  }

  pub machine_of : InSlot → OfMachine
  machine_of is = record {
    frames = sym is.fits.frames;
    holds = is.facts.holds;
    boxes = is.boxes;
    levels = is.fits.levels;
    pinned = is.fits.pinned;
    caches = is.caches;
    time = is.time;
  }

  pub domain_of : InSlot → DomainStands w x s.dom
  domain_of is = record { dom = is.dom; has = is.facts.has; layout = is.layout; moments = is.moments }

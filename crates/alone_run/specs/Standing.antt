-- What the code's domain alone stands for.
use Rattle.std.specs.Prelude.{ℕ, ◌≤◌, true}
use Rattle.phys_mem.specs.Contents.{Contents}
use Rattle.repl_policy.specs.declared.AnyPolicy.{AnyPolicy}
use Rattle.mem_system.specs.Contents.{SystemContents}
use Rattle.mem_system.specs.Translation.{KeepsLeaves}
use Rattle.mail_slots.specs.Boxes.{Boxes}
use Rattle.kernel_call.specs.declared.domain.Domain.{Domain}
use Rattle.kernel_call.specs.Models.{CountsUpTo}
use Rattle.kernel_call.specs.Facts as call
use Rattle.hardware_check.specs.Hardware.{Hardware}
use Rattle.image_check.specs.Own.{Own}
use Rattle.world_view.specs.Kernel.{estate}
use Rattle.world_view.specs.Cost.{hierarchy}
use Rattle.world_view.specs.Machine.{setting, Local}
use Rattle.domain_step.specs.Standing.{MachineStands, DomainStands}

-- what the code keeps
pub record Kept : Type 0 where
  pub memory : Contents
  pub mail : Boxes
  pub system : SystemContents AnyPolicy
  pub domain : Domain
  pub clock : ℕ

abbrev pub kept : Contents → Boxes → SystemContents AnyPolicy → Domain → ℕ → Kept
kept memory mail system domain clock =
    record { memory = memory; mail = mail; system = system; domain = domain; clock = clock }

-- it stands for this state of the domain alone: in all of memory, each box, each set of each cache and of the buffer, the predictor's
-- counters, the domain and the clock
pub record StandsFor (p : Hardware) (o : Own) (s : Local) (k : Kept) : Type 0 where
  pub machine : MachineStands p (hierarchy p) true k.memory k.mail k.system k.clock s.storage s.caches s.clock
  pub domain : DomainStands (setting p o true) k.domain s.dom

-- the domain has its facts, of its frames, capabilities and page tables, in this memory; and the buffer keeps what walks
-- find there
pub record HasFacts (p : Hardware) (o : Own) (s : Local) (k : Kept) : Type 0 where
  pub buffer : KeepsLeaves s.storage.mem k.memory.frames k.domain.map k.system.core.tlb
  pub facts : call.HasFacts (estate p o) k.memory s.storage.mem k.domain

-- so that no number is too large
pub record IsInBounds (slots : ℕ) (k : Kept) : Type 0 where
  pub slots_left : slots ≤ 65536
  pub few_calls : CountsUpTo k.clock k.domain

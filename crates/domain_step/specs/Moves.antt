-- How steps of a domain end where the code answers, and what its domain, memory, boxes and hierarchy stand for.
use Rattle.std.specs.Prelude.{◌≡◌, ℕ, zero, suc, ◌<◌, ◌/◌, List, Result, Ok, Err, ◌⊎◌}
use Rattle.std.proofs.Common.{inl, inr}
use Rattle.tp_base.specs.Act.{either}
use Rattle.phys_mem.specs.Contents.{Contents}
use Rattle.phys_mem.specs.Mem.{Mem, word, written}
use Rattle.set_cache.specs.Rule.{Rule}
use Rattle.rv_core.specs.declared.Trap.{Trap}
use Rattle.kernel_clone.specs.Models.{layout_model}
use Rattle.call_table.specs.declared.Reply.{Reply}
use Rattle.call_table.specs.Domain.{Dom}
use Rattle.mail_slots.specs.Boxes.{Boxes}
use Rattle.kernel_call.specs.declared.domain.Domain.{Domain}
use Rattle.kernel_call.specs.Logs.{log_of}
use Rattle.kernel_call.specs.LogModel.{log_model}
use Rattle.kernel_call.specs.Models.{dom_model, Stands}
use Rattle.kernel_call.specs.Facts.{HasFacts}
use Rattle.mem_system.specs.Cost.{Touched}
use Rattle.mem_system.specs.Contents.{SystemContents, SystemStands}
use Rattle.mem_system.specs.Translation.{KeepsLeaves}
use Rattle.world_view.specs.Kernel.{estate}
use Rattle.world_view.specs.Instruction.{trapped}
use Rattle.world_view.specs.Event.{Storage, Act, stored_in}
use Rattle.world_view.specs.Machine.{Setting, Local, step}
use Rattle.domain_step.specs.Kept.{Fits, after}

-- ---- steps of a domain

-- what steps end with and leave, and the cost so far with theirs, meets Q
pub record Yields {A : Type 0} (w : Setting) (x : Act A) (s : Storage) (r : Touched)
    (Q : Dom ⊎ A → Storage → Touched → Type 0) : Type 0 where
  pub met : Q (x s).value (x s).state (after w r (x s).notes)

-- how they end where the code answers this: a trap stops the domain
abbrev pub end_of : {A : Type 0} → Dom → Result A Trap → Dom ⊎ A
end_of d (Ok x) = inr x
end_of d (Err trap) = inl (trapped trap d)

-- they end so, and what they leave is kept
pub record Answered {A : Type 0} (d : Dom) (result : Result A Trap) (K : Storage → Touched → Type 0)
    (v : Dom ⊎ A) (t : Storage) (q : Touched) : Type 0 where
  pub value : v ≡ end_of d result
  pub kept : K t q

-- for each domain, and whatever the code keeps, these steps end as it answers, and it keeps what they leave
abbrev pub Finds : {A : Type 0} → Setting → (Dom → Act A) → Result A Trap
    → (Storage → Touched → Type 0) → (Storage → Touched → Type 0) → Type 0
Finds w f result K K' = (d : Dom) (s : Storage) (r : Touched) → K s r
    → Yields w (f d) s r (Answered d result K')

-- the domain stands for what they end with, and what they leave is kept
pub record Left (new : Domain) (K : Storage → Touched → Type 0) (v : Dom ⊎ Dom) (t : Storage) (q : Touched)
    : Type 0 where
  pub dom : Stands new (either v)
  pub kept : K t q

-- whatever the old domain stands for and the code keeps, the new one stands for what these steps leave of it
abbrev pub Leaves : Setting → (Dom → Act Dom) → Domain → (Storage → Touched → Type 0)
    → Domain → (Storage → Touched → Type 0) → Type 0
Leaves w f old K new K' = (s : Storage) (r : Touched) (readings : List ℕ) (replies : List Reply) → K s r
    → log_model old.readings ≡ log_of readings → log_model old.replies ≡ log_of replies
    → Yields w (f (dom_model old readings replies)) s r (Left new K')

-- ---- parts of steps

-- the frame of the address that an access is translated to
abbrev pub frame_found : Result ℕ Trap → Result ℕ Trap
frame_found (Ok at) = Ok (at / 4096)
frame_found (Err trap) = Err trap

-- a memory in which a store of so many bytes was made, at a place in a word
abbrev pub stored : Mem → ℕ → ℕ → ℕ → ℕ → ℕ → Mem
stored m f i size place value = written m f i (stored_in size (word m f i) place value)

-- ---- between events

-- the code's domain, memory, boxes, hierarchy and clock stand for this state of the setting's domain
pub record StandsIn {P : Type 0} (rule : P → ℕ → Rule) (stands : P → ℕ → ℕ → List ℕ → Type 0) (w : Setting)
    (memory : Contents) (mail : Boxes) (d : Domain) (system : SystemContents P) (clock : ℕ) (s : Local)
    : Type 0 where
  pub fits : Fits rule w memory system
  pub dom : Stands d s.dom
  pub facts : HasFacts (estate w.machine w.own) memory s.storage.mem d
  pub boxes : mail ≡ s.storage.boxes
  pub layout : layout_model d.layout ≡ w.clone
  pub leaves : KeepsLeaves s.storage.mem memory.frames d.map system.core.tlb
  pub caches : SystemStands stands system s.caches
  pub moments : d.interrupts.moments ≡ w.own.moments
  pub time : clock ≡ s.clock

-- whatever the old ones stand for, in whatever setting, the new ones stand for f of it
abbrev pub Moves : {P : Type 0} → (P → ℕ → Rule) → (P → ℕ → ℕ → List ℕ → Type 0) → (Setting → Local → Local)
    → Contents → Boxes → Domain → SystemContents P → ℕ → Contents → Boxes → Domain → SystemContents P → ℕ → Type 0
Moves rule stands f memory mail old system now memory' mail' new system' later = (w : Setting) (s : Local)
    → StandsIn rule stands w memory mail old system now s
    → StandsIn rule stands w memory' mail' new system' later (f w s)

-- so many events in a slot that ends then, each of which begins before this clock, lead from this state to that
abbrev pub Happen : Setting → (end until : ℕ) → ℕ → Local → Local → Type 0
Happen w end until zero s x = s ≡ x
Happen w end until (suc n) s x = (s.clock < until) × Happen w end until n (step w end s) x

-- what they stand for after so many events
pub record Went {P : Type 0} (rule : P → ℕ → Rule) (stands : P → ℕ → ℕ → List ℕ → Type 0) (w : Setting)
    (end until events : ℕ) (memory : Contents) (mail : Boxes) (d : Domain) (system : SystemContents P) (clock : ℕ)
    (s : Local) : Type 0 where
  pub state : Local
  pub each : Happen w end until events s state
  pub stands_in : StandsIn rule stands w memory mail d system clock state

-- whatever the old ones stand for, in whatever setting, the new ones stand for it after so many events of a slot that
-- ends then, each of which begins before this clock
abbrev pub MovesAlong : {P : Type 0} → (P → ℕ → Rule) → (P → ℕ → ℕ → List ℕ → Type 0) → (end until events : ℕ)
    → Contents → Boxes → Domain → SystemContents P → ℕ → Contents → Boxes → Domain → SystemContents P → ℕ → Type 0
MovesAlong rule stands end until events memory mail old system now memory' mail' new system' later =
    (w : Setting) (s : Local)
    → StandsIn rule stands w memory mail old system now s
    → Went rule stands w end until events memory' mail' new system' later s

-- they stand for some state of some domain
pub record Runs {P : Type 0} (rule : P → ℕ → Rule) (stands : P → ℕ → ℕ → List ℕ → Type 0)
    (memory : Contents) (mail : Boxes) (d : Domain) (system : SystemContents P) (clock : ℕ) : Type 0 where
  pub setting : Setting
  pub state : Local
  pub stands_in : StandsIn rule stands setting memory mail d system clock state

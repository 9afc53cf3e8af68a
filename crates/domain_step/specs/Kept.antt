-- What the code keeps, within an event, of memory, of boxes and of the cost so far.
use Rattle.std.specs.Prelude.{◌≡◌, ℕ, List, [], ◌∷◌, length}
use Rattle.phys_mem.specs.Contents.{Contents}
use Rattle.phys_mem.specs.Holds.{Holds}
use Rattle.set_cache.specs.Rule.{Rule}
use Rattle.cap_table.specs.Slots.{Slots}
use Rattle.kernel_clone.specs.Footprints.{IsLayout}
use Rattle.kernel_clone.specs.Models.{layout_model}
use Rattle.mail_slots.specs.Boxes.{Boxes}
use Rattle.call_table.specs.Claims.{is_mine, claims, Facts}
use Rattle.kernel_call.specs.declared.domain.Domain.{Domain}
use Rattle.kernel_call.specs.Facts.{HasFacts}
use Rattle.mem_system.specs.Cost.{Touch, Touched, touched, and_then}
use Rattle.mem_system.specs.Contents.{SystemContents, SystemStands, hierarchy_of}
use Rattle.mem_system.specs.Translation.{KeepsLeaves}
use Rattle.world_view.specs.Kernel.{estate}
use Rattle.world_view.specs.Event.{Storage}
use Rattle.world_view.specs.Machine.{Setting}
use Rattle.world_view.specs.Relations.{IsKernel}

-- what the hierarchy of a setting costs, what products do, and the size of its lines, are the machine's; and its clone
-- is one
pub record IsSetting (w : Setting) : Type 0 where
  pub costs : w.machine.costs ≡ w.levels.costs
  pub products : w.machine.muldiv ≡ w.levels.products
  pub line : w.machine.line ≡ w.levels.line_size
  pub clone : IsLayout w.clone

-- the kernel has this domain, and memory and hierarchy are the machine's
pub record Fits {P : Type 0} (rule : P → ℕ → Rule) (w : Setting) (memory : Contents)
    (system : SystemContents P) : Type 0 where
  pub kernel : IsKernel w.machine w.own
  pub sound : IsSetting w
  pub frames : w.machine.frames ≡ memory.frames
  pub levels : w.levels ≡ hierarchy_of rule system
  pub pinned : system.core.pinned ≡ w.pinned

-- ---- the cost so far, and the caches now

-- with one more touch
unfoldable pub charged : Setting → Touched → Touch → Touched
charged w r t = and_then r (λ c. touched w.levels w.pinned c t)

-- with more touches, one after the other
unfoldable pub after : Setting → Touched → List Touch → Touched
after w r [] = r
after w r (t ∷ ts) = after w (charged w r t) ts

-- ---- what is kept

-- memory and hierarchy stand for this storage and these caches, the cycles spent are the cost so far, the
-- facts hold of these capabilities, and each leaf that the buffer keeps is its walk's from the domain's root
pub record Kept {P : Type 0} (rule : P → ℕ → Rule) (stands : P → ℕ → ℕ → List ℕ → Type 0) (w : Setting)
    (caps : Slots) (root : ℕ) (memory : Contents) (system : SystemContents P) (spent : ℕ)
    (s : Storage) (r : Touched) : Type 0 where
  pub fits : Fits rule w memory system
  pub tables : root ≡ (estate w.machine w.own).root
  pub slots : length caps ≡ 64
  pub holds : Holds memory s.mem
  pub facts : Facts (estate w.machine w.own).root (is_mine (estate w.machine w.own))
      (claims (estate w.machine w.own) caps) s.mem
  pub leaves : KeepsLeaves s.mem memory.frames root system.core.tlb
  pub cost : spent ≡ r.cost
  pub caches : SystemStands stands system r.caches

-- the same of a whole domain of the code, and of the boxes
pub record KeptOf {P : Type 0} (rule : P → ℕ → Rule) (stands : P → ℕ → ℕ → List ℕ → Type 0) (w : Setting)
    (d : Domain) (memory : Contents) (mail : Boxes) (system : SystemContents P) (spent : ℕ)
    (s : Storage) (r : Touched) : Type 0 where
  pub fits : Fits rule w memory system
  pub facts : HasFacts (estate w.machine w.own) memory s.mem d
  pub boxes : mail ≡ s.boxes
  pub layout : layout_model d.layout ≡ w.clone
  pub leaves : KeepsLeaves s.mem memory.frames d.map system.core.tlb
  pub cost : spent ≡ r.cost
  pub caches : SystemStands stands system r.caches

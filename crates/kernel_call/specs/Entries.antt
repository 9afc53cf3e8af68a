-- What calls that give frames back clear and give: entries of the page tables, one after another, and frames.
use Rattle.std.specs.Prelude.{◌≡◌, ℕ, List, [], ◌∷◌, Option, Some, None}
use Rattle.tp_base.specs.Act as act
use Rattle.tp_base.specs.Act.{give}
use Rattle.phys_mem.specs.Contents.{Contents}
use Rattle.phys_mem.specs.Mem.{Mem}
use Rattle.phys_mem.specs.Holds.{Holds}
use Rattle.frame_colours.specs.FreeList.{FreeList, with_frame}
use Rattle.page_map.specs.Changes.{unmapped, CanUnmap, CanUninstall}
use Rattle.kernel_clone.specs.Models.{work_model}
use Rattle.kernel_clone.specs.declared.Work.{Work}
use Rattle.call_table.specs.Domain.{Dom}
use Rattle.call_table.specs.Calls.{Note, Act, unmap_at, uninstall_at, work_of}

-- ---- one entry

-- clears the leaf at an address, or else the root's entry at one
abbrev pub clear_at : ℕ → Option ℕ → Option ℕ → Act (Unit {0})
clear_at root (Some va) there = unmap_at root va
clear_at root None (Some va) = uninstall_at root va
clear_at root None None = give tt

-- what that clears is there
abbrev pub CanClear : Mem → ℕ → ℕ → Option ℕ → Option ℕ → Type 0
CanClear m root frames (Some va) there = CanUnmap m root frames va
CanClear m root frames None (Some va) = CanUninstall m root frames va
CanClear m root frames None None = Unit {0}

-- a memory and the work that is told are those of an action, of a call with this number
pub record Leaves (number : ℕ) (memory : Contents) (work : Work) (r : act.Done Mem Note Dom (Unit {0}))
    : Type 0 where
  pub holds : Holds memory r.state
  pub told : work_model work ≡ work_of number r.notes

-- ---- several leaves, in order

-- each is there when it is cleared
abbrev pub CanUnmapAll : Mem → ℕ → ℕ → List ℕ → Type 0
CanUnmapAll m root frames [] = Unit {0}
CanUnmapAll m root frames (va ∷ vas) =
    CanUnmap m root frames va × CanUnmapAll (unmapped m root va) root frames vas

-- ---- frames

-- those that come back are free
abbrev pub given_back : FreeList → Option ℕ → Option ℕ → FreeList
given_back pool (Some f) there = with_frame pool f
given_back pool None (Some f) = with_frame pool f
given_back pool None None = pool

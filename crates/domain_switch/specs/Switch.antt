-- What a switch of domains is given, and what it comes to.
use Rattle.std.specs.Prelude.{◌≡◌, ℕ, ◌+◌, ◌-◌, ◌<◌, ◌≤◌, Bool, List, Option, option_map}
use Rattle.kernel_clone.specs.declared.CloneLayout.{CloneLayout}
use Rattle.kernel_clone.specs.Footprints.{Layout, IsLayout}
use Rattle.kernel_clone.specs.Models.{layout_model}
use Rattle.pad_bound.specs.Bound.{worst_instruction, worst_operation, bound_of}
use Rattle.mem_system.specs.Hierarchy.{Hierarchy}
use Rattle.mem_system.specs.Cost.{Caches, Touched}
use Rattle.mem_system.specs.Contents.{SystemContents, SystemStands}
use Rattle.mem_system.specs.Operations.{shared_region, leave_if}
use Rattle.mem_system.specs.Sharing.{IsSharing, MayTouchAll, KernelIsClean}
use Rattle.mem_system.specs.Worst.{machine_shape, HasWays}

-- the clone of who was running, if anybody was
abbrev pub layout_if : Option CloneLayout → Option Layout
layout_if out = option_map layout_model out

-- a clone of a machine with this hierarchy
pub record IsCloneOn (h : Hierarchy) (clone : CloneLayout) : Type 0 where
  pub layout : IsLayout (layout_model clone)
  pub line : clone.line ≡ h.line_size

-- it begins past the slot's end by less than the largest step of a domain that may make these calls, and the next
-- start is that domain's bound past the end or later; no line of the kernel's colour is dirty, and who leaves stores to
-- lines of its own colours alone
pub record IsInTime (h : Hierarchy) (caches : Caches) (out : Option Layout) (into : Layout)
    (shared calls old_end now until : ℕ)
    : Type 0 where
  pub ways : HasWays h caches
  pub clean : KernelIsClean h caches
  pub own : ℕ → Bool
  pub shares : IsSharing h own (shared_region into)
  pub leaves : MayTouchAll h own (shared_region into) (leave_if h.costs out)
  pub late : now
      < old_end
      + (worst_instruction (machine_shape h shared calls) + worst_operation (machine_shape h shared calls))
  pub pad : old_end + bound_of (machine_shape h shared calls) ≤ until

-- its work was begun at a clock: used is the clock after the work less the ended slot's end,
-- and what is kept stands for the caches that the work leaves
pub record IsSwitched {P : Type 0} (stands : P → ℕ → ℕ → List ℕ → Type 0) (old_end now used : ℕ)
    (kept : SystemContents P) (work : Touched) : Type 0 where
  pub time : used ≡ now + work.cost - old_end
  pub next : SystemStands stands kept work.caches

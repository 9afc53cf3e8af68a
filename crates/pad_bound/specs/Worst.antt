-- What the parts are the worst of: footprints whose every line costs the most.
use Rattle.std.specs.Prelude.{◌≡◌, ℕ, ◌+◌, ◌≤◌, nat_eq, Bool, ◌||◌, if◌then◌else◌, true, false, List, [], length, map, Some, None}
use Rattle.std.specs.List.{range_with_len, sum_by}
use Rattle.cycle_cost.specs.Costs.{CostTable}
use Rattle.kernel_clone.specs.Footprints.{Layout, WorkDone, LineTouch, call_number, is_of_switch, touch_of, shared_line, shared_lines}
use Rattle.kernel_clone.specs.Laws.{zeroed_count}
use Rattle.kernel_clone.specs.Permissions.{is_call, may_make}
use Rattle.kernel_clone.specs.declared.operation.Call.TheVariants.{Alloc, Table, Map, Unmap, Delete, Revoke}
use Rattle.kernel_clone.specs.declared.Kind.{Kind}
use Rattle.kernel_clone.specs.declared.Kind.TheVariants.{Fetch, Load, Store}
use Rattle.pad_bound.specs.Bound.{MachineShape, worst_fetch, worst_access, most_entries}

-- ---- the most that touches cost

-- where a miss of the second level costs so much again
abbrev pub worst : CostTable → ℕ → Kind → ℕ
worst c again Fetch = worst_fetch c again
worst c again Load = worst_access c again
worst c again Store = worst_access c again

unfoldable pub worst_of : CostTable → ℕ → List LineTouch → ℕ
worst_of c again touches = sum_by (λ t. worst c again t.kind) touches

-- ---- whose touches

-- a clone of a machine of this shape, anywhere in its memory
pub record IsCloneOf (s : MachineShape) (l : Layout) : Type 0 where
  pub line : l.line ≡ s.line
  pub shared : l.shared ≡ s.shared

-- the calls that write an entry of a page table
abbrev pub writes_entry : ℕ → Bool
writes_entry op =
    nat_eq op (call_number Table)
    || (nat_eq op (call_number Map) || (nat_eq op (call_number Unmap) || nat_eq op (call_number Delete)))

-- the most entries that an operation writes
abbrev pub most_entries_of : ℕ → ℕ
most_entries_of op = if nat_eq op (call_number Revoke) then most_entries else if writes_entry op then 1 else 0

-- what a call or a delivery can have done: an ALLOC alone zeroes a frame, and few write entries
pub record IsCallWork (w : WorkDone) : Type 0 where
  pub call : is_of_switch w.op ≡ false
  pub zeroes : (frame : ℕ) → w.zeroed ≡ Some frame → w.op ≡ call_number Alloc
  pub few : length w.entries ≤ most_entries_of w.op

-- a domain that may make these calls can have made it; deliveries and bad calls come to all
abbrev pub IsPermitted : ℕ → WorkDone → Type 0
IsPermitted calls w = is_call w.op ≡ true → may_make calls w.op ≡ true

-- the lines that it wrote
abbrev pub lines_written : Layout → WorkDone → ℕ
lines_written l w = zeroed_count l w.zeroed + length w.entries

-- an ALLOC that gives this frame
abbrev pub alloc_work : ℕ → WorkDone
alloc_work frame = record { op = call_number Alloc; zeroed = Some frame; entries = [] }

-- a REVOKE that writes these entries
abbrev pub revoke_work : List ℕ → WorkDone
revoke_work entries = record { op = call_number Revoke; zeroed = None; entries = entries }

-- each shared line once, in their order
unfoldable pub prefetch_touches : Layout → List LineTouch
prefetch_touches l = map (λ i. touch_of Load (shared_line l i)) (range_with_len 0 (shared_lines l))

-- ---- shapes side by side

pub record AreNoDearer (c d : CostTable) : Type 0 where
  pub base : c.base ≤ d.base
  pub l1 : c.l1 ≤ d.l1
  pub l2 : c.l2 ≤ d.l2
  pub mem : c.mem ≤ d.mem
  pub wb : c.wb ≤ d.wb
  pub tlb : c.tlb ≤ d.tlb
  pub mispredict : c.mispredict ≤ d.mispredict
  pub trap : c.trap ≤ d.trap
  pub flush : c.flush ≤ d.flush

-- the second is the same machine as the first, or a larger one
pub record IsNoSmaller (s t : MachineShape) : Type 0 where
  pub costs : AreNoDearer s.costs t.costs
  pub line : s.line ≡ t.line
  pub shared : s.shared ≡ t.shared
  pub sets : s.sets ≡ t.sets
  pub ways : s.ways ≡ t.ways
  pub written : s.written ≤ t.written
  pub again : s.again ≤ t.again
  pub product : s.product ≤ t.product

-- ---- calls side by side

-- whatever the first may make, the second may
abbrev pub AreWithin : ℕ → ℕ → Type 0
AreWithin calls others = (n : ℕ) → may_make calls n ≡ true → may_make others n ≡ true

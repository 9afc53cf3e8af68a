-- What the kernel's operations and a switch of domains touch, in order.
use Rattle.std.specs.Prelude.{ℕ, Bool, true, if◌then◌else◌, List, [], ◌∷◌, ◌++◌, map, Option, Some, None}
use Rattle.std.specs.List.{range_with_len}
use Rattle.cycle_cost.specs.Costs.{CostTable}
use Rattle.kernel_clone.specs.declared.Kind.{Kind}
use Rattle.kernel_clone.specs.declared.Kind.TheVariants as kind
use Rattle.kernel_clone.specs.Footprints.{Layout, WorkDone, LineTouch, touches, leave_op, enter_op, shared_line, shared_lines}
use Rattle.mem_system.specs.Cost.{Touch, Fetch, Load, Store, EmptyTlb, Flush, Charge}

-- ---- one operation

abbrev pub touch_by : Kind → ℕ → Touch
touch_by kind.Fetch line = Fetch line
touch_by kind.Load line = Load line
touch_by kind.Store line = Store line

abbrev pub touch_of_line : LineTouch → Touch
touch_of_line t = touch_by t.kind t.line

unfoldable pub footprint : Layout → WorkDone → List Touch
footprint l w = map touch_of_line (touches l w)

-- a call or a delivery: a trap, and its footprint
unfoldable pub operation : CostTable → Layout → WorkDone → List Touch
operation c l w = Charge c.trap ∷ footprint l w

-- an operation that writes nothing beside its own work
abbrev pub plain : ℕ → WorkDone
plain op = record { op = op; zeroed = None; entries = [] }

-- ---- a switch

unfoldable pub leave : CostTable → Layout → List Touch
leave c l = operation c l (plain leave_op)

-- it is no trap
unfoldable pub enter : Layout → List Touch
enter l = footprint l (plain enter_op)

-- the lines of the shared region, ascending; they are the same for all clones
unfoldable pub shared_region : Layout → List ℕ
shared_region l = map (shared_line l) (range_with_len 0 (shared_lines l))

-- each shared line is loaded
unfoldable pub prefetch : List ℕ → List Touch
prefetch region = map Load region

-- nobody leaves at the boot
unfoldable pub leave_if : CostTable → Option Layout → List Touch
leave_if c None = []
leave_if c (Some l) = leave c l

-- the clone of who was running leaves, the shared lines are loaded, the core is made fresh, the next clone enters; either of
-- the two in the middle may be left out, but that the translation buffer is emptied
unfoldable pub switch_by : Bool → Bool → CostTable → Option Layout → Layout → List Touch
switch_by loads flushes c out into =
    leave_if c out
    ++ ((if loads then prefetch (shared_region into) else [])
    ++ ((if flushes then Flush else EmptyTlb) ∷ enter into))

abbrev pub switch : CostTable → Option Layout → Layout → List Touch
switch = switch_by true true

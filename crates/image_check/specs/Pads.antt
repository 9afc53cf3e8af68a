-- The rule of pads: none is below the bound on its switch, by the calls of the domain that leaves: the entry's own.
use Rattle.std.specs.Prelude.{ℕ, ℤ, pos, int_lt, if◌then◌else◌, List, length, slice_index_or, Option, Some, None}
use Rattle.image_record.specs.declared.refusal.Refusal.{Refusal}
use Rattle.image_record.specs.Record.{Raw, RawEntry}
pub use Rattle.cycle_cost.specs.Costs.{most_added}
use Rattle.pad_bound.specs.Bound.{MachineShape, most_written, bound_of, with_calls}
use Rattle.image_record.specs.Cases.{first_in, refusal}
use Rattle.kernel_clone.specs.Permissions.{every_call}
use Rattle.image_record.specs.Numbers.{natural_of}
use Rattle.hardware_check.specs.Hardware.{Hardware, hardware_of}
use Rattle.image_check.specs.Own.{own_at, owns_of}

-- what a miss of the second level costs again: one more write-back, if lines are written back into it
abbrev pub again_of : Hardware → ℕ
again_of h = if h.back then h.costs.wb else 0

-- what of a machine the bound depends on, where a domain leaves that may make these calls
abbrev pub shape_for : Hardware → ℕ → MachineShape
shape_for h calls = record {
  costs = h.costs;
  line = h.line;
  shared = h.shared;
  sets = h.l1d.sets;
  ways = h.l1d.ways;
  written = most_written calls h.line;
  again = again_of h;
  product = most_added h.muldiv;
}

-- where it may make every call
abbrev pub shape_for_every_call : Hardware → MachineShape
shape_for_every_call h = shape_for h every_call

-- the bound on the switch out of a domain's slot
unfoldable pub bound_out_of : Raw → ℤ → ℕ
bound_out_of i d = bound_of (shape_for (hardware_of i) (own_at (owns_of i) (natural_of d)).calls)

-- ---- K17: each pad is at least the bound

unfoldable pub k17_case : ℕ → ℕ → RawEntry → Option Refusal
k17_case bound place e =
    if int_lt e.pad (pos bound) then Some (refusal 17 (pos place) e.pad (pos bound)) else None

abbrev pub k17_entry : Raw → List RawEntry → RawEntry → Option Refusal
k17_entry i earlier e = k17_case (bound_out_of i e.domain) (length earlier) e

-- the same of a machine, and of the calls that each domain may make
abbrev pub k17_by : MachineShape → List ℕ → List RawEntry → RawEntry → Option Refusal
k17_by s calls earlier e =
    k17_case (bound_of (with_calls s (slice_index_or calls (natural_of e.domain) every_call)))
    (length earlier) e

unfoldable pub k17 : Raw → Option Refusal
k17 i = first_in (k17_entry i) i.schedule

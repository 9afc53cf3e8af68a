use Rattle.std.proofs.Common.{◌≡◌, ◌<◌, ◌≤◌, ◌-◌, ℕ, false, length, get_or}
use Rattle.set_cache.specs.declared.packed.Entry.{Entry}
use Rattle.set_cache.specs.Cache.{is_line}
use Rattle.set_cache.specs.Packed.{line_in}
use Rattle.set_cache.proofs.packed.first_with.Given as goal

abbrev pub invariant-loop-way : goal.invariant-loop-way
invariant-loop-way l = record {
  within : l.way ≤ length l.fn.entries;
  none : (k : ℕ) (d : Entry) → k < l.way
      → is_line l.fn.number (line_in l.fn.epoch (get_or l.fn.entries k d)) ≡ false;
}

abbrev pub decreases-loop-way : goal.decreases-loop-way
decreases-loop-way l = length l.fn.entries - l.way

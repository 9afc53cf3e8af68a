use Rattle.std.proofs.Common.{◌≡◌, ◌+◌, length}
use Rattle.std.specs.List.{AllWithin}
use Rattle.set_cache.specs.declared.packed.Entry.{Entry}
use Rattle.set_cache.proofs.packed.unwrite_entries.Given as goal

abbrev pub invariant-loop-entry : goal.invariant-loop-entry
invariant-loop-entry l = record {
  same : length l.entries ≡ length l.initial.entries;
  unwritten : AllWithin (λ (x : Entry). x.epoch ≡ 0) l.entries 0 l.entry-index;
  counted : l.steps ≡ l.initial.steps + l.entry-index;
}

use Rattle.std.proofs.Common.{◌≡◌, ◌+◌, length}
use Rattle.std.specs.List.{AllWithin}
use Rattle.set_cache.specs.declared.packed.WrittenState.{WrittenState}
use Rattle.set_cache.proofs.packed.unwrite_states.Given as goal

abbrev pub invariant-loop-state : goal.invariant-loop-state
invariant-loop-state l = record {
  same : length l.states ≡ length l.initial.states;
  unwritten : AllWithin (λ (x : WrittenState). x.epoch ≡ 0) l.states 0 l.state-index;
  counted : l.steps ≡ l.initial.steps + l.state-index;
}

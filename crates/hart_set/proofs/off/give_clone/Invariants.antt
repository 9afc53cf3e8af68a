use Rattle.std.proofs.Common.{◌≡◌, ◌<◌, ◌≤◌, ℕ, length, Some}
use Rattle.std.specs.Prelude.{slice_get}
use Rattle.kernel_call.specs.declared.domain.Domain.{Domain}
use Rattle.hart_set.specs.Clones.{HasClone}
use Rattle.hart_set.proofs.off.give_clone.Given as goal

abbrev pub invariant-loop-d : goal.invariant-loop-d
invariant-loop-d l = record {
  same : length l.domains ≡ length l.fn.domains;
  done : (e : ℕ) (x : Domain) → slice_get l.domains e ≡ Some x → e < l.d
      → (y : Domain) × (slice_get l.fn.domains e ≡ Some y) × HasClone l.fn.layout y x;
  rest : (e : ℕ) (x : Domain) → slice_get l.domains e ≡ Some x → l.d ≤ e
      → slice_get l.fn.domains e ≡ Some x;
}

-- Loops over the numbers below n that add a text for each.
use Rattle.std.proofs.Common.{◌≡◌, ℕ, ◌+◌, ◌<◌, ◌≤◌, List, length, take, get_or, sym, ◌∙◌, zero-add, arith}
use Rattle.std.specs.List.{flat_map, range_with_len}
use Rattle.std.proofs.lemmas.List.FromFn.{length-range_with_len, get_or-range_with_len}
use Rattle.tp_report.specs.Batches.{Holding, Added, CutIn}
use Rattle.tp_report.proofs.Each.{added_each, cut_in_each, added_all}

module _ (f : ℕ → List ℕ) (n i : ℕ) (old mid : Holding) where
  number_at : i < n → i ≡ get_or (range_with_len 0 n) i i
  number_at h = sym (get_or-range_with_len 0 n i i h ∙ zero-add i)

  within : i < n → i < length (range_with_len 0 n)
  within h = omega (arith, length-range_with_len 0 n)

  -- the step
  pub number_added : (new : Holding) → i < n → Added old mid (flat_map f (take i (range_with_len 0 n)))
      → Added mid new (f i) → Added old new (flat_map f (take (i + 1) (range_with_len 0 n)))
  number_added new h = added_each f (range_with_len 0 n) i i old mid new (within h) (number_at h)

  -- the exit, where the text of i failed
  pub cut_in_number : (new : Holding) → i < n → Added old mid (flat_map f (take i (range_with_len 0 n)))
      → CutIn mid new (f i) → CutIn old new (flat_map f (range_with_len 0 n))
  cut_in_number new h = cut_in_each f (range_with_len 0 n) i i old mid new (within h) (number_at h)

  -- the end
  pub numbers_added : n ≤ i → Added old mid (flat_map f (take i (range_with_len 0 n)))
      → Added old mid (flat_map f (range_with_len 0 n))
  numbers_added h = added_all f (range_with_len 0 n) i old mid (omega (arith, length-range_with_len 0 n))

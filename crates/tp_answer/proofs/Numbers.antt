-- Loops over the numbers below n, of which each writes a text whole.
use Rattle.std.proofs.Common.{◌≡◌, ℕ, ◌+◌, ◌<◌, ◌≤◌, List, length, take, get_or, sym, ◌∙◌, zero-add, arith}
use Rattle.std.specs.List.{flat_map, range_with_len}
use Rattle.std.proofs.lemmas.List.FromFn.{length-range_with_len, get_or-range_with_len}
use Rattle.tp_io.specs.Sends.{SinkState, Sent, CutShort}
use Rattle.tp_io.proofs.Each.{sent_each, cut_in_each, sent_all}

module _ (f : ℕ → List ℕ) (n i : ℕ) (old mid : SinkState) where
  number_at : i < n → i ≡ get_or (range_with_len 0 n) i i
  number_at h = sym (get_or-range_with_len 0 n i i h ∙ zero-add i)

  within : i < n → i < length (range_with_len 0 n)
  within h = omega (arith, length-range_with_len 0 n)

  -- the step
  pub number_sent : (new : SinkState) → i < n → Sent old mid (flat_map f (take i (range_with_len 0 n)))
      → Sent mid new (f i) → Sent old new (flat_map f (take (i + 1) (range_with_len 0 n)))
  number_sent new h = sent_each f (range_with_len 0 n) i i old mid new (within h) (number_at h)

  -- the exit, where the text of i failed
  pub cut_in_number : (new : SinkState) → i < n → Sent old mid (flat_map f (take i (range_with_len 0 n)))
      → CutShort mid new (f i) → CutShort old new (flat_map f (range_with_len 0 n))
  cut_in_number new h = cut_in_each f (range_with_len 0 n) i i old mid new (within h) (number_at h)

  -- the end
  pub numbers_sent : n ≤ i → Sent old mid (flat_map f (take i (range_with_len 0 n)))
      → Sent old mid (flat_map f (range_with_len 0 n))
  numbers_sent h = sent_all f (range_with_len 0 n) i old mid (omega (arith, length-range_with_len 0 n))

-- Numbers and lists stay in the ranges of their keys.
use Rattle.std.proofs.Common.{ℕ, zero, suc, ◌+◌, ◌<◌, ◌≤◌, ◌^◌, Bool, List, [], ◌∷◌, length, get_or, lit<, lit≤}
use Rattle.image_record.specs.Record.{RawDomain, IsRawSegment, no_raw_segment, no_raw_domain, raw_segment}
use Rattle.image_redact.specs.Redacted.{kept_domains, taken_names, exit_segment, emptied, redacted}
use Rattle.image_redact.specs.Laws.{RangesLaw}
use Rattle.image_redact.proofs.Lists.{from, at_either}

module _ (v : ℕ) (kept : List Bool) (taken : List (List ℕ)) (P : RawDomain → Type 0)
    (each : (n : ℕ) (o : RawDomain) → P (emptied v taken n o)) where
  -- what holds of a domain, and of every emptied one, holds of what is left of it
  pub left : (n k : ℕ) (os : List RawDomain) → P (get_or os k no_raw_domain)
      → P (get_or (from v kept taken n os) k no_raw_domain)
  left n k [] h = h
  left n zero (o ∷ os) h = at_either v kept taken P n o (λ here. h) (λ there. each n o)
  left n (suc k) (o ∷ os) h = left (n + 1) k os h

exit_in_range : (k : ℕ) → IsRawSegment (get_or (exit_segment ∷ []) k no_raw_segment)
exit_in_range zero = record { page = lit< tt; some = lit≤ tt; few = lit≤ tt }
exit_in_range (suc k) = record { page = lit< tt; some = lit≤ tt; few = lit≤ tt }

pub ranges_law : RangesLaw
unfolding redacted emptied
ranges_law i d ranges =
    let kept = kept_domains i d in
    let taken = taken_names i d in
    record {
      entry = λ k. left i.version kept taken (λ o. o.entry < 2 ^ 32) (λ n o. lit< tt) 0 k i.domains (ranges.entry k);
      few_segments =
          λ k. left i.version kept taken (λ o. length o.segments ≤ 16) (λ n o. lit≤ tt) 0 k i.domains (ranges.few_segments k);
      segments =
          λ k j. left i.version kept taken (λ o. IsRawSegment (raw_segment o j)) (λ n o. exit_in_range j) 0 k i.domains
          (ranges.segments k j);
    }

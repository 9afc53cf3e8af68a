-- The record can be written where the one that it was made of can.
use Rattle.std.proofs.Common.{◌≡◌, ℕ, ◌<◌, ◌≤◌, List, length, None, Result, Ok, Err, refl, subst, lit≤}
use Rattle.std.specs.Prelude.{IfOk}
use Rattle.image_record.specs.Record.{Raw}
use Rattle.image_text.specs.Record.{image_of}
use Rattle.image_redact.specs.Redacted.{kept_domains, taken_names, exit_alone, emptied, redacted}
use Rattle.image_writing.specs.Writing.{IsWritable}
use Rattle.image_redact.proofs.Lists.{same_length}
use Rattle.image_redact.proofs.Ranges.{left, ranges_law}

says_none : (version : ℕ) → version ≡ 1 → exit_alone version ≡ None
says_none version one = rw one refl

pub kept_writable : (i : Raw) (d : ℕ) → IsWritable i → IsWritable (redacted i d)
unfolding redacted emptied
kept_writable i d w =
    let kept = kept_domains i d in
    let taken = taken_names i d in
    record {
      version = w.version;
      first =
          λ one k. left i.version kept taken (λ o. o.calls ≡ None) (λ n o. says_none i.version one) 0 k i.domains (w.first one k);
      ranges = ranges_law i d w.ranges;
      some =
          λ k l. left i.version kept taken (λ o. 1 ≤ length o.segments) (λ n o. lit≤ tt) 0 k i.domains
          (w.some k (subst (λ n. k < n) (same_length i.version kept taken 0 i.domains) l));
    }

-- and its text is read as it
pub kept_reads : {S E : Type 0} (bytes : S → List ℕ) (w : Result S E) (i k : Raw) (d : ℕ) → k ≡ redacted i d
    → IfOk w (λ s. IsWritable k → image_of (bytes s) ≡ Ok k)
    → IfOk w (λ s. IsWritable i → image_of (bytes s) ≡ Ok (redacted i d))
kept_reads bytes (Ok s) i k d made reads = λ w.
    subst (λ (r : Raw). IsWritable r → image_of (bytes s) ≡ Ok r) made reads (kept_writable i d w)
kept_reads bytes (Err e) i k d made reads = tt

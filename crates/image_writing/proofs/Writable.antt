-- What is read and breaks no rule can be written.
use Rattle.std.proofs.Common.{◌≡◌, ℕ, ◌≤◌, ◌⊎◌, true, List, [], ◌∷◌, length, take, Option, Some, None, Ok, IfOk, sym, true≢false, arith}
use Rattle.std.specs.List.{list_any}
use Rattle.std.proofs.lemmas.Bool.{and_parts}
use Rattle.std.proofs.lemmas.Result.{IfOk-at_ok}
use Rattle.toml.specs.Data.{Members}
use Rattle.image_record.specs.Record.{Raw, RawDomain, RawSegment, raw_domain, no_raw_domain}
use Rattle.image_record.specs.Cases.{first_in}
use Rattle.image_record.proofs.FirstCases.{or_rest, passed, first_in_none}
use Rattle.domain_check.specs.Segments.{executes, segment_case, entry_case, k12, k12_domain}
use Rattle.image_text.specs.Rows.{Broken}
use Rattle.image_text.specs.Record.{record_of, document, read_whole, read_table, image_of}
use Rattle.image_text.specs.Unknown.{broken_key}
use Rattle.image_text.proofs.WholeRows.{versions}
use Rattle.image_text.proofs.Ranges.{ranges_law}
use Rattle.image_text.proofs.Calls.{first_version_law}
use Rattle.image_check.proofs.Kept.{acceptance_law}
use Rattle.image_writing.specs.Writing.{WritableLaw}

-- ---- the version

IsVersion : Raw → Type 0
IsVersion r = (r.version ≡ 1) ⊎ (r.version ≡ 2)

of_record : (t : Members) → IsVersion (record_of t)
unfolding IsVersion record_of
of_record t = versions t

of_whole : (t : Members) (b : Option Broken) → IfOk (read_whole t b) IsVersion
of_whole t None = of_record t
of_whole t (Some b) = tt

of_table : (o : Option Members) → IfOk (read_table o) IsVersion
of_table None = tt
of_table (Some t) = of_whole t (broken_key t)

version_read : (bytes : List ℕ) (r : Raw) → image_of bytes ≡ Ok r → IsVersion r
unfolding image_of
version_read bytes r h = IfOk-at_ok IsVersion h (of_table (document bytes))

-- ---- segments

some_there : (page : ℕ) (ss : List RawSegment) → list_any (executes page) ss ≡ true → 1 ≤ length ss
some_there page [] h = absurd (true≢false (sym h))
some_there page (s ∷ ss) h = omega arith

some_segment : (e : List RawDomain) (o : RawDomain) → k12_domain e o ≡ None → 1 ≤ length o.segments
unfolding k12_domain entry_case
some_segment e o h =
    let tested = (passed _ None _ (or_rest (first_in (segment_case (length e)) o.segments) _ h)).0 in
    some_there _ o.segments (and_parts _ (list_any (executes _) o.segments) tested).1

pub writable_law : WritableLaw
unfolding k12 IsVersion
writable_law bytes r h accepted =
    let segments = ((acceptance_law r).0 accepted).others.before.segments in
    record {
      version = version_read bytes r h;
      first = first_version_law bytes r h;
      ranges = ranges_law bytes r h;
      some = λ d l. some_segment (take d r.domains) (raw_domain r.domains d) (first_in_none k12_domain r.domains segments d l no_raw_domain);
    }

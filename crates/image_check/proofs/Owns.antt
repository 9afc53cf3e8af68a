-- What each domain has of its own, in an image that breaks no rule.
use Rattle.std.proofs.Common.{◌≡◌, ◌≢◌, ℕ, zero, suc, ap, ◌∷◌, ◌+◌, ◌*◌, ◌<◌, ◌≤◌, Bool, true, false, ◌||◌, not, List, [], length, map, take, get_or, length-take, Option, None, Some, refl, sym, ◌∙◌, subst, true≢false, arith, ◌⊎◌, inl, inr}
use Rattle.std.specs.Prelude.{nat_lt, pos, codes, slice_get, if◌then◌else◌}
use Rattle.std.specs.Str.{bytes_eq}
use Rattle.std.specs.List.{list_any}
use Rattle.std.proofs.lemmas.List.{length-map, get_or-map, get_or-take, get_or_past}
use Rattle.std.proofs.lemmas.Option.{slice_get_within}
use Rattle.std.proofs.lemmas.Bool.{cases_Bool, cases_lt, ltb-false, ltb-true, lt-ltb, leb-true, and_parts, false_from_ne_true}
use Rattle.tp_base.specs.Rights.{rights_with, are_good}
use Rattle.image_record.specs.Record.{Raw, RawDomain, RawSegment, IsRawSegment, InKeyRanges, raw_domain, no_raw_domain, no_raw_segment}
use Rattle.image_record.specs.declared.refusal.Refusal.{Refusal}
use Rattle.image_record.specs.Cases.{first_in, refusal}
use Rattle.kernel_clone.specs.Permissions.{every_call}
use Rattle.kernel_clone.proofs.CallLaws.{mail_within}
use Rattle.pad_bound.specs.Worst.{AreWithin}
use Rattle.domain_check.specs.Calls.{calls_in}
use Rattle.domain_check.specs.declared.capabilities.InitialCap.TheVariants.{None as NoCap, Page, Irq}
use Rattle.domain_check.specs.Segments.{k12, k12_domain, segment_case, entry_case, bytes_case, bytes_in, bytes_or_none, has_read, has_write, has_execute, rights_of, is_rights, share_page, k12_refusal}
use Rattle.image_check.specs.Pages.{has_page}
use Rattle.domain_check.specs.Capabilities.{cap_of}
use Rattle.image_check.specs.Own.{Own, Segment, segment_of, own_from, owns_from, owns_of, has_mail, makes_of, no_own, own_at, no_segment, has_line}
use Rattle.image_check.specs.Laws.{KeepsBeforePads, IsSegment, IsOwn}
use Rattle.schedule_check.specs.Interrupts.{k14, moment_of}
use Rattle.irq_partition.specs.declared.Moment.{Moment}
use Rattle.schedule_check.proofs.OwnInterrupts.{interrupts, line_below, early, own_line, moments_sound, two_apart}
use Rattle.domain_check.proofs.Slots.{any_false, slots}
use Rattle.image_check.proofs.OwnSlots.{few_lines, has_its_page, named_once}
use Rattle.image_record.proofs.FirstCases.{or_first, if_first, if_rest, first_in_none}

-- ---- the list of owns

pub owns_length : (i : Raw) → length (owns_of i) ≡ length i.domains
unfolding owns_of
owns_length i = in_order 0 (has_mail i) i.domains
  where
    in_order : (n : ℕ) (mail : Bool) (os : List RawDomain) → length (owns_from n mail os) ≡ length os
    in_order n mail [] = refl
    in_order n mail (o ∷ os) = ap suc (in_order (n + 1) mail os)

pub owns_at : (i : Raw) (d : ℕ) → d < length i.domains
    → own_at (owns_of i) d ≡ own_from d (has_mail i) (raw_domain i.domains d)
unfolding owns_of
owns_at i d l =
    let same : 0 + d ≡ d = omega arith in
    in_order 0 i.domains d l ∙ ap (λ (n : ℕ). own_from n (has_mail i) (raw_domain i.domains d)) same
  where
    in_order : (n : ℕ) (os : List RawDomain) (k : ℕ) → k < length os
        → own_at (owns_from n (has_mail i) os) k ≡ own_from (n + k) (has_mail i) (raw_domain os k)
    in_order n [] k l = absurd (omega (arith, l))
    in_order n (o ∷ os) zero l = let same : n ≡ n + 0 = omega arith in ap (λ (m : ℕ). own_from m (has_mail i) o) same
    in_order n (o ∷ os) (suc k) l =
        let same : n + 1 + k ≡ n + suc k = omega arith in
        in_order (n + 1) os k (omega (arith, l)) ∙ ap (λ (m : ℕ). own_from m (has_mail i) (raw_domain os k)) same

-- each has its place as its number
pub owns_numbered : (i : Raw) (d : ℕ) → d < length i.domains → (own_at (owns_of i) d).number ≡ d
unfolding own_from
owns_numbered i d l = ap (λ (o : Own). o.number) (owns_at i d l)

-- ---- segments

bytes_few : (d : ℕ) (earlier : List RawSegment) (s : RawSegment) (bytes : Option (List ℕ))
    → bytes_case d earlier s bytes ≡ None → length (bytes_or_none bytes) ≤ s.pages * 4096
bytes_few d earlier s None n = cc
bytes_few d earlier s (Some bytes) n =
    let more : Option Refusal = if list_any (share_page s) earlier then k12_refusal d (length earlier) 5 else None in
    ltb-false (s.pages * 4096) (length bytes) (if_first (nat_lt (s.pages * 4096) (length bytes))
    (refusal 12 (pos d) (pos (length earlier)) (pos 4)) more n)

-- by the five texts of rights: r, rw, x, rx, rwx
rights_some : (r rw x rx rwx : Bool) → not (r || (rw || (x || (rx || rwx)))) ≡ false
    → (r || (rw || (rx || rwx))) || (x || (rx || rwx)) ≡ true
rights_some true rw x rx rwx e = refl
rights_some false true x rx rwx e = refl
rights_some false false x true rwx e = refl
rights_some false false x false true e = refl
rights_some false false true false false e = refl
rights_some false false false false false e = absurd (cc)

rights_read : (r rw rx rwx : Bool) → rw || rwx ≡ true → r || (rw || (rx || rwx)) ≡ true
rights_read true rw rx rwx e = refl
rights_read false true rx rwx e = refl
rights_read false false true rwx e = refl
rights_read false false false true e = refl
rights_read false false false false e = absurd (cc)

good_with : (read write execute : Bool) → read || execute ≡ true → (write ≡ true → read ≡ true)
    → are_good (rights_with read write execute) ≡ true
good_with true true true some reads = refl
good_with true true false some reads = refl
good_with true false true some reads = refl
good_with true false false some reads = refl
good_with false true execute some reads = absurd (cc (reads refl))
good_with false false true some reads = refl
good_with false false false some reads = absurd (cc)

rights_sound : (s : RawSegment) → not (is_rights s.rights) ≡ false → are_good (rights_of s.rights) ≡ true
rights_sound s e =
    let is = λ (text : List ℕ). bytes_eq s.rights text in
    good_with (has_read s.rights) (has_write s.rights) (has_execute s.rights)
    (rights_some (is (codes "r")) (is (codes "rw")) (is (codes "x")) (is (codes "rx")) (is (codes "rwx")) e)
    (rights_read (is (codes "r")) (is (codes "rw")) (is (codes "rx")) (is (codes "rwx")))

segment_sound : (d : ℕ) (earlier : List RawSegment) (s : RawSegment) → segment_case d earlier s ≡ None
    → IsRawSegment s → IsSegment (segment_of s)
unfolding segment_case segment_of
segment_sound d earlier s n ranges =
    let bytes = bytes_case d earlier s (bytes_in s.hex) in
    let later : Option Refusal = if not (is_rights s.rights) then k12_refusal d (length earlier) 2 else bytes in
    let first = refusal 12 (pos d) (pos (length earlier)) (pos 1) in
    let second = refusal 12 (pos d) (pos (length earlier)) (pos 2) in
    record {
      page = ltb-false 1048576 (s.page + s.pages) (if_first (nat_lt 1048576 (s.page + s.pages)) first later n);
      some = ranges.some;
      few = ranges.few;
      rights =
          rights_sound s (if_first (not (is_rights s.rights)) second bytes
          (if_rest (nat_lt 1048576 (s.page + s.pages)) first later n));
      bytes =
          bytes_few d earlier s (bytes_in s.hex)
          (if_rest (not (is_rights s.rights)) second bytes
          (if_rest (nat_lt 1048576 (s.page + s.pages)) first later n));
    }

no_segment_sound : IsSegment no_segment
no_segment_sound = record {
  page = omega arith;
  some = omega arith;
  few = omega arith;
  rights = refl;
  bytes = omega arith;
}

segments_sound : (d : ℕ) (ss : List RawSegment) → first_in (segment_case d) ss ≡ None
    → ((k : ℕ) → IsRawSegment (get_or ss k no_raw_segment)) → (k : ℕ)
    → IsSegment (get_or (map segment_of ss) k no_segment)
segments_sound d ss n ranges k = either (cases_lt k (length ss))
  where
    either : (k < length ss) ⊎ (length ss ≤ k) → IsSegment (get_or (map segment_of ss) k no_segment)
    either (inl l) =
        let here =
        segment_sound d (take k ss) (get_or ss k no_raw_segment)
        (first_in_none (segment_case d) ss n k l no_raw_segment) (ranges k) in
        subst IsSegment (sym (get_or-map segment_of ss k no_raw_segment no_segment l)) here
    either (inr m) =
        subst IsSegment
        (sym (get_or_past (map segment_of ss) k no_segment (omega (arith, length-map ss segment_of, m))))
        no_segment_sound

-- the segment shares no page with an earlier one
none_shared : (d : ℕ) (earlier : List RawSegment) (s : RawSegment) (bytes : Option (List ℕ))
    → bytes_case d earlier s bytes ≡ None → list_any (share_page s) earlier ≡ false
none_shared d earlier s None n = absurd (cc n)
none_shared d earlier s (Some bytes) n =
    let shared : Option Refusal = if list_any (share_page s) earlier then k12_refusal d (length earlier) 5 else None in
    if_first (list_any (share_page s) earlier) (refusal 12 (pos d) (pos (length earlier)) (pos 5)) None
    (if_rest (nat_lt (s.pages * 4096) (length bytes)) (refusal 12 (pos d) (pos (length earlier)) (pos 4)) shared n)

shares_none : (d : ℕ) (earlier : List RawSegment) (s : RawSegment) → segment_case d earlier s ≡ None
    → list_any (share_page s) earlier ≡ false
unfolding segment_case
shares_none d earlier s n =
    let bytes = bytes_case d earlier s (bytes_in s.hex) in
    let later : Option Refusal = if not (is_rights s.rights) then k12_refusal d (length earlier) 2 else bytes in
    let first = refusal 12 (pos d) (pos (length earlier)) (pos 1) in
    let second = refusal 12 (pos d) (pos (length earlier)) (pos 2) in
    none_shared d earlier s (bytes_in s.hex)
    (if_rest (not (is_rights s.rights)) second bytes
    (if_rest (nat_lt 1048576 (s.page + s.pages)) first later n))

-- a page of both is shared
both_share : (s e : RawSegment) (n : ℕ) → share_page s e ≡ false → has_page (segment_of e) n ≡ true
    → has_page (segment_of s) n ≡ false
unfolding segment_of
both_share s e n none here = by_case (cases_Bool (has_page (segment_of s) n))
  where
    by_case : (has_page (segment_of s) n ≡ true) ⊎ (has_page (segment_of s) n ≡ false)
        → has_page (segment_of s) n ≡ false
    by_case (inr no_page) = no_page
    by_case (inl there) =
        let low : e.page < s.page + s.pages =
        omega (
          arith,
          leb-true e.page n (and_parts _ _ here).0,
          ltb-true n (s.page + s.pages)
              (and_parts _ _ there).1,
        ) in
        let high : s.page < e.page + e.pages =
        omega (
          arith,
          leb-true s.page n (and_parts _ _ there).0,
          ltb-true n (e.page + e.pages)
              (and_parts _ _ here).1,
        ) in
        let both : share_page s e ≡ true = rw (lt-ltb e.page (s.page + s.pages) low, lt-ltb s.page (e.page + e.pages) high) refl in
        absurd (true≢false (sym both ∙ none))

segments_apart : (d : ℕ) (ss : List RawSegment) → first_in (segment_case d) ss ≡ None → (j k n : ℕ) → j < k
    → k < length (map segment_of ss)
    → has_page (get_or (map segment_of ss) j no_segment) n ≡ true → has_page (get_or (map segment_of ss) k no_segment) n ≡ false
segments_apart d ss none j k n less below here =
    let within : k < length ss = omega (arith, length-map ss segment_of, below) in
    let before : j < length ss = omega (arith, less, within) in
    let s = get_or ss k no_raw_segment in
    let e = get_or (take k ss) j no_raw_segment in
    let case = first_in_none (segment_case d) ss none k within no_raw_segment in
    let apart =
    any_false (share_page s) (take k ss) (shares_none d (take k ss) s case) j
    (omega (arith, length-take k ss, less, within)) no_raw_segment in
    let same : e ≡ get_or ss j no_raw_segment = get_or-take k ss j no_raw_segment less in
    let at_j : has_page (segment_of e) n ≡ true =
    subst (λ (x : RawSegment). has_page (segment_of x) n ≡ true) (sym same)
    (subst (λ (x : Segment). has_page x n ≡ true) (get_or-map segment_of ss j no_raw_segment no_segment before) here) in
    subst (λ (x : Segment). has_page x n ≡ false)
    (sym (get_or-map segment_of ss k no_raw_segment no_segment within)) (both_share s e n apart at_j)

-- ---- owns

-- those of the calls that it lists which a domain may make are of those
makes_within : (mail : Bool) (calls : ℕ) → AreWithin (makes_of mail calls) calls
makes_within true calls n may = may
makes_within false calls n may = mail_within calls n may

own_sound : (i : Raw) (d : ℕ) → InKeyRanges i → KeepsBeforePads i → d < length i.domains
    → IsOwn (own_from d (has_mail i) (raw_domain i.domains d))
unfolding k12 k12_domain own_from
own_sound i d ranges rules l =
    let o = raw_domain i.domains d in
    let place = length (take d i.domains) in
    let has = slots i rules.capabilities d l in
    let irqs = interrupts i rules.lines rules.moments d l in
    let here =
    or_first (first_in (segment_case place) o.segments) (entry_case place o)
    (first_in_none k12_domain i.domains rules.segments d l no_raw_domain) in
    record {
      entry = ranges.entry d;
      few = omega (arith, length-map o.segments segment_of, ranges.few_segments d);
      segments = segments_sound place o.segments here (ranges.segments d);
      apart = segments_apart place o.segments here;
      few_caps = omega (arith, length-map o.caps cap_of, has.few);
      pages = has_its_page d (has_mail i) o has;
      page_once = λ j k m. named_once d (has_mail i) o has (Page m) (λ (z : Page m ≡ NoCap). cc) j k;
      few_lines = few_lines d (has_mail i) o has irqs;
      line_once = λ j k m. named_once d (has_mail i) o has (Irq m) (λ (z : Irq m ≡ NoCap). cc) j k;
      lines = line_below o irqs;
      few_moments = omega (arith, length-map o.moments moment_of, irqs.few);
      moments = moments_sound o irqs;
      early = early o irqs;
      own_lines = own_line o irqs;
      listed = makes_within (has_mail i) (calls_in o.calls);
    }

no_own_sound : IsOwn no_own
no_own_sound = record {
  entry = omega arith;
  few = omega arith;
  segments = λ k. subst IsSegment (sym (get_or_past [] k no_segment (omega arith))) no_segment_sound;
  apart = λ j k n less below here. absurd (omega (arith, below));
  few_caps = omega arith;
  pages = λ k n e. absurd (no_page n (sym (get_or_past [] k NoCap (omega arith)) ∙ e));
  page_once = λ j k n other e. absurd (no_page n (sym (get_or_past [] j NoCap (omega arith)) ∙ e));
  few_lines = λ k n e. absurd (no_line n (sym (get_or_past [] k NoCap (omega arith)) ∙ e));
  line_once = λ j k n other e. absurd (no_line n (sym (get_or_past [] j NoCap (omega arith)) ∙ e));
  lines = λ n e. absurd (true≢false (sym e));
  few_moments = omega arith;
  moments = record { lines = λ k x e. absurd (no_moment k x e); ascend = λ j k x y less e. absurd (no_moment j x e) };
  early = λ k x e. absurd (no_moment k x e);
  own_lines = λ k x e. absurd (no_moment k x e);
  listed = makes_within false every_call;
}
  where
    no_page : (n : ℕ) → NoCap ≢ Page n
    no_page n e = cc

    no_line : (n : ℕ) → NoCap ≢ Irq n
    no_line n e = cc

    no_moment : (k : ℕ) (x : Moment) → slice_get [] k ≢ Some x
    no_moment k x e = omega (arith, slice_get_within [] k x e)

pub owns_sound : (i : Raw) → InKeyRanges i → KeepsBeforePads i → (d : ℕ) → IsOwn (own_at (owns_of i) d)
owns_sound i ranges rules d = either (cases_lt d (length i.domains))
  where
    either : (d < length i.domains) ⊎ (length i.domains ≤ d) → IsOwn (own_at (owns_of i) d)
    either (inl l) = subst IsOwn (sym (owns_at i d l)) (own_sound i d ranges rules l)
    either (inr m) = subst IsOwn (sym (get_or_past (owns_of i) d no_own (omega (arith, owns_length i, m)))) no_own_sound

-- a line of one domain is no other's
pub lines_owned : (i : Raw) → k14 i ≡ None → (d e n : ℕ) → d < length i.domains → e < length i.domains → d ≢ e
    → has_line (own_at (owns_of i) d) n ≡ true → has_line (own_at (owns_of i) e) n ≡ false
unfolding own_from
lines_owned i k d e n l m other mine = false_from_ne_true (has_line (own_at (owns_of i) e) n) (λ theirs. either theirs (cases_lt e d))
  where
    raw : (c : ℕ) → c < length i.domains → has_line (own_at (owns_of i) c) n ≡ true
        → has_line (own_from c (has_mail i) (raw_domain i.domains c)) n ≡ true
    raw c below h = subst (λ (o : Own). has_line o n ≡ true) (owns_at i c below) h

    either : has_line (own_at (owns_of i) e) n ≡ true → (e < d) ⊎ (d ≤ e) → ⊥
    either theirs (inl less) = two_apart i k d l e less n (raw d l mine) (raw e m theirs)
    either theirs (inr more) = two_apart i k e m d (omega (arith, more, other)) n (raw e m theirs) (raw d l mine)

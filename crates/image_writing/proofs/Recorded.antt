-- The record of the table that a record is written as is this record.
use Rattle.std.proofs.Common.{◌≡◌, ℕ, ◌<◌, ◌≤◌, ◌^◌, ◌⊎◌, inl, inr, ℤ, pos, List, [], ◌∷◌, map, length, Option, Some, None, option_map, refl, ap, ap₂, ◌∙◌, arith}
use Rattle.std.proofs.lemmas.Bool.{le-leb}
use Rattle.toml.specs.Data.{string, integer}
use Rattle.toml.specs.View.{items_of}
use Rattle.image_record.specs.Record.{Raw, RawSegment, RawMoment, RawDomain, RawEntry, RawMailbox, RawMuldiv, IsRawSegment, no_raw_segment, no_raw_domain, raw_domain}
use Rattle.image_text.specs.Rows.{version_of, version_from, items_or_none}
use Rattle.image_text.specs.Record.{ranged, integer_of, text_of, integers_in, items_if, map_items, segment_of, segment_in, moment_in, domain_of, domain_in, entry_of, entry_in, mailbox_of, mailbox_in, cache_of, costs_of, muldiv_of, table_if, integer_if, record_of}
use Rattle.image_writing.specs.Data.{integers, segment_members, segment_data, moment_data, domain_data, entry_members, entry_data, mailbox_members, mailbox_data, mail_data, some_mail, cache_members, level2_members, costs_members, muldiv_members, muldiv_data, record_members}
use Rattle.image_writing.specs.Writing.{IsWritable}
use Rattle.image_writing.proofs.Items.{Each, each_from, Any, any_each, read_all}
use Rattle.image_writing.proofs.Looks.{domain_looks, looks}

-- ---- what is known of a domain

pub record IsGood (version : ℕ) (o : RawDomain) : Type 0 where
  pub entry : o.entry < 2 ^ 32
  pub some : 1 ≤ length o.segments
  pub few : length o.segments ≤ 16
  pub segments : Each IsRawSegment o.segments
  pub calls : version ≡ 1 → o.calls ≡ None

pub good : (r : Raw) → IsWritable r → Each (IsGood r.version) r.domains
good r w =
    each_from (IsGood r.version) no_raw_domain r.domains
    (λ d l. record {
      entry = w.ranges.entry d;
      some = w.some d l;
      few = w.ranges.few_segments d;
      segments =
          each_from IsRawSegment no_raw_segment (raw_domain r.domains d).segments
          (λ k m. w.ranges.segments d k);
      calls = λ first. w.first first d;
    })

-- ---- numbers and lists

within_range : (low high n : ℕ) → low ≤ n → n ≤ high → ranged low high (pos n) ≡ n
within_range low high n least most = rw (le-leb low n least, le-leb n high most) refl

pub integers_read : (zs : List ℤ) → integers_in (items_of (map integer zs)) ≡ zs
integers_read zs = read_all Any integer (λ d. integer_of (Some d)) (λ z any. refl) zs (any_each zs)

texts_read : (ss : List (List ℕ)) → map_items (λ d. text_of (Some d)) (items_of (map string ss)) ≡ ss
texts_read ss = read_all Any string (λ d. text_of (Some d)) (λ s any. refl) ss (any_each ss)

moments_read : (ms : List RawMoment) → map_items moment_in (items_of (map moment_data ms)) ≡ ms
moments_read ms = read_all Any moment_data moment_in (λ m any. refl) ms (any_each ms)

-- ---- a domain

segment_read : (s : RawSegment) → IsRawSegment s → segment_in (segment_data s) ≡ s
unfolding segment_of segment_members
segment_read s is =
    let page = is.page in
    ap₂ (λ p n. record s { page = p; pages = n }) (within_range 0 1048575 s.page (omega arith) (omega (arith, page)))
    (within_range 1 64 s.pages is.some is.few)

segments_read : (ss : List RawSegment) → Each IsRawSegment ss
    → map_items segment_in (items_of (map segment_data ss)) ≡ ss
segments_read ss each = read_all IsRawSegment segment_data segment_in segment_read ss each

calls_read : (c : Option (List ℤ)) → option_map integers_in (items_if (option_map integers c)) ≡ c
calls_read None = refl
calls_read (Some zs) = ap (λ (ys : List ℤ). Some ys) (integers_read zs)

domain_read : (version : ℕ) (o : RawDomain) → IsGood version o → domain_in (domain_data o) ≡ o
unfolding domain_of
domain_read version o is =
    let l = domain_looks o in
    let entry = is.entry in
    rw (
      l.name,
      l.colours,
      l.entry,
      l.segment,
      l.caps,
      l.lines,
      l.moments,
      l.calls,
      integers_read o.colours,
      within_range 0 4294967295 o.entry (omega arith) (omega (arith, entry)),
      segments_read o.segments is.segments,
      texts_read o.caps,
      integers_read o.lines,
      moments_read o.moments,
      calls_read o.calls,
    )

-- ---- the image

entry_read : (e : RawEntry) → entry_in (entry_data e) ≡ e
unfolding entry_of entry_members
entry_read e = refl

mailbox_read : (b : RawMailbox) → mailbox_in (mailbox_data b) ≡ b
unfolding mailbox_of mailbox_members
mailbox_read b = refl

mail_read : (bs : List RawMailbox) → map_items mailbox_in (items_or_none (option_map mail_data (some_mail bs))) ≡ bs
mail_read [] = refl
mail_read (b ∷ bs) = read_all Any mailbox_data mailbox_in (λ x any. mailbox_read x) (b ∷ bs) (any_each (b ∷ bs))

muldiv_read : (c : Option RawMuldiv) → option_map muldiv_of (table_if (option_map muldiv_data c)) ≡ c
unfolding muldiv_of muldiv_members
muldiv_read None = refl
muldiv_read (Some c) = refl

targets_read : (x : Option ℤ) → integer_if (option_map integer x) ≡ x
targets_read None = refl
targets_read (Some z) = refl

version_read : (v : ℕ) → (v ≡ 1) ⊎ (v ≡ 2) → version_from (Some (integer (pos v))) ≡ v
version_read v (inl first) = rw first refl
version_read v (inr second) = rw second refl

pub version_is : (r : Raw) → IsWritable r → version_of (record_members r) ≡ r.version
version_is r w = ap version_from (looks r).version ∙ version_read r.version w.version

pub recorded : (r : Raw) → IsWritable r → record_of (record_members r) ≡ r
unfolding record_of cache_of costs_of cache_members level2_members costs_members
recorded r w =
    let l = looks r in
    rw (
      version_is r w,
      l.frames,
      l.shared,
      l.line,
      l.l1i,
      l.l1d,
      l.l2,
      l.tlb,
      l.predictor,
      l.history,
      l.costs,
      l.muldiv,
      l.targets,
      l.domain,
      l.schedule,
      l.mail,
      muldiv_read r.muldiv,
      targets_read r.targets,
      read_all (IsGood r.version) domain_data domain_in (domain_read r.version) r.domains (good r w),
      read_all Any entry_data entry_in (λ e any. entry_read e) r.schedule (any_each r.schedule),
      mail_read r.mail,
    )

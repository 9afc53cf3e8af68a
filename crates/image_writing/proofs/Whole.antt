-- What is written breaks no row of the key table.
use Rattle.std.proofs.Common.{◌≡◌, ℕ, ◌≤◌, ◌⊎◌, inl, inr, ℤ, pos, Bool, true, false, ◌&&◌, ◌||◌, List, [], ◌∷◌, map, take, drop, codes, nat_le, Option, Some, None, is_some, option_map, if◌then◌else◌, refl, sym, subst, arith}
use Rattle.std.proofs.lemmas.Bool.{le-leb, and_parts}
use Rattle.toml.specs.Data.{Data, string, integer, Members, get_member, as_table, as_integer, as_str}
use Rattle.toml.specs.View.{items_of}
use Rattle.image_record.specs.Record.{Raw, RawSegment, RawMoment, RawDomain, RawEntry, RawMailbox, RawMuldiv, IsRawSegment}
use Rattle.image_text.specs.declared.kinds.Place.{Place}
use Rattle.image_text.specs.declared.kinds.Place.TheVariants.{Top, Domain as DomainPlace, Segment as SegmentPlace, Entry as EntryPlace, Mail as MailPlace}
use Rattle.image_text.specs.declared.kinds.Simple.TheVariants.{Integer, Table}
use Rattle.image_text.specs.Rows.{Row, Array, Fields, One, key_rows, cache_fields, level2_fields, cost_fields, muldiv_fields, fits, fits_if, within, whole_in, whole_item, whole_segments, items_or_none, all_items, count_items, is_pair_value, first_failing, broken_at, broken_in, first_broken}
use Rattle.image_text.specs.Unknown.{no_key, no_key_in, same_place, is_of, is_known, all_keys, no_more_at, no_more_if, no_more_in, known_table, known_item, known_domain, known_segments, all_known, broken_key}
use Rattle.image_writing.specs.Data.{integers, segment_members, segment_data, moment_data, domain_members, domain_data, entry_members, entry_data, mailbox_members, mailbox_data, mail_data, some_mail, cache_members, level2_members, costs_members, muldiv_members, muldiv_data, plain_domain, plain_members, with_targets, with_muldiv, record_members}
use Rattle.image_writing.specs.Writing.{IsWritable}
use Rattle.image_writing.proofs.Inserts.{if_keys}
use Rattle.image_writing.proofs.Items.{Any, any_each, all_made, none_failing, no_keys, counted}
use Rattle.image_writing.proofs.Looks.{domain_looks, looks}
use Rattle.image_writing.proofs.Recorded.{IsGood, good, version_is}

-- ---- rows, whatever the version is

Whole : Members → List Row → Type 0
Whole t [] = Unit {0}
Whole t (r ∷ rows) = (broken_at r.place r t ≡ None) × Whole t rows

either_way : (b : Bool) (o : Option ℕ) → o ≡ None → (if b then o else None) ≡ None
either_way true o none = none
either_way false o none = refl

none_broken : (version : ℕ) (t : Members) (rows : List Row) → Whole t rows → first_broken version rows t ≡ None
unfolding Whole first_broken broken_in
none_broken version t [] whole = refl
none_broken version t (r ∷ rows) whole =
    rw (either_way (nat_le r.since version) (broken_at r.place r t) whole.0) (none_broken version t rows whole.1)

-- a key of the place holds no key but those of its row
abbrev AllMore : Place → Members → List Row → Type 0
AllMore place t [] = Unit {0}
AllMore place t (r ∷ rows) =
    (same_place place r.place ≡ true → no_more_at r.kind (get_member r.key t) ≡ true) × AllMore place t rows

more_if : (b : Bool) (version : ℕ) (place : Place) (r : Row) (t : Members) → is_of version place r ≡ b
    → (same_place place r.place ≡ true → no_more_at r.kind (get_member r.key t) ≡ true)
    → no_more_if b r t ≡ true
more_if true version place r t is more = more (and_parts (nat_le r.since version) (same_place place r.place) is).1
more_if false version place r t is more = refl

all_more : (version : ℕ) (place : Place) (t : Members) (rows : List Row) → AllMore place t rows
    → no_more_in version place rows t ≡ true
all_more version place t [] more = refl
all_more version place t (r ∷ rows) more =
    rw (more_if (is_of version place r) version place r t refl more.0, all_more version place t rows more.1) refl

-- ---- values

all_integers : (zs : List ℤ) → all_items (λ d. is_some (as_integer d)) (items_of (map integer zs)) ≡ true
all_integers zs = all_made Any integer (λ d. is_some (as_integer d)) (λ z any. refl) zs (any_each zs)

all_texts : (ss : List (List ℕ)) → all_items (λ d. is_some (as_str d)) (items_of (map string ss)) ≡ true
all_texts ss = all_made Any string (λ d. is_some (as_str d)) (λ s any. refl) ss (any_each ss)

all_pairs : (ms : List RawMoment) → all_items is_pair_value (items_of (map moment_data ms)) ≡ true
all_pairs ms = all_made Any moment_data is_pair_value (λ m any. refl) ms (any_each ms)

inside : (low high n : ℕ) → low ≤ n → n ≤ high → nat_le low n && nat_le n high ≡ true
inside low high n least most = rw (le-leb low n least, le-leb n high most) refl

both : (a b : Bool) → a ≡ true → b ≡ true → a && b ≡ true
both a b h k = rw (h, k) refl

if_whole : (b : Bool) → b ≡ true → (if◌then◌else◌ {A = Option ℕ} b None (Some 0)) ≡ None
if_whole b h = rw h refl

by_version : (P : ℕ → Type 0) → P 1 → P 2 → (v : ℕ) → (v ≡ 1) ⊎ (v ≡ 2) → P v
by_version P one two v (inl first) = subst P (sym first) one
by_version P one two v (inr second) = subst P (sym second) two

-- ---- the machine's rows

muldiv_whole : (c : Option RawMuldiv) → fits_if false (Fields muldiv_fields) (option_map muldiv_data c) ≡ true
unfolding fits muldiv_fields muldiv_members
muldiv_whole None = refl
muldiv_whole (Some c) = refl

targets_whole : (x : Option ℤ) → fits_if false (One Integer) (option_map integer x) ≡ true
unfolding fits
targets_whole None = refl
targets_whole (Some z) = refl

calls_whole : (c : Option (List ℤ)) → fits_if false (Array Integer) (option_map integers c) ≡ true
unfolding fits
calls_whole None = refl
calls_whole (Some zs) = all_integers zs

-- ---- the boxes

are_tables : (bs : List RawMailbox) → all_items (λ d. is_some (as_table d)) (items_of (map mailbox_data bs)) ≡ true
are_tables bs = all_made Any mailbox_data (λ d. is_some (as_table d)) (λ b any. refl) bs (any_each bs)

mail_whole : (bs : List RawMailbox) → fits_if false (Array Table) (option_map mail_data (some_mail bs)) ≡ true
unfolding fits
mail_whole [] = refl
mail_whole (b ∷ bs) = are_tables (b ∷ bs)

in_mail : (test : Data → Bool) → ((b : RawMailbox) → test (mailbox_data b) ≡ true) → (bs : List RawMailbox)
    → first_failing test 0 (items_or_none (option_map mail_data (some_mail bs))) ≡ None
in_mail test pass [] = refl
in_mail test pass (b ∷ bs) = none_failing Any mailbox_data test (λ x any. pass x) 0 (b ∷ bs) (any_each (b ∷ bs))

mail_alone : (bs : List RawMailbox) → no_more_at (Array Table) (option_map mail_data (some_mail bs)) ≡ true
mail_alone [] = refl
mail_alone (b ∷ bs) = all_made Any mailbox_data (λ d. is_some (as_table d) || no_key d) (λ x any. refl) (b ∷ bs) (any_each (b ∷ bs))

-- ---- all rows

module _ (r : Raw) (w : IsWritable r) where
  abbrev t : Members
  t = record_members r

  in_domains : (test : Data → Bool) → ((o : RawDomain) → IsGood r.version o → test (domain_data o) ≡ true)
      → first_failing test 0 (items_of (map domain_data r.domains)) ≡ None
  in_domains test pass = none_failing (IsGood r.version) domain_data test pass 0 r.domains (good r w)

  in_segments : (test : Data → Bool) → ((s : RawSegment) → IsRawSegment s → test (segment_data s) ≡ true)
      → (o : RawDomain) → IsGood r.version o → all_items test (items_of (map segment_data o.segments)) ≡ true
  in_segments test pass o is = all_made IsRawSegment segment_data test pass o.segments is.segments

  in_entries : (test : Data → Bool) → ((e : RawEntry) → test (entry_data e) ≡ true)
      → first_failing test 0 (items_of (map entry_data r.schedule)) ≡ None
  in_entries test pass = none_failing Any entry_data test (λ e any. pass e) 0 r.schedule (any_each r.schedule)

  all_domains : all_items (λ d. is_some (as_table d)) (items_of (map domain_data r.domains)) ≡ true
  all_domains = all_made (IsGood r.version) domain_data (λ d. is_some (as_table d)) (λ o is. refl) r.domains (good r w)

  all_entries : all_items (λ d. is_some (as_table d)) (items_of (map entry_data r.schedule)) ≡ true
  all_entries = all_made Any entry_data (λ d. is_some (as_table d)) (λ e any. refl) r.schedule (any_each r.schedule)

  some_segments : (o : RawDomain) → IsGood r.version o
      → (nat_le 1 (count_items (items_of (map segment_data o.segments)))
      && nat_le (count_items (items_of (map segment_data o.segments))) 16)
      && all_items (λ d. is_some (as_table d)) (items_of (map segment_data o.segments))
      ≡ true
  some_segments o is =
      let n = counted IsRawSegment segment_data o.segments in
      let some = is.some in
      let few = is.few in
      both _ _
      (inside 1 16 (count_items (items_of (map segment_data o.segments))) (omega (arith, n, some)) (omega (arith, n, few)))
      (in_segments (λ d. is_some (as_table d)) (λ s is. refl) o is)

  version_whole : within 1 2 (Some (pos r.version)) ≡ true
  version_whole = by_version (λ v. within 1 2 (Some (pos v)) ≡ true) refl refl r.version w.version

  first_whole : Whole t (take 25 key_rows)
  unfolding Whole key_rows cache_fields level2_fields cost_fields whole_in whole_item whole_segments fits
      cache_members level2_members costs_members segment_members entry_members
  first_whole = (
    if_whole _ (rw (looks r).frames refl),
    (
      if_whole _ (rw (looks r).shared refl),
      (
        if_whole _ (rw (looks r).line refl),
        (
          if_whole _ (rw (looks r).l1i refl),
          (
            if_whole _ (rw (looks r).l1d refl),
            (
              if_whole _ (rw (looks r).l2 refl),
              (
                if_whole _ (rw (looks r).tlb refl),
                (
                  if_whole _ (rw (looks r).predictor refl),
                  (
                    if_whole _ (rw (looks r).costs refl),
                    (
                      if_whole _ (rw (looks r).domain all_domains),
                      (
                        rw (looks r).domain (in_domains _ (λ o is. rw (domain_looks o).name refl)),
                        (
                          rw (looks r).domain (in_domains _ (λ o is. rw (domain_looks o).colours (all_integers o.colours))),
                          (
                            rw (looks r).domain
                                (in_domains _
                                (λ o is. (let entry = is.entry in rw (domain_looks o).entry (inside 0 4294967295 o.entry (omega arith) (omega (arith, entry)))))),
                            (
                              rw (looks r).domain (in_domains _ (λ o is. rw (domain_looks o).segment (some_segments o is))),
                              (
                                rw (looks r).domain
                                    (in_domains _
                                    (λ o is.
                                    rw (domain_looks o).segment
                                    (in_segments _ (λ s its. (let page = its.page in inside 0 1048575 s.page (omega arith) (omega (arith, page)))) o is))),
                                (
                                  rw (looks r).domain
                                      (in_domains _
                                      (λ o is. rw (domain_looks o).segment (in_segments _ (λ s its. inside 1 64 s.pages its.some its.few) o is))),
                                  (rw (looks r).domain (in_domains _ (λ o is. rw (domain_looks o).segment (in_segments _ (λ s its. refl) o is))), (rw (looks r).domain (in_domains _ (λ o is. rw (domain_looks o).segment (in_segments _ (λ s its. refl) o is))), (rw (looks r).domain (in_domains _ (λ o is. rw (domain_looks o).caps (all_texts o.caps))), (rw (looks r).domain (in_domains _ (λ o is. rw (domain_looks o).lines (all_integers o.lines))), (rw (looks r).domain (in_domains _ (λ o is. rw (domain_looks o).moments (all_pairs o.moments))), (if_whole _ (rw (looks r).schedule all_entries), (rw (looks r).schedule (in_entries _ (λ e. refl)), (rw (looks r).schedule (in_entries _ (λ e. refl)), (rw (looks r).schedule (in_entries _ (λ e. refl)), tt))))))))),
                                ),
                              ),
                            ),
                          ),
                        ),
                      ),
                    ),
                  ),
                ),
              ),
            ),
          ),
        ),
      ),
    ),
  )

  later_whole : Whole t (drop 25 key_rows)
  unfolding Whole key_rows whole_in whole_item fits level2_members entry_members mailbox_members
  later_whole = (
    if_whole _ (rw (looks r).l2 refl),
    (
      if_whole _ (rw (looks r).version version_whole),
      (
        rw (looks r).domain (in_domains _ (λ o is. rw (domain_looks o).calls (calls_whole o.calls))),
        (
          if_whole _ (rw (looks r).history refl),
          (
            rw (looks r).schedule (in_entries _ (λ e. refl)),
            (
              if_whole _ (rw (looks r).mail (mail_whole r.mail)),
              (
                rw (looks r).mail (in_mail _ (λ b. refl) r.mail),
                (
                  rw (looks r).mail (in_mail _ (λ b. refl) r.mail),
                  (
                    if_whole _ (rw (looks r).muldiv (muldiv_whole r.muldiv)),
                    (if_whole _ (rw (looks r).targets (targets_whole r.targets)), tt),
                  ),
                ),
              ),
            ),
          ),
        ),
      ),
    ),
  )

  -- ---- no other keys

  top_keys : (p : List ℕ → Bool) → p (codes "mail") ≡ true → p (codes "muldiv") ≡ true → p (codes "targets") ≡ true
      → all_keys p (plain_members r) ≡ true → all_keys p t ≡ true
  unfolding record_members with_muldiv with_targets
  top_keys p mail muldiv targets plain =
      if_keys p (codes "mail") mail (option_map mail_data (some_mail r.mail)) _
      (if_keys p (codes "muldiv") muldiv (option_map muldiv_data r.muldiv) _
      (if_keys p (codes "targets") targets (option_map integer r.targets) (plain_members r) plain))

  muldiv_alone : (c : Option RawMuldiv) → no_more_at (Fields muldiv_fields) (option_map muldiv_data c) ≡ true
  unfolding muldiv_fields muldiv_members
  muldiv_alone None = refl
  muldiv_alone (Some c) = refl

  targets_alone : (x : Option ℤ) → no_more_at (One Integer) (option_map integer x) ≡ true
  targets_alone None = refl
  targets_alone (Some z) = refl

  domains_alone : all_items (λ d. is_some (as_table d) || no_key d) (items_of (map domain_data r.domains)) ≡ true
  domains_alone = all_made (IsGood r.version) domain_data _ (λ o is. refl) r.domains (good r w)

  entries_alone : all_items (λ d. is_some (as_table d) || no_key d) (items_of (map entry_data r.schedule)) ≡ true
  entries_alone = all_made Any entry_data _ (λ e any. refl) r.schedule (any_each r.schedule)

  top_more : AllMore Top t key_rows
  unfolding key_rows cache_fields level2_fields cost_fields cache_members level2_members costs_members
  top_more =
      ((λ e. rw (looks r).frames refl), ((λ e. rw (looks r).shared refl), ((λ e. rw (looks r).line refl), ((λ e. rw (looks r).l1i refl), ((λ e. rw (looks r).l1d refl), ((λ e. rw (looks r).l2 refl), ((λ e. rw (looks r).tlb refl), ((λ e. rw (looks r).predictor refl), ((λ e. rw (looks r).costs refl), ((λ e. rw (looks r).domain domains_alone), ((λ e. cc), ((λ e. cc), ((λ e. cc), ((λ e. cc), ((λ e. cc), ((λ e. cc), ((λ e. cc), ((λ e. cc), ((λ e. cc), ((λ e. cc), ((λ e. cc), ((λ e. rw (looks r).schedule entries_alone), ((λ e. cc), ((λ e. cc), ((λ e. cc), ((λ e. cc), ((λ e. rw (looks r).version refl), ((λ e. cc), ((λ e. rw (looks r).history refl), ((λ e. cc), ((λ e. rw (looks r).mail (mail_alone r.mail)), ((λ e. cc), ((λ e. cc), ((λ e. rw (looks r).muldiv (muldiv_alone r.muldiv)), ((λ e. rw (looks r).targets (targets_alone r.targets)), tt)))))))))))))))))))))))))))))))))))

  top_known : known_table r.version Top key_rows t ≡ true
  unfolding known_table key_rows
  top_known =
      both _ _
      (by_version (λ n. all_keys (is_known n Top key_rows) t ≡ true) (top_keys (is_known 1 Top key_rows) refl refl refl refl)
      (top_keys (is_known 2 Top key_rows) refl refl refl refl) r.version w.version) (all_more r.version Top t key_rows top_more)

-- ---- in a domain

integers_alone : (zs : List ℤ) → no_key_in (items_of (map integer zs)) ≡ true
integers_alone zs = no_keys Any integer (λ z. refl) zs

texts_alone : (ss : List (List ℕ)) → no_key_in (items_of (map string ss)) ≡ true
texts_alone ss = no_keys Any string (λ s. refl) ss

pairs_alone : (ms : List RawMoment) → no_key_in (items_of (map moment_data ms)) ≡ true
pairs_alone ms = no_keys Any moment_data (λ m. refl) ms

calls_alone : (c : Option (List ℤ)) → no_more_at (Array Integer) (option_map integers c) ≡ true
calls_alone None = refl
calls_alone (Some zs) = integers_alone zs

-- in the first version there are no calls
domain_keys : (v : ℕ) (o : RawDomain) → (v ≡ 1) ⊎ (v ≡ 2) → IsGood v o
    → all_keys (is_known v DomainPlace key_rows) (domain_members o) ≡ true
unfolding domain_members key_rows
domain_keys v o (inl first) is = rw (is.calls first, first) refl
domain_keys v o (inr second) is =
    rw second (if_keys (is_known 2 DomainPlace key_rows) (codes "calls") refl (option_map integers o.calls) (plain_domain o) refl)

segments_alone : (ss : List RawSegment)
    → all_items (λ d. is_some (as_table d) || no_key d) (items_of (map segment_data ss)) ≡ true
segments_alone ss = all_made Any segment_data _ (λ s any. refl) ss (any_each ss)

domain_more : (o : RawDomain) → AllMore DomainPlace (domain_members o) key_rows
unfolding key_rows
domain_more o =
    ((λ e. cc), ((λ e. cc), ((λ e. cc), ((λ e. cc), ((λ e. cc), ((λ e. cc), ((λ e. cc), ((λ e. cc), ((λ e. cc), ((λ e. cc), ((λ e. rw (domain_looks o).name refl), ((λ e. rw (domain_looks o).colours (integers_alone o.colours)), ((λ e. rw (domain_looks o).entry refl), ((λ e. rw (domain_looks o).segment (segments_alone o.segments)), ((λ e. cc), ((λ e. cc), ((λ e. cc), ((λ e. cc), ((λ e. rw (domain_looks o).caps (texts_alone o.caps)), ((λ e. rw (domain_looks o).lines (integers_alone o.lines)), ((λ e. rw (domain_looks o).moments (pairs_alone o.moments)), ((λ e. cc), ((λ e. cc), ((λ e. cc), ((λ e. cc), ((λ e. cc), ((λ e. cc), ((λ e. rw (domain_looks o).calls (calls_alone o.calls)), ((λ e. cc), ((λ e. cc), ((λ e. cc), ((λ e. cc), ((λ e. cc), ((λ e. cc), ((λ e. cc), tt)))))))))))))))))))))))))))))))))))

segment_known : (v : ℕ) → (v ≡ 1) ⊎ (v ≡ 2) → (s : RawSegment) → known_item v SegmentPlace key_rows (segment_data s) ≡ true
unfolding known_item known_table key_rows segment_members
segment_known v is s = by_version (λ n. known_item n SegmentPlace key_rows (segment_data s) ≡ true) refl refl v is

entry_known : (v : ℕ) → (v ≡ 1) ⊎ (v ≡ 2) → (e : RawEntry) → known_item v EntryPlace key_rows (entry_data e) ≡ true
unfolding known_item known_table key_rows entry_members
entry_known v is e = by_version (λ n. known_item n EntryPlace key_rows (entry_data e) ≡ true) refl refl v is

mailbox_known : (v : ℕ) → (v ≡ 1) ⊎ (v ≡ 2) → (b : RawMailbox) → known_item v MailPlace key_rows (mailbox_data b) ≡ true
unfolding known_item known_table key_rows mailbox_members
mailbox_known v is b = by_version (λ n. known_item n MailPlace key_rows (mailbox_data b) ≡ true) refl refl v is

mail_known : (v : ℕ) → (v ≡ 1) ⊎ (v ≡ 2) → (bs : List RawMailbox)
    → all_items (known_item v MailPlace key_rows) (items_or_none (option_map mail_data (some_mail bs))) ≡ true
mail_known v is [] = refl
mail_known v is (b ∷ bs) =
    all_made Any mailbox_data (known_item v MailPlace key_rows) (λ x any. mailbox_known v is x) (b ∷ bs) (any_each (b ∷ bs))

segments_known : (v : ℕ) → (v ≡ 1) ⊎ (v ≡ 2) → (o : RawDomain) → known_segments v key_rows (domain_data o) ≡ true
segments_known v is o =
    rw (domain_looks o).segment
    (all_made Any segment_data (known_item v SegmentPlace key_rows) (λ s any. segment_known v is s) o.segments
    (any_each o.segments))

domain_known : (v : ℕ) → (v ≡ 1) ⊎ (v ≡ 2) → (o : RawDomain) → IsGood v o → known_domain v key_rows (domain_data o) ≡ true
unfolding known_domain known_item known_table
domain_known v is o good_one =
    both _ _ (both _ _ (domain_keys v o is good_one) (all_more v DomainPlace (domain_members o) key_rows (domain_more o))) (segments_known v is o)

-- ---- nothing is broken

known : (r : Raw) → IsWritable r → all_known r.version key_rows (record_members r) ≡ true
unfolding all_known
known r w =
    both _ _
    (both _ _
    (both _ _ (top_known r w)
    (rw (looks r).domain
    (all_made (IsGood r.version) domain_data (known_domain r.version key_rows) (domain_known r.version w.version) r.domains
    (good r w))))
    (rw (looks r).schedule
    (all_made Any entry_data (known_item r.version EntryPlace key_rows) (λ e any. entry_known r.version w.version e)
    r.schedule (any_each r.schedule))))
    (rw (looks r).mail (mail_known r.version w.version r.mail))

pub whole : (r : Raw) → IsWritable r → broken_key (record_members r) ≡ None
unfolding broken_key
whole r w =
    let t = record_members r in
    let version = version_is r w in
    rw (
      version,
      none_broken r.version t (take 25 key_rows) (first_whole r w),
      known r w,
      none_broken r.version t (drop 25 key_rows) (later_whole r w),
    )

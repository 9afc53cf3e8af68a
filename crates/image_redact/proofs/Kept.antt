-- Where no domain breaks a rule, none does once all but some are emptied.
use Rattle.std.proofs.Common.{◌≡◌, ℕ, ◌+◌, ◌<◌, ◌≤◌, Bool, true, false, List, [], ◌∷◌, ◌++◌, length, map, Option, Some, None, refl, sym, ap, ap₂, subst, ◌∙◌, true≢false, arith}
use Rattle.std.specs.Prelude.{ℤ, pos, nat_eq, nat_lt}
use Rattle.std.proofs.lemmas.Bool.Decides.{nat_tests}
use Rattle.std.specs.Str.{bytes_eq}
use Rattle.image_record.specs.Record.{Raw, RawDomain, raw_domain, no_raw_domain}
use Rattle.image_record.specs.Numbers.{natural_of, names}
use Rattle.image_record.specs.Cases.{or_else, first_case, first_in, refusal, outside, count_case}
use Rattle.image_record.proofs.FirstCases.{or_first, or_rest, if_first, if_rest, passed, first_in_none}
use Rattle.frame_colours.specs.Colours.{Whole, share_of, pool, whole_of}
use Rattle.hardware_check.specs.Hardware.{hardware_of, colours_of}
use Rattle.hardware_check.specs.Rules.{k3, k4, k5, k6, k11}
use Rattle.hardware_check.specs.Extensions.{k22}
use Rattle.domain_check.specs.Names.{is_name, named_so, same_name, k7, k7_domain, most_domains}
use Rattle.domain_check.specs.Colours.{k8, k8_colour, k8_domain, k9, k9_colour, k9_domain, coloured_so, same_colour, k10, k10_case, k10_domain, need_of, need_case, own_colours}
use Rattle.domain_check.specs.Segments.{segment_of, segment_case, entry_case, k12, k12_domain}
use Rattle.domain_check.specs.Capabilities.{k13, k13_domain}
use Rattle.domain_check.specs.Calls.{k18, k18_domain, k18_call}
use Rattle.schedule_check.specs.Interrupts.{k14, k14_line, k14_domain, lined_so, named_before, same_line, k15, k15_domain}
use Rattle.schedule_check.specs.Schedule.{k16}
use Rattle.schedule_check.specs.Harts.{k19}
use Rattle.schedule_check.specs.Mail.{k20}
use Rattle.hex.specs.Hex.{decode_pairs}
use Rattle.image_check.specs.Pads.{k17, k17_entry, bound_out_of}
use Rattle.image_check.specs.Own.{has_mail, owns_of}
use Rattle.image_check.specs.Laws.{Keeps}
use Rattle.image_check.proofs.Kept.{acceptance_law, domains_within}
use Rattle.image_redact.specs.Redacted.{is_among, is_taken, name_beside, kept_domains, taken_names, emptied, redacted}
use Rattle.image_redact.specs.Laws.{FirstSaysNoCalls, AcceptedLaw}
use Rattle.image_redact.proofs.Names.{bytes_differ, name_law, not_taken, apart_law, a_name}
use Rattle.image_redact.proofs.Lists.{neither, cases_kept, few_names, its_name, at, from, at_either, same_length, Placed, placed_each, all_kept}
use Rattle.image_redact.proofs.Needs.{least_need, exit_need}
use Rattle.image_redact.proofs.Bounds.{each_least, still_padded}

-- what is known of domain n before
record Stood (v : ℕ) (kept : List Bool) (taken : List (List ℕ)) (n : ℕ) (o : RawDomain) : Type 0 where
  few : n < 32
  few_names : length taken ≤ 32
  name : is_among kept n ≡ true → is_taken taken o.name ≡ true
  need : 7 ≤ need_of (map segment_of o.segments)
  calls : v ≡ 1 → o.calls ≡ None

module _ (v : ℕ) (kept : List Bool) (taken : List (List ℕ)) where
  abbrev Known : ℕ → RawDomain → Type 0
  Known n o = Stood v kept taken n o

  own : ℕ → RawDomain → RawDomain
  own n o = at v kept taken n o

  before : List RawDomain → List RawDomain
  before e = from v kept taken 0 e

  -- ---- rules of a domain by itself

  -- one that goes by a domain and by how many stand before it, and that every emptied domain keeps
  by_itself : {R : Type 0} (f : List RawDomain → RawDomain → Option R)
      → ((e g : List RawDomain) (o : RawDomain) → length e ≡ length g → f e o ≡ f g o)
      → ((e : List RawDomain) (o : RawDomain) → f e (emptied v taken (length e) o) ≡ None)
      → (e : List RawDomain) (o : RawDomain) → Placed Known 0 e → Known (length e) o → f e o ≡ None
      → f (before e) (own (length e) o) ≡ None
  unfolding before own
  by_itself f by_length all e o known here h =
      at_either v kept taken (λ x. f (from v kept taken 0 e) x ≡ None) (length e) o
      (λ same. by_length (from v kept taken 0 e) e o (same_length v kept taken 0 e) ∙ h)
      (λ other.
      by_length (from v kept taken 0 e) e (emptied v taken (length e) o) (same_length v kept taken 0 e) ∙ all e o)

  segments_case : (e g : List RawDomain) (o : RawDomain) → length e ≡ length g → k12_domain e o ≡ k12_domain g o
  unfolding k12_domain
  segments_case e g o same =
      ap (λ (n : ℕ). or_else (first_in (segment_case n) o.segments) (entry_case n o)) same

  no_segments_case : (e : List RawDomain) (o : RawDomain) → k12_domain e (emptied v taken (length e) o) ≡ None
  unfolding k12_domain emptied segment_case entry_case decode_pairs
  no_segments_case e o = refl

  caps_case : (e g : List RawDomain) (o : RawDomain) → length e ≡ length g → k13_domain e o ≡ k13_domain g o
  unfolding k13_domain
  caps_case e g o same = rw same refl

  no_caps_case : (e : List RawDomain) (o : RawDomain) → k13_domain e (emptied v taken (length e) o) ≡ None
  unfolding k13_domain emptied
  no_caps_case e o = refl

  moments_case : (e g : List RawDomain) (o : RawDomain) → length e ≡ length g → k15_domain e o ≡ k15_domain g o
  unfolding k15_domain
  moments_case e g o same = rw same refl

  no_moments_case : (e : List RawDomain) (o : RawDomain) → k15_domain e (emptied v taken (length e) o) ≡ None
  unfolding k15_domain emptied
  no_moments_case e o = refl

  calls_case : (e g : List RawDomain) (o : RawDomain) → length e ≡ length g → k18_domain e o ≡ k18_domain g o
  calls_case e g o same = rw same refl

  exit_is_one : (b : Bool) (e : List RawDomain) (o : RawDomain) → nat_eq v 1 ≡ b
      → k18_domain e (emptied v taken (length e) o) ≡ None
  unfolding emptied k18_call
  exit_is_one true e o first = rw first refl
  exit_is_one false e o later = rw later refl

  no_calls_case : (e : List RawDomain) (o : RawDomain) → k18_domain e (emptied v taken (length e) o) ≡ None
  no_calls_case e o = exit_is_one (nat_eq v 1) e o refl

  -- ---- names

  -- a kept one is called so or not, as before; another one by a name that isn't taken
  other_name : (x : List ℕ) (k : ℕ) (o : RawDomain) → (is_among kept k ≡ true → bytes_eq o.name x ≡ false)
      → (is_among kept k ≡ false → bytes_eq (name_beside taken k) x ≡ false) → bytes_eq (own k o).name x ≡ false
  unfolding own emptied
  other_name x k o here there = at_either v kept taken (λ y. bytes_eq y.name x ≡ false) k o here there

  -- a taken name is no emptied one's
  other_names : (x : List ℕ) → is_taken taken x ≡ true → (k : ℕ) (o : RawDomain) → Known k o
      → bytes_eq (name_beside taken k) x ≡ false
  other_names x is k o known =
      bytes_differ (name_beside taken k) x (not_taken taken k x known.few_names known.few is)

  -- nobody is called so, where nobody was and the name is taken
  unnamed_still : (x : List ℕ) → is_taken taken x ≡ true → (earlier earlier' : List RawDomain) (n : ℕ) (os : List RawDomain)
      → Placed Known n os → first_case (named_so x) earlier os ≡ None
      → first_case (named_so x) earlier' (from v kept taken n os) ≡ None
  unfolding own
  unnamed_still x is earlier earlier' n [] all h = refl
  unnamed_still x is earlier earlier' n (o ∷ os) all h =
      let here = if_first (bytes_eq o.name x) (length earlier) None (or_first (named_so x earlier o) _ h) in
      let differs = other_name x n o (λ same. here) (λ other. other_names x is n o all.0) in
      rw differs
      (unnamed_still x is (earlier ++ o ∷ []) (earlier' ++ at v kept taken n o ∷ []) (n + 1) os all.1
      (or_rest (named_so x earlier o) _ h))

  -- nobody before is called so
  unnamed : (x : List ℕ) (most : ℕ)
      → ((k : ℕ) (o : RawDomain) → k < most → Known k o → bytes_eq (own k o).name x ≡ false)
      → (earlier : List RawDomain) (n : ℕ) (os : List RawDomain) → n + length os ≤ most → Placed Known n os
      → first_case (named_so x) earlier (from v kept taken n os) ≡ None
  unfolding own
  unnamed x most each earlier n [] fits all = refl
  unnamed x most each earlier n (o ∷ os) fits all =
      let differs = each n o (omega (arith, fits)) all.0 in
      rw differs (unnamed x most each (earlier ++ at v kept taken n o ∷ []) (n + 1) os (omega (arith, fits)) all.1)

  renamed : (e : List RawDomain) (x : List ℕ) → is_name x ≡ true → first_case (named_so x) [] (before e) ≡ None
      → (z : RawDomain) → z.name ≡ x → k7_domain (before e) z ≡ None
  unfolding k7_domain
  renamed e x name none z is = rw (is, name, none)

  no_name_place : (k : ℕ) (o : Option ℕ) → same_name k o ≡ None → o ≡ None
  no_name_place k None h = refl
  no_name_place k (Some e) h = cc

  -- a kept domain is called as before, and no earlier one is called so
  name_kept : (e : List RawDomain) (o : RawDomain) → Placed Known 0 e → Known (length e) o → k7_domain e o ≡ None
      → is_among kept (length e) ≡ true → k7_domain (before e) o ≡ None
  unfolding k7_domain before
  name_kept e o known here h is =
      let both = passed (is_name o.name) _ _ h in
      let none = no_name_place (length e) (first_in (named_so o.name) e) both.1 in
      renamed e o.name both.0 (unnamed_still o.name (here.name is) [] [] 0 e known none) o refl

  -- an emptied one is called as nobody before
  name_beside_all : (e : List RawDomain) (o : RawDomain) → Placed Known 0 e → Known (length e) o
      → k7_domain (before e) (emptied v taken (length e) o) ≡ None
  unfolding emptied before
  name_beside_all e o known here =
      let n = length e in
      let free = (name_law taken n here.few_names here.few).free in
      let apart : (k : ℕ) (y : RawDomain) → k < n → Known k y → bytes_eq (own k y).name (name_beside taken n) ≡ false =
      λ k y less its.
      other_name (name_beside taken n) k y
      (λ same. bytes_differ y.name (name_beside taken n)
      (λ e. true≢false (sym (its.name same) ∙ ap (is_taken taken) e ∙ free)))
      (λ other. bytes_differ (name_beside taken k) (name_beside taken n)
      (apart_law taken k n its.few_names its.few here.few (λ same. absurd (omega (arith, same, less))))) in
      renamed e (name_beside taken n) (a_name taken n here.few_names here.few)
      (unnamed (name_beside taken n) n apart [] 0 e (omega arith) known) (emptied v taken n o) refl

  named : (e : List RawDomain) (o : RawDomain) → Placed Known 0 e → Known (length e) o → k7_domain e o ≡ None
      → k7_domain (before e) (own (length e) o) ≡ None
  unfolding own
  named e o known here h =
      at_either v kept taken (λ x. k7_domain (before e) x ≡ None) (length e) o (λ same. name_kept e o known here h same)
      (λ other. name_beside_all e o known here)

  -- ---- colours

  same_colours : (n : ℕ) (o : RawDomain) → (own n o).colours ≡ o.colours
  unfolding own emptied
  same_colours n o = at_either v kept taken (λ x. x.colours ≡ o.colours) n o (λ here. refl) (λ there. refl)

  own_colours_kept : (colours : ℕ) (e : List RawDomain) (o : RawDomain) → Placed Known 0 e → Known (length e) o
      → k8_domain colours e o ≡ None → k8_domain colours (before e) (own (length e) o) ≡ None
  unfolding before
  own_colours_kept colours e o known here h =
      ap₂ (λ (n : ℕ) (cs : List ℤ). first_in (k8_colour colours n) cs) (same_length v kept taken 0 e)
      (same_colours (length e) o) ∙ h

  -- nobody has the colour
  uncoloured : (x : ℤ) (earlier earlier' : List RawDomain) (n : ℕ) (os : List RawDomain)
      → first_case (coloured_so x) earlier os ≡ None → first_case (coloured_so x) earlier' (from v kept taken n os) ≡ None
  unfolding own
  uncoloured x earlier earlier' n [] h = refl
  uncoloured x earlier earlier' n (o ∷ os) h =
      let here = if_first (names o.colours x) (length earlier) None (or_first (coloured_so x earlier o) _ h) in
      let same : names (at v kept taken n o).colours x ≡ false = ap (λ cs. names cs x) (same_colours n o) ∙ here in
      rw same
      (uncoloured x (earlier ++ o ∷ []) (earlier' ++ at v kept taken n o ∷ []) (n + 1) os
      (or_rest (coloured_so x earlier o) _ h))

  no_place : (k : ℕ) (x : ℤ) (o : Option ℕ) → same_colour k x o ≡ None → o ≡ None
  no_place k x None h = refl
  no_place k x (Some e) h = cc

  colour_kept : (e : List RawDomain) (earlier : List ℤ) (x : ℤ) → k9_colour e earlier x ≡ None
      → k9_colour (before e) earlier x ≡ None
  unfolding before
  colour_kept e earlier x h =
      let none = uncoloured x [] [] 0 e (no_place (length e) x _ h) in
      rw none refl

  colours_apart : (e : List RawDomain) (o : RawDomain) → Placed Known 0 e → Known (length e) o → k9_domain e o ≡ None
      → k9_domain (before e) (own (length e) o) ≡ None
  colours_apart e o known here h =
      ap (λ (cs : List ℤ). first_in (k9_colour (before e)) cs) (same_colours (length e) o)
      ∙ cases_kept (k9_colour e) (k9_colour (before e)) (colour_kept e) [] o.colours h

  -- ---- frames

  few_needed : (n frames need : ℕ) → 7 ≤ need → need_case n frames need ≡ None → need_case n frames 7 ≡ None
  few_needed n frames need least h = grind (arith, nat_tests, if_first (nat_lt frames need) _ None h, least)

  frames_enough : (whole : Whole) (e : List RawDomain) (o : RawDomain) → Placed Known 0 e → Known (length e) o
      → k10_domain whole e o ≡ None → k10_domain whole (before e) (own (length e) o) ≡ None
  unfolding before own k10_case emptied
  frames_enough whole e o known here h =
      let long = same_length v kept taken 0 e in
      at_either v kept taken (λ x. k10_case whole (length (from v kept taken 0 e)) x ≡ None) (length e) o
      (λ same. rw long h) (λ other. rw long (emptied_enough (length e) h))
    where
      emptied_enough : (n : ℕ) → k10_case whole n o ≡ None → k10_case whole n (emptied v taken n o) ≡ None
      emptied_enough n h =
          let frames = length (pool (share_of whole (own_colours o))) in
          ap (need_case n frames) exit_need ∙ few_needed n frames (need_of (map segment_of o.segments)) here.need h

  -- ---- lines

  unlined : (x : ℤ) (earlier earlier' : List RawDomain) (n : ℕ) (os : List RawDomain)
      → first_case (lined_so x) earlier os ≡ None → first_case (lined_so x) earlier' (from v kept taken n os) ≡ None
  unfolding emptied
  unlined x earlier earlier' n [] h = refl
  unlined x earlier earlier' n (o ∷ os) h =
      let here = if_first (names o.lines x) (length earlier) None (or_first (lined_so x earlier o) _ h) in
      let same : names (at v kept taken n o).lines x ≡ false =
      at_either v kept taken (λ y. names y.lines x ≡ false) n o (λ same. here) (λ other. refl) in
      rw same
      (unlined x (earlier ++ o ∷ []) (earlier' ++ at v kept taken n o ∷ []) (n + 1) os
      (or_rest (lined_so x earlier o) _ h))

  no_line_place : (k : ℕ) (x : ℤ) (o : Option ℕ) → same_line k x o ≡ None → o ≡ None
  no_line_place k x None h = refl
  no_line_place k x (Some e) h = cc

  line_kept : (e : List RawDomain) (earlier : List ℤ) (x : ℤ) → k14_line e earlier x ≡ None
      → k14_line (before e) earlier x ≡ None
  unfolding before k14_line
  line_kept e earlier x h =
      let within = if_first (outside (pos 0) (pos 31) x) (refusal 14 (pos (length e)) x (pos 32)) (same_line (length e) x (named_before e earlier x)) h in
      let named_by = no_line_place (length e) x (named_before e earlier x) (if_rest (outside (pos 0) (pos 31) x) (refusal 14 (pos (length e)) x (pos 32)) (same_line (length e) x (named_before e earlier x)) h) in
      let others = unlined x [] [] 0 e (or_first (first_in (lined_so x) e) _ named_by) in
      let mine = if_first (names earlier x) (length e) None (or_rest (first_in (lined_so x) e) _ named_by) in
      rw (within, others, mine) refl

  lines_kept : (e : List RawDomain) (o : RawDomain) → Placed Known 0 e → Known (length e) o → k14_domain e o ≡ None
      → k14_domain (before e) (own (length e) o) ≡ None
  unfolding own emptied
  lines_kept e o known here h =
      at_either v kept taken (λ x. k14_domain (before e) x ≡ None) (length e) o
      (λ same. cases_kept (k14_line e) (k14_line (before e)) (line_kept e) [] o.lines h) (λ other. refl)

  -- ---- all domains

  each_keeps : {R : Type 0} (f : List RawDomain → RawDomain → Option R)
      → ((e : List RawDomain) (o : RawDomain) → Placed Known 0 e → Known (length e) o → f e o ≡ None
      → f (before e) (own (length e) o) ≡ None)
      → (os : List RawDomain) → Placed Known 0 os → first_in f os ≡ None → first_in f (from v kept taken 0 os) ≡ None
  unfolding before own
  each_keeps f step os all h = all_kept v kept taken Known f step [] os tt all h

-- ---- all rules

module _ (i : Raw) (d : ℕ) (first : FirstSaysNoCalls i) (k : Keeps i) where
  abbrev kept : List Bool
  kept = kept_domains i d

  abbrev taken : List (List ℕ)
  taken = taken_names i d

  stood : (n : ℕ) → n < length i.domains → Stood i.version kept taken n (raw_domain i.domains n)
  unfolding k12
  stood n l =
      let many = domains_within i k.others.before.domains in
      let most = many.most in
      record {
        few = omega (arith, most, l);
        few_names = (let names = few_names kept 0 i.domains in omega (arith, most, names));
        name = λ is. its_name kept 0 n i.domains l (let e : 0 + n ≡ n = omega arith in ap (is_among kept) e ∙ is);
        need =
            least_need _ (raw_domain i.domains n)
            (first_in_none k12_domain i.domains k.others.before.segments n l no_raw_domain);
        calls = λ is. first is n;
      }

  placed : Placed (Known i.version kept taken) 0 i.domains
  placed =
      placed_each (Stood i.version kept taken) no_raw_domain 0 i.domains
      (λ n l. let e : 0 + n ≡ n = omega arith in subst (λ m. Stood i.version kept taken m (raw_domain i.domains n)) (sym e) (stood n l))

  long : length (from i.version kept taken 0 i.domains) ≡ length i.domains
  long = same_length i.version kept taken 0 i.domains

  domains_keep : {R : Type 0} (f : List RawDomain → RawDomain → Option R)
      → ((e : List RawDomain) (o : RawDomain) → Placed (Known i.version kept taken) 0 e
      → Known i.version kept taken (length e) o → f e o ≡ None
      → f (before i.version kept taken e) (own i.version kept taken (length e) o) ≡ None)
      → first_in f i.domains ≡ None → first_in f (from i.version kept taken 0 i.domains) ≡ None
  domains_keep f step h = each_keeps i.version kept taken f step i.domains placed h

  names_keep : k7 (redacted i d) ≡ None
  unfolding k7 redacted
  names_keep =
      let h = k.others.before.domains in
      let most = most_domains i.version in
      neither (count_case 7 most most most (length (from i.version kept taken 0 i.domains))) _
      (ap (count_case 7 most most most) long ∙ or_first (count_case 7 most most most (length i.domains)) _ h)
      (domains_keep k7_domain (named i.version kept taken) (or_rest (count_case 7 most most most (length i.domains)) _ h))

  schedule_keeps : k16 (redacted i d) ≡ None
  unfolding k16 redacted
  schedule_keeps = rw long k.others.before.schedule

  mail_keeps : k20 (redacted i d) ≡ None
  unfolding k20 redacted
  mail_keeps = rw long k.others.mail

  less : (x : ℤ) → bound_out_of (redacted i d) x ≤ bound_out_of i x
  unfolding bound_out_of owns_of redacted hardware_of
  less x =
      each_least i.version kept taken (has_mail i) 0 i.domains
      (placed_each (λ m o. i.version ≡ 1 → o.calls ≡ None) no_raw_domain 0 i.domains (λ n l is. first is n))
      (natural_of x) (hardware_of i)

  pads_keep : k17 (redacted i d) ≡ None
  unfolding k17 redacted
  pads_keep =
      cases_kept (k17_entry i) (k17_entry (redacted i d))
      (λ e x h. still_padded (bound_out_of (redacted i d) x.domain) (bound_out_of i x.domain) (length e) x (less x.domain) h)
      [] i.schedule k.pads

  keeps : Keeps (redacted i d)
  unfolding redacted k3 k4 k5 k6 k8 k9 k10 k11 k12 k13 k14 k15 k18 k19 k22 hardware_of
  keeps =
      let old = k.others.before in
      record {
        others = record {
          before = record {
            parts = old.parts;
            frames = old.frames;
            colours = old.colours;
            costs = old.costs;
            domains = names_keep;
            named = domains_keep _ (own_colours_kept i.version kept taken (colours_of (hardware_of i))) old.named;
            apart = domains_keep _ (colours_apart i.version kept taken) old.apart;
            pools =
                domains_keep _
                (frames_enough i.version kept taken (whole_of (hardware_of i).frames (colours_of (hardware_of i)))) old.pools;
            shared = old.shared;
            segments =
                domains_keep k12_domain
                (by_itself i.version kept taken k12_domain (segments_case i.version kept taken) (no_segments_case i.version kept taken))
                old.segments;
            capabilities =
                domains_keep k13_domain
                (by_itself i.version kept taken k13_domain (caps_case i.version kept taken) (no_caps_case i.version kept taken))
                old.capabilities;
            lines = domains_keep k14_domain (lines_kept i.version kept taken) old.lines;
            moments =
                domains_keep k15_domain
                (by_itself i.version kept taken k15_domain (moments_case i.version kept taken) (no_moments_case i.version kept taken))
                old.moments;
            schedule = schedule_keeps;
          };
          calls =
              domains_keep k18_domain
              (by_itself i.version kept taken k18_domain (calls_case i.version kept taken) (no_calls_case i.version kept taken))
              k.others.calls;
          harts = k.others.harts;
          mail = mail_keeps;
          extensions = k.others.extensions;
        };
        pads = pads_keep;
      }

pub accepted_law : AcceptedLaw
accepted_law i d first h = (acceptance_law (redacted i d)).1 (keeps i d first ((acceptance_law i).0 h))

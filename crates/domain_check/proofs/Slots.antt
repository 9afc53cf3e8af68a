-- What the capability slots of a domain name, in an image that breaks no rule.
use Rattle.std.proofs.Common.{◌≡◌, ◌≢◌, ℕ, zero, suc, ◌+◌, ◌<◌, ◌≤◌, ◌^◌, Bool, true, false, ◌||◌, List, [], ◌∷◌, length, map, take, get_or, length-take, Option, None, Some, refl, sym, ap, subst, ◌∙◌, arith, ◌⊎◌, inl, inr, true≢false}
use Rattle.std.specs.Prelude.{nat_le, nat_lt, pos, if◌then◌else◌}
use Rattle.std.specs.List.{list_any, All}
use Rattle.std.specs.Str.{bytes_eq}
use Rattle.std.proofs.lemmas.Bool.{or_parts, or_cases, or_left, or_right, and_parts, ltb-true, ltb-false, le-ltb}
use Rattle.std.proofs.lemmas.List.{length-map, get_or-map, get_or-take}
use Rattle.std.proofs.lemmas.Slice.Eq.{bytes_eq-Decides}
use Rattle.image_record.specs.Record.{Raw, RawDomain, RawSegment, IsRawSegment, raw_domain, no_raw_domain, no_raw_segment}
use Rattle.image_record.specs.Cases.{first_in, refusal}
use Rattle.image_record.proofs.FirstCases.{if_first, if_rest, first_in_none, passed}
use Rattle.domain_check.specs.declared.capabilities.InitialCap.{InitialCap}
use Rattle.domain_check.specs.declared.capabilities.InitialCap.TheVariants.{None as NoCap, Page, Irq}
use Rattle.domain_check.specs.declared.capabilities.Named.{Named}
use Rattle.domain_check.specs.declared.capabilities.Named.TheVariants as the
use Rattle.domain_check.specs.Models.{named_model}
use Rattle.image_record.specs.Numbers.{names}
use Rattle.domain_check.specs.CapTexts.{cap_in}
use Rattle.domain_check.specs.Capabilities.{k13_refusal, lies_in, again_case, named_case, k13_case, k13_domain, k13, own_cap, cap_of, IsSmallCap}
use Rattle.domain_check.specs.Segments.{segment_of}
use Rattle.domain_check.specs.Pages.{has_page_in}

-- ---- the cases

pub any_false : {A : Type 0} (f : A → Bool) (xs : List A) → list_any f xs ≡ false → (j : ℕ) → j < length xs
    → (d : A) → f (get_or xs j d) ≡ false
any_false f [] h j l d = absurd (omega (arith, l))
any_false f (x ∷ xs) h zero l d = (or_parts (f x) (list_any f xs) h).0
any_false f (x ∷ xs) h (suc j) l d = any_false f xs (or_parts (f x) (list_any f xs) h).1 j (omega (arith, l)) d

not_again : (d : ℕ) (earlier : List (List ℕ)) (s : List ℕ) → again_case d earlier s ≡ None
    → list_any (bytes_eq s) earlier ≡ false
not_again d earlier s n = if_first (list_any (bytes_eq s) earlier) (refusal 13 (pos d) (pos (length earlier)) (pos 5)) None n

page_had : (o : RawDomain) (d : ℕ) (earlier : List (List ℕ)) (s : List ℕ) (n : ℕ)
    → named_case o d earlier s (Some (Page n)) ≡ None → list_any (lies_in n) o.segments ≡ true
page_had o d earlier s n e = (passed (list_any (lies_in n) o.segments) (again_case d earlier s) (refusal 13 (pos d) (pos (length earlier)) (pos 3)) e).0

line_had : (o : RawDomain) (d : ℕ) (earlier : List (List ℕ)) (s : List ℕ) (n : ℕ)
    → named_case o d earlier s (Some (Irq n)) ≡ None → names o.lines (pos n) ≡ true
line_had o d earlier s n e = (passed (names o.lines (pos n)) (again_case d earlier s) (refusal 13 (pos d) (pos (length earlier)) (pos 4)) e).0

first_named : (o : RawDomain) (d : ℕ) (earlier : List (List ℕ)) (s : List ℕ) (c : InitialCap) → c ≢ NoCap
    → named_case o d earlier s (Some c) ≡ None → list_any (bytes_eq s) earlier ≡ false
first_named o d earlier s NoCap some e = absurd (some refl)
first_named o d earlier s (Page n) some e =
    not_again d earlier s (passed (list_any (lies_in n) o.segments) (again_case d earlier s) (refusal 13 (pos d) (pos (length earlier)) (pos 3)) e).1
first_named o d earlier s (Irq n) some e =
    not_again d earlier s (passed (names o.lines (pos n)) (again_case d earlier s) (refusal 13 (pos d) (pos (length earlier)) (pos 4)) e).1

pub all_of_map : {A B : Type 0} (P : B → Type 0) (f : A → B) (xs : List A) → All P (map f xs)
    → All (λ x. P (f x)) xs
all_of_map P f xs all = λ k d l. subst P (get_or-map f xs k d (f d) l) (all k (f d) (omega (arith, length-map xs f, l)))

-- what a page's case is, by whether it lies in a segment, and a line's
pub of_page : (o : RawDomain) (d : ℕ) (earlier : List (List ℕ)) (s : List ℕ) (named : Named) (n : ℕ)
    (b : Bool) → named ≡ the.Page n → list_any (lies_in n) o.segments ≡ b
    → named_case o d earlier s (Some (named_model named)) ≡ (if b then again_case d earlier s else k13_refusal d (length earlier) 3)
of_page o d earlier s named n b is h =
    ap (λ (x : Named). named_case o d earlier s (Some (named_model x))) is
    ∙ ap (λ (b : Bool). if b then again_case d earlier s else k13_refusal d (length earlier) 3) h

pub of_line : (o : RawDomain) (d : ℕ) (earlier : List (List ℕ)) (s : List ℕ) (named : Named) (n : ℕ)
    (b : Bool) → named ≡ the.Irq n → names o.lines (pos n) ≡ b
    → named_case o d earlier s (Some (named_model named)) ≡ (if b then again_case d earlier s else k13_refusal d (length earlier) 4)
of_line o d earlier s named n b is h =
    ap (λ (x : Named). named_case o d earlier s (Some (named_model x))) is
    ∙ ap (λ (b : Bool). if b then again_case d earlier s else k13_refusal d (length earlier) 4) h

-- where there are not too many slots, each is looked at
pub few_slots : (earlier : List RawDomain) (o : RawDomain) (d : ℕ) (caps : List (List ℕ)) → length earlier ≡ d
    → o.caps ≡ caps → length caps ≤ 64
    → k13_domain earlier o ≡ first_in (k13_case o d) caps
unfolding k13_domain
few_slots earlier o d caps many same few =
    let many_slots = refusal 13 (pos (length earlier)) (pos (length o.caps)) (pos 1) in
    let fits : nat_lt 64 (length o.caps) ≡ false =
    le-ltb 64 (length o.caps) (subst (λ (cs : List (List ℕ)). length cs ≤ 64) (sym same) few) in
    ap (λ (b : Bool). if b then Some many_slots else first_in (k13_case o (length earlier)) o.caps) fits
    ∙ ap (λ (n : ℕ). first_in (k13_case o n) o.caps) many
    ∙ ap (λ (cs : List (List ℕ)). first_in (k13_case o d) cs) same

-- ---- the slots of a domain

pub record HasSlots (o : RawDomain) : Type 0 where
  pub few : length o.caps ≤ 64
  pub pages : (k n : ℕ) (t : List ℕ) → k < length o.caps → cap_in (get_or o.caps k t) ≡ Some (Page n)
      → list_any (lies_in n) o.segments ≡ true
  pub lines : (k n : ℕ) (t : List ℕ) → k < length o.caps → cap_in (get_or o.caps k t) ≡ Some (Irq n)
      → names o.lines (pos n) ≡ true
  pub apart : (j k : ℕ) (c : InitialCap) → c ≢ NoCap → j < k → k < length o.caps
      → cap_in (get_or o.caps k []) ≡ Some c → get_or o.caps j [] ≢ get_or o.caps k []

pub slots : (i : Raw) → k13 i ≡ None → (d : ℕ) → d < length i.domains → HasSlots (raw_domain i.domains d)
unfolding k13 k13_domain k13_case
slots i none d l =
    let here = first_in_none k13_domain i.domains none d l no_raw_domain in
    let many = refusal 13 (pos place) (pos (length o.caps)) (pos 1) in
    let each = first_in (k13_case o place) o.caps in
    let rest = if_rest (nat_lt 64 (length o.caps)) many each here in
    record {
      few = ltb-false 64 (length o.caps) (if_first (nat_lt 64 (length o.caps)) many each here);
      pages = λ k n t m e. page_had o place (take k o.caps) (get_or o.caps k t) n (at rest k m t (Some (Page n)) e);
      lines = λ k n t m e. line_had o place (take k o.caps) (get_or o.caps k t) n (at rest k m t (Some (Irq n)) e);
      apart =
          λ j k c some before m e same. differ j k before m same
          (first_named o place (take k o.caps) (get_or o.caps k []) c some (at rest k m [] (Some c) e));
    }
  where
    o : RawDomain
    o = raw_domain i.domains d

    place : ℕ
    place = length (take d i.domains)

    at : first_in (k13_case o place) o.caps ≡ None → (k : ℕ) → k < length o.caps → (t : List ℕ)
        → (c : Option InitialCap) → cap_in (get_or o.caps k t) ≡ c
        → named_case o place (take k o.caps) (get_or o.caps k t) c ≡ None
    at rest k m t c e =
        subst (λ (x : Option InitialCap). named_case o place (take k o.caps) (get_or o.caps k t) x ≡ None) e
        (first_in_none (k13_case o place) o.caps rest k m t)

    differ : (j k : ℕ) → j < k → k < length o.caps → get_or o.caps j [] ≡ get_or o.caps k []
        → list_any (bytes_eq (get_or o.caps k [])) (take k o.caps) ≡ false → ⊥
    differ j k before m same h =
        let s = get_or o.caps k [] in
        let other = any_false (bytes_eq s) (take k o.caps) h j (omega (arith, length-take k o.caps, before, m)) [] in
        let is = subst (λ (t : List ℕ). bytes_eq s t ≡ false) (get_or-take k o.caps j [] before) other in
        true≢false (sym ((bytes_eq-Decides s (get_or o.caps j [])).1 (sym same)) ∙ is)

-- ---- pages

pub has_in : (n : ℕ) (ss : List RawSegment) → list_any (lies_in n) ss ≡ true
    → has_page_in (map segment_of ss) n ≡ true
unfolding has_page_in segment_of
has_in n [] h = h
has_in n (s ∷ ss) h = either (has_in n ss) (or_cases (lies_in n s) (list_any (lies_in n) ss) h)
  where
    either : (list_any (lies_in n) ss ≡ true → has_page_in (map segment_of ss) n ≡ true)
        → (lies_in n s ≡ true) ⊎ (list_any (lies_in n) ss ≡ true)
        → (lies_in n s || has_page_in (map segment_of ss) n) ≡ true
    either later (inl a) = or_left (lies_in n s) (has_page_in (map segment_of ss) n) a
    either later (inr b) = or_right (lies_in n s) (has_page_in (map segment_of ss) n) (later b)

small_page : (n : ℕ) (ss : List RawSegment) → ((k : ℕ) → IsRawSegment (get_or ss k no_raw_segment))
    → list_any (lies_in n) ss ≡ true → n < 2 ^ 32
small_page n [] ranges h = cc
small_page n (s ∷ ss) ranges h = either (small_page n ss (λ k. ranges (suc k))) (or_cases (lies_in n s) (list_any (lies_in n) ss) h)
  where
    either : (list_any (lies_in n) ss ≡ true → n < 2 ^ 32)
        → (lies_in n s ≡ true) ⊎ (list_any (lies_in n) ss ≡ true) → n < 2 ^ 32
    either later (inl a) =
        let below = ltb-true n (s.page + s.pages) (and_parts (nat_le s.page n) (nat_lt n (s.page + s.pages)) a).1 in
        let r = ranges 0 in
        omega (arith, below, r.page, r.few)
    either later (inr b) = later b

pub small_caps : (o : RawDomain) → HasSlots o → ((k : ℕ) → IsRawSegment (get_or o.segments k no_raw_segment))
    → ((n : ℕ) → names o.lines (pos n) ≡ true → n < 32)
    → All IsSmallCap (map cap_of o.caps)
unfolding cap_of
small_caps o has ranges few = λ k t l.
    let below : k < length o.caps = omega (arith, length-map o.caps cap_of, l) in
    subst IsSmallCap (sym (get_or-map cap_of o.caps k [] t below)) (by_cap k below (cap_in (get_or o.caps k [])) refl)
  where
    by_cap : (k : ℕ) → k < length o.caps → (c : Option InitialCap) → cap_in (get_or o.caps k []) ≡ c
        → IsSmallCap (own_cap c)
    by_cap k l None e = tt
    by_cap k l (Some NoCap) e = tt
    by_cap k l (Some (Page n)) e = small_page n o.segments ranges (has.pages k n [] l e)
    by_cap k l (Some (Irq n)) e = let less = few n (has.lines k n [] l e) in omega (arith, less)

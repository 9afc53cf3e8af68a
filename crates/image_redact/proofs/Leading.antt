-- A domain is kept exactly if a chain of boxes leads from it: of the domains that so many boxes reach there are ever more, or
-- there is no further one.
use Rattle.std.proofs.Common.{◌≡◌, ℕ, zero, suc, ◌+◌, ◌<◌, ◌≤◌, Bool, true, false, ◌&&◌, ◌||◌, List, [], ◌∷◌, ◌++◌, length, Some, refl, sym, ap, ap₂, subst, ◌∙◌, ◌⊎◌, inl, inr, true≢false, arith}
use Rattle.std.specs.Prelude.{nat_eq, slice_get, map}
use Rattle.std.specs.List.{All}
use Rattle.std.proofs.lemmas.Bool.{cases_lt, and_parts, or_cases}
use Rattle.std.proofs.lemmas.Bool.Decides.{nat_tests}
use Rattle.std.proofs.lemmas.List.{length-append, get_or_append_left, get_or-append-add, get_or_past}
use Rattle.std.proofs.lemmas.Option.{same_Some}
use Rattle.image_record.specs.Record.{Raw, RawMailbox}
use Rattle.image_record.specs.Numbers.{natural_of}
use Rattle.image_check.specs.Image.{image_from}
use Rattle.image_check.specs.Public.{public_of}
use Rattle.image_check.proofs.Kept.{acceptance_law}
use Rattle.schedule_check.specs.Mail.{box_of, IsBox}
use Rattle.schedule_check.proofs.MailKept.{mail_kept}
use Rattle.world_view.specs.MailLaws.{LeadsBy, Leads}
use Rattle.image_redact.specs.Redacted.{is_among, each_below, tells, leads, kept_domains, is_kept}
use Rattle.image_redact.specs.Laws.{KeptLaw}

-- ---- what is so of each number

abbrev bits : ℕ → (ℕ → Bool) → List Bool
bits n test = each_below n test

long : (n : ℕ) (test : ℕ → Bool) → length (bits n test) ≡ n
long zero test = refl
long (suc n) test =
    let rest = long n test in
    let more = length-append (bits n test) (test n ∷ []) in
    omega (arith, more, rest)

at : (n : ℕ) (test : ℕ → Bool) (e : ℕ) → e < n → is_among (bits n test) e ≡ test e
at zero test e l = absurd (omega (arith, l))
at (suc n) test e l = elim (cases_lt e n) [
  | inl less ↦
      let many = long n test in
      get_or_append_left (bits n test) (test n ∷ []) false e (omega (arith, less, many)) ∙ at n test e less
  | inr more ↦
      let same : e ≡ n = omega (arith, more, l) in
      let many = long n test in
      let last : length (bits n test) + 0 ≡ e = omega (arith, same, many) in
      ap (is_among (bits n test ++ test n ∷ [])) (sym last)
      ∙ get_or-append-add (bits n test) (test n ∷ []) 0 false
      ∙ ap test (sym same)
]

-- there is no further one
among_below : (n : ℕ) (test : ℕ → Bool) (e : ℕ) → is_among (bits n test) e ≡ true → e < n
among_below n test e is = elim (cases_lt e n) [
  | inl less ↦ less
  | inr more ↦
      let many = long n test in
      absurd (true≢false (sym is ∙ get_or_past (bits n test) e false (omega (arith, more, many))))
]

-- ---- how many of the numbers pass

abbrev one_if : Bool → ℕ
one_if true = 1
one_if false = 0

abbrev count : (ℕ → Bool) → ℕ → ℕ
count test zero = 0
count test (suc n) = one_if (test n) + count test n

few : (test : ℕ → Bool) (n : ℕ) → count test n ≤ n
few test zero = omega arith
few test (suc n) = let rest = few test n in by_test (test n) rest
  where
    by_test : (b : Bool) → count test n ≤ n → one_if b + count test n ≤ suc n
    by_test true rest = omega (arith, rest)
    by_test false rest = omega (arith, rest)

some : (test : ℕ → Bool) (e n : ℕ) → e < n → test e ≡ true → 1 ≤ count test n
some test e zero l is = absurd (omega (arith, l))
some test e (suc n) l is = elim (cases_lt e n) [
  | inl less ↦ let rest = some test e n less is in omega (arith, rest)
  | inr more ↦
      let same : n ≡ e = omega (arith, more, l) in
      let here : test n ≡ true = ap test same ∙ is in
      rw here (omega arith)
]

module _ (less more : ℕ → Bool) (within : (e : ℕ) → less e ≡ true → more e ≡ true) where
  one_within : (b c : Bool) → (b ≡ true → c ≡ true) → one_if b ≤ one_if c
  one_within true true h = omega arith
  one_within true false h = absurd (true≢false (sym (h refl)))
  one_within false c h = omega arith

  no_more : (n : ℕ) → count less n ≤ count more n
  no_more zero = omega arith
  no_more (suc n) =
      let rest = no_more n in
      let here = one_within (less n) (more n) (within n) in
      omega (arith, rest, here)

  one_same : (b c : Bool) → one_if c ≤ one_if b → c ≡ true → b ≡ true
  one_same true c h is = refl
  one_same false true h is = absurd (omega (arith, h))
  one_same false false h is = is

  -- where there are as many, they are the same
  all_same : (n : ℕ) → count more n ≤ count less n → (e : ℕ) → e < n → more e ≡ true → less e ≡ true
  all_same zero many e l is = absurd (omega (arith, l))
  all_same (suc n) many e l is =
      let rest = no_more n in
      let here = one_within (less n) (more n) (within n) in
      elim (cases_lt e n) [
        | inl below ↦ all_same n (omega (arith, many, here)) e below is
        | inr above ↦
            let same : n ≡ e = omega (arith, above, l) in
            let one : one_if (more n) ≤ one_if (less n) = omega (arith, many, rest) in
            subst (λ k. less k ≡ true) same (one_same (less n) (more n) one (ap more same ∙ is))
      ]

-- ---- boxes

-- a box leads from domain e to one of these
record HasBox (mail : List RawMailbox) (kept : List Bool) (e : ℕ) : Type 0 where
  place : ℕ
  to : ℕ
  there : slice_get (map box_of mail) place ≡ Some (e, to)
  is : is_among kept to ≡ true

box_found : (mail : List RawMailbox) (kept : List Bool) (e : ℕ) → tells mail kept e ≡ true → HasBox mail kept e
unfolding box_of
box_found [] kept e tells_it = absurd (true≢false (sym tells_it))
box_found (b ∷ bs) kept e tells_it =
    elim (or_cases (nat_eq (natural_of b.from) e && is_among kept (natural_of b.to)) (tells bs kept e) tells_it) [
      | inl here ↦
          let both = and_parts (nat_eq (natural_of b.from) e) (is_among kept (natural_of b.to)) here in
          let from : natural_of b.from ≡ e = grind (arith, nat_tests, both) in
          record { place = 0; to = natural_of b.to; there = ap (λ n. Some (n, natural_of b.to)) from; is = both.1 }
      | inr there ↦
          let rest = box_found bs kept e there in
          record { place = suc rest.place; to = rest.to; there = rest.there; is = rest.is }
    ]

told : (mail : List RawMailbox) (kept : List Bool) (a e f : ℕ) → slice_get (map box_of mail) a ≡ Some (e, f)
    → is_among kept f ≡ true → tells mail kept e ≡ true
unfolding box_of
told [] kept a e f there is = cc
told (b ∷ bs) kept zero e f there is =
    let pair = same_Some _ _ there in
    let from : natural_of b.from ≡ e = ap (λ p. p.0) pair in
    let to : natural_of b.to ≡ f = ap (λ p. p.1) pair in
    let test : nat_eq (natural_of b.from) e ≡ true = grind (arith, nat_tests, from) in
    rw (test, to, is) refl
told (b ∷ bs) kept (suc a) e f there is =
    rw (told bs kept a e f there is) (either (nat_eq (natural_of b.from) e && is_among kept (natural_of b.to)))
  where
    either : (c : Bool) → c || true ≡ true
    either true = refl
    either false = refl

-- ---- by so many boxes, and by one more

module _ (mail : List RawMailbox) (domains d : ℕ) where
  abbrev led : ℕ → ℕ → Bool
  led n e = is_among (leads mail domains d n) e

  led_below : (n e : ℕ) → led n e ≡ true → e < domains
  unfolding leads
  led_below zero e is = among_below domains _ e is
  led_below (suc n) e is = among_below domains _ e is

  step : (n e : ℕ) → e < domains → led (suc n) e ≡ led n e || tells mail (leads mail domains d n) e
  unfolding leads
  step n e l = at domains _ e l

  at_first : (e : ℕ) → e < domains → led 0 e ≡ nat_eq e d
  unfolding leads
  at_first e l = at domains _ e l

  ever_more : (n e : ℕ) → led n e ≡ true → led (suc n) e ≡ true
  ever_more n e is = step n e (led_below n e is) ∙ rw is refl

  itself : d < domains → (n : ℕ) → led n d ≡ true
  itself l zero = at_first d l ∙ grind (arith, nat_tests)
  itself l (suc n) = ever_more n d (itself l n)

  by_box : (n a e f : ℕ) → e < domains → slice_get (map box_of mail) a ≡ Some (e, f) → led n f ≡ true
      → led (suc n) e ≡ true
  by_box n a e f l there is =
      step n e l ∙ rw (told mail (leads mail domains d n) a e f there is) (either (led n e))
    where
      either : (b : Bool) → b || true ≡ true
      either true = refl
      either false = refl

  -- no further domain is reached by one box more
  abbrev Settled : ℕ → Type 0
  Settled n = (e : ℕ) → led (suc n) e ≡ true → led n e ≡ true

  settled_still : (n : ℕ) → Settled n → Settled (suc n)
  settled_still n settled e is =
      let l = led_below (suc (suc n)) e is in
      elim (or_cases (led (suc n) e) (tells mail (leads mail domains d (suc n)) e) (sym (step (suc n) e l) ∙ is)) [
        | inl before ↦ before
        | inr by_one ↦
            let box = box_found mail (leads mail domains d (suc n)) e by_one in
            by_box n box.place e box.to l box.there (settled box.to box.is)
      ]

  settles : d < domains → (n : ℕ) → (n + 1 ≤ count (led n) domains) ⊎ Settled n
  settles l zero = inl (some (led 0) d domains l (itself l 0))
  settles l (suc n) = elim (settles l n) [
    | inr settled ↦ inr (settled_still n settled)
    | inl many ↦ elim (cases_lt (count (led n) domains) (count (led (suc n)) domains)) [
      | inl more ↦ inl (omega (arith, many, more))
      | inr same ↦
          inr
          (settled_still n
          (λ e is. all_same (led n) (led (suc n)) (ever_more n) domains same e (led_below (suc n) e is) is))
    ]
  ]

  all_settled : d < domains → Settled domains
  all_settled l = elim (settles l domains) [
    | inl many ↦ let most = few (led domains) domains in absurd (omega (arith, many, most))
    | inr settled ↦ settled
  ]

-- ---- chains

module _ (i : Raw) (d : ℕ) where
  chained : (n e : ℕ) → led i.mail (length i.domains) d n e ≡ true → Leads (image_from i) d e
  unfolding public_of LeadsBy
  chained zero e is =
      let l = led_below i.mail (length i.domains) d 0 e is in
      let test : nat_eq e d ≡ true = sym (at_first i.mail (length i.domains) d e l) ∙ is in
      (0, grind (arith, nat_tests, test))
  chained (suc n) e is =
      let l = led_below i.mail (length i.domains) d (suc n) e is in
      let kept = leads i.mail (length i.domains) d n in
      elim (or_cases (is_among kept e) (tells i.mail kept e) (sym (step i.mail (length i.domains) d n e l) ∙ is)) [
        | inl before ↦ chained n e before
        | inr by_one ↦
            let box = box_found i.mail kept e by_one in
            let rest = chained n box.to box.is in
            (suc rest.0, (box.place, box.to, box.there, rest.1))
      ]

  module _ (boxes : All (IsBox (length i.domains)) (map box_of i.mail)) (l : d < length i.domains) where
    reached : (n e : ℕ) → LeadsBy (image_from i) d n e → led i.mail (length i.domains) d (length i.domains) e ≡ true
    unfolding public_of LeadsBy
    reached zero e same =
        subst (λ x. led i.mail (length i.domains) d (length i.domains) x ≡ true) (sym same)
        (itself i.mail (length i.domains) d l (length i.domains))
    reached (suc n) e (a, f, there, rest) =
        let from = (box_at (map box_of i.mail) a (e, f) boxes there).from in
        all_settled i.mail (length i.domains) d l e
        (by_box i.mail (length i.domains) d (length i.domains) a e f from there (reached n f rest))
      where
        box_at : (mail : List (ℕ × ℕ)) (a : ℕ) (box : ℕ × ℕ) → All (IsBox (length i.domains)) mail
            → slice_get mail a ≡ Some box → IsBox (length i.domains) box
        box_at [] a box all there = cc
        box_at (b ∷ bs) zero box all there = subst (IsBox (length i.domains)) (same_Some _ _ there) (all 0 box (omega arith))
        box_at (b ∷ bs) (suc a) box all there =
            box_at bs a box (λ k d l. all (suc k) d (omega (arith, l))) there

pub kept_law : KeptLaw
unfolding kept_domains
kept_law i d e accepted l =
    let keeps = (acceptance_law i).0 accepted in
    let boxes = (mail_kept i keeps.others.mail).boxes in
    (λ is. chained i d (length i.domains) e is, λ leads. reached i d boxes l leads.0 e leads.1)

-- the domain itself is kept
pub itself_kept : (i : Raw) (d : ℕ) → d < length i.domains → is_kept i d d ≡ true
unfolding kept_domains
itself_kept i d l = itself i.mail (length i.domains) d l (length i.domains)

-- each that is kept is a domain
pub kept_below : (i : Raw) (d e : ℕ) → is_kept i d e ≡ true → e < length i.domains
unfolding kept_domains
kept_below i d e is = led_below i.mail (length i.domains) d (length i.domains) e is

-- they go by the boxes, and by how many domains there are
pub same_kept : (i j : Raw) (d : ℕ) → i.mail ≡ j.mail → length i.domains ≡ length j.domains
    → kept_domains i d ≡ kept_domains j d
unfolding kept_domains
same_kept i j d mail long = ap₂ (λ (m : List RawMailbox) (n : ℕ). leads m n d n) mail long

-- ---- one box more

leads_long : (mail : List RawMailbox) (domains d n : ℕ) → length (leads mail domains d n) ≡ domains
unfolding leads
leads_long mail domains d zero = long domains _
leads_long mail domains d (suc n) = long domains _

pub first_led : (mail : List RawMailbox) (domains d : ℕ) (kept : List Bool) → kept ≡ each_below domains (λ e. nat_eq e d)
    → kept ≡ leads mail domains d 0
unfolding leads
first_led mail domains d kept is = is

by_one : (mail : List RawMailbox) (domains d n : ℕ) → leads mail domains d (suc n)
    ≡ each_below domains (λ e. is_among (leads mail domains d n) e || tells mail (leads mail domains d n) e)
unfolding leads
by_one mail domains d n = refl

pub one_more_led : (mail boxes : List RawMailbox) (domains d n : ℕ) (kept these more : List Bool) → boxes ≡ mail
    → these ≡ kept → kept ≡ leads mail domains d n
    → more ≡ each_below (length these) (λ e. is_among these e || tells boxes these e)
    → more ≡ leads mail domains d (n + 1)
one_more_led mail boxes domains d n kept these more of_all same is made =
    let next : suc n ≡ n + 1 = omega arith in
    let all = same ∙ is in
    let many = ap length all ∙ leads_long mail domains d n in
    made
    ∙ ap (λ (bs : List RawMailbox). each_below (length these) (λ e. is_among these e || tells bs these e)) of_all
    ∙ ap₂ (λ (m : ℕ) (k : List Bool). each_below m (λ e. is_among k e || tells mail k e)) many all
    ∙ sym (by_one mail domains d n) ∙ ap (leads mail domains d) next

pub kept_long : (i : Raw) (d : ℕ) → length (kept_domains i d) ≡ length i.domains
unfolding kept_domains
kept_long i d = leads_long i.mail (length i.domains) d (length i.domains)

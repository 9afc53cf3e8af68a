-- What each kept domain has, and what all may know, is the same; and what the others had makes no difference.
use Rattle.std.proofs.Common.{◌≡◌, ℕ, suc, ◌+◌, Bool, true, false, List, [], ◌∷◌, length, map, get_or, refl, sym, ap, ap₂, ◌∙◌, true≢false, arith}
use Rattle.std.specs.Prelude.{nat_lt}
use Rattle.std.proofs.lemmas.List.{length-map}
use Rattle.image_record.specs.Record.{Raw, RawDomain, RawMailbox, raw_domain, no_raw_domain}
use Rattle.hardware_check.specs.Hardware.{hardware_of}
use Rattle.image_check.specs.Own.{own_from}
use Rattle.image_check.specs.Image.{image_from, own_of}
use Rattle.image_check.specs.Public.{public_of}
use Rattle.image_check.proofs.Owns.{owns_at}
use Rattle.image_redact.specs.Redacted.{is_among, names_from, kept_domains, is_kept, taken_names, emptied, redacted}
use Rattle.image_redact.specs.Laws.{AlikeLaw, AgainLaw, EmptiedLaw, SecretLaw}
use Rattle.image_redact.proofs.Leading.{kept_below, same_kept}
use Rattle.image_redact.proofs.Lists.{at, from, at_either, same_length, same_names, kept_at, emptied_at}

kept_domain : (i : Raw) (d e : ℕ) → is_kept i d e ≡ true
    → raw_domain (redacted i d).domains e ≡ raw_domain i.domains e
unfolding redacted
kept_domain i d e is =
    let here : 0 + e ≡ e = omega arith in
    kept_at i.version (kept_domains i d) (taken_names i d) no_raw_domain 0 e i.domains
    (ap (is_among (kept_domains i d)) here ∙ is)

pub long : (i : Raw) (d : ℕ) → length (redacted i d).domains ≡ length i.domains
unfolding redacted
long i d = same_length i.version (kept_domains i d) (taken_names i d) 0 i.domains

same_public : (i : Raw) (d : ℕ) → public_of (redacted i d) ≡ public_of i
unfolding public_of redacted hardware_of
same_public i d =
    ap (λ n. record (public_of i) { domains = n })
    (same_length i.version (kept_domains i d) (taken_names i d) 0 i.domains)

same_mail : (i : Raw) (d : ℕ) → (redacted i d).mail ≡ i.mail
unfolding redacted
same_mail i d = refl

pub alike_law : AlikeLaw
alike_law i d = record { all = sym (same_public i d); own = own }
  where
    own : (e : ℕ) → is_kept i d e ≡ true → own_of (image_from i) e ≡ own_of (image_from (redacted i d)) e
    own e is =
        let l = kept_below i d e is in
        let many = long i d in
        owns_at i e l
        ∙ ap₂ (λ (mail : List RawMailbox) (o : RawDomain). own_from e (nat_lt 0 (length mail)) o) (sym (same_mail i d)) (sym (kept_domain i d e is))
        ∙ sym (owns_at (redacted i d) e (omega (arith, many, l)))

-- ---- once more

same_again : (v : ℕ) (kept : List Bool) (taken : List (List ℕ)) (n : ℕ) (os : List RawDomain)
    → from v kept taken n (from v kept taken n os) ≡ from v kept taken n os
unfolding emptied
same_again v kept taken n [] = refl
same_again v kept taken n (o ∷ os) =
    ap₂ (λ (x : RawDomain) (xs : List RawDomain). x ∷ xs) (once n o) (same_again v kept taken (n + 1) os)
  where
    once : (m : ℕ) (x : RawDomain) → at v kept taken m (at v kept taken m x) ≡ at v kept taken m x
    once m x =
        at_either v kept taken (λ y. y ≡ at v kept taken m x) m (at v kept taken m x) (λ here. refl)
        (λ other.
        at_either v kept taken (λ y. emptied v taken m y ≡ y) m x (λ here. absurd (true≢false (sym here ∙ other)))
        (λ there. refl))

still_kept : (i : Raw) (d : ℕ) → kept_domains (redacted i d) d ≡ kept_domains i d
still_kept i d = same_kept (redacted i d) i d (same_mail i d) (long i d)

pub again_law : AgainLaw
unfolding redacted
again_law i d =
    let kept = kept_domains i d in
    let taken = taken_names i d in
    let os = from i.version kept taken 0 i.domains in
    let still = still_kept i d in
    let names : names_from (kept_domains (redacted i d) d) 0 os ≡ taken =
    ap (λ (k : List Bool). names_from k 0 os) still ∙ same_names i.version kept taken 0 i.domains in
    ap (λ (xs : List RawDomain). record i { domains = xs })
    (ap₂ (λ (k : List Bool) (ns : List (List ℕ)). from i.version k ns 0 os) still names
    ∙ same_again i.version kept taken 0 i.domains)

-- ---- the others

pub emptied_law : EmptiedLaw
unfolding redacted
emptied_law i d n l other =
    let e : 0 + n ≡ n = omega arith in
    let kept = kept_domains i d in
    let taken = taken_names i d in
    emptied_at i.version kept taken no_raw_domain 0 n i.domains l (ap (is_among kept) e ∙ other)
    ∙ ap (λ m. emptied i.version taken m (raw_domain i.domains n)) e

module _ (v : ℕ) (kept : List Bool) where
  -- equal domains where they are kept
  abbrev Same : ℕ → List RawDomain → List RawDomain → Type 0
  Same n os ps = (k : ℕ) → is_among kept (n + k) ≡ true → get_or os k no_raw_domain ≡ get_or ps k no_raw_domain

  first_same : (n : ℕ) (o p : RawDomain) (os ps : List RawDomain) → Same n (o ∷ os) (p ∷ ps)
      → is_among kept n ≡ true → o ≡ p
  first_same n o p os ps here is = here 0 (let e : n + 0 ≡ n = omega arith in ap (is_among kept) e ∙ is)

  rest_same : (n : ℕ) (o p : RawDomain) (os ps : List RawDomain) → Same n (o ∷ os) (p ∷ ps) → Same (n + 1) os ps
  rest_same n o p os ps here k is =
      here (suc k) (let e : n + suc k ≡ (n + 1) + k = omega arith in ap (is_among kept) e ∙ is)

  same_place : (taken : List (List ℕ)) (n : ℕ) (o p : RawDomain) → o.colours ≡ p.colours
      → (is_among kept n ≡ true → o ≡ p) → at v kept taken n o ≡ at v kept taken n p
  unfolding emptied
  same_place taken n o p colours here =
      at_either v kept taken (λ x. x ≡ at v kept taken n p) n o
      (λ is. at_either v kept taken (λ x. o ≡ x) n p (λ same. here is) (λ other. absurd (true≢false (sym is ∙ other))))
      (λ other.
      at_either v kept taken (λ x. emptied v taken n o ≡ x) n p (λ is. absurd (true≢false (sym is ∙ other)))
      (λ there. ap (λ cs. emptied v taken n (record no_raw_domain { colours = cs })) colours))

  same_rest : (taken : List (List ℕ)) (n : ℕ) (os ps : List RawDomain)
      → map (λ o. o.colours) os ≡ map (λ o. o.colours) ps → Same n os ps
      → from v kept taken n os ≡ from v kept taken n ps
  same_rest taken n [] [] colours here = refl
  same_rest taken n [] (p ∷ ps) colours here = cc
  same_rest taken n (o ∷ os) [] colours here = cc
  same_rest taken n (o ∷ os) (p ∷ ps) colours here =
      let first : o.colours ≡ p.colours = cc in
      let later : map (λ x. x.colours) os ≡ map (λ x. x.colours) ps = cc in
      ap₂ (λ (x : RawDomain) (xs : List RawDomain). x ∷ xs)
      (same_place taken n o p first (first_same n o p os ps here))
      (same_rest taken (n + 1) os ps later (rest_same n o p os ps here))

  names_alike : (n : ℕ) (os ps : List RawDomain) → map (λ o. o.colours) os ≡ map (λ o. o.colours) ps → Same n os ps
      → names_from kept n os ≡ names_from kept n ps
  names_alike n [] [] colours here = refl
  names_alike n [] (p ∷ ps) colours here = cc
  names_alike n (o ∷ os) [] colours here = cc
  names_alike n (o ∷ os) (p ∷ ps) colours here =
      let later : map (λ x. x.colours) os ≡ map (λ x. x.colours) ps = cc in
      by_test (is_among kept n) refl (names_alike (n + 1) os ps later (rest_same n o p os ps here))
    where
      by_test : (b : Bool) → is_among kept n ≡ b → names_from kept (n + 1) os ≡ names_from kept (n + 1) ps
          → names_from kept n (o ∷ os) ≡ names_from kept n (p ∷ ps)
      by_test true is rest =
          rw is
          (ap₂ (λ (x : RawDomain) (xs : List (List ℕ)). x.name ∷ xs) (first_same n o p os ps here is) rest)
      by_test false is rest = rw is rest

pub secret_law : SecretLaw
unfolding redacted
secret_law i j d differ =
    let version : i.version ≡ j.version = ap (λ (r : Raw). r.version) differ.rest in
    let mail : i.mail ≡ j.mail = ap (λ (r : Raw). r.mail) differ.rest in
    let many = ap length differ.colours in
    let long : length i.domains ≡ length j.domains =
    omega (arith, many, length-map i.domains (λ o. o.colours), length-map j.domains (λ o. o.colours)) in
    let kept = kept_domains i d in
    let is : kept ≡ kept_domains j d = same_kept i j d mail long in
    let here : Same i.version kept 0 i.domains j.domains =
    λ k one. (let e : 0 + k ≡ k = omega arith in differ.kept k (ap (is_among kept) (sym e) ∙ one)) in
    let names : taken_names i d ≡ taken_names j d =
    names_alike i.version kept 0 i.domains j.domains differ.colours here ∙ ap (λ k. names_from k 0 j.domains) is in
    ap₂ (λ (r : Raw) (os : List RawDomain). record r { domains = os }) differ.rest
    (same_rest i.version kept (taken_names i d) 0 i.domains j.domains differ.colours here
    ∙ ap₂ (λ (v : ℕ) (k : List Bool). from v k (taken_names i d) 0 j.domains) version is
    ∙ ap (λ (ns : List (List ℕ)). from j.version (kept_domains j d) ns 0 j.domains) names)

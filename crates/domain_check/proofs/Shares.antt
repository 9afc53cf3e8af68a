-- What the rules of colours give: numbers of colours that fit, and no colour of two domains.
use Rattle.std.proofs.Common.{◌≡◌, ℕ, ◌-◌, ◌<◌, ◌≤◌, Bool, true, false, ◌||◌, List, length, map, take, get_or, length-take, Option, None, Some, refl, sym, ap, subst, ◌∙◌, arith, true≢false}
use Rattle.std.specs.Prelude.{ℤ, pos, negsuc}
use Rattle.std.specs.List.{All}
use Rattle.std.proofs.lemmas.List.{get_or-map, get_or-take}
use Rattle.frame_colours.specs.Colours.{has}
use Rattle.image_record.specs.declared.raw.Raw.{Raw}
use Rattle.image_record.specs.Models.{raw_model}
use Rattle.image_record.specs.Parts.{domain_model}
use Rattle.image_record.specs.Record as text
use Rattle.image_record.specs.Record.{raw_domain, no_raw_domain}
use Rattle.image_record.specs.Cases.{first_in, refusal, outside}
use Rattle.image_record.specs.Numbers.{IsNatural, natural_of, names}
use Rattle.image_record.proofs.FirstCases.{if_first, first_in_none}
use Rattle.image_record.proofs.Ranges.{Within, inside, most_inside, natural_inside}
use Rattle.domain_check.specs.Colours.{k8, k8_colour, k8_domain, k9, k9_domain, k9_colour, coloured_so, same_colour, IsSmallDomain}
use Rattle.image_record.proofs.Listed.{found, names_at}

-- ---- K8: a colour is from 1 on, and below the number of colours

or_first_false : (a b : Bool) → (a || b) ≡ false → a ≡ false
or_first_false true b h = cc
or_first_false false b h = refl

colour_within : (c d : ℕ) (earlier : List ℤ) (x : ℤ) → k8_colour c d earlier x ≡ None
    → Within 1 (c - 1) (natural_of x)
unfolding k8_colour
colour_within c d earlier x n =
    let out = outside (pos 1) (pos (c - 1)) x in
    inside 1 (c - 1) x (or_first_false out (names earlier x) (if_first (out || names earlier x) (refusal 8 (pos d) x (pos c)) None n))

-- the colours of domain d
pub named : (c : ℕ) (i : text.Raw) → k8 c i ≡ None → (d : ℕ) → d < length i.domains → (k : ℕ)
    → k < length (raw_domain i.domains d).colours → (x : ℤ)
    → Within 1 (c - 1) (natural_of (get_or (raw_domain i.domains d).colours k x))
unfolding k8
named c i n d l k m x =
    let own = (raw_domain i.domains d).colours in
    let here = first_in_none (k8_domain c) i.domains n d l no_raw_domain in
    colour_within c (length (take d i.domains)) (take k own) (get_or own k x)
    (first_in_none (k8_colour c (length (take d i.domains))) own here k m x)

-- ---- the numbers fit those of the code

pub colour_most : (c : ℕ) (x : ℤ) → outside (pos 1) (pos (c - 1)) x ≡ false → natural_of x ≤ c - 1
colour_most c x h = most_inside 1 (c - 1) x h

pub colour_natural : (c : ℕ) (x : ℤ) → outside (pos 1) (pos (c - 1)) x ≡ false → IsNatural x
colour_natural c x h = natural_inside 1 (c - 1) x h

pub small_domains : (raw : Raw) → All (λ o. IsSmallDomain (domain_model o)) raw.domains.items
small_domains raw = λ d o l.
    let few : IsSmallDomain (raw_domain (raw_model raw).domains d) = record { segments = raw.in_ranges.few_segments d } in
    subst IsSmallDomain (get_or-map domain_model raw.domains.items d o no_raw_domain l) few

-- ---- K9: no colour of an earlier domain

-- a number from 1 on is one integer's alone
the_integer : (x : ℤ) (n : ℕ) → natural_of x ≡ n → 1 ≤ n → x ≡ pos n
the_integer (pos m) n e some = ap pos e
the_integer (negsuc m) n e some = absurd (omega (arith, e, some))

not_coloured : (d : ℕ) (x : ℤ) (o : Option ℕ) → same_colour d x o ≡ None → o ≡ None
not_coloured d x None n = refl
not_coloured d x (Some e) n = cc

earlier_apart : (i : text.Raw) → k9 i ≡ None → (d : ℕ) → d < length i.domains → (e : ℕ) → e < d → (k : ℕ)
    → k < length (raw_domain i.domains d).colours
    → names (raw_domain i.domains e).colours (get_or (raw_domain i.domains d).colours k (pos 0)) ≡ false
unfolding k9
earlier_apart i n d l e before k m =
    let own = (raw_domain i.domains d).colours in
    let x = get_or own k (pos 0) in
    let earlier = take d i.domains in
    let here = first_in_none k9_domain i.domains n d l no_raw_domain in
    let none =
    not_coloured (length earlier) x (first_in (coloured_so x) earlier)
    (first_in_none (k9_colour earlier) own here k m (pos 0)) in
    let there = first_in_none (coloured_so x) earlier none e (omega (arith, length-take d i.domains, before, l)) no_raw_domain in
    let P : text.RawDomain → Type 0 = λ o. names o.colours x ≡ false in
    subst P (get_or-take d i.domains e no_raw_domain before)
    (if_first (names (get_or earlier e no_raw_domain).colours x) (length (take e earlier)) None there)

-- a colour of one domain, which is none of an earlier one's
pub two_apart : (colours : ℕ) (i : text.Raw) → k8 colours i ≡ None → k9 i ≡ None → (d : ℕ)
    → d < length i.domains → (e : ℕ) → e < d → (c : ℕ)
    → has (map natural_of (raw_domain i.domains d).colours) c ≡ true → has (map natural_of (raw_domain i.domains e).colours) c ≡ true → ⊥
two_apart colours i n m d l e before c mine theirs =
    let a = (raw_domain i.domains d).colours in
    let b = (raw_domain i.domains e).colours in
    let here = found a c mine in
    let there = found b c theirs in
    let some = (named colours i n d l here.place here.within (pos 0)).least in
    let positive : 1 ≤ c = subst (λ (k : ℕ). 1 ≤ k) here.same some in
    let first : get_or a here.place (pos 0) ≡ pos c = the_integer (get_or a here.place (pos 0)) c here.same positive in
    let second : get_or b there.place (pos 0) ≡ pos c = the_integer (get_or b there.place (pos 0)) c there.same positive in
    let is : names b (pos c) ≡ true = subst (λ (x : ℤ). names b x ≡ true) second (names_at b there.place there.within (pos 0)) in
    let is_not : names b (pos c) ≡ false =
    subst (λ (x : ℤ). names b x ≡ false) first (earlier_apart i m d l e before here.place here.within) in
    true≢false (sym is ∙ is_not)

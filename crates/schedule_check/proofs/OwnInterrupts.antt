-- The lines and moments of a domain, in an image that breaks no rule.
use Rattle.std.proofs.Common.{◌≡◌, ℕ, zero, suc, ◌-◌, ◌<◌, ◌≤◌, ◌^◌, Bool, true, false, ◌&&◌, ◌||◌, not, List, length, map, take, get_or, length-take, Option, None, Some, refl, sym, ap, subst, ◌∙◌, arith, ◌⊎◌, inl, inr, true≢false}
use Rattle.std.specs.Prelude.{ℤ, pos, nat_lt, slice_get, if◌then◌else◌}
use Rattle.std.specs.List.{All}
use Rattle.std.proofs.lemmas.Bool.{cases_lt, ltb-false}
use Rattle.std.proofs.lemmas.Bool.Decides.{nat_tests}
use Rattle.std.proofs.lemmas.List.{length-map, get_or-map, get_or-take}
use Rattle.std.proofs.lemmas.Option.{slice_get_within, get_or_from_slice_get, slice_get-get_or}
use Rattle.irq_partition.specs.declared.Moment.{Moment}
use Rattle.irq_partition.specs.Interrupts.{IsBefore, AreMoments}
use Rattle.image_record.specs.declared.refusal.Refusal.{Refusal}
use Rattle.image_record.specs.declared.raw.Raw as declared
use Rattle.image_record.specs.Models.{raw_model}
use Rattle.image_record.specs.Parts.{domain_model}
use Rattle.image_record.specs.Record.{Raw, RawDomain, RawMoment, raw_domain, no_raw_domain}
use Rattle.image_record.specs.Cases.{first_in, refusal, outside}
use Rattle.image_record.specs.Numbers.{IsNatural, natural_of, names}
use Rattle.image_record.proofs.FirstCases.{or_first, if_first, if_rest, first_in_none, passed as passes_test}
use Rattle.image_record.proofs.Ranges.{inside, most_inside, natural_inside}
use Rattle.schedule_check.specs.Interrupts.{lined_so, named_before, same_line, k14, k14_domain, k14_line, is_above, order_case, k15, k15_domain, k15_moment, moment_of, AreSmall}
use Rattle.image_record.proofs.Listed.{has, the_integer, found, stands, names_at, has_natural}

abbrev pub is_line : ℤ → Type 0
is_line x = outside (pos 0) (pos 31) x ≡ false

-- ---- K14: each line is one of 32, and named once

line_case : (i : Raw) → k14 i ≡ None → (d : ℕ) → d < length i.domains → (k : ℕ)
    → k < length (raw_domain i.domains d).lines → (x : ℤ)
    → k14_line (take d i.domains) (take k (raw_domain i.domains d).lines) (get_or (raw_domain i.domains d).lines k x) ≡ None
unfolding k14
line_case i n d l k m x =
    let here = first_in_none k14_domain i.domains n d l no_raw_domain in
    first_in_none (k14_line (take d i.domains)) (raw_domain i.domains d).lines here k m x

not_named : (d : ℕ) (x : ℤ) (o : Option ℕ) → same_line d x o ≡ None → o ≡ None
not_named d x None n = refl
not_named d x (Some e) n = cc

record Line (domains : List RawDomain) (earlier : List ℤ) (x : ℤ) : Type 0 where
  pub within : is_line x
  pub new : named_before domains earlier x ≡ None

line_passed : (domains : List RawDomain) (earlier : List ℤ) (x : ℤ) → k14_line domains earlier x ≡ None
    → Line domains earlier x
unfolding k14_line
line_passed domains earlier x n =
    let before = named_before domains earlier x in
    let out = refusal 14 (pos (length domains)) x (pos 32) in
    let again = same_line (length domains) x before in
    record {
      within = if_first (outside (pos 0) (pos 31) x) out again n;
      new = not_named (length domains) x before (if_rest (outside (pos 0) (pos 31) x) out again n);
    }

pub line_most : (x : ℤ) → outside (pos 0) (pos 31) x ≡ false → natural_of x ≤ 31
line_most x h = most_inside 0 31 x h

pub line_natural : (x : ℤ) → outside (pos 0) (pos 31) x ≡ false → IsNatural x
line_natural x h = natural_inside 0 31 x h

pub cycle_natural : (x : ℤ) → outside (pos 0) (pos 1000000000000) x ≡ false → IsNatural x
cycle_natural x h = natural_inside 0 1000000000000 x h

-- the lines of a domain fit those of the code
pub small_lines : (i : Raw) → k14 i ≡ None → (d : ℕ) → d < length i.domains
    → AreSmall (raw_domain i.domains d).lines
small_lines i n d l = record {
  natural = λ k x m. line_natural (get_or own k x) (within k x m);
  small = λ k x m. let most = line_most (get_or own k x) (within k x m) in omega (arith, most);
}
  where
    own : List ℤ
    own = (raw_domain i.domains d).lines

    within : (k : ℕ) (x : ℤ) → k < length own → is_line (get_or own k x)
    within k x m = (line_passed (take d i.domains) (take k own) (get_or own k x) (line_case i n d l k m x)).within

pub small_lines_in : (raw : declared.Raw) → k14 (raw_model raw) ≡ None
    → All (λ o. AreSmall (domain_model o).lines) raw.domains.items
small_lines_in raw n = λ d o l.
    let small = small_lines (raw_model raw) n d (omega (arith, length-map raw.domains.items domain_model, l)) in
    subst (λ (p : RawDomain). AreSmall p.lines) (get_or-map domain_model raw.domains.items d o no_raw_domain l) small

-- one that is named is among them
pub named_small : (lines : List ℤ) (x : ℤ) → AreSmall lines → names lines x ≡ true → natural_of x < 2 ^ 8
named_small lines x all h = let s = stands lines x h in subst (λ (y : ℤ). natural_of y < 2 ^ 8) s.same (all.small s.place (pos 0) s.within)

pub named_natural : (lines : List ℤ) (x : ℤ) → AreSmall lines → names lines x ≡ true → IsNatural x
named_natural lines x all h = let s = stands lines x h in subst (λ (y : ℤ). IsNatural y) s.same (all.natural s.place (pos 0) s.within)

earlier_apart : (i : Raw) → k14 i ≡ None → (d : ℕ) → d < length i.domains → (e : ℕ) → e < d → (k : ℕ)
    → k < length (raw_domain i.domains d).lines
    → names (raw_domain i.domains e).lines (get_or (raw_domain i.domains d).lines k (pos 0)) ≡ false
earlier_apart i n d l e before k m =
    let own = (raw_domain i.domains d).lines in
    let x = get_or own k (pos 0) in
    let earlier = take d i.domains in
    let again : Option ℕ = if names (take k own) x then Some (length earlier) else None in
    let none = or_first (first_in (lined_so x) earlier) again (line_passed earlier (take k own) x (line_case i n d l k m (pos 0))).new in
    let there = first_in_none (lined_so x) earlier none e (omega (arith, length-take d i.domains, before, l)) no_raw_domain in
    let P : RawDomain → Type 0 = λ o. names o.lines x ≡ false in
    subst P (get_or-take d i.domains e no_raw_domain before)
    (if_first (names (get_or earlier e no_raw_domain).lines x) (length (take e earlier)) None there)

-- ---- K15: each moment is of a line of the domain, and above the one before

pub record Passed (lines : List ℤ) (earlier : List RawMoment) (x : RawMoment) : Type 0 where
  pub at : outside (pos 0) (pos 1000000000000) x.at ≡ false
  pub line : names lines x.line ≡ true
  pub above : (y : RawMoment) → slice_get earlier (length earlier - 1) ≡ Some y → is_above x y ≡ true

ordered : (d place : ℕ) (x y : RawMoment) (o : Option RawMoment) → order_case d place x o ≡ None → o ≡ Some y
    → is_above x y ≡ true
ordered d place x y None n e = cc
ordered d place x y (Some z) n e =
    let same : z ≡ y = cc in
    subst (λ (w : RawMoment). is_above x w ≡ true) same (passes_test (is_above x z) None (refusal 15 (pos d) (pos place) (pos 4)) n).0

not_false : (b : Bool) → not b ≡ false → b ≡ true
not_false true h = refl
not_false false h = cc

moment_passed : (lines : List ℤ) (d : ℕ) (earlier : List RawMoment) (x : RawMoment)
    → k15_moment lines d earlier x ≡ None → Passed lines earlier x
unfolding k15_moment
moment_passed lines d earlier x n =
    let place = length earlier in
    let last = slice_get earlier (length earlier - 1) in
    let out = refusal 15 (pos d) (pos place) (pos 2) in
    let other = refusal 15 (pos d) (pos place) (pos 3) in
    let order = order_case d place x last in
    let later : Option Refusal = if not (names lines x.line) then Some other else order in
    let rest = if_rest (outside (pos 0) (pos 1000000000000) x.at) out later n in
    record {
      at = if_first (outside (pos 0) (pos 1000000000000) x.at) out later n;
      line = not_false (names lines x.line) (if_first (not (names lines x.line)) other order rest);
      above = λ y e. ordered d place x y last (if_rest (not (names lines x.line)) other order rest) e;
    }

-- ---- the lines and moments of a domain

pub record HasInterrupts (o : RawDomain) : Type 0 where
  pub within : (k : ℕ) → k < length o.lines → (x : ℤ) → is_line (get_or o.lines k x)
  pub few : length o.moments ≤ 1024
  pub passed : (k : ℕ) → k < length o.moments → (m : RawMoment)
      → Passed o.lines (take k o.moments) (get_or o.moments k m)

pub interrupts : (i : Raw) → k14 i ≡ None → k15 i ≡ None → (d : ℕ) → d < length i.domains
    → HasInterrupts (raw_domain i.domains d)
unfolding k15 k15_domain
interrupts i lines moments d l =
    let o = raw_domain i.domains d in
    let place = length (take d i.domains) in
    let here = first_in_none k15_domain i.domains moments d l no_raw_domain in
    let many = refusal 15 (pos place) (pos (length o.moments)) (pos 1) in
    let each = first_in (k15_moment o.lines place) o.moments in
    let rest = if_rest (nat_lt 1024 (length o.moments)) many each here in
    record {
      within = λ k m x. (line_passed (take d i.domains) (take k o.lines) (get_or o.lines k x) (line_case i lines d l k m x)).within;
      few = ltb-false 1024 (length o.moments) (if_first (nat_lt 1024 (length o.moments)) many each here);
      passed =
          λ k m x. moment_passed o.lines place (take k o.moments) (get_or o.moments k x)
          (first_in_none (k15_moment o.lines place) o.moments rest k m x);
    }

line_within : (o : RawDomain) → HasInterrupts o → (x : ℤ) → names o.lines x ≡ true → is_line x
line_within o irqs x h = let s = stands o.lines x h in subst (λ (y : ℤ). is_line y) s.same (irqs.within s.place s.within (pos 0))

pub named_line : (o : RawDomain) → HasInterrupts o → (n : ℕ) → names o.lines (pos n) ≡ true → n < 32
named_line o irqs n h = let most = (inside 0 31 (pos n) (line_within o irqs (pos n) h)).most in omega (arith, most)

-- ---- what is the domain's own

pub line_below : (o : RawDomain) → HasInterrupts o → (n : ℕ) → has (map natural_of o.lines) n ≡ true → n < 32
line_below o irqs n h =
    let f = found o.lines n h in
    let most = (inside 0 31 (get_or o.lines f.place (pos 0)) (irqs.within f.place f.within (pos 0))).most in
    omega (arith, f.same, most)

no_raw_moment : RawMoment
no_raw_moment = record { at = pos 0; line = pos 0 }

raw_moment : RawDomain → ℕ → RawMoment
raw_moment o k = get_or o.moments k no_raw_moment

record IsAt (o : RawDomain) (k : ℕ) (x : Moment) : Type 0 where
  pub within : k < length o.moments
  pub is : moment_of (raw_moment o k) ≡ x

moment_at : (o : RawDomain) (k : ℕ) (x : Moment) → slice_get (map moment_of o.moments) k ≡ Some x → IsAt o k x
unfolding raw_moment
moment_at o k x e =
    let none = moment_of no_raw_moment in
    let within : k < length o.moments = omega (arith, length-map o.moments moment_of, slice_get_within (map moment_of o.moments) k x e) in
    record {
      within = within;
      is = sym (get_or-map moment_of o.moments k no_raw_moment none within) ∙ get_or_from_slice_get (map moment_of o.moments) k x none e;
    }

pub early : (o : RawDomain) → HasInterrupts o → (k : ℕ) (x : Moment)
    → slice_get (map moment_of o.moments) k ≡ Some x → x.at ≤ 1000000000000
unfolding moment_of raw_moment
early o irqs k x e =
    let m = moment_at o k x e in
    subst (λ (y : Moment). y.at ≤ 1000000000000) m.is
    (inside 0 1000000000000 (raw_moment o k).at (irqs.passed k m.within no_raw_moment).at).most

pub own_line : (o : RawDomain) → HasInterrupts o → (k : ℕ) (x : Moment)
    → slice_get (map moment_of o.moments) k ≡ Some x → has (map natural_of o.lines) x.line ≡ true
unfolding moment_of raw_moment
own_line o irqs k x e =
    let m = moment_at o k x e in
    subst (λ (y : Moment). has (map natural_of o.lines) y.line ≡ true) m.is
    (has_natural o.lines (raw_moment o k).line (irqs.passed k m.within no_raw_moment).line)

-- ---- the moments ascend

naturals_before : (a b p q : ℕ) → (nat_lt a b || (not (nat_lt a b || nat_lt b a) && nat_lt p q)) ≡ true
    → IsBefore (record { at = a; line = p }) (record { at = b; line = q })
naturals_before a b p q h = record { not_later = grind (arith, nat_tests, h); by_line = λ e. grind (arith, nat_tests, h, e) }

is_before : (x y : RawMoment) → outside (pos 0) (pos 1000000000000) x.at ≡ false
    → outside (pos 0) (pos 1000000000000) y.at ≡ false
    → is_line x.line → is_line y.line → is_above y x ≡ true → IsBefore (moment_of x) (moment_of y)
unfolding moment_of
is_before x y at_x at_y line_x line_y h = naturals_before (natural_of x.at) (natural_of y.at) (natural_of x.line) (natural_of y.line)
    (subst (λ (z : RawMoment). is_above z (whole x) ≡ true) (same y at_y line_y)
    (subst (λ (z : RawMoment). is_above y z ≡ true) (same x at_x line_x) h))
  where
    whole : RawMoment → RawMoment
    whole z = record { at = pos (natural_of z.at); line = pos (natural_of z.line) }

    same : (z : RawMoment) → outside (pos 0) (pos 1000000000000) z.at ≡ false → is_line z.line → z ≡ whole z
    same z at_z line_z = rw (sym (the_integer 1000000000000 z.at at_z), sym (the_integer 31 z.line line_z)) refl

before_next : (o : RawDomain) → HasInterrupts o → (k : ℕ) → suc k < length o.moments
    → IsBefore (moment_of (raw_moment o k)) (moment_of (raw_moment o (suc k)))
unfolding raw_moment
before_next o irqs k l =
    let ms = o.moments in
    let this = irqs.passed k (omega (arith, l)) no_raw_moment in
    let next = irqs.passed (suc k) l no_raw_moment in
    let place : length (take (suc k) ms) - 1 ≡ k = omega (arith, length-take (suc k) ms, l) in
    let read = slice_get-get_or (take (suc k) ms) k no_raw_moment (omega (arith, length-take (suc k) ms, l)) in
    let last : slice_get (take (suc k) ms) (length (take (suc k) ms) - 1) ≡ Some (raw_moment o k) =
    ap (λ j. slice_get (take (suc k) ms) j) place ∙ read ∙ ap Some (get_or-take (suc k) ms k no_raw_moment (omega arith)) in
    is_before (raw_moment o k) (raw_moment o (suc k)) this.at next.at
    (line_within o irqs (raw_moment o k).line this.line)
    (line_within o irqs (raw_moment o (suc k)).line next.line) (next.above (raw_moment o k) last)

before_trans : (x y z : Moment) → IsBefore x y → IsBefore y z → IsBefore x z
before_trans x y z a b = record {
  not_later = omega (arith, a.not_later, b.not_later);
  by_line = λ e. let first = a.by_line (omega (arith, a.not_later, b.not_later, e)) in
      let second = b.by_line (omega (arith, a.not_later, b.not_later, e)) in
      omega (arith, first, second);
}

before_later : (o : RawDomain) → HasInterrupts o → (j k : ℕ) → j < k → k < length o.moments
    → IsBefore (moment_of (raw_moment o j)) (moment_of (raw_moment o k))
before_later o irqs j zero less l = absurd (omega (arith, less))
before_later o irqs j (suc k) less l = either (before_later o irqs j k) (cases_lt j k)
  where
    either : (j < k → k < length o.moments
        → IsBefore (moment_of (raw_moment o j)) (moment_of (raw_moment o k))) → (j < k) ⊎ (k ≤ j)
        → IsBefore (moment_of (raw_moment o j)) (moment_of (raw_moment o (suc k)))
    either earlier (inl before) =
        before_trans (moment_of (raw_moment o j)) (moment_of (raw_moment o k)) (moment_of (raw_moment o (suc k)))
        (earlier before (omega (arith, l))) (before_next o irqs k l)
    either earlier (inr after) =
        let same : k ≡ j = omega (arith, less, after) in
        subst (λ (n : ℕ). IsBefore (moment_of (raw_moment o n)) (moment_of (raw_moment o (suc k)))) same (before_next o irqs k l)

pub moments_sound : (o : RawDomain) → HasInterrupts o → AreMoments (map moment_of o.moments)
moments_sound o irqs = record {
  lines = λ k x e. line_below o irqs x.line (own_line o irqs k x e);
  ascend = λ j k x y less first second.
      let here = moment_at o j x first in
      let there = moment_at o k y second in
      subst (λ (z : Moment). IsBefore x z) there.is
      (subst (λ (z : Moment). IsBefore z (moment_of (raw_moment o k))) here.is (before_later o irqs j k less there.within));
}

-- ---- no line is that of two domains

pub two_apart : (i : Raw) → k14 i ≡ None → (d : ℕ) → d < length i.domains → (e : ℕ) → e < d → (n : ℕ)
    → has (map natural_of (raw_domain i.domains d).lines) n ≡ true → has (map natural_of (raw_domain i.domains e).lines) n ≡ true → ⊥
two_apart i k d l e before n mine theirs =
    let a = (raw_domain i.domains d).lines in
    let b = (raw_domain i.domains e).lines in
    let here = found a n mine in
    let there = found b n theirs in
    let x = get_or a here.place (pos 0) in
    let y = get_or b there.place (pos 0) in
    let x_in = (line_passed (take d i.domains) (take here.place a) x (line_case i k d l here.place here.within (pos 0))).within in
    let y_in = (line_passed (take e i.domains) (take there.place b) y (line_case i k e (omega (arith, before, l)) there.place there.within (pos 0))).within in
    let same : x ≡ y = the_integer 31 x x_in ∙ ap pos (here.same ∙ sym there.same) ∙ sym (the_integer 31 y y_in) in
    let is : names b x ≡ true = subst (λ (z : ℤ). names b z ≡ true) (sym same) (names_at b there.place there.within (pos 0)) in
    true≢false (sym is ∙ earlier_apart i k d l e before here.place here.within)

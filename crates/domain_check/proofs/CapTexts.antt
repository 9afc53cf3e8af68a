-- That the text of a slot names what is written so, and nothing else.
use Rattle.std.proofs.Common.{◌≡◌, ℕ, ◌<◌, ◌≤◌, ◌^◌, Bool, true, false, ◌&&◌, not, List, [], ◌∷◌, ◌++◌, length, take, drop, get_or, Option, None, Some, refl, sym, ap, subst, ◌∙◌, arith, ◌⊎◌, inl, inr}
use Rattle.std.specs.Prelude.{◌==◌, nat_le, nat_lt, slice_index, codes, decimal, option_map, if◌then◌else◌}
use Rattle.std.specs.Char.{is_ascii_digit}
use Rattle.std.specs.List.{list_all}
use Rattle.std.specs.Str.{bytes_eq, all_ascii_digits}
use Rattle.std.specs.Str.Parse.{digits_value}
use Rattle.std.proofs.lemmas.Bool.{and_parts, and_from, and_cases, and_left, and_right, not-true, not_from_false, leb-true, le-leb, le-ltb, ltb-false, eqb-false, ne_eqb, cases_lt}
use Rattle.std.proofs.lemmas.List.{take-append-drop}
use Rattle.std.proofs.lemmas.Slice.Eq.{bytes_eq-Decides}
use Rattle.std.proofs.lemmas.Str.Parse.{IsNumeralModel, numerals_by_value, tells_all_ascii_digits, digits_value_short}
use Rattle.std.proofs.lemmas.Fmt.{decimal_is_IsNumeral, decimal-digits_value, length-decimal-le, first_decimal}
use Rattle.image_record.specs.Cases.{or_else}
use Rattle.domain_check.specs.declared.capabilities.InitialCap.{InitialCap}
use Rattle.domain_check.specs.declared.capabilities.InitialCap.TheVariants.{None as NoCap, Page, Irq}
use Rattle.domain_check.specs.CapTexts.{is_numeral, number_in, number_if, after, number_after, cap_in, IsShort}
use Rattle.domain_check.specs.Laws.{cap_text, CapTextLaw}

-- ---- numbers

numerals : IsNumeralModel (λ s. all_ascii_digits s ≡ true) (digits_value 10)
numerals = numerals_by_value (λ s. all_ascii_digits s ≡ true) tells_all_ascii_digits

all_digits : (s : List ℕ) → list_all is_ascii_digit s ≡ all_ascii_digits s
all_digits [] = refl
all_digits (c ∷ cs) = ap (λ b. is_ascii_digit c && b) (all_digits cs)

record IsNumeralText (s : List ℕ) : Type 0 where
  pub some : 1 ≤ length s
  pub few : length s ≤ 10
  pub first : get_or s 0 0 ≡ 48 → length s ≡ 1
  pub digits : all_ascii_digits s ≡ true

numeral_text : (s : List ℕ) → is_numeral s ≡ true → IsNumeralText s
numeral_text s h =
    let size = nat_le 1 (length s) && nat_le (length s) 10 in
    let zeros = nat_lt 1 (length s) && slice_index s 0 == 48 in
    let p = and_parts size (not zeros && list_all is_ascii_digit s) h in
    let q = and_parts (nat_le 1 (length s)) (nat_le (length s) 10) p.0 in
    let r = and_parts (not zeros) (list_all is_ascii_digit s) p.1 in
    let some = leb-true 1 (length s) q.0 in
    record {
      some = some;
      few = leb-true (length s) 10 q.1;
      first = λ z. alone some z (and_cases (nat_lt 1 (length s)) (slice_index s 0 == 48) (not-true zeros r.0));
      digits = sym (all_digits s) ∙ r.1;
    }
  where
    alone : 1 ≤ length s → get_or s 0 0 ≡ 48
        → (nat_lt 1 (length s) ≡ false) ⊎ ((slice_index s 0 == 48) ≡ false) → length s ≡ 1
    alone some z (inl e) = omega (arith, some, ltb-false 1 (length s) e)
    alone some z (inr e) = absurd (eqb-false (slice_index s 0) 48 e z)

number_is : (s : List ℕ) (n : ℕ) → number_in s ≡ Some n → (s ≡ decimal n) × (n < 10 ^ 10)
number_is s n e = by_case (is_numeral s) refl e
  where
    by_case : (b : Bool) → is_numeral s ≡ b → (if b then Some (digits_value 10 s) else None) ≡ Some n
        → (s ≡ decimal n) × (n < 10 ^ 10)
    by_case true h e =
        let t = numeral_text s h in
        let small = digits_value_short numerals s 10 t.digits t.few in
        let same : digits_value 10 s ≡ n = cc in
        let written = decimal-digits_value numerals s t.digits t.some t.first (omega (arith, small)) in
        subst (λ (m : ℕ). (s ≡ decimal m) × (m < 10 ^ 10)) same (sym written, small)
    by_case false h e = cc

no_zeros : (n : ℕ) → n < 10 ^ 10 → (nat_lt 1 (length (decimal n)) && slice_index (decimal n) 0 == 48) ≡ false
no_zeros n small = either (cases_lt 0 n)
  where
    either : (0 < n) ⊎ (n ≤ 0) → (nat_lt 1 (length (decimal n)) && slice_index (decimal n) 0 == 48) ≡ false
    either (inl l) =
        let first = first_decimal n l (omega (arith, small)) in
        and_right (nat_lt 1 (length (decimal n))) (slice_index (decimal n) 0 == 48)
        (ne_eqb (slice_index (decimal n) 0) 48 (λ e. omega (arith, first, e)))
    either (inr m) =
        let one = length-decimal-le 1 n (omega arith) (omega (arith, m)) (omega (arith, m)) in
        and_left (nat_lt 1 (length (decimal n))) (slice_index (decimal n) 0 == 48) (le-ltb 1 (length (decimal n)) one)

number_of_decimal : (n : ℕ) → n < 10 ^ 10 → number_in (decimal n) ≡ Some n
number_of_decimal n small =
    let s = decimal n in
    let k = decimal_is_IsNumeral n (omega (arith, small)) in
    let few = length-decimal-le 10 n (omega arith) small (omega (arith, small)) in
    let zeros = nat_lt 1 (length s) && slice_index s 0 == 48 in
    let size = and_from (nat_le 1 (length s)) (nat_le (length s) 10) (le-leb 1 (length s) k.0.0) (le-leb (length s) 10 few) in
    let rest =
    and_from (not zeros) (list_all is_ascii_digit s) (not_from_false zeros (no_zeros n small))
    (all_digits s ∙ numerals.from s k.0.1) in
    let is : is_numeral s ≡ true =
    and_from (nat_le 1 (length s) && nat_le (length s) 10) (not zeros && list_all is_ascii_digit s)
    size rest in
    let chosen : Bool → Option ℕ = λ b. if b then Some (digits_value 10 s) else None in
    ap chosen is ∙ ap Some k.1

-- ---- texts

after_is : (word s r : List ℕ) → after word s ≡ Some r → s ≡ word ++ r
after_is word s r e = by_case (bytes_eq (take (length word) s) word) refl e
  where
    by_case : (b : Bool) → bytes_eq (take (length word) s) word ≡ b
        → (if b then Some (drop (length word) s) else None) ≡ Some r → s ≡ word ++ r
    by_case true h e =
        let front : take (length word) s ≡ word = (bytes_eq-Decides (take (length word) s) word).0 h in
        let rest : drop (length word) s ≡ r = cc in
        sym (take-append-drop (length word) s) ∙ ap (λ t. t ++ drop (length word) s) front ∙ ap (λ t. word ++ t) rest
    by_case false h e = cc

number_after_is : (word s : List ℕ) (n : ℕ) → number_after word s ≡ Some n
    → (s ≡ word ++ decimal n) × (n < 10 ^ 10)
unfolding number_after
number_after_is word s n e = by_case (after word s) refl e
  where
    by_case : (o : Option (List ℕ)) → after word s ≡ o → number_if o ≡ Some n
        → (s ≡ word ++ decimal n) × (n < 10 ^ 10)
    by_case None h e = cc
    by_case (Some r) h e = let w = number_is r n e in (after_is word s r h ∙ ap (λ t. word ++ t) w.0, w.1)

Is : List ℕ → InitialCap → Type 0
Is s c = (s ≡ cap_text c) × IsShort c

pub cap_is : (s : List ℕ) (c : InitialCap) → cap_in s ≡ Some c → (s ≡ cap_text c) × IsShort c
unfolding cap_in Is
cap_is s c e = by_none (bytes_eq s (codes "none")) refl e
  where
    pages : Option ℕ
    pages = number_after (codes "page ") s

    lines : Option ℕ
    lines = number_after (codes "irq ") s

    by_line : (o : Option ℕ) → lines ≡ o → option_map Irq o ≡ Some c → Is s c
    by_line None h e = cc
    by_line (Some n) h e = let same : Irq n ≡ c = cc in subst (Is s) same (number_after_is (codes "irq ") s n h)

    by_page : (o : Option ℕ) → pages ≡ o → or_else (option_map Page o) (option_map Irq lines) ≡ Some c
        → Is s c
    by_page None h e = by_line lines refl e
    by_page (Some n) h e = let same : Page n ≡ c = cc in subst (Is s) same (number_after_is (codes "page ") s n h)

    by_none : (b : Bool) → bytes_eq s (codes "none") ≡ b
        → (if b then Some NoCap else or_else (option_map Page pages) (option_map Irq lines)) ≡ Some c → Is s c
    by_none true h e = let same : NoCap ≡ c = cc in subst (Is s) same ((bytes_eq-Decides s (codes "none")).0 h, tt)
    by_none false h e = by_page pages refl e

cap_of_text : (c : InitialCap) → IsShort c → cap_in (cap_text c) ≡ Some c
unfolding cap_in number_after
cap_of_text NoCap h = refl
cap_of_text (Page n) h = ap (λ (o : Option ℕ). or_else (option_map Page o) None) (number_of_decimal n h)
cap_of_text (Irq n) h = ap (λ (o : Option ℕ). option_map Irq o) (number_of_decimal n h)

pub cap_text_law : CapTextLaw
cap_text_law s c = (cap_is s c, λ h. subst (λ (t : List ℕ). cap_in t ≡ Some c) (sym h.0) (cap_of_text c h.1))

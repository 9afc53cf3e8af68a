-- How many colours are lent where the rule lets them through, and a step of the code over entries.
use Rattle.std.proofs.Common.{◌≡◌, ℕ, ◌<◌, ◌≤◌, ◌^◌, Bool, true, false, List, length, map, take, get_or, Option, None, Some, refl, sym, ap, subst, ◌∙◌, arith, eqb, eqb-true}
use Rattle.std.specs.Prelude.{slice_get}
use Rattle.std.specs.List.{list_any}
use Rattle.std.proofs.lemmas.List.{length-map, get_or-map}
use Rattle.std.proofs.lemmas.List.Folds.{Any-from_list_any}
use Rattle.std.proofs.lemmas.Map.Keys.{IsDistinct-from_apart}
use Rattle.std.proofs.lemmas.Map.Steps.{length-le_from_distinct_below}
use Rattle.std.proofs.lemmas.Option.{slice_get-get_or}
use Rattle.frame_colours.specs.Colours.{Whole}
use Rattle.image_record.specs.declared.refusal.Refusal.{Refusal}
use Rattle.image_record.specs.Cases.{first_in}
use Rattle.image_record.proofs.Loops.{count_of}
use Rattle.lend_check.specs.declared.lending.LendingEntry.{LendingEntry}
use Rattle.lend_check.specs.Lending.{LendingDomain, in_naturals, said, lent, lend_of}
use Rattle.lend_check.specs.Parties.{parties}
use Rattle.lend_check.specs.Models.{entry_model}
use Rattle.lend_check.specs.Rule.{k21_colour, k21_lend, k21_entry}
use Rattle.lend_check.specs.Laws.{AllPass}
use Rattle.lend_check.proofs.Kept.{colours_pass, each_once, each_lent}

-- ---- at most as many as there are colours

module _ (whole : Whole) (domains : List LendingDomain) (pass : AllPass whole domains (length (lent domains))) where
  colours : List ℕ
  colours = map (λ (l : ℕ × ℕ). l.1) (lent domains)

  at : ℕ → ℕ × ℕ
  at k = get_or (lent domains) k (0, 0)

  there : (k : ℕ) → k < length (lent domains) → slice_get (lent domains) k ≡ Some (at k)
  unfolding at
  there k l = slice_get-get_or (lent domains) k (0, 0) l

  colour_at : (k d : ℕ) → k < length (lent domains) → get_or colours k d ≡ (at k).1
  unfolding colours at
  colour_at k d l = get_or-map (λ (l : ℕ × ℕ). l.1) (lent domains) k (0, 0) d l

  apart : (j k d : ℕ) → j < k → k < length colours → eqb (get_or colours j d) (get_or colours k d) ≡ false
  unfolding colours
  apart j k d before l = by_case (eqb (get_or colours j d) (get_or colours k d)) refl
    where
      within : k < length (lent domains)
      within = omega (arith, l, length-map (lent domains) (λ (l : ℕ × ℕ). l.1))

      by_case : (b : Bool) → eqb (get_or colours j d) (get_or colours k d) ≡ b → b ≡ false
      by_case false is = refl
      by_case true is =
          let first : j < length (lent domains) = omega (arith, before, within) in
          let same =
          sym (colour_at j d first) ∙ eqb-true (get_or colours j d) (get_or colours k d) is ∙ colour_at k d within in
          let equal = each_once whole domains pass j k (at j) (at k) (there j first) (there k within) same in
          absurd (omega (arith, before, equal))

  small : (q : ℕ) → list_any (eqb q) colours ≡ true → q < whole.colours
  unfolding colours
  small q h =
      let found = Any-from_list_any (eqb q) colours h in
      let k = found.0 in
      let within : k < length (lent domains) = omega (arith, found.2, length-map (lent domains) (λ (l : ℕ × ℕ). l.1)) in
      let is : q ≡ (at k).1 =
      eqb-true q found.1 found.4 ∙ sym found.3 ∙ colour_at k found.1 within in
      subst (λ (c : ℕ). c < whole.colours) (sym is) (each_lent whole domains pass k (at k) (there k within)).range

  pub few_lent : length (said domains) ≤ whole.colours
  unfolding colours
  few_lent =
      let few = length-le_from_distinct_below colours whole.colours (IsDistinct-from_apart eqb colours apart) small in
      omega (arith, few, length-map (lent domains) (λ (l : ℕ × ℕ). l.1), length-map (said domains) in_naturals)

pub few : (whole : Whole) (domains : List LendingDomain) → first_in (k21_colour whole domains) (said domains) ≡ None
    → whole.colours ≤ 64 → length domains < 2 ^ 62
    → parties domains < 2 ^ 63
few whole domains none colours many =
    let lent = few_lent whole domains (colours_pass whole domains none) in
    omega (arith, lent, colours, many)

-- ---- an entry of the code

pub entry_at : (domains : List LendingDomain) (xs : List LendingEntry) (k : ℕ) (x : LendingEntry) (o : Option Refusal)
    → k < length xs → k21_lend k (lend_of domains x.domain) x.lend ≡ o
    → k21_entry domains (map entry_model (take k xs)) (entry_model x) ≡ o
unfolding k21_entry
entry_at domains xs k x o below is =
    ap (λ (n : ℕ). k21_lend n (lend_of domains x.domain) x.lend) (count_of entry_model xs k below) ∙ is

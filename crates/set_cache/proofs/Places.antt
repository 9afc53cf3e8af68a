-- What follows from the places of lines, for the crates above.
use Rattle.std.proofs.Common.{◌≡◌, ◌≢◌, ℕ, suc, ◌+◌, ◌*◌, ◌<◌, ◌≤◌, ◌%◌, ◌/◌, true, false, ◌∷◌, List, [], length, get_or, Option, Some, None, option_map, is_some, refl, ap, sym, subst, ◌∙◌, arith, inl, inr}
use Rattle.std.proofs.lemmas.List.Quantifiers.{position-Some}
use Rattle.std.proofs.lemmas.Nat.{div-mul-add, mod-mul-add}
use Rattle.std.proofs.lemmas.Bool.{cases_eq, false≢true, false_from_ne_true}
use Rattle.std.proofs.lemmas.Bool.Decides.{nat_tests}
use Rattle.std.proofs.lemmas.List.{get_or_default}
use Rattle.std.proofs.lemmas.List.Sums.{sum_by-le}
use Rattle.std.specs.Prelude.{All, sum_by}
use Rattle.set_cache.specs.declared.Touch.{Touch}
use Rattle.set_cache.specs.declared.KeptLine.{KeptLine}
use Rattle.set_cache.specs.Cache.{is_line, is_dirty, dirty_in, way_of}
use Rattle.set_cache.specs.Contents.{KeptSet, Contents, IsSound, kept_at}
use Rattle.set_cache.specs.Lines.{MovesLines, AllKept, IsClean, place_in, mark_of, dirty_kept}
use Rattle.set_cache.proofs.Powers.{positive}
use Rattle.set_cache.proofs.Ways.{one_line, way_at, kept_before}

-- a place that is an option of a way is that way's
pub mapped : (f : ℕ → ℕ) (o : Option ℕ) (place : ℕ) → option_map f o ≡ Some place
    → (way : ℕ) × (o ≡ Some way) × (f way ≡ place)
mapped f None place e = absurd (let x : None ≡ Some place = e in cc)
mapped f (Some way) place e = (way, refl, (let x : Some (f way) ≡ Some place = e in cc))

-- one row and one column of a table
same_cell : (s t ways v w : ℕ) → v < ways → w < ways → s * ways + v ≡ t * ways + w → (s ≡ t) × (v ≡ w)
same_cell s t ways v w lv lw e =
    let row : s ≡ t =
    sym (div-mul-add s ways v lv) ∙ ap (λ (n : ℕ). n / ways) e ∙ div-mul-add t ways w lw in
    let col : v ≡ w =
    sym (mod-mul-add s ways v lv) ∙ ap (λ (n : ℕ). n % ways) e ∙ mod-mul-add t ways w lw in
    (row, col)

-- two lines never have one place
pub place_in-injective : {P : Type 0} (takes : P → ℕ → Type 0) (stands : P → ℕ → ℕ → List ℕ → Type 0)
    (contents : Contents P) (a b place : ℕ)
    → IsSound takes stands contents → place_in contents a ≡ Some place → place_in contents b ≡ Some place
    → a ≡ b
place_in-injective takes stands contents a b place sound at_a at_b =
    let table : List KeptSet = contents.table in
    let ways : ℕ = contents.ways in
    let s : ℕ = a % length table in
    let t : ℕ = b % length table in
    let some : 0 < length table = positive (length table) sound.power in
    let of_a = mapped (λ (way : ℕ). s * ways + way) (way_of a (kept_at table s).places) place at_a in
    let of_b = mapped (λ (way : ℕ). t * ways + way) (way_of b (kept_at table t).places) place at_b in
    let found_a = position-Some (is_line a) (kept_at table s).places of_a.0 None of_a.1 in
    let found_b = position-Some (is_line b) (kept_at table t).places of_b.0 None of_b.1 in
    let full_a : length (kept_at table s).places ≡ ways =
    sound.full s (record { places = []; state = 0 }) (omega arith) in
    let full_b : length (kept_at table t).places ≡ ways =
    sound.full t (record { places = []; state = 0 }) (omega arith) in
    let cell = same_cell s t ways of_a.0 of_b.0 (omega (arith, found_a.0, full_a))
    (omega (arith, found_b.0, full_b)) (of_a.2 ∙ sym of_b.2) in
    let here : is_line b (get_or (kept_at table s).places of_a.0 None) ≡ true =
    subst (λ (n : ℕ). is_line b (get_or (kept_at table n).places of_a.0 None) ≡ true) (sym cell.0)
    (subst (λ (w : ℕ). is_line b (get_or (kept_at table t).places w None) ≡ true) (sym cell.1) found_b.1) in
    one_line a b (get_or (kept_at table s).places of_a.0 None) found_a.1 here

-- a touch of a line that fits leaves lines that fit
pub AllKept-touch : {P : Type 0} (Fits : ℕ → Type 0) (answer : Touch) (number : ℕ) (old new : Contents P)
    → MovesLines answer number (place_in old) (place_in new) → Fits number → AllKept Fits old
    → AllKept Fits new
AllKept-touch Fits answer number old new moves fits all = λ other kept.
    elim (cases_eq other number) [
      | inl same ↦ subst Fits (sym same) fits
      | inr apart ↦ all other
          (sym (ap is_some (kept_before answer number (place_in old) (place_in new) moves other apart kept)) ∙ kept)
    ]

-- and gives up one that fits
pub victim_fits : {P : Type 0} (Fits : ℕ → Type 0) (answer : Touch) (number : ℕ) (old new : Contents P)
    → MovesLines answer number (place_in old) (place_in new) → AllKept Fits old → (victim : ℕ)
    → answer.victim ≡ Some victim → Fits victim
victim_fits Fits answer number old new moves all victim gone = all victim
    (ap is_some (moves.given_up victim gone).0 ∙ moves.here)

-- nothing that is here, where nothing is
pub AllKept-none : {P : Type 0} (Fits : ℕ → Type 0) (contents : Contents P)
    → ((number : ℕ) → place_in contents number ≡ None) → AllKept Fits contents
AllKept-none Fits contents none = λ number kept. absurd (false≢true (sym (ap is_some (none number)) ∙ kept))

-- ---- marks

-- a line that is nowhere has no mark
pub IsClean-none : {P : Type 0} (contents : Contents P) → ((number : ℕ) → place_in contents number ≡ None)
    → IsClean contents
IsClean-none contents none number e = of
    (way_of number (kept_at contents.table (number % length contents.table)).places) (none number) e
  where
    of : (found : Option ℕ)
        → option_map (λ (way : ℕ). (number % length contents.table) * contents.ways + way) found ≡ None
        → option_map
        (λ (way : ℕ). is_dirty
        (get_or (kept_at contents.table (number % length contents.table)).places way None)) found ≢ Some true
    of None n = λ e. let x : None ≡ Some true = e in absurd (cc)
    of (Some way) n = absurd
        (let x : Some ((number % length contents.table) * contents.ways + way) ≡ None = n in cc)

-- a way whose line has a mark shows it
dirty_line : (line : Option KeptLine) → is_dirty line ≡ true → (number : ℕ) × (is_line number line ≡ true)
dirty_line None t = absurd (false≢true t)
dirty_line (Some line) t = (line.number, grind (arith, nat_tests))

none_dirty : (places : List (Option KeptLine)) → ((way : ℕ) → is_dirty (get_or places way None) ≡ false)
    → dirty_in places ≡ 0
none_dirty [] clean = refl
none_dirty (line ∷ places) clean =
    let first : is_dirty line ≡ false = clean 0 in
    let rest : dirty_in places ≡ 0 = none_dirty places (λ way. clean (suc way)) in
    rw first rest

-- where no line has a mark, none is counted
pub dirty-clean : {P : Type 0} (takes : P → ℕ → Type 0) (stands : P → ℕ → ℕ → List ℕ → Type 0)
    (contents : Contents P)
    → IsSound takes stands contents → IsClean contents → dirty_kept contents ≡ 0
dirty-clean takes stands contents sound clean =
    let table : List KeptSet = contents.table in
    let each : All (λ (kept : KeptSet). dirty_in kept.places ≤ 0) table = λ s d lt.
    let kept : KeptSet = get_or table s d in
    let here : kept ≡ kept_at table s = get_or_default table s d _ lt in
    let none : dirty_in kept.places
    ≡ 0 = none_dirty kept.places (λ way. false_from_ne_true (is_dirty (get_or kept.places way None)) (λ t.
    let line = dirty_line (get_or kept.places way None) t in
    let home : line.0 % length table ≡ s =
    sound.home s line.0 way
    (subst (λ (k : KeptSet). is_line line.0 (get_or k.places way None) ≡ true) here line.1) in
    let at : way_of line.0 kept.places ≡ Some way =
    way_at line.0 way kept.places (sound.once s d lt) line.1 in
    let mark : mark_of kept.places line.0 ≡ Some true = rw at (ap Some t) in
    clean line.0
    (ap (λ (j : ℕ). mark_of (kept_at table j).places line.0) home
    ∙ subst (λ (k : KeptSet). mark_of k.places line.0 ≡ Some true) here mark))) in
    omega arith in
    let all : sum_by (λ (kept : KeptSet). dirty_in kept.places) table ≤ length table * 0 =
    sum_by-le (λ (kept : KeptSet). dirty_in kept.places) 0 table each in
    omega (arith, all)

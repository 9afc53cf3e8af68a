-- Why the rule of lent colours refuses an image, both ways.
use Rattle.std.proofs.Common.{◌≡◌, ℕ, ◌+◌, ◌<◌, Bool, true, false, List, [], length, take, get_or, Option, Some, None, refl, sym, ap, subst, ◌∙◌, arith, true≢false}
use Rattle.std.specs.Prelude.{ℤ, pos, nat_lt, slice_get, if◌then◌else◌}
use Rattle.std.proofs.lemmas.Bool.{ltb-true}
use Rattle.std.proofs.lemmas.Bool.Decides.{nat_tests}
use Rattle.std.proofs.lemmas.List.{length-map, length-take}
use Rattle.std.proofs.lemmas.Option.{slice_get_within, slice_get-get_or, get_or_from_slice_get}
use Rattle.frame_colours.specs.Colours.{Whole}
use Rattle.image_record.specs.declared.refusal.Refusal.{Refusal}
use Rattle.image_record.specs.Numbers.{natural_of, names}
use Rattle.image_record.specs.Cases.{or_else, first_in, refusal}
use Rattle.lend_check.specs.Lending.{LendingDomain, LendingEntry, Lending, lend_of, said, lent, in_naturals}
use Rattle.lend_check.specs.Parties.{parties}
use Rattle.lend_check.specs.Rule.{is_barred, frames_of, most_parties, k21_colour, k21_lend, k21_entry, k21_parties, k21}
use Rattle.lend_check.specs.Laws.{MayBeLent, AllPass, IsForeignFirst, AreTooMany, Cause, Barred, Small, Foreign, Many, CauseLaw}
use Rattle.lend_check.proofs.Firsts.{First, first_of, is_first}
use Rattle.lend_check.proofs.Kept.{no_colour, said_at, free_at, may_at, all_pass, none_before, colours_pass, colours_none, no_entry, lenders, entries_none, entries_pass, no_entries}

-- ---- a colour

abbrev colour_first : Whole → Lending → Refusal → Type 0
colour_first whole i r = First (k21_colour whole i.domains) [] (said i.domains) no_colour r

colour_case : (whole : Whole) (i : Lending) (r : Refusal) → colour_first whole i r → Cause whole i r
unfolding k21_colour
colour_case whole i r first = by_barred (is_barred whole.colours i.domains (take k (said i.domains)) l.1) refl first.here
  where
    k : ℕ
    k = first.place

    l : ℕ × ℤ
    l = said_at i.domains k

    c : ℕ
    c = natural_of l.1

    there : slice_get (said i.domains) k ≡ Some (l.0, l.1)
    there = slice_get-get_or (said i.domains) k no_colour first.within

    before : AllPass whole i.domains k
    before = all_pass whole i.domains k (λ j below l. first.before j below)

    by_frames : is_barred whole.colours i.domains (take k (said i.domains)) l.1 ≡ false → (b : Bool)
        → nat_lt (frames_of whole c) 7 ≡ b
        → (if b then Some (refusal 21 (pos l.0) l.1 (pos 2)) else None) ≡ Some r
        → Cause whole i r
    by_frames free true few e =
        let same : refusal 21 (pos l.0) l.1 (pos 2) ≡ r = cc in
        Small l.0 l.1 (sym same)
        (record {
          place = k;
          there = there;
          before = before;
          lendable = may_at whole i.domains k free;
          small = ltb-true (frames_of whole c) 7 few;
        })
    by_frames free false few e = cc

    by_barred : (b : Bool) → is_barred whole.colours i.domains (take k (said i.domains)) l.1 ≡ b
        → (if b then Some (refusal 21 (pos l.0) l.1 (pos 1))
        else if nat_lt (frames_of whole c) 7 then Some (refusal 21 (pos l.0) l.1 (pos 2)) else None) ≡ Some r
        → Cause whole i r
    by_barred true barred e =
        let same : refusal 21 (pos l.0) l.1 (pos 1) ≡ r = cc in
        Barred l.0 l.1 (sym same)
        (record {
          place = k;
          there = there;
          before = before;
          barred = λ may. true≢false (sym barred ∙ free_at whole i.domains k may);
        })
    by_barred false free e = by_frames free (nat_lt (frames_of whole c) 7) refl e

-- ---- an entry

foreign_if : (entry : ℕ) (lend : List ℤ) (o : Option ℤ) (r : Refusal) → k21_lend entry lend o ≡ Some r
    → (x : ℤ) × ((o ≡ Some x) × ((names lend x ≡ false) × (r ≡ refusal 21 (pos entry) x (pos 3))))
foreign_if entry lend None r e = cc
foreign_if entry lend (Some x) r e = by_case (names lend x) refl e
  where
    by_case : (b : Bool) → names lend x ≡ b
        → (if b then None else Some (refusal 21 (pos entry) x (pos 3))) ≡ Some r
        → (y : ℤ) × ((Some x ≡ Some y) × ((names lend y ≡ false) × (r ≡ refusal 21 (pos entry) y (pos 3))))
    by_case true is e = cc
    by_case false is e = let same : r ≡ refusal 21 (pos entry) x (pos 3) = cc in (x, (refl, (is, same)))

entry_case : (whole : Whole) (i : Lending) (r : Refusal) → first_in (k21_colour whole i.domains) (said i.domains) ≡ None
    → First (k21_entry i.domains) [] i.schedule no_entry r
    → Cause whole i r
unfolding k21_entry
entry_case whole i r colours first =
    let e = first.place in
    let entry = get_or i.schedule e no_entry in
    let lend = lend_of i.domains entry.domain in
    let found = foreign_if (length (take e i.schedule)) lend entry.lend r first.here in
    let count : length (take e i.schedule) ≡ e = omega (arith, length-take e i.schedule, first.within) in
    let x = found.0 in
    Foreign e x (found.1.1.1 ∙ ap (λ (n : ℕ). refusal 21 (pos n) x (pos 3)) count)
    (record {
      colours = colours_pass whole i.domains colours;
      entry = entry;
      there = slice_get-get_or i.schedule e no_entry first.within;
      before = lenders i e (λ j below l. first.before j below);
      lend = found.1.0;
      foreign = found.1.1.0;
    })

-- ---- too many parties

count_case : (whole : Whole) (i : Lending) (r : Refusal) → first_in (k21_colour whole i.domains) (said i.domains) ≡ None
    → first_in (k21_entry i.domains) i.schedule ≡ None → k21_parties i.version i.domains ≡ Some r
    → Cause whole i r
unfolding k21_parties
count_case whole i r colours entries e = by_case (nat_lt (most_parties i.version) (parties i.domains)) refl e
  where
    by_case : (b : Bool) → nat_lt (most_parties i.version) (parties i.domains) ≡ b
        → (if b then Some (refusal 21 (pos 0) (pos (parties i.domains)) (pos 4)) else None) ≡ Some r
        → Cause whole i r
    by_case true many e =
        let same : refusal 21 (pos 0) (pos (parties i.domains)) (pos 4) ≡ r = cc in
        let count : parties i.domains ≡ length i.domains + length (lent i.domains) =
        omega (arith, length-map (said i.domains) in_naturals) in
        let above = ltb-true (most_parties i.version) (parties i.domains) many in
        Many (sym same ∙ ap (λ (n : ℕ). refusal 21 (pos 0) (pos n) (pos 4)) count)
        (record {
          colours = colours_pass whole i.domains colours;
          entries = λ j other there. entries_pass i entries j other (slice_get_within i.schedule j other there) there;
          many = omega (arith, above, count);
        })
    by_case false many e = cc

why : (whole : Whole) (i : Lending) (r : Refusal) → k21 whole i ≡ Some r → Cause whole i r
unfolding k21
why whole i r e = by_colours (first_in (k21_colour whole i.domains) (said i.domains)) refl e
  where
    rest : Option Refusal
    rest = or_else (first_in (k21_entry i.domains) i.schedule) (k21_parties i.version i.domains)

    by_entries : first_in (k21_colour whole i.domains) (said i.domains) ≡ None → (o : Option Refusal)
        → first_in (k21_entry i.domains) i.schedule ≡ o → or_else o (k21_parties i.version i.domains) ≡ Some r
        → Cause whole i r
    by_entries colours (Some q) is e =
        entry_case whole i r colours (first_of (k21_entry i.domains) i.schedule no_entry r (is ∙ e))
    by_entries colours None is e = count_case whole i r colours is e

    by_colours : (o : Option Refusal) → first_in (k21_colour whole i.domains) (said i.domains) ≡ o
        → or_else o rest ≡ Some r
        → Cause whole i r
    by_colours (Some q) is e =
        colour_case whole i r (first_of (k21_colour whole i.domains) (said i.domains) no_colour r (is ∙ e))
    by_colours None is e = by_entries is (first_in (k21_entry i.domains) i.schedule) refl e

-- ---- the converse

barred_at : (whole : Whole) (domains : List LendingDomain) (k : ℕ) (d : ℕ) (x : ℤ) → said_at domains k ≡ (d, x)
    → ¬ MayBeLent whole.colours domains (take k (lent domains)) (natural_of x)
    → k21_colour whole domains (take k (said domains)) (said_at domains k) ≡ Some (refusal 21 (pos d) x (pos 1))
unfolding k21_colour
barred_at whole domains k d x is barred =
    let P : ℕ × ℤ → Type 0 =
    λ l. k21_colour whole domains (take k (said domains)) l ≡ Some (refusal 21 (pos d) x (pos 1)) in
    subst P (sym is) (by_case (is_barred whole.colours domains (take k (said domains)) x) refl)
  where
    by_case : (b : Bool) → is_barred whole.colours domains (take k (said domains)) x ≡ b
        → (if b then Some (refusal 21 (pos d) x (pos 1))
        else if nat_lt (frames_of whole (natural_of x)) 7 then Some (refusal 21 (pos d) x (pos 2)) else None)
        ≡ Some (refusal 21 (pos d) x (pos 1))
    by_case true b = refl
    by_case false free =
        let P : ℕ × ℤ → Type 0 = λ l. is_barred whole.colours domains (take k (said domains)) l.1 ≡ false in
        let may = may_at whole domains k (subst P (sym is) free) in
        let Q : ℕ × ℤ → Type 0 = λ l. MayBeLent whole.colours domains (take k (lent domains)) (natural_of l.1) in
        absurd (barred (subst Q is may))

small_at : (whole : Whole) (domains : List LendingDomain) (k : ℕ) (d : ℕ) (x : ℤ) → said_at domains k ≡ (d, x)
    → MayBeLent whole.colours domains (take k (lent domains)) (natural_of x)
    → frames_of whole (natural_of x) < 7
    → k21_colour whole domains (take k (said domains)) (said_at domains k) ≡ Some (refusal 21 (pos d) x (pos 2))
unfolding k21_colour
small_at whole domains k d x is may small =
    let P : ℕ × ℤ → Type 0 =
    λ l. k21_colour whole domains (take k (said domains)) l ≡ Some (refusal 21 (pos d) x (pos 2)) in
    let Q : ℕ × ℤ → Type 0 = λ l. MayBeLent whole.colours domains (take k (lent domains)) (natural_of l.1) in
    let S : ℕ × ℤ → Type 0 = λ l. is_barred whole.colours domains (take k (said domains)) l.1 ≡ false in
    let free = subst S is (free_at whole domains k (subst Q (sym is) may)) in
    let few : nat_lt (frames_of whole (natural_of x)) 7 ≡ true = grind (arith, nat_tests, small) in
    subst P (sym is) (rw (free, few) refl)

colour_told : (whole : Whole) (i : Lending) (r : Refusal) (k d : ℕ) (x : ℤ) → slice_get (said i.domains) k ≡ Some (d, x)
    → AllPass whole i.domains k
    → k21_colour whole i.domains (take k (said i.domains)) (said_at i.domains k) ≡ Some r
    → k21 whole i ≡ Some r
unfolding k21
colour_told whole i r k d x there before here =
    let within = slice_get_within (said i.domains) k (d, x) there in
    let first =
    is_first (k21_colour whole i.domains) (said i.domains) no_colour r k within
    (λ j below. none_before whole i.domains k before j below (omega (arith, below, within))) here in
    rw first refl

entry_told : (whole : Whole) (i : Lending) (e : ℕ) (x : ℤ) → IsForeignFirst whole i e x
    → k21 whole i ≡ Some (refusal 21 (pos e) x (pos 3))
unfolding k21 k21_entry
entry_told whole i e x f =
    let within = slice_get_within i.schedule e f.entry f.there in
    let is = get_or_from_slice_get i.schedule e f.entry no_entry f.there in
    let count : length (take e i.schedule) ≡ e = omega (arith, length-take e i.schedule, within) in
    let told : k21_lend (length (take e i.schedule)) (lend_of i.domains f.entry.domain) f.entry.lend
    ≡ Some (refusal 21 (pos e) x (pos 3)) = rw (f.lend, f.foreign, count) refl in
    let P : LendingEntry → Type 0 = λ o. k21_lend (length (take e i.schedule)) (lend_of i.domains o.domain) o.lend
    ≡ Some (refusal 21 (pos e) x (pos 3)) in
    let first =
    is_first (k21_entry i.domains) i.schedule no_entry (refusal 21 (pos e) x (pos 3)) e within
    (λ j below.
    entries_none i e (λ m other before there. f.before m other before there) j below (omega (arith, below, within)))
    (subst P (sym is) told) in
    rw (colours_none whole i.domains f.colours, first) refl

many_told : (whole : Whole) (i : Lending) → AreTooMany whole i
    → k21 whole i ≡ Some (refusal 21 (pos 0) (pos (length i.domains + length (lent i.domains))) (pos 4))
unfolding k21 k21_parties
many_told whole i m =
    let count : parties i.domains ≡ length i.domains + length (lent i.domains) =
    omega (arith, length-map (said i.domains) in_naturals) in
    let many = m.many in
    let above : nat_lt (most_parties i.version) (parties i.domains) ≡ true = grind (arith, nat_tests, many, count) in
    let entries = no_entries i (λ j e before there. m.entries j e there) in
    rw (colours_none whole i.domains m.colours, entries, above)
    (ap (λ (n : ℕ). Some (refusal 21 (pos 0) (pos n) (pos 4))) count)

told : (whole : Whole) (i : Lending) (r : Refusal) → Cause whole i r → k21 whole i ≡ Some r
told whole i r (Barred d x is b) =
    let there = get_or_from_slice_get (said i.domains) b.place (d, x) no_colour b.there in
    subst (λ (q : Refusal). k21 whole i ≡ Some q) (sym is)
    (colour_told whole i (refusal 21 (pos d) x (pos 1)) b.place d x b.there b.before
    (barred_at whole i.domains b.place d x there b.barred))
told whole i r (Small d x is s) =
    let there = get_or_from_slice_get (said i.domains) s.place (d, x) no_colour s.there in
    subst (λ (q : Refusal). k21 whole i ≡ Some q) (sym is)
    (colour_told whole i (refusal 21 (pos d) x (pos 2)) s.place d x s.there s.before
    (small_at whole i.domains s.place d x there s.lendable s.small))
told whole i r (Foreign e x is f) = subst (λ (q : Refusal). k21 whole i ≡ Some q) (sym is) (entry_told whole i e x f)
told whole i r (Many is m) = subst (λ (q : Refusal). k21 whole i ≡ Some q) (sym is) (many_told whole i m)

pub cause : CauseLaw
cause whole i r = (why whole i r, told whole i r)

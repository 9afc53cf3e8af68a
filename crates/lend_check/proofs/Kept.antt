-- The rule of lent colours lets through exactly what `AreLent` says.
use Rattle.std.proofs.Common.{◌≡◌, ℕ, suc, ◌+◌, ◌<◌, ◌≤◌, Bool, true, false, List, [], ◌∷◌, length, map, take, get_or, Option, Some, None, refl, sym, ap, subst, ◌∙◌, arith, ◌⊎◌, inl, inr, true≢false, eqb-true}
use Rattle.std.specs.Prelude.{ℤ, pos, nat_eq, nat_lt, slice_get, if◌then◌else◌}
use Rattle.std.proofs.lemmas.Bool.{cases_lt, ltb-false, or_cases}
use Rattle.std.proofs.lemmas.Bool.Decides.{nat_tests}
use Rattle.std.proofs.lemmas.List.{length-map, length-take, get_or-map, get_or-take, take-map}
use Rattle.std.proofs.lemmas.List.Folds.{list_any_at}
use Rattle.std.proofs.lemmas.Option.{slice_get_within, slice_get-get_or, get_or_from_slice_get}
use Rattle.frame_colours.specs.Colours.{Whole, has}
use Rattle.image_record.specs.Numbers.{natural_of, names}
use Rattle.image_record.specs.Cases.{or_else, first_in, refusal}
use Rattle.image_record.proofs.FirstCases.{or_first, or_rest, if_first, if_rest, first_in_none}
use Rattle.lend_check.specs.Lending.{LendingDomain, LendingEntry, Lending, lend_of, in_naturals, said, lent}
use Rattle.lend_check.specs.Parties.{parties}
use Rattle.lend_check.specs.Rule.{is_barred, frames_of, most_parties, k21_colour, k21_lend, k21_entry, k21_parties, k21, IsLent, AreLent}
use Rattle.lend_check.specs.Laws.{MayBeLent, Passes, AllPass, IsOwnOrLent, AcceptedLaw}
use Rattle.lend_check.proofs.Firsts.{none_in}
use Rattle.lend_check.proofs.Colours.{may_be_lent, not_barred}

-- ---- the place of a lent colour

abbrev pub no_colour : ℕ × ℤ
no_colour = (0, pos 0)

abbrev pub said_at : List LendingDomain → ℕ → ℕ × ℤ
said_at domains k = get_or (said domains) k no_colour

pub record At (domains : List LendingDomain) (k : ℕ) (l : ℕ × ℕ) : Type 0 where
  pub within : k < length (said domains)
  pub is : in_naturals (said_at domains k) ≡ l

pub at : (domains : List LendingDomain) (k : ℕ) (l : ℕ × ℕ) → slice_get (lent domains) k ≡ Some l → At domains k l
at domains k l e =
    let within : k < length (said domains) =
    omega (arith, length-map (said domains) in_naturals, slice_get_within (lent domains) k l e) in
    record {
      within = within;
      is =
          sym (get_or-map in_naturals (said domains) k no_colour l within)
          ∙ get_or_from_slice_get (lent domains) k l l e;
    }

pub get_lent : (domains : List LendingDomain) (k : ℕ) → k < length (said domains)
    → slice_get (lent domains) k ≡ Some (in_naturals (said_at domains k))
get_lent domains k l =
    let d : ℕ × ℕ = (0, 0) in
    let within : k < length (lent domains) = omega (arith, length-map (said domains) in_naturals, l) in
    slice_get-get_or (lent domains) k d within ∙ ap Some (get_or-map in_naturals (said domains) k no_colour d l)

-- ---- its cases

pub may_at : (whole : Whole) (domains : List LendingDomain) (k : ℕ)
    → is_barred whole.colours domains (take k (said domains)) (said_at domains k).1 ≡ false
    → MayBeLent whole.colours domains (take k (lent domains)) (natural_of (said_at domains k).1)
may_at whole domains k free =
    let l = said_at domains k in
    subst (λ (es : List (ℕ × ℕ)). MayBeLent whole.colours domains es (natural_of l.1))
    (sym (take-map in_naturals k (said domains)))
    (may_be_lent whole.colours domains (take k (said domains)) l.1 free)

pub passes_at : (whole : Whole) (domains : List LendingDomain) (k : ℕ)
    → k21_colour whole domains (take k (said domains)) (said_at domains k) ≡ None
    → Passes whole domains k (natural_of (said_at domains k).1)
unfolding k21_colour
passes_at whole domains k n =
    let l = said_at domains k in
    let c = natural_of l.1 in
    let earlier = take k (said domains) in
    let barred = is_barred whole.colours domains earlier l.1 in
    let few = nat_lt (frames_of whole c) 7 in
    let first = refusal 21 (pos l.0) l.1 (pos 1) in
    let second = refusal 21 (pos l.0) l.1 (pos 2) in
    let rest : Option _ = if few then Some second else None in
    let enough : few ≡ false = if_first few second None (if_rest barred first rest n) in
    record {
      lendable = may_at whole domains k (if_first barred first rest n);
      frames = ltb-false (frames_of whole c) 7 enough;
    }

pub free_at : (whole : Whole) (domains : List LendingDomain) (k : ℕ)
    → MayBeLent whole.colours domains (take k (lent domains)) (natural_of (said_at domains k).1)
    → is_barred whole.colours domains (take k (said domains)) (said_at domains k).1 ≡ false
free_at whole domains k may =
    let l = said_at domains k in
    let c = natural_of l.1 in
    not_barred whole.colours domains (take k (said domains)) l.1
    (subst (λ (es : List (ℕ × ℕ)). MayBeLent whole.colours domains es c) (take-map in_naturals k (said domains)) may)

pub none_at : (whole : Whole) (domains : List LendingDomain) (k : ℕ)
    → Passes whole domains k (natural_of (said_at domains k).1)
    → k21_colour whole domains (take k (said domains)) (said_at domains k) ≡ None
unfolding k21_colour
none_at whole domains k p =
    let free = free_at whole domains k p.lendable in
    let frames = p.frames in
    let enough : nat_lt (frames_of whole (natural_of (said_at domains k).1)) 7 ≡ false =
    grind (arith, nat_tests, frames) in
    rw (free, enough) refl

-- ---- of all lent colours

pub all_pass : (whole : Whole) (domains : List LendingDomain) (k : ℕ)
    → ((j : ℕ) → j < k → j < length (said domains)
    → k21_colour whole domains (take j (said domains)) (said_at domains j) ≡ None)
    → AllPass whole domains k
all_pass whole domains k none = λ j l before e.
    let there = at domains j l e in
    subst (λ (m : ℕ × ℕ). Passes whole domains j m.1) there.is (passes_at whole domains j (none j before there.within))

pub none_before : (whole : Whole) (domains : List LendingDomain) (k : ℕ) → AllPass whole domains k → (j : ℕ) → j < k
    → j < length (said domains) → k21_colour whole domains (take j (said domains)) (said_at domains j) ≡ None
none_before whole domains k pass j before l =
    none_at whole domains j (pass j (in_naturals (said_at domains j)) before (get_lent domains j l))

pub colours_pass : (whole : Whole) (domains : List LendingDomain)
    → first_in (k21_colour whole domains) (said domains) ≡ None
    → AllPass whole domains (length (lent domains))
colours_pass whole domains n =
    all_pass whole domains (length (lent domains))
    (λ j before l. first_in_none (k21_colour whole domains) (said domains) n j l no_colour)

pub colours_none : (whole : Whole) (domains : List LendingDomain) → AllPass whole domains (length (lent domains))
    → first_in (k21_colour whole domains) (said domains) ≡ None
colours_none whole domains pass =
    none_in (k21_colour whole domains) (said domains) no_colour
    (λ k l.
    let below : k < length (lent domains) = omega (arith, length-map (said domains) in_naturals, l) in
    none_before whole domains (length (lent domains)) pass k below l)

-- ---- each lent once

abbrev snd : ℕ × ℕ → ℕ
snd l = l.1

abbrev lent_at : List LendingDomain → ℕ → ℕ × ℕ
lent_at domains k = get_or (lent domains) k (0, 0)

-- a colour of those before place k is that of a place
record Standing (ls : List (ℕ × ℕ)) (c : ℕ) : Type 0 where
  pub place : ℕ
  pub within : place < length ls
  pub same : (get_or ls place (0, 0)).1 ≡ c

standing : (ls : List (ℕ × ℕ)) (c : ℕ) → has (map snd ls) c ≡ true → Standing ls c
standing [] c h = absurd (true≢false (sym h))
standing (l ∷ ls) c h = by_case (standing ls c) (or_cases (nat_eq l.1 c) (has (map snd ls) c) h)
  where
    by_case : (has (map snd ls) c ≡ true → Standing ls c) → (nat_eq l.1 c ≡ true) ⊎ (has (map snd ls) c ≡ true)
        → Standing (l ∷ ls) c
    by_case later (inl here) = record { place = 0; within = omega arith; same = eqb-true l.1 c here }
    by_case later (inr there) =
        let rest = later there in
        record { place = suc rest.place; within = omega (arith, rest.within); same = rest.same }

named_before : (ls : List (ℕ × ℕ)) (j k c : ℕ) → j < k → j < length ls → (get_or ls j (0, 0)).1 ≡ c
    → has (map snd (take k ls)) c ≡ true
named_before ls j k c before l same =
    let taken = take k ls in
    let within : j < length taken = omega (arith, length-take k ls, before, l) in
    let is : get_or (map snd taken) j 0 ≡ c =
    get_or-map snd taken j (0, 0) 0 within ∙ ap snd (get_or-take k ls j (0, 0) before) ∙ same in
    let equal : nat_eq (get_or (map snd taken) j 0) c ≡ true = grind (arith, nat_tests, is) in
    list_any_at (λ m. nat_eq m c) (map snd taken) j 0 (omega (arith, length-map taken snd, within)) equal

module _ (whole : Whole) (domains : List LendingDomain) (pass : AllPass whole domains (length (lent domains))) where
  never_again : (j k : ℕ) (l m : ℕ × ℕ) → slice_get (lent domains) j ≡ Some l → slice_get (lent domains) k ≡ Some m
      → l.1 ≡ m.1 → j < k → ⊥
  never_again j k l m first second same before =
      let new = (pass k m (slice_get_within (lent domains) k m second) second).lendable.new in
      let is = ap snd (get_or_from_slice_get (lent domains) j l (0, 0) first) ∙ same in
      true≢false (sym (named_before (lent domains) j k m.1 before (slice_get_within (lent domains) j l first) is) ∙ new)

  pub each_once : (j k : ℕ) (l m : ℕ × ℕ) → slice_get (lent domains) j ≡ Some l → slice_get (lent domains) k ≡ Some m
      → l.1 ≡ m.1 → j ≡ k
  each_once j k l m first second same = either (cases_lt j k)
    where
      among : (k < j) ⊎ (j ≤ k) → k ≤ j → j ≡ k
      among (inl before) after = absurd (never_again k j m l second first (sym same) before)
      among (inr not_before) after = omega (arith, after, not_before)

      either : (j < k) ⊎ (k ≤ j) → j ≡ k
      either (inl before) = absurd (never_again j k l m first second same before)
      either (inr after) = among (cases_lt k j) after

  pub each_lent : (k : ℕ) (l : ℕ × ℕ) → slice_get (lent domains) k ≡ Some l → IsLent whole domains l.1
  each_lent k l e =
      let p = pass k l (slice_get_within (lent domains) k l e) e in
      record { some = p.lendable.some; range = p.lendable.range; unowned = p.lendable.unowned; frames = p.frames }

pub lent_pass : (whole : Whole) (i : Lending) → AreLent whole i → AllPass whole i.domains (length (lent i.domains))
lent_pass whole i a = λ k l below e.
    let is = a.each k l e in
    record {
      lendable = record { some = is.some; range = is.range; unowned = is.unowned; new = new k l e };
      frames = is.frames;
    }
  where
    new : (k : ℕ) (l : ℕ × ℕ) → slice_get (lent i.domains) k ≡ Some l
        → has (map snd (take k (lent i.domains))) l.1 ≡ false
    new k l e = by_case (has (map snd (take k (lent i.domains))) l.1) refl
      where
        by_case : (b : Bool) → has (map snd (take k (lent i.domains))) l.1 ≡ b → b ≡ false
        by_case false is = refl
        by_case true is =
            let s = standing (take k (lent i.domains)) l.1 is in
            let j = s.place in
            let ls = lent i.domains in
            let before : j < k = omega (arith, length-take k ls, s.within) in
            let within : j < length ls = omega (arith, length-take k ls, s.within) in
            let same = sym (ap snd (get_or-take k ls j (0, 0) before)) ∙ s.same in
            let equal = a.once j k (get_or ls j (0, 0)) l (slice_get-get_or ls j (0, 0) within) e same in
            absurd (omega (arith, before, equal))

-- ---- entries

lender_if : (entry : ℕ) (lend : List ℤ) (o : Option ℤ) → k21_lend entry lend o ≡ None → (x : ℤ) → o ≡ Some x
    → names lend x ≡ true
lender_if entry lend None n x e = cc
lender_if entry lend (Some y) n x e =
    let same : y ≡ x = cc in
    subst (λ (z : ℤ). names lend z ≡ true) same (tested (names lend y) n)
  where
    tested : (b : Bool) → (if b then None else Some (refusal 21 (pos entry) y (pos 3))) ≡ None → b ≡ true
    tested true n = refl
    tested false n = cc

lend_none : (entry : ℕ) (lend : List ℤ) (o : Option ℤ) → ((x : ℤ) → o ≡ Some x → names lend x ≡ true)
    → k21_lend entry lend o ≡ None
lend_none entry lend None h = refl
lend_none entry lend (Some y) h = rw (h y refl) refl

pub is_lender : (domains : List LendingDomain) (earlier : List LendingEntry) (e : LendingEntry)
    → k21_entry domains earlier e ≡ None → IsOwnOrLent domains e
unfolding k21_entry
is_lender domains earlier e n = lender_if (length earlier) (lend_of domains e.domain) e.lend n

pub entry_none : (domains : List LendingDomain) (earlier : List LendingEntry) (e : LendingEntry) → IsOwnOrLent domains e
    → k21_entry domains earlier e ≡ None
unfolding k21_entry
entry_none domains earlier e h = lend_none (length earlier) (lend_of domains e.domain) e.lend h

pub no_entry : LendingEntry
no_entry = record { domain = pos 0; lend = None }

abbrev pub EntriesPass : Lending → ℕ → Type 0
EntriesPass i k = (j : ℕ) (e : LendingEntry) → j < k → slice_get i.schedule j ≡ Some e → IsOwnOrLent i.domains e

pub lenders : (i : Lending) (k : ℕ)
    → ((j : ℕ) → j < k → j < length i.schedule
    → k21_entry i.domains (take j i.schedule) (get_or i.schedule j no_entry) ≡ None)
    → EntriesPass i k
lenders i k none = λ j e before there.
    let within = slice_get_within i.schedule j e there in
    let is = get_or_from_slice_get i.schedule j e no_entry there in
    subst (IsOwnOrLent i.domains) is
    (is_lender i.domains (take j i.schedule) (get_or i.schedule j no_entry) (none j before within))

pub entries_none : (i : Lending) (k : ℕ) → EntriesPass i k → (j : ℕ) → j < k → j < length i.schedule
    → k21_entry i.domains (take j i.schedule) (get_or i.schedule j no_entry) ≡ None
entries_none i k pass j before l =
    entry_none i.domains (take j i.schedule) (get_or i.schedule j no_entry)
    (pass j (get_or i.schedule j no_entry) before (slice_get-get_or i.schedule j no_entry l))

pub entries_pass : (i : Lending) → first_in (k21_entry i.domains) i.schedule ≡ None → EntriesPass i (length i.schedule)
entries_pass i n =
    lenders i (length i.schedule) (λ j before l. first_in_none (k21_entry i.domains) i.schedule n j l no_entry)

pub no_entries : (i : Lending) → EntriesPass i (length i.schedule) → first_in (k21_entry i.domains) i.schedule ≡ None
no_entries i pass =
    none_in (k21_entry i.domains) i.schedule no_entry (λ j l. entries_none i (length i.schedule) pass j l l)

-- ---- how many there are

pub few_parties : (version : ℕ) (domains : List LendingDomain) → k21_parties version domains ≡ None
    → length domains + length (lent domains) ≤ most_parties version
unfolding k21_parties
few_parties version domains n =
    let many = nat_lt (most_parties version) (parties domains) in
    let some = refusal 21 (pos 0) (pos (parties domains)) (pos 4) in
    let few = ltb-false (most_parties version) (parties domains) (if_first many some None n) in
    omega (arith, few, length-map (said domains) in_naturals)

pub parties_none : (version : ℕ) (domains : List LendingDomain)
    → length domains + length (lent domains) ≤ most_parties version
    → k21_parties version domains ≡ None
unfolding k21_parties
parties_none version domains few =
    let count = length-map (said domains) in_naturals in
    let all : parties domains ≤ most_parties version = omega (arith, few, count) in
    let test : nat_lt (most_parties version) (parties domains) ≡ false = grind (arith, nat_tests, all) in
    rw test refl

-- ---- the law

pub are_lent : (whole : Whole) (i : Lending) → k21 whole i ≡ None → AreLent whole i
unfolding k21
are_lent whole i n =
    let colours = first_in (k21_colour whole i.domains) (said i.domains) in
    let entries = first_in (k21_entry i.domains) i.schedule in
    let count = k21_parties i.version i.domains in
    let rest = or_rest colours (or_else entries count) n in
    let pass = colours_pass whole i.domains (or_first colours (or_else entries count) n) in
    let owners = entries_pass i (or_first entries count rest) in
    record {
      each = each_lent whole i.domains pass;
      once = each_once whole i.domains pass;
      entries = λ e entry x there lend. owners e entry (slice_get_within i.schedule e entry there) there x lend;
      few = few_parties i.version i.domains (or_rest entries count rest);
    }

pub no_case : (whole : Whole) (i : Lending) → AreLent whole i → k21 whole i ≡ None
unfolding k21
no_case whole i a =
    let colours = colours_none whole i.domains (lent_pass whole i a) in
    let entries = no_entries i (λ j e before there. λ x lend. a.entries j e x there lend) in
    let count = parties_none i.version i.domains a.few in
    rw (colours, entries) count

pub accepted : AcceptedLaw
accepted whole i = (are_lent whole i, no_case whole i)

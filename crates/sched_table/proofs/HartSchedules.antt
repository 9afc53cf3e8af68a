-- A hart's entries, and their places among all.
use Rattle.std.proofs.Common.{◌≡◌, ℕ, zero, suc, ◌+◌, ◌<◌, ◌≤◌, Bool, true, false, List, [], ◌∷◌, ◌++◌, length, take, drop, get_or, ◌⊎◌, inl, inr, zero-add, refl, ap, ap₂, sym, subst, ◌∙◌, arith, eq-eqb}
use Rattle.std.specs.Prelude.{◌==◌, max, zip, cond}
use Rattle.std.specs.List.{filter, enumerate_from}
use Rattle.std.proofs.lemmas.Bool.{cases_lt, ne_eqb}
use Rattle.std.proofs.lemmas.List.{length-map, length-append, get_or_past, append-nil, take_all, drop_more, drop_all}
use Rattle.std.proofs.lemmas.List.FromFn.{length-enumerate_from, get_or-enumerate_from}
use Rattle.std.proofs.lemmas.List.Elements.{filter_more}
use Rattle.std.proofs.lemmas.List.Sums.{length-filter, count_by-le-length}
use Rattle.sched_table.specs.declared.schedule.Entry.{Entry}
use Rattle.sched_table.specs.Schedule.{no_entry, entry_in, entries_alone, place_in, entries_on, on_hart, place_on, harts_in, IsSchedule}
use Rattle.sched_table.proofs.Harts.{placed_law}

-- ---- entries beside their places

zip_push : (ps : List ℕ) (es : List Entry) (p : ℕ) (e : Entry) → length es ≡ length ps
    → zip (ps ++ p ∷ []) (es ++ e ∷ []) ≡ zip ps es ++ (p, e) ∷ []
zip_push [] [] p e long = refl
zip_push [] (x ∷ es) p e long = absurd (omega (arith, long))
zip_push (q ∷ ps) [] p e long = absurd (omega (arith, long))
zip_push (q ∷ ps) (x ∷ es) p e long = ap (λ (xs : List (ℕ × Entry)). (q, x) ∷ xs) (zip_push ps es p e (omega (arith, long)))

alone_of_zip : (ps : List ℕ) (es : List Entry) → length es ≡ length ps → entries_alone (zip ps es) ≡ es
alone_of_zip [] [] long = refl
alone_of_zip [] (e ∷ es) long = absurd (omega (arith, long))
alone_of_zip (p ∷ ps) [] long = absurd (omega (arith, long))
alone_of_zip (p ∷ ps) (e ∷ es) long = ap (λ (xs : List Entry). e ∷ xs) (alone_of_zip ps es (omega (arith, long)))

place_of_zip : (ps : List ℕ) (es : List Entry) (k : ℕ) → length es ≡ length ps
    → place_in (zip ps es) k ≡ get_or ps k 0
place_of_zip [] [] k long = refl
place_of_zip [] (e ∷ es) k long = absurd (omega (arith, long))
place_of_zip (p ∷ ps) [] k long = absurd (omega (arith, long))
place_of_zip (p ∷ ps) (e ∷ es) zero long = refl
place_of_zip (p ∷ ps) (e ∷ es) (suc k) long = place_of_zip ps es k (omega (arith, long))

-- of what stands for them
pub alone_is : (ps : List ℕ) (es : List Entry) (placed : List (ℕ × Entry)) → length es ≡ length ps
    → zip ps es ≡ placed → es ≡ entries_alone placed
alone_is ps es placed long is = sym (alone_of_zip ps es long) ∙ ap entries_alone is

pub place_is : (ps : List ℕ) (es : List Entry) (placed : List (ℕ × Entry)) (k : ℕ) → length es ≡ length ps
    → zip ps es ≡ placed → get_or ps k 0 ≡ place_in placed k
place_is ps es placed k long is = sym (place_of_zip ps es k long) ∙ ap (λ (xs : List (ℕ × Entry)). place_in xs k) is

pub long_is : (ps : List ℕ) (es : List Entry) (placed : List (ℕ × Entry)) → length es ≡ length ps
    → zip ps es ≡ placed → length es ≡ length placed
long_is ps es placed long is =
    ap (λ (xs : List Entry). length xs) (alone_is ps es placed long is) ∙ length-map placed (λ (p : ℕ × Entry). p.1)

-- ---- one entry after the other

-- those of the first k entries that are on the hart, each after its place
unfoldable pub on_so_far : List Entry → ℕ → ℕ → List (ℕ × Entry)
on_so_far es h k = filter (λ placed. placed.1.hart == h) (take k (enumerate_from 0 es))

next_on : (es : List Entry) (h k : ℕ) (b : Bool) → k < length es → ((entry_in es k).hart == h) ≡ b
    → on_so_far es h (k + 1) ≡ on_so_far es h k ++ cond b ((k, entry_in es k) ∷ []) []
unfolding on_so_far
next_on es h k b l is =
    let P : ℕ × Entry → Bool = λ placed. placed.1.hart == h in
    let long : k < length (enumerate_from 0 es) = let n = length-enumerate_from 0 es in omega (arith, n, l) in
    let at : get_or (enumerate_from 0 es) k (0, no_entry) ≡ (k, entry_in es k) =
    get_or-enumerate_from 0 es k (0, no_entry) l ∙ ap {B = ℕ × Entry} (λ (n : ℕ). (n, entry_in es k)) (zero-add k) in
    filter_more P (enumerate_from 0 es) k (0, no_entry) long
    ∙ ap (λ (x : ℕ × Entry). on_so_far es h k ++ cond (P x) (x ∷ []) []) at
    ∙ ap (λ (c : Bool). on_so_far es h k ++ cond c ((k, entry_in es k) ∷ []) []) is

-- entries and places of the first k
pub record AreSoFar (es : List Entry) (h k : ℕ) (ps : List ℕ) (own : List Entry) : Type 0 where
  pub even : length own ≡ length ps
  pub placed : zip ps own ≡ on_so_far es h k

pub none_so_far : (es : List Entry) (h : ℕ) (ps : List ℕ) (own : List Entry) → ps ≡ [] → own ≡ []
    → AreSoFar es h 0 ps own
unfolding on_so_far
none_so_far es h ps own no_ps no_own = record {
  even = ap length no_own ∙ sym (ap length no_ps);
  placed = ap₂ {C = List (ℕ × Entry)} (λ (qs : List ℕ) (xs : List Entry). zip qs xs) no_ps no_own;
}

pub one_more : (es : List Entry) (h k : ℕ) (ps qs : List ℕ) (own more : List Entry) → AreSoFar es h k ps own
    → k < length es → (entry_in es k).hart ≡ h
    → qs ≡ ps ++ k ∷ [] → more ≡ own ++ entry_in es k ∷ [] → AreSoFar es h (k + 1) qs more
one_more es h k ps qs own more so_far l on to_qs to_more = record {
  even = omega (arith, so_far.even, ap length to_qs, ap length to_more, length-append ps (k ∷ []), length-append own (entry_in es k ∷ []));
  placed = ap₂ {C = List (ℕ × Entry)} (λ (rs : List ℕ) (xs : List Entry). zip rs xs) to_qs to_more
      ∙ zip_push ps own k (entry_in es k) so_far.even
      ∙ ap (λ (xs : List (ℕ × Entry)). xs ++ (k, entry_in es k) ∷ []) so_far.placed
      ∙ sym (next_on es h k true l (eq-eqb (entry_in es k).hart h on));
}

pub none_more : (es : List Entry) (h k : ℕ) (ps qs : List ℕ) (own more : List Entry) → AreSoFar es h k ps own
    → k < length es → ((entry_in es k).hart ≡ h → ⊥)
    → qs ≡ ps → more ≡ own → AreSoFar es h (k + 1) qs more
none_more es h k ps qs own more so_far l off to_qs to_more = record {
  even = omega (arith, so_far.even, ap length to_qs, ap length to_more);
  placed = ap₂ {C = List (ℕ × Entry)} (λ (rs : List ℕ) (xs : List Entry). zip rs xs) to_qs to_more
      ∙ so_far.placed
      ∙ sym (append-nil (on_so_far es h k))
      ∙ sym (next_on es h k false l (ne_eqb (entry_in es k).hart h off));
}

-- at the end these are the hart's
pub all_so_far : (es : List Entry) (h k : ℕ) (ps : List ℕ) (own : List Entry) → AreSoFar es h k ps own
    → k ≡ length es → zip ps own ≡ entries_on es h
unfolding on_so_far entries_on
all_so_far es h k ps own so_far all =
    let every : take k (enumerate_from 0 es) ≡ enumerate_from 0 es =
    take_all k (enumerate_from 0 es) (omega (arith, all, length-enumerate_from 0 es)) in
    so_far.placed ∙ ap (filter (λ (placed : ℕ × Entry). placed.1.hart == h)) every

pub own_is : (es : List Entry) (h k : ℕ) (ps : List ℕ) (own : List Entry) → AreSoFar es h k ps own
    → k ≡ length es → own ≡ on_hart es h
own_is es h k ps own so_far all = alone_is ps own (entries_on es h) so_far.even (all_so_far es h k ps own so_far all)

-- ---- they are a schedule

pub hart_schedule_sound : (es : List Entry) (h : ℕ) → IsSchedule es → 0 < length (on_hart es h)
    → IsSchedule (on_hart es h)
unfolding entries_on
hart_schedule_sound es h s some = record { some = some; few = few; lengths = lengths; pads = pads }
  where
    P : ℕ × Entry → Bool
    P placed = placed.1.hart == h

    few : length (on_hart es h) ≤ 256
    few =
        let kept = length-filter P (enumerate_from 0 es) in
        let at_most = count_by-le-length P (enumerate_from 0 es) in
        let all = length-enumerate_from 0 es in
        let alone = length-map (entries_on es h) (λ (p : ℕ × Entry). p.1) in
        omega (arith, kept, at_most, all, alone, s.few)

    of_one : (Q : Entry → Type 0) → Q no_entry → ((k : ℕ) → Q (entry_in es k)) → (e : ℕ)
        → Q (entry_in (on_hart es h) e)
    of_one Q none each e = either (cases_lt e (length (on_hart es h)))
      where
        either : (e < length (on_hart es h)) ⊎ (length (on_hart es h) ≤ e) → Q (entry_in (on_hart es h) e)
        either (inl l) = subst Q (sym (placed_law es h e l).same) (each (place_on es h e))
        either (inr m) = subst Q (sym (get_or_past (on_hart es h) e no_entry m)) none

    lengths : (e : ℕ) → (entry_in (on_hart es h) e).length ≤ 1000000
    lengths e = of_one (λ (x : Entry). x.length ≤ 1000000) (omega arith) s.lengths e

    pads : (e : ℕ) → (entry_in (on_hart es h) e).pad ≤ 1000000
    pads e = of_one (λ (x : Entry). x.pad ≤ 1000000) (omega arith) s.pads e

-- ---- how many harts there are

pub few_harts : (es : List Entry) → ((e : ℕ) → e < length es → (entry_in es e).hart < 4) → harts_in es ≤ 4
unfolding harts_in
few_harts [] few = omega arith
few_harts (x ∷ xs) few =
    let here = few 0 (omega arith) in
    let later = few_harts xs (λ e l. few (suc e) (omega (arith, l))) in
    omega (arith, here, later)

-- the greatest of those before, and of those that are left
pub harts_more : (es : List Entry) (harts hart k : ℕ) → k < length es → hart ≡ (entry_in es k).hart
    → max harts (harts_in (drop k es)) ≡ harts_in es → max (max harts (hart + 1)) (harts_in (drop (k + 1) es)) ≡ harts_in es
unfolding harts_in
harts_more es harts hart k l read is =
    let left = ap harts_in (drop_more es k no_entry l) in
    omega (arith, is, left, read)

pub harts_all : (es : List Entry) (harts k : ℕ) → length es ≤ k
    → max harts (harts_in (drop k es)) ≡ harts_in es → harts ≡ harts_in es
unfolding harts_in
harts_all es harts k m is =
    let left = ap harts_in (drop_all k es m) in
    omega (arith, is, left)

-- The slots after a revocation, and while it goes on.
use Rattle.std.proofs.Common.{◌≡◌, ◌≢◌, ℕ, zero, suc, ◌+◌, ◌<◌, ◌≤◌, Bool, true, false, not, ◌&&◌, List, [], ◌∷◌, ◌++◌, length, map, Option, Some, None, inl, inr, refl, ap, sym, subst, ◌∙◌, arith, slice_set}
use Rattle.std.specs.Prelude.{nat_eq, if◌then◌else◌, take, filter}
use Rattle.std.specs.List.{range_with_len, filter_map}
use Rattle.std.proofs.lemmas.Bool.{cases_eq, cases_lt, eq-eqb, eqb-true, ne_eqb}
use Rattle.std.proofs.lemmas.List.{length-set, ext_get_or, get_or_past, length-append, append-nil}
use Rattle.std.proofs.lemmas.List.FromFn.{get_or-map-range_with_len, length-map-range_with_len, length-range_with_len}
use Rattle.cap_table.specs.declared.Cap.{Cap}
use Rattle.cap_table.specs.declared.Cap.TheVariants as cap
use Rattle.cap_table.specs.Slots.{Slots, cap_at, is_filled, page_of, same_number, alike, mapped_at, installed_at, in_use, in_use_at, is_revoked, slot_after, revoked, count_in, entries_in, push_some, revoked_count, revoked_entries}
use Rattle.cap_table.specs.Owning.{Back}
use Rattle.cap_table.specs.Words.{filled_count, one_if_filled}
use Rattle.cap_table.proofs.OwnerLemmas.{set_by}

-- ---- which slots are alike

alike_none : (c : Option Cap) → alike c None ≡ false
alike_none None = refl
alike_none (Some (cap.Frame f r m)) = refl
alike_none (Some (cap.Table f m)) = refl
alike_none (Some (cap.Irq l)) = refl

alike_table : (c : Option Cap) (t : ℕ) (m : Option ℕ) → alike c (Some (cap.Table t m)) ≡ false
alike_table None t m = refl
alike_table (Some (cap.Frame f r n)) t m = refl
alike_table (Some (cap.Table f n)) t m = refl
alike_table (Some (cap.Irq l)) t m = refl

pub alike_filled : (c d : Option Cap) → alike c d ≡ true → is_filled d ≡ true
alike_filled c None x = let p : false ≡ true = sym (alike_none c) ∙ x in absurd (cc p)
alike_filled c (Some d) x = refl

alike_installed : (c d : Option Cap) → alike c d ≡ true → installed_at d ≡ None
alike_installed c None x = refl
alike_installed c (Some (cap.Frame f r m)) x = refl
alike_installed c (Some (cap.Irq l)) x = refl
alike_installed c (Some (cap.Table f m)) x = let p : false ≡ true = sym (alike_table c f m) ∙ x in absurd (cc p)

pub alike_unused : (slots : Slots) (c : Option Cap) (i : ℕ) → alike c (cap_at slots i) ≡ true
    → in_use slots i ≡ false
unfolding in_use
alike_unused slots c i x = ap (in_use_at slots) (alike_installed c (cap_at slots i) x)

abbrev pub one_if : Bool → ℕ
one_if b = if b then 1 else 0

alike_page : (c d : Option Cap) (f : ℕ) → alike c d ≡ true → page_of d ≡ Some f → page_of c ≡ Some f
alike_page None d f x y = absurd (cc x)
alike_page (Some (cap.Table g m)) d f x y = absurd (cc x)
alike_page (Some (cap.Irq l)) (Some (cap.Frame g r m)) f x y = absurd (cc x)
alike_page (Some (cap.Irq l)) None f x y = absurd (cc x)
alike_page (Some (cap.Irq l)) (Some (cap.Table g m)) f x y = absurd (cc x)
alike_page (Some (cap.Irq l)) (Some (cap.Irq k)) f x y = absurd (cc y)
alike_page (Some (cap.Frame g r m)) d f x y = ap Some (eqb-true g f (ap (same_number (Some g)) (sym y) ∙ x))

-- where a slot that is alike is emptied, no page comes back
pub none_back : (slots : Slots) (slot i : ℕ) (back : Option ℕ) → i ≢ slot
    → alike (cap_at slots slot) (cap_at slots i) ≡ true → Back slots i back → back ≡ None
none_back slots slot i None n x back = refl
none_back slots slot i (Some f) n x back =
    absurd (back.1.none slot (λ e. n (sym e)) (alike_page (cap_at slots slot) (cap_at slots i) f x back.0))

and_false : (a : Bool) → (a && false) ≡ false
and_false true = refl
and_false false = refl

module _ (slots : Slots) (slot : ℕ) where
  -- the slot itself isn't revoked
  pub itself : is_revoked slots slot slot ≡ false
  itself = ap (λ b. not b && alike (cap_at slots slot) (cap_at slots slot)) (eq-eqb slot slot refl)

  pub itself_at : (i : ℕ) → i ≡ slot → is_revoked slots slot i ≡ false
  itself_at i e = subst (λ (j : ℕ). is_revoked slots slot j ≡ false) (sym e) itself

  -- another is where it is alike
  pub another : (i : ℕ) → i ≢ slot → is_revoked slots slot i ≡ alike (cap_at slots slot) (cap_at slots i)
  another i n = ap (λ b. not b && alike (cap_at slots slot) (cap_at slots i)) (ne_eqb i slot n)

  pub unlike : (i : ℕ) → alike (cap_at slots slot) (cap_at slots i) ≡ false → is_revoked slots slot i ≡ false
  unlike i x = ap (λ b. not (nat_eq i slot) && b) x ∙ and_false (not (nat_eq i slot))

  pub emptied : (i : ℕ) → is_revoked slots slot i ≡ true → slot_after slots slot i ≡ None
  emptied i x = ap (λ b. if b then None else cap_at slots i) x

  pub stays : (i : ℕ) → is_revoked slots slot i ≡ false → slot_after slots slot i ≡ cap_at slots i
  stays i x = ap (λ b. if b then None else cap_at slots i) x

  pub length_revoked : length (revoked slots slot) ≡ length slots
  unfolding revoked
  length_revoked = length-map-range_with_len (slot_after slots slot) 0 (length slots)

  pub at_revoked : (i : ℕ) → cap_at (revoked slots slot) i ≡ slot_after slots slot i
  unfolding revoked
  at_revoked i = elim (cases_lt i (length slots)) [
    | inl lt ↦ get_or-map-range_with_len (slot_after slots slot) 0 (length slots) i i None lt (omega arith)
    | inr ge ↦
        let past : cap_at slots i ≡ None = get_or_past slots i None ge in
        get_or_past (revoked slots slot) i None (omega (arith, ge, length_revoked))
        ∙ sym (stays i (unlike i (ap (alike (cap_at slots slot)) past ∙ alike_none (cap_at slots slot))) ∙ past)
  ]

  pub after_itself : cap_at (revoked slots slot) slot ≡ cap_at slots slot
  after_itself = at_revoked slot ∙ stays slot itself

  pub after_unlike : (i : ℕ) → alike (cap_at slots slot) (cap_at slots i) ≡ false
      → cap_at (revoked slots slot) i ≡ cap_at slots i
  after_unlike i x = at_revoked i ∙ stays i (unlike i x)

  pub none_left : (i : ℕ) → i ≢ slot
      → alike (cap_at (revoked slots slot) slot) (cap_at (revoked slots slot) i) ≡ false
  none_left i n = ap (λ c. alike c (cap_at (revoked slots slot) i)) after_itself ∙ ap (alike (cap_at slots slot)) (at_revoked i)
      ∙ by_test (is_revoked slots slot i) refl
    where
      by_test : (b : Bool) → is_revoked slots slot i ≡ b
          → alike (cap_at slots slot) (slot_after slots slot i) ≡ false
      by_test true x = ap (alike (cap_at slots slot)) (emptied i x) ∙ alike_none (cap_at slots slot)
      by_test false x = ap (alike (cap_at slots slot)) (stays i x) ∙ (sym (another i n) ∙ x)

  pub revoked_filled : (i : ℕ) → is_revoked slots slot i ≡ true → is_filled (cap_at slots i) ≡ true
  revoked_filled i x = elim (cases_eq i slot) [
    | inl e ↦ let p : false ≡ true = sym (itself_at i e) ∙ x in absurd (cc p)
    | inr n ↦ alike_filled (cap_at slots slot) (cap_at slots i) (sym (another i n) ∙ x)
  ]

-- ---- the slots that are done

-- slots below a number are as they will be, and the others as they were
pub record RevokedTo (slots : Slots) (slot n : ℕ) (now : Slots) : Type 0 where
  pub places : length now ≡ 64
  pub done : (k : ℕ) → k < n → cap_at now k ≡ slot_after slots slot k
  pub left : (k : ℕ) → n ≤ k → cap_at now k ≡ cap_at slots k

pub none_done : (slots : Slots) (slot : ℕ) → length slots ≡ 64 → RevokedTo slots slot 0 slots
none_done slots slot places = record { places = places; done = λ k lt. absurd (omega (arith, lt)); left = λ k _. refl }

module _ (slots : Slots) (slot n : ℕ) (now : Slots) (h : RevokedTo slots slot n now) where
  pub one_emptied : n < 64 → is_revoked slots slot n ≡ true
      → RevokedTo slots slot (n + 1) (slice_set now n None)
  one_emptied lt x =
      let below : n < length now = omega (arith, h.places, lt) in
      record {
        places = length-set now n None ∙ h.places;
        done = λ k. set_by now n None None (λ k c. k < n + 1 → c ≡ slot_after slots slot k) below
            (λ _. sym (emptied slots slot n x)) (λ k ne lt. h.done k (omega (arith, ne, lt))) k;
        left = λ k. set_by now n None None (λ k c. n + 1 ≤ k → c ≡ cap_at slots k) below
            (λ le. absurd (omega (arith, le))) (λ k ne le. h.left k (omega (arith, le))) k;
      }

  pub one_stays : is_revoked slots slot n ≡ false → RevokedTo slots slot (n + 1) now
  one_stays x = record {
    places = h.places;
    done = λ k lt. elim (cases_eq k n) [
      | inl e ↦ subst (λ (j : ℕ). cap_at now j ≡ slot_after slots slot j) (sym e) (h.left n (omega arith) ∙ sym (stays slots slot n x))
      | inr ne ↦ h.done k (omega (arith, ne, lt))
    ];
    left = λ k le. h.left k (omega (arith, le));
  }

-- the slot that the others are compared with
pub still_there : (slots : Slots) (slot n : ℕ) (now : Slots) → RevokedTo slots slot n now
    → cap_at now slot ≡ cap_at slots slot
still_there slots slot n now h = elim (cases_lt slot n) [
  | inl lt ↦ h.done slot lt ∙ stays slots slot slot (itself slots slot)
  | inr ge ↦ h.left slot ge
]

pub all_done : (slots : Slots) (slot : ℕ) (now : Slots) → length slots ≡ 64 → RevokedTo slots slot 64 now
    → now ≡ revoked slots slot
all_done slots slot now places h = ext_get_or None now (revoked slots slot) (h.places ∙ sym (length_revoked slots slot ∙ places))
    (λ i lt. h.done i (omega (arith, lt, h.places)) ∙ sym (at_revoked slots slot i))

-- ---- how many, and where they were mapped

more_numbers : (from n : ℕ)
    → range_with_len from (suc n) ≡ range_with_len from n ++ range_with_len (from + n) 1
more_numbers from zero = let e : from + 0 ≡ from = omega arith in rw e refl
more_numbers from (suc n) = let e : from + 1 + n ≡ from + suc n = omega arith in ap (λ l. from ∷ l) (more_numbers (from + 1) n ∙ rw e refl)

one_more : (n : ℕ) → range_with_len 0 (n + 1) ≡ range_with_len 0 n ++ n ∷ []
one_more n =
    let e : n + 1 ≡ suc n = omega arith in
    let z : 0 + n ≡ n = omega arith in
    ap (range_with_len 0) e ∙ (more_numbers 0 n ∙ ap (λ k. range_with_len 0 n ++ k ∷ []) z)

module _ (slots : Slots) (slot : ℕ) where
  count_append : (is js : List ℕ)
      → count_in slots slot (is ++ js) ≡ count_in slots slot is + count_in slots slot js
  unfolding count_in
  count_append [] js = omega arith
  count_append (i ∷ is) js = let h = count_append is js in omega (arith, h)

  pushed : (o : Option ℕ) (xs ys : List ℕ) → push_some o (xs ++ ys) ≡ push_some o xs ++ ys
  pushed None xs ys = refl
  pushed (Some n) xs ys = refl

  entries_append : (is js : List ℕ)
      → entries_in slots slot (is ++ js) ≡ entries_in slots slot is ++ entries_in slots slot js
  unfolding entries_in
  entries_append [] js = refl
  entries_append (i ∷ is) js =
      let o : Option ℕ = if is_revoked slots slot i then mapped_at (cap_at slots i) else None in
      ap (push_some o) (entries_append is js) ∙ pushed o (entries_in slots slot is) (entries_in slots slot js)

  pub count_more : (n : ℕ)
      → count_in slots slot (range_with_len 0 (n + 1))
      ≡ count_in slots slot (range_with_len 0 n) + one_if (is_revoked slots slot n)
  unfolding count_in
  count_more n =
      let last : count_in slots slot (n ∷ []) ≡ one_if (is_revoked slots slot n) = omega arith in
      ap (count_in slots slot) (one_more n) ∙ (count_append (range_with_len 0 n) (n ∷ [])
      ∙ ap (λ k. count_in slots slot (range_with_len 0 n) + k) last)

  pub entries_more : (n : ℕ) → entries_in slots slot (range_with_len 0 (n + 1))
      ≡ entries_in slots slot (range_with_len 0 n) ++ push_some (if is_revoked slots slot n then mapped_at (cap_at slots n) else None) []
  unfolding entries_in
  entries_more n = ap (entries_in slots slot) (one_more n) ∙ entries_append (range_with_len 0 n) (n ∷ [])

  count_few : (is : List ℕ) → count_in slots slot is ≤ length is
  unfolding count_in
  count_few [] = omega arith
  count_few (i ∷ is) = by_test (is_revoked slots slot i) (count_few is)
    where
      by_test : (b : Bool) → count_in slots slot is ≤ length is
          → one_if b + count_in slots slot is ≤ suc (length is)
      by_test true h = omega (arith, h)
      by_test false h = omega (arith, h)

  pub entries_few : (is : List ℕ) → length (entries_in slots slot is) ≤ count_in slots slot is
  unfolding count_in entries_in
  entries_few [] = omega arith
  entries_few (i ∷ is) = by_test (is_revoked slots slot i) (mapped_at (cap_at slots i)) (entries_few is)
    where
      by_test : (b : Bool) (o : Option ℕ) → length (entries_in slots slot is) ≤ count_in slots slot is
          → length (push_some (if b then o else None) (entries_in slots slot is)) ≤ one_if b + count_in slots slot is
      by_test true (Some n) h = omega (arith, h)
      by_test true None h = omega (arith, h)
      by_test false o h = omega (arith, h)

  -- the slot itself isn't counted
  few_at : (a n : ℕ) → a ≤ slot → slot < a + n → count_in slots slot (range_with_len a n) < n
  unfolding count_in
  few_at a zero le lt = absurd (omega (arith, le, lt))
  few_at a (suc n) le lt = elim (cases_eq a slot) [
    | inl e ↦
        let none : one_if (is_revoked slots slot a) ≡ 0 = ap one_if (itself_at slots slot a e) in
        let rest : count_in slots slot (range_with_len (a + 1) n) ≤ length (range_with_len (a + 1) n) =
        count_few (range_with_len (a + 1) n) in
        omega (arith, none, rest, length-range_with_len (a + 1) n)
    | inr ne ↦
        let rest : count_in slots slot (range_with_len (a + 1) n) < n = few_at (a + 1) n (omega (arith, le, ne)) (omega (arith, lt)) in
        at_most (is_revoked slots slot a) rest
  ]
    where
      at_most : (b : Bool) → count_in slots slot (range_with_len (a + 1) n) < n
          → one_if b + count_in slots slot (range_with_len (a + 1) n) < suc n
      at_most true h = omega (arith, h)
      at_most false h = omega (arith, h)

  pub count_below : slot < 64 → count_in slots slot (range_with_len 0 64) ≤ 63
  count_below lt =
      let h : count_in slots slot (range_with_len 0 64) < 64 =
      few_at 0 64 (omega arith) (omega (arith, lt)) in
      omega (arith, h)

  -- what is emptied and what is left are all that was filled
  counted_in : (is : List ℕ)
      → filled_count (map (slot_after slots slot) is) + count_in slots slot is
      ≡ filled_count (map (cap_at slots) is)
  unfolding count_in filled_count
  counted_in [] = refl
  counted_in (i ∷ is) = by_test (is_revoked slots slot i) refl (counted_in is)
    where
      one : (c : Option Cap) → is_filled c ≡ true → one_if_filled c ≡ 1
      one None x = absurd (cc x)
      one (Some c) x = refl

      by_test : (b : Bool) → is_revoked slots slot i ≡ b
          → filled_count (map (slot_after slots slot) is) + count_in slots slot is ≡ filled_count (map (cap_at slots) is)
          → (one_if_filled (slot_after slots slot i) + filled_count (map (slot_after slots slot) is))
          + (one_if (is_revoked slots slot i) + count_in slots slot is)
          ≡ one_if_filled (cap_at slots i) + filled_count (map (cap_at slots) is)
      by_test true x h =
          let none : one_if_filled (slot_after slots slot i) ≡ 0 = ap one_if_filled (emptied slots slot i x) in
          let number : one_if (is_revoked slots slot i) ≡ 1 = ap one_if x in
          let filled : one_if_filled (cap_at slots i) ≡ 1 = one (cap_at slots i) (revoked_filled slots slot i x) in
          omega (arith, none, number, filled, h)
      by_test false x h =
          let same : one_if_filled (slot_after slots slot i) ≡ one_if_filled (cap_at slots i) = ap one_if_filled (stays slots slot i x) in
          let number : one_if (is_revoked slots slot i) ≡ 0 = ap one_if x in
          omega (arith, same, number, h)

all_slots : (slots : Slots) → map (cap_at slots) (range_with_len 0 (length slots)) ≡ slots
all_slots slots =
    ext_get_or None (map (cap_at slots) (range_with_len 0 (length slots))) slots
    (length-map-range_with_len (cap_at slots) 0 (length slots))
    (λ i lt. get_or-map-range_with_len (cap_at slots) 0 (length slots) i i None
    (omega (arith, lt, length-map-range_with_len (cap_at slots) 0 (length slots))) (omega arith))

pub counted : (slots : Slots) (slot : ℕ)
    → filled_count (revoked slots slot) + revoked_count slots slot ≡ filled_count slots
unfolding revoked
counted slots slot = counted_in slots slot (range_with_len 0 (length slots)) ∙ ap filled_count (all_slots slots)

-- the slots below a number are counted, and the addresses noted in them are written
pub record CountedTo (slots : Slots) (slot n count written : ℕ) (entries : List ℕ) : Type 0 where
  pub counted_to : count ≡ count_in slots slot (range_with_len 0 n)
  pub written_to : written ≡ length (entries_in slots slot (range_with_len 0 n))
  pub entries_to : take written entries ≡ entries_in slots slot (range_with_len 0 n)

pub none_counted : (slots : Slots) (slot count written : ℕ) (entries : List ℕ) → count ≡ 0 → written ≡ 0
    → CountedTo slots slot 0 count written entries
unfolding count_in entries_in
none_counted slots slot count written entries c w = record { counted_to = c; written_to = w; entries_to = ap (λ n. take n entries) w }

module _ (slots : Slots) (slot n count written : ℕ) (entries : List ℕ) (h : CountedTo slots slot n count written entries) where
  pub few_counted : count ≤ n
  few_counted =
      let c : count_in slots slot (range_with_len 0 n) ≤ length (range_with_len 0 n) =
      count_few slots slot (range_with_len 0 n) in
      omega (arith, c, h.counted_to, length-range_with_len 0 n)

  pub few_written : written ≤ count
  few_written = omega (arith, h.counted_to, h.written_to, entries_few slots slot (range_with_len 0 n))

  pub one_counted : is_revoked slots slot n ≡ true → (count' written' : ℕ) (entries' : List ℕ)
      → count' ≡ count + 1
      → written' ≡ written + length (push_some (mapped_at (cap_at slots n)) [])
      → take written' entries' ≡ take written entries ++ push_some (mapped_at (cap_at slots n)) []
      → CountedTo slots slot (n + 1) count' written' entries'
  one_counted x count' written' entries' more longer written_as =
      let one : one_if (is_revoked slots slot n) ≡ 1 = ap one_if x in
      let entry : entries_in slots slot (range_with_len 0 (n + 1))
      ≡ entries_in slots slot (range_with_len 0 n) ++ push_some (mapped_at (cap_at slots n)) [] =
      entries_more slots slot n
      ∙ ap (λ b. entries_in slots slot (range_with_len 0 n)
      ++ push_some (if b then mapped_at (cap_at slots n) else None) []) x in
      let long : length (entries_in slots slot (range_with_len 0 (n + 1)))
      ≡ length (entries_in slots slot (range_with_len 0 n))
      + length (push_some (mapped_at (cap_at slots n)) []) =
      ap length entry ∙ length-append (entries_in slots slot (range_with_len 0 n)) (push_some (mapped_at (cap_at slots n)) []) in
      record {
        counted_to = omega (arith, more, one, h.counted_to, count_more slots slot n);
        written_to = omega (arith, longer, long, h.written_to);
        entries_to = written_as ∙ (ap (λ xs. xs ++ push_some (mapped_at (cap_at slots n)) []) h.entries_to ∙ sym entry);
      }

  pub none_more : is_revoked slots slot n ≡ false → CountedTo slots slot (n + 1) count written entries
  none_more x =
      let one : one_if (is_revoked slots slot n) ≡ 0 = ap one_if x in
      let entry : entries_in slots slot (range_with_len 0 (n + 1)) ≡ entries_in slots slot (range_with_len 0 n) =
      entries_more slots slot n
      ∙ (ap (λ b. entries_in slots slot (range_with_len 0 n)
      ++ push_some (if b then mapped_at (cap_at slots n) else None) []) x
      ∙ append-nil (entries_in slots slot (range_with_len 0 n))) in
      record {
        counted_to = omega (arith, one, h.counted_to, count_more slots slot n);
        written_to = h.written_to ∙ ap length (sym entry);
        entries_to = h.entries_to ∙ sym entry;
      }

-- ---- the same as lists

module _ (slots : Slots) (slot : ℕ) where
  count_is : (is : List ℕ) → count_in slots slot is ≡ length (filter (is_revoked slots slot) is)
  unfolding count_in
  count_is [] = refl
  count_is (i ∷ is) = by_test (is_revoked slots slot i) refl (count_is is)
    where
      by_test : (b : Bool) → is_revoked slots slot i ≡ b
          → count_in slots slot is ≡ length (filter (is_revoked slots slot) is)
          → one_if (is_revoked slots slot i) + count_in slots slot is ≡ length (filter (is_revoked slots slot) (i ∷ is))
      by_test true x h = rw x (omega (arith, h))
      by_test false x h = rw x (omega (arith, h))

  entries_are : (is : List ℕ)
      → entries_in slots slot is
      ≡ filter_map (λ i. mapped_at (cap_at slots i)) (filter (is_revoked slots slot) is)
  unfolding entries_in
  entries_are [] = refl
  entries_are (i ∷ is) = by_test (is_revoked slots slot i) refl (mapped_at (cap_at slots i)) refl (entries_are is)
    where
      by_test : (b : Bool) → is_revoked slots slot i ≡ b → (o : Option ℕ) → mapped_at (cap_at slots i) ≡ o
          → entries_in slots slot is ≡ filter_map (λ i. mapped_at (cap_at slots i)) (filter (is_revoked slots slot) is)
          → push_some (if is_revoked slots slot i then mapped_at (cap_at slots i) else None) (entries_in slots slot is)
          ≡ filter_map (λ i. mapped_at (cap_at slots i)) (filter (is_revoked slots slot) (i ∷ is))
      by_test false x o y h = rw x h
      by_test true x None y h = rw (x, y) h
      by_test true x (Some va) y h = rw (x, y) (ap (λ xs. va ∷ xs) h)

  pub all_counted : revoked_count slots slot
      ≡ length (filter (is_revoked slots slot) (range_with_len 0 (length slots)))
  all_counted = count_is (range_with_len 0 (length slots))

  pub all_written : revoked_entries slots slot
      ≡ filter_map (λ i. mapped_at (cap_at slots i))
      (filter (is_revoked slots slot) (range_with_len 0 (length slots)))
  all_written = entries_are (range_with_len 0 (length slots))

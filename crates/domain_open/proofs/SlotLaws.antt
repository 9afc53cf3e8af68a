-- What the slots of a domain name while its pages are given out.
use Rattle.std.proofs.Common.{◌≡◌, ◌≢◌, ℕ, suc, ◌+◌, ◌*◌, ◌^◌, ◌<◌, ◌≤◌, Bool, true, false, true≢false, cond, List, [], ◌∷◌, ◌++◌, length, get_or, map, Option, Some, None, inl, inr, refl, ap, sym, subst, ◌∙◌, arith, zero-add, eq-eqb, not}
use Rattle.std.specs.Prelude.{nat_lt, nat_le}
use Rattle.std.specs.List.{list_any, range_with_len}
use Rattle.std.specs.List.Sorted.{IsStrictlyIncreasing}
use Rattle.std.proofs.Math.ListN.{set}
use Rattle.std.proofs.lemmas.Bool.{cases_Bool, cases_eq, cases_lt, lt-ltb, le-ltb, ltb-true, ne_eqb, and_parts}
use Rattle.std.proofs.lemmas.Option.{none-some, same_Some}
use Rattle.std.proofs.lemmas.List.{length-set, get_or-set_same, get_or-set_other, get_or_past, set-set}
use Rattle.std.proofs.lemmas.List.Elements.{All-from_get_or, filter-append}
use Rattle.std.proofs.lemmas.List.Folds.{list_any_at, list_any_none}
use Rattle.std.proofs.lemmas.List.FromFn.{get_or-map-range_with_len, length-map-range_with_len, fill_by_all}
use Rattle.std.proofs.lemmas.List.Kept.{AllPairs-from_increasing}
use Rattle.cap_table.specs.declared.Cap.{Cap}
use Rattle.cap_table.specs.declared.Cap.TheVariants as cap
use Rattle.cap_table.specs.Slots.{Slots, empty_slots, page_of, table_of, same_number, noted}
use Rattle.cap_table.specs.Owning.{IsUnnamed}
use Rattle.domain_check.specs.declared.capabilities.InitialCap.{InitialCap}
use Rattle.domain_check.specs.declared.capabilities.InitialCap.TheVariants as initial
use Rattle.image_check.specs.Laws.{IsSegment, IsOwn}
use Rattle.image_check.specs.Own.{Segment, Own, cap_at, no_segment}
use Rattle.image_check.specs.Pages.{has_page, has_page_in, pages_below}
use Rattle.world_view.specs.Opening.{rights_in}
use Rattle.world_view.specs.Kernel.{rights_or_none}
use Rattle.world_view.proofs.opening.Counts.{is_page, page_once}
use Rattle.domain_open.specs.Giving.{page_at, line_cap, page_cap, cap_after, line_slots, slots_after, unnamed}

-- ---- slots by their numbers

abbrev by_slot : (ℕ → Option Cap) → Slots
by_slot f = map f (range_with_len 0 64)

pub slots_long : (f : ℕ → Option Cap) → length (by_slot f) ≡ 64
slots_long f = length-map-range_with_len f 0 64

pub slot_at : (f : ℕ → Option Cap) (i : ℕ) → i < 64 → get_or (by_slot f) i None ≡ f i
slot_at f i below = get_or-map-range_with_len f 0 64 i i None below (zero-add i)

-- one is set
one_set : (f g : ℕ → Option Cap) (a : ℕ) (x : Option Cap) → a < 64 → g a ≡ x → ((i : ℕ) → i ≢ a → f i ≡ g i)
    → set (by_slot f) a x ≡ by_slot g
one_set f g a x below here other =
    fill_by_all g (set (by_slot f) a x) 64 None (length-set (by_slot f) a x ∙ slots_long f)
    (λ k h. elim (cases_eq k a) [
      | inl same ↦
          subst (λ (j : ℕ). get_or (set (by_slot f) a x) j None ≡ g j) (sym same)
          (get_or-set_same (by_slot f) a x None (omega (arith, below, slots_long f)) ∙ sym here)
      | inr apart ↦ get_or-set_other (by_slot f) a k x None apart ∙ slot_at f k h ∙ other k apart
    ])

-- none is
pub none_set : (f g : ℕ → Option Cap) → ((i : ℕ) → i < 64 → f i ≡ g i) → by_slot f ≡ by_slot g
none_set f g same = fill_by_all g (by_slot f) 64 None (slots_long f) (λ k h. slot_at f k h ∙ same k h)

-- a page is put in a slot and noted there
pub put_noted : (o : Own) (s t u : Slots) (a f r n at : ℕ) → length s ≡ 64 → a < 64
    → r ≡ rights_or_none (rights_in o.segments n) → at ≡ n * 4096
    → t ≡ set s a (Some (cap.Frame f r None)) → u ≡ set t a (noted (get_or t a None) (Some at)) → u ≡ set s a (Some (page_cap o f n))
put_noted o s t u a f r n at long below rights address put note =
    let there : get_or t a None ≡ Some (cap.Frame f r None) =
    ap (λ (v : Slots). get_or v a None) put
    ∙ get_or-set_same s a (Some (cap.Frame f r None)) None (omega (arith, long, below)) in
    note ∙ ap (λ (x : Option Cap). set t a (noted x (Some at))) there
    ∙ ap (λ (v : Slots). set v a (Some (cap.Frame f r (Some at)))) put
    ∙ set-set s a (Some (cap.Frame f r None)) (Some (cap.Frame f r (Some at)))
    ∙ ap (λ (q : ℕ). set s a (Some (cap.Frame f q (Some at)))) rights
    ∙ ap (λ (q : ℕ). set s a (Some (cap.Frame f (rights_or_none (rights_in o.segments n)) (Some q))))
    address

-- ---- lines

abbrev line_before : Own → ℕ → ℕ → Option Cap
line_before o n i = cond (nat_lt i n) (line_cap (cap_at o i)) None

-- of the first n slots
unfoldable pub lines_before : Own → ℕ → Slots
lines_before o n = by_slot (line_before o n)

module _ (o : Own) where
  pub lines_none : lines_before o 0 ≡ empty_slots
  unfolding lines_before empty_slots
  lines_none = refl

  pub lines_long : (n : ℕ) → length (lines_before o n) ≡ 64
  unfolding lines_before
  lines_long n = slots_long (line_before o n)

  pub lines_empty : (n : ℕ) → n < 64 → get_or (lines_before o n) n None ≡ None
  unfolding lines_before
  lines_empty n below = slot_at (line_before o n) n below ∙ rw (le-ltb n n (omega arith)) refl

  pub lines_more : (n : ℕ) → n < 64
      → set (lines_before o n) n (line_cap (cap_at o n)) ≡ lines_before o (n + 1)
  unfolding lines_before
  lines_more n below =
      one_set (line_before o n) (line_before o (n + 1)) n (line_cap (cap_at o n)) below (rw (lt-ltb n (n + 1) (omega arith)) refl)
      (λ i other. ap (λ b. cond b (line_cap (cap_at o i)) None) (elim (cases_lt i n) [
        | inl less ↦ lt-ltb i n less ∙ sym (lt-ltb i (n + 1) (omega (arith, less)))
        | inr more ↦ le-ltb i n more ∙ sym (le-ltb i (n + 1) (omega (arith, more, other)))
      ]))

  pub lines_all : (n : ℕ) → length o.caps ≤ n → lines_before o n ≡ line_slots o
  unfolding lines_before line_slots
  lines_all n past =
      none_set (line_before o n) (λ i. line_cap (cap_at o i))
      (λ i below. elim (cases_lt i n) [
        | inl less ↦ rw (lt-ltb i n less) refl
        | inr more ↦ rw (le-ltb i n more) (ap line_cap (sym (get_or_past o.caps i initial.None (omega (arith, past, more)))))
      ])

-- ---- the page at a place

-- what is named there
at_place : (ss : List Segment) (place n : ℕ) (c : InitialCap) → page_at ss place c ≡ Some n
    → (c ≡ initial.Page n) × (pages_below ss n ≡ place)
at_place ss place n initial.None e = absurd (none-some n e)
at_place ss place n (initial.Page m) e =
    elim (cases_eq (pages_below ss m) place) [
      | inl same ↦
          let is : m ≡ n = same_Some m n (rw (eq-eqb (pages_below ss m) place same) at e) in
          (ap initial.Page is, ap (pages_below ss) (sym is) ∙ same)
      | inr other ↦ absurd (none-some n (rw (ne_eqb (pages_below ss m) place other) at e))
    ]
at_place ss place n (initial.Irq line) e = absurd (none-some n e)

off_place : (ss : List Segment) (place n : ℕ) → page_at ss place (initial.Page n) ≡ None
    → pages_below ss n ≢ place
off_place ss place n e same = absurd (none-some n (sym e ∙ rw (eq-eqb (pages_below ss n) place same) refl))

pub is_page_in : (ss : List Segment) (n : ℕ) → has_page_in ss n ≡ true → is_page ss n ≡ true
unfolding has_page_in is_page
is_page_in [] n e = e
is_page_in (s ∷ ss) n e =
    elim (cases_Bool (has_page s n)) [
      | inl here ↦ rw here refl
      | inr elsewhere ↦ rw elsewhere (is_page_in ss n (rw elsewhere at e))
    ]

page_small : (ss : List Segment) (n : ℕ) → ((k : ℕ) → IsSegment (get_or ss k no_segment))
    → is_page ss n ≡ true → n < 2 ^ 20
unfolding is_page
page_small [] n each there = absurd (true≢false (sym there))
page_small (s ∷ ss) n each there =
    elim (cases_Bool (has_page s n)) [
      | inl here ↦
          let high = ltb-true n (s.page + s.pages) (and_parts (nat_le s.page n) (nat_lt n (s.page + s.pages)) here).1 in
          let most = (each 0).page in
          omega (arith, high, most)
      | inr elsewhere ↦ page_small ss n (λ k. each (suc k)) (rw elsewhere at there)
    ]

-- the number of a page that is named has 20 bits
pub named_small : (o : Own) (place i n : ℕ) → IsOwn o → page_at o.segments place (cap_at o i) ≡ Some n
    → n < 2 ^ 20
named_small o place i n sound named =
    page_small o.segments n sound.segments (is_page_in o.segments n (sound.pages i n (at_place o.segments place n (cap_at o i) named).0))

below_more : (m n : ℕ) → m ≢ n → nat_lt m n ≡ nat_lt m (n + 1)
below_more m n other =
    elim (cases_lt m n) [
      | inl less ↦ lt-ltb m n less ∙ sym (lt-ltb m (n + 1) (omega (arith, less)))
      | inr more ↦ le-ltb m n more ∙ sym (le-ltb m (n + 1) (omega (arith, more, other)))
    ]

after_none : (o : Own) (frames : List ℕ) (c : InitialCap) → cap_after o frames 0 c ≡ line_cap c
after_none o frames initial.None = refl
after_none o frames (initial.Page n) = rw (le-ltb (pages_below o.segments n) 0 (omega arith)) refl
after_none o frames (initial.Irq line) = refl

after_same : (o : Own) (frames : List ℕ) (place : ℕ) (c : InitialCap) → page_at o.segments place c ≡ None
    → cap_after o frames place c ≡ cap_after o frames (place + 1) c
after_same o frames place initial.None e = refl
after_same o frames place (initial.Page n) e =
    ap (λ b. cond b (Some (page_cap o (get_or frames (pages_below o.segments n) 0) n)) None)
    (below_more (pages_below o.segments n) place (off_place o.segments place n e))
after_same o frames place (initial.Irq line) e = refl

-- no capability is of a page whose frame stands past these places, and none of a table
pages_before : (o : Own) (frames : List ℕ) (places f : ℕ) (c : InitialCap)
    → page_of (cap_after o frames places c) ≡ Some f
    → (n : ℕ) × (c ≡ initial.Page n) × (pages_below o.segments n < places) × (get_or frames (pages_below o.segments n) 0 ≡ f)
pages_before o frames places f initial.None e = absurd (none-some f e)
pages_before o frames places f (initial.Page n) e =
    elim (cases_lt (pages_below o.segments n) places) [
      | inl less ↦ (n, refl, less, same_Some _ f (rw (lt-ltb (pages_below o.segments n) places less) at e))
      | inr more ↦ absurd (none-some f (rw (le-ltb (pages_below o.segments n) places more) at e))
    ]
pages_before o frames places f (initial.Irq line) e = absurd (none-some f e)

no_tables : (o : Own) (frames : List ℕ) (places : ℕ) (c : InitialCap)
    → table_of (cap_after o frames places c) ≡ None
no_tables o frames places initial.None = refl
no_tables o frames places (initial.Page n) = by_case (nat_lt (pages_below o.segments n) places)
  where
    by_case : (t : Bool)
        → table_of (cond t (Some (page_cap o (get_or frames (pages_below o.segments n) 0) n)) None) ≡ None
    by_case true = refl
    by_case false = refl
no_tables o frames places (initial.Irq line) = refl

-- ---- a page is given out

module _ (o : Own) (frames : List ℕ) where
  pub after_long : (places : ℕ) → length (slots_after o frames places) ≡ 64
  unfolding slots_after
  after_long places = slots_long (λ i. cap_after o frames places (cap_at o i))

  pub slots_begin : slots_after o frames 0 ≡ line_slots o
  unfolding slots_after line_slots
  slots_begin = none_set (λ i. cap_after o frames 0 (cap_at o i)) (λ i. line_cap (cap_at o i)) (λ i below. after_none o frames (cap_at o i))

  after_at : (places i : ℕ) → i < 64
      → get_or (slots_after o frames places) i None ≡ cap_after o frames places (cap_at o i)
  unfolding slots_after
  after_at places i below = slot_at (λ j. cap_after o frames places (cap_at o j)) i below

  -- no slot names the page at this place
  pub slots_same : (place : ℕ) → ((i : ℕ) → page_at o.segments place (cap_at o i) ≡ None)
      → slots_after o frames place ≡ slots_after o frames (place + 1)
  unfolding slots_after
  slots_same place none =
      none_set (λ i. cap_after o frames place (cap_at o i)) (λ i. cap_after o frames (place + 1) (cap_at o i))
      (λ i below. after_same o frames place (cap_at o i) (none i))

  module _ (place i n : ℕ) (below : i < 64) (named : page_at o.segments place (cap_at o i) ≡ Some n) where
    pub slot_empty : get_or (slots_after o frames place) i None ≡ None
    slot_empty =
        let at = at_place o.segments place n (cap_at o i) named in
        after_at place i below ∙ ap (cap_after o frames place) at.0
        ∙ rw (le-ltb (pages_below o.segments n) place (omega (arith, at.1))) refl

    given_here : cap_after o frames (place + 1) (cap_at o i) ≡ Some (page_cap o (get_or frames place 0) n)
    given_here =
        let at = at_place o.segments place n (cap_at o i) named in
        ap (cap_after o frames (place + 1)) at.0
        ∙ rw (lt-ltb (pages_below o.segments n) (place + 1) (omega (arith, at.1)))
        (ap (λ (k : ℕ). Some (page_cap o (get_or frames k 0) n)) at.1)

    module _ (sound : IsOwn o) where
      -- no other slot does
      only : (j : ℕ) → j ≢ i → page_at o.segments place (cap_at o j) ≡ None
      only j other = by_case (page_at o.segments place (cap_at o j)) refl
        where
          by_case : (t : Option ℕ) → page_at o.segments place (cap_at o j) ≡ t
              → page_at o.segments place (cap_at o j) ≡ None
          by_case None e = e
          by_case (Some m) e =
              let here = at_place o.segments place n (cap_at o i) named in
              let there = at_place o.segments place m (cap_at o j) e in
              let same =
              page_once o.segments n m (is_page_in o.segments n (sound.pages i n here.0))
              (is_page_in o.segments m (sound.pages j m there.0)) (here.1 ∙ sym there.1) in
              absurd (sound.page_once j i m other there.0 (here.0 ∙ ap initial.Page same))

      pub slot_given : (f : ℕ) → get_or frames place 0 ≡ f
          → set (slots_after o frames place) i (Some (page_cap o f n)) ≡ slots_after o frames (place + 1)
      unfolding slots_after
      slot_given f at =
          one_set (λ j. cap_after o frames place (cap_at o j))
          (λ j. cap_after o frames (place + 1) (cap_at o j)) i (Some (page_cap o f n)) below
          (given_here ∙ ap (λ (g : ℕ). Some (page_cap o g n)) at) (λ j other. after_same o frames place (cap_at o j) (only j other))

    -- its frame is named at last
    pub frame_named : (places f : ℕ) → place < places → get_or frames place 0 ≡ f
        → list_any (λ c. same_number (Some f) (page_of c)) (slots_after o frames places) ≡ true
    frame_named places f less at =
        let is = at_place o.segments place n (cap_at o i) named in
        let here : get_or (slots_after o frames places) i None ≡ Some (page_cap o f n) =
        after_at places i below ∙ ap (cap_after o frames places) is.0
        ∙ rw (lt-ltb (pages_below o.segments n) places (omega (arith, is.1, less)))
        (ap (λ (k : ℕ). Some (page_cap o (get_or frames k 0) n)) is.1
        ∙ ap (λ (g : ℕ). Some (page_cap o g n)) at) in
        list_any_at (λ c. same_number (Some f) (page_of c)) (slots_after o frames places) i None (omega (arith, below, after_long places))
        (ap (λ c. same_number (Some f) (page_of c)) here ∙ eq-eqb f f refl)

  -- ---- frames that differ

  module _ (up : IsStrictlyIncreasing frames) where
    once : (j k : ℕ) → j < length frames → k < length frames → get_or frames j 0 ≡ get_or frames k 0 → j ≡ k
    once j k a b same =
        elim (cases_lt j k) [
          | inl less ↦ let apart = AllPairs-from_increasing frames up j k 0 less b in absurd (omega (arith, apart, same))
          | inr more ↦ elim (cases_eq j k) [
            | inl e ↦ e
            | inr other ↦
                let apart = AllPairs-from_increasing frames up k j 0 (omega (arith, more, other)) a in
                absurd (omega (arith, apart, same))
          ]
        ]

    not_named : (place f i : ℕ) → place < length frames → get_or frames place 0 ≡ f → i < 64
        → page_of (get_or (slots_after o frames place) i None) ≢ Some f
    not_named place f i within at below e =
        let is = pages_before o frames place f (cap_at o i) (sym (ap page_of (after_at place i below)) ∙ e) in
        let low = is.2 in
        let same = once (pages_below o.segments is.0) place (omega (arith, low, within)) within (is.3 ∙ sym at) in
        absurd (omega (arith, low, same))

    -- the frame of the place is named by no slot yet
    pub frame_new : (place f : ℕ) → place < length frames → get_or frames place 0 ≡ f
        → IsUnnamed (slots_after o frames place) f
    frame_new place f within at = record {
      no_page = λ i e. elim (cases_lt i 64) [
        | inl below ↦ not_named place f i within at below e
        | inr past ↦ none-some f
            (sym (ap page_of
            (get_or_past (slots_after o frames place) i None (omega (arith, past, after_long place))))
            ∙ e)
      ];
      no_table = λ i e. elim (cases_lt i 64) [
        | inl below ↦ none-some f (sym (ap table_of (after_at place i below) ∙ no_tables o frames place (cap_at o i)) ∙ e)
        | inr past ↦ none-some f
            (sym (ap table_of
            (get_or_past (slots_after o frames place) i None (omega (arith, past, after_long place))))
            ∙ e)
      ];
    }

    differs : (f : ℕ) (c : Option ℕ) → c ≢ Some f → same_number (Some f) c ≡ false
    differs f None other = refl
    differs f (Some g) other = ne_eqb f g (λ same. other (ap Some (sym same)))

    -- nor at last, where no slot names its page
    pub frame_unnamed : (place places f : ℕ) → place < length frames → places ≤ length frames
        → get_or frames place 0 ≡ f
        → ((i : ℕ) → page_at o.segments place (cap_at o i) ≡ None)
        → list_any (λ c. same_number (Some f) (page_of c)) (slots_after o frames places) ≡ false
    frame_unnamed place places f within few at none =
        list_any_none (λ c. same_number (Some f) (page_of c)) (slots_after o frames places)
        (All-from_get_or (λ c. same_number (Some f) (page_of c) ≡ false) (slots_after o frames places) None
        (λ i h. let below : i < 64 = omega (arith, h, after_long places) in
        differs f (page_of (get_or (slots_after o frames places) i None)) (λ e.
        let is = pages_before o frames places f (cap_at o i) (sym (ap page_of (after_at places i below)) ∙ e) in
        let low = is.2 in
        let same = once (pages_below o.segments is.0) place (omega (arith, low, few)) within (is.3 ∙ sym at) in
        off_place o.segments place is.0 (sym (ap (page_at o.segments place) is.1) ∙ none i) same)))

-- ---- frames that are kept

pub unnamed_more : (s : Slots) (xs ys : List ℕ) → unnamed s (xs ++ ys) ≡ unnamed s xs ++ unnamed s ys
unfolding unnamed
unnamed_more s xs ys = filter-append (λ f. not (list_any (λ c. same_number (Some f) (page_of c)) s)) xs ys

pub unnamed_none : (s : Slots) → unnamed s [] ≡ []
unfolding unnamed
unnamed_none s = refl

pub not_kept : (s : Slots) (f : ℕ) → list_any (λ c. same_number (Some f) (page_of c)) s ≡ true
    → unnamed s (f ∷ []) ≡ []
unfolding unnamed
not_kept s f e = rw e refl

pub is_kept : (s : Slots) (f : ℕ) → list_any (λ c. same_number (Some f) (page_of c)) s ≡ false
    → unnamed s (f ∷ []) ≡ f ∷ []
unfolding unnamed
is_kept s f e = rw e refl

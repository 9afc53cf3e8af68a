-- Any order of events, and one that words draw.
use Rattle.std.proofs.Common.{◌≡◌, ℕ, zero, suc, ◌<◌, ◌%◌, Bool, true, false, ltb, ltb-true, lt-ltb, List, [], ◌∷◌, ◌++◌, length, Option, Some, None, ap, sym, ◌∙◌, refl, subst, arith, slice_get, IfSome}
use Rattle.std.specs.Prelude.{if◌then◌else◌}
use Rattle.std.specs.List.{All}
use Rattle.std.proofs.lemmas.List.Elements.{All-nil, All-head, All-tail, All-push}
use Rattle.event_orders.specs.Machine.{Machine, IsMachine}
use Rattle.event_orders.specs.Orders.{run, after, Counted, owed_of, counted_if, counted, all_counted, passing, named, has_left, is_owed_or, is_owed_or_left, drawn_events, drawn_slots}
use Rattle.event_orders.specs.Laws.{AreBetween, none_owed, SameEnd, DrawnLaw, AnyOrderLaw}
use Rattle.event_orders.proofs.Steps.{End}
use Rattle.event_orders.proofs.Ahead as ahead
use Rattle.event_orders.proofs.Ahead.{Ahead, start, alike_between, work, turn}
use Rattle.event_orders.proofs.Slots.{InsideLeft, next_left, all_between, none_inside}

-- ---- the numbers that pass a test

passing_if : (t : ℕ → Bool) (P : ℕ → Type 0) (b : ℕ) → All P (passing t b) → (x : Bool) → t b ≡ x → (t b ≡ true → P b)
    → All P (if x then passing t b ++ b ∷ [] else passing t b)
passing_if t P b all true e p = All-push P (passing t b) b all (p e)
passing_if t P b all false e p = all

pub passing_all : (t : ℕ → Bool) (P : ℕ → Type 0) (b : ℕ) → ((h : ℕ) → h < b → t h ≡ true → P h) → All P (passing t b)
unfolding passing
passing_all t P zero p = All-nil P
passing_all t P (suc b) p =
    passing_if t P b (passing_all t P b (λ h under e. p h (omega (arith, under)) e)) (t b) refl (p b (omega arith))

pub passing_same : (t u : ℕ → Bool) (b : ℕ) → ((h : ℕ) → h < b → t h ≡ u h) → passing t b ≡ passing u b
unfolding passing
passing_same t u zero same = refl
passing_same t u (suc b) same =
    ap (λ (hs : List ℕ). if t b then hs ++ b ∷ [] else hs) (passing_same t u b (λ h under. same h (omega (arith, under))))
    ∙ ap (λ (x : Bool). if x then passing u b ++ b ∷ [] else passing u b) (same b (omega arith))

pub get_holds : (P : ℕ → Type 0) (hs : List ℕ) (k : ℕ) → All P hs → IfSome (slice_get hs k) P
get_holds P [] k all = tt
get_holds P (h ∷ hs) zero all = All-head P h hs all
get_holds P (h ∷ hs) (suc k) all = get_holds P hs k (All-tail P h hs all)

module _ (m : Machine) (is : IsMachine m) where
  abbrev AheadBy : m.World → Counted m.World → Type 0
  AheadBy w s = Ahead m is w s.world s.owed

  -- ---- one event

  next_if : (w : m.World) (s : Counted m.World) (h : ℕ) → h < m.harts → AheadBy w s → (k : ℕ) → owed_of h s ≡ k
      → AheadBy (m.next h w) (counted_if m h s k)
  next_if w s h there a zero e =
      turn m is w s.world s.owed a h there (subst (λ (j : ℕ). End m is h j w) e (a.ends h there))
  next_if w s h there a (suc k) e = work m is w s.world s.owed a h there k e

  next_ahead : (w : m.World) (s : Counted m.World) (h : ℕ) → h < m.harts → AheadBy w s
      → AheadBy (m.next h w) (counted m h s)
  unfolding counted
  next_ahead w s h there a = next_if w s h there a (owed_of h s) refl

  same_end : (w : m.World) (s : Counted m.World) → AheadBy w s → AreBetween m w → SameEnd m w s
  same_end w s a out = record {
    alike = alike_between m is w s.world s.owed a out;
    paid = λ h there. ahead.none_owed m is w s.world s.owed a h there (out h there);
  }

  -- ---- any order

  all_ahead : (order : List ℕ) (w : m.World) (s : Counted m.World) → All (λ h. h < m.harts) order → AheadBy w s
      → AheadBy (after m order w) (all_counted m order s)
  unfolding after all_counted
  all_ahead [] w s all a = a
  all_ahead (h ∷ hs) w s all a =
      all_ahead hs (m.next h w) (counted m h s) (All-tail (λ g. g < m.harts) h hs all)
      (next_ahead w s h (All-head (λ g. g < m.harts) h hs all) a)

  pub counted_law : AnyOrderLaw m
  counted_law order w all s out later =
      same_end (after m order w) (all_counted m order (none_owed w))
      (all_ahead order w (none_owed w) all (start m is w s out)) later

  -- ---- drawn by words

  module _ (n : ℕ) where
    pub record Drawing (w : m.World) (s : Counted m.World) : Type 0 where
      pub ahead : AheadBy w s
      pub left : InsideLeft m is n w

    -- the harts that have slots left are the same
    test_if : (w v : m.World) (h k : ℕ) → InsideLeft m is n w → h < m.harts → End m is h k w → m.Same h (run m h k w) v
        → is_owed_or (has_left m n v h) k ≡ has_left m n w h
    unfolding run
    test_if w v h zero left there e same = ap (λ (x : ℕ). ltb x n) (sym (is.as_far h w v same).slots)
    test_if w v h (suc k) left there e same = sym (lt-ltb (m.slots h w) n (left h there e.0))

    tests_same : (w : m.World) (s : Counted m.World) → Drawing w s
        → passing (is_owed_or_left m n s) m.harts ≡ passing (has_left m n w) m.harts
    tests_same w s d =
        passing_same (is_owed_or_left m n s) (has_left m n w) m.harts
        (λ h there. test_if w s.world h (owed_of h s) d.left there (d.ahead.ends h there) (d.ahead.same h there))

    record IsLeft (w : m.World) (h : ℕ) : Type 0 where
      hart : h < m.harts
      left : m.slots h w < n

    named_left : (word : ℕ) (w : m.World) → IfSome (named word (passing (has_left m n w) m.harts)) (IsLeft w)
    named_left word w =
        let hs = passing (has_left m n w) m.harts in
        get_holds (IsLeft w) hs (word % length hs)
        (passing_all (has_left m n w) (IsLeft w) m.harts
        (λ h there e. record { hart = there; left = ltb-true (m.slots h w) n e }))

    abbrev event_if : List ℕ → m.World → Option ℕ → m.World
    event_if words w o = elim o [ None ↦ w | Some h ↦ drawn_events m n words (m.next h w) ]

    abbrev slot_if : List ℕ → Counted m.World → Option ℕ → Counted m.World
    slot_if words s o = elim o [ None ↦ s | Some h ↦ drawn_slots m n words (counted m h s) ]

    abbrev AllDrawing : List ℕ → Type 0
    AllDrawing words = (w : m.World) (s : Counted m.World) → Drawing w s
        → Drawing (drawn_events m n words w) (drawn_slots m n words s)

    drawing_if : (words : List ℕ) → AllDrawing words → (w : m.World) (s : Counted m.World) → Drawing w s
        → (o : Option ℕ) → IfSome o (IsLeft w) → Drawing (event_if words w o) (slot_if words s o)
    drawing_if words ih w s d None l = d
    drawing_if words ih w s d (Some h) l =
        ih (m.next h w) (counted m h s)
        (record {
          ahead = next_ahead w s h l.hart d.ahead;
          left = next_left m is n h w l.hart d.ahead.sound l.left d.left;
        })

    drawing : (words : List ℕ) → AllDrawing words
    unfolding drawn_events drawn_slots
    drawing [] w s d = d
    drawing (word ∷ words) w s d =
        subst (λ (hs : List ℕ). Drawing (event_if words w (named word (passing (has_left m n w) m.harts))) (slot_if words s (named word hs)))
        (sym (tests_same w s d))
        (drawing_if words (drawing words) w s d (named word (passing (has_left m n w) m.harts)) (named_left word w))

    pub drawn_from : (words : List ℕ) (w : m.World) → m.IsSound w → AreBetween m w
        → Drawing (drawn_events m n words w) (drawn_slots m n words (none_owed w))
    drawn_from words w s out =
        drawing words w (none_owed w) (record { ahead = start m is w s out; left = none_inside m is n w out })

  pub drawn_law : DrawnLaw m
  drawn_law n words w s out all =
      let d = drawn_from n words w s out in
      same_end (drawn_events m n words w) (drawn_slots m n words (none_owed w)) d.ahead
      (all_between m is n (drawn_events m n words w) d.left all)

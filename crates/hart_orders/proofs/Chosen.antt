-- Who is chosen of the harts that have slots left.
use Rattle.std.proofs.Common.{◌≡◌, ◌≢◌, ℕ, zero, suc, ◌%◌, ◌<◌, ◌≤◌, Bool, true, false, ltb, ltb-true, refl, sym, ap, ◌∙◌, subst, arith, mod-lt, List, [], ◌∷◌, ◌++◌, length, fold, slice_get, Some, None, Option, IfSome, ◌⊎◌, inl, inr}
use Rattle.std.specs.Prelude.{if◌then◌else◌}
use Rattle.std.specs.List.{All}
use Rattle.std.proofs.lemmas.Bool.{ltb-false, cases_lt, cases_eq}
use Rattle.std.proofs.lemmas.Option.{slice_get-get_or}
use Rattle.std.proofs.lemmas.List.Sums.{fold-append}
use Rattle.std.proofs.lemmas.List.Elements.{All-nil, All-head, All-tail, All-push}
use Rattle.seed_words.specs.Words.{seeded, word}
use Rattle.image_check.specs.Image.{Image}
use Rattle.sched_table.specs.Schedule.{harts_in}
use Rattle.world_view.specs.Machine.{clock_of}
use Rattle.world_view.specs.Harts.{Harts, slots_of}
use Rattle.hart_orders.specs.declared.choice.Choice.{Choice}
use Rattle.hart_orders.specs.declared.choice.Choice.TheVariants.{LeastClock, Drawn}
use Rattle.hart_orders.specs.Order.{left, earlier, least, drawn, chosen, next_hart}
use Rattle.hart_orders.specs.Laws.{HasLeftLaw, SomebodyLaw, LeastLaw}

-- ---- who is chosen is one of those

module _ (P : ℕ → Type 0) where
  either_holds : (b : Bool) (g h : ℕ) → P g → P h → IfSome (if b then Some h else Some g) P
  either_holds true g h p q = q
  either_holds false g h p q = p

  earlier_holds : (s : Harts) (o : Option ℕ) (h : ℕ) → IfSome o P → P h → IfSome (earlier s o h) P
  earlier_holds s None h was is = is
  earlier_holds s (Some g) h was is = either_holds (ltb (clock_of h s.world) (clock_of g s.world)) g h was is

  fold_holds : (s : Harts) (hs : List ℕ) (o : Option ℕ) → IfSome o P → All P hs
      → IfSome (fold (earlier s) o hs) P
  fold_holds s [] o was all = was
  fold_holds s (h ∷ hs) o was all = fold_holds s hs (earlier s o h) (earlier_holds s o h was (All-head P h hs all)) (All-tail P h hs all)

  get_holds : (hs : List ℕ) (k : ℕ) → All P hs → IfSome (slice_get hs k) P
  get_holds [] k all = tt
  get_holds (h ∷ hs) zero all = All-head P h hs all
  get_holds (h ∷ hs) (suc k) all = get_holds hs k (All-tail P h hs all)

  chosen_holds : (c : Choice) (j : ℕ) (s : Harts) (hs : List ℕ) → All P hs → IfSome (chosen c j s hs) P
  unfolding chosen least drawn
  chosen_holds LeastClock j s hs all = fold_holds s hs None tt all
  chosen_holds (Drawn seed) j s hs all = get_holds hs (word (seeded seed) j % length hs) all

  pub holds_of : (c : Choice) (j : ℕ) (s : Harts) (hs : List ℕ) (h : ℕ) → All P hs → chosen c j s hs ≡ Some h
      → P h
  holds_of c j s hs h all e = subst (λ (o : Option ℕ). IfSome o P) e (chosen_holds c j s hs all)

abbrev pub IsLeft : ℕ → Harts → ℕ → ℕ → Type 0
IsLeft n s many h = (h < many) × (slots_of h s < n)

module _ (n : ℕ) (s : Harts) where
  more : (m : ℕ) (hs : List ℕ) → All (IsLeft n s m) hs → All (IsLeft n s (suc m)) hs
  more m hs all k d l = let here = (all k d l).0 in (omega (arith, here), (all k d l).1)

  all_if : (b : Bool) (m : ℕ) → ltb (slots_of m s) n ≡ b → All (IsLeft n s m) (left n s m)
      → All (IsLeft n s (suc m)) (if b then left n s m ++ m ∷ [] else left n s m)
  all_if true m t all = All-push (IsLeft n s (suc m)) (left n s m) m (more m (left n s m) all) (omega arith, ltb-true _ _ t)
  all_if false m t all = more m (left n s m) all

  pub all_left : (m : ℕ) → All (IsLeft n s m) (left n s m)
  unfolding left
  all_left zero = All-nil (IsLeft n s 0)
  all_left (suc m) = all_if (ltb (slots_of m s) n) m refl (all_left m)

pub has_left : HasLeftLaw
has_left i c n j h s e =
    holds_of (IsLeft n s (harts_in i.all.schedule)) c j s (left n s (harts_in i.all.schedule)) h (all_left n s (harts_in i.all.schedule)) e

-- ---- somebody is chosen, where there is one

either_some : (b : Bool) (g h : ℕ) → Some (if b then h else g) ≡ (if b then Some h else Some g)
either_some true g h = refl
either_some false g h = refl

some_of_fold : (s : Harts) (hs : List ℕ) (g : ℕ) → fold (earlier s) (Some g) hs ≢ None
some_of_fold s [] g e = cc e
some_of_fold s (h ∷ hs) g e =
    let b = ltb (clock_of h s.world) (clock_of g s.world) in
    some_of_fold s hs (if b then h else g) (ap (λ (o : Option ℕ). fold (earlier s) o hs) (either_some b g h) ∙ e)

none_drawn : (w : ℕ) (hs : List ℕ) → drawn w hs ≡ None → hs ≡ []
unfolding drawn
none_drawn w [] e = refl
none_drawn w (h ∷ hs) e = absurd (cc (e, slice_get-get_or (h ∷ hs) (w % length (h ∷ hs)) 0 (mod-lt w (omega arith))))

none_least : (s : Harts) (hs : List ℕ) → least s hs ≡ None → hs ≡ []
unfolding least
none_least s [] e = refl
none_least s (h ∷ hs) e = absurd (some_of_fold s hs h e)

none_chosen : (c : Choice) (j : ℕ) (s : Harts) (hs : List ℕ) → chosen c j s hs ≡ None → hs ≡ []
unfolding chosen
none_chosen LeastClock j s hs e = none_least s hs e
none_chosen (Drawn seed) j s hs e = none_drawn (word (seeded seed) j) hs e

not_pushed : (hs : List ℕ) (h : ℕ) → hs ++ h ∷ [] ≢ []
not_pushed [] h e = cc e
not_pushed (g ∷ gs) h e = cc e

module _ (n : ℕ) (s : Harts) where
  none_if : (b : Bool) (m : ℕ) → ltb (slots_of m s) n ≡ b
      → (left n s m ≡ [] → (h : ℕ) → h < m → n ≤ slots_of h s)
      → (if b then left n s m ++ m ∷ [] else left n s m) ≡ [] → (h : ℕ) → h < suc m → n ≤ slots_of h s
  none_if true m t before e h l = absurd (not_pushed (left n s m) m e)
  none_if false m t before e h l = elim (cases_eq h m) [
    | inl same ↦ subst (λ (g : ℕ). n ≤ slots_of g s) (sym same) (ltb-false _ _ t)
    | inr other ↦ before e h (omega (arith, l, other))
  ]

  pub none_left : (m : ℕ) → left n s m ≡ [] → (h : ℕ) → h < m → n ≤ slots_of h s
  unfolding left
  none_left zero e h l = absurd (omega (arith, l))
  none_left (suc m) e h l = none_if (ltb (slots_of m s) n) m refl (none_left m) e h l

-- where nobody is, each hart has had its slots
pub nobody : (i : Image) (c : Choice) (n j : ℕ) (s : Harts) → next_hart i c n j s ≡ None → (h : ℕ)
    → h < harts_in i.all.schedule → n ≤ slots_of h s
nobody i c n j s e h l = none_left n s (harts_in i.all.schedule) (none_chosen c j s (left n s (harts_in i.all.schedule)) e) h l

pub somebody : SomebodyLaw
somebody i c n j h s l few e = let all = nobody i c n j s e h l in absurd (omega (arith, all, few))

-- ---- by clocks

module _ (n : ℕ) (s : Harts) where
  abbrev clock : ℕ → ℕ
  clock h = clock_of h s.world

  -- it comes before another
  abbrev Precedes : ℕ → ℕ → Type 0
  Precedes h g = (clock h < clock g) ⊎ ((clock h ≡ clock g) × (h ≤ g))

  -- of the harts below m that have slots left it is the first: there may be none
  abbrev IsFirst : ℕ → Option ℕ → Type 0
  IsFirst m None = (g : ℕ) → g < m → n ≤ slots_of g s
  IsFirst m (Some h) = (h < m) × ((g : ℕ) → g < m → slots_of g s < n → Precedes h g)

  before_it : (m g h : ℕ) → clock m < clock h → Precedes h g → Precedes m g
  before_it m g h l (inl less) = inl (omega (arith, l, less))
  before_it m g h l (inr same) = let e = same.0 in inl (omega (arith, l, e))

  not_later : (m h : ℕ) → clock h ≤ clock m → h < m → Precedes h m
  not_later m h le below = elim (cases_lt (clock h) (clock m)) [
    | inl less ↦ inl less
    | inr past ↦ inr (omega (arith, le, past), omega (arith, below))
  ]

  first_of_two : (b : Bool) (m h : ℕ) → ltb (clock m) (clock h) ≡ b → IsFirst m (Some h)
      → IsFirst (suc m) (if b then Some m else Some h)
  first_of_two true m h t is = (
    omega arith,
    λ g l few. elim (cases_eq g m) [
      | inl same ↦ inr (ap clock (sym same), omega (arith, same))
      | inr other ↦ before_it m g h (ltb-true _ _ t) (is.1 g (omega (arith, l, other)) few)
    ],
  )
  first_of_two false m h t is = let below = is.0 in (
    omega (arith, below),
    λ g l few. elim (cases_eq g m) [
      | inl same ↦ subst (Precedes h) (sym same) (not_later m h (ltb-false _ _ t) below)
      | inr other ↦ is.1 g (omega (arith, l, other)) few
    ],
  )

  first_pushed : (m : ℕ) (o : Option ℕ) → slots_of m s < n → IsFirst m o → IsFirst (suc m) (earlier s o m)
  first_pushed m None few is = (
    omega arith,
    λ g l here. elim (cases_eq g m) [
      | inl same ↦ inr (ap clock (sym same), omega (arith, same))
      | inr other ↦ let none = is g (omega (arith, l, other)) in absurd (omega (arith, none, here))
    ],
  )
  first_pushed m (Some h) few is = first_of_two (ltb (clock m) (clock h)) m h refl is

  first_passed : (m : ℕ) (o : Option ℕ) → n ≤ slots_of m s → IsFirst m o → IsFirst (suc m) o
  first_passed m None past is = λ g l. elim (cases_eq g m) [
    | inl same ↦ subst (λ (x : ℕ). n ≤ slots_of x s) (sym same) past
    | inr other ↦ is g (omega (arith, l, other))
  ]
  first_passed m (Some h) past is = let below = is.0 in (
    omega (arith, below),
    λ g l few. elim (cases_eq g m) [
      | inl same ↦ let here : n ≤ slots_of g s = subst (λ (x : ℕ). n ≤ slots_of x s) (sym same) past in absurd (omega (arith, here, few))
      | inr other ↦ is.1 g (omega (arith, l, other)) few
    ],
  )

  first_if : (b : Bool) (m : ℕ) → ltb (slots_of m s) n ≡ b → IsFirst m (least s (left n s m))
      → IsFirst (suc m) (least s (if b then left n s m ++ m ∷ [] else left n s m))
  unfolding least
  first_if true m t is =
      subst (IsFirst (suc m)) (sym (fold-append (earlier s) None (left n s m) (m ∷ [])))
      (first_pushed m (least s (left n s m)) (ltb-true _ _ t) is)
  first_if false m t is = first_passed m (least s (left n s m)) (ltb-false _ _ t) is

  pub first_left : (m : ℕ) → IsFirst m (least s (left n s m))
  unfolding left least
  first_left zero = λ g l. absurd (omega (arith, l))
  first_left (suc m) = first_if (ltb (slots_of m s) n) m refl (first_left m)

pub least_law : LeastLaw
unfolding chosen
least_law i n j h g s e l few =
    (subst (IsFirst n s (harts_in i.all.schedule)) e (first_left n s (harts_in i.all.schedule))).1 g l few

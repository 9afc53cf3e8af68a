-- A free list that loses its least frame, and one that gets a frame back.
use Rattle.std.proofs.Common.{arith, ◌≡◌, ◌∙◌, sym, ap, subst, refl, ℕ, suc, ◌+◌, ◌-◌, ◌<◌, ◌≤◌, inl, inr, ne_eqb, eq-eqb, ◌||◌, Bool, true, false, true≢false, cond, List, [], ◌∷◌, ◌++◌, length, get_or, take, drop, Some, ◌≢◌}
use Rattle.std.specs.Prelude.{nat_eq, nat_lt, reverse, All, slice_get}
use Rattle.std.specs.List.{insert}
use Rattle.std.proofs.lemmas.Bool.{cases_lt, cases_eq, lt-ltb, le-ltb}
use Rattle.std.proofs.lemmas.Option.{none-some}
use Rattle.std.proofs.lemmas.List.Elements.{All-tail}
use Rattle.std.proofs.lemmas.List.{reverse-append, append_assoc, take-append-drop, length-reverse, length-drop, length-take-le, get_or-reverse, get_or-drop, get_or-take, get_or_default}
use Rattle.frame_colours.specs.Colours.{Share, IsOwn, has, pool}
use Rattle.frame_colours.specs.FreeList.{FreeList, IsFreeList, is_free, without_least, placed, with_frame}
use Rattle.frame_colours.proofs.Ascending.{Ascends, Ascends-from_increasing, increasing_from_Ascends, has_head, has_other, has_at, has_below, head_is_least, length_within}
use Rattle.frame_colours.proofs.Pools.{Ascends-pool, pool_has}

-- the list as one of a share
abbrev pub of : Share → List ℕ → FreeList
of s xs = record { share = s; free = xs }

pub Ascends-free : (s : Share) (xs : List ℕ) → IsFreeList (of s xs) → Ascends 0 xs
Ascends-free s xs sound = Ascends-from_increasing xs 0 sound.increasing (λ _. omega arith)

-- ---- without its least frame

pub rest_is_free_list : (s : Share) (n : ℕ) (xs : List ℕ) → IsFreeList (of s (n ∷ xs)) → IsFreeList (of s xs)
unfolding Ascends
rest_is_free_list s n xs sound =
    let up = Ascends-free s (n ∷ xs) sound in
    record {
      increasing = increasing_from_Ascends xs (suc n) up.1;
      own = λ f there. elim (cases_eq n f) [
        | inl same ↦ subst (λ (g : ℕ). IsOwn s g) same (sound.own n (has_head n xs))
        | inr other ↦ sound.own f (has_other n f xs other ∙ there)
      ];
    }

pub least_is_gone : (s : Share) (n : ℕ) (xs : List ℕ) → IsFreeList (of s (n ∷ xs)) → has xs n ≡ false
unfolding Ascends
least_is_gone s n xs sound = has_below xs (suc n) n (Ascends-free s (n ∷ xs) sound).1 (omega arith)

pub least_is_least : (s : Share) (n : ℕ) (xs : List ℕ) → IsFreeList (of s (n ∷ xs)) → (f : ℕ)
    → has (n ∷ xs) f ≡ true → n ≤ f
unfolding Ascends
least_is_least s n xs sound f there = head_is_least (n ∷ xs) n f (omega arith, (Ascends-free s (n ∷ xs) sound).1) there

pub without_least_is_free_list : (l : FreeList) → IsFreeList l → IsFreeList (without_least l)
without_least_is_free_list l sound = by_list l.free sound
  where
    by_list : (xs : List ℕ) → IsFreeList (of l.share xs) → IsFreeList (of l.share (drop 1 xs))
    by_list [] sound = sound
    by_list (n ∷ xs) sound = rest_is_free_list l.share n xs sound

-- ---- with a frame in its place

pub placed_has : (xs : List ℕ) (n f : ℕ) → has (placed xs n) f ≡ (nat_eq n f || has xs f)
unfolding placed
placed_has [] n f = refl
placed_has (x ∷ xs) n f = by_case (nat_lt n x) (placed_has xs n f)
  where
    swapped : (a b c : Bool) → (a || (b || c)) ≡ (b || (a || c))
    swapped true true c = refl
    swapped true false c = refl
    swapped false true c = refl
    swapped false false c = refl

    by_case : (t : Bool) → has (placed xs n) f ≡ (nat_eq n f || has xs f)
        → has (cond t (n ∷ x ∷ xs) (x ∷ placed xs n)) f ≡ (nat_eq n f || (nat_eq x f || has xs f))
    by_case true rest = refl
    by_case false rest = ap (λ b. nat_eq x f || b) rest ∙ swapped (nat_eq x f) (nat_eq n f) (has xs f)

pub placed_has_other : (xs : List ℕ) (n f : ℕ) → f ≢ n → has (placed xs n) f ≡ has xs f
placed_has_other xs n f other = placed_has xs n f ∙ rw (ne_eqb n f (omega arith)) refl

pub placed_has_it : (xs : List ℕ) (n : ℕ) → has (placed xs n) n ≡ true
placed_has_it xs n = placed_has xs n n ∙ rw (eq-eqb n n refl) refl

Ascends-placed : (xs : List ℕ) (b n : ℕ) → b ≤ n → has xs n ≡ false → Ascends b xs → Ascends b (placed xs n)
unfolding placed Ascends
Ascends-placed [] b n above out up = (above, tt)
Ascends-placed (x ∷ xs) b n above out up = elim (cases_lt n x) [
  | inl below ↦ let first : suc n ≤ x = omega arith in rw (lt-ltb n x below) (above, (first, up.1))
  | inr past ↦ rw (le-ltb n x past) (up.0, Ascends-placed xs (suc x) n (omega (arith, apart past)) (rest past) up.1)
]
  where
    apart : x ≤ n → x ≢ n
    apart past same = true≢false (sym (subst (λ (f : ℕ). has (x ∷ xs) f ≡ true) same (has_head x xs)) ∙ out)

    rest : x ≤ n → has xs n ≡ false
    rest past = sym (has_other x n xs (apart past)) ∙ out

pub with_frame_is_free_list : (l : FreeList) (f : ℕ) → IsFreeList l → IsOwn l.share f → is_free l f ≡ false
    → IsFreeList (with_frame l f)
with_frame_is_free_list l f sound mine out = record {
  increasing =
      increasing_from_Ascends (placed l.free f) 0
      (Ascends-placed l.free 0 f (omega arith) out (Ascends-free l.share l.free sound));
  own = λ g there. elim (cases_eq f g) [
    | inl same ↦ subst (λ (h : ℕ). IsOwn l.share h) same mine
    | inr other ↦ sound.own g (sym (placed_has_other l.free f g (λ e. other (sym e))) ∙ there)
  ];
}

pub placed_first : (s : Share) (n : ℕ) (xs : List ℕ) → IsFreeList (of s (n ∷ xs)) → placed xs n ≡ n ∷ xs
unfolding placed Ascends
placed_first s n xs sound = by_list xs (Ascends-free s (n ∷ xs) sound).1
  where
    by_list : (ys : List ℕ) → Ascends (suc n) ys → placed ys n ≡ n ∷ ys
    by_list [] up = refl
    by_list (y ∷ ys) up = let first : suc n ≤ y = up.0 in rw (lt-ltb n y (omega arith)) refl

pub given_again : (l : FreeList) (f : ℕ) → IsFreeList l → slice_get l.free 0 ≡ Some f
    → with_frame (without_least l) f ≡ l
given_again l f sound first = ap (λ (xs : List ℕ). of l.share xs) (by_list l.free sound first)
  where
    by_list : (xs : List ℕ) → IsFreeList (of l.share xs) → slice_get xs 0 ≡ Some f → placed (drop 1 xs) f ≡ xs
    by_list [] sound first = absurd (none-some f first)
    by_list (n ∷ xs) sound first = let same : n ≡ f = cc in
        subst (λ (g : ℕ). placed xs g ≡ n ∷ xs) same (placed_first l.share n xs sound)

-- ---- lists with the same frames

Ascends-same : (xs ys : List ℕ) (a b : ℕ) → Ascends a xs → Ascends b ys → ((f : ℕ) → has xs f ≡ has ys f)
    → xs ≡ ys
unfolding Ascends
Ascends-same [] [] a b up above same = refl
Ascends-same [] (y ∷ ys) a b up above same = absurd (true≢false (sym (has_head y ys) ∙ sym (same y)))
Ascends-same (x ∷ xs) [] a b up above same = absurd (true≢false (sym (has_head x xs) ∙ same x))
Ascends-same (x ∷ xs) (y ∷ ys) a b up above same =
    let x_least : x ≤ y = head_is_least (x ∷ xs) x y (omega arith, up.1) (same y ∙ has_head y ys) in
    let y_least : y ≤ x = head_is_least (y ∷ ys) y x (omega arith, above.1) (sym (same x) ∙ has_head x xs) in
    let heads : x ≡ y = omega arith in
    cons_same heads (Ascends-same xs ys (suc x) (suc y) up.1 above.1 (λ f. rest f heads))
  where
    cons_same : x ≡ y → xs ≡ ys → x ∷ xs ≡ y ∷ ys
    cons_same e f = cc

    rest : (f : ℕ) → x ≡ y → has xs f ≡ has ys f
    rest f heads = elim (cases_eq x f) [
      | inl it ↦ has_below xs (suc x) f up.1 (omega arith) ∙ sym (has_below ys (suc y) f above.1 (omega arith))
      | inr other ↦ sym (has_other x f xs other) ∙ same f ∙ has_other y f ys (λ e. other (heads ∙ e))
    ]

pub free_list_determined : (l m : FreeList) → l.share ≡ m.share → IsFreeList l → IsFreeList m
    → ((f : ℕ) → is_free l f ≡ is_free m f) → l ≡ m
free_list_determined l m shares sound other same =
    let lists : l.free ≡ m.free =
    Ascends-same l.free m.free 0 0 (Ascends-free l.share l.free sound)
    (Ascends-free m.share m.free other) same in
    ap (λ (s : Share). of s l.free) shares ∙ ap (λ (xs : List ℕ). of m.share xs) lists

-- ---- room, and the place in a list that descends

length-placed : (xs : List ℕ) (n : ℕ) → length (placed xs n) ≡ suc (length xs)
unfolding placed
length-placed [] n = refl
length-placed (x ∷ xs) n = by_case (nat_lt n x) (length-placed xs n)
  where
    by_case : (t : Bool) → length (placed xs n) ≡ suc (length xs)
        → length (cond t (n ∷ x ∷ xs) (x ∷ placed xs n)) ≡ suc (suc (length xs))
    by_case true rest = refl
    by_case false rest = ap suc rest

-- a share's frame that isn't free leaves room for it
pub has_room : (s : Share) (xs : List ℕ) (f : ℕ) → IsFreeList (of s xs) → IsOwn s f → has xs f ≡ false
    → length xs < length (pool s)
has_room s xs f sound mine out =
    let sound' = with_frame_is_free_list (of s xs) f sound mine out in
    let within : length (placed xs f) ≤ length (pool s) =
    length_within (pool s) (placed xs f) 0 0 (Ascends-pool s) (Ascends-free s (placed xs f) sound')
    (λ g there. pool_has s g (sound'.own g there)) in
    omega (arith, length-placed xs f)

-- what is placed comes after the numbers that are less, and before the first that isn't
pub placed_between : (xs ys : List ℕ) (n : ℕ) → All (λ x. x < n) xs → (0 < length ys → n < get_or ys 0 0)
    → placed (xs ++ ys) n ≡ xs ++ n ∷ ys
unfolding placed
placed_between [] [] n less more = refl
placed_between [] (y ∷ ys) n less more = rw (lt-ltb n y (more (omega arith))) refl
placed_between (x ∷ xs) ys n less more =
    let some : 0 < length (x ∷ xs) = omega arith in
    let first : x < n = less 0 0 some in
    rw (le-ltb n x (omega arith)) (ap (λ rest. x ∷ rest) (placed_between xs ys n (All-tail (λ x. x < n) x xs less) more))

-- a number put into a list that descends, after those that aren't less, is in its place in the reverse
pub reverse-insert : (xs : List ℕ) (n at : ℕ) → at ≤ length xs
    → ((k : ℕ) → at ≤ k → k < length xs → get_or xs k 0 < n) → (0 < at → n ≤ get_or xs (at - 1) 0)
    → has (reverse xs) n ≡ false → reverse (insert xs at n) ≡ placed (reverse xs) n
reverse-insert xs n at within after before out =
    let low = reverse (drop at xs) in
    let high = reverse (take at xs) in
    let lows : length low ≡ length xs - at = length-reverse (drop at xs) ∙ length-drop at xs in
    let highs : length high ≡ at = length-reverse (take at xs) ∙ length-take-le at xs within in
    let whole : reverse xs ≡ low ++ high = ap reverse (sym (take-append-drop at xs)) ∙ reverse-append (take at xs) (drop at xs) in
    let put : reverse (insert xs at n) ≡ low ++ n ∷ high =
    reverse-append (take at xs) (n ∷ drop at xs)
    ∙ ap (λ ys. ys ++ high) (reverse-append (n ∷ []) (drop at xs)) ∙ append_assoc low (n ∷ []) high in
    put ∙ sym (placed_between low high n (less lows) (more highs)) ∙ ap (λ ys. placed ys n) (sym whole)
  where
    less : length (reverse (drop at xs)) ≡ length xs - at → All (λ x. x < n) (reverse (drop at xs))
    less lows k d inside =
        let long : length (drop at xs) ≡ length xs - at = length-drop at xs in
        let there : get_or (reverse (drop at xs)) k d ≡ get_or (drop at xs) (length (drop at xs) - 1 - k) d =
        get_or-reverse (drop at xs) k d (omega arith) in
        let here : get_or (drop at xs) (length (drop at xs) - 1 - k) d
        ≡ get_or xs (at + (length (drop at xs) - 1 - k)) d =
        get_or-drop at xs (length (drop at xs) - 1 - k) d in
        let same : get_or xs (at + (length (drop at xs) - 1 - k)) d
        ≡ get_or xs (at + (length (drop at xs) - 1 - k)) 0 =
        get_or_default xs (at + (length (drop at xs) - 1 - k)) d 0 (omega arith) in
        let below : get_or xs (at + (length (drop at xs) - 1 - k)) 0 < n =
        after (at + (length (drop at xs) - 1 - k)) (omega arith) (omega arith) in
        omega arith

    apart : 0 < at → get_or xs (at - 1) 0 ≢ n
    apart some same =
        let place = length xs - 1 - (at - 1) in
        let there : get_or (reverse xs) place 0 ≡ get_or xs (length xs - 1 - place) 0 = get_or-reverse xs place 0 (omega arith) in
        let at_it : length xs - 1 - place ≡ at - 1 = omega arith in
        let it : get_or (reverse xs) place 0 ≡ n = there ∙ ap (λ k. get_or xs k 0) at_it ∙ same in
        true≢false (sym (has_at (reverse xs) place (omega (arith, length-reverse xs))) ∙ ap (has (reverse xs)) it ∙ out)

    more : length (reverse (take at xs)) ≡ at → 0 < length (reverse (take at xs))
        → n < get_or (reverse (take at xs)) 0 0
    more highs some =
        let long : length (take at xs) ≡ at = length-take-le at xs within in
        let there : get_or (reverse (take at xs)) 0 0 ≡ get_or (take at xs) (length (take at xs) - 1 - 0) 0 =
        get_or-reverse (take at xs) 0 0 (omega arith) in
        let last : length (take at xs) - 1 - 0 ≡ at - 1 = omega arith in
        let here : get_or (take at xs) (at - 1) 0 ≡ get_or xs (at - 1) 0 = get_or-take at xs (at - 1) 0 (omega arith) in
        let is : get_or (reverse (take at xs)) 0 0 ≡ get_or xs (at - 1) 0 = there ∙ ap (λ k. get_or (take at xs) k 0) last ∙ here in
        let least : n ≤ get_or xs (at - 1) 0 = before (omega arith) in
        let other : get_or xs (at - 1) 0 ≢ n = apart (omega arith) in
        omega arith

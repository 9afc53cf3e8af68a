-- Facts of the pool of a share: what stands in it, in which order, and how it grows frame by frame.
use Rattle.std.proofs.Common.{arith, ◌≡◌, ◌∙◌, sym, ap, subst, refl, ◌≢◌, ℕ, zero, suc, ◌+◌, ◌-◌, ◌<◌, ◌≤◌, ⊎_elim, zero-add, add-zero, suc-add, Bool, true, false, true≢false, cond, eqb-true, List, [], ◌∷◌, ◌++◌, length, length-append, add-one, ◌&&◌}
use Rattle.std.specs.Prelude.{nat_eq, filter, reverse, slice_index}
use Rattle.std.specs.List.{range_with_len}
use Rattle.std.proofs.lemmas.Bool.{cases_eq}
use Rattle.std.proofs.lemmas.List.{length-reverse, reverse-append}
use Rattle.std.proofs.lemmas.List.Elements.{filter-append}
use Rattle.std.proofs.lemmas.List.Kept.{AllPairs-from_increasing}
use Rattle.std.proofs.lemmas.Map.Views.{any-filter_same}
use Rattle.frame_colours.specs.Colours.{Share, IsOwn, has, has_colour, pool, frame_at}
use Rattle.frame_colours.specs.FreeList.{IsFreeList, all_free}
use Rattle.frame_colours.proofs.Ascending.{Ascends, Ascends-less, increasing_from_Ascends, has_head, has_other, has_at}

-- ---- numbers one after the other

pub range_split : (a m n : ℕ) → range_with_len a (m + n) ≡ range_with_len a m ++ range_with_len (a + m) n
range_split a zero n = rw (zero-add n, add-zero a) refl
range_split a (suc m) n =
    rw (suc-add m n) (ap (λ rest. a ∷ rest)
    (range_split (a + 1) m n ∙ ap (λ b. range_with_len (a + 1) m ++ range_with_len b n) (omega arith)))

Ascends-range : (a n : ℕ) → Ascends a (range_with_len a n)
unfolding Ascends
Ascends-range a zero = tt
Ascends-range a (suc n) = (omega arith, subst (λ (b : ℕ). Ascends b (range_with_len (a + 1) n)) (add-one a) (Ascends-range (a + 1) n))

Ascends-filter : (p : ℕ → Bool) (xs : List ℕ) (b : ℕ) → Ascends b xs → Ascends b (filter p xs)
unfolding Ascends
Ascends-filter p [] b up = tt
Ascends-filter p (x ∷ xs) b up = by_case (p x) (Ascends-filter p xs (suc x) up.1)
  where
    by_case : (t : Bool) → Ascends (suc x) (filter p xs) → Ascends b (cond t (x ∷ filter p xs) (filter p xs))
    by_case true rest = (up.0, rest)
    by_case false rest = let first : b ≤ x = up.0 in Ascends-less (filter p xs) (suc x) b (omega arith) rest

has_range : (a n f : ℕ) → a ≤ f → f < a + n → has (range_with_len a n) f ≡ true
has_range a zero f above below = absurd (omega arith)
has_range a (suc n) f above below =
    ⊎_elim
    (λ (same : a ≡ f). subst (λ (g : ℕ). has (range_with_len a (suc n)) g ≡ true) same (has_head a (range_with_len (a + 1) n)))
    (λ (other : a ≢ f). has_other a f (range_with_len (a + 1) n) other ∙ has_range (a + 1) n f (omega arith) (omega arith))
    (cases_eq a f)

range_has : (a n f : ℕ) → has (range_with_len a n) f ≡ true → f < a + n
range_has a zero f there = absurd (true≢false (sym there))
range_has a (suc n) f there =
    ⊎_elim
    (λ (same : a ≡ f). omega arith)
    (λ (other : a ≢ f). let rest = range_has (a + 1) n f (sym (has_other a f (range_with_len (a + 1) n) other) ∙ there) in omega arith)
    (cases_eq a f)

has_filter : (p : ℕ → Bool) (xs : List ℕ) (f : ℕ) → has (filter p xs) f ≡ (p f && has xs f)
has_filter p xs f = any-filter_same (λ m. nat_eq m f) p (p f) (λ k same. ap p (eqb-true k f same)) xs

-- ---- what stands in a pool

pub Ascends-pool : (s : Share) → Ascends 0 (pool s)
unfolding pool
Ascends-pool s = Ascends-filter (has_colour s) (range_with_len 0 s.frames) 0 (Ascends-range 0 s.frames)

pub pool_has : (s : Share) (f : ℕ) → IsOwn s f → has (pool s) f ≡ true
unfolding pool
pool_has s f own =
    has_filter (has_colour s) (range_with_len 0 s.frames) f
    ∙ rw (own.coloured, has_range 0 s.frames f (omega arith) (omega (arith, own.below))) refl

pub IsOwn-pool : (s : Share) (f : ℕ) → has (pool s) f ≡ true → IsOwn s f
unfolding pool
IsOwn-pool s f there = by_parts (sym (has_filter (has_colour s) (range_with_len 0 s.frames) f) ∙ there)
  where
    both : (a b : Bool) → (a && b) ≡ true → (a ≡ true) × (b ≡ true)
    both true b h = (refl, h)
    both false b h = absurd (true≢false (sym h))

    by_parts : (has_colour s f && has (range_with_len 0 s.frames) f) ≡ true → IsOwn s f
    by_parts h = let parts = both _ _ h in
        record { below = omega (arith, range_has 0 s.frames f parts.1); coloured = parts.0 }

pub all_free_is_free_list : (s : Share) → IsFreeList (all_free s)
all_free_is_free_list s = record { increasing = increasing_from_Ascends (pool s) 0 (Ascends-pool s); own = IsOwn-pool s }

-- ---- its n-th frame

pub frame_at_own : (s : Share) (n : ℕ) → n < length (pool s) → IsOwn s (frame_at s n)
unfolding frame_at
frame_at_own s n within = IsOwn-pool s (slice_index (pool s) n) (has_at (pool s) n within)

pub frame_at_increasing : (s : Share) (m n : ℕ) → m < n → n < length (pool s) → frame_at s m < frame_at s n
unfolding frame_at
frame_at_increasing s m n before within =
    AllPairs-from_increasing (pool s) (increasing_from_Ascends (pool s) 0 (Ascends-pool s)) m n 0 before
    within

pub own_is_frame_at : (s : Share) (f : ℕ) → IsOwn s f → (n : ℕ) × (n < length (pool s)) × (frame_at s n ≡ f)
unfolding frame_at
own_is_frame_at s f own = place_of (pool s) (pool_has s f own)
  where
    place_of : (xs : List ℕ) → has xs f ≡ true → (n : ℕ) × (n < length xs) × (slice_index xs n ≡ f)
    place_of [] there = absurd (true≢false (sym there))
    place_of (x ∷ xs) there =
        ⊎_elim
        (λ (same : x ≡ f). (0, omega arith, same))
        (λ (other : x ≢ f). let at = place_of xs (sym (has_other x f xs other) ∙ there) in (suc at.0, omega (arith, at.1), at.2))
        (cases_eq x f)

-- ---- a pool frame by frame

-- frames counted up to n, and one more
pub length_more : (s : Share) (n : ℕ)
    → length (filter (has_colour s) (range_with_len 0 (n + 1)))
    ≡ length (filter (has_colour s) (range_with_len 0 n)) + cond (has_colour s n) 1 0
length_more s n =
    let split : filter (has_colour s) (range_with_len 0 (n + 1))
    ≡ filter (has_colour s) (range_with_len 0 n) ++ filter (has_colour s) (n ∷ []) =
    ap (filter (has_colour s))
    (range_split 0 n 1 ∙ ap (λ b. range_with_len 0 n ++ range_with_len b 1) (zero-add n))
    ∙ filter-append (has_colour s) (range_with_len 0 n) (n ∷ []) in
    ap length split
    ∙ length-append (filter (has_colour s) (range_with_len 0 n)) (filter (has_colour s) (n ∷ []))
    ∙ ap (λ k. length (filter (has_colour s) (range_with_len 0 n)) + k) (by_case (has_colour s n))
  where
    by_case : (t : Bool) → length (cond t (n ∷ []) []) ≡ cond t 1 0
    by_case true = refl
    by_case false = refl

-- where a frame is one of the share's, those from the next one on are fewer than all
pub room_for : (s : Share) (xs : List ℕ) (f next : ℕ) → has_colour s f ≡ true → next ≡ f + 1 → next ≤ s.frames
    → reverse xs ≡ filter (has_colour s) (range_with_len next (s.frames - next)) → length xs < length (pool s)
unfolding pool
room_for s xs f next mine is within listed_next =
    let above = s.frames - next in
    let listed : reverse xs ≡ filter (has_colour s) (range_with_len (f + 1) above) =
    listed_next ∙ ap (λ b. filter (has_colour s) (range_with_len b above)) is in
    let counts : s.frames ≡ f + suc above = omega arith in
    let split : range_with_len 0 s.frames ≡ range_with_len 0 f ++ range_with_len f (suc above) =
    ap (range_with_len 0) counts ∙ range_split 0 f (suc above)
    ∙ ap (λ b. range_with_len 0 f ++ range_with_len b (suc above)) (zero-add f) in
    let parts : filter (has_colour s) (range_with_len 0 s.frames)
    ≡ filter (has_colour s) (range_with_len 0 f)
    ++ filter (has_colour s) (range_with_len f (suc above)) =
    ap (filter (has_colour s)) split ∙ filter-append (has_colour s) (range_with_len 0 f) (range_with_len f (suc above)) in
    let first : filter (has_colour s) (range_with_len f (suc above)) ≡ f ∷ filter (has_colour s) (range_with_len (f + 1) above) =
    ap (λ t. cond t (f ∷ filter (has_colour s) (range_with_len (f + 1) above))
    (filter (has_colour s) (range_with_len (f + 1) above))) mine in
    let as_many : length xs ≡ length (filter (has_colour s) (range_with_len (f + 1) above)) = sym (length-reverse xs) ∙ ap length listed in
    let whole : length (filter (has_colour s) (range_with_len 0 s.frames))
    ≡ length (filter (has_colour s) (range_with_len 0 f))
    + suc (length (filter (has_colour s) (range_with_len (f + 1) above))) =
    ap length parts
    ∙ length-append (filter (has_colour s) (range_with_len 0 f))
    (filter (has_colour s) (range_with_len f (suc above)))
    ∙ ap (λ ys. length (filter (has_colour s) (range_with_len 0 f)) + length ys) first in
    omega arith

-- the frames above, once the next one below was looked at
listed_next : (s : Share) (f next : ℕ) (t : Bool) → has_colour s f ≡ t → next ≡ f + 1 → next ≤ s.frames
    → filter (has_colour s) (range_with_len f (s.frames - f))
    ≡ cond t (f ∷ filter (has_colour s) (range_with_len next (s.frames - next)))
    (filter (has_colour s) (range_with_len next (s.frames - next)))
listed_next s f next t mine is within =
    let above = s.frames - next in
    let counts : s.frames - f ≡ suc above = omega arith in
    ap (λ n. filter (has_colour s) (range_with_len f n)) counts
    ∙ ap (λ u. cond u (f ∷ filter (has_colour s) (range_with_len (f + 1) above))
    (filter (has_colour s) (range_with_len (f + 1) above))) mine
    ∙ ap (λ b. cond t (f ∷ filter (has_colour s) (range_with_len b above)) (filter (has_colour s) (range_with_len b above))) (sym is)

pub listed_other : (s : Share) (xs : List ℕ) (f next : ℕ) → has_colour s f ≡ false → next ≡ f + 1
    → next ≤ s.frames
    → reverse xs ≡ filter (has_colour s) (range_with_len next (s.frames - next))
    → reverse xs ≡ filter (has_colour s) (range_with_len f (s.frames - f))
listed_other s xs f next other is within listed = listed ∙ sym (listed_next s f next false other is within)

pub listed_own : (s : Share) (xs ys : List ℕ) (f next : ℕ) → has_colour s f ≡ true → next ≡ f + 1
    → next ≤ s.frames → ys ≡ xs ++ f ∷ []
    → reverse xs ≡ filter (has_colour s) (range_with_len next (s.frames - next))
    → reverse ys ≡ filter (has_colour s) (range_with_len f (s.frames - f))
listed_own s xs ys f next mine is within pushed listed =
    ap reverse pushed ∙ reverse-append xs (f ∷ []) ∙ ap (λ zs. f ∷ zs) listed ∙ sym (listed_next s f next true mine is within)

pub listed_whole : (s : Share) (xs : List ℕ) (f : ℕ) → f ≡ 0
    → xs ≡ filter (has_colour s) (range_with_len f (s.frames - f)) → xs ≡ pool s
unfolding pool
listed_whole s xs f start listed = let all : s.frames - f ≡ s.frames = omega arith in listed ∙ rw all (rw start refl)

pub counted_whole : (s : Share) (count f : ℕ) → f ≡ s.frames
    → count ≡ length (filter (has_colour s) (range_with_len 0 f)) → count ≡ length (pool s)
unfolding pool
counted_whole s count f end counted = counted ∙ rw end refl

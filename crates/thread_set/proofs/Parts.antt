-- Eight threads as one list, and as its parts round the current one.
use Rattle.std.proofs.Common.{arith, ◌≡◌, ◌≢◌, ◌∙◌, sym, ap, refl, ℕ, zero, suc, ◌+◌, ◌<◌, List, [], ◌∷◌, ◌++◌, length, take, drop, set, get_or, get_or-set_same, length-take, length-append}
use Rattle.std.proofs.Math.Seq.{take-append_seam, drop-append-add, get_or-append_seam}
use Rattle.std.proofs.lemmas.List.{set-get_or, set_comm, take-set, drop-set, drop-set-lt, take-append-drop}
use Rattle.std.proofs.Math.ListN.{length-set}
use Rattle.thread_set.specs.declared.Thread.{Thread}
use Rattle.thread_set.specs.declared.ThreadSet.{ThreadSet}
use Rattle.thread_set.specs.Models.{threads_model}
use Rattle.thread_set.specs.Threads.{Threads, AreThreads, all_of, current_number, never, turned_to, with_thread}

-- the threads of a list, of which number n is x and current, whatever stands there
abbrev pub seen : ℕ → List Thread → Thread → Threads
seen n xs x = record { before = take n xs; current = x; after = drop (n + 1) xs }

-- the list with x at n, by its parts
pub set-parts : (n : ℕ) (xs : List Thread) (x : Thread) → n < length xs
    → take n xs ++ x ∷ drop (n + 1) xs ≡ set xs n x
set-parts n xs x within =
    ap (λ (ys : List Thread). ys ++ x ∷ drop (n + 1) xs) (sym (take-set xs n x))
    ∙ (ap (λ (ys : List Thread). take n (set xs n x) ++ ys) (sym (drop-set xs n x within))
    ∙ take-append-drop n (set xs n x))

pub all-seen : (n : ℕ) (xs : List Thread) (x : Thread) → n < length xs → all_of (seen n xs x) ≡ set xs n x
all-seen n xs x within = set-parts n xs x within

pub number-seen : (n : ℕ) (xs : List Thread) (x : Thread) → n < length xs → current_number (seen n xs x) ≡ n
number-seen n xs x within = omega (arith, length-take n xs)

-- ---- turned to a number

pub all-turned : (t : ℕ) (xs : List Thread) → t < length xs → all_of (turned_to t xs) ≡ xs
unfolding turned_to
all-turned t xs within = set-parts t xs (get_or xs t never) within ∙ set-get_or xs t never

pub number-turned : (t : ℕ) (xs : List Thread) → t < length xs → current_number (turned_to t xs) ≡ t
unfolding turned_to
number-turned t xs within = omega (arith, length-take t xs)

pub current-turned : (t : ℕ) (xs : List Thread) → (turned_to t xs).current ≡ get_or xs t never
unfolding turned_to
current-turned t xs = refl

pub turned-set : (n : ℕ) (xs : List Thread) (x : Thread) → n < length xs
    → turned_to n (set xs n x) ≡ seen n xs x
unfolding turned_to
turned-set n xs x within =
    ap (λ (ys : List Thread). parts ys (get_or (set xs n x) n never) (drop (n + 1) (set xs n x))) (take-set xs n x)
    ∙ ap (λ (y : Thread). parts (take n xs) y (drop (n + 1) (set xs n x))) (get_or-set_same xs n x never within)
    ∙ ap (λ (ys : List Thread). parts (take n xs) x ys) (drop-set-lt (n + 1) xs n x (omega arith))
  where
    parts : List Thread → Thread → List Thread → Threads
    parts before current after = record { before = before; current = current; after = after }

-- it is the number's own turn already
pub turned-self : (ts : Threads) → turned_to (current_number ts) (all_of ts) ≡ ts
unfolding turned_to
turned-self ts =
    ap (λ (ys : List Thread).
    parts ys (get_or (all_of ts) (current_number ts) never) (drop (current_number ts + 1) (all_of ts)))
    (take-append_seam ts.before (ts.current ∷ ts.after))
    ∙ ap (λ (y : Thread). parts ts.before y (drop (current_number ts + 1) (all_of ts)))
    (get_or-append_seam ts.before ts.current ts.after never)
    ∙ ap (λ (ys : List Thread). parts ts.before ts.current ys) (drop-append-add ts.before (ts.current ∷ ts.after) 1)
  where
    parts : List Thread → Thread → List Thread → Threads
    parts before current after = record { before = before; current = current; after = after }

-- ---- a write of one thread

set_again : (xs : List Thread) (n : ℕ) (x y : Thread) → set (set xs n x) n y ≡ set xs n y
set_again [] n x y = refl
set_again (z ∷ xs) zero x y = refl
set_again (z ∷ xs) (suc n) x y = ap (λ (ys : List Thread). z ∷ ys) (set_again xs n x y)

seen-with : (n : ℕ) (xs : List Thread) (x : Thread) (t : ℕ) (y : Thread) → n < length xs
    → with_thread (seen n xs x) t y ≡ turned_to n (set (set xs n x) t y)
unfolding with_thread
seen-with n xs x t y within =
    ap (λ (k : ℕ). turned_to k (set (all_of (seen n xs x)) t y)) (number-seen n xs x within)
    ∙ ap (λ (ys : List Thread). turned_to n (set ys t y)) (all-seen n xs x within)

pub with-current : (n : ℕ) (xs : List Thread) (x : Thread) (y : Thread) → n < length xs
    → with_thread (seen n xs x) n y ≡ seen n xs y
with-current n xs x y within =
    seen-with n xs x n y within ∙ ap (turned_to n) (set_again xs n x y) ∙ turned-set n xs y within

pub with-other : (n : ℕ) (xs : List Thread) (x : Thread) (t : ℕ) (y : Thread) → n < length xs → n ≢ t
    → with_thread (seen n xs x) t y ≡ seen n (set xs t y) x
with-other n xs x t y within apart =
    seen-with n xs x t y within ∙ ap (turned_to n) (set_comm xs n t x y apart)
    ∙ turned-set n (set xs t y) x (omega (arith, length-set xs t y))

-- ---- there are eight

pub eight-seen : (n : ℕ) (xs : List Thread) (x : Thread) → n < 8 → length xs ≡ 8 → AreThreads (seen n xs x)
eight-seen n xs x below eight = record { eight = ap length (all-seen n xs x (omega arith)) ∙ length-set xs n x ∙ eight }

pub eight-model : (s : ThreadSet) → AreThreads (threads_model s)
eight-model s = eight-seen s.number s.others s.active s.below s.eight

pub number-below : (ts : Threads) → AreThreads ts → current_number ts < 8
number-below ts sound = omega (arith, sound.eight, length-append {A = Thread})

pub eight-turned : (t : ℕ) (xs : List Thread) → length xs ≡ 8 → t < 8 → AreThreads (turned_to t xs)
eight-turned t xs eight below = record { eight = ap length (all-turned t xs (omega arith)) ∙ eight }

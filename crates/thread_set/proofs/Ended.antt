-- How far a list of threads is ended.
use Rattle.std.proofs.Common.{arith, ◌≡◌, ◌≢◌, ◌∙◌, sym, subst, ap, refl, ℕ, ◌+◌, ◌<◌, ◌≤◌, ⊎_elim, List, length, map, take, drop, set, get_or, get_or-set_same, get_or-set_other}
use Rattle.std.proofs.Math.ListN.{length-set}
use Rattle.std.proofs.lemmas.List.{get_or_default, get_or-map, length-map, same_lists, take-map, drop-map}
use Rattle.std.proofs.lemmas.Bool.{cases_eq}
use Rattle.thread_set.specs.declared.Thread.{Thread}
use Rattle.thread_set.specs.Threads.{Threads, end_live, all_ended}
use Rattle.thread_set.proofs.Parts.{seen}

-- those before i are, and the others are as they were
pub record IsEndedTo (i : ℕ) (xs ys : List Thread) : Type 0 where
  pub same : length ys ≡ length xs
  pub done : (k : ℕ) (d : Thread) → k < i → k < length xs → get_or ys k d ≡ end_live (get_or xs k d)
  pub left : (k : ℕ) (d : Thread) → i ≤ k → get_or ys k d ≡ get_or xs k d

pub none-ended : (xs : List Thread) → IsEndedTo 0 xs xs
none-ended xs = record { same = refl; done = λ k d below within. absurd (omega arith); left = λ k d above. refl }

pub one-ended : (i : ℕ) (xs ys : List Thread) (x y : Thread) → IsEndedTo i xs ys → i < length xs
    → x ≡ get_or ys i x → y ≡ end_live x
    → IsEndedTo (i + 1) xs (set ys i y)
one-ended i xs ys x y so_far within read written =
    record {
      same = length-set ys i y ∙ so_far.same;
      done = λ k d below inside. ⊎_elim
          (λ (here : k ≡ i). subst (λ (j : ℕ). get_or (set ys i y) j d ≡ end_live (get_or xs j d)) (sym here) (at_it d))
          (λ (other : k ≢ i). get_or-set_other ys i k y d other ∙ so_far.done k d (omega (arith, other)) inside)
          (cases_eq k i);
      left = λ k d above.
          let other : k ≢ i = λ e. absurd (omega arith) in
          get_or-set_other ys i k y d other ∙ so_far.left k d (omega arith);
    }
  where
    at_it : (d : Thread) → get_or (set ys i y) i d ≡ end_live (get_or xs i d)
    at_it d =
        get_or-set_same ys i y d (omega (arith, so_far.same)) ∙ written
        ∙ ap end_live (read ∙ so_far.left i x (omega arith) ∙ get_or_default xs i x d within)

all-ended : (i : ℕ) (xs ys : List Thread) → IsEndedTo i xs ys → length xs ≤ i → ys ≡ map end_live xs
all-ended i xs ys so_far past =
    same_lists ys (map end_live xs) (so_far.same ∙ sym (length-map xs end_live))
    (λ k d within.
    let inside : k < length xs = subst (λ (n : ℕ). k < n) so_far.same within in
    so_far.done k d (omega arith) inside ∙ ap end_live (get_or_default xs k d d inside) ∙ sym (get_or-map end_live xs k d d inside))

pub seen-ended : (n i : ℕ) (xs ys : List Thread) (x y : Thread) → IsEndedTo i xs ys → length xs ≤ i
    → y ≡ end_live x
    → seen n ys y ≡ all_ended (seen n xs x)
unfolding all_ended
seen-ended n i xs ys x y so_far past written =
    ap (λ (zs : List Thread). seen n zs y) (all-ended i xs ys so_far past)
    ∙ (ap (λ (z : Thread). seen n (map end_live xs) z) written
    ∙ (ap (λ (zs : List Thread). parts zs (drop (n + 1) (map end_live xs))) (take-map end_live n xs)
    ∙ ap (λ (zs : List Thread). parts (map end_live (take n xs)) zs) (drop-map end_live (n + 1) xs)))
  where
    parts : List Thread → List Thread → Threads
    parts before after = record { before = before; current = end_live x; after = after }

-- What a domain's pool consists of at first, and which frames read zero.
use Rattle.std.proofs.Common.{◌≡◌, ◌≢◌, ℕ, zero, suc, ◌+◌, ◌%◌, ◌<◌, ◌≤◌, false, true, List, [], ◌∷◌, ◌++◌, length, get_or, take, drop, refl, ap, sym, ◌∙◌, ◌⊎◌, arith, true≢false}
use Rattle.std.proofs.lemmas.Bool.{and_parts}
use Rattle.std.proofs.lemmas.List.{take-append-drop, drop_more}
use Rattle.tp_base.specs.Table.{put, empty, at}
use Rattle.phys_mem.specs.Mem.{Frame, frame_at, word, word-empty}
use Rattle.frame_colours.specs.Colours as colours
use Rattle.frame_colours.specs.Colours.{has}
use Rattle.hardware_check.specs.Hardware.{colours_of}
use Rattle.image_check.specs.Own.{Own}
use Rattle.image_check.specs.Pages.{regions_in, pages_in, frames_in}
use Rattle.image_check.specs.Laws.{Runnable}
use Rattle.image_check.specs.Image.{Image, own_of}
use Rattle.world_view.specs.Frames.{own_frame, pool, pool_frame, root_of, clone_frames, first_tables, page_frames, free_frames}
use Rattle.world_view.specs.Opening.{all_placed}
use Rattle.world_view.specs.Machine.{with_hart, opening, alone_opening}
use Rattle.world_view.specs.Relations.{IsDomain, IsOwnFrame}
use Rattle.world_view.proofs.opening.PoolLaws.{pool_own}
use Rattle.world_view.proofs.opening.Separate.{Separated, all_domains, list_is}
use Rattle.world_view.proofs.opening.OpeningLaws.{placed_past, placed_other, none_placed, opening_frames}

pub drop_twice : (n m : ℕ) (xs : List ℕ) → drop m (drop n xs) ≡ drop (n + m) xs
drop_twice zero m xs = ap (λ k. drop k xs) (omega arith)
drop_twice (suc n) m [] = none m ∙ sym (none (suc n + m))
  where
    none : (k : ℕ) → drop {A = ℕ} k [] ≡ []
    none zero = refl
    none (suc k) = refl
drop_twice (suc n) m (x ∷ xs) = let next : suc n + m ≡ suc (n + m) = omega arith in rw next (drop_twice n m xs)

-- a list in parts, with one item between
parts_of : (a b : ℕ) (xs : List ℕ) → 5 ≤ length xs
    → xs ≡ take 4 xs ++ get_or xs 4 0 ∷ (take a (drop 5 xs) ++ (take b (drop (5 + a) xs) ++ drop (5 + a + b) xs))
parts_of a b xs long =
    let rest : drop (5 + a) xs ≡ take b (drop (5 + a) xs) ++ drop (5 + a + b) xs =
    sym (take-append-drop b (drop (5 + a) xs))
    ∙ ap (λ ys. take b (drop (5 + a) xs) ++ ys) (drop_twice (5 + a) b xs) in
    let tables : drop 5 xs ≡ take a (drop 5 xs) ++ drop (5 + a) xs =
    sym (take-append-drop a (drop 5 xs)) ∙ ap (λ ys. take a (drop 5 xs) ++ ys) (drop_twice 5 a xs) in
    sym (take-append-drop 4 xs)
    ∙ ap (λ ys. take 4 xs ++ ys) (drop_more xs 4 0 (omega (arith, long))
    ∙ ap (λ ys. get_or xs 4 0 ∷ ys) (tables ∙ ap (λ ys. take a (drop 5 xs) ++ ys) rest))

module _ (i : Image) (r : Separated i) where
  pub pool_parts : (d : ℕ) → IsDomain i d → let p = i.all.hardware in let o = own_of i d in
      pool p o ≡ clone_frames p o ++ root_of p o ∷ (first_tables p o ++ (page_frames p o ++ free_frames p o))
  unfolding colours.frame_at
  pool_parts d is =
      let ss = (own_of i d).segments in
      let enough = r.enough d is in
      parts_of (regions_in ss) (pages_in ss) (pool i.all.hardware (own_of i d)) (omega (arith, enough))

  pub opened_zero : (d n j : ℕ) → IsDomain i d → n < length (pool i.all.hardware (own_of i d))
      → (n < 4) ⊎ (frames_in (own_of i d).segments ≤ n)
      → word (opening i).storage.mem (pool_frame i.all.hardware (own_of i d) n) j ≡ 0
  unfolding alone_opening word
  opened_zero d n j is within past =
      let p = i.all.hardware in
      let o = own_of i d in
      let f = pool_frame p o n in
      ap (λ (x : Frame). at 0 x j) (opening_frames i r d is f (pool_own p o n within)
      ∙ placed_past p o (r.enough d is) n within past empty) ∙ word-empty f j

  pub opened_elsewhere : (f j : ℕ)
      → ((d : ℕ) → IsDomain i d → own_frame i.all.hardware (own_of i d) f ≡ false)
      → word (opening i).storage.mem f j ≡ 0
  unfolding opening word with_hart at put
  opened_elsewhere f j out =
      ap (λ (x : Frame). at 0 x j)
      (ap (λ (os : List Own). frame_at (all_placed i.all.hardware os) f) (all_domains i r.counted)
      ∙ none_placed i.all.hardware i.owns f (λ e ie. placed_other i.all.hardware (own_of i e) (r.enough e ie)) out)
      ∙ word-empty f j

-- none of a domain's frames has colour 0
pub no_kernel_colour : (i : Image) (d f : ℕ) → Runnable i → IsDomain i d
    → IsOwnFrame i.all.hardware (own_of i d) f → f % colours_of i.all.hardware ≢ 0
no_kernel_colour i d f r is own nought =
    let named : has (own_of i d).colours 0 ≡ true = ap (has (own_of i d).colours) (sym nought) ∙ (and_parts _ _ own).1 in
    true≢false (sym named ∙ ap (λ (cs : List ℕ). has cs 0) (sym (list_is i r d is)) ∙ r.disjoint.no_zero d)

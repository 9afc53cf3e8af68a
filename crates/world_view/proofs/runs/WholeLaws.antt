-- The whole machine beside each domain alone, slot after slot.
use Rattle.std.proofs.Common.{◌≡◌, ℕ, suc, ◌<◌, length, get_or, List, [], ◌∷◌, ap, ap₂, refl, arith, map}
use Rattle.hardware_check.specs.Hardware.{Hardware}
use Rattle.image_check.specs.Own.{Own}
use Rattle.world_view.specs.Frames.{pool}
use Rattle.phys_mem.specs.Mem.{frame_at}
use Rattle.world_view.specs.Opening.{frame_words}
use Rattle.call_table.specs.Domain.{Dom}
use Rattle.world_view.specs.Event.{Storage}
use Rattle.world_view.specs.View.{view}
use Rattle.world_view.specs.Relations.{SameFrames}
use Rattle.world_view.proofs.opening.PoolLaws.{own_at_place}

-- what agrees on each item gives the same list
same_map : {B : Type 0} (f g : ℕ → B) (xs : List ℕ)
    → ((n : ℕ) → n < length xs → f (get_or xs n 0) ≡ g (get_or xs n 0)) → map f xs ≡ map g xs
same_map f g [] same = refl
same_map f g (x ∷ xs) same = ap₂ (λ y ys. y ∷ ys) (same 0 (omega arith)) (same_map f g xs (λ n h. same (suc n) (omega (arith, h))))

pub same_view : (p : Hardware) (o : Own) (d e : Dom) (s t : Storage) → d ≡ e → SameFrames p o s.mem t.mem
    → view p o d s ≡ view p o e t
unfolding view
same_view p o d e s t dom frames =
    let same =
    same_map (λ f. frame_words (frame_at s.mem f)) (λ f. frame_words (frame_at t.mem f)) (pool p o)
    (λ n h. ap frame_words (frames _ (own_at_place p o n h))) in
    ap₂ (λ (x : Dom) (y : List (List ℕ)). record (view p o x s) { frames = y }) dom same

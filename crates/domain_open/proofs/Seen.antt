-- What is seen of a domain of the code, and of the definitions.
use Rattle.std.proofs.Common.{◌≡◌, ℕ, suc, ◌+◌, ◌*◌, ◌<◌, List, [], ◌∷◌, length, get_or, map, refl, sym, ap, ap₂, subst, subst₂, arith}
use Rattle.std.specs.List.{All}
use Rattle.std.proofs.lemmas.List.Edits.{length-between}
use Rattle.std.proofs.lemmas.List.FromFn.{fill_by_all}
use Rattle.tp_base.specs.Table.{at}
use Rattle.phys_mem.specs.Contents as contents
use Rattle.phys_mem.specs.Contents.{Contents}
use Rattle.phys_mem.specs.Holds.{Holds}
use Rattle.phys_mem.specs.Mem.{Mem, frame_at, word}
use Rattle.frame_colours.specs.Colours as colours
use Rattle.frame_colours.specs.Colours.{Share}
use Rattle.frame_colours.specs.FreeList.{FreeList}
use Rattle.thread_set.specs.Threads.{all_of}
use Rattle.call_table.specs.Domain.{Dom}
use Rattle.kernel_call.specs.declared.domain.Domain.{Domain}
use Rattle.kernel_call.specs.Logs.{log_of}
use Rattle.kernel_call.specs.Models.{dom_model, Stands}
use Rattle.kernel_call.specs.Facts.{Has}
use Rattle.hardware_check.specs.Hardware.{Hardware}
use Rattle.image_check.specs.Own.{Own}
use Rattle.image_check.specs.Pages.{share_of}
use Rattle.world_view.specs.Event.{Storage}
use Rattle.world_view.specs.Frames.{pool}
use Rattle.world_view.specs.Kernel.{estate}
use Rattle.world_view.specs.Seen.{seen_of}
use Rattle.world_view.specs.Opening.{frame_words}
use Rattle.world_view.specs.View.{View, view}
use Rattle.world_view.proofs.opening.PoolLaws.{in_pool}
use Rattle.domain_open.proofs.PoolReads.{either_default}

-- ---- words

frame_is : (memory : Contents) (m : Mem) (f : ℕ) → Holds memory m → f < memory.frames
    → contents.frame_words memory f ≡ frame_words (frame_at m f)
unfolding frame_words word
frame_is memory m f holds within =
    let all : length (contents.frame_words memory f) ≡ 1024 =
    omega (arith, holds.size, length-between memory.words (1024 * f) (1024 * f + 1024)) in
    fill_by_all (at 0 (frame_at m f)) (contents.frame_words memory f) 1024 0 all (λ k h. holds.same f k within h)

frames_are : (memory : Contents) (m : Mem) (fs : List ℕ) → Holds memory m
    → ((n : ℕ) → n < length fs → get_or fs n 0 < memory.frames)
    → map (contents.frame_words memory) fs ≡ map (λ g. frame_words (frame_at m g)) fs
frames_are memory m [] holds within = refl
frames_are memory m (f ∷ fs) holds within =
    ap₂ (λ x xs. x ∷ xs) (frame_is memory m f holds (within 0 (omega arith)))
    (frames_are memory m fs holds (λ n h. within (suc n) (omega arith)))

-- ---- a domain with its estate

module _ (p : Hardware) (o : Own) (x : Domain) (has : Has (estate p o) x) where
  share_is : x.pool.share ≡ share_of p o
  unfolding estate
  share_is = ap (λ (list : FreeList). list.share) has.pool

  -- the frames of its pool
  pub pool_is : colours.pool x.pool.share ≡ pool p o
  pool_is = ap (λ (s : Share). colours.pool s) share_is

  module _ (memory : Contents) (frames : memory.frames ≡ p.frames) where
    pub pool_in_memory : All (λ f. f < memory.frames) (colours.pool x.pool.share)
    pool_in_memory =
        subst (λ (s : Share). All (λ f. f < memory.frames) (colours.pool s)) (sym share_is)
        (λ k d h. subst₂ (λ (f size : ℕ). f < size) (either_default (pool p o) k 0 d h) (sym frames) (in_pool p o k h))

    pub view_is : (m : Dom) (s : Storage) → Stands x m → Holds memory s.mem → seen_of x memory ≡ view p o m s
    unfolding view
    view_is m s stands holds =
        let fs = map (λ f. frame_words (frame_at s.mem f)) (pool p o) in
        let seen : Dom → View =
        λ d. record {
          status = d.status;
          retired = d.retired;
          threads = all_of d.threads;
          readings = log_of m.readings;
          replies = log_of m.replies;
          printed = d.printed;
          pool = pool p o;
          frames = fs;
        } in
        let same : seen (dom_model x m.readings m.replies) ≡ seen m = ap seen stands.same in
        let words : map (contents.frame_words memory) (pool p o) ≡ fs =
        frames_are memory s.mem (pool p o) holds
        (λ n h. subst (λ (size : ℕ). get_or (pool p o) n 0 < size) (sym frames) (in_pool p o n h)) in
        rw (share_is, stands.readings, stands.replies, words) same

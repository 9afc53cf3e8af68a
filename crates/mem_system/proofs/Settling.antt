-- Whether the dirty lines of who leaves are written back by the prefetch or by the flush makes no difference after both.
use Rattle.std.proofs.Common.{◌≡◌, ◌≢◌, ◌∙◌, sym, refl, ap, ap₂, subst, inl, inr, ℕ, ◌+◌, ◌%◌, ◌<◌, Bool, true, false, List, [], ◌∷◌, ◌++◌, Option, Some, None, arith}
use Rattle.std.specs.Prelude.{◌==◌, ◌||◌, ◌&&◌, not, All, map, if◌then◌else◌}
use Rattle.std.proofs.lemmas.List.Elements.{All-head, All-tail}
use Rattle.std.proofs.lemmas.Nat.{mod_below}
use Rattle.set_cache.specs.Cache.{CacheSet, Sets, set_at, touch_of, marked_of, with_number, dirty_lines}
use Rattle.set_cache.proofs.Steps.{set_at-touch_other}
use Rattle.set_cache.proofs.Dirty.{is_among, is_among-append, given_up_dirty, among-load, marked_by, marked_by-same, marked_by-none, marked_by-twice, is_here, is_here_of, here_among, set_at-marked}
use Rattle.mem_system.specs.Hierarchy.{Hierarchy}
use Rattle.mem_system.specs.Cost.{Load, Flush, Caches, Passed, Read, WriteBack, given_up, unless_hit, marked_where, below, below_if, below_by, below_all, fresh_core, flushed, accessed, on_core, pass_on, touched, touched_all, and_then}
use Rattle.mem_system.specs.Operations.{prefetch}
use Rattle.mem_system.specs.Sharing.{IsOwnSet, IsShared, IsSharing, SameSets, settled}
use Rattle.mem_system.specs.SharingLaws.{SettledLaw}
use Rattle.mem_system.proofs.OwnTouches.{shared_elsewhere, region_shared}

module _ (h : Hierarchy) where
  -- ---- what is written back, one line after the other

  -- what goes on first, and then the rest
  below_all-append : (pinned : Bool) (ps qs : List Passed) (sets : Sets)
      → (below_all h pinned sets (ps ++ qs)).l2 ≡ (below_all h pinned (below_all h pinned sets ps).l2 qs).l2
  unfolding below_all
  below_all-append pinned [] qs sets = refl
  below_all-append pinned (p ∷ ps) qs sets = below_all-append pinned ps qs (below h pinned sets p).l2

  module _ (s : ℕ) where
    abbrev set : Sets → CacheSet
    set sets = set_at h.l2.ways sets s

    -- whether a line is marked in this set when these are written back
    abbrev is_marked : List ℕ → ℕ → Bool
    is_marked lines n = h.back && is_here_of h.l2 s lines n

    written_if : (back : Bool) (sets : Sets) (line : ℕ)
        → set (marked_where (back && true) h sets line) ≡ marked_by (λ n. back && is_here h.l2 s line n) (set sets)
    written_if true sets line = set_at-marked h.l2 sets line s
    written_if false sets line = sym (marked_by-none (set sets))

    and_or : (a b c : Bool) → ((a && b) || (a && c)) ≡ (a && (b || c))
    and_or true b c = refl
    and_or false b c = refl

    and_none : (a : Bool) → (a && false) ≡ false
    and_none true = refl
    and_none false = refl

    written : (lines : List ℕ) (sets : Sets)
        → set (below_all h false sets (map WriteBack lines)).l2 ≡ marked_by (is_marked lines) (set sets)
    unfolding below_all below
    written [] sets =
        sym (marked_by-same (is_marked []) (λ _. false) (set sets) (λ n. and_none h.back) ∙ marked_by-none (set sets))
    written (line ∷ lines) sets =
        written lines (marked_where (h.back && true) h sets line)
        ∙ ap (marked_by (is_marked lines)) (written_if h.back sets line)
        ∙ marked_by-twice (is_marked lines) (λ n. h.back && is_here h.l2 s line n) (set sets)
        ∙ marked_by-same (λ n. (h.back && is_here h.l2 s line n) || is_marked lines n) (is_marked (line ∷ lines)) (set sets)
        (λ n. and_or h.back (is_here h.l2 s line n) (is_here_of h.l2 s lines n))

    settled_is : (c : Caches)
        → set (settled h c) ≡ marked_by (is_marked (dirty_lines h.l1d c.core.l1d)) (set c.l2)
    unfolding touched on_core flushed pass_on
    settled_is c = written (dirty_lines h.l1d c.core.l1d) c.l2

  given_is : (victim : Option ℕ) (dirty : Bool)
      → given_up victim dirty ≡ map WriteBack (with_number (if dirty then victim else None) [])
  given_is (Some line) true = refl
  given_is (Some line) false = refl
  given_is None true = refl
  given_is None false = refl

module _ (h : Hierarchy) (own : ℕ → Bool) (region : List ℕ) (sharing : IsSharing h own region) (some : 0 < h.l1d.count) where
  -- the read of a shared line leaves own sets
  read_leaves : (s : ℕ) → IsOwnSet h own s → (sets : Sets) (line : ℕ) → IsShared region line → (hit : Bool)
      → set_at h.l2.ways (below_all h false sets (unless_hit hit line)).l2 s ≡ set_at h.l2.ways sets s
  unfolding below_all below below_if below_by
  read_leaves s mine sets line shared true = refl
  read_leaves s mine sets line shared false =
      set_at-touch_other h.l2 sets line false s (shared_elsewhere h own region sharing s line mine shared)

  -- a load of a shared line marks what it gives up
  load_marks : (s : ℕ) → IsOwnSet h own s → (c : Caches) (line : ℕ) → IsShared region line
      → set_at h.l2.ways (touched h false c (Load line)).caches.l2 s
      ≡ marked_by (is_marked h s (with_number (given_up_dirty h.l1d c.core.l1d line) [])) (set_at h.l2.ways c.l2 s)
  unfolding touched on_core accessed pass_on
  load_marks s mine c line shared =
      let answer = (touch_of h.l1d c.core.l1d line false).answer in
      let given : List ℕ = with_number (given_up_dirty h.l1d c.core.l1d line) [] in
      ap (λ (sets : Sets). set_at h.l2.ways sets s)
      (below_all-append h false (given_up answer.victim answer.dirty_victim) (unless_hit answer.hit line) c.l2)
      ∙ read_leaves s mine (below_all h false c.l2 (given_up answer.victim answer.dirty_victim)).l2 line shared answer.hit
      ∙ ap (λ (ps : List Passed). set_at h.l2.ways (below_all h false c.l2 ps).l2 s) (given_is h answer.victim answer.dirty_victim)
      ∙ written h s given c.l2

  -- so nothing changes in what is settled
  load_settles : (s : ℕ) → IsOwnSet h own s → (c : Caches) (line : ℕ) → IsShared region line
      → set_at h.l2.ways (settled h (touched h false c (Load line)).caches) s ≡ set_at h.l2.ways (settled h c) s
  unfolding touched on_core accessed pass_on
  load_settles s mine c line shared =
      let after : Sets = (touch_of h.l1d c.core.l1d line false).next in
      let given : List ℕ = with_number (given_up_dirty h.l1d c.core.l1d line) [] in
      let left : List ℕ = dirty_lines h.l1d after in
      let all : List ℕ = dirty_lines h.l1d c.core.l1d in
      let its : CacheSet = set_at h.l2.ways c.l2 s in
      let here : ℕ → Bool = λ n. n % h.l2.count == s in
      settled_is h s (touched h false c (Load line)).caches
      ∙ ap (marked_by (is_marked h s left)) (load_marks s mine c line shared)
      ∙ marked_by-twice (is_marked h s left) (is_marked h s given) its
      ∙ marked_by-same (λ n. is_marked h s given n || is_marked h s left n) (is_marked h s all) its
      (λ n.
      and_or h s h.back (is_here_of h.l2 s given n) (is_here_of h.l2 s left n)
      ∙ ap (λ (b : Bool). h.back && b)
      (ap₂ (λ (a b : Bool). a || b) (here_among h.l2 s given n) (here_among h.l2 s left n)
      ∙ or_and (is_among n given) (is_among n left) (here n)
      ∙ ap (λ (b : Bool). b && here n) (among-load n h.l1d c.core.l1d line (mod_below line h.l1d.count some))
      ∙ sym (here_among h.l2 s all n)))
      ∙ sym (settled_is h s c)
    where
      or_and : (a b c : Bool) → ((a && c) || (b && c)) ≡ ((a || b) && c)
      or_and true true true = refl
      or_and true true false = refl
      or_and true false true = refl
      or_and true false false = refl
      or_and false b c = refl

  loads_settle : (s : ℕ) → IsOwnSet h own s → (lines : List ℕ) (c : Caches) → All (IsShared region) lines
      → set_at h.l2.ways (settled h (touched_all h false c (prefetch lines)).caches) s ≡ set_at h.l2.ways (settled h c) s
  unfolding prefetch touched_all and_then
  loads_settle s mine [] c shared = refl
  loads_settle s mine (line ∷ lines) c shared =
      loads_settle s mine lines (touched h false c (Load line)).caches (All-tail (IsShared region) line lines shared)
      ∙ load_settles s mine c line (All-head (IsShared region) line lines shared)

pub settled_law : SettledLaw
settled_law h own region c sharing some = λ s mine. loads_settle h own region sharing some s mine region c (region_shared region)

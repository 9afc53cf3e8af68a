-- Loads of the shared lines bring all of them into an empty second level, where each set has room for its own.
use Rattle.std.proofs.Common.{◌≡◌, ◌∙◌, ◌⊎◌, inl, inr, ℕ, zero, suc, ◌+◌, ◌*◌, ◌<◌, ◌≤◌, ◌%◌, Bool, true, false, cond, List, [], ◌∷◌, length, replicate, Option, Some, None, is_some, option_map, get_or, ap, sym, subst, refl, arith, true≢false, eq-eqb}
use Rattle.std.specs.Prelude.{count_by, slice_index, ◌==◌, ◌&&◌, map, ◌++◌}
use Rattle.std.proofs.lemmas.List.Sums.{sum_by-cons}
use Rattle.tp_base.specs.Table.{empty, at-put_by, at-empty}
use Rattle.set_cache.specs.declared.KeptLine.{KeptLine}
use Rattle.set_cache.specs.Cache.{Shape, CacheSet, Sets, fresh_set, set_at, is_line, way_of, step_of, touch_of, marked_if, marked_of}
use Rattle.set_cache.proofs.Steps.{IsFull, IsFull-empty, IsFull-touch, set_at-touch_same}
use Rattle.set_cache.proofs.Ways.{some_at}
use Rattle.set_cache.proofs.Dirty.{line_marked, marked_at, marked_by, is_here, set_at-marked}
use Rattle.std.proofs.lemmas.List.{length-map}
use Rattle.mem_system.specs.Hierarchy.{Hierarchy}
use Rattle.mem_system.specs.Cost.{Load, Caches, Passed, WriteBack, given_up, marked_where, fresh_core, cold, accessed, unless_hit, on_core, below_by, below_if, below, below_all, pass_on, touched, and_then, touched_all}
use Rattle.mem_system.specs.Operations.{prefetch}
use Rattle.mem_system.specs.Sharing.{HasRoom, Resident}
use Rattle.mem_system.proofs.ResidencyWays.{Stands, filled, Grows, only_touched, hit_stands, grows}

-- the line is one of the list
abbrev In : ℕ → List ℕ → Type 0
In line [] = ⊥
In line (first ∷ lines) = (line ≡ first) ⊎ In line lines

in_at : (lines : List ℕ) (i : ℕ) → i < length lines → In (slice_index lines i) lines
in_at [] i lt = absurd (omega arith)
in_at (line ∷ lines) zero lt = inl refl
in_at (line ∷ lines) (suc i) lt = inr (in_at lines i (omega arith))

-- ---- the second level alone

-- the line stands in the set of its number
abbrev StandsIn : Shape → Sets → ℕ → Type 0
StandsIn shape sets number = Stands number (set_at shape.ways sets (number % shape.count)).places

-- how many lines of the list a set has
abbrev lines_at : Shape → ℕ → List ℕ → ℕ
lines_at shape s lines = count_by (λ line. line % shape.count == s) lines

lines_at-cons : (shape : Shape) (s line : ℕ) (lines : List ℕ)
    → lines_at shape s (line ∷ lines) ≡ cond (line % shape.count == s) 1 0 + lines_at shape s lines
lines_at-cons shape s line lines = sum_by-cons (λ n. cond (n % shape.count == s) 1 0) line lines

one_here : (shape : Shape) (line : ℕ) → cond {A = ℕ} (line % shape.count == line % shape.count) 1 0 ≡ 1
one_here shape line = ap (λ (b : Bool). cond {A = ℕ} b 1 0) (eq-eqb (line % shape.count) (line % shape.count) refl)

-- every line of the list stands, and no set has more lines than it has of the list
record Holds (shape : Shape) (seen : List ℕ) (sets : Sets) : Type 0 where
  held : (line : ℕ) → In line seen → StandsIn shape sets line
  room : (s : ℕ) → filled (set_at shape.ways sets s).places ≤ lines_at shape s seen
  full : IsFull shape.ways sets

none_filled : (ways : ℕ) → filled (replicate ways None) ≡ 0
none_filled zero = refl
none_filled (suc ways) = none_filled ways

none_stands : (ways line : ℕ) → Stands line (replicate ways None) → ⊥
none_stands zero line (k, at) = true≢false (sym at)
none_stands (suc ways) line (zero, at) = true≢false (sym at)
none_stands (suc ways) line (suc k, at) = none_stands ways line (k, at)

holds_none : (shape : Shape) → Holds shape [] empty
holds_none shape = record {
  held = λ line is. absurd is;
  room = λ s. rw (at-empty (fresh_set shape.ways) s) (omega (arith, none_filled shape.ways));
  full = IsFull-empty shape.ways;
}

-- a touch of a line whose set has room for one more
holds_next : (shape : Shape) (seen : List ℕ) (sets : Sets) (line : ℕ)
    → lines_at shape (line % shape.count) seen < shape.ways
    → Holds shape seen sets → Holds shape (line ∷ seen) (touch_of shape sets line false).next
holds_next shape seen sets line enough holds =
    let s : ℕ = line % shape.count in
    let set : CacheSet = set_at shape.ways sets s in
    let new : CacheSet = (step_of shape.rule set line false).next in
    let grown : Grows line set.places new.places = grows shape.rule set line (omega (arith, enough, holds.room s, holds.full.each s)) in
    let by = at-put_by (fresh_set shape.ways) sets s new in
    let count : (k : ℕ) → lines_at shape k seen ≤ lines_at shape k (line ∷ seen) = λ k. omega (arith, lines_at-cons shape k line seen) in
    record {
      held = λ other is. elim is [
        | inl same ↦
            subst (StandsIn shape (touch_of shape sets line false).next) (sym same)
            (subst (λ (one : CacheSet). Stands line one.places) (sym (set_at-touch_same shape sets line false)) grown.here)
        | inr before ↦
            by (λ k (one : CacheSet). Stands other (set_at shape.ways sets k).places → Stands other one.places)
            (grown.keeps other) (λ k _ stands. stands) (other % shape.count) (holds.held other before)
      ];
      room = by (λ k (one : CacheSet). filled one.places ≤ lines_at shape k (line ∷ seen))
          (omega (arith, grown.room, holds.room s, lines_at-cons shape s line seen, one_here shape line))
          (λ k _. omega (arith, holds.room k, count k));
      full = IsFull-touch shape sets line false holds.full;
    }

-- ---- both levels

-- the first level holds lines of the list alone, and the second level all of them
record Loaded (h : Hierarchy) (seen : List ℕ) (c : Caches) : Type 0 where
  from : (s line : ℕ) → Stands line (set_at h.l1d.ways c.core.l1d s).places → In line seen
  l2 : Holds h.l2 seen c.l2

from_next : (shape : Shape) (seen : List ℕ) (sets : Sets) (line : ℕ)
    → ((s other : ℕ) → Stands other (set_at shape.ways sets s).places → In other seen)
    → (s other : ℕ) → Stands other (set_at shape.ways (touch_of shape sets line false).next s).places → In other (line ∷ seen)
from_next shape seen sets line from s other =
    let k : ℕ = line % shape.count in
    let set : CacheSet = set_at shape.ways sets k in
    at-put_by (fresh_set shape.ways) sets k (step_of shape.rule set line false).next
    (λ _ (one : CacheSet). Stands other one.places → In other (line ∷ seen))
    (λ stands. elim (only_touched shape.rule set line other stands) [
      | inl before ↦ inr (from k other before)
      | inr same ↦ inl same
    ])
    (λ j _ stands. inr (from j other stands)) s

-- a line of the list that is loaded again changes nothing below
again : (shape : Shape) (seen : List ℕ) (sets : Sets) (line : ℕ) → In line seen → Holds shape seen sets
    → Holds shape (line ∷ seen) sets
again shape seen sets line is holds = record {
  held = λ other at. elim at [
    | inl same ↦ subst (StandsIn shape sets) (sym same) (holds.held line is)
    | inr before ↦ holds.held other before
  ];
  room = λ s. omega (arith, holds.room s, lines_at-cons shape s line seen);
  full = holds.full;
}

-- ---- what is given up is marked, if at all, and moves nothing

stands_marked : (line : ℕ) (test : ℕ → Bool) (places : List (Option KeptLine)) → Stands line places
    → Stands line (map (marked_if test) places)
stands_marked line test places (way, at) =
    (way, ap (is_line line) (marked_at test places way) ∙ line_marked line test (get_or places way None) ∙ at)

filled_marked : (test : ℕ → Bool) (places : List (Option KeptLine))
    → filled (map (marked_if test) places) ≡ filled places
filled_marked test [] = refl
filled_marked test (None ∷ places) = filled_marked test places
filled_marked test (Some line ∷ places) =
    let rest = filled_marked test places in
    let new =
    sum_by-cons (λ (kept : Option KeptLine). cond (is_some kept) 1 0) (marked_if test (Some line))
    (map (marked_if test) places) in
    let old = sum_by-cons (λ (kept : Option KeptLine). cond (is_some kept) 1 0) (Some line) places in
    omega (arith, rest, new, old)

holds_marked : (shape : Shape) (seen : List ℕ) (sets : Sets) (line : ℕ) → Holds shape seen sets
    → Holds shape seen (marked_of shape sets line)
holds_marked shape seen sets line holds =
    let By : (ℕ → CacheSet → Type 0) → Type 0
    =
    λ P. (s : ℕ) → P s (marked_by (is_here shape s line) (set_at shape.ways sets s))
    → P s (set_at shape.ways (marked_of shape sets line) s) in
    let by : (P : ℕ → CacheSet → Type 0) → By P = λ P s its. subst (P s) (sym (set_at-marked shape sets line s)) its in
    record {
      held = λ other is.
          by (λ _ one. Stands other one.places) (other % shape.count)
          (stands_marked other (is_here shape (other % shape.count) line)
          (set_at shape.ways sets (other % shape.count)).places (holds.held other is));
      room = λ s.
          by (λ k one. filled one.places ≤ lines_at shape k seen) s
          (omega (arith, filled_marked (is_here shape s line) (set_at shape.ways sets s).places, holds.room s));
      full = record {
        each = λ s.
            by (λ _ one. length one.places ≡ shape.ways) s
            (length-map (set_at shape.ways sets s).places (marked_if (is_here shape s line)) ∙ holds.full.each s);
      };
    }

holds_where : (h : Hierarchy) (seen : List ℕ) (test : Bool) (sets : Sets) (line : ℕ) → Holds h.l2 seen sets
    → Holds h.l2 seen (marked_where test h sets line)
holds_where h seen true sets line holds = holds_marked h.l2 seen sets line holds
holds_where h seen false sets line holds = holds

given_holds : (h : Hierarchy) (seen : List ℕ) (sets : Sets) (victim : Option ℕ) (dirty : Bool)
    (passed : List Passed) → Holds h.l2 seen sets
    → (kept : Sets) × Holds h.l2 seen kept
    × ((below_all h false sets (given_up victim dirty ++ passed)).l2 ≡ (below_all h false kept passed).l2)
unfolding below_all below
given_holds h seen sets (Some line) true passed holds =
    (marked_where (h.back && true) h sets line, holds_where h seen (h.back && true) sets line holds, refl)
given_holds h seen sets (Some line) false passed holds = (sets, holds, refl)
given_holds h seen sets None dirty passed holds = (sets, holds, refl)

loaded_if : (h : Hierarchy) (seen : List ℕ) (c : Caches) (kept : Sets) (line : ℕ) (hit : Bool)
    → (touch_of h.l1d c.core.l1d line false).answer.hit ≡ hit
    → lines_at h.l2 (line % h.l2.count) seen < h.l2.ways → Loaded h seen c → Holds h.l2 seen kept
    → Holds h.l2 (line ∷ seen) (below_all h false kept (unless_hit hit line)).l2
unfolding below_all below below_if below_by
loaded_if h seen c kept line true hit enough loaded holds =
    let s : ℕ = line % h.l1d.count in
    again h.l2 seen kept line (loaded.from s line (hit_stands h.l1d.rule (set_at h.l1d.ways c.core.l1d s) line hit)) holds
loaded_if h seen c kept line false miss enough loaded holds = holds_next h.l2 seen kept line enough holds

loaded_next : (h : Hierarchy) (seen : List ℕ) (c : Caches) (line : ℕ)
    → lines_at h.l2 (line % h.l2.count) seen < h.l2.ways
    → Loaded h seen c → Loaded h (line ∷ seen) (touched h false c (Load line)).caches
unfolding touched pass_on on_core accessed
loaded_next h seen c line enough loaded =
    let answer = (touch_of h.l1d c.core.l1d line false).answer in
    let given = given_holds h seen c.l2 answer.victim answer.dirty_victim (unless_hit answer.hit line) loaded.l2 in
    record {
      from = from_next h.l1d seen c.core.l1d line loaded.from;
      l2 =
          subst (Holds h.l2 (line ∷ seen)) (sym given.2)
          (loaded_if h seen c given.0 line answer.hit refl enough loaded given.1);
    }

-- each set has room for what it has of both lists
abbrev HasRoomFor : Shape → List ℕ → List ℕ → Type 0
HasRoomFor shape seen lines = (s : ℕ) → lines_at shape s seen + lines_at shape s lines ≤ shape.ways

all_loaded : (h : Hierarchy) (lines seen : List ℕ) (c : Caches) → HasRoomFor h.l2 seen lines → Loaded h seen c
    → (line : ℕ) → In line lines ⊎ In line seen → StandsIn h.l2 (touched_all h false c (prefetch lines)).caches.l2 line
unfolding prefetch touched_all and_then
all_loaded h [] seen c room loaded line (inl is) = absurd is
all_loaded h [] seen c room loaded line (inr is) = loaded.l2.held line is
all_loaded h (first ∷ lines) seen c room loaded line is =
    let s : ℕ = first % h.l2.count in
    let enough : lines_at h.l2 s seen < h.l2.ways = omega (arith, room s, lines_at-cons h.l2 s first lines, one_here h.l2 first) in
    all_loaded h lines (first ∷ seen) (touched h false c (Load first)).caches
    (λ k. omega (arith, room k, lines_at-cons h.l2 k first lines, lines_at-cons h.l2 k first seen))
    (loaded_next h seen c first enough loaded) line
    (elim is [ inl (inl same) ↦ inr (inl same) | inl (inr later) ↦ inl later | inr before ↦ inr (inr before) ])

loaded_none : (h : Hierarchy) → Loaded h [] (cold h)
unfolding cold fresh_core
loaded_none h = record {
  from =
      λ s line stands. none_stands h.l1d.ways line
      (subst (λ (set : CacheSet). Stands line set.places) (at-empty (fresh_set h.l1d.ways) s) stands);
  l2 = holds_none h.l2;
}

pub resident : (h : Hierarchy) (region : List ℕ) → HasRoom h region
    → Resident h region (touched_all h false (cold h) (prefetch region)).caches.l2
resident h region room i lt =
    let line : ℕ = slice_index region i in
    let l2 : Sets = (touched_all h false (cold h) (prefetch region)).caches.l2 in
    let stands = all_loaded h region [] (cold h) (λ s. omega (arith, room s)) (loaded_none h) line (inl (in_at region i lt)) in
    let places : List (Option KeptLine) = (set_at h.l2.ways l2 (line % h.l2.count)).places in
    some_mapped (λ way. (line % h.l2.count) * h.l2.ways + way) (way_of line places) (some_at line places stands.0 stands.1)
  where
    some_mapped : (place : ℕ → ℕ) (found : Option ℕ) → is_some found ≡ true
        → is_some (option_map place found) ≡ true
    some_mapped place None t = t
    some_mapped place (Some way) t = t

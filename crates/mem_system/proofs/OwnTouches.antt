-- What a domain touches: beside others it costs the same as alone, and another's touches leave its sets.
use Rattle.std.proofs.Common.{◌≡◌, ◌≢◌, ◌∙◌, sym, refl, ap, ap₂, subst, inl, inr, ◌⊎◌, true≢false, ne_eqb, eq-eqb, ℕ, ◌+◌, ◌*◌, ◌%◌, ◌<◌, Bool, true, false, List, [], ◌∷◌, ◌++◌, length, Option, Some, None}
use Rattle.std.specs.Prelude.{◌==◌, ◌&&◌, not, if◌then◌else◌, All, is_some, option_map, slice_index}
use Rattle.std.proofs.lemmas.List.Elements.{All-nil, All-cons, All-head, All-tail, All-weaker, All-from_get_or}
use Rattle.tp_base.specs.Table.{at-put, at-put_by}
use Rattle.set_cache.specs.Rule.{Rule}
use Rattle.set_cache.specs.Cache.{Shape, CacheSet, Sets, fresh_set, set_at, way_of, step_by, step_of, touch_of, place_of, marked_of, EachDirty}
use Rattle.set_cache.specs.declared.KeptLine.{KeptLine}
use Rattle.set_cache.specs.declared.Touch.{Touch as Answer}
use Rattle.set_cache.proofs.Steps.{set_at-touch_other}
use Rattle.set_cache.proofs.Dirty.{EachDirty-touch, EachDirty-empty, EachDirty-weaker, marked_by, is_here, set_at-marked, set_at-marked_other, held_marked}
use Rattle.l2_colour.specs.Colours.{colour_of_set}
use Rattle.mem_system.specs.Hierarchy.{Hierarchy, colour_of_line}
use Rattle.mem_system.specs.Cost.{Touch, Fetch, Load, Store, WalkRead, Look, Branch, Jump, EmptyTlb, Flush, Charge, Core, Caches, Passed, Read, WriteBack, Below, missed_cost, marked_where, below, below_if, below_by, below_all, fresh_core, fetched, accessed, guessed, branched, jumped, flushed, on_core, pass_on, touched, touched_all, and_then}
use Rattle.mem_system.specs.TouchLaws.{lines_in_l2, holds}
use Rattle.mem_system.proofs.TouchLaws.{set_colour, line_elsewhere, Spares, touch_spares, handed_on, below_if_held, looked_l1d}
use Rattle.mem_system.specs.Operations.{prefetch}
use Rattle.mem_system.specs.Sharing.{IsOwnLine, IsOwnSet, IsShared, IsSharing, AreApart, OwnDirty, MayTouch, MayTouchAll, SameSets, Resident, BesideL2, BesideCaches, BesideTouched}
use Rattle.mem_system.specs.SharingLaws.{PrefetchStaysLaw, BesideLaw, OthersLaw, OwnDirtyLaw, StaysResidentLaw, PrefetchLaw}

-- ---- one cache

-- equal sets step alike
module _ (shape : Shape) (sets others : Sets) (line : ℕ)
    (here : set_at shape.ways sets (line % shape.count) ≡ set_at shape.ways others (line % shape.count)) where
  pub same_answer : (touch_of shape sets line false).answer ≡ (touch_of shape others line false).answer
  same_answer = ap (λ (set : CacheSet). (step_of shape.rule set line false).answer) here

  -- and stay equal, there and elsewhere
  same_step : (s : ℕ) → set_at shape.ways sets s ≡ set_at shape.ways others s
      → set_at shape.ways (touch_of shape sets line false).next s ≡ set_at shape.ways (touch_of shape others line false).next s
  same_step s same =
      let home : ℕ = line % shape.count in
      let its : CacheSet = set_at shape.ways sets home in
      let other : CacheSet = set_at shape.ways others home in
      rw (
        at-put (fresh_set shape.ways) sets home s (step_of shape.rule its line false).next,
        at-put (fresh_set shape.ways) others home s (step_of shape.rule other line false).next,
      ) (cc)

step_places : (rule : Rule) (set : CacheSet) (line : ℕ) (f : ℕ → ℕ) (way : Option ℕ)
    → is_some (option_map f way) ≡ true
    → (step_by rule set line false way).next.places ≡ set.places
step_places rule set line f (Some way) held = refl
step_places rule set line f None held = absurd (true≢false (sym held))

-- a load of a line that is held moves no line
pub held_places : (shape : Shape) (sets : Sets) (line : ℕ) → holds shape sets line ≡ true → (s : ℕ)
    → (set_at shape.ways (touch_of shape sets line false).next s).places ≡ (set_at shape.ways sets s).places
held_places shape sets line held =
    let home : ℕ = line % shape.count in
    let set : CacheSet = set_at shape.ways sets home in
    at-put_by (fresh_set shape.ways) sets home (step_of shape.rule set line false).next
    (λ s (next : CacheSet). next.places ≡ (set_at shape.ways sets s).places)
    (step_places shape.rule set line (λ way. home * shape.ways + way) (way_of line set.places) held) (λ s other. refl)

-- whether a line is held is read of the ways of its set
pub same_held : (shape : Shape) (sets others : Sets) (line : ℕ)
    → (set_at shape.ways sets (line % shape.count)).places ≡ (set_at shape.ways others (line % shape.count)).places
    → holds shape sets line ≡ holds shape others line
same_held shape sets others line =
    ap (λ (places : List (Option KeptLine)). is_some (option_map (λ way. line % shape.count * shape.ways + way) (way_of line places)))

-- equal sets are marked alike
same_marked : (shape : Shape) (sets others : Sets) (line s : ℕ)
    → set_at shape.ways sets s ≡ set_at shape.ways others s
    → set_at shape.ways (marked_of shape sets line) s ≡ set_at shape.ways (marked_of shape others line) s
same_marked shape sets others line s same =
    set_at-marked shape sets line s ∙ ap (marked_by (is_here shape s line)) same ∙ sym (set_at-marked shape others line s)

-- ---- the lines that a domain may touch

abbrev pub MayReach : Hierarchy → (ℕ → Bool) → List ℕ → ℕ → Type 0
MayReach h own region line = IsOwnLine h own line ⊎ IsShared region line

pub may_reach : (h : Hierarchy) (own : ℕ → Bool) (region : List ℕ) (touch : Touch)
    → MayTouch h own region touch
    → All (MayReach h own region) (lines_in_l2 touch)
may_reach h own region (Fetch line) may = All-cons (MayReach h own region) line [] (inl may) (All-nil (MayReach h own region))
may_reach h own region (Load line) may = All-cons (MayReach h own region) line [] may (All-nil (MayReach h own region))
may_reach h own region (Store line) may = All-cons (MayReach h own region) line [] (inl may) (All-nil (MayReach h own region))
may_reach h own region (WalkRead line) may = All-cons (MayReach h own region) line [] (inl may) (All-nil (MayReach h own region))
may_reach h own region (Look page reads found) may =
    All-weaker (IsOwnLine h own) (MayReach h own region) (λ line mine. inl mine) reads may
may_reach h own region (Branch pc taken target) may = All-nil (MayReach h own region)
may_reach h own region (Jump pc target) may = All-nil (MayReach h own region)
may_reach h own region EmptyTlb may = All-nil (MayReach h own region)
may_reach h own region Flush may = All-nil (MayReach h own region)
may_reach h own region (Charge cycles) may = All-nil (MayReach h own region)

-- what may go on to the second level: besides these, its dirty lines
abbrev pub MayPass : Hierarchy → (ℕ → Bool) → List ℕ → Passed → Type 0
MayPass h own region (Read line) = MayReach h own region line
MayPass h own region (WriteBack line) = IsOwnLine h own line

-- a domain stores to its own lines alone, so that no other is dirty
pub own_dirty : (h : Hierarchy) (own : ℕ → Bool) (region : List ℕ) (pinned : Bool) (c : Caches)
    (touch : Touch) → MayTouch h own region touch
    → OwnDirty h own c.core → OwnDirty h own (touched h pinned c touch).caches.core
unfolding touched on_core fetched accessed guessed branched jumped flushed fresh_core pass_on
own_dirty h own region pinned c (Fetch line) may dirty = dirty
own_dirty h own region pinned c (Load line) may dirty =
    EachDirty-touch (IsOwnLine h own) h.l1d c.core.l1d line false (λ is. absurd (true≢false (sym is))) dirty
own_dirty h own region pinned c (Store line) may dirty =
    EachDirty-touch (IsOwnLine h own) h.l1d c.core.l1d line true (λ _. may) dirty
own_dirty h own region pinned c (WalkRead line) may dirty = dirty
own_dirty h own region pinned c (Look page reads found) may dirty =
    subst (EachDirty (IsOwnLine h own) h.l1d)
    (sym (looked_l1d h c.core page reads found (is_some (place_of h.tlb c.core.tlb page)))) dirty
own_dirty h own region pinned c (Branch pc taken target) may dirty = dirty
own_dirty h own region pinned c (Jump pc target) may dirty = dirty
own_dirty h own region pinned c EmptyTlb may dirty = dirty
own_dirty h own region pinned c Flush may dirty = EachDirty-empty (IsOwnLine h own) h.l1d
own_dirty h own region pinned c (Charge cycles) may dirty = dirty

pub own_dirty_law : OwnDirtyLaw
unfolding touched_all and_then
own_dirty_law h own region pinned [] c may dirty = dirty
own_dirty_law h own region pinned (t ∷ ts) c may dirty =
    own_dirty_law h own region pinned ts (touched h pinned c t).caches may.1 (own_dirty h own region pinned c t may.0 dirty)

pub may_append : (h : Hierarchy) (own : ℕ → Bool) (region : List ℕ) (ts us : List Touch)
    → MayTouchAll h own region ts → MayTouchAll h own region us
    → MayTouchAll h own region (ts ++ us)
may_append h own region [] us may rest = rest
may_append h own region (t ∷ ts) us may rest = (may.0, may_append h own region ts us may.1 rest)

-- what one line or more cost at the second level, beside it alone
pub record BesideBelow (h : Hierarchy) (own : ℕ → Bool) (region : List ℕ) (first : Sets) (r alone : Below) : Type 0 where
  pub cost : r.cost ≡ alone.cost
  pub l2 : BesideL2 h own region first r.l2 alone.l2

module _ (h : Hierarchy) (own : ℕ → Bool) (region : List ℕ) (sharing : IsSharing h own region) where
  -- ---- whose sets the lines stand in

  pub shared_colour : (line : ℕ) → IsShared region line → colour_of_line h line ≡ 0
  shared_colour line (i, lt, same) = ap (colour_of_line h) same ∙ sharing.kernel i lt

  pub own_set : (line : ℕ) → IsOwnLine h own line → IsOwnSet h own (line % h.l2.count)
  own_set line mine = ap own (set_colour h line sharing.coloured) ∙ mine

  elsewhere : (s line : ℕ) → colour_of_set h.line_size s ≢ colour_of_line h line → s ≢ line % h.l2.count
  elsewhere s line apart = line_elsewhere h s line sharing.coloured apart

  own_differs : (colour other : ℕ) → own colour ≡ true → own other ≡ false → colour ≢ other
  own_differs colour other mine not_mine same = true≢false (sym mine ∙ ap own same ∙ not_mine)

  -- no shared line stands in an own set
  pub shared_elsewhere : (s line : ℕ) → IsOwnSet h own s → IsShared region line → s ≢ line % h.l2.count
  shared_elsewhere s line mine shared =
      let not_mine : own (colour_of_line h line) ≡ false = ap own (shared_colour line shared) ∙ sharing.not_kernel in
      elsewhere s line (own_differs (colour_of_set h.line_size s) (colour_of_line h line) mine not_mine)

  -- nor an own line in the set of a shared one
  own_elsewhere : (line i : ℕ) → i < length region → IsOwnLine h own line
      → slice_index region i % h.l2.count ≢ line % h.l2.count
  own_elsewhere line i lt mine same =
      shared_elsewhere (line % h.l2.count) (slice_index region i) (own_set line mine) (i, lt, refl) (sym same)

  pub own_unpinned : (line : ℕ) → IsOwnLine h own line → (colour_of_line h line == 0) ≡ false
  own_unpinned line mine = ne_eqb (colour_of_line h line) 0 (own_differs (colour_of_line h line) 0 mine sharing.not_kernel)

  pub shared_pinned : (line : ℕ) → IsShared region line → (colour_of_line h line == 0) ≡ true
  shared_pinned line shared = eq-eqb (colour_of_line h line) 0 (shared_colour line shared)

  -- ---- one line at both second levels

  own_below : (first sets alone : Sets) (line : ℕ) → BesideL2 h own region first sets alone
      → IsOwnLine h own line
      → BesideBelow h own region first (below_if false h sets line) (below_if false h alone line)
  unfolding below_if below_by missed_cost
  own_below first sets alone line beside mine =
      let here : set_at h.l2.ways sets (line % h.l2.count) ≡ set_at h.l2.ways alone (line % h.l2.count)
      = beside.same (line % h.l2.count) (own_set line mine) in
      record {
        cost =
            ap (λ (answer : Answer). h.costs.l2 + (if answer.hit then 0 else missed_cost h answer.dirty_victim))
            (same_answer h.l2 sets alone line here);
        l2 = record {
          same = λ s its. same_step h.l2 sets alone line here s (beside.same s its);
          resident = λ i lt.
              let stays = set_at-touch_other h.l2 sets line false (slice_index region i % h.l2.count) (own_elsewhere line i lt mine) in
              same_held h.l2 (touch_of h.l2 sets line false).next sets (slice_index region i) (ap (λ (set : CacheSet). set.places) stays)
              ∙ beside.resident i lt;
          outside = λ s not_own not_kernel.
              set_at-touch_other h.l2 sets line false s
              (elsewhere s line (λ same. own_differs (colour_of_line h line) (colour_of_set h.line_size s) mine not_own (sym same)))
              ∙ beside.outside s not_own not_kernel;
        };
      }

  -- a shared line is held beside others, and pinned alone
  shared_below : (first sets alone : Sets) (line : ℕ) → BesideL2 h own region first sets alone
      → IsShared region line
      → BesideBelow h own region first (below_if false h sets line) (below_if true h alone line)
  unfolding below_if below_by
  shared_below first sets alone line beside (i, lt, same) =
      let held : holds h.l2 sets line ≡ true = ap (holds h.l2 sets) same ∙ beside.resident i lt in
      record {
        cost = below_if_held h false sets line held;
        l2 = record {
          same = λ s its. set_at-touch_other h.l2 sets line false s (shared_elsewhere s line its (i, lt, same)) ∙ beside.same s its;
          resident = λ j below.
              same_held h.l2 (touch_of h.l2 sets line false).next sets (slice_index region j)
              (held_places h.l2 sets line held (slice_index region j % h.l2.count))
              ∙ beside.resident j below;
          outside = λ s not_own not_kernel.
              set_at-touch_other h.l2 sets line false s (elsewhere s line (λ e. not_kernel (e ∙ shared_colour line (i, lt, same))))
              ∙ beside.outside s not_own not_kernel;
        };
      }

  -- an own line is marked in both, if in any
  own_marked : (test : Bool) (first sets alone : Sets) (line : ℕ) → BesideL2 h own region first sets alone
      → IsOwnLine h own line
      → BesideL2 h own region first (marked_where test h sets line) (marked_where test h alone line)
  own_marked false first sets alone line beside mine = beside
  own_marked true first sets alone line beside mine = record {
    same = λ s its. same_marked h.l2 sets alone line s (beside.same s its);
    resident = λ i lt. held_marked h.l2 sets line (slice_index region i) ∙ beside.resident i lt;
    outside = λ s not_own not_kernel.
        set_at-marked_other h.l2 sets line s
        (elsewhere s line (λ same. own_differs (colour_of_line h line) (colour_of_set h.line_size s) mine not_own (sym same)))
        ∙ beside.outside s not_own not_kernel;
  }

  pub below_beside : (first sets alone : Sets) (one : Passed) → BesideL2 h own region first sets alone
      → MayPass h own region one
      → BesideBelow h own region first (below h false sets one) (below h true alone one)
  unfolding below
  below_beside first sets alone (Read line) beside (inl mine) =
      subst (λ (pinned : Bool). BesideBelow h own region first (below_if false h sets line) (below_if pinned h alone line))
      (sym (own_unpinned line mine)) (own_below first sets alone line beside mine)
  below_beside first sets alone (Read line) beside (inr shared) =
      subst (λ (pinned : Bool). BesideBelow h own region first (below_if false h sets line) (below_if pinned h alone line))
      (sym (shared_pinned line shared)) (shared_below first sets alone line beside shared)
  below_beside first sets alone (WriteBack line) beside mine = record {
    cost = refl;
    l2 =
        subst (λ (pinned : Bool).
        BesideL2 h own region first (marked_where (h.back && true) h sets line) (marked_where (h.back && not pinned) h alone line))
        (sym (own_unpinned line mine)) (own_marked (h.back && true) first sets alone line beside mine);
  }

  -- one after the other
  all_beside : (first : Sets) (passed : List Passed) (sets alone : Sets)
      → BesideL2 h own region first sets alone
      → All (MayPass h own region) passed → BesideBelow h own region first (below_all h false sets passed) (below_all h true alone passed)
  unfolding below_all
  all_beside first [] sets alone beside may = record { cost = refl; l2 = beside }
  all_beside first (p ∷ passed) sets alone beside may =
      let one = below_beside first sets alone p beside (All-head (MayPass h own region) p passed may) in
      let may_rest = All-tail (MayPass h own region) p passed may in
      let rest = all_beside first passed (below h false sets p).l2 (below h true alone p).l2 one.l2 may_rest in
      record { cost = ap₂ (λ (a b : ℕ). a + b) one.cost rest.cost; l2 = rest.l2 }

  -- ---- touches

  pub touch_beside : (first : Sets) (c alone : Caches) (touch : Touch) → BesideCaches h own region first c alone
      → MayTouch h own region touch
      → BesideTouched h own region first (touched h false c touch) (touched h true alone touch)
  unfolding touched pass_on
  touch_beside first c alone touch beside may =
      let passed = on_core h c.core touch in
      let goes = handed_on (MayPass h own region) h c.core touch (may_reach h own region touch may) beside.dirty in
      let b = all_beside first passed.passed c.l2 alone.l2 beside.l2 goes in
      let Beside : Core → Type 0
      = λ core. BesideTouched h own region first (touched h false c touch) (touched h true (record { core = core; l2 = alone.l2 }) touch) in
      subst Beside beside.core
      (record {
        cost = ap (λ (n : ℕ). passed.cost + n) b.cost;
        caches = record { core = refl; dirty = own_dirty h own region false c touch may beside.dirty; l2 = b.l2 };
      })

  pub touches_beside : (first : Sets) (ts : List Touch) (c alone : Caches)
      → BesideCaches h own region first c alone
      → MayTouchAll h own region ts → BesideTouched h own region first (touched_all h false c ts) (touched_all h true alone ts)
  unfolding touched_all and_then
  touches_beside first [] c alone beside may = record { cost = refl; caches = beside }
  touches_beside first (t ∷ ts) c alone beside may =
      let one = touch_beside first c alone t beside may.0 in
      let rest = touches_beside first ts (touched h false c t).caches (touched h true alone t).caches one.caches may.1 in
      record { cost = ap₂ (λ (a b : ℕ). a + b) one.cost rest.cost; caches = rest.caches }

  -- ---- another's touches

  others_spare : (others : ℕ → Bool) → AreApart own others → (s : ℕ) → IsOwnSet h own s → (line : ℕ)
      → MayReach h others region line
      → Spares h false s line
  others_spare others apart s mine line (inl theirs) = λ _.
      elsewhere s line (λ same. true≢false (sym theirs ∙ ap others (sym same) ∙ apart (colour_of_set h.line_size s) mine))
  others_spare others apart s mine line (inr shared) = λ _. shared_elsewhere s line mine shared

  pub others_leave : (others : ℕ → Bool) → AreApart own others → (ts : List Touch) (c : Caches)
      → MayTouchAll h others region ts
      → OwnDirty h others c.core → SameSets h own (touched_all h false c ts).caches.l2 c.l2
  unfolding touched_all and_then
  others_leave others apart [] c may dirty = λ s mine. refl
  others_leave others apart (t ∷ ts) c may dirty = λ s mine.
      let reached = may_reach h others region t may.0 in
      let spared = All-weaker (MayReach h others region) (Spares h false s) (others_spare others apart s mine) (lines_in_l2 t) reached in
      let theirs =
      EachDirty-weaker (IsOwnLine h others) (Spares h false s) h.l1d c.core.l1d
      (λ line its. others_spare others apart s mine line (inl its)) dirty in
      others_leave others apart ts (touched h false c t).caches may.1 (own_dirty h others region false c t may.0 dirty) s mine
      ∙ touch_spares h false c t s spared theirs

  -- ---- the shared lines stay

  -- whatever is written back
  abbrev MayRead : Passed → Type 0
  MayRead (Read line) = MayReach h own region line
  MayRead (WriteBack line) = Unit {0}

  marked_stays : (test : Bool) (sets : Sets) (line : ℕ) → Resident h region sets
      → Resident h region (marked_where test h sets line)
  marked_stays true sets line resident = λ i lt. held_marked h.l2 sets line (slice_index region i) ∙ resident i lt
  marked_stays false sets line resident = resident

  read_stays : (sets : Sets) (line : ℕ) → MayReach h own region line → Resident h region sets
      → Resident h region (touch_of h.l2 sets line false).next
  read_stays sets line (inl mine) resident = λ i lt.
      let stays = set_at-touch_other h.l2 sets line false (slice_index region i % h.l2.count) (own_elsewhere line i lt mine) in
      same_held h.l2 (touch_of h.l2 sets line false).next sets (slice_index region i) (ap (λ (set : CacheSet). set.places) stays)
      ∙ resident i lt
  read_stays sets line (inr (j, below, same)) resident = λ i lt.
      let held : holds h.l2 sets line ≡ true = ap (holds h.l2 sets) same ∙ resident j below in
      same_held h.l2 (touch_of h.l2 sets line false).next sets (slice_index region i)
      (held_places h.l2 sets line held (slice_index region i % h.l2.count))
      ∙ resident i lt

  below_stays : (one : Passed) (sets : Sets) → MayRead one → Resident h region sets
      → Resident h region (below h false sets one).l2
  unfolding below below_if below_by
  below_stays (Read line) sets may resident = read_stays sets line may resident
  below_stays (WriteBack line) sets may resident = marked_stays (h.back && true) sets line resident

  all_stay : (passed : List Passed) (sets : Sets) → All MayRead passed → Resident h region sets
      → Resident h region (below_all h false sets passed).l2
  unfolding below_all
  all_stay [] sets may resident = resident
  all_stay (one ∷ passed) sets may resident =
      all_stay passed (below h false sets one).l2 (All-tail MayRead one passed may)
      (below_stays one sets (All-head MayRead one passed may) resident)

  pub touches_stay : (ts : List Touch) (c : Caches) → MayTouchAll h own region ts → Resident h region c.l2
      → Resident h region (touched_all h false c ts).caches.l2
  unfolding touched_all and_then touched pass_on
  touches_stay [] c may resident = resident
  touches_stay (t ∷ ts) c may resident =
      touches_stay ts (touched h false c t).caches may.1
      (all_stay (on_core h c.core t).passed c.l2
      (handed_on MayRead h c.core t (may_reach h own region t may.0) (λ s way line at marked. tt)) resident)

-- ---- the prefetch

-- every domain may load shared lines
loads_may : (h : Hierarchy) (own : ℕ → Bool) (region lines : List ℕ) → All (IsShared region) lines
    → MayTouchAll h own region (prefetch lines)
unfolding prefetch
loads_may h own region [] shared = tt
loads_may h own region (line ∷ lines) shared =
    (inr (All-head (IsShared region) line lines shared), loads_may h own region lines (All-tail (IsShared region) line lines shared))

pub region_shared : (region : List ℕ) → All (IsShared region) region
region_shared region = All-from_get_or (IsShared region) region 0 (λ i lt. (i, lt, refl))

-- ---- the laws

pub beside_law : BesideLaw
beside_law h own region first ts c alone sharing may near = touches_beside h own region sharing first ts c alone near may

pub others_law : OthersLaw
others_law h own others region ts c sharing apart may dirty = others_leave h own region sharing others apart ts c may dirty

pub stays_law : StaysResidentLaw
stays_law h own region ts c sharing may resident = touches_stay h own region sharing ts c may resident

pub prefetch_may : (h : Hierarchy) (own : ℕ → Bool) (region : List ℕ)
    → MayTouchAll h own region (prefetch region)
prefetch_may h own region = loads_may h own region region (region_shared region)

pub prefetch_law : PrefetchLaw
prefetch_law h own others region c sharing apart dirty =
    others_leave h own region sharing others apart (prefetch region) c (prefetch_may h others region) dirty

pub prefetch_stays_law : PrefetchStaysLaw
prefetch_stays_law h own region c sharing resident =
    touches_stay h own region sharing (prefetch region) c (prefetch_may h own region) resident

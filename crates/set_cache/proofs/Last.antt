-- The line that was touched last: that it is so after a touch, and that a second touch of it changes nothing.
use Rattle.std.specs.Prelude.{IfSome}
use Rattle.std.proofs.Common.{◌≡◌, ℕ, ◌+◌, ◌*◌, ◌<◌, ◌≤◌, ◌%◌, ◌^◌, Bool, true, false, List, [], length, get_or, set, Option, Some, None, option_map, refl, ap, sym, subst, ◌∙◌, arith}
use Rattle.std.proofs.Math.ListN.{length-set}
use Rattle.std.proofs.lemmas.List.{get_or_default, set-get_or}
use Rattle.std.proofs.lemmas.List.Quantifiers.{position-Some}
use Rattle.std.proofs.lemmas.Nat.{mod_below, row_fits}
use Rattle.std.proofs.lemmas.Bool.{false≢true}
use Rattle.std.proofs.lemmas.Bool.Decides.{nat_tests}
use Rattle.set_cache.specs.Rule.{Rule}
use Rattle.set_cache.specs.declared.KeptLine.{KeptLine}
use Rattle.set_cache.specs.declared.cache.LastTouch.{LastTouch}
use Rattle.set_cache.specs.Cache.{Sets, is_line, is_dirty, way_of, place_of}
use Rattle.set_cache.specs.Contents.{KeptSet, Contents, StandsFor, IsSound, AreFirst, kept_at, shape_of}
use Rattle.set_cache.specs.Lines.{place_in}
use Rattle.set_cache.specs.Last.{IsLast, IsCache, set_in}
use Rattle.set_cache.specs.Calls.{IsTouch, IsGeometry}
use Rattle.set_cache.specs.Packed.{fresh_sets}
use Rattle.set_cache.proofs.Powers.{positive}
use Rattle.set_cache.proofs.Ways.{hit_answer, at_filled}
use Rattle.set_cache.proofs.Sets.{OneTouch, IsOfTable, with_set, of_new, OneHit, HitsWay, hit_places, fresh_cache, fresh_is_new, found_hit, touch_of_hit, table_hit, OneFill, FillsWay, touch_of_fill, table_fill, once_at}

-- the way at which the touched line stands then, and that the policy's state lets it be hit again
pub record LeavesLast (rule : Rule) (stands : ℕ → List ℕ → Type 0) (t : OneTouch) (way : ℕ) : Type 0 where
  pub found : way_of t.number t.new.places ≡ Some way
  pub again : (list : List ℕ) → stands t.new.state list → stands t.new.state (rule.touched list way)

abbrev pub last_of : ℕ → OneTouch → ℕ → LastTouch
last_of ways t way = record { number = t.number; place = t.set * ways + way }

-- a touched line was touched last
pub last_touched : {P : Type 0} (rule : P → ℕ → Rule) (stands : P → ℕ → ℕ → List ℕ → Type 0)
    (cache : Contents P) (t : OneTouch) (way : ℕ) → IsOfTable cache.table t
    → LeavesLast (rule cache.policy cache.ways) (stands cache.policy cache.ways) t way
    → IsLast rule stands (with_set cache t) (last_of cache.ways t way)
last_touched rule stands cache t way at left =
    let of : ℕ → List ℕ → Type 0 = stands cache.policy cache.ways in
    let touched : List ℕ → ℕ → List ℕ = (rule cache.policy cache.ways).touched in
    let index : t.number % length (with_set cache t).table ≡ t.set =
    of_new cache.table t at (λ (s : ℕ) (k : KeptSet). s) t.number (sym at.is) in
    let there : set_in (with_set cache t) t.number ≡ t.new =
    of_new cache.table t at (λ (s : ℕ) (k : KeptSet). k) t.number (sym at.is) in
    record {
      way = way;
      found = ap (λ (k : KeptSet). way_of t.number k.places) there ∙ left.found;
      place = ap (λ (s : ℕ). s * cache.ways + way) (sym index);
      again =
          subst (λ (k : KeptSet). (list : List ℕ) → of k.state list → of k.state (touched list way))
          (sym there) left.again;
    }

-- it stands at its place
pub last_place : {P : Type 0} (rule : P → ℕ → Rule) (stands : P → ℕ → ℕ → List ℕ → Type 0)
    (cache : Contents P) (last : LastTouch) → IsLast rule stands cache last
    → place_in cache last.number ≡ Some last.place
last_place rule stands cache last is =
    ap (option_map (λ (way : ℕ). (last.number % length cache.table) * cache.ways + way)) is.found
    ∙ ap Some (sym is.place)

-- the place of a line in the table of sets
pub place_stands : {P : Type 0} (takes : P → ℕ → Type 0) (rule : P → ℕ → Rule)
    (stands : P → ℕ → ℕ → List ℕ → Type 0) (cache : Contents P) → IsSound takes stands cache
    → (sets : Sets) → StandsFor stands cache sets
    → (number : ℕ) → place_in cache number ≡ place_of (shape_of rule cache) sets number
place_stands takes rule stands cache sound sets for number =
    let s : ℕ = number % length cache.table in
    let below : s < length cache.table =
    mod_below number (length cache.table) (positive (length cache.table) sound.power) in
    ap (λ (ps : List (Option KeptLine)). option_map (λ (way : ℕ). s * cache.ways + way) (way_of number ps))
    (sym (for.each s below).same)

-- a marked line, whole
marked_line : (number : ℕ) (line : Option KeptLine) → is_line number line ≡ true → is_dirty line ≡ true
    → line ≡ Some (record { number = number; dirty = true })
marked_line number None here dirty = absurd (false≢true here)
marked_line number (Some line) here dirty =
    let same : line.number ≡ number = grind (arith, nat_tests) in
    ap (λ (k : ℕ × Bool). Some (record { number = k.0; dirty = k.1 })) (λ j. (same j, dirty j))

-- a store to a marked line writes what is there
same_places : (places : List (Option KeptLine)) (way number : ℕ) (store : Bool)
    → way_of number places ≡ Some way → (store ≡ true → is_dirty (get_or places way None) ≡ true)
    → places ≡ hit_places places way number store
same_places places way number false found marked = refl
same_places places way number true found marked =
    let at = position-Some (is_line number) places way None found in
    let line = marked_line number (get_or places way None) at.1 (marked refl) in
    sym (set-get_or places way None) ∙ ap (set places way) line

-- a second touch of a line, that is no store or finds it marked, leaves the cache
pub touch_again : {P : Type 0} (takes : P → ℕ → Type 0) (rule : P → ℕ → Rule)
    (stands : P → ℕ → ℕ → List ℕ → Type 0)
    (cache : Contents P) (last : LastTouch) (store : Bool) → IsSound takes stands cache
    → (is : IsLast rule stands cache last)
    → (store ≡ true → is_dirty (get_or (set_in cache last.number).places is.way None) ≡ true)
    → IsTouch takes rule stands hit_answer last.number store cache cache
touch_again takes rule stands cache last store sound is marked =
    let table : List KeptSet = cache.table in
    let s : ℕ = last.number % length table in
    let below : s < length table =
    mod_below last.number (length table) (positive (length table) sound.power) in
    let hit : OneHit = record {
      number = last.number;
      store = store;
      way = is.way;
      set = s;
      old = kept_at table s;
      new = kept_at table s;
    } in
    let at : IsOfTable table (touch_of_hit hit) =
    record { is = refl; below = below; read = get_or_default table s _ _ below } in
    let hits : HitsWay (rule cache.policy cache.ways) (stands cache.policy cache.ways) hit = record {
      found = is.found;
      places = same_places
          (kept_at table s).places is.way last.number store is.found marked;
      touched = is.again;
    } in
    let same : with_set cache (touch_of_hit hit) ≡ cache =
    ap (λ (sets : List KeptSet). record { policy = cache.policy; ways = cache.ways; epoch = cache.epoch; table = sets })
    (set-get_or table s (record { places = []; state = 0 })) in
    subst (λ (new : Contents _). IsTouch takes rule stands hit_answer last.number store cache new) same
    (table_hit takes rule stands cache hit sound at hits)

-- the set of a line is in the table
pub set_below : {P : Type 0} (takes : P → ℕ → Type 0) (stands : P → ℕ → ℕ → List ℕ → Type 0)
    (cache : Contents P) (set number : ℕ) → IsSound takes stands cache → set ≡ number % length cache.table
    → set < length cache.table
set_below takes stands cache set number sound home =
    let below = mod_below number (length cache.table) (positive (length cache.table) sound.power) in
    omega (arith, below, home)

-- and a place in it is a number of 32 bits
pub place_fits : {P : Type 0} (takes : P → ℕ → Type 0) (stands : P → ℕ → ℕ → List ℕ → Type 0)
    (cache : Contents P) (set number ways way : ℕ) → IsSound takes stands cache → set ≡ number % length cache.table
    → ways ≡ cache.ways → way < cache.ways → set * ways + way < 2 ^ 32
place_fits takes stands cache set number ways way sound home same within =
    let below = set_below takes stands cache set number sound home in
    let row = row_fits set cache.ways (length cache.table) cache.ways below (omega arith) in
    subst (λ (w : ℕ). set * w + way < 2 ^ 32) (sym same) (omega (arith, row, within, sound.small))

-- its way is one of the cache's
pub way_below : {P : Type 0} (takes : P → ℕ → Type 0) (rule : P → ℕ → Rule)
    (stands : P → ℕ → ℕ → List ℕ → Type 0) (cache : Contents P) (last : LastTouch)
    → IsSound takes stands cache → (is : IsLast rule stands cache last) → is.way < cache.ways
way_below takes rule stands cache last sound is =
    let s : ℕ = last.number % length cache.table in
    let below = set_below takes stands cache s last.number sound refl in
    let full : length (kept_at cache.table s).places ≡ cache.ways = sound.full s _ below in
    let at = position-Some (is_line last.number) (kept_at cache.table s).places is.way None is.found in
    omega (arith, at.0, full)

-- and so is its place
pub last_below : {P : Type 0} (takes : P → ℕ → Type 0) (rule : P → ℕ → Rule)
    (stands : P → ℕ → ℕ → List ℕ → Type 0) (cache : Contents P) (last : LastTouch)
    → IsSound takes stands cache → IsLast rule stands cache last
    → last.place < length cache.table * cache.ways
last_below takes rule stands cache last sound is =
    let s : ℕ = last.number % length cache.table in
    let below = set_below takes stands cache s last.number sound refl in
    let way = way_below takes rule stands cache last sound is in
    let row = row_fits s cache.ways (length cache.table) cache.ways below (omega arith) in
    omega (arith, row, is.place, way)

-- ---- what a look-up tells

-- where a cache keeps a line
pub record IsPlaced {P : Type 0} (takes : P → ℕ → Type 0) (rule : P → ℕ → Rule) (stands : P → ℕ → ℕ → List ℕ → Type 0)
    (contents : Contents P) (number : ℕ) (place : Option ℕ) : Type 0 where
  pub here : place ≡ place_in contents number
  pub listed : (sets : Sets) → StandsFor stands contents sets
      → place ≡ place_of (shape_of rule contents) sets number
  pub below : IfSome place (λ p. p < length contents.table * contents.ways)
  pub sound : IsSound takes stands contents

-- the line that was touched last is at its place
pub last_placed : {P : Type 0} (takes : P → ℕ → Type 0) (rule : P → ℕ → Rule)
    (stands : P → ℕ → ℕ → List ℕ → Type 0) (cache : Contents P) (last : LastTouch)
    → IsSound takes stands cache → IsLast rule stands cache last
    → IsPlaced takes rule stands cache last.number (Some last.place)
last_placed takes rule stands cache last sound is =
    let here = sym (last_place rule stands cache last is) in
    record {
      here = here;
      listed = λ sets for. here ∙ place_stands takes rule stands cache sound sets for last.number;
      below = last_below takes rule stands cache last sound is;
      sound = sound;
    }

place_below : {P : Type 0} (takes : P → ℕ → Type 0) (stands : P → ℕ → ℕ → List ℕ → Type 0)
    (cache : Contents P) (number set : ℕ) (way : Option ℕ) → IsSound takes stands cache
    → set ≡ number % length cache.table → way ≡ way_of number (kept_at cache.table set).places
    → IfSome (option_map (λ w. set * cache.ways + w) way) (λ p. p < length cache.table * cache.ways)
place_below takes stands cache number set None sound home found = tt
place_below takes stands cache number set (Some way) sound home found =
    let below = set_below takes stands cache set number sound home in
    let full : length (kept_at cache.table set).places ≡ cache.ways = sound.full set _ below in
    let at = position-Some (is_line number) (kept_at cache.table set).places way None (sym found) in
    let row = row_fits set cache.ways (length cache.table) cache.ways below (omega arith) in
    omega (arith, row, at.0, full)

-- a line is where its set keeps it
pub set_placed : {P : Type 0} (takes : P → ℕ → Type 0) (rule : P → ℕ → Rule)
    (stands : P → ℕ → ℕ → List ℕ → Type 0) (cache : Contents P) (number set : ℕ) (way : Option ℕ)
    → IsSound takes stands cache → set ≡ number % length cache.table
    → way ≡ way_of number (kept_at cache.table set).places
    → IsPlaced takes rule stands cache number (option_map (λ w. set * cache.ways + w) way)
set_placed takes rule stands cache number set way sound home found =
    let here : option_map (λ w. set * cache.ways + w) way ≡ place_in cache number =
    ap (option_map (λ w. set * cache.ways + w)) found
    ∙ ap (λ (s : ℕ). option_map (λ w. s * cache.ways + w) (way_of number (kept_at cache.table s).places)) home in
    record {
      here = here;
      listed = λ sets for. here ∙ place_stands takes rule stands cache sound sets for number;
      below = place_below takes stands cache number set way sound home found;
      sound = sound;
    }

-- the set of a line is in the table, and fills in order
pub set_first : {P : Type 0} (takes : P → ℕ → Type 0) (stands : P → ℕ → ℕ → List ℕ → Type 0)
    (cache : Contents P) (set number : ℕ) → IsSound takes stands cache → set ≡ number % length cache.table
    → (set < length cache.table) × AreFirst (kept_at cache.table set).places
set_first takes stands cache set number sound home =
    let below = set_below takes stands cache set number sound home in (below, sound.first set _ below)

-- a cache of fresh sets is lawful, where no line was touched last
pub new_lawful : {P : Type 0} (takes : P → ℕ → Type 0) (rule : P → ℕ → Rule)
    (stands : P → ℕ → ℕ → List ℕ → Type 0) (policy : P) (count ways epoch fresh : ℕ) (last : LastTouch)
    → IsGeometry (takes policy) count ways → stands policy ways fresh [] → count < 2 ^ 32 → 2 ^ 32 ≤ last.number
    → IsCache takes rule stands (fresh_cache policy (fresh_sets count ways epoch fresh)) fresh last
new_lawful takes rule stands policy count ways epoch fresh last geometry is_fresh few none =
    let new = fresh_is_new takes stands policy count ways epoch fresh geometry is_fresh in
    record {
      sound = new.sound;
      few = rw (new.same_sets) few;
      fresh_stands = is_fresh;
      last_stands = λ small. absurd (omega (arith, small, none));
    }

-- ---- hits and fills of the whole cache

-- a hit of a line of the cache
pub record HitsCache {P : Type 0} (rule : P → ℕ → Rule) (stands : P → ℕ → ℕ → List ℕ → Type 0)
    (cache : Contents P) (h : OneHit) : Type 0 where
  pub home : h.set ≡ h.number % length cache.table
  pub old : h.old ≡ kept_at cache.table h.set
  pub hits : HitsWay (rule cache.policy cache.ways) (stands cache.policy cache.ways) h
  pub again : (list : List ℕ) → stands cache.policy cache.ways h.new.state list
      → stands cache.policy cache.ways h.new.state ((rule cache.policy cache.ways).touched list h.way)

pub of_table : {P : Type 0} (takes : P → ℕ → Type 0) (stands : P → ℕ → ℕ → List ℕ → Type 0)
    (cache : Contents P) (t : OneTouch) → IsSound takes stands cache → t.set ≡ t.number % length cache.table
    → t.old ≡ kept_at cache.table t.set → IsOfTable cache.table t
of_table takes stands cache t sound home old =
    let below = set_below takes stands cache t.set t.number sound home in
    record { is = home; below = below; read = old ∙ get_or_default cache.table t.set _ _ below }

-- what a touch leaves: the definition's cache, which is lawful
pub record Touches {P : Type 0} (takes : P → ℕ → Type 0) (rule : P → ℕ → Rule)
    (stands : P → ℕ → ℕ → List ℕ → Type 0)
    (cache : Contents P) (fresh : ℕ) (t : OneTouch) (last : LastTouch) : Type 0 where
  pub touch : IsTouch takes rule stands t.answer t.number t.store cache (with_set cache t)
  pub lawful : IsCache takes rule stands (with_set cache t) fresh last

touches : {P : Type 0} (takes : P → ℕ → Type 0) (rule : P → ℕ → Rule) (stands : P → ℕ → ℕ → List ℕ → Type 0)
    (cache : Contents P) (fresh : ℕ) (before : LastTouch) (t : OneTouch) (way : ℕ)
    → IsCache takes rule stands cache fresh before → IsOfTable cache.table t
    → IsTouch takes rule stands t.answer t.number t.store cache (with_set cache t)
    → LeavesLast (rule cache.policy cache.ways) (stands cache.policy cache.ways) t way
    → Touches takes rule stands cache fresh t (last_of cache.ways t way)
touches takes rule stands cache fresh before t way lawful at touch left = record {
  touch = touch;
  lawful = record {
    sound = touch.sound;
    few = rw (length-set cache.table t.set t.new) lawful.few;
    fresh_stands = lawful.fresh_stands;
    last_stands = λ _. last_touched rule stands cache t way at left;
  };
}

pub cache_hit : {P : Type 0} (takes : P → ℕ → Type 0) (rule : P → ℕ → Rule)
    (stands : P → ℕ → ℕ → List ℕ → Type 0)
    (cache : Contents P) (fresh : ℕ) (before : LastTouch) (h : OneHit)
    → IsCache takes rule stands cache fresh before → HitsCache rule stands cache h
    → Touches takes rule stands cache fresh (touch_of_hit h) (last_of cache.ways (touch_of_hit h) h.way)
cache_hit takes rule stands cache fresh before h lawful hit =
    let hits = hit.hits in
    let at = of_table takes stands cache (touch_of_hit h) lawful.sound hit.home hit.old in
    let places : List (Option KeptLine) = h.old.places in
    touches takes rule stands cache fresh before (touch_of_hit h) h.way lawful at
    (table_hit takes rule stands cache h lawful.sound at hits)
    (record {
      found = ap (way_of h.number) hits.places ∙ found_hit places h.way h.number hits.found h.store;
      again = hit.again;
    })

-- a fill of the cache
pub record FillsCache {P : Type 0} (rule : P → ℕ → Rule) (stands : P → ℕ → ℕ → List ℕ → Type 0)
    (cache : Contents P) (f : OneFill) : Type 0 where
  pub home : f.set ≡ f.number % length cache.table
  pub old : f.old ≡ kept_at cache.table f.set
  pub fills : FillsWay (rule cache.policy cache.ways) (stands cache.policy cache.ways) f
  pub again : (list : List ℕ) → stands cache.policy cache.ways f.new.state list
      → stands cache.policy cache.ways f.new.state ((rule cache.policy cache.ways).touched list f.way)

pub cache_fill : {P : Type 0} (takes : P → ℕ → Type 0) (rule : P → ℕ → Rule)
    (stands : P → ℕ → ℕ → List ℕ → Type 0)
    (cache : Contents P) (fresh : ℕ) (before : LastTouch) (f : OneFill)
    → IsCache takes rule stands cache fresh before → FillsCache rule stands cache f
    → Touches takes rule stands cache fresh (touch_of_fill f)
    (last_of cache.ways (touch_of_fill f) f.way)
cache_fill takes rule stands cache fresh before f lawful fill =
    let fills = fill.fills in
    let t : OneTouch = touch_of_fill f in
    let line : Option KeptLine = Some (record { number = f.number; dirty = f.store }) in
    let at = of_table takes stands cache t lawful.sound fill.home fill.old in
    let once = once_at takes stands cache t lawful.sound at in
    touches takes rule stands cache fresh before t f.way lawful at
    (table_fill takes rule stands cache f lawful.sound at fills)
    (record {
      found =
          ap (way_of f.number) fills.places
          ∙ at_filled f.old.places f.way f.number f.store fills.within once fills.missing;
      again = fill.again;
    })

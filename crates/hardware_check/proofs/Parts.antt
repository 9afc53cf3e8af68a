-- What the rules of the parts, of frames, colours and costs give, each in natural numbers.
use Rattle.std.proofs.Common.{◌≡◌, ℕ, ◌+◌, ◌-◌, ◌*◌, ◌/◌, ◌%◌, ◌^◌, ◌<◌, ◌≤◌, Bool, true, false, ◌&&◌, ◌||◌, not, List, length, take, get_or, eqb-true, Option, None, Some, refl, sym, ap, subst, ◌∙◌, arith, inl, inr}
use Rattle.std.specs.Prelude.{nat_eq, ℤ, pos, negsuc, int_lt, codes, if◌then◌else◌, ◌==◌}
use Rattle.std.specs.Str.{bytes_eq}
use Rattle.std.specs.Int.{IsPowerOfTwo, is_power_of_two}
use Rattle.std.proofs.lemmas.Bool.{cases_lt}
use Rattle.std.proofs.lemmas.Bool.Decides.{nat_tests}
use Rattle.std.proofs.lemmas.Nat.{pow-add, mul-le}
use Rattle.std.proofs.Math.Pow.{pow_mono}
use Rattle.cycle_cost.specs.Costs.{IsCost, AreCosts}
use Rattle.image_record.specs.declared.refusal.Refusal.{Refusal}
use Rattle.image_record.specs.Record.{Raw, RawCache}
use Rattle.hardware_check.specs.declared.hardware.Policy.TheVariants.{Lru, Fifo, Plru, Nmru}
use Rattle.image_record.specs.Cases.{first_in, refusal, outside, range_case}
use Rattle.image_record.specs.Numbers.{IsNatural, natural_of}
use Rattle.hardware_check.specs.Hardware.{policy_of, cache_shape_of, costs_of, hardware_of, colours_of, is_size, IsSize, IsCache, IsSmallShape}
use Rattle.hardware_check.specs.Rules.{k3, most_frames, k4, k5, k6, k6_cost, costs_in, size_case, history_case, predictor_case, cache_case, ways_case, is_policy, is_uneven_tree, is_region}
use Rattle.hardware_check.specs.Laws.{KeepsParts}
use Rattle.image_record.proofs.FirstCases.{or_first, or_rest, if_first, if_rest, first_in_none}
use Rattle.image_record.proofs.Ranges.{Within, inside, most_inside, natural_inside}

-- ---- numbers of ranges

pub natural_positive : (x : ℤ) → 0 < natural_of x → IsNatural x
natural_positive (pos n) some = tt
natural_positive (negsuc n) some = absurd (omega (arith, some))

pub natural_above : (line shared : ℤ) → 0 < natural_of line → outside line (pos 65536) shared ≡ false
    → IsNatural shared
natural_above (pos low) shared some h = natural_inside low 65536 shared h
natural_above (negsuc low) shared some h = absurd (omega (arith, some))

pub natural_cost : (x : ℤ) → IsCost (natural_of x) → IsNatural x
natural_cost x cost = natural_positive x cost.some

pub in_range : (rule : ℕ) (at : ℤ) (low high : ℕ) (x : ℤ) → range_case rule at low high x ≡ None
    → Within low high (natural_of x)
in_range rule at low high x n =
    let later : Option Refusal = if int_lt (pos high) x then Some (refusal rule at x (pos high)) else None in
    let first = if_first (int_lt x (pos low)) (refusal rule at x (pos low)) later n in
    let second =
    if_first (int_lt (pos high) x) (refusal rule at x (pos high)) None
    (if_rest (int_lt x (pos low)) (refusal rule at x (pos low)) later n) in
    inside low high x (rw (first, second) refl)

both : (a b : Bool) → (a && b) ≡ true → (a ≡ true) × (b ≡ true)
both true b h = (refl, h)
both false b h = cc

or_false : (a b : Bool) → (a || b) ≡ false → b ≡ false
or_false true b h = cc
or_false false b h = h

no : (a : Bool) → not a ≡ true → a ≡ false
no true h = cc
no false h = refl

pub none_if : {A : Type 0} (b : Bool) (x : A) → (if b then None else Some x) ≡ None → b ≡ true
none_if true x n = refl
none_if false x n = cc

pub size_is : (low high : ℕ) (x : ℤ) → is_size low high x ≡ true → IsSize low high (natural_of x)
size_is low high x h =
    let parts = both (not (outside (pos low) (pos high) x)) (is_power_of_two (natural_of x)) h in
    let range = inside low high x (no (outside (pos low) (pos high) x) parts.0) in
    record { least = range.least; most = range.most; power = parts.1 }

size_sound : (part low high : ℕ) (x : ℤ) → size_case part low high x ≡ None → IsSize low high (natural_of x)
size_sound part low high x n = size_is low high x (none_if (is_size low high x) (refusal 3 (pos part) x (pos 1)) n)

pub size_natural : (low high : ℕ) (x : ℤ) → is_size low high x ≡ true → IsNatural x
size_natural low high x h =
    natural_inside low high x
    (no (outside (pos low) (pos high) x)
    (both (not (outside (pos low) (pos high) x)) (is_power_of_two (natural_of x)) h).0)

pub size_most : (low high : ℕ) (x : ℤ) → is_size low high x ≡ true → natural_of x ≤ high
size_most low high x h =
    most_inside low high x
    (no (outside (pos low) (pos high) x)
    (both (not (outside (pos low) (pos high) x)) (is_power_of_two (natural_of x)) h).0)

record IsPredictor (counters outcomes : ℤ) : Type 0 where
  pub size : IsSize 1 4096 (natural_of counters)
  pub history : outside (pos 0) (pos 8) outcomes ≡ false

few_outcomes : (x : ℤ) → history_case x ≡ None → outside (pos 0) (pos 8) x ≡ false
few_outcomes x n = if_first (outside (pos 0) (pos 8) x) (refusal 3 (pos 6) x (pos 2)) None n

predictor_sound : (size history : ℤ) → predictor_case size history ≡ None → IsPredictor size history
unfolding predictor_case
predictor_sound size history n = record {
  size = size_sound 6 1 4096 size (or_first (size_case 6 1 4096 size) (history_case history) n);
  history = few_outcomes history (or_rest (size_case 6 1 4096 size) (history_case history) n);
}

-- ---- caches

named_tree : (a b c : Bool) → (if a then Fifo else if b then Plru else if c then Nmru else Lru) ≡ Plru
    → b ≡ true
named_tree true b c e = cc
named_tree false true c e = refl
named_tree false false true e = cc
named_tree false false false e = cc

even : (a b : Bool) → (a && not b) ≡ false → a ≡ true → b ≡ true
even true true h e = refl
even true false h e = cc
even false b h e = cc

record AreWays (c : RawCache) : Type 0 where
  pub range : Within 1 16 (natural_of c.ways)
  pub tree : policy_of c.policy ≡ Plru → is_power_of_two (natural_of c.ways) ≡ true

ways_sound : (part : ℕ) (c : RawCache) → ways_case part c ≡ None → AreWays c
unfolding ways_case
ways_sound part c n =
    let at = λ (case : ℕ). refusal 3 (pos part) c.ways (pos case) in
    let last : Option Refusal = if is_uneven_tree c then Some (at 4) else None in
    let later : Option Refusal = if not (is_policy c.policy) then Some (at 3) else last in
    let uneven =
    if_first (is_uneven_tree c) (at 4) None
    (if_rest (not (is_policy c.policy)) (at 3) last
    (if_rest (outside (pos 1) (pos 16) c.ways) (at 2) later n)) in
    let tree = bytes_eq c.policy (codes "plru") in
    record {
      range = inside 1 16 c.ways (if_first (outside (pos 1) (pos 16) c.ways) (at 2) later n);
      tree =
          λ e. even tree (is_power_of_two (natural_of c.ways)) uneven
          (named_tree (bytes_eq c.policy (codes "fifo")) tree (bytes_eq c.policy (codes "nmru")) e);
    }

cache_sound : (part most : ℕ) (c : RawCache) → cache_case part most c ≡ None → IsCache most (cache_shape_of c)
unfolding cache_case cache_shape_of
cache_sound part most c n =
    let ways = ways_sound part c (or_rest (size_case part 1 most c.sets) (ways_case part c) n) in
    record {
      sets = size_sound part 1 most c.sets (or_first (size_case part 1 most c.sets) (ways_case part c) n);
      some_way = ways.range.least;
      few_ways = ways.range.most;
      tree = ways.tree;
    }

pub record PartsSound (i : Raw) : Type 0 where
  pub line : IsSize 16 128 (natural_of i.line)
  pub l1i : IsCache 1024 (cache_shape_of i.l1i)
  pub l1d : IsCache 1024 (cache_shape_of i.l1d)
  pub l2 : IsCache 16384 (cache_shape_of i.l2)
  pub tlb : IsCache 256 (cache_shape_of i.tlb)
  pub predictor : IsSize 1 4096 (natural_of i.predictor)
  pub history : outside (pos 0) (pos 8) i.history ≡ false

pub parts_sound : (i : Raw) → k3 i ≡ None → PartsSound i
unfolding k3
parts_sound i n =
    let a = or_rest (size_case 1 16 128 i.line) _ n in
    let b = or_rest (cache_case 2 1024 i.l1i) _ a in
    let c = or_rest (cache_case 3 1024 i.l1d) _ b in
    let d = or_rest (cache_case 4 16384 i.l2) _ c in
    let p = predictor_sound i.predictor i.history (or_rest (cache_case 5 256 i.tlb) _ d) in
    record {
      line = size_sound 1 16 128 i.line (or_first (size_case 1 16 128 i.line) _ n);
      l1i = cache_sound 2 1024 i.l1i (or_first (cache_case 2 1024 i.l1i) _ a);
      l1d = cache_sound 3 1024 i.l1d (or_first (cache_case 3 1024 i.l1d) _ b);
      l2 = cache_sound 4 16384 i.l2 (or_first (cache_case 4 16384 i.l2) _ c);
      tlb = cache_sound 5 256 i.tlb (or_first (cache_case 5 256 i.tlb) _ d);
      predictor = p.size;
      history = p.history;
    }

-- ---- as the code asks for them

pub few_sets : (i : Raw) → k3 i ≡ None → natural_of i.l2.sets ≤ 16384
unfolding cache_shape_of
few_sets i n = (parts_sound i n).l2.sets.most

pub short_line : (i : Raw) → k3 i ≡ None → natural_of i.line ≤ 128
short_line i n = (parts_sound i n).line.most

pub line_natural : (i : Raw) → k3 i ≡ None → IsNatural i.line
line_natural i n = let least = (parts_sound i n).line.least in natural_positive i.line (omega (arith, least))

pub predictor_natural : (i : Raw) → k3 i ≡ None → IsNatural i.predictor
predictor_natural i n = let least = (parts_sound i n).predictor.least in natural_positive i.predictor (omega (arith, least))

pub history_natural : (i : Raw) → k3 i ≡ None → IsNatural i.history
history_natural i n = natural_inside 0 8 i.history (parts_sound i n).history

pub short_history : (i : Raw) → k3 i ≡ None → natural_of i.history ≤ 8
short_history i n = most_inside 0 8 i.history (parts_sound i n).history

pub l2_natural : (i : Raw) → k3 i ≡ None → IsNatural i.l2.sets
unfolding cache_shape_of
l2_natural i n = let least = (parts_sound i n).l2.sets.least in natural_positive i.l2.sets (omega (arith, least))

-- a product of two such numbers is small
pub few_bytes : (sets line : ℕ) → sets ≤ 16384 → line ≤ 128 → sets * line ≤ 2097152
few_bytes sets line a b = mul-le sets line 16384 128 a b

pub some_line : (i : Raw) → KeepsParts i → 0 < natural_of i.line
some_line i k = let line = (parts_sound i k.parts).line in omega (arith, line.least)

-- ---- frames, colours, costs

few_frames : (version : ℕ) → most_frames version ≤ 16384
few_frames version = if_few (nat_eq version 1)
  where
    if_few : (first : Bool) → (if first then 4096 else 16384) ≤ 16384
    if_few true = omega arith
    if_few false = omega arith

pub frames_sound : (i : Raw) → k4 i ≡ None → Within 64 16384 (natural_of i.frames)
unfolding k4
frames_sound i n =
    let range = in_range 4 (pos 0) 64 (most_frames i.version) i.frames n in
    record { least = range.least; most = omega (arith, range.most, few_frames i.version) }

pub frames_natural : (i : Raw) → k4 i ≡ None → IsNatural i.frames
frames_natural i n = let least = (frames_sound i n).least in natural_positive i.frames (omega (arith, least))

pub colours_sound : (i : Raw) → k5 i ≡ None → Within 2 64 (colours_of (hardware_of i))
unfolding k5
colours_sound i n = in_range 5 (pos 0) 2 64 (pos (colours_of (hardware_of i))) n

-- a power of two that fills some frames fills whole ones
whole_power : (k : ℕ) → 1 ≤ 2 ^ k / 4096 → 2 ^ k / 4096 * 4096 ≡ 2 ^ k
whole_power k some =
    elim (cases_lt k 12) [
      | inl below ↦ absurd (let most : 2 ^ k ≤ 2 ^ 11 = pow_mono {i = k} {j = 11} (omega (arith, below)) in omega (arith, most, some))
      | inr above ↦
          let split : k ≡ (k - 12) + 12 = omega (arith, above) in
          let whole : 2 ^ k ≡ 2 ^ (k - 12) * 4096 = ap (λ n. 2 ^ n) split ∙ pow-add 2 (k - 12) 12 in
          omega (arith, whole)
    ]

pub whole_frames : (sets line : ℕ) → IsPowerOfTwo sets → IsPowerOfTwo line → 1 ≤ sets * line / 4096
    → sets * line / 4096 * 4096 ≡ sets * line
whole_frames sets line a b some =
    let product : sets * line ≡ 2 ^ (a.0 + b.0) = rw (a.1, b.1) (sym (pow-add 2 a.0 b.0)) in
    let P : ℕ → Type 0 = λ n. 1 ≤ n / 4096 → n / 4096 * 4096 ≡ n in
    subst P (sym product) (whole_power (a.0 + b.0)) some

cost_sound : (costs : List ℤ) → first_in k6_cost costs ≡ None → (k : ℕ) → k < length costs
    → IsCost (natural_of (get_or costs k (pos 0)))
cost_sound costs n k l =
    let range = in_range 6 (pos (length (take k costs) + 1)) 1 1000 (get_or costs k (pos 0)) (first_in_none k6_cost costs n k l (pos 0)) in
    record { some = range.least; few = range.most }

pub costs_sound : (i : Raw) → k6 i ≡ None → AreCosts (costs_of i.costs)
unfolding k6 costs_of
costs_sound i n =
    let at = cost_sound (costs_in i.costs) n in
    record {
      base = at 0 (omega arith);
      l1 = at 1 (omega arith);
      l2 = at 2 (omega arith);
      mem = at 3 (omega arith);
      wb = at 4 (omega arith);
      tlb = at 5 (omega arith);
      mispredict = at 6 (omega arith);
      trap = at 7 (omega arith);
      flush = at 8 (omega arith);
    }

-- ---- the numbers fit those of the code

small_shape : (most : ℕ) (c : RawCache) → most ≤ 16384 → IsCache most (cache_shape_of c)
    → IsSmallShape (cache_shape_of c)
small_shape most c few cache = record { sets = omega (arith, few, cache.sets.most); ways = omega (arith, cache.few_ways) }

pub record FitsCode (i : Raw) : Type 0 where
  pub frames : natural_of i.frames < 2 ^ 32
  pub line : natural_of i.line < 2 ^ 32
  pub predictor : natural_of i.predictor < 2 ^ 32
  pub history : natural_of i.history < 2 ^ 32
  pub l1i : IsSmallShape (cache_shape_of i.l1i)
  pub l1d : IsSmallShape (cache_shape_of i.l1d)
  pub l2 : IsSmallShape (cache_shape_of i.l2)
  pub tlb : IsSmallShape (cache_shape_of i.tlb)
  pub costs : AreCosts (costs_of i.costs)
  pub few_colours : (cache_shape_of i.l2).sets * natural_of i.line / 4096 ≤ 64

pub fits : (i : Raw) → KeepsParts i → FitsCode i
unfolding hardware_of
fits i k =
    let parts = parts_sound i k.parts in
    record {
      frames = omega (arith, (frames_sound i k.frames).most);
      line = omega (arith, parts.line.most);
      predictor = omega (arith, parts.predictor.most);
      history = omega (arith, short_history i k.parts);
      l1i = small_shape 1024 i.l1i (omega arith) parts.l1i;
      l1d = small_shape 1024 i.l1d (omega arith) parts.l1d;
      l2 = small_shape 16384 i.l2 (omega arith) parts.l2;
      tlb = small_shape 256 i.tlb (omega arith) parts.tlb;
      costs = costs_sound i k.costs;
      few_colours = (colours_sound i k.colours).most;
    }

-- ---- the shared region

pub record IsRegion (line shared : ℕ) : Type 0 where
  pub some : line ≤ shared
  pub few : shared ≤ 65536
  pub whole : shared % line ≡ 0

region_parts : (line shared : ℤ) → is_region line shared ≡ true
    → (outside line (pos 65536) shared ≡ false) × ((natural_of shared % natural_of line == 0) ≡ true)
unfolding is_region
region_parts line shared h =
    let parts = both (not (outside line (pos 65536) shared)) (natural_of shared % natural_of line == 0) h in
    (no (outside line (pos 65536) shared) parts.0, parts.1)

-- a number that isn't below one from 1 on
not_below : (line shared : ℤ) → 0 < natural_of line → outside line (pos 65536) shared ≡ false
    → Within (natural_of line) 65536 (natural_of shared)
not_below (pos low) shared some h = inside low 65536 shared h
not_below (negsuc low) shared some h = absurd (omega (arith, some))

pub region_sound : (line shared : ℤ) → 0 < natural_of line → is_region line shared ≡ true
    → IsRegion (natural_of line) (natural_of shared)
region_sound line shared some h =
    let parts = region_parts line shared h in
    let range = not_below line shared some parts.0 in
    record { some = range.least; few = range.most; whole = eqb-true (natural_of shared % natural_of line) 0 parts.1 }

pub natural_region : (line shared : ℤ) → 0 < natural_of line → is_region line shared ≡ true → IsNatural shared
natural_region line shared some h = natural_above line shared some (region_parts line shared h).0

most_shared : (line shared : ℤ) → outside line (pos 65536) shared ≡ false → natural_of shared ≤ 65536
most_shared line (pos n) h = let o = or_false (int_lt (pos n) line) (int_lt (pos 65536) (pos n)) h in grind (arith, nat_tests, o)
most_shared line (negsuc n) h = omega arith

pub region_fits : (line shared : ℤ) → is_region line shared ≡ true → natural_of shared < 2 ^ 32
region_fits line shared h = let most = most_shared line shared (region_parts line shared h).0 in omega (arith, most)

-- The machine that an image says, in natural numbers.
use Rattle.std.specs.Prelude.{◌≡◌, ℕ, ◌+◌, ◌-◌, ◌*◌, ◌/◌, ◌%◌, ◌^◌, ◌<◌, ◌≤◌, ◌==◌, ◌&&◌, ◌||◌, not, Bool, IsTrue, ⊤, ℤ, pos, negsuc, if◌then◌else◌, List, codes, Option, Some, None, option_map}
use Rattle.std.specs.Str.{bytes_eq}
use Rattle.std.specs.Int.{is_power_of_two}
use Rattle.cycle_cost.specs.Costs.{CostTable, AreCosts, ProductCosts}
use Rattle.image_record.specs.Record.{Raw, RawCache, RawCosts, RawMuldiv}
use Rattle.image_record.specs.Numbers.{natural_of}
use Rattle.image_record.specs.Cases.{outside}
use Rattle.hardware_check.specs.declared.hardware.Policy.{Policy}
use Rattle.hardware_check.specs.declared.hardware.Policy.TheVariants.{Lru, Fifo, Plru, Nmru}

-- a cache, or the translation buffer
pub record CacheShape : Type 0 where
  pub sets : ℕ
  pub ways : ℕ
  pub policy : Policy

pub record Hardware : Type 0 where
  pub frames : ℕ  -- of 4,096 bytes
  pub shared : ℕ  -- bytes of the kernel's shared region
  pub line : ℕ  -- bytes
  pub l1i : CacheShape
  pub l1d : CacheShape
  pub l2 : CacheShape
  pub back : Bool  -- whether dirty lines are written back into the second level, else past it
  pub tlb : CacheShape
  pub predictor : ℕ  -- counters
  pub history : ℕ  -- outcomes that the predictor's index takes in
  pub costs : CostTable
  pub muldiv : Option ProductCosts  -- None where there are no products and divisions
  pub targets : ℕ  -- places of the target buffer; 0 where there is none

-- the page colours: as many as frames fill the second level's sets
abbrev pub colours_of : Hardware → ℕ
colours_of h = h.l2.sets * h.line / 4096

-- the frames of the shared region, one for each 4,096 bytes of it that are begun
abbrev pub shared_frames : Hardware → ℕ
shared_frames h = (h.shared + 4095) / 4096

-- the last of them: they have colour 0, so each is as many frames after the one before as there are colours
abbrev pub last_shared_frame : Hardware → ℕ
last_shared_frame h = (shared_frames h - 1) * colours_of h

-- ---- what an image says

-- a power of two of the range
abbrev pub is_size : ℕ → ℕ → ℤ → Bool
is_size low high x = not (outside (pos low) (pos high) x) && is_power_of_two (natural_of x)

-- a cost that isn't 1 to 1,000 cycles counts as 0
abbrev pub cost_or_none : ℤ → ℕ
cost_or_none x = if outside (pos 1) (pos 1000) x then 0 else natural_of x

unfoldable pub products_of : RawMuldiv → ProductCosts
products_of c = record { mul = cost_or_none c.mul; div = cost_or_none c.div }

-- a number of places that is no size stands for no buffer
abbrev pub places_of : ℤ → ℕ
places_of x = if is_size 1 256 x then natural_of x else 0

abbrev pub targets_of : Option ℤ → ℕ
targets_of None = 0
targets_of (Some x) = places_of x

-- a text that is no policy's name stands for least recently used
abbrev pub policy_of : List ℕ → Policy
policy_of s =
    if bytes_eq s (codes "fifo") then Fifo
    else if bytes_eq s (codes "plru") then Plru
    else if bytes_eq s (codes "nmru") then Nmru
    else Lru

unfoldable pub cache_shape_of : RawCache → CacheShape
cache_shape_of c = record { sets = natural_of c.sets; ways = natural_of c.ways; policy = policy_of c.policy }

unfoldable pub costs_of : RawCosts → CostTable
costs_of c = record {
  base = natural_of c.base;
  l1 = natural_of c.l1;
  l2 = natural_of c.l2;
  mem = natural_of c.mem;
  wb = natural_of c.wb;
  tlb = natural_of c.tlb;
  mispredict = natural_of c.mispredict;
  trap = natural_of c.trap;
  flush = natural_of c.flush;
}

unfoldable pub hardware_of : Raw → Hardware
hardware_of i = record {
  frames = natural_of i.frames;
  shared = natural_of i.shared;
  line = natural_of i.line;
  l1i = cache_shape_of i.l1i;
  l1d = cache_shape_of i.l1d;
  l2 = cache_shape_of i.l2;
  back = i.back;
  tlb = cache_shape_of i.tlb;
  predictor = natural_of i.predictor;
  history = natural_of i.history;
  costs = costs_of i.costs;
  muldiv = option_map products_of i.muldiv;
  targets = targets_of i.targets;
}

-- its numbers fit those of the code
pub record IsSmallShape (c : CacheShape) : Type 0 where
  pub sets : c.sets < 2 ^ 32
  pub ways : c.ways < 2 ^ 32

-- ---- what it is where no rule is broken

-- a power of two of a range
pub record IsSize (low high n : ℕ) : Type 0 where
  pub least : low ≤ n
  pub most : n ≤ high
  pub power : IsTrue (is_power_of_two n)

pub record IsCache (most_sets : ℕ) (c : CacheShape) : Type 0 where
  pub sets : IsSize 1 most_sets c.sets
  pub some_way : 0 < c.ways
  pub few_ways : c.ways ≤ 16
  pub tree : c.policy ≡ Plru → IsTrue (is_power_of_two c.ways)

-- what a product costs, and a step of a division; 0 where there are none
abbrev pub mul_of : Option ProductCosts → ℕ
mul_of None = 0
mul_of (Some c) = c.mul

abbrev pub div_of : Option ProductCosts → ℕ
div_of None = 0
div_of (Some c) = c.div

-- no target buffer, or one of a power of two of places
abbrev pub IsBuffer : ℕ → Type 0
IsBuffer targets = IsTrue (targets == 0 || is_power_of_two targets)

pub record IsHardware (h : Hardware) : Type 0 where
  pub least_frames : 64 ≤ h.frames
  pub most_frames : h.frames ≤ 16384
  pub line : IsSize 16 128 h.line
  pub l1i : IsCache 1024 h.l1i
  pub l1d : IsCache 1024 h.l1d
  pub l2 : IsCache 16384 h.l2
  pub tlb : IsCache 256 h.tlb
  pub predictor : IsSize 1 4096 h.predictor
  pub few_history : h.history ≤ 8
  pub costs : AreCosts h.costs
  pub few_mul : mul_of h.muldiv ≤ 1000
  pub few_div : div_of h.muldiv ≤ 1000
  pub few_targets : h.targets ≤ 256
  pub targets : IsBuffer h.targets
  pub some_colours : 2 ≤ colours_of h
  pub few_colours : colours_of h ≤ 64
  pub whole_colours : colours_of h * 4096 ≡ h.l2.sets * h.line
  pub some_shared : h.line ≤ h.shared
  pub few_shared : h.shared ≤ 65536
  pub whole_lines : h.shared % h.line ≡ 0
  pub shared_in_ways : shared_frames h ≤ h.l2.ways  -- a way of colour 0's sets for each frame
  pub shared_in_memory : last_shared_frame h < h.frames

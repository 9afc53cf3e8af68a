-- What is kept where a guard is off: all but what that guard gives.
use Rattle.std.specs.Prelude.{◌≡◌, ◌≢◌, ℕ, true}
use Rattle.guards.specs.declared.Guard.{Guard}
use Rattle.guards.specs.declared.Guard.TheVariants as guard
use Rattle.mem_system.specs.Hierarchy.{Hierarchy}
use Rattle.mem_system.specs.Cost.{Caches, Touched}
use Rattle.image_check.specs.Image.{Image, own_of}
use Rattle.world_view.specs.Cost.{hierarchy}
use Rattle.world_view.specs.Kernel.{layout}
use Rattle.world_view.specs.Machine.{without, flush_by}

-- each other guard gives what it gives with all of them on
pub record KeepsOthers (i : Image) (off : Guard) : Type 0 where
  pub flush : off ≢ guard.Flush → (without off i).flush ≡ true
  pub prefetch : off ≢ guard.Prefetch → (without off i).prefetch ≡ true
  pub pad : off ≢ guard.Pad → (without off i).pad ≡ true
  pub levels : off ≢ guard.Colour → (without off i).levels ≡ hierarchy i.all.hardware
  pub clone : off ≢ guard.Clone → (d : ℕ) → (without off i).clone d ≡ layout i.all.hardware (own_of i d)
  pub irq : off ≢ guard.Irq → (without off i).irq ≡ true

abbrev pub OthersOnLaw : Type 0
OthersOnLaw = (i : Image) (off : Guard) → KeepsOthers i off

-- the same costs and the same parts, but for how many sets the second level has
pub record SameParts (h k : Hierarchy) : Type 0 where
  pub costs : h.costs ≡ k.costs
  pub products : h.products ≡ k.products
  pub line_size : h.line_size ≡ k.line_size
  pub back : h.back ≡ k.back
  pub predictor : h.predictor ≡ k.predictor
  pub l1i : h.l1i ≡ k.l1i
  pub l1d : h.l1d ≡ k.l1d
  pub tlb : h.tlb ≡ k.tlb
  pub rule : h.l2.rule ≡ k.l2.rule
  pub ways : h.l2.ways ≡ k.l2.ways

-- so it is whichever guard is off
abbrev pub SamePartsLaw : Type 0
SamePartsLaw = (i : Image) (off : Guard) → SameParts (without off i).levels (hierarchy i.all.hardware)

-- without colours there are as many sets as lines in a frame, in numbers
pub record HasSetsOfAFrame (i : Image) : Type 0 where
  pub of_16 : i.all.hardware.line ≡ 16 → (without guard.Colour i).levels.l2.count ≡ 256
  pub of_32 : i.all.hardware.line ≡ 32 → (without guard.Colour i).levels.l2.count ≡ 128
  pub of_64 : i.all.hardware.line ≡ 64 → (without guard.Colour i).levels.l2.count ≡ 64
  pub of_128 : i.all.hardware.line ≡ 128 → (without guard.Colour i).levels.l2.count ≡ 32

abbrev pub UncolouredLaw : Type 0
UncolouredLaw = (i : Image) → HasSetsOfAFrame i

-- all but the translation buffer is as it was, and that took no cycle
pub record KeepsAllButBuffer (c : Caches) (r : Touched) : Type 0 where
  pub cost : r.cost ≡ 0
  pub l1i : r.caches.core.l1i ≡ c.core.l1i
  pub l1d : r.caches.core.l1d ≡ c.core.l1d
  pub guesses : r.caches.core.guesses ≡ c.core.guesses
  pub l2 : r.caches.l2 ≡ c.l2

-- a switch without the flush
abbrev pub UnflushedLaw : Type 0
UnflushedLaw = (i : Image) (c : Caches) → KeepsAllButBuffer c (flush_by (without guard.Flush i) c)

-- one kernel clone works for all domains
abbrev pub OneCloneLaw : Type 0
OneCloneLaw = (i : Image) (d : ℕ) → (without guard.Clone i).clone d ≡ layout i.all.hardware (own_of i 0)

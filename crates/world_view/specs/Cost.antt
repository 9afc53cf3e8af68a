-- What decides the costs of touches in a machine: its memory hierarchy, and the lines that all domains share.
use Rattle.std.specs.Prelude.{ℕ, Bool, List}
use Rattle.frame_colours.specs.Colours.{has}
use Rattle.set_cache.specs.Rule.{Rule}
use Rattle.set_cache.specs.Cache.{Shape}
use Rattle.repl_policy.specs.Orders.{lru_rule, fifo_rule}
use Rattle.repl_policy.specs.Halves.{plru_rule}
use Rattle.repl_policy.specs.Marks.{nmru_rule}
use Rattle.kernel_clone.specs.Footprints.{Layout}
use Rattle.branch_pred.specs.declared.Sizes.{Sizes}
use Rattle.mem_system.specs.Hierarchy.{Hierarchy}
use Rattle.mem_system.specs.Operations.{shared_region}
use Rattle.hardware_check.specs.declared.hardware.Policy.{Policy}
use Rattle.hardware_check.specs.declared.hardware.Policy.TheVariants.{Lru, Fifo, Plru, Nmru}
use Rattle.hardware_check.specs.Hardware.{Hardware, CacheShape, colours_of}
use Rattle.image_check.specs.Own.{Own}

-- ---- the hierarchy

abbrev pub rule_of : Policy → ℕ → Rule
rule_of Lru = lru_rule
rule_of Fifo = fifo_rule
rule_of Plru = plru_rule
rule_of Nmru = nmru_rule

abbrev pub cache_shape : CacheShape → Shape
cache_shape c = record { rule = rule_of c.policy c.ways; ways = c.ways; count = c.sets }

abbrev pub predictor_sizes : Hardware → Sizes
predictor_sizes p = record { counters = p.predictor; history = p.history; targets = p.targets }

unfoldable pub hierarchy : Hardware → Hierarchy
hierarchy p = record {
  costs = p.costs;
  products = p.muldiv;
  line_size = p.line;
  back = p.back;
  predictor = predictor_sizes p;
  l1i = cache_shape p.l1i;
  l1d = cache_shape p.l1d;
  l2 = cache_shape p.l2;
  tlb = cache_shape p.tlb;
}

-- ---- the shared region

-- a kernel clone of no domain: where the shared region lies doesn't depend on a clone's frames
abbrev pub bare_layout : Hardware → Layout
bare_layout p = record {
  text = 0;
  more_text = 0;
  stack = 0;
  data_frame = 0;
  line = p.line;
  shared = p.shared;
  colours = colours_of p;
}

-- its lines, ascending
unfoldable pub region : Hardware → List ℕ
region p = shared_region (bare_layout p)

-- ---- a domain's colours

abbrev pub own_colour : Own → ℕ → Bool
own_colour o colour = has o.colours colour

-- What contracts see of the machine in the code.
use Rattle.std.specs.Prelude.{◌≡◌, option_map}
use Rattle.image_record.specs.Record.{Raw}
use Rattle.cycle_cost.specs.Models.{costs_of, product_costs_of}
use Rattle.hardware_check.specs.Hardware as spec
use Rattle.hardware_check.specs.declared.hardware.CacheShape.{CacheShape}
use Rattle.hardware_check.specs.declared.hardware.Caches.{Caches}
use Rattle.hardware_check.specs.declared.hardware.Hardware.{Hardware}

abbrev pub shape_model : CacheShape → spec.CacheShape
shape_model c = record { sets = c.sets; ways = c.ways; policy = c.policy }

abbrev pub hardware_model : Hardware → spec.Hardware
hardware_model h = record {
  frames = h.frames;
  shared = h.shared;
  line = h.line;
  l1i = shape_model h.l1i;
  l1d = shape_model h.l1d;
  l2 = shape_model h.l2;
  back = h.back;
  tlb = shape_model h.tlb;
  predictor = h.predictor;
  history = h.history;
  costs = costs_of h.costs;
  muldiv = option_map product_costs_of h.muldiv;
  targets = h.targets;
}

-- the caches are those that an image says
pub record AreCaches (c : Caches) (i : Raw) : Type 0 where
  pub l1i : shape_model c.l1i ≡ spec.cache_shape_of i.l1i
  pub l1d : shape_model c.l1d ≡ spec.cache_shape_of i.l1d
  pub l2 : shape_model c.l2 ≡ spec.cache_shape_of i.l2
  pub tlb : shape_model c.tlb ≡ spec.cache_shape_of i.tlb

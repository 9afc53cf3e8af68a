-- The sizes and policies that the code's memory hierarchy is made with.
use Rattle.repl_policy.specs.declared.AnyPolicy.{AnyPolicy}
use Rattle.repl_policy.specs.declared.AnyPolicy.TheVariants as any
use Rattle.mem_system.specs.declared.geometry.CacheGeometry.{CacheGeometry}
use Rattle.mem_system.specs.declared.geometry.Geometry.{Geometry}
use Rattle.hardware_check.specs.declared.hardware.Policy.{Policy}
use Rattle.hardware_check.specs.declared.hardware.Policy.TheVariants.{Lru, Fifo, Plru, Nmru}
use Rattle.hardware_check.specs.Hardware.{CacheShape, Hardware}
use Rattle.world_view.specs.Cost.{predictor_sizes}

abbrev pub any_of : Policy → AnyPolicy
any_of Lru = any.Lru
any_of Fifo = any.Fifo
any_of Plru = any.TreePlru
any_of Nmru = any.Nmru

abbrev pub cache_geometry : CacheShape → CacheGeometry AnyPolicy
cache_geometry c = record { policy = any_of c.policy; sets = c.sets; ways = c.ways }

abbrev pub geometry : Hardware → Geometry AnyPolicy
geometry p = record {
  line_size = p.line;
  back = p.back;
  predictor = predictor_sizes p;
  l1i = cache_geometry p.l1i;
  l1d = cache_geometry p.l1d;
  l2 = cache_geometry p.l2;
  tlb = cache_geometry p.tlb;
}

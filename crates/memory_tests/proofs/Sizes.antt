-- The sizes of the tests' hierarchies.
use Rattle.std.proofs.Common.{arith, ◌≡◌, ◌∙◌, refl, ℕ, ◌*◌, ◌^◌, ◌<◌}
use Rattle.repl_policy.specs.declared.AnyPolicy.{AnyPolicy}
use Rattle.repl_policy.specs.declared.AnyPolicy.TheVariants.{Lru, Fifo, TreePlru, Nmru}
use Rattle.repl_policy.specs.Members.{any_takes}
use Rattle.mem_system.specs.declared.geometry.CacheGeometry.{CacheGeometry}
use Rattle.mem_system.specs.Geometry.{IsCache}

pub takes_two : (policy : AnyPolicy) → any_takes policy 2
takes_two Lru = (omega arith, omega arith)
takes_two Fifo = (omega arith, omega arith)
takes_two TreePlru = (omega arith, omega arith, refl)
takes_two Nmru = (omega arith, omega arith)

pub takes_four : (policy : AnyPolicy) → any_takes policy 4
takes_four Lru = (omega arith, omega arith)
takes_four Fifo = (omega arith, omega arith)
takes_four TreePlru = (omega arith, omega arith, refl)
takes_four Nmru = (omega arith, omega arith)

-- a cache of 2 ^ k sets
pub is_cache : (g : CacheGeometry AnyPolicy) (policy : AnyPolicy) (sets ways k : ℕ) → g.policy ≡ policy
    → g.sets ≡ sets → g.ways ≡ ways
    → any_takes policy ways → sets ≡ 2 ^ k → sets * ways < 2 ^ 32 → IsCache any_takes g
is_cache g policy sets ways k p s w takes power small = record {
  taken = rw (p, w) takes;
  power = (k, s ∙ power);
  small = rw (s, w) small;
}

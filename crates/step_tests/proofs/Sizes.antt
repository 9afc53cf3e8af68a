-- The sizes of the tests' hierarchies.
use Rattle.std.proofs.Common.{◌≡◌, ◌∙◌, ℕ, ◌*◌, ◌^◌, ◌<◌}
use Rattle.repl_policy.specs.declared.Lru as lru
use Rattle.repl_policy.specs.Halves.{UpToSixteen}
use Rattle.mem_system.specs.declared.geometry.CacheGeometry.{CacheGeometry}
use Rattle.mem_system.specs.Geometry.{IsCache}

-- one that gives up the least recently used
pub is_lru_cache : (g : CacheGeometry lru.Lru) (sets ways k : ℕ) → g.sets ≡ sets → g.ways ≡ ways
    → UpToSixteen ways → sets ≡ 2 ^ k → sets * ways < 2 ^ 32
    → IsCache (λ (_ : lru.Lru) ways. UpToSixteen ways) g
is_lru_cache g sets ways k s w takes power small = record {
  taken = rw w takes;
  power = (k, s ∙ power);
  small = rw (s, w) small;
}

-- Harts before their boots, over a second level with nothing in it.
use Rattle.std.specs.Prelude.{◌≡◌, false, None}
use Rattle.repl_policy.specs.declared.AnyPolicy.{AnyPolicy}
use Rattle.repl_policy.specs.Members.{any_rule, any_stands_for}
use Rattle.tp_base.specs.Table.{empty}
use Rattle.set_cache.specs.Contents as set_cache
use Rattle.l2_colour.specs.Contents.{L2Contents}
use Rattle.mem_system.specs.Hierarchy.{Hierarchy}
use Rattle.mem_system.specs.Cost.{cold}
use Rattle.mem_system.specs.Contents.{SystemStands, system, hierarchy_of}
use Rattle.hart_orders.specs.declared.hart.Hart.{Hart}

-- of this hierarchy
pub record IsColdL2 (h : Hierarchy) (l2 : L2Contents AnyPolicy) : Type 0 where
  pub line_size : l2.line_size ≡ h.line_size
  pub back : l2.back ≡ h.back
  pub shape : set_cache.shape_of any_rule l2.cache ≡ h.l2
  pub fresh : set_cache.StandsFor any_stands_for l2.cache empty

pub record IsColdHart (h : Hierarchy) (l2 : L2Contents AnyPolicy) (x : Hart) : Type 0 where
  pub levels : hierarchy_of any_rule (system x.core l2) ≡ h
  pub pinned : x.core.pinned ≡ false
  pub caches : SystemStands any_stands_for (system x.core l2) (cold h)
  pub clock : x.clock ≡ 0
  pub slots : x.slots ≡ 0
  pub slot : x.slot ≡ None
  pub ended : x.ended ≡ 0

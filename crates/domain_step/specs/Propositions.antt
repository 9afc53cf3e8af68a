-- That the code's hierarchy stands for caches in one way at most, which a ghost field asks of its fact.
use Rattle.std.specs.Prelude.{ℕ, zero, suc, List, [], ◌∷◌}
use Rattle.std.specs.Coded.{×_prop, Unit-prop, le_prop}
use denote.Struct.Props.{props}
use Rattle.repl_policy.specs.declared.AnyPolicy.{AnyPolicy}
use Rattle.repl_policy.specs.declared.AnyPolicy.TheVariants.{Lru, Fifo, TreePlru, Nmru}
use Rattle.repl_policy.specs.Members.{any_stands_for}
use Rattle.repl_policy.specs.Packed.{AllBelow, Packs}
use Rattle.repl_policy.specs.Bits.{Points}
use Rattle.repl_policy.specs.Halves.{depth_of}
use Rattle.repl_policy.specs.Marks.{Marks}
use Rattle.mem_system.specs.Cost.{Caches}
use Rattle.mem_system.specs.Contents.{SystemContents, SystemStands}

below_prop : (n : ℕ) (order : List ℕ) → IsProp (AllBelow n order)
below_prop n [] = Unit-prop
below_prop n (way ∷ order) = ×_prop le_prop (below_prop n order)

packs_prop : (ways state : ℕ) (list : List ℕ) → IsProp (Packs ways state list)
packs_prop ways state list = hlevel (props, below_prop)

points_prop : (depth low state : ℕ) (list : List ℕ) → IsProp (Points depth low state list)
points_prop zero low state list = Unit-prop
points_prop (suc depth) low state list = hlevel (props, points_prop depth)

marks_prop : (ways state : ℕ) (list : List ℕ) → IsProp (Marks ways state list)
marks_prop ways state list = hlevel props

any_prop : (policy : AnyPolicy) (ways state : ℕ) (list : List ℕ)
    → IsProp (any_stands_for policy ways state list)
any_prop Lru ways state list = packs_prop ways state list
any_prop Fifo ways state list = packs_prop ways state list
any_prop TreePlru ways state list = points_prop (depth_of ways) 0 state list
any_prop Nmru ways state list = marks_prop ways state list

pub system_prop : (kept : SystemContents AnyPolicy) (caches : Caches)
    → IsProp (SystemStands any_stands_for kept caches)
system_prop kept caches = hlevel (props, any_prop)

-- The guards' names.
use Rattle.std.specs.Prelude.{ℕ, if◌then◌else◌, List, codes, Option, Some, None}
use Rattle.std.specs.Str.{bytes_eq}
use Rattle.guards.specs.declared.Guard.{Guard}
use Rattle.guards.specs.declared.Guard.TheVariants.{Flush, Prefetch, Pad, Colour, Clone, Irq}

abbrev pub name_of : Guard → List ℕ
name_of Flush = codes "flush"
name_of Prefetch = codes "prefetch"
name_of Pad = codes "pad"
name_of Colour = codes "colour"
name_of Clone = codes "clone"
name_of Irq = codes "irq"

-- the guard of a name, if it is one's
abbrev pub named : List ℕ → Option Guard
named name =
    if bytes_eq name (codes "flush") then Some Flush
    else if bytes_eq name (codes "prefetch") then Some Prefetch
    else if bytes_eq name (codes "pad") then Some Pad
    else if bytes_eq name (codes "colour") then Some Colour
    else if bytes_eq name (codes "clone") then Some Clone
    else if bytes_eq name (codes "irq") then Some Irq
    else None

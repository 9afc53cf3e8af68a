-- A slot in which moments of all domains come: what the code's domains stand for, before it and after it.
use Rattle.std.specs.Prelude.{◌≡◌, ℕ, zero, suc, List, slice_get, Option, Some, None}
use Rattle.phys_mem.specs.Contents.{Contents}
use Rattle.repl_policy.specs.declared.AnyPolicy.{AnyPolicy}
use Rattle.guards.specs.declared.Guard.{Guard}
use Rattle.irq_partition.specs.declared.Moment.{Moment}
use Rattle.irq_partition.specs.Interrupts.{next_of}
use Rattle.mem_system.specs.Contents.{SystemContents}
use Rattle.image_check.specs.Image.{Image}
use Rattle.mail_slots.specs.Boxes.{Boxes}
use Rattle.kernel_call.specs.declared.domain.Domain.{Domain}
use Rattle.kernel_call.specs.Models.{CountsUpTo}
use Rattle.world_view.specs.Machine.{World, Guards, guards_of, Owned, if_due, first_of}
use Rattle.domain_step.specs.InSlot.{StandsIn}
use Rattle.domain_step.specs.declared.open.Due.{Due}

-- no count of a domain is past the clock
abbrev pub CountUpTo : ℕ → List Domain → Type 0
CountUpTo now domains = (d : ℕ) (x : Domain) → slice_get domains d ≡ Some x → CountsUpTo now x

-- they stand for some world so
pub record Stands (d : ℕ) (memory : Contents) (mail : Boxes) (system : SystemContents AnyPolicy) (domains : List Domain)
    (now : ℕ) : Type 0 where
  pub off : Option Guard
  pub image : Image
  pub world : World
  pub stands : StandsIn off image d world memory mail system domains now

-- whatever world the old ones stand for, the new ones stand for f of it
abbrev pub Becomes : (Guards → Image → World → World) → ℕ
    → Contents → Boxes → SystemContents AnyPolicy → List Domain → ℕ
    → Contents → Boxes → SystemContents AnyPolicy → List Domain → ℕ → Type 0
Becomes f d memory mail system domains now memory' mail' system' domains' later = (off : Option Guard) (i : Image)
    (w : World)
    → StandsIn off i d w memory mail system domains now
    → StandsIn off i d (f (guards_of off i) i w) memory' mail' system' domains' later

-- ---- moments of all domains

abbrev pub owned : Due → Owned
owned x = record { owner = x.owner; moment = record { at = x.at; line = x.line } }

-- a domain's next moment, if there is that domain
abbrev pub next_at : Option Domain → Option Moment
next_at None = None
next_at (Some x) = next_of x.interrupts

-- the first moment that is due of the domains below a number
unfoldable pub first_among : ℕ → List Domain → ℕ → Option Owned
first_among now domains zero = None
first_among now domains (suc d) =
    first_of (first_among now domains d) (if_due now d (next_at (slice_get domains d)))

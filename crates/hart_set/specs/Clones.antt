-- Domains at their entries, each with the kernel clone that works for it: without clones of their own that of domain 0.
use Rattle.std.specs.Prelude.{◌≡◌, ℕ, List, length, slice_get, Option, Some}
use Rattle.kernel_clone.specs.declared.CloneLayout.{CloneLayout}
use Rattle.guards.specs.declared.Guard.{Guard}
use Rattle.kernel_call.specs.declared.domain.Domain.{Domain}
use Rattle.kernel_call.specs.Models.{CountsUpTo}
use Rattle.image_check.specs.Image.{Image, own_of}
use Rattle.world_view.specs.Kernel.{opening_dom}
use Rattle.world_view.specs.Machine.{guards_of, setting_by}
use Rattle.domain_step.specs.Standing.{DomainStands}

-- a domain is as it was, but for its kernel clone
pub record HasClone (layout : CloneLayout) (old new : Domain) : Type 0 where
  pub layout_is : new.layout ≡ layout
  pub status : new.status ≡ old.status
  pub threads : new.threads ≡ old.threads
  pub caps : new.caps ≡ old.caps
  pub interrupts : new.interrupts ≡ old.interrupts
  pub map : new.map ≡ old.map
  pub pool : new.pool ≡ old.pool
  pub calls : new.calls ≡ old.calls
  pub number : new.number ≡ old.number
  pub retired : new.retired ≡ old.retired
  pub readings : new.readings ≡ old.readings
  pub replies : new.replies ≡ old.replies
  pub printed : new.printed ≡ old.printed

-- each of them is
pub record HaveClone (layout : CloneLayout) (old new : List Domain) : Type 0 where
  pub same : length new ≡ length old
  pub each : (e : ℕ) (x : Domain) → slice_get new e ≡ Some x
      → (y : Domain) × (slice_get old e ≡ Some y) × HasClone layout y x

-- each domain of the image at its entry, and no count of it past the first cycle
pub record AreEntered (off : Option Guard) (i : Image) (domains : List Domain) : Type 0 where
  pub all : length domains ≡ length i.owns
  pub each : (d : ℕ) (x : Domain) → slice_get domains d ≡ Some x
      → DomainStands (setting_by (guards_of off i) i d) x (opening_dom i.all.hardware (own_of i d))
  pub few : (d : ℕ) (x : Domain) → slice_get domains d ≡ Some x → CountsUpTo 0 x

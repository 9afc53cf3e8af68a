-- What a guard that is off leaves out of a switch and of a slot, of the code and of the definitions.
use Rattle.std.proofs.Common.{◌≡◌, ◌≢◌, Bool, true, false, Option, Some, None, refl}
use Rattle.guards.specs.declared.Guard.{Guard}
use Rattle.guards.specs.declared.Guard.TheVariants as guard
use Rattle.image_check.specs.Image.{Image}
use Rattle.world_view.specs.Machine.{guarded, guards_of}

loads_not : (off : Option Guard) (i : Image) → off ≡ Some guard.Prefetch → false ≡ (guards_of off i).prefetch
unfolding guarded
loads_not None i is = absurd (cc is)
loads_not (Some guard.Flush) i is = absurd (cc is)
loads_not (Some guard.Prefetch) i is = refl
loads_not (Some guard.Pad) i is = absurd (cc is)
loads_not (Some guard.Colour) i is = absurd (cc is)
loads_not (Some guard.Clone) i is = absurd (cc is)
loads_not (Some guard.Irq) i is = absurd (cc is)

loads_on : (off : Option Guard) (i : Image) → off ≢ Some guard.Prefetch → true ≡ (guards_of off i).prefetch
unfolding guarded
loads_on None i other = refl
loads_on (Some guard.Flush) i other = refl
loads_on (Some guard.Prefetch) i other = absurd (other refl)
loads_on (Some guard.Pad) i other = refl
loads_on (Some guard.Colour) i other = refl
loads_on (Some guard.Clone) i other = refl
loads_on (Some guard.Irq) i other = refl

flushes_not : (off : Option Guard) (i : Image) → off ≡ Some guard.Flush → false ≡ (guards_of off i).flush
unfolding guarded
flushes_not None i is = absurd (cc is)
flushes_not (Some guard.Flush) i is = refl
flushes_not (Some guard.Prefetch) i is = absurd (cc is)
flushes_not (Some guard.Pad) i is = absurd (cc is)
flushes_not (Some guard.Colour) i is = absurd (cc is)
flushes_not (Some guard.Clone) i is = absurd (cc is)
flushes_not (Some guard.Irq) i is = absurd (cc is)

flushes_on : (off : Option Guard) (i : Image) → off ≢ Some guard.Flush → true ≡ (guards_of off i).flush
unfolding guarded
flushes_on None i other = refl
flushes_on (Some guard.Flush) i other = absurd (other refl)
flushes_on (Some guard.Prefetch) i other = refl
flushes_on (Some guard.Pad) i other = refl
flushes_on (Some guard.Colour) i other = refl
flushes_on (Some guard.Clone) i other = refl
flushes_on (Some guard.Irq) i other = refl

pub loads : (off : Option Guard) (i : Image) (b : Bool) → (b ≡ true → off ≢ Some guard.Prefetch)
    → (b ≡ false → off ≡ Some guard.Prefetch) → b ≡ (guards_of off i).prefetch
loads off i true on not = loads_on off i (on refl)
loads off i false on not = loads_not off i (not refl)

pub flushes : (off : Option Guard) (i : Image) (b : Bool) → (b ≡ true → off ≢ Some guard.Flush)
    → (b ≡ false → off ≡ Some guard.Flush) → b ≡ (guards_of off i).flush
flushes off i true on not = flushes_on off i (on refl)
flushes off i false on not = flushes_not off i (not refl)

pub own_moments_not : (off : Option Guard) (i : Image) → off ≡ Some guard.Irq → false ≡ (guards_of off i).irq
unfolding guarded
own_moments_not None i is = absurd (cc is)
own_moments_not (Some guard.Flush) i is = absurd (cc is)
own_moments_not (Some guard.Prefetch) i is = absurd (cc is)
own_moments_not (Some guard.Pad) i is = absurd (cc is)
own_moments_not (Some guard.Colour) i is = absurd (cc is)
own_moments_not (Some guard.Clone) i is = absurd (cc is)
own_moments_not (Some guard.Irq) i is = refl

pub own_moments : (off : Option Guard) (i : Image) → off ≢ Some guard.Irq → true ≡ (guards_of off i).irq
unfolding guarded
own_moments None i other = refl
own_moments (Some guard.Flush) i other = refl
own_moments (Some guard.Prefetch) i other = refl
own_moments (Some guard.Pad) i other = refl
own_moments (Some guard.Colour) i other = refl
own_moments (Some guard.Clone) i other = refl
own_moments (Some guard.Irq) i other = absurd (other refl)

pub pads : (off : Option Guard) (i : Image) → off ≢ Some guard.Pad → true ≡ (guards_of off i).pad
unfolding guarded
pads None i other = refl
pads (Some guard.Flush) i other = refl
pads (Some guard.Prefetch) i other = refl
pads (Some guard.Pad) i other = absurd (other refl)
pads (Some guard.Colour) i other = refl
pads (Some guard.Clone) i other = refl
pads (Some guard.Irq) i other = refl

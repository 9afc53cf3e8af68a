-- How the code's hart of an image of one stands for the machine that goes from slot to slot, with all guards on or one off.
use Rattle.std.specs.Prelude.{◌≡◌, ℕ, List, Option}
use Rattle.guards.specs.declared.Guard.{Guard}
use Rattle.image_record.specs.Record.{Raw}
use Rattle.image_check.specs.Laws.{Runnable}
use Rattle.world_view.specs.Harts.{IsOnOneHart, IsOutside, slots_of, harts_by}
use Rattle.world_view.specs.HartLaws.{AreHartsOf}
use Rattle.hart_set.specs.declared.set.State.{State}
use Rattle.hart_set.specs.Standing.{StandsFor}
use Rattle.hart_set.specs.Models.{image_of}

-- after an order of events with which that hart has had so many slots, and has not begun the next
pub record HasRun (off : Option Guard) (s : Raw × State) (slots : ℕ) : Type 0 where
  pub accepted : Runnable (image_of s)
  pub one : IsOnOneHart (image_of s)
  pub without : s.1.off ≡ off
  pub order : List ℕ
  pub of_harts : AreHartsOf (image_of s) order
  pub outside : IsOutside 0 (harts_by off (image_of s) order)
  pub had : slots_of 0 (harts_by off (image_of s) order) ≡ slots
  pub stands : StandsFor (image_of s) (harts_by off (image_of s) order) s.1

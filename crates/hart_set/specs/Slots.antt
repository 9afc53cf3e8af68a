-- A hart's next event, and its slot, run whole.
use Rattle.std.specs.Prelude.{◌≡◌, ℕ, suc, List, [], ◌∷◌, ◌++◌, replicate}
use Rattle.image_check.specs.Image.{Image}
use Rattle.world_view.specs.Harts.{IsOutside, harts_by, slots_of}
use Rattle.world_view.specs.HartLaws.{AreHartsOf}
use Rattle.hart_set.specs.declared.set.State.{State}
use Rattle.hart_set.specs.Standing.{StandsFor}

-- whatever the order of events before, it stands for the harts after one event of this one more
abbrev pub NextStands : Image → ℕ → State → State → Type 0
NextStands i h t t' = (order : List ℕ) → AreHartsOf i order → StandsFor i (harts_by t.off i order) t
    → StandsFor i (harts_by t.off i (order ++ h ∷ [])) t'

-- it stands for the harts after so many more events of this one alone, with which a slot of it has ended, and the next has
-- not begun
pub record EndsSlot (i : Image) (order : List ℕ) (h : ℕ) (t : State) : Type 0 where
  pub events : ℕ
  pub stands : StandsFor i (harts_by t.off i (order ++ replicate events h)) t
  pub slots : slots_of h (harts_by t.off i (order ++ replicate events h)) ≡ suc (slots_of h (harts_by t.off i order))
  pub outside : IsOutside h (harts_by t.off i (order ++ replicate events h))

-- so it is whatever the order before
abbrev pub SlotEnds : Image → ℕ → State → State → Type 0
SlotEnds i h t t' = (order : List ℕ) → AreHartsOf i order → StandsFor i (harts_by t.off i order) t → EndsSlot i order h t'

-- after as many events
abbrev pub SlotEndsIn : Image → (h events : ℕ) → State → State → Type 0
SlotEndsIn i h events t t' = (order : List ℕ) → AreHartsOf i order → StandsFor i (harts_by t.off i order) t
    → (ends : EndsSlot i order h t') × (ends.events ≡ events)

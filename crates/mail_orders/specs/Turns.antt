-- In which order the switches of two harts come, in two runs.
use Rattle.std.specs.Prelude.{◌≡◌, ◌≢◌, ℕ, ◌<◌, ◌≤◌, ◌++◌, List, slice_get, Some}
use Rattle.image_check.specs.Image.{Image}
use Rattle.world_view.specs.Harts.{Harts, hart_of_domain, switches_of, harts}
use Rattle.world_view.specs.MailLaws.{Leads}

-- hart h has had more switches here than there, and hart g fewer: so two of theirs come in another order there
pub record Passes (h g : ℕ) (here there : Harts) : Type 0 where
  pub more : switches_of h there < switches_of h here
  pub fewer : switches_of g here < switches_of g there

-- neither passes the other, from the first switch of g on with which a slot of it ends: its boot is none
pub record TakeTurns (g h : ℕ) (here there : Harts) : Type 0 where
  pub behind : Passes h g here there → switches_of g there ≤ 1
  pub ahead : Passes g h here there → switches_of g here ≤ 1

-- after any of the events of both runs: the harts of each box of the chain to d, where they are two
abbrev pub ChainTakesTurns : (i j : Image) → (d : ℕ) → (one two : List ℕ) → Type 0
ChainTakesTurns i j d one two =
    (a e f : ℕ) → slice_get i.all.mail a ≡ Some (e, f) → Leads i d f → hart_of_domain i e ≢ hart_of_domain i f
    → (before later past rest : List ℕ) → one ≡ before ++ later → two ≡ past ++ rest
    → TakeTurns (hart_of_domain i e) (hart_of_domain i f) (harts i before) (harts j past)

-- When the ends of two harts' slots lie apart by the longest event, or more.
use Rattle.std.specs.Prelude.{◌≡◌, ◌≢◌, ℕ, suc, ◌+◌, ◌<◌, ◌≤◌, ◌⊎◌, slice_get, Some}
use Rattle.image_check.specs.Image.{Image, own_of}
use Rattle.world_view.specs.Relations.{largest_step}
use Rattle.world_view.specs.Harts.{domain_in, end_on, hart_of_domain}
use Rattle.world_view.specs.MailLaws.{Leads}

-- the longest event of the domain whose slot k of a hart is: an instruction, and the operation that it calls
abbrev pub longest_in : Image → (h k : ℕ) → ℕ
longest_in i h k = largest_step i.all.hardware (own_of i (domain_in i h k))

-- slot k of hart g ends before slot m of hart h by the longest event, or more
abbrev pub EndsBefore : Image → (g k h m : ℕ) → Type 0
EndsBefore i g k h m = end_on i g k + longest_in i g k ≤ end_on i h m

-- of each two slots of both harts but the last of n, one ends so before the other
abbrev pub AreApart : Image → (n g h : ℕ) → Type 0
AreApart i n g h = (k m : ℕ) → suc k < n → suc m < n → EndsBefore i g k h m ⊎ EndsBefore i h m g k

-- the harts of each box of the chain to d, where they are two
abbrev pub ChainApart : Image → (d n : ℕ) → Type 0
ChainApart i d n = (a e f : ℕ) → slice_get i.all.mail a ≡ Some (e, f) → Leads i d f
    → hart_of_domain i e ≢ hart_of_domain i f → AreApart i n (hart_of_domain i e) (hart_of_domain i f)

-- Points within an event, and what the code has there.
use Rattle.std.proofs.Common.{◌≡◌, ℕ, List, ◌⊎◌}
use Rattle.phys_mem.specs.Contents.{Contents}
use Rattle.set_cache.specs.Rule.{Rule}
use Rattle.cap_table.specs.Slots.{Slots}
use Rattle.mem_system.specs.Cost.{Touched}
use Rattle.mem_system.specs.Contents.{SystemContents}
use Rattle.call_table.specs.Domain.{Dom}
use Rattle.mail_slots.specs.Boxes.{Boxes}
use Rattle.kernel_call.specs.declared.domain.Domain.{Domain}
use Rattle.world_view.specs.Event.{Storage, Act}
use Rattle.world_view.specs.Machine.{Setting}
use Rattle.domain_step.specs.Kept.{Kept, KeptOf}
use Rattle.domain_step.specs.Moves.{Yields}

-- a point within an event: the setting, the clock as it began, the root of the domain's walks, the domain,
-- what it may change, and the cost so far
pub record Point : Type 0 where
  pub setting : Setting
  pub clock : ℕ
  pub root : ℕ
  pub dom : Dom
  pub storage : Storage
  pub reached : Touched

-- from there these steps end so
abbrev pub YieldsAt : {A : Type 0} → Point → Act A → (Dom ⊎ A → Storage → Touched → Type 0) → Type 0
YieldsAt p x Q = Yields p.setting x p.storage p.reached Q

-- and so they do from wherever the code keeps this
abbrev pub YieldsFrom : {A : Type 0} → Point → (Storage → Touched → Type 0) → Act A
    → (Dom ⊎ A → Storage → Touched → Type 0) → Type 0
YieldsFrom p K x Q = (s : Storage) (r : Touched) → K s r → Yields p.setting x s r Q

-- what the code has: a domain, memory, boxes and hierarchy, and the cycles spent
pub record Side (P : Type 0) : Type 0 where
  pub domain : Domain
  pub memory : Contents
  pub mail : Boxes
  pub system : SystemContents P
  pub spent : ℕ

-- it is kept, of the whole domain
abbrev pub KeptWhole : {P : Type 0} → (P → ℕ → Rule) → (P → ℕ → ℕ → List ℕ → Type 0) → Point
    → Side P
    → Storage → Touched → Type 0
KeptWhole rule stands p c = KeptOf rule stands p.setting c.domain c.memory c.mail c.system c.spent

-- or of these capabilities
abbrev pub KeptParts : {P : Type 0} → (P → ℕ → Rule) → (P → ℕ → ℕ → List ℕ → Type 0) → Point → Slots
    → Side P
    → Storage → Touched → Type 0
KeptParts rule stands p caps c = Kept rule stands p.setting caps p.root c.memory c.system c.spent

-- this is kept, and so are the boxes
pub record Boxed (mail : Boxes) (K : Storage → Touched → Type 0) (t : Storage) (q : Touched) : Type 0 where
  pub kept : K t q
  pub boxes : mail ≡ t.boxes

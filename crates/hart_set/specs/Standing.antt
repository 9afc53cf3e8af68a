-- How the code's harts stand for those of the definition, with all guards on or with one off.
use Rattle.std.specs.Prelude.{◌≡◌, ℕ, ◌+◌, ◌*◌, ◌^◌, ◌≤◌, Bool, true, false, length, slice_get, Option, Some, None, IfSome}
use Rattle.mem_system.specs.Contents.{system}
use Rattle.mem_system.specs.Translation.{KeepsLeaves}
use Rattle.sched_table.specs.Schedule.{harts_in}
use Rattle.image_check.specs.Image.{Image, own_of}
use Rattle.kernel_call.specs.declared.domain.Domain.{Domain}
use Rattle.kernel_call.specs.Models.{CountsUpTo}
use Rattle.world_view.specs.Frames.{root_of}
use Rattle.world_view.specs.Machine.{World, Guards, guards_of, caches_of, clock_of, ended_by, dom_of, setting_by}
use Rattle.world_view.specs.Harts.{Harts, image_on, progress_of, slots_of, domain_in, end_by, hart_of_domain}
use Rattle.domain_step.specs.Standing.{MachineStands, DomainStands}
use Rattle.domain_step.specs.Usage.{IsUsed}
use Rattle.hart_orders.specs.declared.hart.Slot.{Slot}
use Rattle.hart_orders.specs.declared.hart.Hart.{Hart}
use Rattle.hart_set.specs.declared.set.State.{State}

-- what holds of the code's hart of this number
abbrev pub AtHart : State → ℕ → (Hart → Type 0) → Type 0
AtHart t h Q = (x : Hart) → slice_get t.harts.items h ≡ Some x → Q x

-- the slot of a hart that is in one, by its domain and its end
abbrev pub slot_if : Bool → ℕ → ℕ → Option Slot
slot_if true d end = Some (record { domain = d; end = end })
slot_if false d end = None

abbrev pub slot_of : Guards → Image → ℕ → Harts → Option Slot
slot_of g i h s = slot_if (progress_of h s).inside (domain_in i h (slots_of h s)) (end_by g i h (slots_of h s) s.world)

-- when the slot ends that a hart is in, or when the one ended that it was in before its slot k
abbrev pub ended_if : Bool → Guards → Image → ℕ → ℕ → World → ℕ
ended_if true g i h k w = end_by g i h k w
ended_if false g i h k w = ended_by g (image_on i h) h k w

-- over the one memory, the boxes and the second level: each set of each of its caches and of its buffer, the predictor's
-- counters, and its clock; how far it is, and when its slot ends or ended; and in a slot its buffer keeps what walks of that
-- domain's page tables find
pub record HartStands (i : Image) (s : Harts) (t : State) (h : ℕ) (x : Hart) : Type 0 where
  pub machine : MachineStands i.all.hardware (guards_of t.off i).levels false t.memory t.mail (system x.core t.l2)
      x.clock
      s.world.storage (caches_of h s.world) (clock_of h s.world)
  pub slots : x.slots ≡ slots_of h s
  pub slot : x.slot ≡ slot_of (guards_of t.off i) i h s
  pub ended : x.ended ≡ ended_if (progress_of h s).inside (guards_of t.off i) i h (slots_of h s) s.world
  pub leaves : IfSome x.slot (λ y. KeepsLeaves s.world.storage.mem t.memory.frames
      (root_of i.all.hardware (own_of i y.domain)) x.core.tlb)

-- each hart, each domain, and what switches took
pub record StandsFor (i : Image) (s : Harts) (t : State) : Type 0 where
  pub all_harts : length t.harts.items ≡ harts_in i.all.schedule
  pub each_hart : (h : ℕ) → AtHart t h (HartStands i s t h)
  pub all_domains : length t.domains.items ≡ length i.owns
  pub each_domain : (d : ℕ) (x : Domain) → slice_get t.domains.items d ≡ Some x
      → DomainStands (setting_by (guards_of t.off i) i d) x (dom_of s.world d)
  pub all_entries : length t.used.items ≡ length i.all.schedule
  pub each_entry : IsUsed t.used.items s.world.used

-- a hart whose clock isn't far past the slots that ended: a slot takes less than 2^40 cycles, also where nobody waits
pub record IsEarly (x : Hart) : Type 0 where
  pub clock : x.slot ≡ None → x.clock ≤ 2 ^ 61 + x.slots * 2 ^ 40
  pub end : IfSome x.slot (λ y. y.end ≤ 2 ^ 61 + x.slots * 2 ^ 40 + 2 ^ 39)

-- so that no number is too large
pub record IsInBounds (i : Image) (t : State) : Type 0 where
  pub few_slots : (h : ℕ) → AtHart t h (λ x. x.slots ≤ 65536)
  pub early : (h : ℕ) → AtHart t h IsEarly
  pub few_calls : (d : ℕ) (x : Domain) → slice_get t.domains.items d ≡ Some x
      → AtHart t (hart_of_domain i d) (λ y. CountsUpTo y.clock x)

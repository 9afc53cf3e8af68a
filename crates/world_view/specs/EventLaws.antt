-- One event of a domain in its slot, as laws: what it touches, and what it costs at most.
use Rattle.std.specs.Prelude.{◌≡◌, ◌≢◌, ℕ, false, ◌+◌, ◌≤◌, Bool, List, [], Option, Some, None, is_some, Result, Ok, Err}
use Rattle.phys_mem.specs.Mem.{Mem, word}
use Rattle.rv_decode.specs.Table.{decode_of}
use Rattle.rv_decode.specs.declared.Instr.{Instr}
use Rattle.rv_decode.specs.declared.Instr.TheVariants.{Ecall}
use Rattle.sv32_walk.specs.declared.access.Access.TheVariants.{Fetch}
use Rattle.sv32_walk.specs.declared.access.WalkFault.{WalkFault}
use Rattle.sv32_walk.specs.PageTableEntry.{ppn}
use Rattle.sv32_walk.specs.Walk.{walk}
use Rattle.pad_bound.specs.Bound.{worst_instruction, worst_operation}
use Rattle.pad_bound.specs.Worst.{AreWithin}
use Rattle.mem_system.specs.Cost.{Touch, touched_all}
use Rattle.mem_system.specs.Worst.{HasWays}
use Rattle.call_table.specs.Domain.{Dom}
use Rattle.hardware_check.specs.Hardware.{Hardware}
use Rattle.image_check.specs.Own.{Own}
use Rattle.image_check.specs.Image.{Image, own_of}
use Rattle.image_check.specs.Laws.{Runnable}
use Rattle.world_view.specs.Frames.{root_of}
use Rattle.world_view.specs.Kernel.{estate, layout}
use Rattle.world_view.specs.Cost.{hierarchy}
use Rattle.world_view.specs.Event.{place, instruction, delivery_touches, Event, event}
use Rattle.world_view.specs.Event.Event.{Jump, Deliver, Run}
use Rattle.world_view.specs.Machine.{setting, Local, clock_of, part_of, step}
use Rattle.world_view.specs.Relations.{IsDomain, own_shape, largest_step, HasFacts, MayAll}
use Rattle.world_view.specs.Harts.{IsInSlot, domain_on, owner_on, local_on, slot_end_on, next}
use Rattle.world_view.specs.Laws.{OnEachHart}

-- ---- what it touches

-- in order; a jump touches nothing
abbrev pub event_touches : Hardware → Own → Local → Event → List Touch
event_touches p o s (Jump t) = []
event_touches p o s (Deliver line) = delivery_touches p (layout p o)
event_touches p o s Run = (instruction p (estate p o) (layout p o) s.clock s.dom s.storage).notes

-- the next step, in a slot that ends then
abbrev pub step_touches : Hardware → Own → ℕ → Local → List Touch
step_touches p o end s = event_touches p o s (event o s.clock end s.dom)

-- they are all that a step does to the caches
abbrev pub StepTouchesLaw : Type 0
StepTouchesLaw = (p : Hardware) (o : Own) (pinned : Bool) (end : ℕ) (s : Local)
    → (step (setting p o pinned) end s).caches
    ≡ (touched_all (hierarchy p) pinned s.caches (step_touches p o end s)).caches

-- where the domain's facts hold, each is of a line of the domain's own, or a load of a shared line
abbrev pub OwnTouchesLaw : Type 0
OwnTouchesLaw = (i : Image) (d end : ℕ) (s : Local) → Runnable i → IsDomain i d
    → HasFacts i.all.hardware (own_of i d) s.dom s.storage
    → MayAll i.all.hardware (own_of i d) (step_touches i.all.hardware (own_of i d) end s)

-- so in each slot of each hart
abbrev pub SlotTouchesLaw : Type 0
SlotTouchesLaw = OnEachHart (λ i h s. IsInSlot h s →
    let p = i.all.hardware in
    MayAll p (owner_on i h s) (step_touches p (owner_on i h s) (slot_end_on i h s) (local_on i h s)))

-- ---- what it costs at most, whatever the caches hold

-- the clock after an event that began at `now`: a jump goes to the slot's end at the latest; a delivery takes the
-- operation of the domain's bound at most, and an instruction, with its kernel call, its instruction and operation
abbrev pub EndsBy : Hardware → Own → ℕ → ℕ → Event → ℕ → Type 0
EndsBy p o now end (Jump t) later = later ≤ end
EndsBy p o now end (Deliver line) later = later ≤ now + worst_operation (own_shape p o)
EndsBy p o now end Run later = later ≤ now + largest_step p o

-- where each call that the domain may make counts in its bound
abbrev pub StepCostLaw : Type 0
StepCostLaw = (p : Hardware) (o : Own) → AreWithin o.makes o.calls → (pinned : Bool) (end : ℕ) (s : Local) → HasWays (hierarchy p) s.caches
    → EndsBy p o s.clock end (event o s.clock end s.dom) (step (setting p o pinned) end s).clock

-- the instruction that a walk's leaf leads to, where it found one, of a machine with products and divisions or without
abbrev pub instruction_at : Bool → Mem → ℕ → Result ℕ WalkFault → Option Instr
instruction_at muldiv m pc (Ok leaf) = decode_of muldiv (word m (ppn leaf) (place pc))
instruction_at muldiv m pc (Err f) = None

-- the one that the current thread runs next
abbrev pub next_instruction : Hardware → Own → Dom → Mem → Option Instr
next_instruction p o d m =
    let pc = d.threads.current.pc in
    instruction_at (is_some p.muldiv) m pc (walk m p.frames (root_of p o) pc Fetch).result

-- one that makes no kernel call takes the bound's instruction at most
abbrev pub PlainCostLaw : Type 0
PlainCostLaw = (p : Hardware) (o : Own) (pinned : Bool) (end : ℕ) (s : Local) → HasWays (hierarchy p) s.caches
    → event o s.clock end s.dom ≡ Run → next_instruction p o s.dom s.storage.mem ≢ Some Ecall
    → (step (setting p o pinned) end s).clock ≤ s.clock + worst_instruction (own_shape p o)

-- in each slot of each hart the caches have their ways, so each event costs no more
abbrev pub SlotCostLaw : Type 0
SlotCostLaw = OnEachHart (λ i h s. IsInSlot h s →
    let a = local_on i h s in
    let end = slot_end_on i h s in
    EndsBy i.all.hardware (owner_on i h s) a.clock end (event (owner_on i h s) a.clock end a.dom)
    (clock_of h (next i h s).world))

-- ---- what a hart's event is

-- in a slot it is the next step of the domain whose slot it is
abbrev pub SlotStepLaw : Type 0
SlotStepLaw = OnEachHart (λ i h s. IsInSlot h s
    → part_of h (domain_on i h s) (next i h s).world
    ≡ step (setting i.all.hardware (owner_on i h s) false) (slot_end_on i h s) (local_on i h s))

-- One event of a domain in its slot: what happens, as a function of the domain, the memory and the clock, with what it touches.
use Rattle.std.specs.Prelude.{ℕ, ◌+◌, ◌*◌, ◌/◌, ◌%◌, ◌==◌, min, is_some, Bool, true, false, if◌then◌else◌, List, [], ◌∷◌, ◌++◌, Option, Some, None, Result, Ok, Err, ◌⊎◌}
use Rattle.std.proofs.Common.{inl, inr}
use Rattle.tp_base.specs.Act as act
use Rattle.tp_base.specs.Act.{◌>>=◌, ◌>>◌, Done, give, stop, note, either}
use Rattle.phys_mem.specs.Mem.{word, written}
use Rattle.phys_mem.specs.Bytes.{byte_in, half_in, with_byte_in, with_half_in}
use Rattle.rv_decode.specs.Table.{decode_of}
use Rattle.rv_decode.specs.declared.Instr.{Instr}
use Rattle.rv_decode.specs.declared.Instr.TheVariants as instr
use Rattle.rv_decode.specs.declared.LoadWidth.{LoadWidth}
use Rattle.rv_core.specs.Effect.{Outcome, effect_of}
use Rattle.rv_core.specs.Memory.{load_size, address_of, misalignment_of}
use Rattle.rv_core.specs.declared.Effect.{Effect}
use Rattle.rv_core.specs.declared.Store.{Store as StoreMade}
use Rattle.rv_core.specs.declared.Trap.{Trap}
use Rattle.rv_core.specs.declared.exception.Exception.{Exception}
use Rattle.rv_core.specs.declared.exception.Exception.TheVariants as exception
use Rattle.rv_core.specs.Exceptions.{code_of}
use Rattle.rv_core.specs.Products.{digits_of, dividend_of}
use Rattle.rv_decode.specs.declared.Division.{Division}
use Rattle.sv32_walk.specs.declared.access.Access.{Access}
use Rattle.sv32_walk.specs.declared.access.Access.TheVariants as access
use Rattle.sv32_walk.specs.declared.access.WalkFault.{WalkFault}
use Rattle.sv32_walk.specs.declared.access.WalkFault.TheVariants as fault
use Rattle.sv32_walk.specs.PageTableEntry.{ppn}
use Rattle.sv32_walk.specs.Walk.{walk}
use Rattle.cycle_cost.specs.Costs.{ProductCosts, division_cost}
use Rattle.hardware_check.specs.Hardware.{Hardware}
use Rattle.image_check.specs.Own.{Own}
use Rattle.irq_partition.specs.Interrupts.{Interrupts, next_cycle, due}
use Rattle.rv_core.specs.Registers.{register}
use Rattle.thread_set.specs.Threads.{is_ready}
use Rattle.kernel_clone.specs.Footprints.{Layout, delivery_op}
use Rattle.call_table.specs.Domain.{Dom, is_running}
use Rattle.call_table.specs.Claims.{Estate}
use Rattle.call_table.specs.Calls.{Note, empties, work_of, number_made}
pub use Rattle.call_table.specs.Mail.{Storage}
use Rattle.call_table.specs.Mail.{called}
use Rattle.world_view.specs.Instruction.{stopped, trapped, retired_at, counter_value, read_out}
use Rattle.mem_system.specs.Cost.{Touch, Fetch, Load, Store as StoreTouch, Branch, Jump as JumpTouch, EmptyTlb, Charge}
use Rattle.mem_system.specs.Translation.{look_of}
use Rattle.mem_system.specs.Operations.{operation, plain}

-- steps over the memory that note their touches, and may end early with the domain as it then is
abbrev pub Act : Type 0 → Type 0
Act A = act.Act Storage Touch Dom A

-- ---- primitives

unfoldable pub touch : Touch → Act (Unit {0})
touch t = note t

-- the exception of a walk that faults: instruction, load or store page fault, or access fault
abbrev pub fault_of : Access → WalkFault → Exception
fault_of access.Fetch fault.Page = exception.InstructionPageFault
fault_of access.Load fault.Page = exception.LoadPageFault
fault_of access.Store fault.Page = exception.StorePageFault
fault_of access.Fetch fault.Access = exception.InstructionAccessFault
fault_of access.Load fault.Access = exception.LoadAccessFault
fault_of access.Store fault.Access = exception.StoreAccessFault

-- the frame of the page that the walk found, else the domain is stopped
unfoldable pub frame_or_stop : Dom → Access → ℕ → Result ℕ WalkFault → Dom ⊎ ℕ
frame_or_stop d a va (Ok leaf) = inr (ppn leaf)
frame_or_stop d a va (Err f) = inl (stopped (code_of (fault_of a f)) va d)

-- the frame of an address, by a walk of the page tables of root r as they are now
unfoldable pub translate : Hardware → ℕ → Dom → Access → ℕ → Act ℕ
translate p r d a va = λ s.
    let w = walk s.mem p.frames r va a in
    record { notes = look_of p.line va w ∷ []; state = s; value = frame_or_stop d a va w.result }

-- the place of a word in its page
abbrev pub place : ℕ → ℕ
place va = va % 4096 / 4

-- the physical address of a virtual one in frame f
unfoldable pub address_in : ℕ → ℕ → ℕ
address_in f va = f * 4096 + va % 4096

-- the physical line in which it lies
unfoldable pub line_in : Hardware → ℕ → ℕ → ℕ
line_in p f va = address_in f va / p.line

unfoldable pub read : ℕ → ℕ → Act ℕ
read f i = λ s. record { notes = []; state = s; value = inr (word s.mem f i) }

unfoldable pub write : ℕ → ℕ → ℕ → Act (Unit {0})
write f i v = λ s. record { notes = []; state = record s { mem = written s.mem f i v }; value = inr tt }

-- ends the domain's instruction where there is a trap
unfoldable pub unless : Option Trap → Dom → Act (Unit {0})
unless None d = give tt
unless (Some trap) d = stop (trapped trap d)

-- ---- loads and stores

-- what a load of so many bytes finds in a word at a place from 0 to 3, with zeros above it
abbrev pub part_of_word : ℕ → ℕ → ℕ → ℕ
part_of_word size word place =
    if size == 1 then byte_in word place else if size == 2 then half_in word place else word

-- a word in which a store put so many bytes
abbrev pub stored_in : ℕ → ℕ → ℕ → ℕ → ℕ
stored_in size word place value =
    if size == 1 then with_byte_in word place value else if size == 2 then with_half_in word place value
    else value

unfoldable pub load : Hardware → ℕ → Dom → LoadWidth → ℕ → Act ℕ
load p r d width va = do
  f ← translate p r d access.Load va
  touch (Load (line_in p f va))
  w ← read f (place va)
  give (part_of_word (load_size width) w (va % 4))

unfoldable pub store : Hardware → ℕ → Dom → Option StoreMade → Act (Unit {0})
store p r d None = give tt
store p r d (Some s) = do
  f ← translate p r d access.Store s.at
  touch (StoreTouch (line_in p f s.at))
  w ← read f (place s.at)
  write f (place s.at) (stored_in s.size w (s.at % 4) s.word)

-- ---- an instruction at a clock

-- what a product takes beside its instruction, and a division of so many digits
abbrev pub product_time : Option ProductCosts → ℕ
product_time None = 0
product_time (Some costs) = costs.mul

abbrev pub division_time : Option ProductCosts → ℕ → ℕ
division_time None digits = 0
division_time (Some costs) digits = division_cost costs digits

-- the digits of the dividend's magnitude
abbrev pub digits_in : List ℕ → Division → ℕ → ℕ
digits_in regs division rs1 = digits_of (dividend_of division (register regs rs1))

-- products and divisions take their time
unfoldable pub computed : Hardware → Dom → Instr → Act (Unit {0})
computed p d (instr.Multiply product rd rs1 rs2) = touch (Charge (product_time p.muldiv))
computed p d (instr.Divide division rd rs1 rs2) =
    touch (Charge (division_time p.muldiv (digits_in d.threads.current.regs division rs1)))
computed p d _ = give tt

-- what the instruction needs from outside the registers: what a load finds, or a counter's value
unfoldable pub loaded : Hardware → ℕ → ℕ → Dom → Instr → Act ℕ
loaded p r t d (instr.Load width rd rs1 offset) =
    load p r d width (address_of d.threads.current.regs (instr.Load width rd rs1 offset))
loaded p r t d (instr.ReadCounter counter rd) = give (counter_value counter t d)
loaded p r t d _ = give 0

-- a counter's value is recorded as a reading
unfoldable pub noted : Instr → ℕ → Dom → Dom
noted (instr.ReadCounter counter rd) value d = read_out value d
noted _ value d = d

-- a branch is guessed, and taught whether it is taken; where it or a jump goes is looked up
unfoldable pub guessed : Instr → ℕ → Effect → Act (Unit {0})
guessed (instr.Branch comparison rs1 rs2 offset) pc e = touch (Branch pc e.taken e.next)
guessed (instr.Jal rd offset) pc e = touch (JumpTouch pc e.next)
guessed (instr.Jalr rd rs1 offset) pc e = touch (JumpTouch pc e.next)
guessed _ pc e = give tt

-- the effect: a trap, or a store, the registers and the next instruction
unfoldable pub settle : Hardware → ℕ → Dom → Instr → ℕ → Outcome → Act Dom
settle p r d i value out = do
  unless out.effect.trap d
  guessed i d.threads.current.pc out.effect
  store p r d out.effect.store
  give (retired_at out.effect.next out.regs (noted i value d))

-- misaligned loads and stores trap before their address is translated
unfoldable pub execute : Hardware → ℕ → ℕ → Dom → Instr → Act Dom
execute p r t d i = do
  unless (misalignment_of i (address_of d.threads.current.regs i)) d
  value ← loaded p r t d i
  settle p r d i value (effect_of d.threads.current.regs d.threads.current.pc i value)

-- the same in its own time
unfoldable pub timed : Hardware → ℕ → ℕ → Dom → Instr → Act Dom
timed p r t d i = do
  computed p d i
  execute p r t d i

-- ---- a kernel call

-- its operation in the domain's kernel clone, and then the buffer
unfoldable pub call_touches : Hardware → Layout → ℕ → List Note → List Touch
call_touches p l number notes =
    operation p.costs l (work_of number notes) ++ (if empties notes then EmptyTlb ∷ [] else [])

-- the call that the current thread makes
unfoldable pub make_call : Hardware → Estate → Layout → Dom → Act Dom
make_call p e l d = λ s.
    let r = called e d s in
    record {
      notes = call_touches p l (number_made e d) r.notes;
      state = r.state;
      value = inr (either r.value);
    }

-- ---- an instruction, with the kernel call that it makes

unfoldable pub perform : Hardware → Estate → Layout → ℕ → Dom → ℕ → Option Instr → Act Dom
perform p e l t d w None = stop (stopped (code_of exception.IllegalInstruction) w d)
perform p e l t d w (Some instr.Ecall) = make_call p e l d
perform p e l t d w (Some i) = timed p e.root t d i

unfoldable pub instruction : Hardware → Estate → Layout → ℕ → Dom → Act Dom
instruction p e l t d = do
  f ← translate p e.root d access.Fetch d.threads.current.pc
  touch (Fetch (line_in p f d.threads.current.pc))
  w ← read f (place d.threads.current.pc)
  perform p e l t d w (decode_of (is_some p.muldiv) w)

-- ---- a delivery

-- an operation in the domain's kernel clone that writes nothing beside its own work
unfoldable pub delivery_touches : Hardware → Layout → List Touch
delivery_touches p l = operation p.costs l (plain delivery_op)

-- ---- what comes next

pub data Event : Type 0 where
  Jump : ℕ → Event  -- the clock goes there
  Deliver : ℕ → Event  -- the next moment comes, of this line
  Run : Event  -- the current thread runs one instruction

-- the domain's moments, how many were delivered, and its bits
unfoldable pub interrupts_of : Own → Dom → Interrupts
interrupts_of o d = record { moments = o.moments; delivered = d.delivered; bits = d.bits }

-- where no thread is ready, the clock goes to the next moment, or to the slot's end if that is sooner
abbrev pub idle_until : ℕ → Option ℕ → ℕ
idle_until end None = end
idle_until end (Some next) = min next end

-- of a domain whose current thread is ready, or not
abbrev pub thread_event : ℕ → Option ℕ → Bool → Event
thread_event end next true = Event.Run
thread_event end next false = Event.Jump (idle_until end next)

-- a moment that is due comes first
abbrev pub unless_due : Event → Option ℕ → Event
unless_due e None = e
unless_due e (Some line) = Event.Deliver line

-- at a clock, in a slot that ends then
unfoldable pub event : Own → ℕ → ℕ → Dom → Event
event o now end d =
    let irqs = interrupts_of o d in
    if is_running d.status
    then unless_due (thread_event end (next_cycle irqs) (is_ready d.threads.current.state)) (due now irqs)
    else Event.Jump end

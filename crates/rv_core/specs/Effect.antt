-- What an instruction does to the registers, and what comes next.
use Rattle.std.specs.Prelude.{◌≡◌, ◌⊎◌, ℕ, ◌+◌, ◌*◌, ◌/◌, ◌%◌, ◌^◌, ◌<◌, Bool, true, false, List, Option, Some, None, ◌==◌, if◌then◌else◌}
use Rattle.rv_decode.specs.declared.Instr.{Instr}
use Rattle.rv_decode.specs.declared.Instr.TheVariants.{Lui, Auipc, Jal, Jalr, Branch, Load, Store, Immediate, Register, Multiply, Divide, Fence, Ecall, Ebreak, ReadCounter}
use Rattle.rv_decode.specs.declared.StoreWidth.{StoreWidth}
use Rattle.rv_core.specs.Registers.{register, with_register}
use Rattle.rv_core.specs.Alu.{value_of, holds}
use Rattle.rv_core.specs.Products.{product_of, division_of}
use Rattle.rv_core.specs.Memory.{load_size, store_size, loaded_word, stored_word, sum_of, alignment_trap}
use Rattle.rv_core.specs.declared.Effect.{Effect}
use Rattle.rv_core.specs.declared.Store.{Store as StoreMade}
use Rattle.rv_core.specs.declared.exception.Exception.TheVariants.{InstructionMisaligned, Breakpoint, LoadMisaligned, StoreMisaligned, UserCall}
use Rattle.rv_core.specs.declared.Trap.{Trap}

-- the registers that are left, and the effect
pub record Outcome : Type 0 where
  pub regs : List ℕ
  pub effect : Effect

-- the next instruction follows
abbrev pub continuation : List ℕ → ℕ → Outcome
continuation regs pc = record {
  regs = regs;
  effect = record { next = (pc + 4) % 2 ^ 32; store = None; taken = false; trap = None };
}

-- so it does, and a register has a new word
abbrev pub register_write : List ℕ → ℕ → ℕ → ℕ → Outcome
register_write regs pc rd word = continuation (with_register regs rd word) pc

-- so it does, and memory is to be written
abbrev pub memory_write : List ℕ → ℕ → StoreWidth → ℕ → ℕ → Outcome
memory_write regs pc width at word =
    let store = Some (record { at = at; size = store_size width; word = stored_word width word }) in
    record {
      regs = regs;
      effect = record { next = (pc + 4) % 2 ^ 32; store = store; taken = false; trap = None };
    }

-- nothing changes, and the instruction stays the next
abbrev pub exception : List ℕ → ℕ → Trap → Outcome
exception regs pc trap =
    record { regs = regs; effect = record { next = pc; store = None; taken = false; trap = Some trap } }

-- an access to memory, unless its address is misaligned
abbrev pub access : List ℕ → ℕ → Option Trap → Outcome → Outcome
access regs pc (Some trap) done = exception regs pc trap
access regs pc None done = done

-- an arrival at a target with new registers, unless the target is misaligned
abbrev pub arrival : List ℕ → List ℕ → ℕ → ℕ → Bool → Outcome
arrival old new pc target taken =
    if target % 4 == 0
    then record { regs = new; effect = record { next = target; store = None; taken = taken; trap = None } }
    else exception old pc (record { exception = InstructionMisaligned; value = target })

-- rd has the address of the instruction that would follow
abbrev pub jump : List ℕ → ℕ → ℕ → ℕ → Outcome
jump regs pc rd target = arrival regs (with_register regs rd ((pc + 4) % 2 ^ 32)) pc target false

abbrev pub branch : List ℕ → ℕ → ℕ → Bool → Outcome
branch regs pc target true = arrival regs regs pc target true
branch regs pc target false = continuation regs pc

-- the table, one line an instruction; value_of, product_of, division_of and holds have a line for each
-- operation and each branch
abbrev pub effect_of : List ℕ → ℕ → Instr → ℕ → Outcome
effect_of regs pc (Lui rd imm) loaded = register_write regs pc rd imm
effect_of regs pc (Auipc rd imm) loaded = register_write regs pc rd ((pc + imm) % 2 ^ 32)
effect_of regs pc (Jal rd offset) loaded = jump regs pc rd ((pc + offset) % 2 ^ 32)
effect_of regs pc (Jalr rd rs1 offset) loaded = jump regs pc rd (sum_of regs rs1 offset / 2 * 2)
effect_of regs pc (Branch comparison rs1 rs2 offset) loaded =
    branch regs pc ((pc + offset) % 2 ^ 32) (holds comparison (register regs rs1) (register regs rs2))
effect_of regs pc (Load width rd rs1 offset) loaded =
    access regs pc (alignment_trap (load_size width) LoadMisaligned (sum_of regs rs1 offset))
    (register_write regs pc rd (loaded_word width loaded))
effect_of regs pc (Store width rs1 rs2 offset) loaded =
    access regs pc (alignment_trap (store_size width) StoreMisaligned (sum_of regs rs1 offset))
    (memory_write regs pc width (sum_of regs rs1 offset) (register regs rs2))
effect_of regs pc (Immediate operation rd rs1 imm) loaded =
    register_write regs pc rd (value_of operation (register regs rs1) imm)
effect_of regs pc (Register operation rd rs1 rs2) loaded =
    register_write regs pc rd (value_of operation (register regs rs1) (register regs rs2))
effect_of regs pc (Multiply product rd rs1 rs2) loaded =
    register_write regs pc rd (product_of product (register regs rs1) (register regs rs2))
effect_of regs pc (Divide division rd rs1 rs2) loaded =
    register_write regs pc rd (division_of division (register regs rs1) (register regs rs2))
effect_of regs pc Fence loaded = continuation regs pc
effect_of regs pc Ecall loaded = exception regs pc (record { exception = UserCall; value = 0 })
effect_of regs pc Ebreak loaded = exception regs pc (record { exception = Breakpoint; value = pc })
effect_of regs pc (ReadCounter counter rd) loaded = register_write regs pc rd loaded

-- besides a trap, nothing changes
pub record NothingElse (old new : List ℕ) (pc : ℕ) (effect : Effect) : Type 0 where
  pub regs : new ≡ old
  pub next : effect.next ≡ pc
  pub store : effect.store ≡ None
  pub taken : effect.taken ≡ false

-- a store of 1, 2 or 4 bytes at a multiple of its size, of a word with zeros above
pub record IsStore (store : StoreMade) : Type 0 where
  pub size : (store.size ≡ 1) ⊎ ((store.size ≡ 2) ⊎ (store.size ≡ 4))
  pub aligned : store.at % store.size ≡ 0
  pub cut : store.word < 2 ^ (8 * store.size)

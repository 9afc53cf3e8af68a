-- What the effects of all instructions have in common.
use Rattle.std.proofs.Common.{arith, rules, ◌≡◌, refl, ℕ, ◌+◌, ◌%◌, ◌^◌, Bool, true, false, List, Option, Some, None}
use Rattle.std.specs.Prelude.{IfSome, ◌==◌}
use Rattle.std.proofs.lemmas.Bool.Decides.{nat_tests}
use Rattle.rv_decode.specs.declared.Instr.{Instr}
use Rattle.rv_decode.specs.declared.Instr.TheVariants.{Lui, Auipc, Jal, Jalr, Branch, Load, Store, Immediate, Register, Multiply, Divide, Fence, Ecall, Ebreak, ReadCounter}
use Rattle.rv_decode.specs.declared.StoreWidth.{StoreWidth}
use Rattle.rv_core.specs.Registers.{register, with_register}
use Rattle.rv_core.specs.Alu.{holds}
use Rattle.rv_core.specs.Memory.{load_size, store_size, loaded_word, sum_of, alignment_trap}
use Rattle.rv_core.specs.declared.exception.Exception.TheVariants.{LoadMisaligned, StoreMisaligned}
use Rattle.rv_core.specs.declared.Trap.{Trap}
use Rattle.rv_core.specs.Effect.{Outcome, continuation, memory_write, exception, access, arrival, branch, effect_of, NothingElse}

-- nothing changes besides a trap, and the next address is aligned where this one is
pub record IsProper (old : List ℕ) (pc : ℕ) (o : Outcome) : Type 0 where
  pub trap : IfSome o.effect.trap (λ _. NothingElse old o.regs pc o.effect)
  pub aligned : pc % 4 ≡ 0 → o.effect.next % 4 ≡ 0

follows : (pc : ℕ) → pc % 4 ≡ 0 → (pc + 4) % 2 ^ 32 % 4 ≡ 0
follows pc at = omega (arith, at)

goes_on : (old new : List ℕ) (pc : ℕ) → IsProper old pc (continuation new pc)
goes_on old new pc = record { trap = search rules; aligned = follows pc }

writes : (old : List ℕ) (pc : ℕ) (width : StoreWidth) (at word : ℕ)
    → IsProper old pc (memory_write old pc width at word)
writes old pc width at word = record { trap = search rules; aligned = follows pc }

raises : (old : List ℕ) (pc : ℕ) (trap : Trap) → IsProper old pc (exception old pc trap)
raises old pc trap = record { trap = record { regs = refl; next = refl; store = refl; taken = refl }; aligned = λ at. at }

accesses : (old : List ℕ) (pc : ℕ) (trap : Option Trap) (done : Outcome) → IsProper old pc done
    → IsProper old pc (access old pc trap done)
accesses old pc (Some trap) done is = raises old pc trap
accesses old pc None done is = is

arrives_by : (old new : List ℕ) (pc target : ℕ) (taken test : Bool) → (target % 4 == 0) ≡ test
    → IsProper old pc (arrival old new pc target taken)
arrives_by old new pc target taken true is =
    let zero : target % 4 ≡ 0 = grind (arith, nat_tests) in
    rw is (record { trap = search rules; aligned = λ _. zero })
arrives_by old new pc target taken false is = rw is (raises old pc _)

arrives : (old new : List ℕ) (pc target : ℕ) (taken : Bool)
    → IsProper old pc (arrival old new pc target taken)
arrives old new pc target taken = arrives_by old new pc target taken (target % 4 == 0) refl

branches : (old : List ℕ) (pc target : ℕ) (taken : Bool) → IsProper old pc (branch old pc target taken)
branches old pc target true = arrives old old pc target true
branches old pc target false = goes_on old old pc

pub each_proper : (old : List ℕ) (pc : ℕ) (instr : Instr) (loaded : ℕ)
    → IsProper old pc (effect_of old pc instr loaded)
each_proper old pc (Lui rd imm) loaded = goes_on old _ pc
each_proper old pc (Auipc rd imm) loaded = goes_on old _ pc
each_proper old pc (Jal rd offset) loaded = arrives old _ pc _ false
each_proper old pc (Jalr rd rs1 offset) loaded = arrives old _ pc _ false
each_proper old pc (Branch comparison rs1 rs2 offset) loaded =
    branches old pc ((pc + offset) % 2 ^ 32) (holds comparison (register old rs1) (register old rs2))
each_proper old pc (Load width rd rs1 offset) loaded =
    let trap = alignment_trap (load_size width) LoadMisaligned (sum_of old rs1 offset) in
    let new = with_register old rd (loaded_word width loaded) in
    accesses old pc trap (continuation new pc) (goes_on old new pc)
each_proper old pc (Store width rs1 rs2 offset) loaded =
    let trap = alignment_trap (store_size width) StoreMisaligned (sum_of old rs1 offset) in
    let done = memory_write old pc width (sum_of old rs1 offset) (register old rs2) in
    accesses old pc trap done (writes old pc width (sum_of old rs1 offset) (register old rs2))
each_proper old pc (Immediate operation rd rs1 imm) loaded = goes_on old _ pc
each_proper old pc (Register operation rd rs1 rs2) loaded = goes_on old _ pc
each_proper old pc (Multiply product rd rs1 rs2) loaded = goes_on old _ pc
each_proper old pc (Divide division rd rs1 rs2) loaded = goes_on old _ pc
each_proper old pc Fence loaded = goes_on old _ pc
each_proper old pc Ecall loaded = raises old pc _
each_proper old pc Ebreak loaded = raises old pc _
each_proper old pc (ReadCounter counter rd) loaded = goes_on old _ pc

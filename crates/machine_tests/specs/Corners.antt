-- Where a rule that is nearly right comes to something else: rows of single rules and of runs, computed from the definitions
-- alone.
use Rattle.std.specs.Prelude.{◌≡◌, ℕ, zero, suc, ◌+◌, ◌*◌, true, false, Some, List, [], ◌∷◌, map, refl, slice_set}
use Rattle.tp_base.specs.Act.{go_on, ◌>>=◌, ◌>>◌, give, stop, note, check, either}
use Rattle.rv_decode.specs.declared.Comparison.TheVariants.{Equal}
use Rattle.rv_decode.specs.declared.Instr.TheVariants.{Branch, Jalr}
use Rattle.rv_core.specs.Registers.{zeros}
use Rattle.rv_core.specs.Products.{least_power}
use Rattle.thread_set.specs.Threads as threads
use Rattle.thread_set.specs.Threads.{with_current}
use Rattle.guards.specs.declared.Guard.TheVariants as guard
use Rattle.branch_pred.specs.Guesses.{Guesses, fresh_guesses, learned, jump, is_known, gone}
use Rattle.sched_table.specs.declared.schedule.Entry.{Entry}
use Rattle.sched_table.specs.Schedule.{entries_on}
use Rattle.call_table.specs.Domain as domain
use Rattle.call_table.specs.Domain.{Dom, dom_at_entry}
use Rattle.call_table.specs.Calls.{number_made}
use Rattle.call_table.specs.Example.{few, asking, fresh}
use Rattle.kernel_clone.specs.Permissions.{may_make}
use Rattle.hardware_check.specs.Hardware.{Hardware}
use Rattle.image_check.specs.Own.{Own}
use Rattle.image_check.specs.Image.{Image}
use Rattle.mem_system.specs.Cost as cost
use Rattle.mem_system.specs.Cost.{fresh_core}
use Rattle.world_view.specs.Cost.{hierarchy}
use Rattle.world_view.specs.Instruction.{stopped, trapped, retired_at}
use Rattle.world_view.specs.Event.{Storage, touch, unless, loaded, noted, guessed, store, settle, execute}
use Rattle.world_view.specs.Machine.{clock_of, dom_of, whole_off}
use Rattle.world_view.specs.View.{view, memory_sum}
use Rattle.world_view.specs.Opening.{frame_words}
use Rattle.phys_mem.specs.Mem.{frame_at}
use Rattle.machine_tests.specs.Example.{small_machine, two_domains, timed_prints, idle_loop, blue_reads, everything}

-- ---- a predictor

-- a target buffer of one place
abbrev pub one_target : Guesses
one_target = fresh_guesses (record { counters = 1; history = 0; targets = 1 })

-- it knows a jump by its whole pc, and by its whole target
pub knows_pc : is_known (gone one_target (jump 0x10000 0x30000)) (jump 0x20000 0x30000) ≡ false
knows_pc = refl

pub knows_target : is_known (gone one_target (jump 0x10000 0x30000)) (jump 0x10000 0x40000) ≡ false
knows_target = refl

-- so many branches, each taken
abbrev pub after_taken : ℕ → Guesses → Guesses
after_taken zero guesses = guesses
after_taken (suc n) guesses = learned (after_taken n guesses) 0x10000 true

-- a history of 8 keeps eight outcomes, and no ninth
abbrev pub of_eight : Guesses
of_eight = (fresh_core (hierarchy (record small_machine { history = 8 }))).guesses

pub eight_outcomes : (after_taken 8 of_eight).history ≡ 255
unfolding fresh_core hierarchy
eight_outcomes = refl

pub ninth_outcome : (after_taken 9 of_eight).history ≡ 255
unfolding fresh_core hierarchy
ninth_outcome = refl

-- ---- what an instruction touches

-- a domain at its entry, with this word in x5
unfoldable pub having : ℕ → Dom
having word =
    record fresh {
      threads = with_current fresh.threads (record fresh.threads.current { regs = slice_set zeros 5 word });
    }

module _ (p : Hardware) (root now : ℕ) (s : Storage) where
  -- a JALR to an odd sum goes to the address below it, and so the target buffer has it
  pub odd_sum : (execute p root now (having 0x10021) (Jalr 0 5 0) s).notes ≡ cost.Jump 0x10000 0x10020 ∷ []
  unfolding execute loaded settle unless guessed store touch having fresh dom_at_entry threads.threads_at_entry
      with_current note go_on ◌>>=◌ ◌>>◌ give stop check either noted retired_at domain.placed
  odd_sum = refl

  -- a branch that traps is neither guessed nor learned
  pub trapped_branch : (execute p root now (having 0) (Branch Equal 0 5 6) s).notes ≡ []
  unfolding execute loaded settle unless guessed store touch having fresh dom_at_entry threads.threads_at_entry
      with_current note go_on ◌>>=◌ ◌>>◌ give stop check either noted trapped stopped
  trapped_branch = refl

-- ---- kernel calls

-- a number is the whole of x17: 257 is no call, where 1 is one that may be made
pub whole_number : number_made few (asking 257) ≡ 18
unfolding fresh dom_at_entry threads.threads_at_entry with_current may_make
whole_number = refl

-- ---- what is seen

-- each frame of the pool, the last one too
pub each_frame : (p : Hardware) (o : Own) (d : Dom) (s : Storage)
    → (view p o d s).frames ≡ map (λ f. frame_words (frame_at s.mem f)) (view p o d s).pool
unfolding view
each_frame p o d s = refl

pub last_frame : memory_sum ((1 ∷ 2 ∷ []) ∷ (4 ∷ []) ∷ (8 ∷ []) ∷ []) ≡ 15
unfolding memory_sum
last_frame = refl

-- ---- harts

-- a hart's entries are in the order of the schedule, not of their domains
abbrev pub of_domain : ℕ → ℕ → Entry
of_domain domain hart = record { domain = domain; length = 1000; pad = 30; hart = hart }

pub in_order : entries_on (of_domain 2 1 ∷ of_domain 1 0 ∷ of_domain 0 1 ∷ []) 1
    ≡ (0, of_domain 2 1) ∷ (2, of_domain 0 1) ∷ []
unfolding entries_on
in_order = refl

-- ---- one guard off

-- without pads the slot of a domain that has ended is as long as any: red's second begins at cycle 22,155
pub ended_slot : clock_of 0 (whole_off guard.Pad timed_prints 3) ≡ 22155 + 10000
unfolding everything
ended_slot = refl

-- rdcycle x5; mul x7, x5, x5; divu x7, x5, x5; rdcycle x6; addi x17, x0, 0; ecall
abbrev pub timed_products : List ℕ
timed_products =
    0xf3 ∷ 0x22 ∷ 0 ∷ 0xc0
    ∷ 0xb3 ∷ 0x83 ∷ 0x52 ∷ 0x02
    ∷ 0xb3 ∷ 0xd3 ∷ 0x52 ∷ 0x02
    ∷ 0x73 ∷ 0x23 ∷ 0 ∷ 0xc0
    ∷ 0x93 ∷ 0x08 ∷ 0 ∷ 0
    ∷ 0x73 ∷ 0 ∷ 0 ∷ 0 ∷ []

abbrev pub multiplying : Hardware
multiplying = record small_machine { muldiv = Some (record { mul = 5; div = 2 }) }

unfoldable pub with_products : Image
with_products =
    let i = two_domains timed_products idle_loop in
    record i { all = record i.all { hardware = multiplying } }

-- the first instruction takes 147 cycles, a product 3 and 5 more, a division of 13 digits 3 and 2 * 14 more
pub products_take_time : (dom_of (whole_off guard.Prefetch with_products 1) 0).readings
    ≡ 6150 ∷ (6150 + 147 + (3 + 5) + (3 + 2 * 14)) ∷ []
unfolding everything with_products least_power
products_take_time = refl

-- rdcycle x5; addi x17, x0, 15; ecall; rdcycle x6; addi x17, x0, 0; ecall
abbrev pub timed_bad_call : List ℕ
timed_bad_call =
    0xf3 ∷ 0x22 ∷ 0 ∷ 0xc0
    ∷ 0x93 ∷ 0x08 ∷ 0xf0 ∷ 0
    ∷ 0x73 ∷ 0 ∷ 0 ∷ 0
    ∷ 0x73 ∷ 0x23 ∷ 0 ∷ 0xc0
    ∷ 0x93 ∷ 0x08 ∷ 0 ∷ 0
    ∷ 0x73 ∷ 0 ∷ 0 ∷ 0 ∷ []

-- without clones of their own red's bad call has left in the second level the lines that blue's touches
pub bad_call_uncloned : blue_reads guard.Clone (two_domains timed_bad_call timed_bad_call) ≡ 22300 ∷ 22528 ∷ []
unfolding everything
bad_call_uncloned = refl

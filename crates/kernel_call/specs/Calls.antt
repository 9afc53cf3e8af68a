-- What a kernel call of the code comes to.
use Rattle.std.specs.Prelude.{◌≡◌, ℕ, ◌+◌, ◌≤◌, ◌%◌, ◌^◌, List, length, slice_index}
use Rattle.tp_base.specs.Act as act
use Rattle.tp_base.specs.Act.{either}
use Rattle.phys_mem.specs.Contents.{Contents}
use Rattle.phys_mem.specs.Mem.{Mem}
use Rattle.rv_core.specs.Registers.{with_register}
use Rattle.kernel_clone.specs.Models.{work_model}
use Rattle.thread_set.specs.Models.{threads_model}
use Rattle.thread_set.specs.declared.Thread.{Thread}
use Rattle.call_table.specs.Domain.{Dom, reply_past}
use Rattle.call_table.specs.Claims.{Estate}
use Rattle.call_table.specs.Calls.{Note, call_of, work_of, empties, empties_buffer}
use Rattle.call_table.specs.declared.Reply.{Reply}
use Rattle.kernel_call.specs.Logs.{log_of}
use Rattle.kernel_call.specs.LogModel.{log_model}
use Rattle.kernel_call.specs.declared.domain.Domain.{Domain}
use Rattle.kernel_call.specs.declared.outcome.Outcome.{Outcome}
use Rattle.kernel_call.specs.Models.{dom_model, Stands}
use Rattle.kernel_call.specs.Facts.{HasFacts}

-- what a call with this number leaves, of a domain that had so many replies
pub record IsCalled (e : Estate) (memory : Contents) (d : Domain) (number before : ℕ) (outcome : Outcome)
    (r : act.Done Mem Note Dom Dom) : Type 0 where
  pub dom : Stands d (either r.value)
  pub facts : HasFacts e memory r.state d
  pub work : work_model outcome.work ≡ work_of number r.notes
  pub reply : outcome.reply ≡ reply_past before (either r.value)
  pub buffer : empties_buffer outcome.work.op outcome.reply ≡ empties r.notes

-- whatever estate, logs and memory the old ones stand for, the new ones stand for what the call leaves
abbrev pub Calls : ℕ → List ℕ → Outcome → Contents → Domain → Contents → Domain → Type 0
Calls number args outcome memory old memory' new =
    (e : Estate) (readings : List ℕ) (replies : List Reply) (m : Mem)
    → HasFacts e memory m old → log_model old.readings ≡ log_of readings
    → log_model old.replies ≡ log_of replies
    → IsCalled e memory' new number (length replies) outcome
    (call_of e (dom_model old readings replies) number (slice_index args 0) (slice_index args 1)
    (slice_index args 2) m)

-- ---- what no call changes, and what a refused one leaves

pub record KeepsParts (old new : Domain) : Type 0 where
  pub map : new.map ≡ old.map
  pub tables : new.tables ≡ old.tables
  pub kept : new.kept ≡ old.kept
  pub layout : new.layout ≡ old.layout
  pub calls : new.calls ≡ old.calls
  pub number : new.number ≡ old.number
  pub moments : new.interrupts.moments ≡ old.interrupts.moments
  pub delivered : new.interrupts.delivered ≡ old.interrupts.delivered
  pub retired : new.retired ≡ old.retired
  pub readings : new.readings ≡ old.readings
  pub replies : new.replies.count ≤ old.replies.count + 2  -- a thread that a SIGNAL wakes has one of its own

-- the thread moves on, with its reply in x10 and x11
abbrev pub answered : Thread → Reply → Thread
answered x r =
    record x { pc = (x.pc + 4) % 2 ^ 32; regs = with_register (with_register x.regs 10 r.code) 11 r.value }

pub record IsRefused (old new : Domain) (reply : Reply) : Type 0 where
  pub value : reply.value ≡ 0
  pub status : new.status ≡ old.status
  pub threads : threads_model new.threads
      ≡ record (threads_model old.threads) { current = answered old.threads.active reply }
  pub interrupts : new.interrupts ≡ old.interrupts
  pub caps : new.caps ≡ old.caps
  pub pool : new.pool ≡ old.pool
  pub printed : new.printed ≡ old.printed

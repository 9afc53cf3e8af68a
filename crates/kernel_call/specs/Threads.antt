-- What calls that leave memory alone come to, and what a signal of a line leaves as it was.
use Rattle.std.specs.Prelude.{◌≡◌, ℕ, ◌+◌, ◌≤◌, List, [], length, Option}
use Rattle.tp_base.specs.Act as act
use Rattle.tp_base.specs.Act.{either}
use Rattle.phys_mem.specs.Mem.{Mem}
use Rattle.call_table.specs.Domain.{Dom, reply_past}
use Rattle.call_table.specs.Claims.{Estate}
use Rattle.call_table.specs.Calls.{Note, Act}
use Rattle.call_table.specs.declared.Reply.{Reply}
use Rattle.kernel_call.specs.Logs.{log_of}
use Rattle.kernel_call.specs.LogModel.{log_model}
use Rattle.kernel_call.specs.declared.domain.Domain.{Domain}
use Rattle.kernel_call.specs.Models.{dom_model, Stands}

-- nothing is done besides, and the domain stands for what the call leaves of one that had so many replies
pub record IsAnswered (m : Mem) (before : ℕ) (reply : Option Reply) (d : Domain)
    (r : act.Done Mem Note Dom Dom) : Type 0 where
  pub notes : r.notes ≡ []
  pub state : r.state ≡ m
  pub dom : Stands d (either r.value)
  pub reply_is : reply ≡ reply_past before (either r.value)

-- whatever the old domain stands for, in every memory
abbrev pub Answers : (Estate → Dom → Act Dom) → Option Reply → Domain → Domain → Type 0
Answers f reply old new = (e : Estate) (readings : List ℕ) (replies : List Reply) (m : Mem)
    → log_model old.readings ≡ log_of readings → log_model old.replies ≡ log_of replies
    → IsAnswered m (length replies) reply new (f e (dom_model old readings replies) m)

-- a signal of a line may change threads and bits, and record a reply; so many moments are delivered then
pub record KeepsAtSignal (count : ℕ) (old new : Domain) : Type 0 where
  pub status : new.status ≡ old.status
  pub caps : new.caps ≡ old.caps
  pub map : new.map ≡ old.map
  pub pool : new.pool ≡ old.pool
  pub tables : new.tables ≡ old.tables
  pub kept : new.kept ≡ old.kept
  pub layout : new.layout ≡ old.layout
  pub calls : new.calls ≡ old.calls
  pub number : new.number ≡ old.number
  pub moments : new.interrupts.moments ≡ old.interrupts.moments
  pub delivered : new.interrupts.delivered ≡ count
  pub retired : new.retired ≡ old.retired
  pub readings : new.readings ≡ old.readings
  pub printed : new.printed ≡ old.printed
  pub replies : new.replies.count ≤ old.replies.count + 1

-- one more is delivered
abbrev pub KeepsAtDelivery : Domain → Domain → Type 0
KeepsAtDelivery old new = KeepsAtSignal (old.interrupts.delivered + 1) old new

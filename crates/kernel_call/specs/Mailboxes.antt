-- What calls leave of memory and of the boxes.
use Rattle.std.specs.Prelude.{◌≡◌, ◌≢◌, ℕ, List, [], length, slice_index}
use Rattle.tp_base.specs.Act as act
use Rattle.tp_base.specs.Act.{either}
use Rattle.phys_mem.specs.Contents.{Contents}
use Rattle.phys_mem.specs.Mem.{Mem}
use Rattle.kernel_clone.specs.Models.{work_model}
use Rattle.mail_slots.specs.Boxes.{Boxes}
use Rattle.call_table.specs.declared.Reply.{Reply}
use Rattle.call_table.specs.Domain.{Dom, replied, reply_past}
use Rattle.call_table.specs.Claims.{Estate}
use Rattle.call_table.specs.Calls.{Note, work_of, empties, empties_buffer}
use Rattle.call_table.specs.Mail.{Storage, MailDone, called_of}
use Rattle.kernel_call.specs.Logs.{log_of}
use Rattle.kernel_call.specs.LogModel.{log_model}
use Rattle.kernel_call.specs.declared.domain.Domain.{Domain}
use Rattle.kernel_call.specs.declared.outcome.Outcome.{Outcome}
use Rattle.kernel_call.specs.Models.{dom_model, Stands}
use Rattle.kernel_call.specs.Facts.{HasFacts}

-- a call on the boxes comes to these boxes, and to this reply to the domain
pub record ComesTo (r : MailDone) (boxes : Boxes) (reply : Reply) (d : Dom) : Type 0 where
  pub no_work : r.notes ≡ []
  pub boxes_are : r.state ≡ boxes
  pub replies : either r.value ≡ replied reply.code reply.value d

-- a reply of a call that was refused has no value, and nothing was changed
pub record IsRefusal (old new : Boxes) (reply : Reply) : Type 0 where
  pub value : reply.code ≢ 0 → reply.value ≡ 0
  pub unchanged : reply.code ≢ 0 → new ≡ old

-- what a call with this number leaves, of a domain that had so many replies
pub record HasCalled (e : Estate) (memory : Contents) (boxes : Boxes) (d : Domain) (number before : ℕ) (outcome : Outcome)
    (r : act.Done Storage Note Dom Dom) : Type 0 where
  pub dom : Stands d (either r.value)
  pub facts : HasFacts e memory r.state.mem d
  pub mail : boxes ≡ r.state.boxes
  pub work : work_model outcome.work ≡ work_of number r.notes
  pub reply : outcome.reply ≡ reply_past before (either r.value)
  pub buffer : empties_buffer outcome.work.op outcome.reply ≡ empties r.notes

-- whatever estate, logs and memory the old ones stand for, the new ones stand for what the call leaves
abbrev pub CallsIn : ℕ → List ℕ → Outcome → Contents → Boxes → Domain → Contents → Boxes → Domain → Type 0
CallsIn number args outcome memory boxes old memory' boxes' new =
    (e : Estate) (readings : List ℕ) (replies : List Reply) (m : Mem)
    → HasFacts e memory m old → log_model old.readings ≡ log_of readings
    → log_model old.replies ≡ log_of replies
    → HasCalled e memory' boxes' new number (length replies) outcome
    (called_of e (dom_model old readings replies) number (slice_index args 0) (slice_index args 1)
    (slice_index args 2) (record { mem = m; boxes = boxes }))

-- How contracts see the code's domain.
use Rattle.std.specs.Prelude.{◌≡◌, ℕ, ◌*◌, ◌≤◌, List, []}
use Rattle.thread_set.specs.Models.{threads_model}
use Rattle.call_table.specs.declared.DomainStatus.TheVariants.{Running}
use Rattle.call_table.specs.declared.Reply.{Reply}
use Rattle.call_table.specs.Domain.{Dom}
use Rattle.kernel_call.specs.Logs.{log_of}
use Rattle.kernel_call.specs.LogModel.{log_model}
use Rattle.kernel_call.specs.declared.domain.Domain.{Domain}

-- given all its readings and replies, of which the code keeps the first
abbrev pub dom_model : Domain → List ℕ → List Reply → Dom
dom_model d readings replies = record {
  status = d.status;
  threads = threads_model d.threads;
  caps = d.caps;
  delivered = d.interrupts.delivered;
  bits = d.interrupts.bits;
  retired = d.retired;
  readings = readings;
  replies = replies;
  printed = d.printed.items;
}

-- the code's domain stands for this one
pub record Stands (d : Domain) (m : Dom) : Type 0 where
  pub same : dom_model d m.readings m.replies ≡ m
  pub readings : log_model d.readings ≡ log_of m.readings
  pub replies : log_model d.replies ≡ log_of m.replies

-- whatever old stands for, new stands for f of it
abbrev pub Becomes : (Dom → Dom) → Domain → Domain → Type 0
Becomes f old new = (readings : List ℕ) (replies : List Reply)
    → log_model old.readings ≡ log_of readings → log_model old.replies ≡ log_of replies
    → Stands new (f (dom_model old readings replies))

-- no count is past the clock, but a call or a delivery records two replies at most
pub record CountsUpTo (clock : ℕ) (d : Domain) : Type 0 where
  pub retired : d.retired ≤ clock
  pub readings : d.readings.count ≤ clock
  pub replies : d.replies.count ≤ 2 * clock

-- it runs, and has done nothing yet
pub record IsNew (d : Domain) : Type 0 where
  pub status : d.status ≡ Running
  pub retired : d.retired ≡ 0
  pub readings : log_model d.readings ≡ log_of []
  pub replies : log_model d.replies ≡ log_of []
  pub printed : d.printed.items ≡ []

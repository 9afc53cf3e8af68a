-- What can be seen of a domain: its state, and the words of its pool.
use Rattle.std.specs.Prelude.{ℕ, ◌%◌, ◌^◌, List, [], map, sum}
use Rattle.std.specs.List.{concat}
use Rattle.thread_set.specs.declared.Thread.{Thread}
use Rattle.thread_set.specs.Threads.{all_of}
use Rattle.call_table.specs.declared.DomainStatus.{DomainStatus}
use Rattle.call_table.specs.declared.Reply.{Reply}
use Rattle.call_table.specs.Domain.{Dom}
use Rattle.kernel_call.specs.Logs.{Log, log_of}
use Rattle.hardware_check.specs.Hardware.{Hardware}
use Rattle.image_check.specs.Public.{Public}
use Rattle.image_check.specs.Own.{Own}
use Rattle.image_check.specs.Image.{Image, own_of}
use Rattle.world_view.specs.Frames.{pool}
use Rattle.phys_mem.specs.Mem.{frame_at}
use Rattle.world_view.specs.Opening.{frame_words}
use Rattle.world_view.specs.Event.{Storage}
use Rattle.guards.specs.declared.Guard.{Guard}
use Rattle.mail_slots.specs.Sides.{Arrival}
use Rattle.world_view.specs.Machine.{World, whole, whole_off, dom_of, alone_mail}

pub record View : Type 0 where
  pub status : DomainStatus
  pub retired : ℕ
  pub threads : List Thread  -- eight, by their numbers
  pub readings : Log ℕ
  pub replies : Log Reply
  pub printed : List ℕ
  pub pool : List ℕ  -- its frames' numbers, ascending
  pub frames : List (List ℕ)  -- the words of each of them

unfoldable pub view : Hardware → Own → Dom → Storage → View
view p o d s = record {
  status = d.status;
  retired = d.retired;
  threads = all_of d.threads;
  readings = log_of d.readings;
  replies = log_of d.replies;
  printed = d.printed;
  pool = pool p o;
  frames = map (λ f. frame_words (frame_at s.mem f)) (pool p o);
}

-- domain d of the whole machine
abbrev pub view_in : Image → ℕ → World → View
view_in i d w = view i.all.hardware (own_of i d) (dom_of w d) w.storage

-- after n slots
unfoldable pub view_whole : Image → ℕ → ℕ → View
view_whole i d n = view_in i d (whole i n)

-- with a guard off
unfoldable pub view_off : Guard → Image → ℕ → ℕ → View
view_off off i d n = view_in i d (whole_off off i n)

-- the same domain alone, from the public part and its own, where this came in boxes as its slots began
unfoldable pub view_mailed : Public → Own → ℕ → List Arrival → ℕ → View
view_mailed p o d came n = let s = alone_mail p o d came n in view p.hardware o s.dom s.storage

-- and where nothing came
abbrev pub view_alone : Public → Own → ℕ → ℕ → View
view_alone p o d n = view_mailed p o d [] n

-- the sum of all words of the pool, modulo 2^32
unfoldable pub memory_sum : List (List ℕ) → ℕ
memory_sum frames = sum (concat frames) % 2 ^ 32

-- The text of a domain's section.
use Rattle.std.specs.Prelude.{ℕ, ◌==◌, if◌then◌else◌, List, [], ◌∷◌, ◌++◌, length, codes, decimal, Option, Some, None}
use Rattle.std.specs.Int.{to_be_bytes, w32}
use Rattle.std.specs.List.{concat, flat_map, enumerate_from}
use Rattle.hex.specs.Hex.{encode_lower}
use Rattle.thread_set.specs.declared.Thread.{Thread}
use Rattle.thread_set.specs.declared.ThreadState.{ThreadState}
use Rattle.thread_set.specs.declared.ThreadState.TheVariants.{Never, Ready, Waiting, Ended}
use Rattle.call_table.specs.declared.DomainStatus.{DomainStatus}
use Rattle.call_table.specs.declared.DomainStatus.TheVariants.{Running, Exited, Stopped}
use Rattle.call_table.specs.declared.Reply.{Reply}
use Rattle.kernel_call.specs.Logs.{Log}
use Rattle.world_view.specs.View.{View, memory_sum}

-- eight hexadecimal digits
unfoldable pub h8 : ℕ → List ℕ
h8 word = encode_lower (to_be_bytes w32 word)

-- ---- status

unfoldable pub exited_text : ℕ → List ℕ
exited_text code = concat (codes "exited " ∷ decimal code ∷ [])

unfoldable pub stopped_text : ℕ → ℕ → ℕ → List ℕ
stopped_text code pc value =
    concat (codes "stopped " ∷ decimal code ∷ codes " pc " ∷ h8 pc ∷ codes " value " ∷ h8 value ∷ [])

unfoldable pub status_text : DomainStatus → List ℕ
status_text Running = codes "running"
status_text (Exited code) = exited_text code
status_text (Stopped code pc value) = stopped_text code pc value

-- ---- threads

-- one that was never started has no line, and so shows no state
unfoldable pub state_text : ThreadState → List ℕ
state_text Never = []
state_text Ready = codes "ready"
state_text (Waiting line) = codes "waiting " ++ decimal line
state_text Ended = codes "ended"

-- a register that isn't zero
unfoldable pub register_text : ℕ × ℕ → List ℕ
register_text (x, word) = if word == 0 then [] else concat (codes " x" ∷ decimal x ∷ codes "=" ∷ h8 word ∷ [])

unfoldable pub registers_text : List ℕ → List ℕ
registers_text regs = flat_map register_text (enumerate_from 0 regs)

-- a line, begun by its line feed
unfoldable pub thread_line : ℕ → Thread → List ℕ
thread_line t x =
    concat (codes "\nthread " ∷ decimal t ∷ codes " " ∷ state_text x.state ∷ codes " pc " ∷ h8 x.pc
    ∷ registers_text x.regs ∷ [])

-- where a thread in this state was ever started
abbrev pub if_started : ThreadState → List ℕ → List ℕ
if_started Never text = []
if_started _ text = text

-- thread t's line, if it was ever started
unfoldable pub thread_text : ℕ × Thread → List ℕ
thread_text (t, x) = if_started x.state (thread_line t x)

-- of threads by their numbers
unfoldable pub threads_text : List Thread → List ℕ
threads_text threads = flat_map thread_text (enumerate_from 0 threads)

-- ---- logs

unfoldable pub reading_text : ℕ → List ℕ
reading_text value = decimal value

unfoldable pub reply_text : Reply → List ℕ
reply_text r = concat (decimal r.code ∷ codes ":" ∷ decimal r.value ∷ [])

-- each after a space
unfoldable pub spaced : {A : Type 0} → (A → List ℕ) → A → List ℕ
spaced item x = codes " " ++ item x

unfoldable pub last_text : {A : Type 0} → (A → List ℕ) → Option A → List ℕ
last_text item None = []
last_text item (Some x) = concat (codes " last" ∷ spaced item x ∷ codes " list" ∷ [])

-- the last, and the kept ones
unfoldable pub items_text : {A : Type 0} → (A → List ℕ) → Log A → List ℕ
items_text item l = last_text item l.last ++ flat_map (spaced item) l.first

-- the count, and where it isn't 0 the last and the kept ones
unfoldable pub log_text : {A : Type 0} → (A → List ℕ) → Log A → List ℕ
log_text item l = decimal l.count ++ (if l.count == 0 then [] else items_text item l)

-- ---- bytes and words

unfoldable pub bytes_text : List ℕ → List ℕ
bytes_text bytes = if length bytes == 0 then [] else codes " " ++ encode_lower bytes

-- ---- the section of domain d

-- what stands above the threads
unfoldable pub head_text : ℕ → List ℕ → View → List ℕ
head_text d name v = concat (
    codes "domain " ∷ decimal d ∷ codes " " ∷ name
    ∷ codes "\nstatus " ∷ status_text v.status
    ∷ codes "\nretired " ∷ decimal v.retired ∷ [])

-- what stands below them
unfoldable pub rest_text : View → List ℕ
rest_text v = concat (
    codes "\nreadings " ∷ log_text reading_text v.readings
    ∷ codes "\nreplies " ∷ log_text reply_text v.replies
    ∷ codes "\nout " ∷ decimal (length v.printed) ∷ bytes_text v.printed
    ∷ codes "\nmem " ∷ h8 (memory_sum v.frames)
    ∷ codes "\n" ∷ [])

unfoldable pub section : ℕ → List ℕ → View → List ℕ
section d name v = head_text d name v ++ (threads_text v.threads ++ rest_text v)

-- What the program answers to its words and the bytes of its source.
use Rattle.std.specs.Prelude.{ℕ, nat_le, nat_lt, nat_eq, if◌then◌else◌, List, length, Option, Some, None, Result, Ok, Err}
use Rattle.image_record.specs.declared.refusal.Refusal.{Refusal}
use Rattle.image_record.specs.Record as text
use Rattle.guards.specs.declared.Guard.{Guard}
use Rattle.sched_table.specs.Schedule.{harts_in}
use Rattle.image_check.specs.Image.{Image, image_from}
use Rattle.image_gen.specs.Generated.{generated}
use Rattle.image_gen.specs.Text.{text as generated_text}
use Rattle.image_reading.specs.Reading.{most_bytes}
use Rattle.image_redact.specs.Redacted.{redacted}
use Rattle.image_writing.specs.Text.{text_of}
use Rattle.hart_orders.specs.declared.choice.Choice.TheVariants.{LeastClock, Drawn}
use Rattle.tp_report.specs.Report.{report_off, bounds_of, accepted_text, usage_text, refusal_text, too_long_text}
use Rattle.tp_report.specs.Demo.{demo_text}
use Rattle.tp_words.specs.declared.Command.{Command}
use Rattle.tp_words.specs.declared.Command.TheVariants.{Check, Bound, Run, Alone, Gen, Demo, Ablate, Harts, Redact}
use Rattle.tp_answer.specs.declared.status.Status.{Status}
use Rattle.tp_answer.specs.declared.status.Status.TheVariants.{Done, Refused, Usage, TooLong}
use Rattle.tp_answer.specs.Reading.{record_for}
use Rattle.tp_answer.specs.Runs.{report, section_alone}
use Rattle.tp_words.specs.Words.{command}

-- ---- the answer: a status and a text

abbrev pub Answer : Type 0
Answer = Status × List ℕ

-- words that name no domain of the image have the usage line
unfoldable pub answer_alone : ℕ → ℕ → Image → Answer
answer_alone d n i = if nat_lt d i.all.domains then (Done, section_alone i d n) else (Usage, usage_text)

-- an image of several harts has no machine with a guard off
unfoldable pub answer_off : Guard → ℕ → Image → Answer
answer_off off n i =
    if nat_eq (harts_in i.all.schedule) 1 then (Done, report_off off i n) else (Usage, usage_text)

-- the image as the tenant of domain d may hold it, where there is one
unfoldable pub answer_redact : ℕ → text.Raw → Answer
answer_redact d i = if nat_lt d (length i.domains) then (Done, text_of (redacted i d)) else (Usage, usage_text)

-- what a command writes of the image that a seed makes
abbrev pub answer_gen : ℕ → Answer
answer_gen s = (Done, generated_text s)

abbrev pub answer_demo : ℕ → Answer
answer_demo s = (Done, demo_text (image_from (generated s)) s)

-- to the record of an image that breaks no rule, by command; where the bound is asked for, none but that of pads
unfoldable pub answer_of_record : Command → text.Raw → Answer
answer_of_record Check i = (Done, accepted_text)
answer_of_record Bound i = (Done, bounds_of (image_from i))
answer_of_record (Run n) i = (Done, report (image_from i) LeastClock n)
answer_of_record (Alone d n) i = answer_alone d n (image_from i)
answer_of_record (Gen s) i = answer_gen s
answer_of_record (Demo s) i = answer_demo s
answer_of_record (Ablate off n) i = answer_off off n (image_from i)
answer_of_record (Harts n s) i = (Done, report (image_from i) (Drawn s) n)
answer_of_record (Redact d) i = answer_redact d i

unfoldable pub answer_unless_broken : Command → Result text.Raw Refusal → Answer
answer_unless_broken c (Ok i) = answer_of_record c i
answer_unless_broken c (Err r) = (Refused, refusal_text r)

-- an image that is too long isn't read
unfoldable pub answer_to_image : Command → List ℕ → Answer
answer_to_image c bytes =
    if nat_le (length bytes) most_bytes then answer_unless_broken c (record_for c bytes)
    else (TooLong, too_long_text)

-- where nothing is read, it is the same whatever the bytes are
unfoldable pub answer_of_bytes : Command → List ℕ → Answer
answer_of_bytes (Gen s) bytes = answer_gen s
answer_of_bytes (Demo s) bytes = answer_demo s
answer_of_bytes c bytes = answer_to_image c bytes

unfoldable pub answer_by : Option Command → List ℕ → Answer
answer_by None bytes = (Usage, usage_text)
answer_by (Some c) bytes = answer_of_bytes c bytes

unfoldable pub answer : List (List ℕ) → List ℕ → Answer
answer words bytes = answer_by (command words) bytes

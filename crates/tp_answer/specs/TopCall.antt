-- What the top call answers, and what it does to its source and its sink.
use Rattle.std.specs.Prelude.{◌≡◌, ◌≢◌, ℕ, ◌+◌, ◌<◌, ◌≤◌, ◌⊎◌, ⊤, false, List, [], length, slice_get, Option, Some, None, Ok}
use Rattle.tp_io.specs.Bytes.{before_known, after_known, AtEnd, PutsFront}
use Rattle.tp_io.specs.Causes.{TellsFault}
use Rattle.tp_io.specs.Sends.{SinkState}
use Rattle.tp_io.specs.Sure.{Exceeds}
use Rattle.guards.specs.declared.Guard.{Guard}
use Rattle.image_record.specs.declared.refusal.Refusal.{Refusal}
use Rattle.image_record.specs.Record as text
use Rattle.image_text.specs.Record.{image_of}
use Rattle.image_gen.specs.Generated.{generated}
use Rattle.image_gen.specs.Text.{text as generated_text}
use Rattle.image_check.specs.Checking.{broken, broken_but_pads}
use Rattle.image_check.specs.Image.{Image, image_from}
use Rattle.image_reading.specs.Reading.{most_bytes, image}
use Rattle.image_redact.specs.Redacted.{redacted}
use Rattle.image_writing.specs.Text.{text_of}
use Rattle.sched_table.specs.Schedule.{entry_in, harts_in}
use Rattle.world_view.specs.Machine.{clock_of}
use Rattle.world_view.specs.View.{view_in}
use Rattle.world_view.specs.Harts.{IsOnOneHart, progress_of, slots_of, start_on, next, harts, view_mailed_on, view_alone_on}
use Rattle.world_view.specs.HartLaws.{AreHartsOf}
use Rattle.world_view.specs.Relations.{IsDomain, HasNoMail, AllWithinPads}
use Rattle.world_view.specs.Used.{largest_of}
use Rattle.hart_orders.specs.declared.choice.Choice.{Choice}
use Rattle.tp_report.specs.Report.{report_off, bounds_of, accepted_text, usage_text, refusal_text}
use Rattle.tp_report.specs.Demo.{demo_text}
use Rattle.tp_words.specs.declared.Command.{Command}
use Rattle.tp_words.specs.declared.Command.TheVariants.{Alone, Ablate, Redact}
use Rattle.tp_answer.specs.declared.status.Status.{Status}
use Rattle.tp_answer.specs.declared.status.Status.TheVariants.{Usage, ReadFault, WriteFault, Memory}
use Rattle.tp_answer.specs.Reading.{broken_in}
use Rattle.tp_words.specs.Words.{Reads, command}
use Rattle.tp_answer.specs.Runs.{world_after, arrivals_after, report_apart, section_among, section_alone}
use Rattle.tp_answer.specs.Answer.{Answer, answer}

-- ---- what is written

-- what stands in the sink after a status, where this answer is due
abbrev pub Writes : Status → Answer → Option (List ℕ) → Option (List ℕ) → Type 0
Writes ReadFault due old new = new ≡ old
Writes Memory due old new = new ≡ old
Writes WriteFault due old new = PutsFront old new due.1
Writes status due old new = (status ≡ due.0) × (new ≡ after_known old due.1)

-- how words that are no command end: the usage line was written, or a front of it where the sink failed, or nothing
abbrev pub EndsUsage : Status → Option (List ℕ) → Option (List ℕ) → Type 0
EndsUsage Usage old new = new ≡ after_known old usage_text
EndsUsage WriteFault old new = PutsFront old new usage_text
EndsUsage Memory old new = new ≡ old
EndsUsage _ old new = ⊥

-- words that may have the usage line: they are no command, or name a domain, which the image may lack, or a guard, which
-- an image of several harts can't do without
abbrev pub MayBeUsage : Option Command → Type 0
MayBeUsage None = ⊤
MayBeUsage (Some (Alone d n)) = ⊤
MayBeUsage (Some (Ablate off n)) = ⊤
MayBeUsage (Some (Redact d)) = ⊤
MayBeUsage (Some _) = ⊥

-- no read failed: the answer that is due was written, unless memory ran out or the sink failed,
-- which it does only where the text is longer than what it surely takes
pub record Delivers (due : Answer) (status : Status) (old new : SinkState) : Type 0 where
  pub wrote : Writes status due old.written new.written
  pub no_read : status ≢ ReadFault
  pub fault : TellsFault (status ≡ WriteFault) old.faults new.faults
  pub short : status ≡ WriteFault → Exceeds old.sure due.1

-- the status that is due, or want of memory
abbrev pub ComesTo : Answer → Status → Type 0
ComesTo due status = (status ≡ due.0) ⊎ (status ≡ Memory)

-- ---- what is read

-- one byte more was taken than an image may have
pub record IsOver (left left' : Option (List ℕ)) : Type 0 where
  pub bytes : List ℕ
  pub took : left ≡ before_known bytes left'
  pub many : length bytes ≡ most_bytes + 1

-- neither a read failed nor memory ran out: the source had these bytes, and the answer to them was due
pub record Answered (words : List (List ℕ)) (status : Status) (left left' written written' : Option (List ℕ))
    : Type 0 where
  pub bytes : List ℕ
  pub took : left ≡ before_known bytes left'
  pub whole : (c : Command) → command words ≡ Some c → Reads c → length bytes ≤ most_bytes → AtEnd left'
  pub few : length bytes ≤ most_bytes + 1
  pub wrote : Writes status (answer words bytes) written written'

-- all that the source gave
pub record ReadsAll (left left' : Option (List ℕ)) : Type 0 where
  pub bytes : List ℕ
  pub took : left ≡ before_known bytes left'
  pub whole : AtEnd left'
  pub few : length bytes ≤ most_bytes

-- ---- rules

-- it breaks a rule, and the first one is what was written; where the bound is asked for, that of pads is left out
pub record Refuses (c : Command) (left left' written written' : Option (List ℕ)) : Type 0 where
  pub all : ReadsAll left left'
  pub item : Refusal
  pub first : slice_get (broken_in c (image_of all.bytes)) 0 ≡ Some item
  pub wrote : written' ≡ after_known written (refusal_text item)

-- it breaks no rule, and that is what was written
pub record Accepts (left left' written written' : Option (List ℕ)) : Type 0 where
  pub all : ReadsAll left left'
  pub record_of : text.Raw
  pub read : image_of all.bytes ≡ Ok record_of
  pub unbroken : broken record_of ≡ []
  pub wrote : written' ≡ after_known written accepted_text

-- it breaks no rule but that of pads, and the bounds on its switches are what was written
pub record Bounds (left left' written written' : Option (List ℕ)) : Type 0 where
  pub all : ReadsAll left left'
  pub record_of : text.Raw
  pub read : image_of all.bytes ≡ Ok record_of
  pub unbroken : broken_but_pads record_of ≡ []
  pub wrote : written' ≡ after_known written (bounds_of (image_from record_of))

-- ---- a run that was done

-- all that the source gave, and the image that it is
pub record ReadsImage (left left' : Option (List ℕ)) : Type 0 where
  pub bytes : List ℕ
  pub found : Image
  pub took : left ≡ before_known bytes left'
  pub whole : AtEnd left'
  pub few : length bytes ≤ most_bytes
  pub read : image bytes ≡ Ok found

-- each section that was written is that of its domain alone, by the entries of its hart, with what came to it in boxes; where no
-- box leads to it, nothing came
pub record Isolated (c : Choice) (slots : ℕ) (left left' written written' : Option (List ℕ)) : Type 0 where
  pub ran : ReadsImage left left'
  pub wrote : written' ≡ after_known written (report_apart ran.found c slots)
  pub mailed : (d : ℕ) → IsDomain ran.found d → view_in ran.found d (world_after ran.found c slots)
      ≡ view_mailed_on ran.found d (arrivals_after ran.found c slots d) slots
  pub views : (d : ℕ) → IsDomain ran.found d → HasNoMail ran.found d
      → view_in ran.found d (world_after ran.found c slots) ≡ view_alone_on ran.found d slots

-- no switch overran its pad, no switch line says more than its pad, and each slot of each hart begins at exactly its start,
-- whatever the order before
pub record Padded (c : Choice) (slots : ℕ) (left left' : Option (List ℕ)) : Type 0 where
  pub ran : ReadsImage left left'
  pub used : AllWithinPads ran.found.all.schedule (world_after ran.found c slots).used
  pub lines : (e : ℕ)
      → largest_of e (world_after ran.found c slots).used ≤ (entry_in ran.found.all.schedule e).pad
  pub starts : (h : ℕ) (order : List ℕ) → AreHartsOf ran.found order
      → h < harts_in ran.found.all.schedule →
      let s = harts ran.found order in
      (progress_of h s).inside ≡ false
      → clock_of h (next ran.found h s).world ≡ start_on ran.found h (slots_of h s)

-- ---- a domain alone

-- the image lacks the domain that is named, and the usage line was written
pub record LacksDomain (d : ℕ) (left left' written written' : Option (List ℕ)) : Type 0 where
  pub ran : ReadsImage left left'
  pub lacks : ran.found.all.domains ≤ d
  pub wrote : written' ≡ after_known written usage_text

-- what is seen of the domain alone was written
pub record WritesSection (d slots : ℕ) (left left' written written' : Option (List ℕ)) : Type 0 where
  pub ran : ReadsImage left left'
  pub domain : IsDomain ran.found d
  pub wrote : written' ≡ after_known written (section_alone ran.found d slots)

-- where no box leads to it, its section in the report of the whole machine was written, however the harts of that are chosen
pub record SameSection (d slots : ℕ) (left left' written written' : Option (List ℕ)) : Type 0 where
  pub ran : ReadsImage left left'
  pub domain : IsDomain ran.found d
  pub wrote : HasNoMail ran.found d → (c : Choice)
      → written' ≡ after_known written (section_among ran.found c d slots)

-- ---- a run with a guard off

-- the image has several harts, and the usage line was written
pub record HasManyHarts (left left' written written' : Option (List ℕ)) : Type 0 where
  pub ran : ReadsImage left left'
  pub many : harts_in ran.found.all.schedule ≢ 1
  pub wrote : written' ≡ after_known written usage_text

-- it has one; which guard is off, and the report of the machine without it, were written
pub record WritesOff (off : Guard) (slots : ℕ) (left left' written written' : Option (List ℕ)) : Type 0 where
  pub ran : ReadsImage left left'
  pub one : harts_in ran.found.all.schedule ≡ 1
  pub wrote : written' ≡ after_known written (report_off off ran.found slots)

-- ---- the image as the tenant of a domain may hold it

-- where bytes are an image, what the tenant of domain d may hold of it reads back, as it is written
abbrev pub KeptReadsBack : ℕ → List ℕ → Type 0
KeptReadsBack d bytes =
    (i : text.Raw) → image_of bytes ≡ Ok i → broken i ≡ [] → image_of (text_of (redacted i d)) ≡ Ok (redacted i d)

-- the image breaks no rule and has domain d, and what was written reads as the record that its tenant may hold; that one
-- breaks no rule, either, and has the same section of the domain: alone; where no box leads to it in the report; and in that of
-- an image of one hart whatever boxes do
pub record Redacts (d : ℕ) (left left' written written' : Option (List ℕ)) : Type 0 where
  pub all : ReadsAll left left'
  pub record_of : text.Raw
  pub read : image_of all.bytes ≡ Ok record_of
  pub unbroken : broken record_of ≡ []
  pub domain : d < length record_of.domains
  pub wrote : written' ≡ after_known written (text_of (redacted record_of d))
  pub reads_back : image_of (text_of (redacted record_of d)) ≡ Ok (redacted record_of d)
  pub accepted : broken (redacted record_of d) ≡ []
  pub same_alone : (slots : ℕ)
      → section_alone (image_from (redacted record_of d)) d slots ≡ section_alone (image_from record_of) d slots
  pub same_among : (c : Choice) (slots : ℕ) → HasNoMail (image_from record_of) d
      → section_among (image_from (redacted record_of d)) c d slots ≡ section_among (image_from record_of) c d slots
  pub same_together : (c : Choice) (slots : ℕ) → IsOnOneHart (image_from record_of)
      → section_among (image_from (redacted record_of d)) c d slots ≡ section_among (image_from record_of) c d slots

-- ---- the image that a seed makes

-- its text reads as its record
abbrev pub ReadsBack : ℕ → Type 0
ReadsBack seed = image_of (generated_text seed) ≡ Ok (generated seed)

-- a text that reads as the seed's record was written, and that record breaks no rule
pub record Generates (seed : ℕ) (written written' : Option (List ℕ)) : Type 0 where
  pub bytes : List ℕ
  pub wrote : written' ≡ after_known written bytes
  pub read : image_of bytes ≡ Ok (generated seed)
  pub unbroken : broken (generated seed) ≡ []

-- the seed's record breaks no rule, and the summary of its run was written
pub record Summarizes (seed : ℕ) (written written' : Option (List ℕ)) : Type 0 where
  pub unbroken : broken (generated seed) ≡ []
  pub wrote : written' ≡ after_known written (demo_text (image_from (generated seed)) seed)

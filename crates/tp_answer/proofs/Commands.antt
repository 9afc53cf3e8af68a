-- What a command tells that was answered: the top call's clauses, by what was due.
use Rattle.std.proofs.Common.{◌≡◌, ◌≢◌, ℕ, ◌^◌, ◌<◌, ◌≤◌, ltb, nat_eq, List, [], ◌∷◌, length, Option, Some, Result, Ok, Err, refl, sym, ap, ◌∙◌, subst, inl, inr, arith}
use Rattle.std.specs.Prelude.{slice_get}
use Rattle.std.proofs.lemmas.Bool.{cases_lt, cases_eq}
use Rattle.tp_io.specs.Bytes.{before_known, after_known, AtEnd}
use Rattle.tp_io.specs.Sends.{SinkState}
use Rattle.guards.specs.declared.Guard.{Guard}
use Rattle.image_record.specs.declared.refusal.Refusal.{Refusal}
use Rattle.image_record.specs.Record as text
use Rattle.image_text.specs.Record.{image_of}
use Rattle.sched_table.specs.Schedule.{harts_in}
use Rattle.image_check.specs.Checking.{broken}
use Rattle.image_check.specs.Public.{public_of}
use Rattle.image_check.specs.Image.{Image, image_from}
use Rattle.image_reading.specs.Reading.{image, checked, most_bytes}
use Rattle.image_redact.specs.Redacted.{redacted}
use Rattle.image_writing.specs.Text.{text_of}
use Rattle.image_check.specs.Laws.{Runnable}
use Rattle.image_reading.proofs.ReadingLaws.{read_runs}
use Rattle.world_view.proofs.harts.Clocks.{hart_starts}
use Rattle.hart_orders.specs.declared.choice.Choice.{Choice}
use Rattle.hart_orders.specs.declared.choice.Choice.TheVariants.{LeastClock, Drawn}
use Rattle.image_gen.specs.Text.{text as generated_text}
use Rattle.image_gen.proofs.Kept.{accepted_law}
use Rattle.tp_report.specs.Report.{report_off, usage_text, refusal_text}
use Rattle.tp_words.specs.declared.Command.{Command}
use Rattle.tp_words.specs.declared.Command.TheVariants.{Check, Bound, Run, Alone, Gen, Demo, Ablate, Harts, Redact}
use Rattle.tp_answer.specs.declared.status.Status.{Status}
use Rattle.tp_answer.specs.declared.status.Status.TheVariants.{Done, Refused, Usage, TooLong}
use Rattle.tp_words.specs.Words.{Reads, command}
use Rattle.tp_answer.specs.Reading.{unless_broken, broken_for, broken_in, checked_for, record_for}
use Rattle.tp_answer.specs.Answer.{Answer, answer, answer_of_bytes, answer_unless_broken, answer_of_record, answer_alone, answer_off, answer_redact}
use Rattle.tp_answer.specs.Runs.{report, section_alone}
use Rattle.tp_answer.proofs.Runs.{seen_mailed, seen_alone, within_pads, lines_within, apart, same_section}
use Rattle.tp_answer.proofs.Accepting.{Found, found_in}
use Rattle.tp_answer.proofs.Kept.{kept_accepted, same_alone, same_among, same_together}
use Rattle.tp_answer.specs.TopCall.{Writes, Delivers, MayBeUsage, ReadsImage, Refuses, Accepts, Bounds, Isolated, Padded, LacksDomain, WritesSection, SameSection, HasManyHarts, WritesOff, KeptReadsBack, Redacts, ReadsBack, Generates, Summarizes}
use Rattle.tp_answer.proofs.Answers.{all_taken, over_taken, too_long_due, image_due, bytes_due, gen_due, demo_due, alone_due, lacks_due, off_due, many_due, kept_due, none_kept_due, of_chosen, usage_of, other_reads, is_few, is_over}

-- ---- the same is due

-- the same is due to all bytes of a source as to those that were taken
same_read : (c : Command) → Reads c → (bytes items : List ℕ) (rest : Option (List ℕ))
    → Some bytes ≡ before_known items rest → (Reads c → length items ≤ most_bytes → AtEnd rest)
    → answer_of_bytes c items ≡ answer_of_bytes c bytes
same_read c reads bytes items rest took whole = elim (cases_lt most_bytes (length items)) [
  | inl over ↦
      too_long_due items c reads over
      ∙ sym (too_long_due bytes c reads (over_taken bytes items rest took over))
  | inr few ↦ ap (answer_of_bytes c) (sym (all_taken bytes items rest took (whole reads few)))
]

same_taken : (c : Command) (bytes items : List ℕ) (rest : Option (List ℕ))
    → Some bytes ≡ before_known items rest → (Reads c → length items ≤ most_bytes → AtEnd rest)
    → answer_of_bytes c items ≡ answer_of_bytes c bytes
same_taken (Gen s) bytes items rest took whole = gen_due items s ∙ sym (gen_due bytes s)
same_taken (Demo s) bytes items rest took whole = demo_due items s ∙ sym (demo_due bytes s)
same_taken Check bytes items rest took whole = same_read Check tt bytes items rest took whole
same_taken Bound bytes items rest took whole = same_read Bound tt bytes items rest took whole
same_taken (Run n) bytes items rest took whole = same_read (Run n) tt bytes items rest took whole
same_taken (Alone d n) bytes items rest took whole =
    same_read (Alone d n) tt bytes items rest took whole
same_taken (Ablate off n) bytes items rest took whole =
    same_read (Ablate off n) tt bytes items rest took whole
same_taken (Harts n s) bytes items rest took whole =
    same_read (Harts n s) tt bytes items rest took whole
same_taken (Redact d) bytes items rest took whole = same_read (Redact d) tt bytes items rest took whole

-- ---- a command that was answered

-- the bytes that were taken for it, what the source had before and has after, the status, the sink
pub record Asked : Type 0 where
  pub command : Command
  pub items : List ℕ
  pub left : Option (List ℕ)
  pub left' : Option (List ℕ)
  pub status : Status
  pub old : SinkState
  pub new : SinkState

-- what is due to these bytes
abbrev pub due_to : Asked → Answer
due_to a = answer_of_bytes a.command a.items

-- a text was written
abbrev pub HasWritten : Asked → List ℕ → Type 0
HasWritten a t = a.new.written ≡ after_known a.old.written t

-- this status and its text were due
abbrev pub IsDue : Asked → Status → Answer → Type 0
IsDue a status due = (status ≡ due.0) × HasWritten a due.1

-- they are all bytes of the source, unless they are too many; and what was due to them was delivered
pub record IsAnswered (a : Asked) : Type 0 where
  pub took : a.left ≡ before_known a.items a.left'
  pub whole : Reads a.command → length a.items ≤ most_bytes → AtEnd a.left'
  pub delivers : Delivers (due_to a) a.status a.old a.new

pub answering : {left : Option (List ℕ)} {status : Status} {old new : SinkState}
    (c : Command) (items : List ℕ) (left' : Option (List ℕ))
    → left ≡ before_known items left' → (Reads c → length items ≤ most_bytes → AtEnd left')
    → Delivers (answer_of_bytes c items) status old new
    → IsAnswered (record {
      command = c;
      items = items;
      left = left;
      left' = left';
      status = status;
      old = old;
      new = new;
    })
answering c items left' took whole delivers = record { took = took; whole = whole; delivers = delivers }

-- the command by another name
pub as_command : (a : Asked) (c : Command) → a.command ≡ c → IsAnswered a
    → IsAnswered (record a { command = c })
as_command a c same h = subst (λ (k : Command). IsAnswered (record a { command = k })) same h

module _ (a : Asked) (h : IsAnswered a) where
  -- all bytes of the source have the same coming
  pub told_delivers : (words : List (List ℕ)) (bytes : List ℕ) → command words ≡ Some a.command
      → a.left ≡ Some bytes → Delivers (answer words bytes) a.status a.old a.new
  told_delivers words bytes asked told =
      let same = same_taken a.command bytes a.items a.left' (sym told ∙ h.took) h.whole in
      subst (λ due. Delivers due a.status a.old a.new)
      (same ∙ sym (bytes_due words bytes a.command asked)) h.delivers

  wrote_as : (status : Status) → a.status ≡ status
      → Writes status (due_to a) a.old.written a.new.written
  wrote_as status is =
      subst (λ (s : Status). Writes s (due_to a) a.old.written a.new.written) is h.delivers.wrote

  -- how the reading ends where the status tells that an image was found, or what is none
  pub done_reads : Reads a.command → a.status ≡ Done → length a.items ≤ most_bytes
  done_reads reads done = is_few a.command reads a.items Done (wrote_as Done done).0 (λ e. cc e)

  pub usage_reads : Reads a.command → a.status ≡ Usage → length a.items ≤ most_bytes
  usage_reads reads usage =
      is_few a.command reads a.items Usage (wrote_as Usage usage).0 (λ e. cc e)

  -- only a command that reads an image is refused
  pub refused_reads : a.status ≡ Refused → Reads a.command × (length a.items ≤ most_bytes)
  refused_reads refused =
      let due : IsDue a Refused (due_to a) = wrote_as Refused refused in
      let reads = other_reads a.command a.items Refused due.0 (λ e. cc e) in
      (reads, is_few a.command reads a.items Refused due.0 (λ e. cc e))

  pub too_long_reads : a.status ≡ TooLong → most_bytes < length a.items
  too_long_reads over =
      let due : IsDue a TooLong (due_to a) = wrote_as TooLong over in
      is_over a.command (other_reads a.command a.items TooLong due.0 (λ e. cc e)) a.items due.0

  -- words that are a command have the usage line only where they name a domain, or a guard
  pub may_be_usage : a.status ≡ Usage → MayBeUsage (Some a.command)
  may_be_usage usage =
      let due : IsDue a Usage (due_to a) = wrote_as Usage usage in
      let reads = other_reads a.command a.items Usage due.0 (λ e. cc e) in
      let is = image_due a.items a.command reads (usage_reads reads usage) in
      usage_of a.command (record_for a.command a.items) (due.0 ∙ ap (λ (x : Answer). x.0) is)

-- ---- what the record was

abbrev refusal_or : Refusal → Result text.Raw Refusal → Refusal
refusal_or r (Ok i) = r
refusal_or r (Err q) = q

-- another status than Refused tells that a record was found
found_record : (c : Command) (found : Result text.Raw Refusal) (status : Status) → status ≢ Refused
    → status ≡ (answer_unless_broken c found).0
    → (i : text.Raw) × (found ≡ Ok i) × (answer_unless_broken c found ≡ answer_of_record c i)
unfolding answer_unless_broken
found_record c (Err r) status other e = absurd (other e)
found_record c (Ok i) status other e = (i, refl, refl)

done_is_found : Done ≢ Refused
done_is_found e = cc

usage_is_found : Usage ≢ Refused
usage_is_found e = cc

no_refusal : (c : Command) (i : text.Raw) → Refused ≡ (answer_of_record c i).0 → ⊥
unfolding answer_of_record answer_alone answer_off answer_redact
no_refusal Check i e = cc e
no_refusal Bound i e = cc e
no_refusal (Run n) i e = cc e
no_refusal (Ablate off n) i e =
    let j = image_from i in
    of_chosen (λ s. Refused ≢ s) (nat_eq (harts_in j.all.schedule) 1) (Done, report_off off j n)
    (Usage, usage_text) (λ r. cc r) (λ r. cc r) e
no_refusal (Harts n s) i e = cc e
no_refusal (Gen s) i e = cc e
no_refusal (Demo s) i e = cc e
no_refusal (Alone d n) i e =
    let j = image_from i in
    of_chosen (λ s. Refused ≢ s) (ltb d j.all.domains) (Done, section_alone j d n)
    (Usage, usage_text) (λ r. cc r) (λ r. cc r) e
no_refusal (Redact d) i e =
    of_chosen (λ s. Refused ≢ s) (ltb d (length i.domains)) (Done, text_of (redacted i d))
    (Usage, usage_text) (λ r. cc r) (λ r. cc r) e

refused_record : (c : Command) (found : Result text.Raw Refusal)
    → Refused ≡ (answer_unless_broken c found).0
    → (r : Refusal) × (found ≡ Err r) × (answer_unless_broken c found ≡ (Refused, refusal_text r))
unfolding answer_unless_broken
refused_record c (Err r) e = (r, refl, refl)
refused_record c (Ok i) e = absurd (no_refusal c i e)

first_unless : (t : text.Raw) (r : Refusal) (rs : List Refusal) → unless_broken t rs ≡ Err r
    → slice_get rs 0 ≡ Some r
first_unless t r [] e = absurd (cc)
first_unless t r (q ∷ qs) e = ap Some (ap (refusal_or r) e)

first_in : (c : Command) (read : Result text.Raw Refusal) (r : Refusal) → checked_for c read ≡ Err r
    → slice_get (broken_in c read) 0 ≡ Some r
unfolding checked_for broken_in
first_in c (Err q) r e = ap Some (ap (refusal_or r) e)
first_in c (Ok t) r e = first_unless t r (broken_for c t) e

-- the image of a record that breaks no rule
image_read : (bytes : List ℕ) (t : text.Raw) → image_of bytes ≡ Ok t → broken t ≡ [] → image bytes ≡ Ok (image_from t)
unfolding image checked
image_read bytes t read unbroken = rw (read, unbroken) refl

-- ---- what a done command, and a refused one, tell

module _ (a : Asked) (h : IsAnswered a) where
  -- what is due to the record
  told : (status : Status) → Reads a.command → IsDue a status (due_to a)
      → length a.items ≤ most_bytes
      → IsDue a status (answer_unless_broken a.command (record_for a.command a.items))
  told status reads due few =
      let is = image_due a.items a.command reads few in
      (due.0 ∙ ap (λ (x : Answer). x.0) is, due.1 ∙ ap (λ (x : Answer). after_known a.old.written x.1) is)

  pub refuses : a.status ≡ Refused → Refuses a.command a.left a.left' a.old.written a.new.written
  unfolding record_for
  refuses refused =
      let (reads, few) = refused_reads a h refused in
      let t = told Refused reads (wrote_as a h Refused refused) few in
      let (r, broken, is) = refused_record a.command (record_for a.command a.items) t.0 in
      record {
        all = record { bytes = a.items; took = h.took; whole = h.whole reads few; few = few };
        item = r;
        first = first_in a.command (image_of a.items) r broken;
        wrote = t.1 ∙ ap (λ (x : Answer). after_known a.old.written x.1) is;
      }

  -- what was due was due to a record
  reads_record : Reads a.command → (status : Status) → status ≢ Refused → IsDue a status (due_to a)
      → length a.items ≤ most_bytes
      → (i : text.Raw) × Found a.command (image_of a.items) i × IsDue a status (answer_of_record a.command i)
  unfolding record_for
  reads_record reads status other due few =
      let t = told status reads due few in
      let (i, read, is) = found_record a.command (record_for a.command a.items) status other t.0 in (
        i,
        found_in a.command (image_of a.items) i read,
        (t.0 ∙ ap (λ (x : Answer). x.0) is, t.1 ∙ ap (λ (x : Answer). after_known a.old.written x.1) is),
      )

  -- of a command whose answer goes by the image alone, and for which it must break no rule, to an image
  reads_image : (answer_to : Image → Answer) → ((i : text.Raw) → broken_for a.command i ≡ broken i)
      → ((i : text.Raw) → answer_of_record a.command i ≡ answer_to (image_from i))
      → Reads a.command → (status : Status) → status ≢ Refused → IsDue a status (due_to a)
      → length a.items ≤ most_bytes → (r : ReadsImage a.left a.left') × IsDue a status (answer_to r.found)
  reads_image answer_to every own reads status other due few =
      let (i, found, is) = reads_record reads status other due few in (
        record {
          bytes = a.items;
          found = image_from i;
          took = h.took;
          whole = h.whole reads few;
          few = few;
          read = image_read a.items i found.is (sym (every i) ∙ found.unbroken);
        },
        subst (λ (x : Answer). IsDue a status x) (own i) is,
      )

pub accepts : (a : Asked) → IsAnswered a → a.command ≡ Check → a.status ≡ Done
    → Accepts a.left a.left' a.old.written a.new.written
unfolding answer_of_record broken_for
accepts a h asked done =
    let b : Asked = record a { command = Check } in
    let k : IsAnswered b = as_command a Check asked h in
    let few = done_reads b k tt done in
    let (i, found, is) = reads_record b k tt Done done_is_found (wrote_as b k Done done) few in
    record {
      all = record { bytes = a.items; took = h.took; whole = k.whole tt few; few = few };
      record_of = i;
      read = found.is;
      unbroken = found.unbroken;
      wrote = is.1;
    }

pub bounds : (a : Asked) → IsAnswered a → a.command ≡ Bound → a.status ≡ Done
    → Bounds a.left a.left' a.old.written a.new.written
unfolding answer_of_record broken_for
bounds a h asked done =
    let b : Asked = record a { command = Bound } in
    let k : IsAnswered b = as_command a Bound asked h in
    let few = done_reads b k tt done in
    let (i, found, is) = reads_record b k tt Done done_is_found (wrote_as b k Done done) few in
    record {
      all = record { bytes = a.items; took = h.took; whole = k.whole tt few; few = few };
      record_of = i;
      read = found.is;
      unbroken = found.unbroken;
      wrote = is.1;
    }

pub ran : (n : ℕ) (a : Asked) → IsAnswered a → a.command ≡ Run n → a.status ≡ Done
    → (r : ReadsImage a.left a.left') × HasWritten a (report r.found LeastClock n)
unfolding answer_of_record broken_for
ran n a h asked done =
    let b : Asked = record a { command = Run n } in
    let k : IsAnswered b = as_command a (Run n) asked h in
    let due : IsDue b Done (due_to b) = wrote_as b k Done done in
    let (r, is) =
    reads_image b k (λ i. (Done, report i LeastClock n)) (λ i. refl) (λ i. refl) tt Done done_is_found due
    (done_reads b k tt done) in
    (r, is.1)

pub harts_ran : (n s : ℕ) (a : Asked) → IsAnswered a → a.command ≡ Harts n s → a.status ≡ Done
    → (r : ReadsImage a.left a.left') × HasWritten a (report r.found (Drawn s) n)
unfolding answer_of_record broken_for
harts_ran n s a h asked done =
    let b : Asked = record a { command = Harts n s } in
    let k : IsAnswered b = as_command a (Harts n s) asked h in
    let due : IsDue b Done (due_to b) = wrote_as b k Done done in
    let (r, is) =
    reads_image b k (λ i. (Done, report i (Drawn s) n)) (λ i. refl) (λ i. refl) tt Done done_is_found due
    (done_reads b k tt done) in
    (r, is.1)

read_separated : (left left' : Option (List ℕ)) (r : ReadsImage left left') → Runnable r.found
read_separated left left' r = read_runs r.bytes r.found r.read

pub is_isolated : (c : Choice) (n : ℕ) (left left' old new : Option (List ℕ)) (r : ReadsImage left left')
    → new ≡ after_known old (report r.found c n) → Isolated c n left left' old new
is_isolated c n left left' old new r wrote =
    let runs = read_separated left left' r in
    record {
      ran = r;
      wrote = wrote ∙ ap (after_known old) (apart r.found c n runs);
      mailed = λ d is. seen_mailed r.found c n runs d is;
      views = λ d is none. seen_alone r.found c n runs d is none;
    }

pub is_padded : (c : Choice) (n : ℕ) (left left' : Option (List ℕ)) (r : ReadsImage left left')
    → Padded c n left left'
is_padded c n left left' r =
    let runs = read_separated left left' r in
    record {
      ran = r;
      used = within_pads r.found c n runs;
      lines = λ e. lines_within r.found c n runs e;
      starts = λ h order below is. hart_starts r.found h order runs below is;
    }

-- ---- a domain alone

pub lacks_domain : (d n : ℕ) (a : Asked) → IsAnswered a → a.command ≡ Alone d n → a.status ≡ Usage
    → LacksDomain d a.left a.left' a.old.written a.new.written
unfolding answer_of_record broken_for
lacks_domain d n a h asked usage =
    let b : Asked = record a { command = Alone d n } in
    let k : IsAnswered b = as_command a (Alone d n) asked h in
    let due : IsDue b Usage (due_to b) = wrote_as b k Usage usage in
    let few = usage_reads b k tt usage in
    let (r, is) = reads_image b k (answer_alone d n) (λ i. refl) (λ i. refl) tt Usage usage_is_found due few in
    elim (cases_lt d r.found.all.domains) [
      | inl has ↦
          let same = is.0 ∙ ap (λ (x : Answer). x.0) (alone_due d n r.found has) in absurd (cc same)
      | inr lacks ↦
          let line =
          ap (λ (x : Answer). after_known a.old.written x.1) (lacks_due d n r.found lacks) in
          record { ran = r; lacks = lacks; wrote = is.1 ∙ line }
    ]

pub writes_section : (d n : ℕ) (a : Asked) → IsAnswered a → a.command ≡ Alone d n → a.status ≡ Done
    → WritesSection d n a.left a.left' a.old.written a.new.written
unfolding answer_of_record broken_for
writes_section d n a h asked done =
    let b : Asked = record a { command = Alone d n } in
    let k : IsAnswered b = as_command a (Alone d n) asked h in
    let due : IsDue b Done (due_to b) = wrote_as b k Done done in
    let few = done_reads b k tt done in
    let (r, is) = reads_image b k (answer_alone d n) (λ i. refl) (λ i. refl) tt Done done_is_found due few in
    elim (cases_lt d r.found.all.domains) [
      | inl has ↦
          let section =
          ap (λ (x : Answer). after_known a.old.written x.1) (alone_due d n r.found has) in
          let counted = (read_separated a.left a.left' r).counted in
          record { ran = r; domain = omega (arith, has, counted); wrote = is.1 ∙ section }
      | inr lacks ↦
          let same = is.0 ∙ ap (λ (x : Answer). x.0) (lacks_due d n r.found lacks) in absurd (cc same)
    ]

-- the section is that of the report
pub is_same_section : (k n : ℕ) (left left' old new : Option (List ℕ))
    → WritesSection k n left left' old new → SameSection k n left left' old new
is_same_section k n left left' old new w = record {
  ran = w.ran;
  domain = w.domain;
  wrote =
      λ none c.
      w.wrote
      ∙ ap (after_known old)
      (same_section w.ran.found c n (read_separated left left' w.ran) k w.domain none);
}

-- ---- a run with a guard off

pub writes_off : (off : Guard) (n : ℕ) (a : Asked) → IsAnswered a → a.command ≡ Ablate off n → a.status ≡ Done
    → WritesOff off n a.left a.left' a.old.written a.new.written
unfolding answer_of_record broken_for
writes_off off n a h asked done =
    let b : Asked = record a { command = Ablate off n } in
    let k : IsAnswered b = as_command a (Ablate off n) asked h in
    let due : IsDue b Done (due_to b) = wrote_as b k Done done in
    let (r, is) =
    reads_image b k (answer_off off n) (λ i. refl) (λ i. refl) tt Done done_is_found due (done_reads b k tt done) in
    elim (cases_eq (harts_in r.found.all.schedule) 1) [
      | inl one ↦
          let text = ap (λ (x : Answer). after_known a.old.written x.1) (off_due off n r.found one) in
          record { ran = r; one = one; wrote = is.1 ∙ text }
      | inr many ↦
          let same = is.0 ∙ ap (λ (x : Answer). x.0) (many_due off n r.found many) in absurd (cc same)
    ]

pub has_many_harts : (off : Guard) (n : ℕ) (a : Asked) → IsAnswered a → a.command ≡ Ablate off n
    → a.status ≡ Usage
    → HasManyHarts a.left a.left' a.old.written a.new.written
unfolding answer_of_record broken_for
has_many_harts off n a h asked usage =
    let b : Asked = record a { command = Ablate off n } in
    let k : IsAnswered b = as_command a (Ablate off n) asked h in
    let due : IsDue b Usage (due_to b) = wrote_as b k Usage usage in
    let (r, is) =
    reads_image b k (answer_off off n) (λ i. refl) (λ i. refl) tt Usage usage_is_found due (usage_reads b k tt usage) in
    elim (cases_eq (harts_in r.found.all.schedule) 1) [
      | inl one ↦
          let same = is.0 ∙ ap (λ (x : Answer). x.0) (off_due off n r.found one) in absurd (cc same)
      | inr many ↦
          let line = ap (λ (x : Answer). after_known a.old.written x.1) (many_due off n r.found many) in
          record { ran = r; many = many; wrote = is.1 ∙ line }
    ]

-- ---- the image as the tenant of a domain may hold it

pub redacts : (d : ℕ) (a : Asked) → IsAnswered a → a.command ≡ Redact d → a.status ≡ Done
    → KeptReadsBack d a.items → Redacts d a.left a.left' a.old.written a.new.written
unfolding broken_for
redacts d a h asked done back =
    let b : Asked = record a { command = Redact d } in
    let k : IsAnswered b = as_command a (Redact d) asked h in
    let few = done_reads b k tt done in
    let (i, found, is) = reads_record b k tt Done done_is_found (wrote_as b k Done done) few in
    elim (cases_lt d (length i.domains)) [
      | inl has ↦
          let text = ap (λ (x : Answer). after_known a.old.written x.1) (kept_due d i has) in
          record {
            all = record { bytes = a.items; took = h.took; whole = k.whole tt few; few = few };
            record_of = i;
            read = found.is;
            unbroken = found.unbroken;
            domain = has;
            wrote = is.1 ∙ text;
            reads_back = back i found.is found.unbroken;
            accepted = kept_accepted a.items i d found.is found.unbroken;
            same_alone = λ n. same_alone i d n has;
            same_among = λ c n none. same_among a.items i d found.is found.unbroken has c n none;
            same_together = λ c n one. same_together a.items i d found.is found.unbroken has c n one;
          }
      | inr lacks ↦
          let same = is.0 ∙ ap (λ (x : Answer). x.0) (none_kept_due d i lacks) in absurd (cc same)
    ]

domains_are : (i : text.Raw) → (image_from i).all.domains ≡ length i.domains
unfolding public_of
domains_are i = refl

pub lacks_kept : (d : ℕ) (a : Asked) → IsAnswered a → a.command ≡ Redact d → a.status ≡ Usage
    → LacksDomain d a.left a.left' a.old.written a.new.written
unfolding broken_for
lacks_kept d a h asked usage =
    let b : Asked = record a { command = Redact d } in
    let k : IsAnswered b = as_command a (Redact d) asked h in
    let few = usage_reads b k tt usage in
    let (i, found, is) = reads_record b k tt Usage usage_is_found (wrote_as b k Usage usage) few in
    elim (cases_lt d (length i.domains)) [
      | inl has ↦
          let same = is.0 ∙ ap (λ (x : Answer). x.0) (kept_due d i has) in absurd (cc same)
      | inr lacks ↦
          let line = ap (λ (x : Answer). after_known a.old.written x.1) (none_kept_due d i lacks) in
          record {
            ran = record {
              bytes = a.items;
              found = image_from i;
              took = h.took;
              whole = k.whole tt few;
              few = few;
              read = image_read a.items i found.is found.unbroken;
            };
            lacks = omega (arith, lacks, domains_are i);
            wrote = is.1 ∙ line;
          }
    ]

-- ---- the image that a seed makes

pub generates : (s : ℕ) (a : Asked) → IsAnswered a → a.command ≡ Gen s → a.status ≡ Done
    → s < 2 ^ 64 → ReadsBack s → Generates s a.old.written a.new.written
generates s a h asked done small back =
    let b : Asked = record a { command = Gen s } in
    let due : IsDue b Done (due_to b) = wrote_as b (as_command a (Gen s) asked h) Done done in
    record {
      bytes = generated_text s;
      wrote = due.1 ∙ ap (λ (x : Answer). after_known a.old.written x.1) (gen_due a.items s);
      read = back;
      unbroken = accepted_law s small;
    }

pub summarizes : (s : ℕ) (a : Asked) → IsAnswered a → a.command ≡ Demo s → a.status ≡ Done
    → s < 2 ^ 64 → Summarizes s a.old.written a.new.written
summarizes s a h asked done small =
    let b : Asked = record a { command = Demo s } in
    let due : IsDue b Done (due_to b) = wrote_as b (as_command a (Demo s) asked h) Done done in
    record {
      unbroken = accepted_law s small;
      wrote = due.1 ∙ ap (λ (x : Answer). after_known a.old.written x.1) (demo_due a.items s);
    }

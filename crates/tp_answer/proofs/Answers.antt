-- What is due, from what was read and what was written.
use Rattle.std.proofs.Common.{◌≡◌, ◌≢◌, ℕ, ◌+◌, ◌-◌, ◌^◌, ◌<◌, ◌≤◌, leb, ltb, nat_eq, eq-eqb, ne_eqb, Bool, if◌then◌else◌, true, false, List, [], ◌++◌, length, Option, Some, None, Result, Ok, Err, refl, sym, ap, ◌∙◌, subst, arith, ◌⊎◌, inl, inr}
use Rattle.std.specs.Prelude.{OnOk, OnErr}
use Rattle.std.proofs.lemmas.List.{length-append, append-nil}
use Rattle.std.proofs.lemmas.Option.{same_Some}
use Rattle.std.proofs.lemmas.Bool.{cases_lt}
use Rattle.std.proofs.lemmas.Bool.Decides.{nat_tests}
use Rattle.tp_io.specs.Bytes.{before_known, after_known, AtEnd}
use Rattle.tp_io.specs.Sends.{SinkState, Sent, CutShort, Sends}
use Rattle.tp_io.specs.Causes.{TellsFault}
use Rattle.tp_io.specs.Sure.{Exceeds}
use Rattle.image_record.specs.declared.refusal.Refusal.{Refusal}
use Rattle.image_record.specs.Record as text
use Rattle.image_check.specs.Image.{Image, image_from}
use Rattle.image_reading.specs.Reading.{most_bytes}
use Rattle.image_redact.specs.Redacted.{redacted}
use Rattle.image_writing.specs.Text.{text_of}
use Rattle.guards.specs.declared.Guard.{Guard}
use Rattle.sched_table.specs.Schedule.{harts_in}
use Rattle.tp_report.specs.Report.{report_off, usage_text, refusal_text, too_long_text}
use Rattle.tp_words.specs.declared.Command.{Command}
use Rattle.tp_words.specs.declared.Command.TheVariants.{Check, Bound, Run, Alone, Gen, Demo, Ablate, Harts, Redact}
use Rattle.tp_answer.specs.declared.status.Status.{Status}
use Rattle.tp_answer.specs.declared.status.Status.TheVariants.{Done, Refused, Usage, ReadFault, WriteFault, Memory, TooLong}
use Rattle.tp_words.specs.Words.{Reads, command}
use Rattle.tp_answer.specs.Reading.{record_for}
use Rattle.tp_answer.specs.Answer.{Answer, answer, answer_by, answer_of_bytes, answer_to_image, answer_gen, answer_demo, answer_unless_broken, answer_of_record, answer_alone, answer_off, answer_redact}
use Rattle.tp_answer.specs.Runs.{section_alone}
use Rattle.tp_answer.specs.TopCall.{Writes, EndsUsage, Delivers, MayBeUsage, ComesTo}

-- ---- what was written

-- a status that comes with a text
abbrev pub HasText : Status → Type 0
HasText Done = Unit {0}
HasText Refused = Unit {0}
HasText Usage = Unit {0}
HasText TooLong = Unit {0}
HasText _ = ⊥

writes_own : (status : Status) (text : List ℕ) (old new : Option (List ℕ)) → HasText status
    → new ≡ after_known old text → Writes status (status, text) old new
writes_own Done text old new h put = (refl, put)
writes_own Refused text old new h put = (refl, put)
writes_own Usage text old new h put = (refl, put)
writes_own TooLong text old new h put = (refl, put)
writes_own ReadFault text old new h put = absurd h
writes_own WriteFault text old new h put = absurd h
writes_own Memory text old new h put = absurd h

sent_delivered : (status : Status) (text : List ℕ) (old new : SinkState) → HasText status
    → Sent old new text → Delivers (status, text) status old new
sent_delivered status text old new h sent = record {
  wrote = writes_own status text old.written new.written h sent.written;
  no_read = λ e. subst HasText e h;
  fault =
      record {
        rose = λ e. absurd (subst HasText e h);
        steady = λ _. sent.steady;
        never_falls = omega (arith, sent.steady);
      };
  short = λ e. absurd (subst HasText e h);
}

cut_is_no_read : WriteFault ≢ ReadFault
cut_is_no_read e = cc

cut_delivered : (due : Answer) (old new : SinkState) → CutShort old new due.1
    → Delivers due WriteFault old new
cut_delivered due old new cut = record {
  wrote = cut.front;
  no_read = cut_is_no_read;
  fault =
      record { rose = λ _. cut.rose; steady = λ other. absurd (other refl); never_falls = cut.never_falls };
  short = λ _. cut.short;
}

-- a text was written after all that may fail, or the sink failed
pub delivered : {T E : Type 0} (status result : Status) (text : List ℕ) (old new : SinkState)
    (r : Result T E) → HasText status
    → Sends old new r text → OnOk r (result ≡ status) → OnErr r (result ≡ WriteFault)
    → Delivers (status, text) result old new
delivered status result text old new (Ok x) h sends ok err =
    subst (λ s. Delivers (status, text) s old new) (sym ok)
    (sent_delivered status text old new h sends)
delivered status result text old new (Err e) h sends ok err =
    subst (λ s. Delivers (status, text) s old new) (sym err)
    (cut_delivered (status, text) old new sends)

pub want_is_no_read : Memory ≢ ReadFault
want_is_no_read e = cc

pub want_is_no_fault : Memory ≢ WriteFault
want_is_no_fault e = cc

pub read_is_no_fault : ReadFault ≢ WriteFault
read_is_no_fault e = cc

-- nothing failed where nothing was done
pub none_failed : {P : Type 0} (n : ℕ) → ¬ P → TellsFault P n n
none_failed n never =
    record { rose = λ e. absurd (never e); steady = λ _. refl; never_falls = omega arith }

-- nothing failed here as nothing did there
pub neither_failed : {P Q : Type 0} (m n : ℕ) → ¬ P → ¬ Q → TellsFault P m n → TellsFault Q m n
neither_failed m n nothing never tells =
    record { rose = λ e. absurd (never e); steady = λ _. tells.steady nothing; never_falls = tells.never_falls }

-- what is written of a status that is known
pub wrote_of : (s : Status) {due : Answer} {status : Status} {old new : SinkState}
    → Delivers due status old new → status ≡ s → Writes s due old.written new.written
wrote_of s {due} {status} {old} {new} d e = subst (λ (t : Status). Writes t due old.written new.written) e d.wrote

-- memory ran out
pub nothing_held : (due : Answer) (s : SinkState) → Delivers due Memory s s
nothing_held due s = record {
  wrote = refl;
  no_read = want_is_no_read;
  fault =
      record { rose = λ e. absurd (want_is_no_fault e); steady = λ _. refl; never_falls = omega arith };
  short = λ e. absurd (want_is_no_fault e);
}

-- ---- what was read

pub none_taken : (left : Option (List ℕ)) → left ≡ before_known [] left
none_taken None = refl
none_taken (Some xs) = refl

-- all bytes were taken
pub all_taken : (bytes items : List ℕ) (rest : Option (List ℕ))
    → Some bytes ≡ before_known items rest → AtEnd rest → bytes ≡ items
all_taken bytes items None e end = absurd (cc)
all_taken bytes items (Some xs) e end =
    same_Some _ _ e ∙ ap (λ ys. items ++ ys) end ∙ append-nil items

-- more bytes came than an image has
pub over_taken : (bytes items : List ℕ) (rest : Option (List ℕ))
    → Some bytes ≡ before_known items rest → most_bytes < length items → most_bytes < length bytes
over_taken bytes items None e over = absurd (cc)
over_taken bytes items (Some xs) e over =
    let long : length bytes ≡ length items + length xs =
    ap length (same_Some _ _ e) ∙ length-append items xs in
    omega arith

-- ---- what is due

pub usage_due : (words : List (List ℕ)) (bytes : List ℕ) → command words ≡ None
    → answer words bytes ≡ (Usage, usage_text)
unfolding answer answer_by
usage_due words bytes c = rw c

pub bytes_due : (words : List (List ℕ)) (bytes : List ℕ) (c : Command) → command words ≡ Some c
    → answer words bytes ≡ answer_of_bytes c bytes
unfolding answer answer_by
bytes_due words bytes c asked = rw asked

-- bytes that are too long are those of a command that reads
pub longer_reads : (c : Command) (bytes : List ℕ) → (¬ Reads c → bytes ≡ [])
    → most_bytes < length bytes → Reads c
longer_reads Check bytes none over = tt
longer_reads Bound bytes none over = tt
longer_reads (Run n) bytes none over = tt
longer_reads (Alone d n) bytes none over = tt
longer_reads (Ablate off n) bytes none over = tt
longer_reads (Harts n s) bytes none over = tt
longer_reads (Redact d) bytes none over = tt
longer_reads (Gen s) bytes none over =
    let empty = ap length (none (λ reads. reads)) in absurd (omega (arith, empty))
longer_reads (Demo s) bytes none over =
    let empty = ap length (none (λ reads. reads)) in absurd (omega (arith, empty))

-- an image is read
read_due : (bytes : List ℕ) (c : Command) → Reads c
    → answer_of_bytes c bytes ≡ answer_to_image c bytes
unfolding answer_of_bytes
read_due bytes Check reads = refl
read_due bytes Bound reads = refl
read_due bytes (Run n) reads = refl
read_due bytes (Alone d n) reads = refl
read_due bytes (Ablate off n) reads = refl
read_due bytes (Harts n s) reads = refl
read_due bytes (Redact d) reads = refl
read_due bytes (Gen s) reads = absurd reads
read_due bytes (Demo s) reads = absurd reads

pub too_long_due : (bytes : List ℕ) (c : Command) → Reads c → most_bytes < length bytes
    → answer_of_bytes c bytes ≡ (TooLong, too_long_text)
unfolding answer_to_image
too_long_due bytes c reads over =
    let test : leb (length bytes) most_bytes ≡ false = grind (arith, nat_tests) in
    rw (read_due bytes c reads, test)

pub image_due : (bytes : List ℕ) (c : Command) → Reads c → length bytes ≤ most_bytes
    → answer_of_bytes c bytes ≡ answer_unless_broken c (record_for c bytes)
unfolding answer_to_image
image_due bytes c reads few =
    let test : leb (length bytes) most_bytes ≡ true = grind (arith, nat_tests) in
    rw (read_due bytes c reads, test)

-- no image is read
pub gen_due : (bytes : List ℕ) (s : ℕ) → answer_of_bytes (Gen s) bytes ≡ answer_gen s
unfolding answer_of_bytes
gen_due bytes s = refl

pub demo_due : (bytes : List ℕ) (s : ℕ) → answer_of_bytes (Demo s) bytes ≡ answer_demo s
unfolding answer_of_bytes
demo_due bytes s = refl

-- a rule is broken
pub refusal_due : (c : Command) (found : Result text.Raw Refusal) (r : Refusal) → found ≡ Err r
    → answer_unless_broken c found ≡ (Refused, refusal_text r)
unfolding answer_unless_broken
refusal_due c found r broken = rw broken

-- none is
pub found_due : (c : Command) (found : Result text.Raw Refusal) (i : text.Raw) → found ≡ Ok i
    → answer_unless_broken c found ≡ answer_of_record c i
unfolding answer_unless_broken
found_due c found i read = rw read

-- a domain of the image is run alone, and of another there is nothing to tell
pub alone_due : (d n : ℕ) (i : Image) → d < i.all.domains
    → answer_alone d n i ≡ (Done, section_alone i d n)
unfolding answer_alone
alone_due d n i is = let test : ltb d i.all.domains ≡ true = grind (arith, nat_tests) in rw test

pub lacks_due : (d n : ℕ) (i : Image) → i.all.domains ≤ d
    → answer_alone d n i ≡ (Usage, usage_text)
unfolding answer_alone
lacks_due d n i lacks =
    let test : ltb d i.all.domains ≡ false = grind (arith, nat_tests) in rw test

-- an image of one hart is run with a guard off, and of several there is nothing to tell
pub off_due : (off : Guard) (n : ℕ) (i : Image) → harts_in i.all.schedule ≡ 1
    → answer_off off n i ≡ (Done, report_off off i n)
unfolding answer_off
off_due off n i one =
    ap (λ (b : Bool). if b then (Done, report_off off i n) else (Usage, usage_text)) (eq-eqb (harts_in i.all.schedule) 1 one)

pub many_due : (off : Guard) (n : ℕ) (i : Image) → harts_in i.all.schedule ≢ 1
    → answer_off off n i ≡ (Usage, usage_text)
unfolding answer_off
many_due off n i many =
    ap (λ (b : Bool). if b then (Done, report_off off i n) else (Usage, usage_text)) (ne_eqb (harts_in i.all.schedule) 1 many)

-- a domain of the image is kept, and of another there is nothing to keep
pub kept_due : (d : ℕ) (i : text.Raw) → d < length i.domains
    → answer_of_record (Redact d) i ≡ (Done, text_of (redacted i d))
unfolding answer_of_record answer_redact
kept_due d i is = let test : ltb d (length i.domains) ≡ true = grind (arith, nat_tests) in rw test

pub none_kept_due : (d : ℕ) (i : text.Raw) → length i.domains ≤ d
    → answer_of_record (Redact d) i ≡ (Usage, usage_text)
unfolding answer_of_record answer_redact
none_kept_due d i lacks =
    let test : ltb d (length i.domains) ≡ false = grind (arith, nat_tests) in rw test

pub usage_delivers : (words : List (List ℕ)) (bytes : List ℕ) (result : Status)
    (old new : SinkState) → command words ≡ None → Delivers (Usage, usage_text) result old new
    → Delivers (answer words bytes) result old new
usage_delivers words bytes result old new none =
    subst (λ due. Delivers due result old new) (sym (usage_due words bytes none))

-- ---- what a status tells

-- the status that is due to an image, or to what is none
abbrev IsOfImage : Status → Type 0
IsOfImage Done = Unit {0}
IsOfImage Refused = Unit {0}
IsOfImage Usage = Unit {0}
IsOfImage _ = ⊥

-- one answer or the other, by a test: what is so of both statuses is so of its status
abbrev pub chosen : Bool → Answer → Answer → Answer
chosen test x y = if test then x else y

pub of_chosen : (P : Status → Type 0) (test : Bool) (x y : Answer) → P x.0 → P y.0
    → P (chosen test x y).0
of_chosen P true x y p q = p
of_chosen P false x y p q = q

of_image : (c : Command) (found : Result text.Raw Refusal) → IsOfImage (answer_unless_broken c found).0
unfolding answer_unless_broken answer_of_record answer_alone answer_off answer_redact
of_image Check (Ok i) = tt
of_image Bound (Ok i) = tt
of_image (Run n) (Ok i) = tt
of_image (Alone d n) (Ok i) =
    let j = image_from i in
    of_chosen IsOfImage (ltb d j.all.domains) (Done, section_alone j d n) (Usage, usage_text) tt tt
of_image (Ablate off n) (Ok i) =
    let j = image_from i in
    of_chosen IsOfImage (nat_eq (harts_in j.all.schedule) 1) (Done, report_off off j n) (Usage, usage_text) tt tt
of_image (Harts n s) (Ok i) = tt
of_image (Redact d) (Ok i) =
    of_chosen IsOfImage (ltb d (length i.domains)) (Done, text_of (redacted i d)) (Usage, usage_text) tt tt
of_image (Gen s) (Ok i) = tt
of_image (Demo s) (Ok i) = tt
of_image c (Err r) = tt

-- usage is due to no image, but where a domain is named, or a guard
pub usage_of : (c : Command) (found : Result text.Raw Refusal)
    → Usage ≡ (answer_unless_broken c found).0 → MayBeUsage (Some c)
unfolding answer_unless_broken answer_of_record
usage_of Check (Ok i) e = cc e
usage_of Bound (Ok i) e = cc e
usage_of (Run n) (Ok i) e = cc e
usage_of (Alone d n) found e = tt
usage_of (Ablate off n) found e = tt
usage_of (Redact d) found e = tt
usage_of (Harts n s) (Ok i) e = cc e
usage_of (Gen s) (Ok i) e = cc e
usage_of (Demo s) (Ok i) e = cc e
usage_of c (Err r) e = absurd (cc e)

-- another status than Done is due only where an image is read
pub other_reads : (c : Command) (items : List ℕ) (status : Status)
    → status ≡ (answer_of_bytes c items).0 → status ≢ Done → Reads c
unfolding answer_of_bytes
other_reads Check items status e other = tt
other_reads Bound items status e other = tt
other_reads (Run n) items status e other = tt
other_reads (Alone d n) items status e other = tt
other_reads (Ablate off n) items status e other = tt
other_reads (Harts n s) items status e other = tt
other_reads (Redact d) items status e other = tt
other_reads (Gen s) items status e other = absurd (other e)
other_reads (Demo s) items status e other = absurd (other e)

-- another status than TooLong is due to all bytes of an image
pub is_few : (c : Command) → Reads c → (items : List ℕ) (status : Status)
    → status ≡ (answer_of_bytes c items).0 → status ≢ TooLong → length items ≤ most_bytes
is_few c reads items status e other = elim (cases_lt most_bytes (length items)) [
  | inl over ↦ absurd (other (e ∙ ap (λ (a : Answer). a.0) (too_long_due items c reads over)))
  | inr few ↦ few
]

-- TooLong is due to more
pub is_over : (c : Command) → Reads c → (items : List ℕ) → TooLong ≡ (answer_of_bytes c items).0
    → most_bytes < length items
is_over c reads items e = elim (cases_lt most_bytes (length items)) [
  | inl over ↦ over
  | inr few ↦
      let is = e ∙ ap (λ (a : Answer). a.0) (image_due items c reads few) in
      absurd (subst IsOfImage (sym is) (of_image c (record_for c items)))
]

-- words that are no command: the usage line was sent, or a front of it
pub usage_sent : {T E : Type 0} (result : Status) (old new : SinkState) (r : Result T E)
    → Sends old new r usage_text → OnOk r (result ≡ Usage) → OnErr r (result ≡ WriteFault)
    → Delivers (Usage, usage_text) result old new
usage_sent result old new r sends ok err =
    delivered Usage result usage_text old new r tt sends ok err

pub ends_usage : (result : Status) (old new : SinkState)
    → Delivers (Usage, usage_text) result old new → EndsUsage result old.written new.written
ends_usage Usage old new d = d.wrote.1
ends_usage WriteFault old new d = d.wrote
ends_usage Memory old new d = d.wrote
ends_usage ReadFault old new d = d.no_read refl
ends_usage Done old new d = absurd (cc d.wrote.0)
ends_usage Refused old new d = absurd (cc d.wrote.0)
ends_usage TooLong old new d = absurd (cc d.wrote.0)

-- no write failed
pub completes : (due : Answer) (result : Status) (old new : SinkState) → Delivers due result old new
    → new.faults ≡ old.faults → old.faults < 2 ^ 64 - 1 → ComesTo due result
completes due Done old new d same low = inl d.wrote.0
completes due Refused old new d same low = inl d.wrote.0
completes due Usage old new d same low = inl d.wrote.0
completes due TooLong old new d same low = inl d.wrote.0
completes due Memory old new d same low = inr refl
completes due ReadFault old new d same low = absurd (d.no_read refl)
completes due WriteFault old new d same low = let rose = d.fault.rose refl in absurd (omega arith)

-- the sink surely takes the text
pub completes_surely : (due : Answer) (result : Status) (old new : SinkState) (room : ℕ)
    → Delivers due result old new → old.sure ≡ Some room → length due.1 ≤ room
    → ComesTo due result ⊎ (result ≡ ReadFault)
completes_surely due Done old new room d sure fits = inl (inl d.wrote.0)
completes_surely due Refused old new room d sure fits = inl (inl d.wrote.0)
completes_surely due Usage old new room d sure fits = inl (inl d.wrote.0)
completes_surely due TooLong old new room d sure fits = inl (inl d.wrote.0)
completes_surely due Memory old new room d sure fits = inl (inr refl)
completes_surely due ReadFault old new room d sure fits = inr refl
completes_surely due WriteFault old new room d sure fits =
    let over : room < length due.1 = subst (λ (s : Option ℕ). Exceeds s due.1) sure (d.short refl) in
    absurd (omega arith)

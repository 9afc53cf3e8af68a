-- What a caller in C is told: the promises of the top call, of an image in memory and of a text at the front of a buffer.
use Rattle.std.proofs.Common.{◌≡◌, ◌≢◌, ◌∙◌, ℕ, ◌≤◌, ◌<◌, ◌^◌, nat_le, Bool, true, false, List, [], take, drop, Option, Some, None, Ok, refl, sym, ap, subst, arith}
use Rattle.std.specs.Prelude.{IfSome, nat_eq, if◌then◌else◌, option_and_then}
use Rattle.std.proofs.lemmas.List.{append-nil, take_at}
use Rattle.std.proofs.lemmas.Bool.Decides.{nat_tests}
use Rattle.guards.specs.declared.Guard.{Guard}
use Rattle.hart_orders.specs.declared.choice.Choice.TheVariants.{LeastClock, Drawn}
use Rattle.tp_io.specs.Sends.{SinkState, Sent}
use Rattle.tp_report.specs.Report.{usage_text}
use Rattle.tp_words.specs.declared.Command.{Command}
use Rattle.tp_words.specs.declared.Command.TheVariants.{Check, Bound, Run, Alone, Gen, Demo, Ablate, Harts, Redact}
use Rattle.tp_answer.specs.declared.status.Status.{Status}
use Rattle.tp_answer.specs.declared.status.Status.TheVariants.{Done, Refused, Usage, ReadFault, WriteFault, Memory, TooLong}
use Rattle.tp_answer.specs.Status.{exit_number}
use Rattle.tp_answer.specs.Answer.{Answer, answer_by, answer_of_bytes}
use Rattle.tp_answer.specs.TopCall.{Delivers, Refuses, Accepts, Bounds, Isolated, Padded, LacksDomain, HasManyHarts, WritesSection, SameSection, WritesOff, KeptReadsBack, Redacts, ReadsBack, Generates, Summarizes}
use Rattle.tp_answer.proofs.Answers.{HasText, delivered}
use Rattle.tp_answer.proofs.Commands.{Asked, IsAnswered, answering, ran, harts_ran, is_isolated, is_padded, refuses, accepts, bounds, lacks_domain, writes_section, is_same_section, writes_off, has_many_harts, redacts, lacks_kept, generates, summarizes}
use Rattle.tp_lib.specs.Asked.{if_slots, ask_run, ask_harts, ask_alone, ask_redact, ask_ablate, guard_numbered}
use Rattle.tp_lib.specs.Answers.{Answers, InMemory}

-- ---- the status that a number tells

status_numbered : ℕ → Status
status_numbered n =
    if nat_eq n 0 then Done
    else if nat_eq n 1 then Refused
    else if nat_eq n 2 then Usage
    else if nat_eq n 3 then ReadFault
    else if nat_eq n 4 then WriteFault
    else if nat_eq n 5 then Memory
    else TooLong

numbered : (s : Status) → status_numbered (exit_number s) ≡ s
unfolding status_numbered
numbered Done = refl
numbered Refused = refl
numbered Usage = refl
numbered ReadFault = refl
numbered WriteFault = refl
numbered Memory = refl
numbered TooLong = refl

no_memory : (s : Status) → HasText s → exit_number s ≢ 5
no_memory Done has e = cc e
no_memory Refused has e = cc e
no_memory Usage has e = cc e
no_memory TooLong has e = cc e
no_memory ReadFault has e = absurd has
no_memory WriteFault has e = absurd has
no_memory Memory has e = absurd has

never_too_small : (s : Status) → exit_number s ≢ 7
never_too_small Done e = cc e
never_too_small Refused e = cc e
never_too_small Usage e = cc e
never_too_small ReadFault e = cc e
never_too_small WriteFault e = cc e
never_too_small Memory e = cc e
never_too_small TooLong e = cc e

-- the number of a status that comes with a text tells that both are due
due_is : (due : Answer) (number taken : ℕ) (old new : List ℕ) → Answers due number taken old new
    → (s : Status) → HasText s → number ≡ exit_number s → due ≡ (s, take taken new)
due_is due number taken old new answers s has is =
    let hands = answers.told (λ e. no_memory s has (sym is ∙ e)) (λ e. never_too_small s (sym is ∙ e)) in
    let status : due.0 ≡ s = sym (numbered due.0) ∙ ap status_numbered (sym hands.status ∙ is) ∙ numbered s in
    let text : take taken new ≡ due.1 =
    ap (take taken) hands.text ∙ take_at due.1 (drop taken old) taken (sym hands.wanted) in
    ap (λ (t : Status). (t, due.1)) status ∙ ap (λ (t : List ℕ). (s, t)) (sym text)

-- ---- a call as the top call, of a source and a sink in memory

abbrev pub sink_of : List ℕ → SinkState
sink_of text = record { written = Some text; faults = 0; sure = None }

abbrev pub call_of : Command → List ℕ → Status → List ℕ → Asked
call_of c image s text = record {
  command = c;
  items = image;
  left = Some image;
  left' = Some [];
  status = s;
  old = sink_of [];
  new = sink_of text;
}

sent_whole : (text : List ℕ) → Sent (sink_of []) (sink_of text) text
sent_whole text = record { written = refl; steady = refl; sure = refl }

is_answered : (c : Command) (image : List ℕ) (s : Status) (text : List ℕ) → HasText s
    → answer_of_bytes c image ≡ (s, text) → IsAnswered (call_of c image s text)
is_answered c image s text has due =
    answering c image (Some []) (ap Some (sym (append-nil image))) (λ reads few. refl)
    (subst (λ (d : Answer). Delivers d s (sink_of []) (sink_of text)) (sym due)
    (delivered {T = Unit {0}} {E = Unit {0}} s s text (sink_of []) (sink_of text) (Ok tt) has (sent_whole text) refl tt))

module _ (image : List ℕ) (number taken : ℕ) (old new : List ℕ) where
  -- what the command of a call comes to, by the number that it answered
  answered_as : (c : Command) → Answers (answer_by (Some c) image) number taken old new → (s : Status) → HasText s
      → number ≡ exit_number s → IsAnswered (call_of c image s (take taken new))
  unfolding answer_by
  answered_as c answers s has is =
      is_answered c image s (take taken new) has (due_is (answer_of_bytes c image) number taken old new answers s has is)

  -- where nothing is asked for, there is no such number but that of the usage
  answered_if : (c : Command) (asked : Option Command) → IfSome asked (λ k. k ≡ c)
      → Answers (answer_by asked image) number taken old new → (s : Status) → HasText s → s ≢ Usage
      → number ≡ exit_number s → IsAnswered (call_of c image s (take taken new))
  unfolding answer_by
  answered_if c None asks answers s has other is =
      absurd (other (sym (ap (λ (a : Answer). a.0) (due_is (Usage, usage_text) number taken old new answers s has is))))
  answered_if c (Some k) asks answers s has other is =
      subst (λ (j : Command). IsAnswered (call_of j image s (take taken new))) asks (answered_as k answers s has is)

  -- what was done was asked for
  asked_done : (c : Command) (asked : Option Command) → IfSome asked (λ k. k ≡ c)
      → Answers (answer_by asked image) number taken old new → number ≡ 0 → asked ≡ Some c
  unfolding answer_by
  asked_done c None asks answers is =
      let e = ap (λ (a : Answer). a.0) (due_is (Usage, usage_text) number taken old new answers Done tt is) in absurd (cc e)
  asked_done c (Some k) asks answers is = ap Some asks

  -- ---- of any command: the rule that is broken

  refused_if : (c : Command) (asked : Option Command) → IfSome asked (λ k. k ≡ c)
      → Answers (answer_by asked image) number taken old new → number ≡ 1
      → InMemory (Refuses c) image taken new
  refused_if c asked asks answers is =
      refuses (call_of c image Refused (take taken new)) (answered_if c asked asks answers Refused tt (λ e. cc e) is) refl

  -- ---- commands that run nothing

  pub check_refused : Answers (answer_by (Some Check) image) number taken old new → number ≡ 1
      → InMemory (Refuses Check) image taken new
  check_refused = refused_if Check (Some Check) refl

  pub check_accepted : Answers (answer_by (Some Check) image) number taken old new → number ≡ 0
      → InMemory Accepts image taken new
  check_accepted answers is =
      accepts (call_of Check image Done (take taken new)) (answered_as Check answers Done tt is) refl refl

  pub bound_refused : Answers (answer_by (Some Bound) image) number taken old new → number ≡ 1
      → InMemory (Refuses Bound) image taken new
  bound_refused = refused_if Bound (Some Bound) refl

  pub bound_told : Answers (answer_by (Some Bound) image) number taken old new → number ≡ 0
      → InMemory Bounds image taken new
  bound_told answers is =
      bounds (call_of Bound image Done (take taken new)) (answered_as Bound answers Done tt is) refl refl

  -- ---- commands of so many slots

  asks_slots : (slots : ℕ) (c : Command) (b : Bool) → IfSome (if b then Some c else None) (λ k. k ≡ c)
  asks_slots slots c true = refl
  asks_slots slots c false = tt

  pub run_refused : (n : ℕ) → Answers (answer_by (ask_run n) image) number taken old new → number ≡ 1
      → InMemory (Refuses (Run n)) image taken new
  run_refused n = refused_if (Run n) (ask_run n) (asks_slots n (Run n) (nat_le n 65536))

  run_done : (n : ℕ) → Answers (answer_by (ask_run n) image) number taken old new → number ≡ 0
      → IsAnswered (call_of (Run n) image Done (take taken new))
  run_done n answers = answered_if (Run n) (ask_run n) (asks_slots n (Run n) (nat_le n 65536)) answers Done tt (λ e. cc e)

  pub run_isolated : (n : ℕ) → Answers (answer_by (ask_run n) image) number taken old new → number ≡ 0
      → InMemory (Isolated LeastClock n) image taken new
  run_isolated n answers is =
      let r = ran n (call_of (Run n) image Done (take taken new)) (run_done n answers is) refl refl in
      is_isolated LeastClock n (Some image) (Some []) (Some []) (Some (take taken new)) r.0 r.1

  pub run_padded : (n : ℕ) → Answers (answer_by (ask_run n) image) number taken old new → number ≡ 0
      → Padded LeastClock n (Some image) (Some [])
  run_padded n answers is =
      is_padded LeastClock n (Some image) (Some [])
      (ran n (call_of (Run n) image Done (take taken new)) (run_done n answers is) refl refl).0

  pub harts_refused : (n s : ℕ) → Answers (answer_by (ask_harts n s) image) number taken old new → number ≡ 1
      → InMemory (Refuses (Harts n s)) image taken new
  harts_refused n s = refused_if (Harts n s) (ask_harts n s) (asks_slots n (Harts n s) (nat_le n 65536))

  harts_done : (n s : ℕ) → Answers (answer_by (ask_harts n s) image) number taken old new → number ≡ 0
      → IsAnswered (call_of (Harts n s) image Done (take taken new))
  harts_done n s answers =
      answered_if (Harts n s) (ask_harts n s) (asks_slots n (Harts n s) (nat_le n 65536)) answers Done tt (λ e. cc e)

  pub harts_isolated : (n s : ℕ) → Answers (answer_by (ask_harts n s) image) number taken old new → number ≡ 0
      → InMemory (Isolated (Drawn s) n) image taken new
  harts_isolated n s answers is =
      let r = harts_ran n s (call_of (Harts n s) image Done (take taken new)) (harts_done n s answers is) refl refl in
      is_isolated (Drawn s) n (Some image) (Some []) (Some []) (Some (take taken new)) r.0 r.1

  pub harts_padded : (n s : ℕ) → Answers (answer_by (ask_harts n s) image) number taken old new → number ≡ 0
      → Padded (Drawn s) n (Some image) (Some [])
  harts_padded n s answers is =
      is_padded (Drawn s) n (Some image) (Some [])
      (harts_ran n s (call_of (Harts n s) image Done (take taken new)) (harts_done n s answers is) refl refl).0

  -- ---- a domain alone

  asks_alone : (d n : ℕ) (b : Bool)
      → IfSome (if b then if_slots n (Alone d n) else None) (λ k. k ≡ Alone d n)
  asks_alone d n true = asks_slots n (Alone d n) (nat_le n 65536)
  asks_alone d n false = tt

  pub alone_refused : (d n : ℕ) → Answers (answer_by (ask_alone d n) image) number taken old new → number ≡ 1
      → InMemory (Refuses (Alone d n)) image taken new
  alone_refused d n = refused_if (Alone d n) (ask_alone d n) (asks_alone d n (nat_le d 31))

  pub alone_written : (d n : ℕ) → Answers (answer_by (ask_alone d n) image) number taken old new → number ≡ 0
      → InMemory (WritesSection d n) image taken new
  alone_written d n answers is =
      writes_section d n (call_of (Alone d n) image Done (take taken new))
      (answered_if (Alone d n) (ask_alone d n) (asks_alone d n (nat_le d 31)) answers Done tt (λ e. cc e) is) refl refl

  pub alone_same : (d n : ℕ) → Answers (answer_by (ask_alone d n) image) number taken old new → number ≡ 0
      → InMemory (SameSection d n) image taken new
  alone_same d n answers is =
      is_same_section d n (Some image) (Some []) (Some []) (Some (take taken new)) (alone_written d n answers is)

  in_range_alone : (d n : ℕ) → d ≤ 31 → n ≤ 65536 → ask_alone d n ≡ Some (Alone d n)
  in_range_alone d n domain few =
      let first : nat_le d 31 ≡ true = grind (arith, nat_tests) in
      let second : nat_le n 65536 ≡ true = grind (arith, nat_tests) in
      rw (first, second) refl

  pub alone_lacks : (d n : ℕ) → d ≤ 31 → n ≤ 65536 → Answers (answer_by (ask_alone d n) image) number taken old new
      → number ≡ 2 → InMemory (LacksDomain d) image taken new
  alone_lacks d n domain few answers is =
      let own = subst (λ (asked : Option Command). Answers (answer_by asked image) number taken old new)
      (in_range_alone d n domain few) answers in
      lacks_domain d n (call_of (Alone d n) image Usage (take taken new)) (answered_as (Alone d n) own Usage tt is) refl refl

  -- ---- the image as the tenant of a domain may hold it

  asks_redact : (d : ℕ) (b : Bool) → IfSome (if b then Some (Redact d) else None) (λ k. k ≡ Redact d)
  asks_redact d true = refl
  asks_redact d false = tt

  pub redact_refused : (d : ℕ) → Answers (answer_by (ask_redact d) image) number taken old new → number ≡ 1
      → InMemory (Refuses (Redact d)) image taken new
  redact_refused d = refused_if (Redact d) (ask_redact d) (asks_redact d (nat_le d 31))

  in_range_redact : (d : ℕ) → d ≤ 31 → ask_redact d ≡ Some (Redact d)
  in_range_redact d domain = let test : nat_le d 31 ≡ true = grind (arith, nat_tests) in rw test refl

  pub redact_lacks : (d : ℕ) → d ≤ 31 → Answers (answer_by (ask_redact d) image) number taken old new
      → number ≡ 2 → InMemory (LacksDomain d) image taken new
  redact_lacks d domain answers is =
      let own = subst (λ (asked : Option Command). Answers (answer_by asked image) number taken old new)
      (in_range_redact d domain) answers in
      lacks_kept d (call_of (Redact d) image Usage (take taken new)) (answered_as (Redact d) own Usage tt is) refl refl

  pub redact_done : (d : ℕ) → Answers (answer_by (ask_redact d) image) number taken old new
      → (ask_redact d ≡ Some (Redact d) → number ≡ 0 → KeptReadsBack d image) → number ≡ 0
      → InMemory (Redacts d) image taken new
  redact_done d answers back is =
      let asks = asks_redact d (nat_le d 31) in
      redacts d (call_of (Redact d) image Done (take taken new))
      (answered_if (Redact d) (ask_redact d) asks answers Done tt (λ e. cc e) is) refl refl
      (back (asked_done (Redact d) (ask_redact d) asks answers is) is)

  -- ---- a run with a guard off

  asks_off : (guard : Guard) (n : ℕ) (found : Option Guard) → found ≡ Some guard
      → IfSome (option_and_then (λ g. if_slots n (Ablate g n)) found) (λ k. k ≡ Ablate guard n)
  asks_off guard n found is = rw is (asks_slots n (Ablate guard n) (nat_le n 65536))

  pub ablate_refused : (off n : ℕ) (guard : Guard) → guard_numbered off ≡ Some guard
      → Answers (answer_by (ask_ablate off n) image) number taken old new → number ≡ 1
      → InMemory (Refuses (Ablate guard n)) image taken new
  ablate_refused off n guard named =
      refused_if (Ablate guard n) (ask_ablate off n) (asks_off guard n (guard_numbered off) named)

  pub ablate_written : (off n : ℕ) (guard : Guard) → guard_numbered off ≡ Some guard
      → Answers (answer_by (ask_ablate off n) image) number taken old new → number ≡ 0
      → InMemory (WritesOff guard n) image taken new
  ablate_written off n guard named answers is =
      writes_off guard n (call_of (Ablate guard n) image Done (take taken new))
      (answered_if (Ablate guard n) (ask_ablate off n) (asks_off guard n (guard_numbered off) named) answers Done tt
      (λ e. cc e) is) refl refl

  in_range_off : (off n : ℕ) (guard : Guard) → guard_numbered off ≡ Some guard → n ≤ 65536
      → ask_ablate off n ≡ Some (Ablate guard n)
  in_range_off off n guard named few =
      let second : nat_le n 65536 ≡ true = grind (arith, nat_tests) in rw (named, second) refl

  pub ablate_many : (off n : ℕ) (guard : Guard) → guard_numbered off ≡ Some guard → n ≤ 65536
      → Answers (answer_by (ask_ablate off n) image) number taken old new → number ≡ 2
      → InMemory HasManyHarts image taken new
  ablate_many off n guard named few answers is =
      let own = subst (λ (asked : Option Command). Answers (answer_by asked image) number taken old new)
      (in_range_off off n guard named few) answers in
      has_many_harts guard n (call_of (Ablate guard n) image Usage (take taken new))
      (answered_as (Ablate guard n) own Usage tt is) refl refl

-- ---- the image that a seed makes

module _ (seed number taken : ℕ) (old new : List ℕ) where
  pub gen_written : seed < 2 ^ 64 → Answers (answer_by (Some (Gen seed)) []) number taken old new
      → (number ≡ 0 → ReadsBack seed) → number ≡ 0 → Generates seed (Some []) (Some (take taken new))
  gen_written small answers back is =
      generates seed (call_of (Gen seed) [] Done (take taken new))
      (answered_as [] number taken old new (Gen seed) answers Done tt is) refl refl small (back is)

  pub demo_written : seed < 2 ^ 64 → Answers (answer_by (Some (Demo seed)) []) number taken old new → number ≡ 0
      → Summarizes seed (Some []) (Some (take taken new))
  demo_written small answers is =
      summarizes seed (call_of (Demo seed) [] Done (take taken new))
      (answered_as [] number taken old new (Demo seed) answers Done tt is) refl refl small

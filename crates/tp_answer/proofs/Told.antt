-- What the top call's clauses tell of how it ended, once for each way in which it may end.
use Rattle.std.proofs.Common.{◌≡◌, ◌≢◌, ◌∙◌, ℕ, ◌+◌, ◌≤◌, List, length, Option, None, Some, Result, Err, sym, subst, arith}
use Rattle.std.proofs.lemmas.Option.{same_Some}
use Rattle.tp_io.specs.Bytes.{AtEnd}
use Rattle.tp_io.specs.declared.source.ReadError.{ReadError}
use Rattle.tp_io.specs.declared.source.ReadError.TheVariants.{Failed, Memory as HeldNone}
use Rattle.guards.specs.declared.Guard.{Guard}
use Rattle.image_reading.specs.Reading.{most_bytes}
use Rattle.hart_orders.specs.declared.choice.Choice.TheVariants.{LeastClock, Drawn}
use Rattle.tp_words.specs.declared.Command.{Command}
use Rattle.tp_words.specs.declared.Command.TheVariants.{Check, Bound, Run, Alone, Gen, Demo, Ablate, Harts, Redact}
use Rattle.tp_words.specs.Words.{Reads, IsInRange, command}
use Rattle.tp_answer.specs.declared.status.Status.{Status}
use Rattle.tp_answer.specs.declared.status.Status.TheVariants.{Done, Refused, Usage, ReadFault, Memory, TooLong}
use Rattle.tp_answer.specs.TopCall.{MayBeUsage, IsOver, Refuses, Accepts, Bounds, Isolated, Padded, LacksDomain, WritesSection, SameSection, HasManyHarts, WritesOff, KeptReadsBack, Redacts, ReadsBack, Generates, Summarizes}
use Rattle.tp_answer.proofs.Commands.{Asked, IsAnswered, as_command, done_reads, refused_reads, too_long_reads, may_be_usage, refuses, accepts, bounds, ran, harts_ran, is_isolated, is_padded, lacks_domain, writes_section, is_same_section, writes_off, has_many_harts, redacts, lacks_kept, generates, summarizes}

-- the words aren't both no command and one
pub unasked : (words : List (List ℕ)) (c : Command) → command words ≡ None → command words ≡ Some c → ⊥
unasked words c none is = cc (none, is)

module _ (words : List (List ℕ)) (status : Status) (left left' old new : Option (List ℕ)) where
  pub record Tells : Type 0 where
    pub usage : status ≡ Usage → MayBeUsage (command words)
    pub no_domain : (d n : ℕ) → command words ≡ Some (Alone d n) → status ≡ Usage
        → LacksDomain d left left' old new
    pub many_harts : (off : Guard) (n : ℕ) → command words ≡ Some (Ablate off n) → status ≡ Usage
        → HasManyHarts left left' old new
    pub no_kept_domain : (d : ℕ) → command words ≡ Some (Redact d) → status ≡ Usage
        → LacksDomain d left left' old new
    pub done_reads : (c : Command) → command words ≡ Some c → Reads c → status ≡ Done → AtEnd left'
    pub refused_reads : status ≡ Refused → AtEnd left'
    pub too_long_reads : status ≡ TooLong → IsOver left left'
    pub refused : (c : Command) → command words ≡ Some c → status ≡ Refused → Refuses c left left' old new
    pub accepted : command words ≡ Some Check → status ≡ Done → Accepts left left' old new
    pub bound : command words ≡ Some Bound → status ≡ Done → Bounds left left' old new
    pub isolation : (n : ℕ) → command words ≡ Some (Run n) → status ≡ Done
        → Isolated LeastClock n left left' old new
    pub pad : (n : ℕ) → command words ≡ Some (Run n) → status ≡ Done → Padded LeastClock n left left'
    pub harts_isolation : (n s : ℕ) → command words ≡ Some (Harts n s) → status ≡ Done
        → Isolated (Drawn s) n left left' old new
    pub harts_pad : (n s : ℕ) → command words ≡ Some (Harts n s) → status ≡ Done
        → Padded (Drawn s) n left left'
    pub alone : (d n : ℕ) → command words ≡ Some (Alone d n) → status ≡ Done
        → WritesSection d n left left' old new
    pub same_section : (d n : ℕ) → command words ≡ Some (Alone d n) → status ≡ Done
        → SameSection d n left left' old new
    pub unprotected : (off : Guard) (n : ℕ) → command words ≡ Some (Ablate off n) → status ≡ Done
        → WritesOff off n left left' old new
    pub redacted : (d : ℕ) → command words ≡ Some (Redact d) → status ≡ Done → Redacts d left left' old new
    pub generated : (s : ℕ) → command words ≡ Some (Gen s) → status ≡ Done → Generates s old new
    pub demo : (s : ℕ) → command words ≡ Some (Demo s) → status ≡ Done → Summarizes s old new

  -- of a status that comes with no text of its own, nothing
  failed_tells : status ≢ Done → status ≢ Refused → status ≢ Usage → status ≢ TooLong → Tells
  failed_tells done refused usage over = record {
    usage = λ e. absurd (usage e);
    no_domain = λ d n is e. absurd (usage e);
    many_harts = λ off n is e. absurd (usage e);
    no_kept_domain = λ d is e. absurd (usage e);
    done_reads = λ c is reads e. absurd (done e);
    refused_reads = λ e. absurd (refused e);
    too_long_reads = λ e. absurd (over e);
    refused = λ c is e. absurd (refused e);
    accepted = λ is e. absurd (done e);
    bound = λ is e. absurd (done e);
    isolation = λ n is e. absurd (done e);
    pad = λ n is e. absurd (done e);
    harts_isolation = λ n s is e. absurd (done e);
    harts_pad = λ n s is e. absurd (done e);
    alone = λ d n is e. absurd (done e);
    same_section = λ d n is e. absurd (done e);
    unprotected = λ off n is e. absurd (done e);
    redacted = λ d is e. absurd (done e);
    generated = λ s is e. absurd (done e);
    demo = λ s is e. absurd (done e);
  }

  -- of words that are no command, that they have the usage line
  pub usage_tells : command words ≡ None → status ≢ Refused → status ≢ TooLong → Tells
  usage_tells none refused over = record {
    usage = λ e. subst MayBeUsage (sym none) tt;
    no_domain = λ d n is e. absurd (unasked words (Alone d n) none is);
    many_harts = λ off n is e. absurd (unasked words (Ablate off n) none is);
    no_kept_domain = λ d is e. absurd (unasked words (Redact d) none is);
    done_reads = λ c is reads e. absurd (unasked words c none is);
    refused_reads = λ e. absurd (refused e);
    too_long_reads = λ e. absurd (over e);
    refused = λ c is e. absurd (refused e);
    accepted = λ is e. absurd (unasked words Check none is);
    bound = λ is e. absurd (unasked words Bound none is);
    isolation = λ n is e. absurd (unasked words (Run n) none is);
    pad = λ n is e. absurd (unasked words (Run n) none is);
    harts_isolation = λ n s is e. absurd (unasked words (Harts n s) none is);
    harts_pad = λ n s is e. absurd (unasked words (Harts n s) none is);
    alone = λ d n is e. absurd (unasked words (Alone d n) none is);
    same_section = λ d n is e. absurd (unasked words (Alone d n) none is);
    unprotected = λ off n is e. absurd (unasked words (Ablate off n) none is);
    redacted = λ d is e. absurd (unasked words (Redact d) none is);
    generated = λ s is e. absurd (unasked words (Gen s) none is);
    demo = λ s is e. absurd (unasked words (Demo s) none is);
  }

pub memory_tells : (words : List (List ℕ)) (left left' old new : Option (List ℕ))
    → Tells words Memory left left' old new
memory_tells words left left' old new =
    failed_tells words Memory left left' old new (λ e. cc e) (λ e. cc e) (λ e. cc e) (λ e. cc e)

pub read_fault_tells : (words : List (List ℕ)) (left left' old new : Option (List ℕ))
    → Tells words ReadFault left left' old new
read_fault_tells words left left' old new =
    failed_tells words ReadFault left left' old new (λ e. cc e) (λ e. cc e) (λ e. cc e) (λ e. cc e)

-- no read failed where memory ran out
pub held_none : {T : Type 0} (result : Result T ReadError) (e : ReadError) → result ≡ Err e → e ≡ HeldNone
    → result ≢ Err Failed
held_none result e is held failed = cc (is, held, failed)

-- of a command that was answered, all
pub answered_tells : (words : List (List ℕ)) (a : Asked) (h : IsAnswered a) → command words ≡ Some a.command
    → length a.items ≤ most_bytes + 1 → IsInRange a.command
    → ((s : ℕ) → a.command ≡ Gen s → a.status ≡ Done → ReadsBack s)
    → ((d : ℕ) → a.command ≡ Redact d → a.status ≡ Done → KeptReadsBack d a.items)
    → Tells words a.status a.left a.left' a.old.written a.new.written
answered_tells words a h asked most range back kept_back =
    let named : (c : Command) → command words ≡ Some c → a.command ≡ c = λ c is. same_Some _ _ (sym asked ∙ is) in
    record {
      usage = λ e. subst MayBeUsage (sym asked) (may_be_usage a h e);
      no_domain = λ d n is e. lacks_domain d n a h (named (Alone d n) is) e;
      many_harts = λ off n is e. has_many_harts off n a h (named (Ablate off n) is) e;
      no_kept_domain = λ d is e. lacks_kept d a h (named (Redact d) is) e;
      done_reads = λ c is reads e.
          let own : Reads a.command = subst Reads (sym (named c is)) reads in h.whole own (done_reads a h own e);
      refused_reads = λ e. let (reads, few) = refused_reads a h e in h.whole reads few;
      too_long_reads = λ e.
          let many = too_long_reads a h e in record { bytes = a.items; took = h.took; many = omega (arith, many, most) };
      refused = λ c is e. refuses (record a { command = c }) (as_command a c (named c is) h) e;
      accepted = λ is e. accepts a h (named Check is) e;
      bound = λ is e. bounds a h (named Bound is) e;
      isolation = λ n is e.
          let r = ran n a h (named (Run n) is) e in is_isolated LeastClock n a.left a.left' a.old.written a.new.written r.0 r.1;
      pad = λ n is e. is_padded LeastClock n a.left a.left' (ran n a h (named (Run n) is) e).0;
      harts_isolation = λ n s is e.
          let r = harts_ran n s a h (named (Harts n s) is) e in
          is_isolated (Drawn s) n a.left a.left' a.old.written a.new.written r.0 r.1;
      harts_pad = λ n s is e. is_padded (Drawn s) n a.left a.left' (harts_ran n s a h (named (Harts n s) is) e).0;
      alone = λ d n is e. writes_section d n a h (named (Alone d n) is) e;
      same_section = λ d n is e.
          is_same_section d n a.left a.left' a.old.written a.new.written (writes_section d n a h (named (Alone d n) is) e);
      unprotected = λ off n is e. writes_off off n a h (named (Ablate off n) is) e;
      redacted = λ d is e. let own = named (Redact d) is in redacts d a h own e (kept_back d own e);
      generated = λ s is e.
          let own = named (Gen s) is in
          let small : IsInRange (Gen s) = subst IsInRange own range in
          generates s a h own e (omega (arith, small)) (back s own e);
      demo = λ s is e.
          let own = named (Demo s) is in
          let small : IsInRange (Demo s) = subst IsInRange own range in summarizes s a h own e (omega (arith, small));
    }

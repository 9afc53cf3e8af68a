use Rattle.std.proofs.Common.{◌≡◌, ◌∙◌, ℕ, sym, ap, None, Some, Option, Err, List, [], inl, inr, refl, subst, arith}
use Rattle.std.specs.Prelude.{IfSome}
use Rattle.std.proofs.lemmas.Option.{same_Some}
use Rattle.tp_io.specs.Sink.{state}
use Rattle.tp_words.specs.declared.Command.{Command}
use Rattle.tp_words.specs.declared.Command.TheVariants.{Redact}
use Rattle.tp_words.specs.Words.{Reads, IsInRange, command, words_of}
use Rattle.tp_answer.specs.declared.status.Status.TheVariants.{Done, Refused, TooLong, Memory}
use Rattle.tp_answer.specs.Answer.{answer_of_bytes}
use Rattle.tp_answer.specs.TopCall.{Delivers, KeptReadsBack}
use Rattle.tp_answer.proofs.Answers.{none_failed, neither_failed, wrote_of, want_is_no_read, want_is_no_fault, read_is_no_fault, none_taken, bytes_due, usage_sent, usage_delivers, ends_usage, completes, completes_surely}
use Rattle.tp_answer.proofs.Commands.{answering, told_delivers}
use Rattle.tp_answer.proofs.Told.{memory_tells, read_fault_tells, usage_tells, answered_tells, held_none, unasked}
use Rattle.tp_run.proofs.call.tp_main.Goals as goal

-- ---- words that are no command

pub returns-in-Ok-None : goal.returns-in-Ok-None
returns-in-Ok-None g c =
    let words = words_of c.args.words.now in
    let none : command words ≡ None = sym c.in-Ok-None.ensures.value ∙ c.in-Ok-None.field-0-is in
    let result = c.status_unless_failed.result in
    let left = g.S.Source.left c.args.src.now in
    let old = state g.K.Sink c.args.out.now in
    let new = state g.K.Sink c.write_usage.new.out in
    let usage = usage_sent result old new c.write_usage.result c.write_usage.ensures.sends
    c.status_unless_failed.ensures.ok c.status_unless_failed.ensures.err in
    let t = usage_tells words result left left old.written new.written none
    (λ e. cc (wrote_of Refused usage e).0) (λ e. cc (wrote_of TooLong usage e).0) in
    record {
      told = λ bytes told. (usage_delivers words bytes result old new none usage).wrote;
      answered = λ read held. record {
        bytes = [];
        took = none_taken left;
        whole = λ k asked reads few. absurd (unasked words k none asked);
        few = omega arith;
        wrote = (usage_delivers words [] result old new none usage).wrote;
      };
      no_command = λ _. ends_usage result old new usage;
      untouched = λ _. refl;
      makes_untouched = λ k is makes. refl;
      read_fault = none_failed _ usage.no_read;
      write_fault = usage.fault;
      nothing_read = λ e. absurd (usage.no_read e);
      nothing_held = λ e. wrote_of Memory usage e;
      complete = λ bytes told source sink.
          completes _ result old new (usage_delivers words bytes result old new none usage) sink c.requires.sink;
      complete_sure = λ bytes room told sure fits.
          completes_surely _ result old new room (usage_delivers words bytes result old new none usage) sure fits;
      usage = t.usage;
      no_domain = t.no_domain;
      many_harts = t.many_harts;
      no_kept_domain = t.no_kept_domain;
      done_reads = t.done_reads;
      refused_reads = t.refused_reads;
      too_long_reads = t.too_long_reads;
      refused = t.refused;
      accepted = t.accepted;
      bound = t.bound;
      isolation = t.isolation;
      pad = t.pad;
      harts_isolation = t.harts_isolation;
      harts_pad = t.harts_pad;
      alone = t.alone;
      same_section = t.same_section;
      unprotected = t.unprotected;
      redacted = t.redacted;
      generated = t.generated;
      demo = t.demo;
    }

-- ---- memory ran out, or a read failed

pub returns-in-Err : goal.returns-in-Err
returns-in-Err g c =
    let left = g.S.Source.left c.args.src.now in
    let written = g.K.Sink.written c.args.out.now in
    let t = memory_tells (words_of c.args.words.now) left left written written in
    record {
      told = λ bytes told. refl;
      answered = λ read held. absurd (held refl);
      no_command = λ none. refl;
      untouched = λ none. refl;
      makes_untouched = λ k is makes. refl;
      read_fault = none_failed _ want_is_no_read;
      write_fault = none_failed _ want_is_no_fault;
      nothing_read = λ e. refl;
      nothing_held = λ e. refl;
      complete = λ bytes told source sink. inr refl;
      complete_sure = λ bytes room told sure fits. inl (inr refl);
      usage = t.usage;
      no_domain = t.no_domain;
      many_harts = t.many_harts;
      no_kept_domain = t.no_kept_domain;
      done_reads = t.done_reads;
      refused_reads = t.refused_reads;
      too_long_reads = t.too_long_reads;
      refused = t.refused;
      accepted = t.accepted;
      bound = t.bound;
      isolation = t.isolation;
      pad = t.pad;
      harts_isolation = t.harts_isolation;
      harts_pad = t.harts_pad;
      alone = t.alone;
      same_section = t.same_section;
      unprotected = t.unprotected;
      redacted = t.redacted;
      generated = t.generated;
      demo = t.demo;
    }

pub returns-in-Err-Failed : goal.returns-in-Err-Failed
returns-in-Err-Failed g c =
    let words = words_of c.args.words.now in
    let its = c.in-Ok-Some.command in
    let asked : command words ≡ Some its = sym c.in-Ok-Some.ensures.value ∙ c.in-Ok-Some.field-0-is in
    let left = g.S.Source.left c.args.src.now in
    let left' = g.S.Source.left c.read_for.new.src in
    let written = g.K.Sink.written c.args.out.now in
    let cause = c.read_for.ensures.cause in
    let rose = cause.rose (c.in-Err-Failed.is ∙ ap Err c.in-Err-Failed.field-0-is) in
    let t = read_fault_tells words left left' written written in
    record {
      told = λ bytes told. refl;
      answered = λ read held. absurd (read refl);
      no_command = λ none. absurd (unasked words its none asked);
      untouched = λ none. absurd (unasked words its none asked);
      makes_untouched = λ k is makes.
          c.read_for.ensures.untouched (λ reads. makes (subst Reads (same_Some its k (sym asked ∙ is)) reads));
      read_fault = record { rose = λ _. rose; steady = λ other. absurd (other refl); never_falls = cause.never_falls };
      write_fault = none_failed _ read_is_no_fault;
      nothing_read = λ e. refl;
      nothing_held = λ e. refl;
      complete = λ bytes told source sink. absurd (omega (arith, rose, source, c.requires.source));
      complete_sure = λ bytes room told sure fits. inr refl;
      usage = t.usage;
      no_domain = t.no_domain;
      many_harts = t.many_harts;
      no_kept_domain = t.no_kept_domain;
      done_reads = t.done_reads;
      refused_reads = t.refused_reads;
      too_long_reads = t.too_long_reads;
      refused = t.refused;
      accepted = t.accepted;
      bound = t.bound;
      isolation = t.isolation;
      pad = t.pad;
      harts_isolation = t.harts_isolation;
      harts_pad = t.harts_pad;
      alone = t.alone;
      same_section = t.same_section;
      unprotected = t.unprotected;
      redacted = t.redacted;
      generated = t.generated;
      demo = t.demo;
    }

pub returns-in-Err-Memory : goal.returns-in-Err-Memory
returns-in-Err-Memory g c =
    let words = words_of c.args.words.now in
    let its = c.in-Ok-Some.command in
    let asked : command words ≡ Some its = sym c.in-Ok-Some.ensures.value ∙ c.in-Ok-Some.field-0-is in
    let left = g.S.Source.left c.args.src.now in
    let left' = g.S.Source.left c.read_for.new.src in
    let written = g.K.Sink.written c.args.out.now in
    let t = memory_tells words left left' written written in
    record {
      told = λ bytes told. refl;
      answered = λ read held. absurd (held refl);
      no_command = λ none. refl;
      untouched = λ none. absurd (unasked words its none asked);
      makes_untouched = λ k is makes.
          c.read_for.ensures.untouched (λ reads. makes (subst Reads (same_Some its k (sym asked ∙ is)) reads));
      read_fault =
          neither_failed _ _ (held_none _ _ c.in-Err-Memory.is c.in-Err-Memory.field-0-is) want_is_no_read
          c.read_for.ensures.cause;
      write_fault = none_failed _ want_is_no_fault;
      nothing_read = λ e. refl;
      nothing_held = λ e. refl;
      complete = λ bytes told source sink. inr refl;
      complete_sure = λ bytes room told sure fits. inl (inr refl);
      usage = t.usage;
      no_domain = t.no_domain;
      many_harts = t.many_harts;
      no_kept_domain = t.no_kept_domain;
      done_reads = t.done_reads;
      refused_reads = t.refused_reads;
      too_long_reads = t.too_long_reads;
      refused = t.refused;
      accepted = t.accepted;
      bound = t.bound;
      isolation = t.isolation;
      pad = t.pad;
      harts_isolation = t.harts_isolation;
      harts_pad = t.harts_pad;
      alone = t.alone;
      same_section = t.same_section;
      unprotected = t.unprotected;
      redacted = t.redacted;
      generated = t.generated;
      demo = t.demo;
    }

-- ---- all bytes of the source, or one more than an image may have

pub returns : goal.returns
returns g c =
    let words = words_of c.args.words.now in
    let its = c.in-Ok-Some.command in
    let asked : command words ≡ Some its = sym c.in-Ok-Some.ensures.value ∙ c.in-Ok-Some.field-0-is in
    let left = g.S.Source.left c.args.src.now in
    let left' = g.S.Source.left c.read_for.new.src in
    let items = c.in-Ok.bytes.items in
    let result = c.answer_bytes.result in
    let old = state g.K.Sink c.args.out.now in
    let new = state g.K.Sink c.answer_bytes.new.out in
    let delivers =
    subst (λ (xs : List ℕ). Delivers (answer_of_bytes its xs) result old new) c.as_slice.ensures.value
    c.answer_bytes.ensures.delivers in
    let h = answering its items left' c.in-Ok.ensures.taken c.in-Ok.ensures.whole delivers in
    let range : IsInRange its = subst (λ (o : Option Command). IfSome o IsInRange) c.in-Ok-Some.field-0-is c.in-Ok-Some.ensures.range in
    let kept_back : (d : ℕ) → its ≡ Redact d → result ≡ Done → KeptReadsBack d items =
    λ d own done. subst (KeptReadsBack d) c.as_slice.ensures.value (c.answer_bytes.ensures.kept_reads_back d own done) in
    let t = answered_tells words _ h asked c.in-Ok.ensures.most range c.answer_bytes.ensures.reads_back kept_back in
    record {
      told = λ bytes told. (told_delivers _ h words bytes asked told).wrote;
      answered = λ read held. record {
        bytes = items;
        took = h.took;
        whole = λ k is reads few. h.whole (subst Reads (sym (same_Some its k (sym asked ∙ is))) reads) few;
        few = c.in-Ok.ensures.most;
        wrote = rw (bytes_due words items its asked) h.delivers.wrote;
      };
      no_command = λ none. absurd (unasked words its none asked);
      untouched = λ none. absurd (unasked words its none asked);
      makes_untouched = λ k is makes.
          c.read_for.ensures.untouched (λ reads. makes (subst Reads (same_Some its k (sym asked ∙ is)) reads));
      read_fault = neither_failed _ _ (λ e. cc e) delivers.no_read c.in-Ok.ensures.cause;
      write_fault = delivers.fault;
      nothing_read = λ e. absurd (delivers.no_read e);
      nothing_held = λ e. wrote_of Memory delivers e;
      complete = λ bytes told source sink.
          completes _ result old new (told_delivers _ h words bytes asked told) sink c.requires.sink;
      complete_sure = λ bytes room told sure fits.
          completes_surely _ result old new room (told_delivers _ h words bytes asked told) sure fits;
      usage = t.usage;
      no_domain = t.no_domain;
      many_harts = t.many_harts;
      no_kept_domain = t.no_kept_domain;
      done_reads = t.done_reads;
      refused_reads = t.refused_reads;
      too_long_reads = t.too_long_reads;
      refused = t.refused;
      accepted = t.accepted;
      bound = t.bound;
      isolation = t.isolation;
      pad = t.pad;
      harts_isolation = t.harts_isolation;
      harts_pad = t.harts_pad;
      alone = t.alone;
      same_section = t.same_section;
      unprotected = t.unprotected;
      redacted = t.redacted;
      generated = t.generated;
      demo = t.demo;
    }

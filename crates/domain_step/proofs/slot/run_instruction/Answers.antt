use Rattle.std.proofs.Common.{ℕ, ◌+◌, Some, sym, ap, subst, refl, ◌∙◌, arith}
use Rattle.rv_core.specs.declared.exception.Exception.TheVariants as exception
use Rattle.cycle_cost.specs.Models.{product_costs_of}
use Rattle.kernel_call.specs.Models.{dom_model}
use Rattle.kernel_clone.specs.Footprints.{IsLayout}
use Rattle.mem_system.specs.Translation.{KeepsLeaves}
use Rattle.rv_decode.specs.Ranges.{HasRegisters}
use Rattle.world_view.specs.Kernel.{estate}
use Rattle.world_view.specs.Event.{instruction}
use Rattle.domain_step.specs.Kept.{KeptOf}
use Rattle.domain_step.proofs.Points.{Point, Side, KeptParts}
use Rattle.domain_step.proofs.Instructions.{Fetched, IsFetched, instruction_missed, instruction_undefined, instruction_called, instruction_timed, instruction_executed, same_products, found_word}
use Rattle.domain_step.proofs.Events.{kept_in, is_root, kept_whole, left_whole, keeps_itself}
use Rattle.mem_system.specs.Contents.{system}
use Rattle.domain_step.proofs.slot.run_instruction.Goals as goal

pub returns-in-Err-clause-leaves : goal.returns-in-Err-clause-leaves
returns-in-Err-clause-leaves g c w s r readings replies k h q =
    let rule = g.P.Policy.rule in
    let stands = g.P.Policy.stands_for in
    let old = c.args.domain.now in
    let memory = c.args.memory.now in
    let mail = c.args.mail.now in
    let p : Point = record {
      setting = w;
      clock = c.args.now;
      root = c.root-root.result;
      dom = dom_model old readings replies;
      storage = s;
      reached = r;
    } in
    let first : Side _ =
    record { domain = old; memory = memory; mail = mail; system = (system c.args.core.now c.args.l2.now); spent = c.args.spent.now } in
    let last : Side _ = record {
      domain = c.stop.new.domain;
      memory = memory;
      mail = mail;
      system = (system c.translate.new.core c.translate.new.l2);
      spent = c.translate.new.spent;
    } in
    let top = c.root-root.ensures.value in
    let missed = c.in-Err.ensures.finds w old.caps p.dom s r (kept_in rule stands p first k top) in
    left_whole rule stands p first k top last c.stop.ensures.keeps refl
    (instruction w.machine (estate w.machine w.own) w.clone p.clock p.dom)
    (instruction_missed p last.domain (is_root rule stands p first k top)
    (KeptParts rule stands p old.caps last) mail c.in-Err.trap k.boxes missed (c.stop.ensures.becomes readings replies h q))

pub returns-in_default-clause-leaves : goal.returns-in_default-clause-leaves
returns-in_default-clause-leaves g c w s r readings replies k h q =
    let rule = g.P.Policy.rule in
    let stands = g.P.Policy.stands_for in
    let old = c.args.domain.now in
    let memory = c.args.memory.now in
    let mail = c.args.mail.now in
    let p : Point = record {
      setting = w;
      clock = c.args.now;
      root = c.root-root.result;
      dom = dom_model old readings replies;
      storage = s;
      reached = r;
    } in
    let first : Side _ =
    record { domain = old; memory = memory; mail = mail; system = (system c.args.core.now c.args.l2.now); spent = c.args.spent.now } in
    let top = c.root-root.ensures.value in
    let f : Fetched _ = record {
      caps = old.caps;
      memory = memory;
      mail = mail;
      before = (system c.translate.new.core c.translate.new.l2);
      later = (system c.fetch.new.self c.fetch.new.l2);
      at = c.in-Ok.at;
      line = c.line_of-line.result;
      word = c.read_word-word.result;
      muldiv = c.is_some.result;
      spent = c.translate.new.spent;
      cycles = c.fetch.result;
    } in
    let is : IsFetched rule stands p f = record {
      page = c.in-Ok.ensures.finds w old.caps p.dom s r (kept_in rule stands p first k top);
      boxes = k.boxes;
      placed_at = c.in-Ok.ensures.place;
      line = c.line_of-line.ensures.line;
      makes = c.fetch.ensures.makes;
      muldiv = same_products product_costs_of c.products.result _ c.is_some.result c.is_some.ensures c.products.ensures.table;
      buffer = c.fetch.ensures.buffer;
      found =
          λ m b.
          found_word m f.word f.at old.threads.active.pc c.in-Ok.ensures.place
          (c.read_word-word.ensures.holds m b);
    } in
    let last : Side _ = record {
      domain = c.stop-in_default.new.domain;
      memory = memory;
      mail = mail;
      system = f.later;
      spent = f.spent + f.cycles;
    } in
    left_whole rule stands p first k top last c.stop-in_default.ensures.keeps refl
    (instruction w.machine (estate w.machine w.own) w.clone p.clock p.dom)
    (instruction_undefined p last.domain (is_root rule stands p first k top) rule stands f is
    (record { exception = exception.IllegalInstruction; value = f.word }) refl (sym c.in_default.ensures.value)
    (c.stop-in_default.ensures.becomes readings replies h q))

pub returns-in-Ecall-clause-leaves : goal.returns-in-Ecall-clause-leaves
returns-in-Ecall-clause-leaves g c w s r readings replies k h q =
    let rule = g.P.Policy.rule in
    let stands = g.P.Policy.stands_for in
    let old = c.args.domain.now in
    let memory = c.args.memory.now in
    let mail = c.args.mail.now in
    let p : Point = record {
      setting = w;
      clock = c.args.now;
      root = c.root-root.result;
      dom = dom_model old readings replies;
      storage = s;
      reached = r;
    } in
    let first : Side _ =
    record { domain = old; memory = memory; mail = mail; system = (system c.args.core.now c.args.l2.now); spent = c.args.spent.now } in
    let top = c.root-root.ensures.value in
    let f : Fetched _ = record {
      caps = old.caps;
      memory = memory;
      mail = mail;
      before = (system c.translate.new.core c.translate.new.l2);
      later = (system c.fetch.new.self c.fetch.new.l2);
      at = c.in-Ok.at;
      line = c.line_of-line.result;
      word = c.read_word-word.result;
      muldiv = c.is_some.result;
      spent = c.translate.new.spent;
      cycles = c.fetch.result;
    } in
    let is : IsFetched rule stands p f = record {
      page = c.in-Ok.ensures.finds w old.caps p.dom s r (kept_in rule stands p first k top);
      boxes = k.boxes;
      placed_at = c.in-Ok.ensures.place;
      line = c.line_of-line.ensures.line;
      makes = c.fetch.ensures.makes;
      muldiv = same_products product_costs_of c.products.result _ c.is_some.result c.is_some.ensures c.products.ensures.table;
      buffer = c.fetch.ensures.buffer;
      found =
          λ m b.
          found_word m f.word f.at old.threads.active.pc c.in-Ok.ensures.place
          (c.read_word-word.ensures.holds m b);
    } in
    let called : Side _ =
    record { domain = old; memory = memory; mail = mail; system = f.later; spent = f.spent + f.cycles } in
    let whole = kept_whole rule stands p first k top called (keeps_itself old) refl in
    instruction_called p c.call.new.domain (is_root rule stands p first k top) rule stands f is
    (KeptOf rule stands w c.call.new.domain c.call.new.memory c.call.new.mail (system c.call.new.core c.call.new.l2) c.call.result)
    (sym c.in-Some.ensures.value ∙ ap (λ x. Some x) c.in-Ecall.is)
    (λ u z n. c.call.ensures.leaves w u z readings replies (whole u z n) h q)

pub returns-in-Multiply-clause-leaves : goal.returns-in-Multiply-clause-leaves
returns-in-Multiply-clause-leaves g c w s r readings replies k h q =
    let rule = g.P.Policy.rule in
    let stands = g.P.Policy.stands_for in
    let old = c.args.domain.now in
    let memory = c.args.memory.now in
    let mail = c.args.mail.now in
    let p : Point = record {
      setting = w;
      clock = c.args.now;
      root = c.root-root.result;
      dom = dom_model old readings replies;
      storage = s;
      reached = r;
    } in
    let first : Side _ =
    record { domain = old; memory = memory; mail = mail; system = (system c.args.core.now c.args.l2.now); spent = c.args.spent.now } in
    let top = c.root-root.ensures.value in
    let f : Fetched _ = record {
      caps = old.caps;
      memory = memory;
      mail = mail;
      before = (system c.translate.new.core c.translate.new.l2);
      later = (system c.fetch.new.self c.fetch.new.l2);
      at = c.in-Ok.at;
      line = c.line_of-line.result;
      word = c.read_word-word.result;
      muldiv = c.is_some.result;
      spent = c.translate.new.spent;
      cycles = c.fetch.result;
    } in
    let is : IsFetched rule stands p f = record {
      page = c.in-Ok.ensures.finds w old.caps p.dom s r (kept_in rule stands p first k top);
      boxes = k.boxes;
      placed_at = c.in-Ok.ensures.place;
      line = c.line_of-line.ensures.line;
      makes = c.fetch.ensures.makes;
      muldiv = same_products product_costs_of c.products.result _ c.is_some.result c.is_some.ensures c.products.ensures.table;
      buffer = c.fetch.ensures.buffer;
      found =
          λ m b.
          found_word m f.word f.at old.threads.active.pc c.in-Ok.ensures.place
          (c.read_word-word.ensures.holds m b);
    } in
    let last : Side _ = record {
      domain = c.multiply.new.domain;
      memory = memory;
      mail = mail;
      system = f.later;
      spent = c.multiply.result;
    } in
    left_whole rule stands p first k top last c.multiply.ensures.keeps refl
    (instruction w.machine (estate w.machine w.own) w.clone p.clock p.dom)
    (instruction_timed p last.domain (is_root rule stands p first k top) rule stands f is _
    (KeptParts rule stands p old.caps last) (sym c.in-Some.ensures.value ∙ ap (λ x. Some x) c.in-Multiply.is)
    (λ e. cc)
    (λ u z n. c.multiply.ensures.leaves w c.fetch.new.l2 memory p.root p.clock u z readings replies n.kept h q))

pub returns-in-Divide-clause-leaves : goal.returns-in-Divide-clause-leaves
returns-in-Divide-clause-leaves g c w s r readings replies k h q =
    let rule = g.P.Policy.rule in
    let stands = g.P.Policy.stands_for in
    let old = c.args.domain.now in
    let memory = c.args.memory.now in
    let mail = c.args.mail.now in
    let p : Point = record {
      setting = w;
      clock = c.args.now;
      root = c.root-root.result;
      dom = dom_model old readings replies;
      storage = s;
      reached = r;
    } in
    let first : Side _ =
    record { domain = old; memory = memory; mail = mail; system = (system c.args.core.now c.args.l2.now); spent = c.args.spent.now } in
    let top = c.root-root.ensures.value in
    let f : Fetched _ = record {
      caps = old.caps;
      memory = memory;
      mail = mail;
      before = (system c.translate.new.core c.translate.new.l2);
      later = (system c.fetch.new.self c.fetch.new.l2);
      at = c.in-Ok.at;
      line = c.line_of-line.result;
      word = c.read_word-word.result;
      muldiv = c.is_some.result;
      spent = c.translate.new.spent;
      cycles = c.fetch.result;
    } in
    let is : IsFetched rule stands p f = record {
      page = c.in-Ok.ensures.finds w old.caps p.dom s r (kept_in rule stands p first k top);
      boxes = k.boxes;
      placed_at = c.in-Ok.ensures.place;
      line = c.line_of-line.ensures.line;
      makes = c.fetch.ensures.makes;
      muldiv = same_products product_costs_of c.products.result _ c.is_some.result c.is_some.ensures c.products.ensures.table;
      buffer = c.fetch.ensures.buffer;
      found =
          λ m b.
          found_word m f.word f.at old.threads.active.pc c.in-Ok.ensures.place
          (c.read_word-word.ensures.holds m b);
    } in
    let last : Side _ = record {
      domain = c.divide.new.domain;
      memory = memory;
      mail = mail;
      system = f.later;
      spent = c.divide.result;
    } in
    left_whole rule stands p first k top last c.divide.ensures.keeps refl
    (instruction w.machine (estate w.machine w.own) w.clone p.clock p.dom)
    (instruction_timed p last.domain (is_root rule stands p first k top) rule stands f is _
    (KeptParts rule stands p old.caps last) (sym c.in-Some.ensures.value ∙ ap (λ x. Some x) c.in-Divide.is)
    (λ e. cc)
    (λ u z n. c.divide.ensures.leaves w c.fetch.new.l2 memory p.root p.clock u z readings replies n.kept h q))

pub returns-in_default-instr : goal.returns-in_default-instr
returns-in_default-instr g c = record {
  leaves = λ w s r readings replies k h q.
      let rule = g.P.Policy.rule in
      let stands = g.P.Policy.stands_for in
      let old = c.args.domain.now in
      let memory = c.args.memory.now in
      let mail = c.args.mail.now in
      let p : Point = record {
        setting = w;
        clock = c.args.now;
        root = c.root-root.result;
        dom = dom_model old readings replies;
        storage = s;
        reached = r;
      } in
      let first : Side _ =
      record { domain = old; memory = memory; mail = mail; system = (system c.args.core.now c.args.l2.now); spent = c.args.spent.now } in
      let top = c.root-root.ensures.value in
      let f : Fetched _ = record {
        caps = old.caps;
        memory = memory;
        mail = mail;
        before = (system c.translate.new.core c.translate.new.l2);
        later = (system c.fetch.new.self c.fetch.new.l2);
        at = c.in-Ok.at;
        line = c.line_of-line.result;
        word = c.read_word-word.result;
        muldiv = c.is_some.result;
        spent = c.translate.new.spent;
        cycles = c.fetch.result;
      } in
      let is : IsFetched rule stands p f = record {
        page = c.in-Ok.ensures.finds w old.caps p.dom s r (kept_in rule stands p first k top);
        boxes = k.boxes;
        placed_at = c.in-Ok.ensures.place;
        line = c.line_of-line.ensures.line;
        makes = c.fetch.ensures.makes;
        muldiv = same_products product_costs_of c.products.result _ c.is_some.result c.is_some.ensures c.products.ensures.table;
        buffer = c.fetch.ensures.buffer;
        found =
            λ m b.
            found_word m f.word f.at old.threads.active.pc c.in-Ok.ensures.place
            (c.read_word-word.ensures.holds m b);
      } in
      let last : Side _ = record {
        domain = c.execute.new.domain;
        memory = c.execute.new.memory;
        mail = mail;
        system = (system c.execute.new.core c.execute.new.l2);
        spent = c.execute.new.spent;
      } in
      left_whole rule stands p first k top last c.execute.ensures.keeps c.execute.ensures.frames
      (instruction w.machine (estate w.machine w.own) w.clone p.clock p.dom)
      (instruction_executed p last.domain (is_root rule stands p first k top) rule stands f is c.in-Some.instr
      (KeptParts rule stands p old.caps last) (sym c.in-Some.ensures.value)
      c.in_default-instr.not-Ecall c.in_default-instr.not-Multiply c.in_default-instr.not-Divide
      (λ u z n. c.execute.ensures.leaves w u z readings replies n.kept h q));
  frames = c.execute.ensures.frames;
  grows = record {
    retired = c.execute.ensures.grows.retired;
    readings = c.execute.ensures.grows.readings;
    replies = let few = c.execute.ensures.grows.replies in omega (arith, few);
  };
  moments = c.execute.ensures.keeps.moments;
  goes_on = c.execute.ensures.goes_on;
  few = omega (arith, c.execute.ensures.few, c.in-Ok.ensures.few, c.fetch.ensures.few);
}

pub returns-in-Err-clause-grows : goal.returns-in-Err-clause-grows
returns-in-Err-clause-grows g c =
    let grows = c.stop.ensures.grows in
    record {
      retired = omega (arith, grows.retired);
      readings = omega (arith, grows.readings);
      replies = omega (arith, grows.replies);
    }

pub returns-in-Err-clause-moments : goal.returns-in-Err-clause-moments
returns-in-Err-clause-moments g c = c.stop.ensures.keeps.moments

pub returns-in-Err-clause-few : goal.returns-in-Err-clause-few
returns-in-Err-clause-few g c = omega (arith, c.in-Err.ensures.few)

pub returns-in_default-clause-grows : goal.returns-in_default-clause-grows
returns-in_default-clause-grows g c =
    let grows = c.stop-in_default.ensures.grows in
    record {
      retired = omega (arith, grows.retired);
      readings = omega (arith, grows.readings);
      replies = omega (arith, grows.replies);
    }

pub returns-in_default-clause-moments : goal.returns-in_default-clause-moments
returns-in_default-clause-moments g c = c.stop-in_default.ensures.keeps.moments

pub returns-in_default-clause-few : goal.returns-in_default-clause-few
returns-in_default-clause-few g c = omega (arith, c.in-Ok.ensures.few, c.fetch.ensures.few)

pub returns-in-Ecall-clause-frames : goal.returns-in-Ecall-clause-frames
returns-in-Ecall-clause-frames g c = c.call.ensures.frames

pub returns-in-Ecall-clause-grows : goal.returns-in-Ecall-clause-grows
returns-in-Ecall-clause-grows g c =
    let grows = c.call.ensures.grows in
    record {
      retired = omega (arith, grows.retired);
      readings = omega (arith, grows.readings);
      replies = grows.replies;
    }

pub returns-in-Ecall-clause-moments : goal.returns-in-Ecall-clause-moments
returns-in-Ecall-clause-moments g c = c.call.ensures.moments

pub returns-in-Ecall-clause-few : goal.returns-in-Ecall-clause-few
returns-in-Ecall-clause-few g c = omega (arith, c.call.ensures.few, c.in-Ok.ensures.few, c.fetch.ensures.few)

pub returns-in-Multiply-clause-grows : goal.returns-in-Multiply-clause-grows
returns-in-Multiply-clause-grows g c =
    let grows = c.multiply.ensures.grows in
    record {
      retired = grows.retired;
      readings = omega (arith, grows.readings);
      replies = omega (arith, grows.replies);
    }

pub returns-in-Multiply-clause-moments : goal.returns-in-Multiply-clause-moments
returns-in-Multiply-clause-moments g c = c.multiply.ensures.keeps.moments

pub returns-in-Multiply-clause-goes_on : goal.returns-in-Multiply-clause-goes_on
returns-in-Multiply-clause-goes_on g c = λ same. c.multiply.ensures.goes_on

pub returns-in-Multiply-clause-few : goal.returns-in-Multiply-clause-few
returns-in-Multiply-clause-few g c =
    omega (arith, c.multiply.ensures.few, c.in-Ok.ensures.few, c.fetch.ensures.few)

pub returns-in-Divide-clause-grows : goal.returns-in-Divide-clause-grows
returns-in-Divide-clause-grows g c =
    let grows = c.divide.ensures.grows in
    record {
      retired = grows.retired;
      readings = omega (arith, grows.readings);
      replies = omega (arith, grows.replies);
    }

pub returns-in-Divide-clause-moments : goal.returns-in-Divide-clause-moments
returns-in-Divide-clause-moments g c = c.divide.ensures.keeps.moments

pub returns-in-Divide-clause-goes_on : goal.returns-in-Divide-clause-goes_on
returns-in-Divide-clause-goes_on g c = λ same. c.divide.ensures.goes_on

pub returns-in-Divide-clause-few : goal.returns-in-Divide-clause-few
returns-in-Divide-clause-few g c =
    omega (arith, c.divide.ensures.few, c.in-Ok.ensures.few, c.fetch.ensures.few)

pub translate-requires-clause-leaves : goal.translate-requires-clause-leaves
translate-requires-clause-leaves g c =
    let is = c.requires.runs.stands_in in
    let mem = c.requires.runs.state.storage.mem in
    record {
      mem = mem;
      holds = is.facts.holds;
      so =
          subst (λ (n : ℕ). KeepsLeaves mem c.args.memory.now.frames n c.args.core.now.tlb)
          (sym c.root-root.ensures.value) is.leaves;
    }

pub call-requires-clause-valid : goal.call-requires-clause-valid
call-requires-clause-valid g c = record {
  estate = estate c.requires.runs.setting.machine c.requires.runs.setting.own;
  mem = c.requires.runs.state.storage.mem;
  facts = c.requires.runs.stands_in.facts;
}

pub call-requires-clause-clone : goal.call-requires-clause-clone
call-requires-clause-clone g c =
    let is = c.requires.runs.stands_in in
    subst IsLayout (sym is.layout) is.fits.sound.clone

pub call-requires-clause-spent : goal.call-requires-clause-spent
call-requires-clause-spent g c =
    omega (arith, c.requires.spent, c.in-Ok.ensures.few, c.fetch.ensures.few)

pub multiply-requires-clause-rd : goal.multiply-requires-clause-rd
multiply-requires-clause-rd g c = (subst HasRegisters c.in-Multiply.is c.in-Some.ensures.registers).0

pub multiply-requires-clause-rs1 : goal.multiply-requires-clause-rs1
multiply-requires-clause-rs1 g c = (subst HasRegisters c.in-Multiply.is c.in-Some.ensures.registers).1

pub multiply-requires-clause-rs2 : goal.multiply-requires-clause-rs2
multiply-requires-clause-rs2 g c = (subst HasRegisters c.in-Multiply.is c.in-Some.ensures.registers).2

pub multiply-requires-clause-room : goal.multiply-requires-clause-room
multiply-requires-clause-room g c = c.requires.room

pub multiply-requires-clause-spent : goal.multiply-requires-clause-spent
multiply-requires-clause-spent g c =
    omega (arith, c.requires.spent, c.in-Ok.ensures.few, c.fetch.ensures.few)

pub divide-requires-clause-rd : goal.divide-requires-clause-rd
divide-requires-clause-rd g c = (subst HasRegisters c.in-Divide.is c.in-Some.ensures.registers).0

pub divide-requires-clause-rs1 : goal.divide-requires-clause-rs1
divide-requires-clause-rs1 g c = (subst HasRegisters c.in-Divide.is c.in-Some.ensures.registers).1

pub divide-requires-clause-rs2 : goal.divide-requires-clause-rs2
divide-requires-clause-rs2 g c = (subst HasRegisters c.in-Divide.is c.in-Some.ensures.registers).2

pub divide-requires-clause-room : goal.divide-requires-clause-room
divide-requires-clause-room g c = c.requires.room

pub divide-requires-clause-spent : goal.divide-requires-clause-spent
divide-requires-clause-spent g c =
    omega (arith, c.requires.spent, c.in-Ok.ensures.few, c.fetch.ensures.few)

pub execute-requires : goal.execute-requires
execute-requires g c =
    let is = c.requires.runs.stands_in in
    record {
      registers = c.in-Some.ensures.registers;
      room = c.requires.room;
      frames = c.requires.frames;
      leaves = record {
        mem = c.in-Ok.ensures.leaves.mem;
        holds = c.in-Ok.ensures.leaves.holds;
        so =
            subst (λ b. KeepsLeaves c.in-Ok.ensures.leaves.mem c.args.memory.now.frames c.root-root.result b)
            (sym c.fetch.ensures.buffer) c.in-Ok.ensures.leaves.so;
      };
      spent = omega (arith, c.requires.spent, c.in-Ok.ensures.few, c.fetch.ensures.few);
    }

pub translate-requires-clause-frames : goal.translate-requires-clause-frames
translate-requires-clause-frames g c = c.requires.frames

pub translate-requires-clause-spent : goal.translate-requires-clause-spent
translate-requires-clause-spent g c = omega (arith, c.requires.spent)

pub overflow_add-spent : goal.overflow_add-spent
overflow_add-spent g c = omega (arith, c.requires.spent, c.in-Ok.ensures.few, c.fetch.ensures.few)

pub returns-in-Err-clause-frames : goal.returns-in-Err-clause-frames
returns-in-Err-clause-frames g c = refl

pub returns-in_default-clause-frames : goal.returns-in_default-clause-frames
returns-in_default-clause-frames g c = refl

pub returns-in-Multiply-clause-frames : goal.returns-in-Multiply-clause-frames
returns-in-Multiply-clause-frames g c = refl

pub returns-in-Divide-clause-frames : goal.returns-in-Divide-clause-frames
returns-in-Divide-clause-frames g c = refl

pub call-requires-clause-frames : goal.call-requires-clause-frames
call-requires-clause-frames g c = c.requires.frames

pub call-requires-clause-ready : goal.call-requires-clause-ready
call-requires-clause-ready g c = c.requires.ready

pub call-requires-clause-replies : goal.call-requires-clause-replies
call-requires-clause-replies g c = c.requires.room.replies

use Rattle.std.proofs.Common.{◌≡◌, true, false, length, refl, sym, ◌∙◌, arith}
use Rattle.call_table.specs.Calls.{empties, number_made}
use Rattle.call_table.specs.Mail.{called}
use Rattle.kernel_call.specs.Models.{dom_model}
use Rattle.world_view.specs.Kernel.{estate}
use Rattle.domain_step.proofs.Calls.{with_boxes, called_still, called_emptied}
use Rattle.mem_system.specs.Contents.{system}
use Rattle.domain_step.proofs.instruction.call.Goals as goal

pub returns-then-not-empties_buffer-clause-leaves : goal.returns-then-not-empties_buffer-clause-leaves
returns-then-not-empties_buffer-clause-leaves g c w s r readings replies k h q =
    let old = c.args.domain.now in
    let new = c.answer-outcome.new in
    let e = estate w.machine w.own in
    let d = dom_model old readings replies in
    let has =
    with_boxes e d new.memory c.args.mail.now new.mail new.domain (number_made e d) (length replies)
    c.answer-outcome.result s k.boxes
    (c.answer-outcome.ensures.calls e readings replies s.mem k.facts h q) in
    let still : empties (called e d s).notes ≡ false =
    sym has.buffer ∙ sym c.empties_buffer.ensures.value ∙ c.if-not-empties_buffer.true in
    called_still g.P.Policy.rule g.P.Policy.stands_for w old new.domain c.args.memory.now new.memory
    c.args.mail.now new.mail (system c.args.core.now c.args.l2.now) c.args.spent readings replies c.answer-outcome.result s r k
    has
    c.answer-outcome.ensures.keeps c.answer-outcome.ensures.frames (system c.charge.new.core c.charge.new.l2)
    _ c.charge.result c.charge.ensures.makes refl c.charge.ensures.buffer still

pub returns-clause-leaves : goal.returns-clause-leaves
returns-clause-leaves g c w s r readings replies k h q =
    let old = c.args.domain.now in
    let new = c.answer-outcome.new in
    let e = estate w.machine w.own in
    let d = dom_model old readings replies in
    let has =
    with_boxes e d new.memory c.args.mail.now new.mail new.domain (number_made e d) (length replies)
    c.answer-outcome.result s k.boxes
    (c.answer-outcome.ensures.calls e readings replies s.mem k.facts h q) in
    let emptied : empties (called e d s).notes ≡ true =
    sym has.buffer ∙ sym c.empties_buffer.ensures.value ∙ c.if-not-empties_buffer.false in
    called_emptied g.P.Policy.rule g.P.Policy.stands_for w old new.domain c.args.memory.now new.memory
    c.args.mail.now new.mail (system c.args.core.now c.args.l2.now) c.args.spent readings replies c.answer-outcome.result s r k
    has
    c.answer-outcome.ensures.keeps c.answer-outcome.ensures.frames (system c.charge.new.core c.charge.new.l2)
    _ c.charge.result c.charge.ensures.makes refl
    (system c.empty_tlb.new.self c.charge.new.l2) (c.empty_tlb.ensures.makes c.charge.new.l2) c.empty_tlb.ensures.kept emptied

pub answer-outcome-requires : goal.answer-outcome-requires
answer-outcome-requires g c = record {
  valid = c.requires.valid;
  frames = c.requires.frames;
  ready = c.requires.ready;
  replies = c.requires.replies;
}

pub overflow_add-charged : goal.overflow_add-charged
overflow_add-charged g c = omega (arith, c.requires.spent, c.charge.ensures.few)

pub returns-then-not-empties_buffer-clause-few : goal.returns-then-not-empties_buffer-clause-few
returns-then-not-empties_buffer-clause-few g c = omega (arith, c.charge.ensures.few)

pub returns-clause-few : goal.returns-clause-few
returns-clause-few g c = omega (arith, c.charge.ensures.few)

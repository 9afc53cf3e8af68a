use Rattle.std.proofs.Common.{arith, ◌≡◌, true, ◌∙◌, ap, sym, subst, ℕ, length, Some, [], None}
use Rattle.std.specs.Prelude.{slice_index}
use Rattle.kernel_clone.specs.Footprints.{WorkDone}
use Rattle.kernel_clone.specs.Permissions.{is_call, permitted, may_make}
use Rattle.call_table.specs.Calls.{op_of, empties_buffer}
use Rattle.call_table.proofs.BoundedWork.{call_of_empties}
use Rattle.kernel_call.specs.declared.error.CallError.TheVariants as error
use Rattle.kernel_call.specs.Models.{dom_model}
use Rattle.kernel_call.specs.Calls.{Calls}
use Rattle.kernel_call.proofs.TiesCalls.{facts_still, called_answered, own_op, bad_op, same_buffer}
use Rattle.kernel_call.proofs.TiesThreads.{answered_refused, bad_call}
use Rattle.kernel_call.proofs.calls.call_on_memory.Goals as goal

pub returns-in-Some-clause-calls : goal.returns-in-Some-clause-calls
returns-in-Some-clause-calls c =
    subst (λ (n : ℕ). Calls n c.args.args c.make.result c.args.memory.now c.args.domain.now c.make.new.memory c.make.new.domain)
    c.in-Some.ensures.number c.make.ensures.calls

pub returns-in-Some-clause-operation : goal.returns-in-Some-clause-operation
returns-in-Some-clause-operation c = c.make.ensures.operation ∙ sym (own_op c.in-Some.call) ∙ ap op_of c.in-Some.ensures.number

pub returns-in-Some-clause-buffer : goal.returns-in-Some-clause-buffer
returns-in-Some-clause-buffer c =
    ap (λ (op : ℕ). empties_buffer op c.make.result.reply) (c.make.ensures.operation ∙ c.in-Some.ensures.number)

pub returns-in-None-clause-calls : goal.returns-in-None-clause-calls
returns-in-None-clause-calls c e readings replies m h logged kept =
    let d = dom_model c.args.domain.now readings replies in
    called_answered (permitted c.args.domain.now.calls c.args.number) e c.reply_to.new.domain
    c.args.memory.now m (length replies) (Some c.reply_to.result) c.plain.result _
    (answered_refused m (length replies) c.reply_to.new.domain _ d error.BadCall c.reply.result c.reply_to.result
    (bad_call e d m (permitted c.args.domain.now.calls c.args.number) (slice_index c.args.args 0)
    (slice_index c.args.args 1) (slice_index c.args.args 2) c.in-None.ensures.none)
    (omega arith) c.reply.ensures.value c.reply_to.ensures.reply (c.reply_to.ensures.becomes readings replies logged kept))
    (facts_still e c.args.memory.now m c.args.domain.now c.reply_to.new.domain h
    c.reply_to.ensures.keeps.map c.reply_to.ensures.keeps.calls c.reply_to.ensures.keeps.number c.reply_to.ensures.pool c.reply_to.ensures.caps)
    (c.plain.ensures.work
    ∙ ap (λ (op : ℕ). record { op = op; zeroed = None; entries = [] })
    (sym (bad_op (permitted c.args.domain.now.calls c.args.number) c.in-None.ensures.none)))
    (call_of_empties e d m (permitted c.args.domain.now.calls c.args.number) (slice_index c.args.args 0)
    (slice_index c.args.args 1) (slice_index c.args.args 2))

pub returns-in-None-clause-operation : goal.returns-in-None-clause-operation
returns-in-None-clause-operation c =
    ap (λ (w : WorkDone). w.op) c.plain.ensures.work ∙ sym (bad_op (permitted c.args.domain.now.calls c.args.number) c.in-None.ensures.none)

pub returns-in-None-clause-buffer : goal.returns-in-None-clause-buffer
returns-in-None-clause-buffer c =
    same_buffer (permitted c.args.domain.now.calls c.args.number) c.plain.result.op (Some c.reply_to.result)
    (ap (λ (w : WorkDone). w.op) c.plain.ensures.work
    ∙ sym (bad_op (permitted c.args.domain.now.calls c.args.number) c.in-None.ensures.none))

pub returns-in-Some-clause-permitted : goal.returns-in-Some-clause-permitted
returns-in-Some-clause-permitted c = λ below.
    subst (λ (op : ℕ). may_make c.args.domain.now.calls op ≡ true) (sym c.make.ensures.operation) c.in-Some.ensures.allowed

pub returns-in-None-clause-permitted : goal.returns-in-None-clause-permitted
returns-in-None-clause-permitted c = λ is.
    let none = sym (ap is_call (ap (λ (w : WorkDone). w.op) c.plain.ensures.work)) ∙ is in absurd (cc none)

use Rattle.std.proofs.Common.{rules, arith, ◌≡◌, ◌%◌, ◌∙◌, ℕ, true, false, length, ap, ap₂, sym}
use Rattle.std.specs.Prelude.{nat_eq}
use Rattle.thread_set.specs.Threads.{Threads}
use Rattle.call_table.specs.Domain.{Dom, done, replied, with_spawned}
use Rattle.call_table.specs.declared.Reply.{Reply}
use Rattle.kernel_call.specs.declared.error.CallError.TheVariants as error
use Rattle.kernel_call.specs.Models.{dom_model}
use Rattle.kernel_call.proofs.TiesThreads.{spawn_unaligned, spawn_full, spawn_done, stands_as, answered_refused, answered_done}
use Rattle.kernel_call.proofs.threads.spawn.Goals as goal

pub returns-then-not-is_multiple_of-clause-answers : goal.returns-then-not-is_multiple_of-clause-answers
returns-then-not-is_multiple_of-clause-answers c e readings replies m logged kept =
    let d : Dom = dom_model c.args.domain.now readings replies in
    let bad : nat_eq (c.args.a % 4) 0 ≡ false = search rules in
    answered_refused m (length replies) c.reply_to.new.domain _ d error.BadAddress c.reply.result c.reply_to.result
    (spawn_unaligned d c.args.a c.args.b m bad)
    (omega arith) c.reply.ensures.value c.reply_to.ensures.reply (c.reply_to.ensures.becomes readings replies logged kept)

pub returns-in-Some-clause-answers : goal.returns-in-Some-clause-answers
unfolding with_spawned
returns-in-Some-clause-answers c e readings replies m logged kept =
    let d : Dom = dom_model c.args.domain.now readings replies in
    let aligned : nat_eq (c.args.a % 4) 0 ≡ true = search rules in
    answered_done m (length replies) c.reply_to-in-Some.new.domain _ (with_spawned c.args.a c.args.b d)
    c.in-Some.t c.reply_to-in-Some.result
    (spawn_done d c.args.a c.args.b m c.in-Some.t aligned (sym c.spawn.ensures.number ∙ c.in-Some.is))
    (omega arith) (c.reply_to-in-Some.ensures.reply ∙ ap (λ (n : ℕ). record { code = 0; value = n }) c.from-value.ensures)
    (stands_as c.reply_to-in-Some.new.domain _ (done c.in-Some.t (with_spawned c.args.a c.args.b d))
    (ap₂ (λ (n : ℕ) (ts : Threads). done n (record d { threads = ts })) c.from-value.ensures c.spawn.ensures.spawned)
    (c.reply_to-in-Some.ensures.becomes readings replies logged kept))

pub returns-in-None-clause-answers : goal.returns-in-None-clause-answers
returns-in-None-clause-answers c e readings replies m logged kept =
    let d : Dom = dom_model c.args.domain.now readings replies in
    let aligned : nat_eq (c.args.a % 4) 0 ≡ true = search rules in
    let given : Reply = c.reply-in-None.result in
    answered_refused m (length replies) c.reply_to-in-None.new.domain _ d error.NoThread given c.reply_to-in-None.result
    (spawn_full d c.args.a c.args.b m aligned (sym c.spawn.ensures.number ∙ c.in-None.is))
    (omega arith) c.reply-in-None.ensures.value c.reply_to-in-None.ensures.reply
    (stands_as c.reply_to-in-None.new.domain _ (replied given.code given.value d)
    (ap (λ (ts : Threads). replied given.code given.value (record d { threads = ts })) c.in-None.ensures.unchanged)
    (c.reply_to-in-None.ensures.becomes readings replies logged kept))

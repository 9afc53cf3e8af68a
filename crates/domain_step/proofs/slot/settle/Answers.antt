use Rattle.std.proofs.Common.{◌≡◌, Some, None, Ok, Err, sym, ap, subst, ◌∙◌, arith}
use Rattle.rv_core.specs.Effect.{effect_of}
use Rattle.rv_core.specs.declared.Effect.{Effect}
use Rattle.kernel_call.specs.Models.{dom_model}
use Rattle.world_view.specs.Event.{Storage, store, guessed}
use Rattle.mem_system.specs.Translation.{KeepsLeaves}
use Rattle.mem_system.specs.Cost.{Touched}
use Rattle.domain_step.specs.Kept.{Kept}
use Rattle.domain_step.specs.Moves.{Yields, Answered}
use Rattle.domain_step.proofs.Points.{Point}
use Rattle.domain_step.proofs.Instructions.{settle_trapped, settle_faulted, settle_finished, trapped_same, finished_same, faulted_keeps}
use Rattle.mem_system.specs.Contents.{system}
use Rattle.domain_step.proofs.slot.settle.Goals as goal

pub store-requires-clause-leaves : goal.store-requires-clause-leaves
store-requires-clause-leaves g c =
    let kept = c.requires.leaves in
    record {
      mem = kept.mem;
      holds = kept.holds;
      so =
          subst (λ b. KeepsLeaves kept.mem c.args.memory.now.frames c.args.begun.now.root b)
          (sym c.guess.ensures.buffer) kept.so;
    }

pub store-requires-clause-spent : goal.store-requires-clause-spent
store-requires-clause-spent g c = omega (arith, c.requires.spent, c.guess.ensures.few)

pub returns-in-Some-clause-leaves : goal.returns-in-Some-clause-leaves
returns-in-Some-clause-leaves g c w s r readings replies k h q =
    let old = c.args.domain.now in
    let d = dom_model old readings replies in
    let p : Point =
    record { setting = w; clock = 0; root = c.args.begun.now.root; dom = d; storage = s; reached = r } in
    let K = Kept g.P.Policy.rule g.P.Policy.stands_for w old.caps p.root in
    let trap = c.in-Some.trap in
    let out = effect_of old.threads.active.regs old.threads.active.pc c.args.begun.now.instr c.args.value in
    let same : c.execute-effect.result ≡ out.effect = c.execute-effect.ensures.effect in
    let traps : out.effect.trap ≡ Some trap =
    ap (λ (e : Effect). e.trap) (sym same) ∙ c.in-Some.is in
    let nothing = rw c.in-Some.is at c.execute-effect.ensures.trap in
    let stopped = c.stop.ensures.becomes readings replies h q in
    settle_trapped p (K c.args.memory.now (system c.args.core.now c.args.l2.now) c.args.spent.now) c.args.begun.now.instr
    c.args.value out
    c.stop.new.domain k trap traps
    (trapped_same c.stop.new.domain trap d c.execute-effect.new.regs nothing.regs stopped)

pub returns-in-Ok-clause-leaves : goal.returns-in-Ok-clause-leaves
returns-in-Ok-clause-leaves g c w s r readings replies k h q =
    let old = c.args.domain.now in
    let d = dom_model old readings replies in
    let p : Point =
    record { setting = w; clock = 0; root = c.args.begun.now.root; dom = d; storage = s; reached = r } in
    let K = Kept g.P.Policy.rule g.P.Policy.stands_for w old.caps p.root in
    let K' = K c.args.memory.now (system c.guess.new.core c.args.l2.now) c.guess.new.spent in
    let K'' = K c.store.new.memory (system c.store.new.core c.store.new.l2) c.store.new.spent in
    let out = effect_of old.threads.active.regs old.threads.active.pc c.args.begun.now.instr c.args.value in
    let same : c.execute-effect.result ≡ out.effect = c.execute-effect.ensures.effect in
    let goes_on : out.effect.trap ≡ None =
    ap (λ (e : Effect). e.trap) (sym same) ∙ c.in_default.is in
    let Guesses : Storage → Touched → Effect → Type 0 = λ t z e.
    Yields w (guessed c.args.begun.now.instr old.threads.active.pc e) t z (Answered d (Ok tt) K') in
    let Stores : Storage → Touched → Effect → Type 0 = λ t z e.
    Yields w (store w.machine c.args.begun.now.root d e.store) t z (Answered d (Ok tt) K'') in
    let finished = c.finish.ensures.becomes readings replies h q in
    settle_finished p (K c.args.memory.now (system c.args.core.now c.args.l2.now) c.args.spent.now) c.args.begun.now.instr
    c.args.value out
    c.finish.new.domain k K' K'' goes_on
    (λ t z n.
    subst (Guesses t z) same (c.guess.ensures.finds w c.args.l2.now old.caps c.args.begun.now.root c.args.memory.now d t z n))
    (λ t z n. subst (Stores t z) same (c.in-Ok.ensures.finds w old.caps d t z n))
    (finished_same c.finish.new.domain out c.execute-effect.result.next c.args.value c.args.begun.now.instr
    c.execute-effect.new.regs d (ap (λ (e : Effect). e.next) same) c.execute-effect.ensures.regs
    finished)

pub returns-in-Err-clause-leaves : goal.returns-in-Err-clause-leaves
returns-in-Err-clause-leaves g c w s r readings replies k h q =
    let old = c.args.domain.now in
    let d = dom_model old readings replies in
    let p : Point =
    record { setting = w; clock = 0; root = c.args.begun.now.root; dom = d; storage = s; reached = r } in
    let K = Kept g.P.Policy.rule g.P.Policy.stands_for w old.caps p.root in
    let K' = K c.args.memory.now (system c.guess.new.core c.args.l2.now) c.guess.new.spent in
    let K'' = K c.store.new.memory (system c.store.new.core c.store.new.l2) c.store.new.spent in
    let trap = c.in-Err.trap in
    let out = effect_of old.threads.active.regs old.threads.active.pc c.args.begun.now.instr c.args.value in
    let same : c.execute-effect.result ≡ out.effect = c.execute-effect.ensures.effect in
    let goes_on : out.effect.trap ≡ None =
    ap (λ (e : Effect). e.trap) (sym same) ∙ c.in_default.is in
    let found = c.guess.ensures.finds w c.args.l2.now old.caps c.args.begun.now.root c.args.memory.now d s r k in
    let kept : out.regs ≡ old.threads.active.regs =
    faulted_keeps w K'' c.args.begun.now.root d c.args.begun.now.instr c.args.value c.execute-effect.result.store
    (ap (λ (e : Effect). e.store) (sym same))
    (c.in-Err.ensures.finds w old.caps d _ _ found.met.kept) in
    let Guesses : Storage → Touched → Effect → Type 0 = λ t z e.
    Yields w (guessed c.args.begun.now.instr old.threads.active.pc e) t z (Answered d (Ok tt) K') in
    let Stores : Storage → Touched → Effect → Type 0 = λ t z e.
    Yields w (store w.machine c.args.begun.now.root d e.store) t z (Answered d (Err trap) K'') in
    let unwritten : c.execute-effect.new.regs ≡ old.threads.active.regs = c.execute-effect.ensures.regs ∙ kept in
    let stopped = c.stop-in-Err.ensures.becomes readings replies h q in
    settle_faulted p (K c.args.memory.now (system c.args.core.now c.args.l2.now) c.args.spent.now) c.args.begun.now.instr
    c.args.value out
    c.stop-in-Err.new.domain k K' K'' goes_on
    (λ t z n.
    subst (Guesses t z) same (c.guess.ensures.finds w c.args.l2.now old.caps c.args.begun.now.root c.args.memory.now d t z n))
    trap (λ t z n. subst (Stores t z) same (c.in-Err.ensures.finds w old.caps d t z n))
    (trapped_same c.stop-in-Err.new.domain trap d c.execute-effect.new.regs unwritten stopped)

pub guess-requires : goal.guess-requires
guess-requires g c = record { spent = omega (arith, c.requires.spent) }

pub store-requires-clause-frames : goal.store-requires-clause-frames
store-requires-clause-frames g c = c.requires.frames

pub returns-in-Ok-clause-few : goal.returns-in-Ok-clause-few
returns-in-Ok-clause-few g c = omega (arith, c.guess.ensures.few, c.in-Ok.ensures.few)

pub returns-in-Err-clause-few : goal.returns-in-Err-clause-few
returns-in-Err-clause-few g c = omega (arith, c.guess.ensures.few, c.in-Err.ensures.few)

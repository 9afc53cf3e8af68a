use Rattle.std.proofs.Common.{IfSome, refl, subst, arith}
use Rattle.std.proofs.lemmas.Result.{err_from_is_err_and}
use Rattle.rv_core.specs.Effect.{IsStore}
use Rattle.domain_step.specs.Kept.{Kept}
use Rattle.domain_step.proofs.Accesses.{store_aligned, store_none, store_faulted, store_made}
use Rattle.mem_system.specs.Contents.{system}
use Rattle.domain_step.proofs.access.store.Goals as goal

pub line_of-line-requires : goal.line_of-line-requires
line_of-line-requires g c = omega (arith, c.in_ok-at.ensures.within, c.requires.frames)

pub overflow_add-spent : goal.overflow_add-spent
overflow_add-spent g c = omega (arith, c.requires.spent, c.in_ok-at.ensures.few, c.access.ensures.few)

pub write-requires : goal.write-requires
write-requires g c =
    let is : IsStore c.in-Some.made = subst (λ s. IfSome s IsStore) c.in-Some.is c.requires.store in
    record {
      within = c.in_ok-at.ensures.within;
      size = is.size;
      aligned =
          store_aligned c.in-Some.made.size c.in_ok-at.at c.in-Some.made.at is.size
          c.in_ok-at.ensures.place is.aligned;
      cut = is.cut;
    }

pub returns-in_default-clause-finds : goal.returns-in_default-clause-finds
returns-in_default-clause-finds g c w caps d s r k =
    rw c.in_default.is (store_none g.P.Policy.rule g.P.Policy.stands_for w caps c.args.root c.args.memory.now d s r
    (Kept g.P.Policy.rule g.P.Policy.stands_for w caps c.args.root c.args.memory.now
    (system c.args.core.now c.args.l2.now) c.args.spent.now) k)

pub returns-in_err-at-clause-finds : goal.returns-in_err-at-clause-finds
returns-in_err-at-clause-finds g c w caps d s r k =
    let e = err_from_is_err_and c.from_residual.result c.from_residual.ensures.1 in
    rw (e.1, e.2, c.in-Some.is) (store_faulted g.P.Policy.rule g.P.Policy.stands_for w caps c.args.root c.args.memory.now d s r
    (Kept g.P.Policy.rule g.P.Policy.stands_for w caps c.args.root c.args.memory.now
    (system c.translate.new.core c.translate.new.l2) c.translate.new.spent)
    c.in-Some.made c.in_err-at.field-0.0 (c.in_err-at.ensures.finds w caps d s r k))

pub returns-clause-finds : goal.returns-clause-finds
returns-clause-finds g c w caps d s r k =
    rw c.in-Some.is (store_made g.P.Policy.rule g.P.Policy.stands_for w caps c.args.root c.args.memory.now d s r
    c.in-Some.made c.in_ok-at.at c.line_of-line.result c.translate.new.spent _ c.access.result
    (system c.translate.new.core c.translate.new.l2) (system c.access.new.self c.access.new.l2)
    c.write.new.memory
    (c.in_ok-at.ensures.finds w caps d s r k) c.in_ok-at.ensures.place c.line_of-line.ensures.line
    c.access.ensures.makes c.access.ensures.buffer refl c.write.ensures.frames c.write.ensures.holds)

pub returns-clause-few : goal.returns-clause-few
returns-clause-few g c = omega (arith, c.in_ok-at.ensures.few, c.access.ensures.few)

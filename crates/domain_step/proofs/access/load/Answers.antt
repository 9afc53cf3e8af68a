use Rattle.std.proofs.Common.{refl, sym, subst, arith}
use Rattle.std.proofs.lemmas.Result.{err_from_is_err_and}
use Rattle.mem_system.specs.Translation.{KeepsLeaves}
use Rattle.domain_step.specs.Kept.{Kept}
use Rattle.domain_step.proofs.Accesses.{load_aligned, load_faulted, load_found}
use Rattle.mem_system.specs.Contents.{system}
use Rattle.domain_step.proofs.access.load.Goals as goal

pub line_of-line-requires : goal.line_of-line-requires
line_of-line-requires g c = omega (arith, c.in_ok-at.ensures.within, c.requires.frames)

pub overflow_add-spent : goal.overflow_add-spent
overflow_add-spent g c = omega (arith, c.requires.spent, c.in_ok-at.ensures.few, c.access.ensures.few)

pub read-requires : goal.read-requires
read-requires g c = record {
  within = c.in_ok-at.ensures.within;
  aligned = load_aligned c.args.width c.in_ok-at.at c.args.va c.in_ok-at.ensures.place c.requires.aligned;
}

pub returns-in_err-at-clause-finds : goal.returns-in_err-at-clause-finds
returns-in_err-at-clause-finds g c w caps d s r k =
    let e = err_from_is_err_and c.from_residual.result c.from_residual.ensures.1 in
    rw (e.1, e.2) (load_faulted g.P.Policy.rule g.P.Policy.stands_for w caps c.args.root c.args.memory.now d s r
    (Kept g.P.Policy.rule g.P.Policy.stands_for w caps c.args.root c.args.memory.now
    (system c.translate.new.core c.translate.new.l2) c.translate.new.spent)
    c.args.width c.args.va c.in_err-at.field-0.0 (c.in_err-at.ensures.finds w caps d s r k))

pub returns-clause-finds : goal.returns-clause-finds
returns-clause-finds g c w caps d s r k =
    load_found g.P.Policy.rule g.P.Policy.stands_for w caps c.args.root c.args.memory.now d s r
    c.args.width c.args.va c.read.result c.in_ok-at.at c.line_of-line.result c.translate.new.spent _
    c.access.result (system c.translate.new.core c.translate.new.l2)
    (system c.access.new.self c.access.new.l2)
    (c.in_ok-at.ensures.finds w caps d s r k) c.in_ok-at.ensures.place c.line_of-line.ensures.line
    c.access.ensures.makes c.access.ensures.buffer refl c.read.ensures.value

pub returns-clause-leaves : goal.returns-clause-leaves
returns-clause-leaves g c =
    let kept = c.in_ok-at.ensures.leaves in
    record {
      mem = kept.mem;
      holds = kept.holds;
      so =
          subst (λ b. KeepsLeaves kept.mem c.args.memory.now.frames c.args.root b)
          (sym c.access.ensures.buffer) kept.so;
    }

pub returns-clause-few : goal.returns-clause-few
returns-clause-few g c = omega (arith, c.in_ok-at.ensures.few, c.access.ensures.few)

-- One domain after the other.
use Rattle.std.proofs.Common.{◌≡◌, ◌∙◌, ◌+◌, ◌<◌, ◌≤◌, ℕ, List, length, Some, refl, arith}
use Rattle.std.specs.Prelude.{slice_get, slice_index_or}
use Rattle.std.proofs.lemmas.List.{length-set}
use Rattle.std.proofs.lemmas.Option.{slice_get-get_or, slice_get_within}
use Rattle.kernel_clone.specs.declared.CloneLayout.{CloneLayout}
use Rattle.kernel_call.specs.declared.domain.Domain.{Domain}
use Rattle.hart_set.specs.Clones.{HasClone}
use Rattle.domain_step.proofs.Elements.{each_set}
use Rattle.hart_set.proofs.off.give_clone.Goals as goal

pub loop-d-preserved : goal.loop-d-preserved
loop-d-preserved c =
    let old : List Domain = c.args.domains.now in
    let now : List Domain = c.loop-d.domains in
    let d : ℕ = c.loop-d.d in
    let inv = c.loop-d.invariant in
    let layout : CloneLayout = c.args.layout.now in
    let within : d < length now = omega (arith, c.loop-d-test.true, inv.same) in
    let z : Domain = slice_index_or now d c.index-domains-d.result in
    let got = slice_get-get_or now d c.index-domains-d.result within in
    record {
      same = length-set now d _ ∙ inv.same;
      done =
          each_set (λ e x. slice_get now e ≡ Some x)
          (λ e x. e < d + 1 → (y : Domain) × (slice_get old e ≡ Some y) × HasClone layout y x) now d _
          within
          (λ below. (
            z,
            inv.rest d z got (omega arith),
            record {
              layout_is = refl;
              status = refl;
              threads = refl;
              caps = refl;
              interrupts = refl;
              map = refl;
              pool = refl;
              calls = refl;
              number = refl;
              retired = refl;
              readings = refl;
              replies = refl;
              printed = refl;
            },
          ))
          (λ e x apart was below. inv.done e x was (omega (arith, below, apart))) (λ e x was. was);
      rest =
          each_set (λ e x. slice_get now e ≡ Some x) (λ e x. d + 1 ≤ e → slice_get old e ≡ Some x) now d _
          within
          (λ above. absurd (omega (arith, above)))
          (λ e x apart was above. inv.rest e x was (omega (arith, above))) (λ e x was. was);
    }

pub returns : goal.returns
returns c =
    let inv = c.loop-d.invariant in
    record {
      given = record {
        same = inv.same;
        each =
            λ e x got. inv.done e x got (omega (
              arith,
              slice_get_within c.loop-d.domains e x got,
              inv.same,
              c.loop-d-test.false,
            ));
      };
    }

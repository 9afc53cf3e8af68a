use Rattle.std.proofs.Common.{refl}
use Rattle.image_check.proofs.Kept.{first_handed}
use Rattle.image_check.proofs.parts.own_parts.Goals as goal

pub returns-in_err-k16-clause-refused : goal.returns-in_err-k16-clause-refused
returns-in_err-k16-clause-refused c =
    first_handed c.from_residual-in_err-k16.result _ _ c.from_residual-in_err-k16.ensures.1
    (rw (
      c.in_ok-segments.ensures.verdict,
      c.in_ok-caps.ensures.verdict,
      c.in_ok-lines.ensures.verdict,
      c.in_ok-moments.ensures.verdict,
      c.in_err-k16.ensures.verdict,
    ) refl)

pub returns-clause-accepted : goal.returns-clause-accepted
returns-clause-accepted c =
    rw (
      c.in_ok-segments.ensures.verdict,
      c.in_ok-caps.ensures.verdict,
      c.in_ok-lines.ensures.verdict,
      c.in_ok-moments.ensures.verdict,
      c.in_ok-k16.ensures.verdict,
    ) refl

pub returns-clause-parts : goal.returns-clause-parts
returns-clause-parts c = record {
  colours = c.requires.colours;
  segments = c.in_ok-segments.ensures.value;
  caps = c.in_ok-caps.ensures.value;
  lines = c.in_ok-lines.ensures.value;
  moments = c.in_ok-moments.ensures.value;
  calls = c.in_ok-calls.ensures.value;
}

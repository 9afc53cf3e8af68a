use Rattle.std.proofs.Common.{refl, arith}
use Rattle.domain_step.proofs.slot.stretch.Goals as goal

pub run_until-requires : goal.run_until-requires
run_until-requires g c = record {
  frames = c.requires.frames;
  runs = c.requires.runs;
  within = omega arith;
  end = c.requires.end;
  few = c.requires.few;
}

pub returns : goal.returns
returns g c =
    let ran = c.run_until.ensures in
    record {
      becomes = ran.whole refl;
      frames = ran.frames;
      hierarchy = ran.hierarchy;
      pinned = ran.pinned;
      runs = ran.runs;
      few = ran.few;
      over = ran.over;
      soon = ran.soon;
      done = ran.done;
    }

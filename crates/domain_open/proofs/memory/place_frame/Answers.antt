use Rattle.std.proofs.Common.{◌≡◌, ◌<◌, ◌+◌, ◌*◌, refl, sym, subst, rules, arith}
use Rattle.phys_mem.specs.Holds.{Holds}
use Rattle.domain_open.proofs.Loading.{filled, filled-none, filled-more, holds_put}
use Rattle.domain_open.proofs.memory.place_frame.Goals as goal

pub loop-i-init : goal.loop-i-init
loop-i-init g c = record {
  placed = λ m h. subst (Holds c.args.memory.now) (sym (filled-none m c.args.frame (g.W.Words.words c.args.words.now))) h;
  frames = refl;
}

pub loop-i-preserved : goal.loop-i-preserved
loop-i-preserved g c =
    let words = g.W.Words.words c.args.words.now in
    let i = c.loop-i.i in
    let below : i < 1024 = omega arith in
    let at : 4096 * c.number-number.result + 4 * i ≡ 4096 * c.args.frame + 4 * i = omega (arith, c.number-number.ensures.same) in
    record {
      placed = λ m h. subst (Holds c.place_word.new.memory)
          (filled-more m c.args.frame words i (4096 * c.number-number.result + 4 * i) c.word.result at below c.word.ensures.value)
          (c.place_word.ensures.placed (filled m c.args.frame words i) (c.loop-i.invariant.placed m h));
      frames = search rules;
    }

pub returns-clause-placed : goal.returns-clause-placed
returns-clause-placed g c m x h is =
    let end : c.loop-i.i ≡ 1024 = omega arith in
    holds_put c.loop-i.memory m c.args.frame (g.W.Words.words c.args.words.now) x is (rw end at (c.loop-i.invariant.placed m h))

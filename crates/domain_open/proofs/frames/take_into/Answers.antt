use Rattle.std.proofs.Common.{◌≡◌, ℕ, List, [], ◌∷◌, ◌++◌, length, take, drop, refl, sym, ap, subst, ◌∙◌, arith}
use Rattle.std.proofs.lemmas.List.{append-nil, length-append, length-take, length-drop}
use Rattle.frame_colours.specs.Colours.{Share}
use Rattle.domain_open.specs.Placing.{AreZeroed}
use Rattle.domain_open.proofs.Taking.{taken, taken_on, none_zeroed, zeroed_then}
use Rattle.domain_open.proofs.frames.take_into.Goals as goal

pub loop-init : goal.loop-init
loop-init g c = record {
  frames = sym (append-nil c.args.frames.now.items);
  free = refl;
  share = refl;
  room = refl;
  zeroed = none_zeroed c.args.memory.now;
  size = refl;
}

pub loop-preserved : goal.loop-preserved
loop-preserved g c =
    let old = c.args.frames.now.items in
    let all = c.args.pool.now.free in
    let k = c.loop.counter in
    let x = c.take_one.result in
    let more = taken k all x c.take_one.new.pool.free (sym c.loop.invariant.free ∙ c.take_one.ensures.frame) in
    record {
      frames =
          taken_on k all old c.loop.frames.items c.push_reserved.new.self.items x more.so_far
          c.loop.invariant.frames c.push_reserved.ensures.items;
      free = more.left;
      share = c.take_one.ensures.share ∙ c.loop.invariant.share;
      room = c.push_reserved.ensures.capacity ∙ c.loop.invariant.room;
      zeroed = subst (λ (fs : List ℕ). AreZeroed fs c.args.memory.now c.take_one.new.memory) (sym more.so_far)
          (zeroed_then (take k all) (x ∷ []) c.args.memory.now c.loop.memory c.take_one.new.memory
          c.loop.invariant.zeroed c.take_one.ensures.zeroed);
      size = c.take_one.ensures.size ∙ c.loop.invariant.size;
    }

pub take_one-requires : goal.take_one-requires
take_one-requires g c =
    let left = ap (λ (fs : List ℕ). length fs) c.loop.invariant.free in
    record {
      some = omega (arith, left, length-drop c.loop.counter c.args.pool.now.free, c.requires.enough, c.loop-test.true);
      size = omega (arith, ap (λ (s : Share). s.frames) c.loop.invariant.share, c.loop.invariant.size, c.requires.size);
    }

pub push_reserved-requires : goal.push_reserved-requires
push_reserved-requires g c =
    let k = c.loop.counter in
    let old = c.args.frames.now.items in
    let all = c.args.pool.now.free in
    let long = ap (λ (fs : List ℕ). length fs) c.loop.invariant.frames in
    omega (arith, long, length-append old (take k all), length-take k all, c.loop.invariant.room, c.requires.room, c.loop-test.true)

pub loop-smaller : goal.loop-smaller
loop-smaller g c = omega (arith, c.loop-test.true)

pub returns : goal.returns
returns g c =
    let all = c.args.pool.now.free in
    let old = c.args.frames.now.items in
    let end : c.loop.counter ≡ c.args.many = omega arith in
    record {
      frames = c.loop.invariant.frames ∙ ap (λ (k : ℕ). old ++ take k all) end;
      free = c.loop.invariant.free ∙ ap (λ (k : ℕ). drop k all) end;
      share = c.loop.invariant.share;
      room = c.loop.invariant.room;
      zeroed = subst (λ (k : ℕ). AreZeroed (take k all) c.args.memory.now c.loop.memory) end c.loop.invariant.zeroed;
      size = c.loop.invariant.size;
    }

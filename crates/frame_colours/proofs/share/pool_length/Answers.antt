-- A pool's length, from one round and the last frames.
use Rattle.std.proofs.Common.{arith, ◌≡◌, refl, ◌<◌, ◌+◌, ◌*◌, ◌/◌, ◌%◌, ℕ, List, length}
use Rattle.frame_colours.specs.Colours.{pool, share_of, whole_of}
use Rattle.frame_colours.proofs.Rounds.{pool_rounds, pool_most}
use Rattle.frame_colours.proofs.share.pool_length.Goals as goal

sum_is : (frames colours : ℕ) (own : List ℕ) (round rest : ℕ) → 0 < colours
    → round ≡ length (pool (share_of (whole_of colours colours) own))
    → rest ≡ length (pool (share_of (whole_of (frames % colours) colours) own))
    → frames / colours * round + rest ≡ length (pool (share_of (whole_of frames colours) own))
sum_is frames colours own round rest some is_round is_rest = rw (is_round, is_rest) (pool_rounds colours own some frames)

pub overflow_mul-result : goal.overflow_mul-result
overflow_mul-result c =
    let whole =
    sum_is c.args.frames c.args.colours c.args.own.now c.count_each.result
    (length (pool (share_of (whole_of (c.args.frames % c.args.colours) c.args.colours) c.args.own.now)))
    c.requires.some c.count_each.ensures.value refl
    in
    let most = pool_most c.args.colours c.args.own.now c.requires.some c.args.frames in
    omega (arith, whole, most, c.ranges.frames.fits)

pub overflow_add-result : goal.overflow_add-result
overflow_add-result c =
    let whole =
    sum_is c.args.frames c.args.colours c.args.own.now c.count_each.result c.count_each-2.result c.requires.some
    c.count_each.ensures.value c.count_each-2.ensures.value
    in
    let most = pool_most c.args.colours c.args.own.now c.requires.some c.args.frames in
    omega (arith, whole, most, c.ranges.frames.fits)

pub returns : goal.returns
returns c = record {
  value =
      sum_is c.args.frames c.args.colours c.args.own.now c.count_each.result c.count_each-2.result c.requires.some
      c.count_each.ensures.value c.count_each-2.ensures.value;
}

use Rattle.std.proofs.Common.{◌≡◌, subst}
use Rattle.std.specs.Prelude.{IfOk}
use Rattle.frame_colours.specs.Colours.{Whole, Share, whole_of}
use Rattle.frame_colours.specs.FreeList.{all_free}
use Rattle.frame_colours.proofs.Disjoint.{disjoint_by_test}
use Rattle.frame_colours.proofs.Splits.{made_apart}
use Rattle.frame_colours.proofs.laws.two_pools.Goals as goal

pub returns : goal.returns
returns c =
    let whole : Whole = whole_of c.args.frames c.args.colours in
    let pools = c.pools_of.result in
    let first =
    subst (λ (share : Share). IfOk pools (λ p. p.0 ≡ all_free share)) c.in_ok-first.ensures.first c.pools_of.ensures.first in
    let second =
    subst (λ (share : Share). IfOk pools (λ p. p.1 ≡ all_free share)) c.in_ok-first.ensures.second c.pools_of.ensures.second in
    record {
      first = first;
      second = second;
      apart = made_apart whole c.args.first.now c.args.second.now pools (disjoint_by_test _ _ c.requires.disjoint) first second;
    }

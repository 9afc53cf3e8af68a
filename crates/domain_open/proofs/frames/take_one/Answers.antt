use Rattle.std.proofs.Common.{◌≡◌, ℕ, ◌∷◌, List, slice_get, Option, Some, IfSome, sym, ap, ap₂, subst, ◌∙◌, arith}
use Rattle.frame_colours.specs.Colours.{IsOwn}
use Rattle.frame_colours.specs.FreeList.{FreeList}
use Rattle.domain_open.proofs.Taking.{first_is, is_first}
use Rattle.domain_open.proofs.frames.take_one.Goals as goal

pub unwrap-frame-requires : goal.unwrap-frame-requires
unwrap-frame-requires g c = first_is c.args.pool.now.free c.take.result c.requires.some c.take.ensures.value

pub of-requires : goal.of-requires
of-requires g c =
    let own = subst (λ (r : Option ℕ). IfSome r (IsOwn c.args.pool.now.share)) c.unwrap-frame.ensures c.take.ensures.own in
    record { frame = omega (arith, own.below, c.requires.size) }

pub returns : goal.returns
returns g c =
    let free = c.args.pool.now.free in
    let is : slice_get free 0 ≡ Some c.unwrap-frame.result = sym c.take.ensures.value ∙ c.unwrap-frame.ensures in
    record {
      frame = is_first free c.unwrap-frame.result is
          ∙ ap₂ (λ (f : ℕ) (fs : List ℕ). f ∷ fs) (sym c.of.ensures.frame) (sym (ap (λ (l : FreeList). l.free) c.take.ensures.becomes));
      share = ap (λ (l : FreeList). l.share) c.take.ensures.becomes;
      zeroed = c.of.ensures.zeroed;
      size = c.of.ensures.size;
    }

use Rattle.std.proofs.Common.{rules, ◌≡◌, sym, subst, ◌∙◌}
use Rattle.std.specs.Prelude.{reverse}
use Rattle.frame_colours.specs.FreeList.{IsFreeList}
use Rattle.frame_colours.proofs.Pools.{all_free_is_free_list}
use Rattle.frame_colours.proofs.Placed.{of}
use Rattle.frame_colours.proofs.pool.Pool.new.Goals as goal

pub invariant_of-result : goal.invariant_of-result
invariant_of-result c =
    let all : c.in-Ok-reversed.all.items ≡ reverse c.in-Ok.free.items = search rules in (
      subst (λ xs. IsFreeList (of c.share.inside.part xs)) (sym c.in-Ok.ensures.frames)
          (all_free_is_free_list c.share.inside.part),
      c.in-Ok.ensures.room,
      all ∙ c.in-Ok.ensures.frames,
    )

pub returns-clause-sound : goal.returns-clause-sound
returns-clause-sound c = (invariant_of-result c).0

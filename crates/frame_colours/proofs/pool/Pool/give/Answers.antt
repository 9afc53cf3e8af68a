use Rattle.std.proofs.Common.{arith, ◌≡◌, ◌∙◌, sym, subst, ap, ◌<◌, length, false}
use Rattle.std.specs.Prelude.{reverse}
use Rattle.std.proofs.lemmas.List.{length-reverse}
use Rattle.frame_colours.specs.Colours.{IsOwn, has, pool}
use Rattle.frame_colours.specs.FreeList.{FreeList, IsFreeList, is_free, placed}
use Rattle.frame_colours.proofs.Placed.{of, has_room, placed_has_it, placed_has_other, with_frame_is_free_list}
use Rattle.frame_colours.proofs.pool.Pool.give.Goals as goal

pub put-requires-clause-room : goal.put-requires-clause-room
put-requires-clause-room c =
    let own : IsOwn c.self.inside.part c.args.frame =
    subst (λ (list : FreeList). IsOwn list.share c.args.frame) (sym c.self.view_is) c.requires.own in
    let out : has (reverse c.self.inside.free.items) c.args.frame ≡ false =
    subst (λ (list : FreeList). is_free list c.args.frame ≡ false) (sym c.self.view_is) c.requires.out in
    let room : length (reverse c.self.inside.free.items) < length (pool c.self.inside.part) =
    has_room c.self.inside.part (reverse c.self.inside.free.items) c.args.frame c.self.invariant.0 own out in
    let fewer : length c.self.inside.free.items < length (pool c.self.inside.part) =
    omega (arith, length-reverse c.self.inside.free.items) in
    omega (arith, c.self.invariant.1, c.self.inside.free.ok)

pub invariant_of-self : goal.invariant_of-self
invariant_of-self c =
    let own : IsOwn c.self.inside.part c.args.frame =
    subst (λ (list : FreeList). IsOwn list.share c.args.frame) (sym c.self.view_is) c.requires.own in
    let out : has (reverse c.self.inside.free.items) c.args.frame ≡ false =
    subst (λ (list : FreeList). is_free list c.args.frame ≡ false) (sym c.self.view_is) c.requires.out in
    let list : IsFreeList (of c.self.inside.part (placed (reverse c.self.inside.free.items) c.args.frame)) =
    with_frame_is_free_list (of c.self.inside.part (reverse c.self.inside.free.items)) c.args.frame c.self.invariant.0 own out in (
      subst (λ xs. IsFreeList (of c.self.inside.part xs))
          (sym (c.put.ensures.placed ∙ ap (placed (reverse c.self.inside.free.items)) c.number.ensures.number))
          list,
      omega (arith, c.self.invariant.1, c.put.ensures.room),
      c.self.invariant.2,
    )

pub returns-clause-back : goal.returns-clause-back
returns-clause-back c =
    ap (λ xs. has xs c.args.frame)
    (c.put.ensures.placed ∙ ap (placed (reverse c.self.inside.free.items)) c.number.ensures.number)
    ∙ placed_has_it (reverse c.self.inside.free.items) c.args.frame

pub returns-clause-others : goal.returns-clause-others
returns-clause-others c = λ f other.
    ap (λ xs. has xs f)
    (c.put.ensures.placed ∙ ap (placed (reverse c.self.inside.free.items)) c.number.ensures.number)
    ∙ placed_has_other (reverse c.self.inside.free.items) c.args.frame f other
    ∙ ap (λ (list : FreeList). is_free list f) c.self.view_is

pub returns-clause-sound : goal.returns-clause-sound
returns-clause-sound c = (invariant_of-self c).0

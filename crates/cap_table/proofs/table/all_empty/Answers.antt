-- One more place is empty.
use Rattle.std.proofs.Common.{◌≡◌, ◌∙◌, ◌++◌, ◌∷◌, [], ap, arith, length, replicate, None}
use Rattle.std.proofs.lemmas.List.{length-replicate, replicate_more}
use Rattle.cap_table.proofs.table.all_empty.Goals as goal

pub loop-init : goal.loop-init
loop-init g c = (omega arith, c.in_ok-places.ensures.items, c.in_ok-places.ensures.capacity)

pub push_reserved-requires : goal.push_reserved-requires
push_reserved-requires g c =
    let long = ap length c.loop.invariant.1 ∙ length-replicate c.loop.counter None in
    omega (arith, long, c.loop.places.ok.0, c.loop-test.true, c.loop.invariant.2)

pub loop-preserved : goal.loop-preserved
loop-preserved g c = (
  omega (arith, c.loop-test.true),
  c.push_reserved.ensures.items ∙ ap (λ xs. xs ++ None ∷ []) c.loop.invariant.1 ∙ replicate_more c.loop.counter None,
  omega (arith, c.push_reserved.ensures.capacity, c.loop.invariant.2),
)

pub returns : goal.returns
returns g c =
    let end : c.loop.counter ≡ 64 = omega (arith, c.loop-test.false, c.loop.invariant.0) in
    record { empty = c.loop.invariant.1 ∙ ap (λ n. replicate n None) end }

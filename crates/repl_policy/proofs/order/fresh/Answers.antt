use Rattle.std.proofs.Common.{arith, rules, subst, sym, ap, ◌∙◌, ◌≡◌, ℕ, []}
use Rattle.repl_policy.specs.Packed.{pack, unlisted, Packs}
use Rattle.repl_policy.proofs.Packing.{Packs-fresh, room_for_fresh}
use Rattle.repl_policy.proofs.order.fresh.Goals as goal

pub overflow_mul-state : goal.overflow_mul-state
overflow_mul-state c = let room = room_for_fresh c.loop-way.way (omega arith) in search (rules, room)

pub overflow_add-state : goal.overflow_add-state
overflow_add-state c = let room = room_for_fresh c.loop-way.way (omega arith) in search (rules, room)

pub returns : goal.returns
returns c =
    let end : c.loop-way.way ≡ c.args.ways = omega arith in
    let state : pack (unlisted c.args.ways []) ≡ c.loop-way.state =
    ap (λ (n : ℕ). pack (unlisted n [])) (sym end) ∙ sym c.loop-way.invariant in
    record { fresh = subst (λ (s : ℕ). Packs c.args.ways s []) state (Packs-fresh c.args.ways) }

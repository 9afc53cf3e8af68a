use Rattle.std.proofs.Common.{◌≡◌, ◌∙◌, ◌<◌, ◌*◌, ◌^◌, ℕ, false, List, length, replicate, ap, rules}
use Rattle.std.proofs.lemmas.Grind.{common_steps}
use Rattle.std.proofs.lemmas.List.{length-replicate}
use Rattle.set_cache.specs.declared.packed.Entry.{Entry}
use Rattle.set_cache.specs.declared.packed.WrittenState.{WrittenState}
use Rattle.set_cache.specs.Contents.{KeptSet}
use Rattle.set_cache.specs.Packed.{KeptSets, fresh_sets, table_in}
use Rattle.set_cache.proofs.Vectors.{stale-fresh, packed-stale, table-stale}
use Rattle.set_cache.proofs.packed.PackedSets.new.Goals as goal

pub invariant_of-result : goal.invariant_of-result
invariant_of-result c =
    let unwritten : Entry = record { number = 0; dirty = false; epoch = 0 } in
    let unwritten_state : WrittenState = record { state = 0; epoch = 0 } in
    let entries : c.in_ok-entries.entries.items ≡ replicate (c.args.sets * c.args.ways) unwritten =
    search (rules, common_steps) in
    let states : c.in_ok-states.states.items ≡ replicate c.args.sets unwritten_state =
    search (rules, common_steps) in
    let count : length (replicate c.args.sets unwritten_state) ≡ c.args.sets =
    length-replicate c.args.sets unwritten_state in
    let small : length (replicate c.args.sets unwritten_state) * c.args.ways < 2 ^ 32 =
    rw count c.requires.small in
    let stale = stale-fresh c.args.sets c.args.ways c.args.epoch c.requires.counts in
    rw (entries, states)
    (packed-stale c.args.ways c.args.epoch c.args.fresh _ _ stale small c.requires.counts)

pub returns : goal.returns
returns c =
    let unwritten : Entry = record { number = 0; dirty = false; epoch = 0 } in
    let unwritten_state : WrittenState = record { state = 0; epoch = 0 } in
    let entries : c.in_ok-entries.entries.items ≡ replicate (c.args.sets * c.args.ways) unwritten =
    search (rules, common_steps) in
    let states : c.in_ok-states.states.items ≡ replicate c.args.sets unwritten_state =
    search (rules, common_steps) in
    let count : length (replicate c.args.sets unwritten_state) ≡ c.args.sets =
    length-replicate c.args.sets unwritten_state in
    let stale = stale-fresh c.args.sets c.args.ways c.args.epoch c.requires.counts in
    let is : table_in c.args.ways c.args.epoch c.args.fresh
    (replicate (c.args.sets * c.args.ways) unwritten) (replicate c.args.sets unwritten_state)
    ≡ (fresh_sets c.args.sets c.args.ways c.args.epoch c.args.fresh).table =
    table-stale c.args.ways c.args.epoch c.args.fresh _ _ stale
    ∙ ap (λ (n : ℕ). (fresh_sets n c.args.ways c.args.epoch c.args.fresh).table) count in
    let of : List KeptSet → KeptSets =
    λ sets. record { ways = c.args.ways; epoch = c.args.epoch; fresh = c.args.fresh; table = sets } in
    record { made = rw (entries, states) (ap of is) }

use Rattle.std.proofs.Common.{rules, ◌≡◌, ◌∙◌, ap, ℕ, ◌-◌, ◌<◌, ◌≤◌, length}
use Rattle.std.specs.Prelude.{reverse, slice_index}
use Rattle.std.specs.List.{insert}
use Rattle.frame_colours.proofs.Placed.{reverse-insert}
use Rattle.frame_colours.proofs.pool.put.Goals as goal

pub returns-clause-placed : goal.returns-clause-placed
returns-clause-placed c =
    let items : c.insert.new.self.items ≡ insert c.args.numbers.now.items c.place_in-place.result c.args.number = search rules in
    let within : c.place_in-place.result ≤ length c.args.numbers.now.items = search rules in
    let after : (k : ℕ) → c.place_in-place.result ≤ k → k < length c.args.numbers.now.items
    → slice_index c.args.numbers.now.items k < c.args.number =
    search rules in
    let before : 0 < c.place_in-place.result
    → c.args.number ≤ slice_index c.args.numbers.now.items (c.place_in-place.result - 1) =
    search rules in
    ap reverse items ∙ reverse-insert c.args.numbers.now.items c.args.number c.place_in-place.result within after before c.requires.out

use Rattle.std.proofs.Common.{◌≡◌, ◌<◌, ◌≤◌, length, ◌++◌, ◌∷◌, [], rules}
use Rattle.kernel_call.proofs.Logs.{kept_more, kept_full}
use Rattle.kernel_call.proofs.log.keep.Goals as goal

pub returns-then-len-ge-KEPT-clause-first : goal.returns-then-len-ge-KEPT-clause-first
returns-then-len-ge-KEPT-clause-first g c all e =
    let full : 256 ≤ length c.args.first.now.items = search rules in
    kept_full 256 _ all c.args.item e full

pub returns-clause-first : goal.returns-clause-first
returns-clause-first g c all e =
    let grown : c.push.new.self.items ≡ c.args.first.now.items ++ c.args.item ∷ [] = search rules in
    let below : length c.args.first.now.items < 256 = search rules in
    kept_more 256 _ _ all c.args.item e below grown

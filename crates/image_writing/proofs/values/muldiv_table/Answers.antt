use Rattle.std.proofs.Common.{◌≡◌, ap}
use Rattle.toml.specs.Data.{integer, no_members}
use Rattle.toml.specs.View.{table_view, members_view}
use Rattle.image_writing.specs.Data.{muldiv_members}
use Rattle.image_writing.proofs.values.muldiv_table.Goals as goal

pub returns : goal.returns
unfolding muldiv_members
returns c =
    let it = c.args.costs.now in
    let none : table_view c.new.result ≡ no_members = ap members_view c.new.ensures.empty in
    let mul_put = c.put-mul.ensures.put no_members (integer it.mul) none c.value.ensures.value in
    record { made = c.put.ensures.put _ (integer it.div) mul_put c.value-2.ensures.value }

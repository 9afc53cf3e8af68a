use Rattle.std.proofs.Common.{◌≡◌, ap}
use Rattle.toml.specs.Data.{integer, no_members}
use Rattle.toml.specs.View.{table_view, members_view}
use Rattle.image_writing.specs.Data.{mailbox_members}
use Rattle.image_writing.proofs.values.mailbox_table.Goals as goal

pub returns : goal.returns
unfolding mailbox_members
returns c =
    let it = c.args.mailbox.now in
    let none : table_view c.new.result ≡ no_members = ap members_view c.new.ensures.empty in
    let to_put = c.put-to.ensures.put no_members (integer it.to) none c.value.ensures.value in
    record { made = c.put.ensures.put _ (integer it.from) to_put c.value-2.ensures.value }

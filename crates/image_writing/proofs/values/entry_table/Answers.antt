use Rattle.std.proofs.Common.{◌≡◌, ap}
use Rattle.toml.specs.Data.{integer, no_members}
use Rattle.toml.specs.View.{table_view, members_view}
use Rattle.image_writing.specs.Data.{entry_members}
use Rattle.image_writing.proofs.values.entry_table.Goals as goal

pub returns : goal.returns
unfolding entry_members
returns c =
    let it = c.args.entry.now in
    let none : table_view c.new.result ≡ no_members = ap members_view c.new.ensures.empty in
    let pad_put = c.put-pad.ensures.put no_members (integer it.pad) none c.value.ensures.value in
    let length_put = c.put-length.ensures.put _ (integer it.length) pad_put c.value-2.ensures.value in
    let hart_put = c.put-hart.ensures.put _ (integer it.hart) length_put c.value-3.ensures.value in
    record { made = c.put.ensures.put _ (integer it.domain) hart_put c.value-4.ensures.value }

use Rattle.std.proofs.Common.{◌≡◌, string_bytes, ap}
use Rattle.toml.specs.Data.{string, integer, no_members}
use Rattle.toml.specs.View.{table_view, members_view}
use Rattle.image_writing.specs.Data.{cache_members}
use Rattle.image_writing.proofs.values.cache_table.Goals as goal

pub returns : goal.returns
unfolding cache_members
returns c =
    let it = c.args.cache.now in
    let none : table_view c.new.result ≡ no_members = ap members_view c.new.ensures.empty in
    let ways_put = c.put-ways.ensures.put no_members (integer it.ways) none c.value.ensures.value in
    let sets_put = c.put-sets.ensures.put _ (integer it.sets) ways_put c.value-2.ensures.value in
    record { made = c.put.ensures.put _ (string (string_bytes it.policy)) sets_put c.value-3.ensures.value }

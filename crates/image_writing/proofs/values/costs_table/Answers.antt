use Rattle.std.proofs.Common.{◌≡◌, ap}
use Rattle.toml.specs.Data.{integer, no_members}
use Rattle.toml.specs.View.{table_view, members_view}
use Rattle.image_writing.specs.Data.{costs_members}
use Rattle.image_writing.proofs.values.costs_table.Goals as goal

pub returns : goal.returns
unfolding costs_members
returns c =
    let it = c.args.costs.now in
    let none : table_view c.new.result ≡ no_members = ap members_view c.new.ensures.empty in
    let wb_put = c.put-wb.ensures.put no_members (integer it.wb) none c.value.ensures.value in
    let trap_put = c.put-trap.ensures.put _ (integer it.trap) wb_put c.value-2.ensures.value in
    let tlb_put = c.put-tlb.ensures.put _ (integer it.tlb) trap_put c.value-3.ensures.value in
    let mispredict_put = c.put-mispredict.ensures.put _ (integer it.mispredict) tlb_put c.value-4.ensures.value in
    let mem_put = c.put-mem.ensures.put _ (integer it.mem) mispredict_put c.value-5.ensures.value in
    let l2_put = c.put-l2.ensures.put _ (integer it.l2) mem_put c.value-6.ensures.value in
    let l1_put = c.put-l1.ensures.put _ (integer it.l1) l2_put c.value-7.ensures.value in
    let flush_put = c.put-flush.ensures.put _ (integer it.flush) l1_put c.value-8.ensures.value in
    record { made = c.put.ensures.put _ (integer it.base) flush_put c.value-9.ensures.value }

use Rattle.toml.specs.Data.{integer, table}
use Rattle.image_record.specs.Parts.{cache_model}
use Rattle.image_record.specs.Models.{raw_model}
use Rattle.image_writing.specs.Data.{cache_members, level2_of}
use Rattle.image_writing.proofs.writing.machine_table.Goals as goal

pub returns : goal.returns
returns c =
    let it = c.args.raw.now in
    let line = c.put-line.ensures.put _ (integer it.line) c.scheduled_table-table.ensures.made c.value.ensures.value in
    let l2 =
    c.put-l2.ensures.put _ (table (level2_of (raw_model it))) line (c.nested.ensures.value _ c.level2_table.ensures.made) in
    let l1i =
    c.put-l1i.ensures.put _ (table (cache_members (cache_model it.l1i))) l2
    (c.nested-2.ensures.value _ c.cache_table.ensures.made) in
    let l1d =
    c.put-l1d.ensures.put _ (table (cache_members (cache_model it.l1d))) l1i
    (c.nested-3.ensures.value _ c.cache_table-2.ensures.made) in
    let history = c.put-history.ensures.put _ (integer it.history) l1d c.value-2.ensures.value in
    record { made = c.put.ensures.put _ (integer it.frames) history c.value-3.ensures.value }

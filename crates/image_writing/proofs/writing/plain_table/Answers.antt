use Rattle.std.proofs.Common.{◌≡◌, List, map, subst}
use Rattle.std.specs.Prelude.{IfOk}
use Rattle.toml.specs.Data.{Data, array, table}
use Rattle.toml.specs.View.{items_of, view}
use Rattle.image_record.specs.Parts.{domain_model, costs_model}
use Rattle.image_writing.specs.Data.{domain_data, costs_members}
use Rattle.image_writing.proofs.Mapped.{map_of_map}
use Rattle.image_writing.proofs.writing.plain_table.Goals as goal

pub returns : goal.returns
returns c =
    let it = c.args.raw.now in
    let seen =
    subst (λ (ds : List Data). IfOk c.array_of.result (λ v. view v ≡ array (items_of ds)))
    (map_of_map domain_data domain_model it.domains.items) (rw c.as_slice.ensures.value at c.array_of.ensures.value) in
    let domain =
    c.put-domain.ensures.put _ (array (items_of (map domain_data (map domain_model it.domains.items))))
    c.machine_table-table.ensures.made seen in
    record {
      made = c.put.ensures.put _ (table (costs_members (costs_model it.costs))) domain
          (c.nested.ensures.value _ c.costs_table.ensures.made);
    }

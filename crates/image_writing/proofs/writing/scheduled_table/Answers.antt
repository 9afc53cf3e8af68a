use Rattle.std.proofs.Common.{◌≡◌, List, map, ap, subst, ◌∙◌}
use Rattle.std.specs.Int.{w64}
use Rattle.std.proofs.lemmas.Int.{to_z-of_z}
use Rattle.std.specs.Prelude.{IfOk}
use Rattle.toml.specs.Data.{Data, integer, array, table, no_members}
use Rattle.toml.specs.View.{items_of, view, table_view, members_view}
use Rattle.image_record.specs.Parts.{cache_model, entry_model}
use Rattle.image_writing.specs.Data.{number, cache_members, entry_data}
use Rattle.image_writing.proofs.Mapped.{map_of_map}
use Rattle.image_writing.proofs.writing.scheduled_table.Goals as goal

pub returns : goal.returns
returns c =
    let it = c.args.raw.now in
    let version_is = to_z-of_z w64 c.from.result (record { sfits = c.from.type_inv }) ∙ c.from.ensures in
    let none : table_view c.new.result ≡ no_members = ap members_view c.new.ensures.empty in
    let version =
    c.put-version.ensures.put no_members (number it.version) none (subst (λ z. IfOk c.value-number.result (λ v. view v ≡ integer z)) version_is c.value-number.ensures.value) in
    let tlb =
    c.put-tlb.ensures.put _ (table (cache_members (cache_model it.tlb))) version
    (c.nested.ensures.value _ c.cache_table.ensures.made) in
    let shared = c.put-shared.ensures.put _ (integer it.shared) tlb c.value.ensures.value in
    let seen =
    subst (λ (ds : List Data). IfOk c.array_of.result (λ v. view v ≡ array (items_of ds)))
    (map_of_map entry_data entry_model it.schedule.items) (rw c.as_slice.ensures.value at c.array_of.ensures.value) in
    let schedule =
    c.put-schedule.ensures.put _ (array (items_of (map entry_data (map entry_model it.schedule.items)))) shared seen in
    record { made = c.put.ensures.put _ (integer it.predictor) schedule c.value-2.ensures.value }

use Rattle.std.proofs.Common.{◌≡◌, List, map, string_bytes, ap, subst, ◌∙◌}
use Rattle.std.specs.Int.{w64}
use Rattle.std.proofs.lemmas.Int.{to_z-of_z}
use Rattle.std.specs.Prelude.{IfOk}
use Rattle.toml.specs.Data.{integer, Data, string, array, no_members}
use Rattle.toml.specs.View.{items_of, view, table_view, members_view}
use Rattle.image_record.specs.Parts.{segment_model, moment_model}
use Rattle.image_writing.specs.Data.{number, integers, texts, segment_data, moment_data}
use Rattle.image_writing.proofs.Mapped.{map_of_map}
use Rattle.image_writing.proofs.values.plain_domain.Goals as goal

pub returns : goal.returns
returns c =
    let it = c.args.domain.now in
    let entry_is = to_z-of_z w64 c.from.result (record { sfits = c.from.type_inv }) ∙ c.from.ensures in
    let none : table_view c.new.result ≡ no_members = ap members_view c.new.ensures.empty in
    let segments =
    subst (λ (ds : List Data). IfOk c.array_of.result (λ v. view v ≡ array (items_of ds)))
    (map_of_map segment_data segment_model it.segments.items) (rw c.as_slice.ensures.value at c.array_of.ensures.value) in
    let segment =
    c.put-segment.ensures.put no_members (array (items_of (map segment_data (map segment_model it.segments.items)))) none segments in
    let name = c.put-name.ensures.put _ (string (string_bytes it.name)) segment c.value.ensures.value in
    let when =
    subst (λ (ds : List Data). IfOk c.array_of-2.result (λ v. view v ≡ array (items_of ds)))
    (map_of_map moment_data moment_model it.moments.items) (rw c.as_slice-2.ensures.value at c.array_of-2.ensures.value) in
    let moments =
    c.put-moments.ensures.put _ (array (items_of (map moment_data (map moment_model it.moments.items)))) name when in
    let lines =
    c.put-lines.ensures.put _ (integers it.lines.items) moments (rw c.as_slice-3.ensures.value at c.array_of-3.ensures.value) in
    let entry = c.put-entry.ensures.put _ (number it.entry) lines (subst (λ z. IfOk c.value-2.result (λ v. view v ≡ integer z)) entry_is c.value-2.ensures.value) in
    let colours =
    c.put-colours.ensures.put _ (integers it.colours.items) entry
    (rw c.as_slice-4.ensures.value at c.array_of-4.ensures.value) in
    let caps =
    subst (λ (ds : List Data). IfOk c.array_of-5.result (λ v. view v ≡ array (items_of ds)))
    (map_of_map string (λ s. string_bytes s) it.caps.items) (rw c.as_slice-5.ensures.value at c.array_of-5.ensures.value) in
    record { made = c.put.ensures.put _ (texts (map (λ s. string_bytes s) it.caps.items)) colours caps }

use Rattle.std.proofs.Common.{◌≡◌, string_bytes, ap, ◌∙◌, subst}
use Rattle.std.specs.Int.{w64}
use Rattle.std.proofs.lemmas.Int.{to_z-of_z}
use Rattle.std.specs.Prelude.{IfOk}
use Rattle.toml.specs.Data.{string, integer, no_members}
use Rattle.toml.specs.View.{view, table_view, members_view}
use Rattle.image_writing.specs.Data.{number, segment_members}
use Rattle.image_writing.proofs.values.segment_table.Goals as goal

pub returns : goal.returns
unfolding segment_members
returns c =
    let it = c.args.segment.now in
    let page_is = to_z-of_z w64 c.from-2.result (record { sfits = c.from-2.type_inv }) ∙ c.from-2.ensures in
    let pages_is = to_z-of_z w64 c.from.result (record { sfits = c.from.type_inv }) ∙ c.from.ensures in
    let none : table_view c.new.result ≡ no_members = ap members_view c.new.ensures.empty in
    let rights = c.put-rights.ensures.put no_members (string (string_bytes it.rights)) none c.value.ensures.value in
    let pages = c.put-pages.ensures.put _ (number it.pages) rights (subst (λ z. IfOk c.value-2.result (λ v. view v ≡ integer z)) pages_is c.value-2.ensures.value) in
    let page = c.put-page.ensures.put _ (number it.page) pages (subst (λ z. IfOk c.value-3.result (λ v. view v ≡ integer z)) page_is c.value-3.ensures.value) in
    record { made = c.put.ensures.put _ (string (string_bytes it.hex)) page c.value-4.ensures.value }

-- The record, field for field, and that it is in the ranges of its keys.
use Rattle.std.proofs.Common.{ap, ◌∙◌}
use Rattle.std.proofs.lemmas.Int.{to_z-of_z}
use Rattle.std.specs.Int.{w64}
use Rattle.toml.specs.View.{table_view}
use Rattle.image_text.specs.Record.{map_items, domain_in, entry_in, mailbox_in}
use Rattle.image_text.proofs.Parts.{record_of}
use Rattle.image_text.proofs.Ranges.{in_key_ranges}
use Rattle.image_text.proofs.reading.record_of.Goals as goal

pub invariant_of-result : goal.invariant_of-result
invariant_of-result c = record {
  in_ranges = rw (c.in_ok-domains.ensures.read, c.items_at.ensures.value) (in_key_ranges _ c.requires.whole);
}

pub returns : goal.returns
returns c =
    let frames = to_z-of_z w64 c.integer_at.result (record { sfits = c.integer_at.type_inv }) ∙ c.integer_at.ensures.value in
    let shared = to_z-of_z w64 c.integer_at-2.result (record { sfits = c.integer_at-2.type_inv }) ∙ c.integer_at-2.ensures.value in
    let line = to_z-of_z w64 c.integer_at-3.result (record { sfits = c.integer_at-3.type_inv }) ∙ c.integer_at-3.ensures.value in
    let predictor = to_z-of_z w64 c.integer_at-4.result (record { sfits = c.integer_at-4.type_inv }) ∙ c.integer_at-4.ensures.value in
    let history = to_z-of_z w64 c.integer_at-5.result (record { sfits = c.integer_at-5.type_inv }) ∙ c.integer_at-5.ensures.value in
    let domains = c.in_ok-domains.ensures.read ∙ ap (map_items domain_in) c.items_at.ensures.value in
    let schedule = c.in_ok-schedule.ensures.read ∙ ap (map_items entry_in) c.items_at-2.ensures.value in
    let mail = c.in_ok-mail.ensures.read ∙ ap (map_items mailbox_in) c.items_at-3.ensures.value in
    record {
      read = record_of (table_view c.args.table.now) _ _ _ _ _ _ _ _ _ _ _ _ _ _ _ _ _ c.version_of.ensures.value frames shared line
          c.in_ok-l1i.ensures.read c.in_ok-l1d.ensures.read c.in_ok-l2.ensures.read c.back_at.ensures.value
          c.in_ok-tlb.ensures.read predictor history
          c.costs_at.ensures.value c.muldiv_at.ensures.value c.integer_if_at.ensures.value domains schedule mail;
    }

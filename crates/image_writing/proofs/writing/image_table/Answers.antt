use Rattle.std.proofs.Common.{◌≡◌, ◌==◌, rules, true, false, Option, List, length, codes, map, option_map, sym, subst}
use Rattle.std.specs.Prelude.{IfOk}
use Rattle.toml.specs.Data.{Data, array}
use Rattle.toml.specs.View.{items_of, table_view, view}
use Rattle.image_record.specs.Record.{RawMailbox}
use Rattle.image_record.specs.Parts.{mailbox_model}
use Rattle.image_record.specs.Models.{raw_model}
use Rattle.image_writing.specs.Data.{mailbox_data, mail_data, put_if, with_muldiv, record_members}
use Rattle.image_writing.proofs.Mapped.{map_of_map}
use Rattle.image_writing.proofs.SomeMail.{no_mail, has_mail}
use Rattle.image_writing.proofs.writing.image_table.Goals as goal

pub returns-then-is_empty : goal.returns-then-is_empty
unfolding record_members
returns-then-is_empty c =
    let base = with_muldiv (raw_model c.args.raw.now) in
    let boxes = c.args.raw.now.mail.items in
    let tested : (length boxes == 0) ≡ true = search rules in
    let none = no_mail boxes tested in
    let P : Option (List RawMailbox) → Type 0 =
    λ o. IfOk c.with_muldiv-table.result (λ t. table_view t ≡ put_if (codes "mail") (option_map mail_data o) base) in
    record { made = subst P (sym none) c.with_muldiv-table.ensures.made }

pub returns : goal.returns
unfolding record_members
returns c =
    let boxes = c.args.raw.now.mail.items in
    let base = with_muldiv (raw_model c.args.raw.now) in
    let tested : (length boxes == 0) ≡ false = search rules in
    let some = has_mail boxes tested in
    let seen =
    subst (λ (ds : List Data). IfOk c.array_of.result (λ v. view v ≡ array (items_of ds)))
    (map_of_map mailbox_data mailbox_model boxes) (rw c.as_slice.ensures.value at c.array_of.ensures.value) in
    let P : Option (List RawMailbox) → Type 0 =
    λ o. IfOk c.put.result (λ t. table_view t ≡ put_if (codes "mail") (option_map mail_data o) base) in
    record {
      made =
          subst P (sym some)
          (c.put.ensures.put base (mail_data (map mailbox_model boxes)) c.with_muldiv-table.ensures.made seen);
    }

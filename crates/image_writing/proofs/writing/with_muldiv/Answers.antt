use Rattle.std.proofs.Common.{◌≡◌, Option, codes, option_map, sym, subst}
use Rattle.std.specs.Prelude.{IfOk}
use Rattle.toml.specs.View.{table_view}
use Rattle.image_record.specs.declared.raw.RawMuldiv.{RawMuldiv}
use Rattle.image_record.specs.Parts.{muldiv_model}
use Rattle.image_record.specs.Models.{raw_model}
use Rattle.image_writing.specs.Data.{muldiv_data, put_if, with_targets, with_muldiv}
use Rattle.image_writing.proofs.writing.with_muldiv.Goals as goal

pub returns-in-Some : goal.returns-in-Some
unfolding with_muldiv
returns-in-Some c =
    let base = with_targets (raw_model c.args.raw.now) in
    let P : Option RawMuldiv → Type 0 =
    λ m. IfOk c.put.result (λ t. table_view t ≡ put_if (codes "muldiv") (option_map muldiv_data (option_map muldiv_model m)) base) in
    record {
      made =
          subst P (sym c.in-Some.is)
          (c.put.ensures.put base (muldiv_data (muldiv_model c.in-Some.costs)) c.with_targets-table.ensures.made
          (c.nested.ensures.value _ c.muldiv_table.ensures.made));
    }

pub returns-in-None : goal.returns-in-None
unfolding with_muldiv
returns-in-None c =
    let base = with_targets (raw_model c.args.raw.now) in
    let P : Option RawMuldiv → Type 0 =
    λ m. IfOk c.with_targets-table.result
    (λ t. table_view t ≡ put_if (codes "muldiv") (option_map muldiv_data (option_map muldiv_model m)) base) in
    record { made = subst P (sym c.in-None.is) c.with_targets-table.ensures.made }

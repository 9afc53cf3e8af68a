use Rattle.std.proofs.Common.{rules, ◌≡◌, None, sym, subst}
use Rattle.std.specs.List.{All}
use Rattle.image_record.specs.Models.{raw_model}
use Rattle.image_record.specs.Parts.{entry_model}
use Rattle.image_record.specs.Cases.{first_in}
use Rattle.schedule_check.specs.Schedule.{IsSmallEntry}
use Rattle.schedule_check.specs.Harts.{k19_entry}
use Rattle.schedule_check.proofs.Entries.{all_small}
use Rattle.schedule_check.proofs.harts.k19.Goals as goal

pub entries_in-requires : goal.entries_in-requires
entries_in-requires c =
    let i = raw_model c.args.raw.now in
    let harts : first_in k19_entry i.schedule ≡ None = search rules in
    let all = all_small c.args.raw.now c.requires.domains c.requires.schedule harts in
    record { small = subst (All (λ e. IsSmallEntry (entry_model e))) (sym c.as_slice-texts.ensures.value) all }

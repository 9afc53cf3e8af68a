-- How contracts see what the code knows of an image.
use Rattle.std.specs.Prelude.{map}
use Rattle.lend_check.specs.Lending as spec
use Rattle.lend_check.specs.declared.lending.LendingDomain.{LendingDomain}
use Rattle.lend_check.specs.declared.lending.LendingEntry.{LendingEntry}
use Rattle.lend_check.specs.declared.lending.Lending.{Lending}

abbrev pub domain_model : LendingDomain → spec.LendingDomain
domain_model o = record { colours = o.colours.items; lend = o.lend.items }

abbrev pub entry_model : LendingEntry → spec.LendingEntry
entry_model e = record { domain = e.domain; lend = e.lend }

abbrev pub lending_model : Lending → spec.Lending
lending_model i = record {
  version = i.version;
  domains = map domain_model i.domains.items;
  schedule = map entry_model i.schedule.items;
}

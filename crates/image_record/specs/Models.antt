-- How contracts see the record of the code.
use Rattle.std.specs.Prelude.{map, option_map}
use Rattle.image_record.specs.Record as spec
use Rattle.image_record.specs.Parts.{cache_model, costs_model, muldiv_model, domain_model, entry_model, mailbox_model}
use Rattle.image_record.specs.declared.raw.Raw.{Raw}

abbrev pub raw_model : Raw → spec.Raw
raw_model r = record {
  version = r.version;
  frames = r.frames;
  shared = r.shared;
  line = r.line;
  l1i = cache_model r.l1i;
  l1d = cache_model r.l1d;
  l2 = cache_model r.l2;
  back = r.back;
  tlb = cache_model r.tlb;
  predictor = r.predictor;
  history = r.history;
  costs = costs_model r.costs;
  muldiv = option_map muldiv_model r.muldiv;
  targets = r.targets;
  domains = map domain_model r.domains.items;
  schedule = map entry_model r.schedule.items;
  mail = map mailbox_model r.mail.items;
}

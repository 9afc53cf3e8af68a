-- How contracts see the parts of the record of the code.
use Rattle.std.specs.Prelude.{map, option_map, string_bytes}
use Rattle.image_record.specs.Record as spec
use Rattle.image_record.specs.declared.raw.RawCache.{RawCache}
use Rattle.image_record.specs.declared.raw.RawCosts.{RawCosts}
use Rattle.image_record.specs.declared.raw.RawMuldiv.{RawMuldiv}
use Rattle.image_record.specs.declared.raw.RawSegment.{RawSegment}
use Rattle.image_record.specs.declared.raw.RawMoment.{RawMoment}
use Rattle.image_record.specs.declared.raw.RawDomain.{RawDomain}
use Rattle.image_record.specs.declared.raw.RawEntry.{RawEntry}
use Rattle.image_record.specs.declared.raw.RawMailbox.{RawMailbox}

abbrev pub cache_model : RawCache → spec.RawCache
cache_model c = record { sets = c.sets; ways = c.ways; policy = string_bytes c.policy }

abbrev pub costs_model : RawCosts → spec.RawCosts
costs_model c = record {
  base = c.base;
  l1 = c.l1;
  l2 = c.l2;
  mem = c.mem;
  wb = c.wb;
  tlb = c.tlb;
  mispredict = c.mispredict;
  trap = c.trap;
  flush = c.flush;
}

abbrev pub muldiv_model : RawMuldiv → spec.RawMuldiv
muldiv_model c = record { mul = c.mul; div = c.div }

abbrev pub segment_model : RawSegment → spec.RawSegment
segment_model s =
    record { page = s.page; pages = s.pages; rights = string_bytes s.rights; hex = string_bytes s.hex }

abbrev pub moment_model : RawMoment → spec.RawMoment
moment_model m = record { at = m.at; line = m.line }

abbrev pub domain_model : RawDomain → spec.RawDomain
domain_model d = record {
  name = string_bytes d.name;
  colours = d.colours.items;
  entry = d.entry;
  segments = map segment_model d.segments.items;
  caps = map (λ s. string_bytes s) d.caps.items;
  lines = d.lines.items;
  moments = map moment_model d.moments.items;
  calls = option_map (λ v. v.items) d.calls;
}

abbrev pub entry_model : RawEntry → spec.RawEntry
entry_model e = record { domain = e.domain; length = e.length; pad = e.pad; hart = e.hart }

abbrev pub mailbox_model : RawMailbox → spec.RawMailbox
mailbox_model b = record { from = b.from; to = b.to }

-- What contracts see of the parts of an image in the code.
use Rattle.std.specs.Prelude.{map, string_bytes}
pub use Rattle.hardware_check.specs.Models.{hardware_model}
pub use Rattle.domain_check.specs.Models.{segment_model}
use Rattle.image_check.specs.Public as public_spec
use Rattle.image_check.specs.Own as own_spec
use Rattle.image_check.specs.declared.public.Public.{Public}
use Rattle.image_check.specs.declared.own.Own.{Own}

abbrev pub public_model : Public → public_spec.Public
public_model p = record {
  version = p.version;
  hardware = hardware_model p.hardware;
  schedule = p.schedule;
  domains = p.domains;
  mail = p.mail.items;
}

abbrev pub own_model : Own → own_spec.Own
own_model o = record {
  number = o.number;
  name = string_bytes o.name;
  colours = o.colours.items;
  entry = o.entry;
  segments = map segment_model o.segments.items;
  caps = o.caps.items;
  lines = o.lines.items;
  moments = o.moments.items;
  calls = o.calls;
  makes = o.makes;
}

-- What the rules let through of the domains.
use Rattle.std.specs.Prelude.{◌≡◌, ◌<◌, List, ◌∷◌, length, map}
use Rattle.image_record.specs.Record.{RawDomain}
use Rattle.domain_check.specs.Colours.{own_colours}
use Rattle.domain_check.specs.Segments.{segments_of}
use Rattle.domain_check.specs.Capabilities.{caps_of}
use Rattle.schedule_check.specs.Interrupts.{own_lines, own_moments}
use Rattle.domain_check.specs.Calls.{own_calls}
use Rattle.domain_check.specs.Models.{segment_model, named_model}
use Rattle.image_check.specs.declared.own.DomainPart.{DomainPart}
use Rattle.image_check.specs.declared.own.DomainParts.{DomainParts}

-- there is a first domain's
pub record HasFirst (p : DomainParts) : Type 0 where
  pub colours : 0 < length p.colours.items
  pub segments : 0 < length p.segments.items
  pub caps : 0 < length p.caps.items
  pub lines : 0 < length p.lines.items
  pub moments : 0 < length p.moments.items
  pub calls : 0 < length p.calls.items

-- the part is the first domain's, and what is left is that of the others
pub record BeginsWith (first : DomainPart) (left all : DomainParts) : Type 0 where
  pub colours : all.colours.items ≡ first.colours ∷ left.colours.items
  pub segments : all.segments.items ≡ first.segments ∷ left.segments.items
  pub caps : all.caps.items ≡ first.caps ∷ left.caps.items
  pub lines : all.lines.items ≡ first.lines ∷ left.lines.items
  pub moments : all.moments.items ≡ first.moments ∷ left.moments.items
  pub calls : all.calls.items ≡ first.calls ∷ left.calls.items

-- the part is that of this domain
pub record IsPartOf (p : DomainPart) (o : RawDomain) : Type 0 where
  pub colours : p.colours.items ≡ own_colours o
  pub segments : map segment_model p.segments.items ≡ segments_of o
  pub caps : map named_model p.caps.items ≡ caps_of o
  pub lines : p.lines.items ≡ own_lines o
  pub moments : p.moments.items ≡ own_moments o
  pub calls : p.calls ≡ own_calls o

-- the parts are those of these domains, of each in their order
pub record ArePartsOf (p : DomainParts) (domains : List RawDomain) : Type 0 where
  pub colours : map (λ v. v.items) p.colours.items ≡ map own_colours domains
  pub segments : map (λ v. map segment_model v.items) p.segments.items ≡ map segments_of domains
  pub caps : map (λ v. map named_model v.items) p.caps.items ≡ map caps_of domains
  pub lines : map (λ v. v.items) p.lines.items ≡ map own_lines domains
  pub moments : map (λ v. v.items) p.moments.items ≡ map own_moments domains
  pub calls : p.calls.items ≡ map own_calls domains

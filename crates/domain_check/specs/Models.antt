-- What contracts see of the parts of a domain in the code.
use Rattle.domain_check.specs.Segments as segments
use Rattle.domain_check.specs.declared.segments.Segment.{Segment}
use Rattle.domain_check.specs.declared.capabilities.InitialCap.{InitialCap}
use Rattle.domain_check.specs.declared.capabilities.InitialCap.TheVariants as cap
use Rattle.domain_check.specs.declared.capabilities.Named.{Named}
use Rattle.domain_check.specs.declared.capabilities.Named.TheVariants.{Nothing, Page, Irq}

abbrev pub segment_model : Segment → segments.Segment
segment_model s = record { page = s.page; pages = s.pages; rights = s.rights; bytes = s.bytes.items }

abbrev pub named_model : Named → InitialCap
named_model Nothing = cap.None
named_model (Page n) = cap.Page n
named_model (Irq n) = cap.Irq n

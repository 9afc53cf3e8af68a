use Rattle.mail_slots.proofs.Sides.{ends_law, begins_law, bring_law, others_end_law, others_begin_law, others_law}
use Rattle.mail_slots.proofs.laws.switches_by_arrivals.Goals as goal

pub returns : goal.returns
returns c = record {
  ends = ends_law;
  begins = begins_law;
  bring = bring_law;
  others_end = others_end_law;
  others_begin = others_begin_law;
  others = others_law;
}

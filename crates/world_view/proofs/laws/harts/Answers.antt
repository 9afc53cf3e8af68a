use Rattle.tp_base.specs.Table.{at-put_same, at-put_other}
use Rattle.world_view.specs.Machine.{no_hart, with_part, with_hart}
use Rattle.world_view.proofs.harts.Isolation.{other_harts}
use Rattle.world_view.proofs.laws.harts.Goals as goal

pub returns : goal.returns
unfolding with_part with_hart
returns c = record {
  other = λ h other d w s apart. at-put_other no_hart w.harts other h _ apart;
  own = λ h d w s. at-put_same no_hart w.harts h _;
  others = other_harts;
}

-- One more write of a piece.
use Rattle.std.proofs.Common.{rules}
use Rattle.tp_io.proofs.Known.{written_more}
use Rattle.tp_io.proofs.send.write_all_of.Goals as goal

pub loop-sent-preserved : goal.loop-sent-preserved
loop-sent-preserved g c = record {
  within = search rules;
  so_far = record {
    written = written_more _ _ _ _ _ _ c.loop-sent.invariant.so_far.written c.in_ok-sent.ensures.bytes.1;
    steady = search rules;
    sure = search rules;
  };
  untouched = search rules;
}

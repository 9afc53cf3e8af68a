-- A layout of 64 bytes a line.
use Rattle.std.proofs.Common.{refl, lit≤, lit<}
use Rattle.memory_tests.proofs.domain_switches.red.Goals as goal

pub returns-clause-layout : goal.returns-clause-layout
returns-clause-layout c = record {
  power = (6, refl);
  least_line = lit≤ tt;
  most_line = lit≤ tt;
  some_shared = lit≤ tt;
  most_shared = lit≤ tt;
  whole_lines = refl;
  some_colours = lit≤ tt;
  few_colours = lit≤ tt;
  text = rw c.new.ensures.value (lit< tt);
  more_text = rw c.new-2.ensures.value (lit< tt);
  stack = rw c.new-3.ensures.value (lit< tt);
  data_frame = rw c.new-4.ensures.value (lit< tt);
}

use Rattle.std.proofs.Common.{ℕ, [], ◌∷◌, refl, lit≤, lit<}
use Rattle.tp_base.specs.Ranges.{IsFrameNo}
use Rattle.kernel_clone.specs.Footprints.{IsLayout}
use Rattle.kernel_clone.specs.Models.{layout_model}
use Rattle.core_tests.proofs.footprints.lines_are_touched_in_order.Goals as goal

-- 64 bytes a line
fine : (text more stack data_frame : ℕ) → IsFrameNo text → IsFrameNo more → IsFrameNo stack
    → IsFrameNo data_frame
    → IsLayout (layout_model (record { text = text ∷ more ∷ []; stack = stack; «data» = data_frame; line = 64; shared = 512; colours = 2 }))
fine text more stack data_frame a b c d = record {
  power = (6, refl);
  least_line = lit≤ tt;
  most_line = lit≤ tt;
  some_shared = lit≤ tt;
  most_shared = lit≤ tt;
  whole_lines = refl;
  some_colours = lit≤ tt;
  few_colours = lit≤ tt;
  text = a;
  more_text = b;
  stack = c;
  data_frame = d;
}

pub have-requires-clause-layout : goal.have-requires-clause-layout
have-requires-clause-layout g c =
    fine c.new.result c.new-2.result c.new-3.result c.new-4.result
    (rw c.new.ensures.value (lit< tt)) (rw c.new-2.ensures.value (lit< tt))
    (rw c.new-3.ensures.value (lit< tt)) (rw c.new-4.ensures.value (lit< tt))

pub touches-touches-requires-clause-layout : goal.touches-touches-requires-clause-layout
touches-touches-requires-clause-layout g c =
    fine c.new.result c.new-2.result c.new-3.result c.new-4.result
    (rw c.new.ensures.value (lit< tt)) (rw c.new-2.ensures.value (lit< tt))
    (rw c.new-3.ensures.value (lit< tt)) (rw c.new-4.ensures.value (lit< tt))

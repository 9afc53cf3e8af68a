-- How contracts see the code's layout and work, and which work is one that an operation can have done.
use Rattle.std.specs.Prelude.{◌≡◌, ℕ, ◌^◌, ◌<◌, ◌≤◌, All, IfSome, take, slice_index}
use Rattle.tp_base.specs.Ranges.{IsFrameNo}
use Rattle.kernel_clone.specs.Footprints.{Layout, WorkDone, IsLayout}
use Rattle.kernel_clone.specs.declared.CloneLayout.{CloneLayout}
use Rattle.kernel_clone.specs.declared.Work.{Work}

abbrev pub layout_model : CloneLayout → Layout
layout_model c = record {
  text = slice_index c.text 0;
  more_text = slice_index c.text 1;
  stack = c.stack;
  data_frame = c.«data»;
  line = c.line;
  shared = c.shared;
  colours = c.colours;
}

abbrev pub work_model : Work → WorkDone
work_model w = record { op = w.op; zeroed = w.zeroed; entries = take w.count w.entries }

-- a frame that there is, and entries in frames that there are
pub record IsWork (w : Work) : Type 0 where
  pub zeroed : IfSome w.zeroed IsFrameNo
  pub few : w.count ≤ 64
  pub entries : All (λ at. at < 2 ^ 27) (take w.count w.entries)

-- what the touches of an operation are asked of: its own work, in such a layout
pub record IsAsked (op : ℕ) (c : CloneLayout) (w : Work) : Type 0 where
  pub layout : IsLayout (layout_model c)
  pub work : IsWork w
  pub same : op ≡ w.op

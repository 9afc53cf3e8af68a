-- The hierarchy of a machine that keeps the rules: whole colours, and a shared region of colour 0 with a way for each of its lines.
use Rattle.std.proofs.Common.{◌≡◌, ℕ, ◌/◌, ◌<◌, false, refl, arith, ◌∙◌}
use Rattle.std.proofs.Math.Nat.{mul_comm}
use Rattle.tp_base.specs.Ranges.{IsFrameNo}
use Rattle.hardware_check.proofs.Powers.{power_is}
use Rattle.kernel_clone.specs.Footprints.{IsLayout}
use Rattle.kernel_clone.proofs.LineLaws.{whole_lines}
use Rattle.l2_colour.specs.Colours.{IsColoured}
use Rattle.mem_system.specs.Sharing.{IsRegion, IsSharing, HasRoom}
use Rattle.mem_system.proofs.Region.{region_is, has_room}
use Rattle.hardware_check.specs.Hardware.{Hardware, IsHardware}
use Rattle.image_check.specs.Own.{Own}
use Rattle.world_view.specs.Cost.{hierarchy, region, bare_layout, own_colour}

module _ (p : Hardware) (h : IsHardware p) where
  -- a kernel clone of these frames
  pub clone_is : (text more_text stack data_frame : ℕ) → IsFrameNo text → IsFrameNo more_text
      → IsFrameNo stack → IsFrameNo data_frame
      → IsLayout (record (bare_layout p) { text = text; more_text = more_text; stack = stack; data_frame = data_frame })
  clone_is text more_text stack data_frame in_text in_more in_stack in_data = record {
    power = power_is p.line h.line.power;
    least_line = h.line.least;
    most_line = h.line.most;
    some_shared = h.some_shared;
    most_shared = h.few_shared;
    whole_lines = h.whole_lines;
    some_colours = h.some_colours;
    few_colours = h.few_colours;
    text = in_text;
    more_text = in_more;
    stack = in_stack;
    data_frame = in_data;
  }

  pub bare_is : IsLayout (bare_layout p)
  bare_is = clone_is 0 0 0 0 (omega arith) (omega arith) (omega arith) (omega arith)

  pub coloured : IsColoured (hierarchy p).line_size (hierarchy p).l2.count
  unfolding hierarchy
  coloured = record {
    whole_lines = mul_comm (4096 / p.line) p.line ∙ whole_lines (bare_layout p) bare_is;
    whole_colours = h.whole_colours;
    some = let some = h.some_colours in omega (arith, some);
    few = h.few_colours;
  }

  -- the first-level data cache has sets
  pub some_data : 0 < (hierarchy p).l1d.count
  unfolding hierarchy
  some_data = let some = h.l1d.sets.least in omega (arith, some)

  pub region_kernel : IsRegion (hierarchy p) (region p)
  unfolding hierarchy region
  region_kernel = region_is (hierarchy p) (bare_layout p) bare_is coloured refl refl

  -- no set has more of its lines than ways
  pub region_room : HasRoom (hierarchy p) (region p)
  unfolding hierarchy region
  region_room = has_room (hierarchy p) (bare_layout p) bare_is coloured refl refl h.shared_in_ways

  pub sharing_is : (o : Own) → own_colour o 0 ≡ false → IsSharing (hierarchy p) (own_colour o) (region p)
  sharing_is o not_kernel = record { coloured = coloured; not_kernel = not_kernel; kernel = region_kernel }

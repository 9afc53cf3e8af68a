-- The lines of a domain's own frames are its own, and what its kernel clone loads is of the shared region.
use Rattle.std.proofs.Common.{◌≡◌, ℕ, ◌<◌, ◌/◌, length, subst, sym, ◌∙◌, zero-add}
use Rattle.std.specs.Prelude.{slice_index}
use Rattle.std.proofs.lemmas.Bool.{and_parts}
use Rattle.std.proofs.lemmas.List.FromFn.{length-map-range_with_len, get_or-map-range_with_len}
use Rattle.kernel_clone.specs.Footprints.{shared_line, shared_lines}
use Rattle.kernel_clone.proofs.LineLaws.{entry_frame}
use Rattle.mem_system.specs.Hierarchy.{colour_of_line}
use Rattle.mem_system.specs.Operations.{shared_region}
use Rattle.mem_system.specs.Sharing.{IsOwnLine, IsShared}
use Rattle.hardware_check.specs.Hardware.{Hardware}
use Rattle.image_check.specs.Own.{Own}
use Rattle.world_view.specs.Kernel.{layout}
use Rattle.world_view.specs.Cost.{hierarchy, region, own_colour, bare_layout}
use Rattle.world_view.specs.Relations.{IsOwnFrame, IsKernel}

module _ (p : Hardware) (o : Own) where
  -- a line has the colour of its frame
  pub own_line : (line : ℕ) → IsOwnFrame p o (line / (4096 / p.line))
      → IsOwnLine (hierarchy p) (own_colour o) line
  unfolding hierarchy colour_of_line
  own_line line own = (and_parts _ _ own).1

  -- the line of an address in an own frame
  pub own_address : IsKernel p o → (at : ℕ) → IsOwnFrame p o (at / 4096)
      → IsOwnLine (hierarchy p) (own_colour o) (at / p.line)
  unfolding layout
  own_address kernel at own = own_line (at / p.line) (subst (IsOwnFrame p o) (sym (entry_frame (layout p o) at kernel.has_layout)) own)

module _ (p : Hardware) where
  pub length_region : length (region p) ≡ shared_lines (bare_layout p)
  unfolding region shared_region
  length_region = length-map-range_with_len (shared_line (bare_layout p)) 0 (shared_lines (bare_layout p))

  pub region_line : (k : ℕ) → k < shared_lines (bare_layout p)
      → slice_index (region p) k ≡ shared_line (bare_layout p) k
  unfolding region shared_region
  region_line k below = get_or-map-range_with_len (shared_line (bare_layout p)) 0 (shared_lines (bare_layout p)) k k 0 below (zero-add k)

  -- a shared line of any clone is of the region
  pub is_shared : (o : Own) (k line : ℕ) → k < shared_lines (layout p o) → line ≡ shared_line (layout p o) k
      → IsShared (region p) line
  unfolding layout
  is_shared o k line below is =
      (k, subst (λ (n : ℕ). k < n) (sym length_region) below, is ∙ sym (region_line k below))

use Rattle.std.proofs.Common.{ℕ, subst}
use Rattle.tp_base.specs.Table.{put}
use Rattle.phys_mem.specs.Holds.{Holds}
use Rattle.hardware_check.specs.Models.{hardware_model}
use Rattle.image_check.specs.Models.{own_model}
use Rattle.world_view.specs.Opening.{tabled, root_entry, root_placed, placed}
use Rattle.world_view.proofs.opening.OpeningLaws.{at-tabled}
use Rattle.domain_open.proofs.memory.place_domain.Goals as goal

pub returns-clause-placed : goal.returns-clause-placed
unfolding root_placed placed
returns-clause-placed c m h =
    let at = c.args.at.now in
    let entries = root_entry (hardware_model at.hardware.now) (own_model at.own.now) in
    let root = c.place_frame.ensures.placed m (tabled entries 1024) h (λ i below. at-tabled entries 1024 i below) in
    c.place_segments.ensures.placed _ (c.place_tables.ensures.placed _
    (subst (λ (f : ℕ). Holds c.place_frame.new.memory (put m f (tabled entries 1024))) c.root_frame.ensures.value root))

use Rattle.std.proofs.Common.{◌≡◌, ◌∙◌, true, false, sym, ap, refl}
use Rattle.image_check.specs.Models.{own_model}
use Rattle.sv32_walk.specs.PageTableEntry.{table_word}
use Rattle.image_check.specs.Pages.{has_region}
use Rattle.world_view.specs.Opening.{root_entry}
use Rattle.domain_open.proofs.placement.Placement.root_entry.Goals as goal

pub returns-then-not-has_region : goal.returns-then-not-has_region
unfolding root_entry
returns-then-not-has_region c =
    let none : has_region (own_model c.args.self.now.own.now).segments c.args.region ≡ false =
    sym (rw c.as_slice.ensures.value at c.if-not-has_region.ensures.value) in
    record { value = rw none refl }

pub returns : goal.returns
unfolding root_entry
returns c =
    let some : has_region (own_model c.args.self.now.own.now).segments c.args.region ≡ true =
    sym (rw c.as_slice.ensures.value at c.if-not-has_region.ensures.value) in
    record { value = rw some (c.table_word.ensures.value ∙ ap table_word c.table_frame.ensures.value) }

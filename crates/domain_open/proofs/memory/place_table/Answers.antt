use Rattle.std.proofs.Common.{◌≡◌, ◌+◌, ◌*◌, ℕ, true, false, sym, subst}
use Rattle.tp_base.specs.Table.{put}
use Rattle.phys_mem.specs.Holds.{Holds}
use Rattle.hardware_check.specs.Models.{hardware_model}
use Rattle.image_check.specs.Models.{own_model}
use Rattle.image_check.specs.Pages.{has_region}
use Rattle.world_view.specs.Opening.{tabled, leaf_entry, tables_placed}
use Rattle.world_view.proofs.opening.OpeningLaws.{at-tabled}
use Rattle.domain_open.proofs.Loading.{tables_more, tables_same}
use Rattle.domain_open.proofs.memory.place_table.Goals as goal

pub returns-then-not-has_region-clause-placed : goal.returns-then-not-has_region-clause-placed
returns-then-not-has_region-clause-placed c m h =
    let at = c.args.at.now in
    let o = own_model at.own.now in
    let none : has_region o.segments c.args.region ≡ false = sym (rw c.as_slice.ensures.value at c.if-not-has_region.ensures.value) in
    subst (Holds c.args.memory.now) (sym (tables_same (hardware_model at.hardware.now) o m c.args.region none)) h

pub table_frame-requires-clause-some : goal.table_frame-requires-clause-some
table_frame-requires-clause-some c = sym (rw c.as_slice.ensures.value at c.if-not-has_region.ensures.value)

pub returns-clause-placed : goal.returns-clause-placed
returns-clause-placed c m h =
    let at = c.args.at.now in
    let p = hardware_model at.hardware.now in
    let o = own_model at.own.now in
    let r = c.args.region in
    let some : has_region o.segments r ≡ true = sym (rw c.as_slice.ensures.value at c.if-not-has_region.ensures.value) in
    let entries = λ (i : ℕ). leaf_entry p o (1024 * r + i) in
    let old = tables_placed p o r m in
    let new = c.place_frame.ensures.placed old (tabled entries 1024) h (λ i below. at-tabled entries 1024 i below) in
    subst (Holds c.place_frame.new.memory) (sym (tables_more p o m r some))
    (subst (λ (f : ℕ). Holds c.place_frame.new.memory (put old f (tabled entries 1024)))
    c.table_frame.ensures.value new)

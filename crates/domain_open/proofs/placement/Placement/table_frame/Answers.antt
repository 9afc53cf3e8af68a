use Rattle.std.proofs.Common.{◌≡◌, ◌+◌}
use Rattle.hardware_check.specs.Models.{hardware_model}
use Rattle.image_check.specs.Models.{own_model}
use Rattle.image_check.specs.Pages.{regions_below}
use Rattle.domain_open.proofs.PoolReads.{pool_read, read_inside, table_place}
use Rattle.domain_open.proofs.placement.Placement.table_frame.Goals as goal

pub bounds-self-place : goal.bounds-self-place
bounds-self-place c =
    let at = c.args.self.now in
    let p = hardware_model at.hardware.now in
    let o = own_model at.own.now in
    let place : c.regions_below-place.result ≡ regions_below o.segments c.args.region =
    rw c.as_slice.ensures.value at c.regions_below-place.ensures.value in
    rw place (table_place p o at.pool.now at.is_pool at.has_pool c.args.region c.requires.region c.requires.some)

pub returns-clause-value : goal.returns-clause-value
returns-clause-value c =
    let at = c.args.self.now in
    let p = hardware_model at.hardware.now in
    let o = own_model at.own.now in
    let place : c.regions_below-place.result ≡ regions_below o.segments c.args.region =
    rw c.as_slice.ensures.value at c.regions_below-place.ensures.value in
    rw place (pool_read p o at.pool.now at.is_pool at.has_pool (5 + regions_below o.segments c.args.region)
    c.index-self-place.result
    (table_place p o at.pool.now at.is_pool at.has_pool c.args.region c.requires.region c.requires.some))

pub returns-clause-within : goal.returns-clause-within
returns-clause-within c =
    let at = c.args.self.now in
    let p = hardware_model at.hardware.now in
    let o = own_model at.own.now in
    let place : c.regions_below-place.result ≡ regions_below o.segments c.args.region =
    rw c.as_slice.ensures.value at c.regions_below-place.ensures.value in
    rw place (read_inside p o at.pool.now at.is_pool at.has_pool (5 + regions_below o.segments c.args.region)
    c.index-self-place.result
    (table_place p o at.pool.now at.is_pool at.has_pool c.args.region c.requires.region c.requires.some))

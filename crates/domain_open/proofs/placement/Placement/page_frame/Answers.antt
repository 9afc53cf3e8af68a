use Rattle.std.proofs.Common.{◌≡◌, ◌+◌, ap₂, arith}
use Rattle.hardware_check.specs.Models.{hardware_model}
use Rattle.image_check.specs.Models.{own_model}
use Rattle.image_check.specs.Pages.{regions_in, pages_below}
use Rattle.domain_open.proofs.PoolReads.{pool_read, read_inside, page_place, frames_few}
use Rattle.domain_open.proofs.placement.Placement.page_frame.Goals as goal

pub pages_below-requires : goal.pages_below-requires
pages_below-requires c =
    let at = c.args.self.now in
    let p = hardware_model at.hardware.now in
    let o = own_model at.own.now in
    let few = frames_few p o at.has_pool in
    record { few = rw c.as_slice.ensures.value (omega (arith, few)) }

pub overflow_add-place : goal.overflow_add-place
overflow_add-place c =
    let at = c.args.self.now in
    let p = hardware_model at.hardware.now in
    let o = own_model at.own.now in
    let place : at.first_page + c.pages_below.result ≡ 5 + regions_in o.segments + pages_below o.segments c.args.page =
    ap₂ (λ a b. a + b) at.follows (rw c.as_slice.ensures.value at c.pages_below.ensures.value) in
    let within = page_place p o at.pool.now at.is_pool at.has_pool c.args.page c.requires.there in
    let few = frames_few p o at.has_pool in
    omega (arith, place, few, c.requires.there)

pub bounds-self-place : goal.bounds-self-place
bounds-self-place c =
    let at = c.args.self.now in
    let p = hardware_model at.hardware.now in
    let o = own_model at.own.now in
    let place : at.first_page + c.pages_below.result ≡ 5 + regions_in o.segments + pages_below o.segments c.args.page =
    ap₂ (λ a b. a + b) at.follows (rw c.as_slice.ensures.value at c.pages_below.ensures.value) in
    let within = page_place p o at.pool.now at.is_pool at.has_pool c.args.page c.requires.there in
    rw place within

pub returns-clause-value : goal.returns-clause-value
returns-clause-value c =
    let at = c.args.self.now in
    let p = hardware_model at.hardware.now in
    let o = own_model at.own.now in
    let place : at.first_page + c.pages_below.result ≡ 5 + regions_in o.segments + pages_below o.segments c.args.page =
    ap₂ (λ a b. a + b) at.follows (rw c.as_slice.ensures.value at c.pages_below.ensures.value) in
    let within = page_place p o at.pool.now at.is_pool at.has_pool c.args.page c.requires.there in
    rw place (pool_read p o at.pool.now at.is_pool at.has_pool
    (5 + regions_in o.segments + pages_below o.segments c.args.page) c.index-self-place.result within)

pub returns-clause-within : goal.returns-clause-within
returns-clause-within c =
    let at = c.args.self.now in
    let p = hardware_model at.hardware.now in
    let o = own_model at.own.now in
    let place : at.first_page + c.pages_below.result ≡ 5 + regions_in o.segments + pages_below o.segments c.args.page =
    ap₂ (λ a b. a + b) at.follows (rw c.as_slice.ensures.value at c.pages_below.ensures.value) in
    let within = page_place p o at.pool.now at.is_pool at.has_pool c.args.page c.requires.there in
    rw place (read_inside p o at.pool.now at.is_pool at.has_pool
    (5 + regions_in o.segments + pages_below o.segments c.args.page) c.index-self-place.result within)

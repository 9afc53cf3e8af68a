use Rattle.std.proofs.Common.{arith}
use Rattle.hardware_check.specs.Models.{hardware_model}
use Rattle.image_check.specs.Models.{own_model}
use Rattle.domain_open.proofs.PoolReads.{long, pool_read, read_inside}
use Rattle.domain_open.proofs.placement.Placement.root_frame.Goals as goal

pub returns-clause-value : goal.returns-clause-value
returns-clause-value c =
    let at = c.args.self.now in
    let p = hardware_model at.hardware.now in
    let o = own_model at.own.now in
    let all = long p o at.pool.now at.is_pool at.has_pool in
    pool_read p o at.pool.now at.is_pool at.has_pool 4 c.index-self-4.result (omega (arith, all))

pub returns-clause-within : goal.returns-clause-within
returns-clause-within c =
    let at = c.args.self.now in
    let p = hardware_model at.hardware.now in
    let o = own_model at.own.now in
    let all = long p o at.pool.now at.is_pool at.has_pool in
    read_inside p o at.pool.now at.is_pool at.has_pool 4 c.index-self-4.result (omega (arith, all))

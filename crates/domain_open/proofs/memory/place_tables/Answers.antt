use Rattle.std.proofs.Common.{◌≡◌, refl, sym, subst, ◌∙◌, arith}
use Rattle.phys_mem.specs.Holds.{Holds}
use Rattle.hardware_check.specs.Models.{hardware_model}
use Rattle.image_check.specs.Models.{own_model}
use Rattle.domain_open.proofs.Loading.{tables_none}
use Rattle.domain_open.proofs.memory.place_tables.Goals as goal

pub loop-region-init : goal.loop-region-init
loop-region-init c =
    let at = c.args.at.now in
    record {
      placed =
          λ m h. subst (Holds c.args.memory.now)
          (sym (tables_none (hardware_model at.hardware.now) (own_model at.own.now) m)) h;
      frames = refl;
    }

pub place_table-requires-clause-size : goal.place_table-requires-clause-size
place_table-requires-clause-size c = c.loop-region.invariant.frames ∙ c.requires.size

pub loop-region-preserved : goal.loop-region-preserved
loop-region-preserved c = record {
  placed = λ m h. c.place_table.ensures.placed m (c.loop-region.invariant.placed m h);
  frames = c.place_table.ensures.frames ∙ c.loop-region.invariant.frames;
}

pub returns-clause-placed : goal.returns-clause-placed
returns-clause-placed c m h =
    let end : c.loop-region.region ≡ 1024 = omega arith in
    rw end at (c.loop-region.invariant.placed m h)

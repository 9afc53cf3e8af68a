use Rattle.set_cache.specs.Calls.{IsNew}
use Rattle.mem_system.proofs.Made.{of_first, of_second}
use Rattle.mem_system.proofs.on_core.new_first_level.Goals as goal

pub returns : goal.returns
returns g c =
    let l1i = c.args.l1i in
    let l1d = c.args.l1d in
    record {
      l1i = of_first (IsNew g.P.Policy.takes g.P.Policy.stands_for l1i.policy l1i.sets l1i.ways) c.new.result c.both.result
          c.both.ensures.first c.new.ensures.made;
      l1d = of_second (IsNew g.P.Policy.takes g.P.Policy.stands_for l1d.policy l1d.sets l1d.ways) c.new-2.result c.both.result
          c.both.ensures.second c.new-2.ensures.made;
    }

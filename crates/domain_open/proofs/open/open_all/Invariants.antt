use Rattle.std.proofs.Common.{◌≡◌, ◌≤◌, length, drop}
use Rattle.phys_mem.specs.Holds.{Holds}
use Rattle.tp_base.specs.Table.{empty}
use Rattle.image_check.specs.Image.{image_from}
use Rattle.domain_open.specs.Placing.{AreOpened, all_shares}
use Rattle.domain_open.proofs.open.open_all.Given as goal

abbrev pub invariant-loop-d : goal.invariant-loop-d
invariant-loop-d l =
    let i = image_from l.image in
    record {
      opened : AreOpened i.all.hardware i.owns l.d l.domains.items;
      shares : l.shares.items ≡ drop l.d (all_shares i);
      blank : Holds l.fn.memory empty → Holds l.memory empty;
      room : length i.owns ≤ l.domains.cap;
      size : l.memory.frames ≡ l.fn.memory.frames;
    }

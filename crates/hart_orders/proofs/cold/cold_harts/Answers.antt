use Rattle.std.proofs.Common.{◌∙◌, List, All, length, ap, sym, subst, arith}
use Rattle.std.proofs.lemmas.List.{length_push}
use Rattle.std.proofs.lemmas.List.Elements.{All-push}
use Rattle.hardware_check.specs.Models.{hardware_model}
use Rattle.hart_orders.specs.declared.hart.Hart.{Hart}
use Rattle.hart_orders.specs.Cold.{IsColdHart}
use Rattle.hart_orders.specs.Off.{levels_by}
use Rattle.hart_orders.proofs.cold.cold_harts.Goals as goal

pub loop-preserved : goal.loop-preserved
loop-preserved c =
    let harts = c.loop.harts.items in
    let more = c.in_ok-cold_hart.field-0 in
    record {
      counted =
          omega (arith, ap (λ (xs : List Hart). length xs) c.push_reserved.ensures.items, length_push harts more, c.loop.invariant.counted);
      room = c.push_reserved.ensures.capacity ∙ c.loop.invariant.room;
      cold =
          subst (All (IsColdHart (levels_by c.args.off (hardware_model c.args.hardware.now)) c.args.l2.now))
          (sym {A = List Hart} c.push_reserved.ensures.items)
          (All-push (IsColdHart (levels_by c.args.off (hardware_model c.args.hardware.now)) c.args.l2.now) harts more c.loop.invariant.cold
          c.in_ok-cold_hart.ensures.cold);
    }

pub cold_hart-requires : goal.cold_hart-requires
cold_hart-requires c = record { hardware = c.requires.hardware; l2 = c.requires.l2 }

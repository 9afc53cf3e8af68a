use Rattle.std.proofs.Common.{length, map, refl, arith}
use Rattle.std.proofs.lemmas.Option.{slice_get_read}
use Rattle.mail_slots.specs.Models.{box_model}
use Rattle.mail_slots.proofs.Calls.{cause_unreceived}
use Rattle.mail_slots.proofs.Slots.{unchanged_in, received_in, not_received}
use Rattle.mail_slots.proofs.mail.Mail.recv.Goals as goal

pub returns : goal.returns
returns c =
    let slots = c.self.inside.slots.items in
    let old = c.index_mut.result.now in
    let there =
    slice_get_read slots (length slots) c.args.a old refl (omega (arith, c.if-a-len.false, c.len.ensures))
    c.index_mut.ensures.value in
    let not_done = not_received c.args.d c.args.a slots old c.take_out.result there c.take_out.ensures.refused in
    record {
      received =
          rw (← c.self.view_is)
          (received_in c.args.d c.args.a slots old c.take_out.new.slot c.take_out.result there c.take_out.ensures.taken);
      refused = rw (← c.self.view_is) not_done;
      cause =
          rw (← c.self.view_is)
          (cause_unreceived c.args.d c.args.a (map box_model slots) c.take_out.result not_done);
      unchanged =
          rw (← c.self.view_is)
          (unchanged_in slots c.args.a old c.take_out.new.slot c.take_out.result there c.take_out.ensures.unchanged);
    }

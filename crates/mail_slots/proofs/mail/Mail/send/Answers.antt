use Rattle.std.proofs.Common.{length, map, refl, arith}
use Rattle.std.proofs.lemmas.Option.{slice_get_read}
use Rattle.mail_slots.specs.Models.{box_model}
use Rattle.mail_slots.proofs.Calls.{cause_unsent}
use Rattle.mail_slots.proofs.Slots.{unchanged_in, sent_in, not_sent}
use Rattle.mail_slots.proofs.mail.Mail.send.Goals as goal

pub returns : goal.returns
returns c =
    let slots = c.self.inside.slots.items in
    let old = c.index_mut.result.now in
    let there =
    slice_get_read slots (length slots) c.args.a old refl (omega (arith, c.if-a-len.false, c.len.ensures))
    c.index_mut.ensures.value in
    let not_done = not_sent c.args.d c.args.a c.args.word slots old c.put_in.result there c.put_in.ensures.refused in
    record {
      sent =
          rw (← c.self.view_is)
          (sent_in c.args.d c.args.a c.args.word slots old c.put_in.new.slot c.put_in.result there c.put_in.ensures.put);
      refused = rw (← c.self.view_is) not_done;
      cause =
          rw (← c.self.view_is)
          (cause_unsent c.args.d c.args.a c.args.word (map box_model slots) c.put_in.result not_done);
      unchanged =
          rw (← c.self.view_is)
          (unchanged_in slots c.args.a old c.put_in.new.slot c.put_in.result there c.put_in.ensures.unchanged);
    }

use Rattle.std.proofs.Common.{map, ap}
use Rattle.image_record.specs.Parts.{mailbox_model}
use Rattle.image_redact.proofs.Leading.{first_led, one_more_led}
use Rattle.image_redact.proofs.keeping.kept_domains.Goals as goal

pub loop-init : goal.loop-init
loop-init c =
    first_led (map mailbox_model c.args.raw.now.mail.items) c.len-domains.result c.args.d c.in_ok-kept.kept.items
    c.in_ok-kept.ensures.kept

pub loop-preserved : goal.loop-preserved
loop-preserved c =
    one_more_led (map mailbox_model c.args.raw.now.mail.items) (map mailbox_model c.as_slice.result.now)
    c.len-domains.result c.args.d c.loop.counter c.loop.kept.items c.as_slice-in-loop.result.now c.in_ok-kept-2.kept.items
    (ap (map mailbox_model) c.as_slice.ensures.value) c.as_slice-in-loop.ensures.value c.loop.invariant
    c.in_ok-kept-2.ensures.kept

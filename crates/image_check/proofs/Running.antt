-- That an image that breaks no rule is runnable; and what the rules but that of pads give of it.
use Rattle.std.proofs.Common.{◌≡◌, length, map, sym, ap, arith}
use Rattle.std.proofs.lemmas.List.{length-map}
use Rattle.std.proofs.lemmas.List.Elements.{All-map}
use Rattle.image_record.specs.Numbers.{natural_of}
use Rattle.sched_table.specs.declared.schedule.Entry.{Entry}
use Rattle.sched_table.proofs.Harts.{one_hart_law as on_one_hart}
use Rattle.hardware_check.specs.Hardware.{hardware_of}
use Rattle.hardware_check.proofs.Built.{hardware_law}
use Rattle.schedule_check.specs.Schedule.{entry_of}
use Rattle.image_check.specs.Public.{public_of}
use Rattle.image_check.specs.Laws.{NamedLaw, HartsLaw, OneHartLaw, RunnableLaw}
use Rattle.image_check.proofs.Kept.{kept, kept_but_pads, none_but_pads, keeps_hardware, domains_within}
use Rattle.schedule_check.proofs.Counts.{entries_pass}
use Rattle.schedule_check.proofs.Entries.{entry_in_passed, schedule_sound}
use Rattle.schedule_check.proofs.HartsKept.{harts_kept}
use Rattle.schedule_check.proofs.MailKept.{mail_kept}
use Rattle.image_check.proofs.Padded.{pads_enough}
use Rattle.image_check.proofs.Owns.{owns_length, owns_numbered, owns_sound, lines_owned}
use Rattle.image_check.proofs.Shares.{disjoint_colours, pools_enough}

pub named_law : NamedLaw
unfolding public_of
named_law i n =
    let rules = (kept_but_pads i n).before in
    let pass = entries_pass i rules.schedule in
    let many = owns_length i in
    let long = length-map i.schedule entry_of in
    record {
      counted = sym many;
      schedule = schedule_sound i rules.schedule;
      named = λ e l. omega (arith, many, (entry_in_passed (length i.domains) i.schedule pass e (omega (arith, long, l))).domain);
    }

pub harts_law : HartsLaw
unfolding public_of
harts_law i e = harts_kept i (kept_but_pads i e).harts

pub one_hart_law : OneHartLaw
unfolding public_of entry_of
one_hart_law i on =
    on_one_hart (map entry_of i.schedule) (All-map (λ (e : Entry). e.hart ≡ 0) entry_of i.schedule (λ k d l. ap natural_of (on k d l)))

pub runnable_law : RunnableLaw
unfolding public_of hardware_of
runnable_law i ranges n =
    let rules = (kept i n).others.before in
    let domains = domains_within i rules.domains in
    let named = named_law i (none_but_pads i n) in
    let pass = entries_pass i rules.schedule in
    let many = owns_length i in
    let long = length-map i.schedule entry_of in
    record {
      counted = named.counted;
      some_domain = omega (arith, many, domains.least);
      few_domains = omega (arith, many, domains.most);
      hardware = hardware_law i (keeps_hardware i rules);
      disjoint = disjoint_colours i rules;
      pools = λ d l. pools_enough i rules d (omega (arith, many, l));
      schedule = named.schedule;
      named = named.named;
      lasting = λ e l. (entry_in_passed (length i.domains) i.schedule pass e (omega (arith, long, l))).lasting;
      harts = harts_law i (none_but_pads i n);
      padded = λ e l. pads_enough i (kept i n) e (omega (arith, long, l));
      sound = owns_sound i ranges rules;
      boxes = mail_kept i (kept i n).others.mail;
      numbered = λ d l. owns_numbered i d (omega (arith, many, l));
      owned = λ d e n l m. lines_owned i rules.lines d e n (omega (arith, many, l)) (omega (arith, many, m));
    }

use Rattle.std.proofs.Common.{◌≡◌, ◌∙◌, length, ap, sym, subst, arith}
use Rattle.image_record.specs.Models.{raw_model}
use Rattle.image_record.specs.Parts.{domain_model}
use Rattle.std.proofs.lemmas.List.{length-map}
use Rattle.sched_table.specs.Schedule.{IsSchedule, AreHarts, hart_schedules}
use Rattle.image_check.proofs.Kept.{kept_but_pads, few_raw_domains, public_made}
use Rattle.schedule_check.proofs.Entries.{schedule_sound}
use Rattle.schedule_check.proofs.HartsKept.{harts_kept}
use Rattle.image_check.proofs.public.making.public_of.Goals as goal

pub harts_of-requires : goal.harts_of-requires
harts_of-requires c =
    let i = raw_model c.args.raw.now in
    let rules = kept_but_pads i c.requires.accepted in
    record {
      schedule = subst IsSchedule (sym c.requires.entries) (schedule_sound i rules.before.schedule);
      harts = subst AreHarts (sym c.requires.entries) (harts_kept i rules.harts);
    }

pub schedule_of-requires : goal.schedule_of-requires
schedule_of-requires c =
    let i = raw_model c.args.raw.now in
    record { schedule = subst IsSchedule (sym c.requires.entries) (schedule_sound i (kept_but_pads i c.requires.accepted).before.schedule) }

pub overflow_cast-domains : goal.overflow_cast-domains
overflow_cast-domains c = omega (arith, c.len-domains.ensures, few_raw_domains c.args.raw.now c.requires.accepted)

pub invariant_of-result : goal.invariant_of-result
invariant_of-result c = record { each_hart = c.in_ok-harts.ensures.value ∙ ap hart_schedules (sym c.in_ok-schedule.ensures.value) }

pub returns : goal.returns
returns c =
    let i = raw_model c.args.raw.now in
    let many : c.len-domains.result ≡ length i.domains =
    omega (arith, c.len-domains.ensures, length-map c.args.raw.now.domains.items domain_model) in
    record { value = public_made i _ _ _ _ c.requires.hardware (c.in_ok-schedule.ensures.value ∙ c.requires.entries) many c.requires.mail }

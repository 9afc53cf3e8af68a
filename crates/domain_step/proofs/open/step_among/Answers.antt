-- A delivery to any domain, or the running one's own event.
use Rattle.std.proofs.Common.{◌≡◌, ◌∙◌, ℕ, ◌+◌, ◌<◌, List, length, Some, None, true, false, ap, sym, subst, arith}
use Rattle.std.specs.Prelude.{slice_index_or, option_map}
use Rattle.irq_partition.specs.declared.Moment.{Moment}
use Rattle.irq_partition.specs.Interrupts.{next_of}
use Rattle.call_table.specs.declared.DomainStatus.TheVariants.{Running}
use Rattle.std.proofs.lemmas.Bool.{false≢true}
use Rattle.std.proofs.lemmas.List.{get_or_default, length-set}
use Rattle.std.proofs.lemmas.Option.{slice_get-get_or, slice_get_within, same_Some}
use Rattle.kernel_clone.specs.Footprints.{IsLayout}
use Rattle.kernel_call.specs.declared.domain.Domain.{Domain}
use Rattle.kernel_call.specs.declared.log.Log.{Log}
use Rattle.kernel_call.specs.Models.{CountsUpTo}
use Rattle.call_table.specs.Domain.{is_running}
use Rattle.world_view.specs.Machine.{guards_of, setting_by, part_of}
use Rattle.world_view.proofs.opening.Separate.{separated}
use Rattle.world_view.proofs.runs.GuardLaws.{are_guards}
use Rattle.domain_step.proofs.Moved.{due_line, due_left, not_running}
use Rattle.domain_step.proofs.Counts.{counts_later}
use Rattle.domain_step.specs.OpenSlot.{owned, first_among}
use Rattle.domain_step.proofs.Elements.{each_set}
use Rattle.domain_step.proofs.Moments.{comes_of, found, none_found}
use Rattle.domain_step.proofs.InSlot.{in_slot}
use Rattle.domain_step.proofs.Among.{own_stands, due_stands}
use Rattle.domain_step.proofs.open.step_among.Goals as goal
use Rattle.mem_system.specs.Contents.{system}
use Rattle.domain_step.proofs.open.step_among.Goals.{in-Running+in_default-first_due, in_default}

-- ---- a moment is due

pub bounds-domains-due : goal.bounds-domains-due
bounds-domains-due c =
    let domains : List Domain = c.args.domains.now in
    let comes = comes_of c.args.now domains c.in-Some.due c.first_due.result c.first_due.ensures.first
    c.in-Some.is in
    slice_get_within domains c.in-Some.due.owner comes.domain comes.got

pub offset_bounds-domains-due : goal.offset_bounds-domains-due
offset_bounds-domains-due c =
    let s = c.requires.stands in
    let within = bounds-domains-due c in
    omega (arith, within, s.stands.all_domains, s.stands.runnable.few_domains)

pub deliver-work-requires-clause-left : goal.deliver-work-requires-clause-left
deliver-work-requires-clause-left c =
    let domains : List Domain = c.args.domains.now in
    let comes = comes_of c.args.now domains c.in-Some.due c.first_due.result c.first_due.ensures.first
    c.in-Some.is in
    let within = slice_get_within domains c.in-Some.due.owner comes.domain comes.got in
    let y : Domain = slice_index_or domains c.in-Some.due.owner c.index-domains-due.result in
    let same : comes.domain ≡ y =
    same_Some comes.domain y (sym comes.got
    ∙ slice_get-get_or domains c.in-Some.due.owner c.index-domains-due.result within) in
    subst (λ (x : Domain). x.interrupts.delivered < length x.interrupts.moments) same
    (due_left comes.domain.interrupts c.args.now c.in-Some.due.line comes.due)

pub deliver-work-requires-clause-replies : goal.deliver-work-requires-clause-replies
deliver-work-requires-clause-replies c =
    let domains : List Domain = c.args.domains.now in
    let comes = comes_of c.args.now domains c.in-Some.due c.first_due.result c.first_due.ensures.first
    c.in-Some.is in
    let within = slice_get_within domains c.in-Some.due.owner comes.domain comes.got in
    let few = c.requires.few c.in-Some.due.owner _
    (slice_get-get_or domains c.in-Some.due.owner c.index-domains-due.result within) in
    omega (arith, few.replies, c.requires.before, c.requires.end)

pub charge-requires-clause-layout : goal.charge-requires-clause-layout
charge-requires-clause-layout c =
    let domains : List Domain = c.args.domains.now in
    let s = c.requires.stands in
    let x : Domain = slice_index_or domains c.args.d c.index-domains-d.result in
    let got = slice_get-get_or domains c.args.d c.index-domains-d.result c.requires.domain in
    subst IsLayout (sym (s.stands.each_domain c.args.d x got).layout)
    ((are_guards s.image (separated s.image s.stands.runnable) s.off).layout c.args.d s.stands.domain)

pub returns-in-Some-clause-becomes : goal.returns-in-Some-clause-becomes
returns-in-Some-clause-becomes c off i w is =
    let domains : List Domain = c.args.domains.now in
    let due = c.in-Some.due in
    let first = found c.args.now domains due c.first_due.result c.first_due.ensures.first c.in-Some.is in
    let comes = comes_of c.args.now domains due c.first_due.result c.first_due.ensures.first c.in-Some.is in
    let within = slice_get_within domains due.owner comes.domain comes.got in
    let x : Domain = slice_index_or domains c.args.d c.index-domains-d.result in
    let y : Domain = slice_index_or domains due.owner c.index-domains-due.result in
    let got = slice_get-get_or domains c.args.d c.index-domains-d.result c.requires.domain in
    let of_owner = slice_get-get_or domains due.owner c.index-domains-due.result within in
    let same : comes.domain ≡ y = same_Some comes.domain y (sym comes.got ∙ of_owner) in
    let line : option_map (λ (m : Moment). m.line) (next_of y.interrupts) ≡ Some due.line =
    subst (λ (z : Domain). option_map (λ (m : Moment). m.line) (next_of z.interrupts) ≡ Some due.line) same
    (due_line comes.domain.interrupts c.args.now due.line comes.due) in
    let runs : x.status ≡ Running = ap (λ (z : Domain). z.status)
    (get_or_default domains c.args.d _ _ c.requires.domain) ∙ c.in-Running.is in
    due_stands off i c.args.d w c.args.memory.now c.args.mail.now (system c.args.core.now c.args.l2.now)
    domains c.args.now is c.args.end x y
    c.deliver-work.new.domain (owned due)
    _ (system c.charge.new.core c.charge.new.l2) c.charge.result (c.args.now + c.from.result) got runs of_owner first
    (c.deliver-work.ensures.delivers due.line line) c.deliver-work.ensures.keeps c.deliver-work.ensures.work
    c.charge.ensures.makes c.charge.ensures.buffer (ap (λ (n : ℕ). c.args.now + n) c.from.ensures)

pub returns-in-Some-clause-few : goal.returns-in-Some-clause-few
returns-in-Some-clause-few c =
    let domains : List Domain = c.args.domains.now in
    let later : ℕ = c.args.now + c.from.result in
    let due = c.in-Some.due in
    let comes = comes_of c.args.now domains due c.first_due.result c.first_due.ensures.first c.in-Some.is in
    let within = slice_get_within domains due.owner comes.domain comes.got in
    let of_owner = slice_get-get_or domains due.owner c.index-domains-due.result within in
    let was = c.requires.few due.owner _ of_owner in
    let keeps = c.deliver-work.ensures.keeps in
    let some = c.charge.ensures.some in
    let cycles = c.from.ensures in
    each_set (λ j x. CountsUpTo c.args.now x) (λ j x. CountsUpTo later x) domains due.owner
    c.deliver-work.new.domain within
    (record {
      retired = omega (arith, was.retired, keeps.retired);
      readings = omega (arith, was.readings, ap (λ (l : Log ℕ). l.count) keeps.readings);
      replies = omega (arith, was.replies, keeps.replies, some, cycles);
    })
    (λ j x apart few. counts_later c.args.now later x (omega arith) few) c.requires.few

-- ---- the domain's own event

pub step-requires-clause-runs : goal.step-requires-clause-runs
step-requires-clause-runs c =
    let domains : List Domain = c.args.domains.now in
    let s = c.requires.stands in
    let got = slice_get-get_or domains c.args.d c.index-domains-d-2.result c.requires.domain in
    record {
      setting = setting_by (guards_of s.off s.image) s.image c.args.d;
      state = part_of 0 c.args.d s.world;
      stands_in =
          in_slot s.off s.image c.args.d s.world c.args.memory.now c.args.mail.now
          (system c.args.core.now c.args.l2.now) domains c.args.now s.stands _ got;
    }

pub step-requires-clause-few : goal.step-requires-clause-few
step-requires-clause-few c =
    c.requires.few c.args.d _ (slice_get-get_or c.args.domains.now c.args.d c.index-domains-d-2.result
    c.requires.domain)

pub returns-clause-few : goal.returns-clause-few
returns-clause-few c =
    let domains : List Domain = c.args.domains.now in
    each_set (λ j x. CountsUpTo c.args.now x) (λ j x. CountsUpTo c.step.result x) domains c.args.d
    c.step.new.domain c.requires.domain
    c.step.ensures.few
    (λ j x apart few. counts_later c.args.now c.step.result x (omega (arith, c.step.ensures.later)) few)
    c.requires.few

pub returns-clause-becomes : goal.returns-clause-becomes
returns-clause-becomes c off i w is =
    let domains : List Domain = c.args.domains.now in
    let x : Domain = slice_index_or domains c.args.d c.index-domains-d-2.result in
    let got = slice_get-get_or domains c.args.d c.index-domains-d-2.result c.requires.domain in
    let none : is_running x.status ≡ true → first_among c.args.now domains (length domains) ≡ None =
    λ runs. elim c.match-domains-d.branch [
      | in-Running+in_default-first_due b ↦
          none_found c.args.now domains b.first_due.result b.first_due.ensures.first
          b.in_default-first_due.not-Some
      | in_default b ↦
          let still : is_running x.status ≡ false =
          ap (λ (z : Domain). is_running z.status) (get_or_default domains c.args.d _ _ c.requires.domain)
          ∙ not_running _ b.in_default.not-Running in
          absurd (false≢true (sym still ∙ runs))
    ] in
    own_stands off i c.args.d w c.args.memory.now c.args.mail.now (system c.args.core.now c.args.l2.now)
    domains c.args.now is c.args.end x
    c.step.new.domain
    c.step.new.memory c.step.new.mail (system c.step.new.core c.step.new.l2) c.step.result got none
    (c.step.ensures.becomes (setting_by (guards_of off i) i c.args.d) (part_of 0 c.args.d w)
    (in_slot off i c.args.d w c.args.memory.now c.args.mail.now (system c.args.core.now c.args.l2.now)
    domains c.args.now is x got))

pub charge-requires-clause-work : goal.charge-requires-clause-work
charge-requires-clause-work c = c.deliver-work.ensures.is_work

pub overflow_add-result : goal.overflow_add-result
overflow_add-result c = omega (arith, c.requires.before, c.requires.end, c.charge.ensures.few, c.from.ensures)

pub returns-in-Some-clause-same : goal.returns-in-Some-clause-same
returns-in-Some-clause-same c = length-set c.args.domains.now c.in-Some.due.owner c.deliver-work.new.domain

pub returns-in-Some-clause-later : goal.returns-in-Some-clause-later
returns-in-Some-clause-later c = omega (arith, c.charge.ensures.some, c.from.ensures)

pub returns-in-Some-clause-soon : goal.returns-in-Some-clause-soon
returns-in-Some-clause-soon c = omega (arith, c.requires.before, c.charge.ensures.few, c.from.ensures)

pub step-requires-clause-frames : goal.step-requires-clause-frames
step-requires-clause-frames c =
    let s = c.requires.stands in
    let most = (separated s.image s.stands.runnable).hardware.most_frames in
    omega (arith, most, s.stands.machine.frames)

pub step-requires-clause-before : goal.step-requires-clause-before
step-requires-clause-before c = c.requires.before

pub step-requires-clause-end : goal.step-requires-clause-end
step-requires-clause-end c = c.requires.end

pub returns-clause-same : goal.returns-clause-same
returns-clause-same c = length-set c.args.domains.now c.args.d c.step.new.domain

pub returns-clause-later : goal.returns-clause-later
returns-clause-later c = c.step.ensures.later

pub returns-clause-soon : goal.returns-clause-soon
returns-clause-soon c = c.step.ensures.soon

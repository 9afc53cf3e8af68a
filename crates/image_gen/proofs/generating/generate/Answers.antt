use Rattle.std.proofs.Common.{◌≡◌, ◌+◌, ◌*◌, ◌%◌, ◌++◌, string_bytes, refl, ap, ap₂, ◌∙◌, sym, append-nil, arith}
use Rattle.seed_words.specs.Words.{word, after, seeded}
use Rattle.image_gen.specs.Generated.{count, at_domain}
use Rattle.image_gen.specs.Text.{heading, machine_text, front, domain_text, domains_text, schedule_title, slot_text, slots_text}
use Rattle.seed_words.proofs.Draws.{after_next, after_none, word_here}
use Rattle.image_record.proofs.Loops.{no_value}
use Rattle.std.proofs.lemmas.Str.{IsUtf8-string_bytes}
use Rattle.image_gen.proofs.Pieces.{written_more, written_under, titled, whole_text}
use Rattle.image_gen.proofs.ReadBack.{read_back}
use Rattle.image_gen.proofs.generating.generate.Goals as goal

pub loop-number-preserved : goal.loop-number-preserved
unfolding domains_text
loop-number-preserved c =
    let seed = c.args.seed in
    let k = c.loop-number.number in
    let h = c.loop-number.words in
    let (counted, so_far, at_words) = c.loop-number.invariant in (
      counted,
      written_more (λ d. domain_text d (at_domain seed d)) k (front seed) (string_bytes c.loop-number.text) _
          (domain_text k h) so_far (ap (domain_text k) at_words) c.in_ok-write_domain.ensures.added,
      c.in_ok-write_domain.ensures.drawn ∙ after_next (1 + 72 * k) 72 (1 + 72 * (k + 1)) (seeded seed) h at_words (omega arith),
    )

pub loop-number-2-init : goal.loop-number-2-init
unfolding slots_text
loop-number-2-init c =
    let seed = c.args.seed in
    let (counted, so_far, at_words) = c.loop-number.invariant in
    let all : c.loop-number.number ≡ count seed = omega (arith, c.loop-number-test.false, c.loop-number.auto.number-end, counted) in (
      counted,
      titled (front seed) (domains_text seed (count seed)) schedule_title (string_bytes c.loop-number.text) _
          (rw all at so_far) c.in_ok-write_schedule_title.ensures.added,
      (rw all at at_words) ∙ sym (after_none (at_domain seed (count seed))),
    )

pub loop-number-2-preserved : goal.loop-number-2-preserved
unfolding slots_text
loop-number-2-preserved c =
    let seed = c.args.seed in
    let k = c.loop-number-2.number in
    let g = at_domain seed (count seed) in
    let h = c.loop-number-2.words in
    let (counted, so_far, at_words) = c.loop-number-2.invariant in
    let drawn = c.draw-in-loop-number-2.ensures.value ∙ word_here k g h at_words in (
      counted,
      written_under (λ d. slot_text d (word g d)) k (front seed) (domains_text seed (count seed))
          schedule_title (string_bytes c.loop-number-2.text) _ (slot_text k c.draw-in-loop-number-2.result)
          so_far (ap (slot_text k) drawn) c.in_ok-write_slot.ensures.added,
      c.draw-in-loop-number-2.ensures.drawn ∙ after_next k 1 (k + 1) g h at_words refl,
    )

pub returns-clause-reads : goal.returns-clause-reads
returns-clause-reads c =
    let (counted, written, at_words) = c.loop-number-2.invariant in
    let all : c.loop-number-2.number ≡ count c.args.seed =
    omega (arith, c.loop-number-2-test.false, c.loop-number-2.auto.number-end, counted) in
    read_back c.args.seed c.ranges.seed.fits (string_bytes c.loop-number-2.text)
    (IsUtf8-string_bytes c.loop-number-2.text)
    (whole_text c.args.seed (string_bytes c.loop-number-2.text) (rw all at written))

pub returns-in_err-write_heading-clause-text : goal.returns-in_err-write_heading-clause-text
returns-in_err-write_heading-clause-text c = no_value c.from_residual.result _ c.from_residual.ensures.0

pub returns-in_err-write_heading-clause-reads : goal.returns-in_err-write_heading-clause-reads
returns-in_err-write_heading-clause-reads c = no_value c.from_residual.result _ c.from_residual.ensures.0

pub returns-in_err-write_heading-clause-accepted : goal.returns-in_err-write_heading-clause-accepted
returns-in_err-write_heading-clause-accepted c = c.accepted.ensures.accepted

pub returns-in_err-write_machine-clause-text : goal.returns-in_err-write_machine-clause-text
returns-in_err-write_machine-clause-text c =
    no_value c.from_residual-in_err-write_machine.result _ c.from_residual-in_err-write_machine.ensures.0

pub returns-in_err-write_machine-clause-reads : goal.returns-in_err-write_machine-clause-reads
returns-in_err-write_machine-clause-reads c =
    no_value c.from_residual-in_err-write_machine.result _ c.from_residual-in_err-write_machine.ensures.0

pub returns-in_err-write_machine-clause-accepted : goal.returns-in_err-write_machine-clause-accepted
returns-in_err-write_machine-clause-accepted c = c.accepted.ensures.accepted

pub returns-in_err-write_domain-clause-text : goal.returns-in_err-write_domain-clause-text
returns-in_err-write_domain-clause-text c =
    no_value c.from_residual-in_err-write_domain.result _ c.from_residual-in_err-write_domain.ensures.0

pub returns-in_err-write_domain-clause-reads : goal.returns-in_err-write_domain-clause-reads
returns-in_err-write_domain-clause-reads c =
    no_value c.from_residual-in_err-write_domain.result _ c.from_residual-in_err-write_domain.ensures.0

pub returns-in_err-write_domain-clause-accepted : goal.returns-in_err-write_domain-clause-accepted
returns-in_err-write_domain-clause-accepted c = c.accepted.ensures.accepted

pub returns-in_err-write_schedule_title-clause-text : goal.returns-in_err-write_schedule_title-clause-text
returns-in_err-write_schedule_title-clause-text c =
    no_value c.from_residual-in_err-write_schedule_title.result _
    c.from_residual-in_err-write_schedule_title.ensures.0

pub returns-in_err-write_schedule_title-clause-reads : goal.returns-in_err-write_schedule_title-clause-reads
returns-in_err-write_schedule_title-clause-reads c =
    no_value c.from_residual-in_err-write_schedule_title.result _
    c.from_residual-in_err-write_schedule_title.ensures.0

pub returns-in_err-write_schedule_title-clause-accepted : goal.returns-in_err-write_schedule_title-clause-accepted
returns-in_err-write_schedule_title-clause-accepted c = c.accepted.ensures.accepted

pub returns-in_err-write_slot-clause-text : goal.returns-in_err-write_slot-clause-text
returns-in_err-write_slot-clause-text c = no_value c.from_residual-in_err-write_slot.result _ c.from_residual-in_err-write_slot.ensures.0

pub returns-in_err-write_slot-clause-reads : goal.returns-in_err-write_slot-clause-reads
returns-in_err-write_slot-clause-reads c = no_value c.from_residual-in_err-write_slot.result _ c.from_residual-in_err-write_slot.ensures.0

pub returns-in_err-write_slot-clause-accepted : goal.returns-in_err-write_slot-clause-accepted
returns-in_err-write_slot-clause-accepted c = c.accepted.ensures.accepted

pub loop-number-init : goal.loop-number-init
unfolding count domains_text
loop-number-init c =
    let seed = c.args.seed in
    let first = c.draw.ensures.value ∙ ap (λ g. word g 0) c.seeded-words.ensures.value in
    let headed = c.in_ok-write_heading.ensures.added ∙ ap (λ s. s ++ heading seed) c.new-text.ensures.bytes in (
      ap (λ w. 2 + w % 4) first,
      c.in_ok-write_machine.ensures.added ∙ ap₂ (λ s p. s ++ machine_text p) headed c.policy_of.ensures.value
          ∙ sym (append-nil (front seed)),
      c.draw.ensures.drawn ∙ ap (after 1) c.seeded-words.ensures.value,
    )

pub overflow_add-count : goal.overflow_add-count
overflow_add-count c = omega arith

pub write_domain-requires : goal.write_domain-requires
write_domain-requires c = record { number = omega (arith, c.loop-number-test.true) }

pub returns-clause-accepted : goal.returns-clause-accepted
returns-clause-accepted c = c.accepted.ensures.accepted

pub returns-clause-text : goal.returns-clause-text
returns-clause-text c =
    let (counted, written, at_words) = c.loop-number-2.invariant in
    let all : c.loop-number-2.number ≡ count c.args.seed =
    omega (arith, c.loop-number-2-test.false, c.loop-number-2.auto.number-end, counted) in
    whole_text c.args.seed (string_bytes c.loop-number-2.text) (rw all at written)

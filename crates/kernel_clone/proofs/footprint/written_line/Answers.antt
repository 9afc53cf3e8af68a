use Rattle.std.proofs.Common.{◌≡◌, ◌∙◌, ◌<◌, ◌≤◌, ℕ, length, ap, sym, subst, refl, arith, rules}
use Rattle.kernel_clone.specs.Laws.{zeroed_count}
use Rattle.kernel_clone.specs.Models.{layout_model, work_model}
use Rattle.kernel_clone.proofs.Items.{zeroed_item, past_zeroed, plain_written, length-taken}
use Rattle.kernel_clone.proofs.footprint.written_line.Goals as goal

pub returns-then-place-lines : goal.returns-then-place-lines
returns-then-place-lines c = record {
  touch = rw (c.line_of.ensures.value, c.new.ensures.value)
      (zeroed_item (layout_model c.args.layout.now) (work_model c.args.work.now) c.in-Some.frame c.args.place c.in-Some.is
      (subst (λ (n : ℕ). c.args.place < n) c.lines_in_frame-lines.ensures.value c.if-place-lines.true));
}

pub entry_line-requires-clause-below : goal.entry_line-requires-clause-below
entry_line-requires-clause-below c =
    let whole : length c.args.work.now.entries ≡ 64 = search rules in
    let few : c.args.work.now.count ≤ length c.args.work.now.entries = (let most = c.requires.work.few in omega (arith, most, whole)) in
    let all =
    length-taken (layout_model c.args.layout.now) (work_model c.args.work.now) c.args.work.now.entries
    c.args.work.now.count c.lines_in_frame-lines.result refl few
    (ap (zeroed_count (layout_model c.args.layout.now)) c.in-Some.is ∙ sym c.lines_in_frame-lines.ensures.value) in
    let below = c.requires.below in
    let past = c.if-place-lines.false in
    omega (arith, all, below, past)

pub entry_line-requires-in-None-clause-below : goal.entry_line-requires-in-None-clause-below
entry_line-requires-in-None-clause-below c =
    let whole : length c.args.work.now.entries ≡ 64 = search rules in
    let few : c.args.work.now.count ≤ length c.args.work.now.entries = (let most = c.requires.work.few in omega (arith, most, whole)) in
    let all =
    length-taken (layout_model c.args.layout.now) (work_model c.args.work.now) c.args.work.now.entries
    c.args.work.now.count 0 refl few
    (ap (zeroed_count (layout_model c.args.layout.now)) c.in-None.is) in
    let below = c.requires.below in
    omega (arith, all, below)

pub returns-else-place-lines : goal.returns-else-place-lines
returns-else-place-lines c =
    let lines : zeroed_count (layout_model c.args.layout.now) c.args.work.now.zeroed ≡ c.lines_in_frame-lines.result =
    ap (zeroed_count (layout_model c.args.layout.now)) c.in-Some.is ∙ sym c.lines_in_frame-lines.ensures.value in
    record {
      touch =
          past_zeroed (layout_model c.args.layout.now) (work_model c.args.work.now) c.args.place
          c.lines_in_frame-lines.result lines c.if-place-lines.false
          ∙ c.entry_line.ensures.touch;
    }

pub returns-in-None : goal.returns-in-None
returns-in-None c = record {
  touch =
      plain_written (layout_model c.args.layout.now) (work_model c.args.work.now) c.args.place c.in-None.is
      ∙ c.entry_line-in-None.ensures.touch;
}

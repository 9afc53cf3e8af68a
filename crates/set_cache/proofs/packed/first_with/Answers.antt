use Rattle.std.proofs.Common.{◌≡◌, ◌<◌, ℕ, true, false, length, get_or, sym, ◌∙◌, arith, rules}
use Rattle.std.specs.Prelude.{is_none}
use Rattle.set_cache.specs.declared.packed.Entry.{Entry}
use Rattle.set_cache.specs.Cache.{is_line}
use Rattle.set_cache.specs.Packed.{line_in}
use Rattle.set_cache.proofs.Filling.{fails_more, none_after, none_passes, passes_first}
use Rattle.set_cache.proofs.packed.first_with.Goals as goal

pub returns-then-is_empty : goal.returns-then-is_empty
returns-then-is_empty c =
    let entry : Entry = record { number = 0; dirty = false; epoch = 0 } in
    let before : (k : ℕ) → k < 2
    → is_line c.args.number (line_in c.args.epoch (get_or c.args.entries.now k entry)) ≡ false =
    search rules in
    let empty : is_none (line_in c.args.epoch (get_or c.args.entries.now 2 entry)) ≡ true = search rules in
    record {
      value = sym (none_after (line_in c.args.epoch) c.args.entries.now entry c.args.number 2 c.requires.first (search rules) empty before);
    }

pub returns-then-keeps-3 : goal.returns-then-keeps-3
returns-then-keeps-3 c =
    let entry : Entry = record { number = 0; dirty = false; epoch = 0 } in
    record {
      value = sym (passes_first (λ (e : Entry). is_line c.args.number (line_in c.args.epoch e)) c.args.entries.now entry c.loop-way.way
          c.loop-way-test.true (sym c.keeps-in-loop-way.ensures.value ∙ c.if-keeps-3.true)
          (λ k before. c.loop-way.invariant.none k entry before));
    }

pub returns : goal.returns
returns c =
    let entry : Entry = record { number = 0; dirty = false; epoch = 0 } in
    let over = c.loop-way-test.false in
    record {
      value = sym (none_passes (λ (e : Entry). is_line c.args.number (line_in c.args.epoch e)) c.args.entries.now entry
          (λ k within. c.loop-way.invariant.none k entry (omega (arith, within, over))));
    }

pub loop-way-init : goal.loop-way-init
loop-way-init c =
    let entries = c.args.entries.now in
    let entry : Entry = record { number = 0; dirty = false; epoch = 0 } in
    let kept = λ (e : Entry). is_line c.args.number (line_in c.args.epoch e) in
    let two : 2 < length entries = search rules in
    let first : is_line c.args.number (line_in c.args.epoch (get_or entries 0 entry)) ≡ false = search rules in
    let second : is_line c.args.number (line_in c.args.epoch (get_or entries 1 entry)) ≡ false = search rules in
    record {
      within = omega (arith, two);
      none = fails_more kept entries 1 entry (omega (arith, two)) second
          (fails_more kept entries 0 entry (omega (arith, two)) first (λ k d below. absurd (omega (arith, below))));
    }

pub loop-way-preserved : goal.loop-way-preserved
loop-way-preserved c =
    let entry : Entry = record { number = 0; dirty = false; epoch = 0 } in
    record {
      within = omega (arith, c.loop-way-test.true);
      none = fails_more (λ (e : Entry). is_line c.args.number (line_in c.args.epoch e)) c.args.entries.now c.loop-way.way entry
          c.loop-way-test.true (sym c.keeps-in-loop-way.ensures.value ∙ c.if-keeps-3.false) c.loop-way.invariant.none;
    }

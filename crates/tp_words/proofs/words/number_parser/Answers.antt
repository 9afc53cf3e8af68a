use Rattle.std.proofs.Common.{◌≡◌, ℕ, ◌≤◌, Some, ap, subst, ◌∙◌, arith, pos, negsuc}
use Rattle.std.proofs.lemmas.Int.{ints, clamps, to_z-of_z}
use Rattle.std.specs.Range.{range_inclusive_start, range_inclusive_end}
use Rattle.std.specs.Int.{int_min, w64}
use Rattle.clap.specs.Words.{NarrowsTo, is_integer_parser, signed_between}
use Rattle.clap.specs.declared.builder.value_parser.ValueParser.{ValueParser}
use Rattle.clap.specs.declared.builder.value_parser.ValueParser.TheVariants.{Signed}
use Rattle.tp_words.proofs.words.number_parser.Goals as goal

-- what `value_parser!(i64)` takes
abbrev i64 : ValueParser
i64 = Signed (negsuc 9223372036854775807) (pos 9223372036854775807)

bounded : (greatest : ℕ) → greatest ≤ 4294967295
    → int_min (pos 9223372036854775807) (pos greatest) ≡ pos greatest
bounded greatest fits = omega (arith, ints, clamps, fits)

pub returns : goal.returns
returns c =
    let r = c.range.result in
    let start = range_inclusive_start c.new.result in
    let end = range_inclusive_end c.new.result in
    let last : end ≡ pos c.args.greatest =
    c.new.ensures.end ∙ to_z-of_z w64 c.from.result (record { sfits = c.from.type_inv })
    ∙ c.from.ensures in
    let all = subst (λ p. NarrowsTo p (Some start) (Some end) r) c.value_parser.ensures c.range.ensures in
    let from = subst (λ lo. NarrowsTo i64 (Some lo) (Some end) r) c.new.ensures.start all in
    let narrowed : r ≡ signed_between (pos 0) (int_min (pos 9223372036854775807) (pos c.args.greatest)) =
    subst (λ hi. NarrowsTo i64 (Some (pos 0)) (Some hi) r) last from in
    record { value = narrowed ∙ ap (signed_between (pos 0)) (bounded c.args.greatest (omega arith)) }

pub range-requires-clause-bounds : goal.range-requires-clause-bounds
range-requires-clause-bounds c = c.new.ensures.exhausted

pub range-requires-clause-integer : goal.range-requires-clause-integer
range-requires-clause-integer c = ap is_integer_parser c.value_parser.ensures

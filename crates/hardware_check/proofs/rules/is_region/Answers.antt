use Rattle.std.proofs.Common.{◌≡◌, ◌<◌, ◌%◌, rules, pos, to_z, of_z, w64, sym, ap, ap₂, subst, ◌∙◌, arith}
use Rattle.std.specs.Prelude.{ℤ, not, ◌&&◌, ◌==◌}
use Rattle.image_record.specs.Numbers.{IsNatural, natural_of}
use Rattle.image_record.specs.Cases.{outside}
use Rattle.hardware_check.specs.Rules.{is_region}
use Rattle.hardware_check.proofs.Parts.{natural_positive, natural_above}
use Rattle.hardware_check.proofs.rules.is_region.Goals as goal

pub returns-then-outside : goal.returns-then-outside
unfolding is_region
returns-then-outside c =
    let line : c.args.line ≡ to_z w64 (of_z w64 c.args.line) = search rules in
    let shared : c.args.shared ≡ to_z w64 (of_z w64 c.args.shared) = search rules in
    let out = ap₂ (λ l s. outside l (pos 65536) s) line shared ∙ sym c.if-outside.ensures.value in
    record { value = sym (ap (λ b. not b && natural_of c.args.shared % natural_of c.args.line == 0) out) }

pub natural_of-requires : goal.natural_of-requires
natural_of-requires c =
    let line : c.args.line ≡ to_z w64 (of_z w64 c.args.line) = search rules in
    let some = subst (λ (l : ℤ). 0 < natural_of l) line c.requires.line in
    record {
      natural =
          natural_above (to_z w64 (of_z w64 c.args.line)) (to_z w64 (of_z w64 c.args.shared)) some
          (sym c.if-outside.ensures.value);
    }

pub natural_of-requires-2 : goal.natural_of-requires-2
natural_of-requires-2 c =
    let line : c.args.line ≡ to_z w64 (of_z w64 c.args.line) = search rules in
    record { natural = subst IsNatural line (natural_positive c.args.line c.requires.line) }

pub nonzero_rem-result : goal.nonzero_rem-result
nonzero_rem-result c =
    let line : to_z w64 (of_z w64 c.args.line) ≡ c.args.line = search rules in
    let value = c.natural_of-2.ensures.value ∙ ap natural_of line in
    omega (arith, value, c.requires.line)

pub returns : goal.returns
unfolding is_region
returns c =
    let line : c.args.line ≡ to_z w64 (of_z w64 c.args.line) = search rules in
    let shared : c.args.shared ≡ to_z w64 (of_z w64 c.args.shared) = search rules in
    let out = ap₂ (λ l s. outside l (pos 65536) s) line shared ∙ sym c.if-outside.ensures.value in
    let numbers =
    ap₂ (λ s l. s % l == 0) (c.natural_of.ensures.value ∙ ap natural_of (sym shared))
    (c.natural_of-2.ensures.value ∙ ap natural_of (sym line)) in
    record { value = numbers ∙ sym (ap (λ b. not b && natural_of c.args.shared % natural_of c.args.line == 0) out) }

use Rattle.std.proofs.Common.{◌≡◌, ◌∙◌, ◌≤◌, ◌/◌, ℕ, Some, length, ap, sym, arith, rules}
use Rattle.std.specs.Prelude.{slice_index}
use Rattle.kernel_clone.specs.Footprints.{touch_of}
use Rattle.kernel_clone.specs.Models.{layout_model}
use Rattle.kernel_clone.specs.declared.Kind.TheVariants.{Store}
use Rattle.kernel_clone.proofs.Items.{taken_item}
use Rattle.kernel_clone.proofs.footprint.entry_line.Goals as goal

pub returns : goal.returns
returns c =
    let whole : length c.args.work.now.entries ≡ 64 = search rules in
    let few : c.args.work.now.count ≤ length c.args.work.now.entries = (let most = c.requires.work.few in omega (arith, most, whole)) in
    let entry : ℕ = slice_index c.args.work.now.entries c.args.place in
    let shifted : entry / c.args.layout.now.line ≡ c.new.result =
    ap (λ (size : ℕ). entry / size) c.line_bits.ensures.power ∙ sym c.new.ensures.value in
    record {
      touch = taken_item (layout_model c.args.layout.now) c.args.work.now.entries c.args.work.now.count c.args.place c.requires.below few
          ∙ ap (λ (line : ℕ). Some (touch_of Store line)) shifted;
    }

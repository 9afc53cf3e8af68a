use Rattle.std.proofs.Common.{◌≤◌, sym, subst, List, length, map}
use Rattle.std.specs.List.{All}
use Rattle.image_record.specs.declared.raw.RawDomain.{RawDomain}
use Rattle.image_record.specs.Parts.{domain_model}
use Rattle.image_check.specs.Own.{IsSmallOwn}
use Rattle.image_check.specs.Parts.{ArePartsOf}
use Rattle.image_check.proofs.Kept.{few_raw_domains}
use Rattle.image_check.proofs.Shares.{small_owns}
use Rattle.image_check.proofs.own.owns_of.Goals as goal

pub owns_in-requires : goal.owns_in-requires
owns_in-requires c =
    let all = small_owns c.args.raw.now c.requires.accepted in
    let same = sym c.as_slice.ensures.value in
    record {
      small = subst (All (λ o. IsSmallOwn (domain_model o))) same all;
      few = subst (λ (domains : List RawDomain). length domains ≤ 32) same (few_raw_domains c.args.raw.now c.requires.accepted);
      parts = subst (λ (domains : List RawDomain). ArePartsOf c.args.parts (map domain_model domains)) same c.requires.parts;
    }

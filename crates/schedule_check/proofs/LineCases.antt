-- Which of the cases of its rule a line has.
use Rattle.std.proofs.Common.{◌≡◌, ℕ, ◌<◌, ◌^◌, Bool, true, false, List, length, map, Option, Some, to_z, w64, sym, ap, ap₂, ◌∙◌}
use Rattle.std.specs.Prelude.{ℤ, pos, if◌then◌else◌}
use Rattle.std.proofs.lemmas.Int.{to_z_pos}
use Rattle.std.proofs.lemmas.List.{length-map}
use Rattle.image_record.specs.declared.refusal.Refusal.{Refusal}
use Rattle.image_record.specs.declared.raw.RawDomain as coded
use Rattle.image_record.specs.Parts.{domain_model}
use Rattle.image_record.specs.Cases.{refusal, outside}
use Rattle.schedule_check.proofs.Told.{told}
use Rattle.schedule_check.specs.Interrupts.{named_before, same_line, k14_line}

pub other_case : (domains : List coded.RawDomain) (earlier : List ℤ) (x y : ℤ) (r : Refusal)
    → length domains < 2 ^ 63 → y ≡ x → outside (pos 0) (pos 31) y ≡ true
    → r ≡ refusal 14 (to_z w64 (length domains)) y (pos 32) → k14_line (map domain_model domains) earlier x ≡ Some r
unfolding k14_line
other_case domains earlier x y r few same out is =
    let ds = map domain_model domains in
    ap (λ (b : Bool). if b then Some (refusal 14 (pos (length ds)) x (pos 32)) else same_line (length ds) x (named_before ds earlier x))
    (ap (outside (pos 0) (pos 31)) (sym same) ∙ out)
    ∙ ap (λ n. Some (refusal 14 (pos n) x (pos 32))) (length-map domains domain_model)
    ∙ told 14 (length domains) x y (pos 32) r few same is

pub line_case : (domains : List coded.RawDomain) (earlier : List ℤ) (x y : ℤ) (o : Option ℕ) → y ≡ x
    → outside (pos 0) (pos 31) y ≡ false
    → o ≡ named_before (map domain_model domains) earlier y → k14_line (map domain_model domains) earlier x ≡ same_line (length domains) x o
unfolding k14_line
line_case domains earlier x y o same in_range is =
    let ds = map domain_model domains in
    ap (λ (b : Bool). if b then Some (refusal 14 (pos (length ds)) x (pos 32)) else same_line (length ds) x (named_before ds earlier x))
    (ap (outside (pos 0) (pos 31)) (sym same) ∙ in_range)
    ∙ ap₂ (λ n p. same_line n x p) (length-map domains domain_model) (ap (named_before ds earlier) (sym same) ∙ sym is)

pub again_case : (d e : ℕ) (x y : ℤ) (r : Refusal) → d < 2 ^ 63 → e < 2 ^ 63 → y ≡ x
    → r ≡ refusal 14 (to_z w64 d) y (to_z w64 e) → same_line d x (Some e) ≡ Some r
again_case d e x y r l m same is = ap (λ z. Some (refusal 14 (pos d) x z)) (sym (to_z_pos w64 e m)) ∙ told 14 d x y (to_z w64 e) r l same is

-- The report of a machine, and the sections of each domain alone.
use Rattle.std.proofs.Common.{◌≡◌, ℕ, zero, suc, ◌+◌, ◌<◌, List, [], ◌∷◌, ◌++◌, length, ap, ap₂, refl, arith}
use Rattle.std.specs.List.{concat, flat_map, range_with_len}
use Rattle.image_check.specs.Image.{Image, own_of}
use Rattle.world_view.specs.Machine.{World, arrivals}
use Rattle.world_view.specs.View.{View, view_in}
use Rattle.tp_report.specs.Texts.{section}
use Rattle.world_view.specs.Used.{largest_of}
use Rattle.tp_report.specs.Laws.{ReportLaw, LinesLaw}
use Rattle.tp_report.specs.Report.{switch_text, section_of, sections, switch_lines, end_text, report_with, report_of}
use Rattle.world_view.specs.Relations.{IsDomain}
use Rattle.world_view.specs.Harts.{hart_of_domain, slots_of, harts, view_on, view_mailed_on}
use Rattle.world_view.proofs.harts.Runs.{home}
use Rattle.world_view.proofs.harts.Isolation.{hart_mail, hart_largest}

-- texts of numbers in turn are the same where each is
same_texts : (f g : ℕ → List ℕ) (a n : ℕ) → ((x : ℕ) → x < a + n → f x ≡ g x)
    → flat_map f (range_with_len a n) ≡ flat_map g (range_with_len a n)
same_texts f g a zero same = refl
same_texts f g a (suc n) same = ap₂ (λ x y. x ++ y) (same a (omega arith)) (same_texts f g (a + 1) n (λ x h. same x (omega arith)))

-- of a machine in this state
module _ (i : Image) (counted : i.all.domains ≡ length i.owns) (w : World) (views : ℕ → View)
    (same : (d : ℕ) → IsDomain i d → view_in i d w ≡ views d) where
  section_same : (d : ℕ) → IsDomain i d → section_of i (λ e. view_in i e w) d ≡ section_of i views d
  unfolding section_of
  section_same d is = ap (section d (own_of i d).name) (same d is)

  -- where each domain is seen so, its report has what is seen so
  pub same_report : report_of i w ≡ report_with i views w.used
  unfolding report_of report_with sections
  same_report =
      ap (λ (xs : List ℕ). concat (xs ∷ switch_lines i.all.schedule w.used ∷ end_text ∷ []))
      (same_texts (section_of i (λ e. view_in i e w)) (section_of i views) 0 i.all.domains
      (λ d h. section_same d (omega (arith, h, counted))))

pub reported_apart : ReportLaw
unfolding view_on
reported_apart i order r below between =
    let s = harts i order in
    same_report i r.counted s.world (λ d. view_mailed_on i d (arrivals d s.world) (slots_of (hart_of_domain i d) s))
    (λ d is. hart_mail i d order r is below (between (hart_of_domain i d) (home i r d)))

pub says_within : LinesLaw
unfolding switch_text
says_within i order e r below = record {
  cycles = largest_of e (harts i order).world.used;
  within = hart_largest i order e r below;
  line = refl;
}

-- The summary of a run: of a seed's image, after 64 slots.
use Rattle.std.specs.Prelude.{ℕ, List, [], ◌∷◌, ◌++◌, codes, decimal}
use Rattle.std.specs.List.{concat, flat_map, range_with_len}
use Rattle.image_check.specs.Image.{Image}
use Rattle.domain_view.specs.Models.{view_model}
use Rattle.world_view.specs.View.{View, view_whole, memory_sum}
use Rattle.tp_report.specs.declared.demo.DemoPart.{DemoPart}
use Rattle.tp_report.specs.declared.demo.DemoPart.TheVariants.{Head, Domain}
use Rattle.tp_report.specs.Report.{ending}
use Rattle.tp_report.specs.Texts.{h8}

unfoldable pub demo_head : ℕ → List ℕ
demo_head seed = concat (codes "demo " ∷ decimal seed ∷ codes " slots 64\n" ∷ [])

-- what is seen of domain d, in one line
unfoldable pub demo_domain : ℕ → View → List ℕ
demo_domain d v = concat (
    codes "domain " ∷ decimal d
    ∷ codes " retired " ∷ decimal v.retired
    ∷ codes " readings " ∷ decimal v.readings.count
    ∷ codes " replies " ∷ decimal v.replies.count
    ∷ codes " mem " ∷ h8 (memory_sum v.frames)
    ∷ codes "\n" ∷ [])

abbrev pub demo_part : DemoPart → List ℕ
demo_part (Head seed) = demo_head seed
demo_part (Domain d view) = demo_domain d (view_model view.now)

-- ---- the summary

-- the line of domain d after n slots
abbrev pub demo_line : Image → ℕ → ℕ → List ℕ
demo_line i n d = demo_domain d (view_whole i d n)

-- lines by domain
unfoldable pub demo_lines : Image → ℕ → List ℕ
demo_lines i n = flat_map (demo_line i n) (range_with_len 0 i.all.domains)

-- the head, lines by domain, and what ends a report, after n slots
unfoldable pub demo_after : Image → ℕ → ℕ → List ℕ
demo_after i n seed = demo_head seed ++ (demo_lines i n ++ ending i n)

unfoldable pub demo_text : Image → ℕ → List ℕ
demo_text i seed = demo_after i 64 seed

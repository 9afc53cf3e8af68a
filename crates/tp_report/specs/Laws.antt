-- The laws of the report, after every order of the harts' events.
use Rattle.std.specs.Prelude.{◌≡◌, ℕ, ◌<◌, ◌≤◌, List}
use Rattle.sched_table.specs.Schedule.{entry_in, harts_in}
use Rattle.image_check.specs.Image.{Image}
use Rattle.world_view.specs.Used.{count_of}
use Rattle.world_view.specs.Machine.{arrivals}
use Rattle.world_view.specs.Harts.{hart_of_domain, slots_of, harts, view_mailed_on}
use Rattle.world_view.specs.HartLaws.{AreHartsOf, IsBetween}
use Rattle.image_check.specs.Laws.{Runnable}
use Rattle.tp_report.specs.Report.{switch_line, switch_text, report_of, report_with}

-- where no hart is in a slot, the report's sections are those of each domain alone, after as many slots of its hart, with what
-- came to it in boxes as they began
abbrev pub ReportLaw : Type 0
ReportLaw = (i : Image) (order : List ℕ) → Runnable i → AreHartsOf i order →
    let s = harts i order in
    ((h : ℕ) → h < harts_in i.all.schedule → IsBetween i h s)
    → report_of i s.world
    ≡ report_with i (λ d. view_mailed_on i d (arrivals d s.world) (slots_of (hart_of_domain i d) s)) s.world.used

-- the line of entry e says a number of cycles that is within its pad
pub record SaysWithinPad (i : Image) (used : List (ℕ × ℕ)) (e : ℕ) : Type 0 where
  pub cycles : ℕ
  pub within : cycles ≤ (entry_in i.all.schedule e).pad
  pub line : switch_text i.all.schedule used e
      ≡ switch_line e cycles (entry_in i.all.schedule e).pad (count_of e used)

-- no switch line says more than its pad
abbrev pub LinesLaw : Type 0
LinesLaw = (i : Image) (order : List ℕ) (e : ℕ) → Runnable i → AreHartsOf i order
    → SaysWithinPad i (harts i order).world.used e

-- What is seen after a run.
use Rattle.std.proofs.Common.{◌≡◌, ℕ, ◌≤◌, sym, ap, ap₂}
use Rattle.sched_table.specs.Schedule.{entry_in}
use Rattle.image_check.specs.Image.{Image, own_of}
use Rattle.image_check.specs.Laws.{Runnable}
use Rattle.world_view.specs.View.{view, view_in, view_whole}
use Rattle.world_view.specs.Used.{largest_of}
use Rattle.world_view.specs.Harts.{IsOnOneHart, view_mailed_on, view_alone_on}
use Rattle.world_view.specs.Relations.{IsDomain, HasNoMail, AllWithinPads}
use Rattle.hart_orders.specs.declared.choice.Choice.{Choice}
use Rattle.hart_orders.proofs.ChoiceLaws.{choice_mail, choice_law, choice_pad, choice_largest, one_hart_run}
use Rattle.tp_report.specs.Report.{section_of}
use Rattle.tp_report.specs.Texts.{section}
use Rattle.tp_report.proofs.ReportLaws.{same_report}
use Rattle.tp_answer.specs.Runs.{world_after, arrivals_after, report, report_apart, section_among, section_alone}

module _ (i : Image) (c : Choice) (n : ℕ) (r : Runnable i) where
  -- of each domain what is seen of it alone, with what came to it in boxes
  pub seen_mailed : (d : ℕ) → IsDomain i d
      → view_in i d (world_after i c n) ≡ view_mailed_on i d (arrivals_after i c n d) n
  seen_mailed d is = choice_mail i c n d r is

  -- and where no box leads to it, with nothing
  pub seen_alone : (d : ℕ) → IsDomain i d → HasNoMail i d → view_in i d (world_after i c n) ≡ view_alone_on i d n
  seen_alone d is none = choice_law i c n d r is none

  -- of an image of one hart as after so many slots of it, one after the other
  pub seen_on_one : IsOnOneHart i → (d : ℕ) → view_whole i d n ≡ view_in i d (world_after i c n)
  unfolding view_whole
  seen_on_one one d =
      let same = one_hart_run i c n r one in
      ap₂ (view i.all.hardware (own_of i d)) (same.doms d) same.storage

  pub within_pads : AllWithinPads i.all.schedule (world_after i c n).used
  within_pads = choice_pad i c n r

  pub lines_within : (e : ℕ) → largest_of e (world_after i c n).used ≤ (entry_in i.all.schedule e).pad
  lines_within e = choice_largest i c n e r

  pub apart : report i c n ≡ report_apart i c n
  unfolding report report_apart
  apart =
      same_report i r.counted (world_after i c n) (λ d. view_mailed_on i d (arrivals_after i c n d) n) seen_mailed

  -- the section of such a domain alone is that of the report
  pub same_section : (d : ℕ) → IsDomain i d → HasNoMail i d
      → section_alone i d n ≡ section_among i c d n
  unfolding section_alone section_of
  same_section d is none = ap (section d (own_of i d).name) (sym (seen_alone d is none))

-- The report in its parts.
use Rattle.std.proofs.Common.{◌≡◌, ℕ, List, ◌++◌, length, Some, ap, ◌∙◌, arith}
use Rattle.std.specs.Prelude.{slice_get}
use Rattle.std.proofs.lemmas.List.{append-nil}
use Rattle.std.proofs.lemmas.Option.{slice_get-get_or}
use Rattle.sched_table.specs.declared.schedule.Entry.{Entry}
use Rattle.image_check.specs.Image.{Image, own_of}
use Rattle.world_view.specs.Machine.{World}
use Rattle.world_view.specs.View.{View, view_in}
use Rattle.world_view.specs.Harts.{view_alone_on}
use Rattle.world_view.specs.declared.used.Used.{Used}
use Rattle.domain_step.specs.Usage.{IsUsed}
use Rattle.tp_report.specs.Texts.{section}
use Rattle.tp_report.specs.Report.{section_of, sections, switch_lines, end_text, report_with, report_of, ending_of}
use Rattle.tp_report.specs.Switches.{no_used, used_in, switches_text, ending_text}
use Rattle.tp_report.proofs.Switches.{switches_text-lines}
use Rattle.tp_answer.specs.Runs.{section_alone}

pub section_of_is : (i : Image) (views : ℕ → View) (d : ℕ) (name : List ℕ) (v : View)
    → name ≡ (own_of i d).name → v ≡ views d → section d name v ≡ section_of i views d
unfolding section_of
section_of_is i views d name v named seen = λ k. section d (named k) (seen k)

pub section_alone_is : (i : Image) (d n : ℕ) (name : List ℕ) (v : View) → name ≡ (own_of i d).name
    → v ≡ view_alone_on i d n → section d name v ≡ section_alone i d n
unfolding section_alone
section_alone_is i d n name v named seen = section_of_is i (λ e. view_alone_on i e n) d name v named seen

-- the lines of what the code keeps of the switches
kept_lines : (es : List Entry) (used : List Used) (us : List (ℕ × ℕ)) → length used ≡ length es
    → IsUsed used us → switches_text es used ≡ switch_lines es us
kept_lines es used us same is =
    switches_text-lines es used us (λ e within.
    let kept : slice_get used e ≡ Some (used_in used e) = slice_get-get_or used e no_used (omega arith) in
    (is.largest e (used_in used e) kept, is.count e (used_in used e) kept))

-- what the code keeps of the switches ends the report
pub kept_ending : (i : Image) (w : World) (es : List Entry) (used : List Used) → es ≡ i.all.schedule
    → length used ≡ length i.all.schedule → IsUsed used w.used → ending_text es used ≡ ending_of i w
unfolding ending_text ending_of
kept_ending i w es used own all each =
    let lines = kept_lines i.all.schedule used w.used all each in
    ap (λ entries. switches_text entries used ++ end_text) own ∙ ap (λ text. text ++ end_text) lines

pub report_parts : (i : Image) (w : World) → report_of i w ≡ sections i (λ d. view_in i d w) ++ ending_of i w
unfolding report_of report_with ending_of
report_parts i w =
    ap (λ text. sections i (λ d. view_in i d w) ++ (switch_lines i.all.schedule w.used ++ text)) (append-nil end_text)

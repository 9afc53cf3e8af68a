use Rattle.std.proofs.Common.{◌≡◌, ◌≤◌, ◌∙◌, ℕ, false, not, List, length, map, ap, sym, subst}
use Rattle.std.specs.List.{All}
use Rattle.std.proofs.lemmas.List.{length-map}
use Rattle.image_record.specs.declared.raw.RawEntry.{RawEntry}
use Rattle.image_record.specs.Models.{raw_model}
use Rattle.image_record.specs.Parts.{entry_model}
use Rattle.kernel_clone.specs.Permissions.{every_call}
use Rattle.pad_bound.specs.Bound.{MachineShape, IsShape}
use Rattle.pad_bound.specs.Models.{shape_model}
use Rattle.image_record.specs.Cases.{first_in}
use Rattle.hardware_check.specs.Hardware.{Hardware, hardware_of}
use Rattle.image_record.specs.Outcomes.{IsVerdict}
use Rattle.domain_check.specs.Calls.{own_calls}
use Rattle.schedule_check.specs.Schedule.{is_number}
use Rattle.image_check.specs.Pads.{shape_for_every_call, k17, k17_by}
use Rattle.image_check.proofs.Kept.{kept_before_pads}
use Rattle.schedule_check.proofs.Entries.{all_numbered}
use Rattle.image_check.proofs.Padded.{shape_before_pads, k17_by_calls}
use Rattle.image_check.proofs.pads.k17.Goals as goal

pub shape_for_every_call-requires : goal.shape_for_every_call-requires
shape_for_every_call-requires c =
    let i = raw_model c.args.raw.now in
    let least = (shape_before_pads i every_call (kept_before_pads i c.requires.before)).least_line in
    record { line = subst (λ (h : Hardware). 16 ≤ h.line) (sym c.requires.hardware) least }

pub k17_entries-requires-clause-shape : goal.k17_entries-requires-clause-shape
k17_entries-requires-clause-shape c =
    let i = raw_model c.args.raw.now in
    let sound = shape_before_pads i every_call (kept_before_pads i c.requires.before) in
    subst IsShape (sym (c.shape_for_every_call.ensures.value ∙ ap shape_for_every_call c.requires.hardware)) sound

pub k17_entries-requires-clause-domains : goal.k17_entries-requires-clause-domains
k17_entries-requires-clause-domains c =
    let i = raw_model c.args.raw.now in
    let many : length c.args.calls.now ≡ length i.domains = ap length c.requires.calls ∙ length-map i.domains own_calls in
    let all = all_numbered c.args.raw.now (length c.args.calls.now) many (kept_before_pads i c.requires.before).schedule in
    subst (All (λ e. not (is_number (length c.args.calls.now) e.domain) ≡ false)) (sym c.as_slice.ensures.value) all

pub returns : goal.returns
returns c =
    let i = raw_model c.args.raw.now in
    let machine : shape_model c.shape_for_every_call.result ≡ shape_for_every_call (hardware_of i) =
    c.shape_for_every_call.ensures.value ∙ ap shape_for_every_call c.requires.hardware in
    let of_calls = λ (s : MachineShape) (calls : List ℕ). first_in (k17_by s calls) (map entry_model c.as_slice.result.now) in
    let same : of_calls (shape_model c.shape_for_every_call.result) c.args.calls.now ≡ k17 i =
    ap (λ (s : MachineShape). of_calls s c.args.calls.now) machine
    ∙ ap (λ (calls : List ℕ). of_calls (shape_for_every_call (hardware_of i)) calls) c.requires.calls
    ∙ ap (λ (entries : List RawEntry). first_in (k17_by (shape_for_every_call (hardware_of i))
    (map own_calls i.domains)) (map entry_model entries)) c.as_slice.ensures.value
    ∙ k17_by_calls i in
    record { verdict = subst (IsVerdict c.k17_entries.result) same c.k17_entries.ensures.verdict }

-- The rules in their order, and those that an image breaks.
use Rattle.std.specs.Prelude.{List, [], ◌∷◌, Option, Some, None}
use Rattle.image_record.specs.declared.refusal.Refusal.{Refusal}
use Rattle.image_record.specs.Record.{Raw}
use Rattle.frame_colours.specs.Colours.{whole_of}
use Rattle.hardware_check.specs.Hardware.{colours_of, hardware_of}
use Rattle.hardware_check.specs.Rules.{k3, k4, k5, k6, k11}
use Rattle.hardware_check.specs.Extensions.{k22}
use Rattle.domain_check.specs.Names.{k7}
use Rattle.schedule_check.specs.Schedule.{k16}
use Rattle.domain_check.specs.Colours.{k8, k9, k10}
use Rattle.domain_check.specs.Segments.{k12}
use Rattle.domain_check.specs.Capabilities.{k13}
use Rattle.schedule_check.specs.Interrupts.{k14, k15}
use Rattle.domain_check.specs.Calls.{k18}
use Rattle.image_check.specs.Pads.{k17}
use Rattle.schedule_check.specs.Harts.{k19}
use Rattle.schedule_check.specs.Mail.{k20}

-- the rules of colours and frames, where there are as many as the machine has
abbrev pub k8_in_machine : Raw → Option Refusal
k8_in_machine i = k8 (colours_of (hardware_of i)) i

abbrev pub k10_in_machine : Raw → Option Refusal
k10_in_machine i = let p = hardware_of i in k10 (whole_of p.frames (colours_of p)) i

-- the rules before that of pads
unfoldable pub rules_before_pads : List (Raw → Option Refusal)
rules_before_pads =
    k3 ∷ k4 ∷ k5 ∷ k6 ∷ k7 ∷ k8_in_machine ∷ k9 ∷ k10_in_machine ∷ k11 ∷ k12 ∷ k13 ∷ k14 ∷ k15 ∷ k16 ∷ []

-- those after it
unfoldable pub rules_after_pads : List (Raw → Option Refusal)
rules_after_pads = k18 ∷ k19 ∷ k20 ∷ k22 ∷ []

-- a broken rule ends the tests
abbrev pub ended_by : Option Refusal → List Refusal → List Refusal
ended_by None later = later
ended_by (Some r) later = r ∷ []

-- but that of pads leaves the later ones to be tested
abbrev pub followed_by : Option Refusal → List Refusal → List Refusal
followed_by None later = later
followed_by (Some r) later = r ∷ later

-- the first of these rules that is broken; where none is, what is broken later
abbrev pub broken_of : List (Raw → Option Refusal) → Raw → List Refusal → List Refusal
broken_of [] i later = later
broken_of (k ∷ ks) i later = ended_by (k i) (broken_of ks i later)

-- the broken rules in their order, each with its first broken case
unfoldable pub broken : Raw → List Refusal
broken i = broken_of rules_before_pads i (followed_by (k17 i) (broken_of rules_after_pads i []))

-- the same without K17
unfoldable pub broken_but_pads : Raw → List Refusal
broken_but_pads i = broken_of rules_before_pads i (broken_of rules_after_pads i [])

-- of the rules before K17 alone
unfoldable pub broken_before_pads : Raw → List Refusal
broken_before_pads i = broken_of rules_before_pads i []

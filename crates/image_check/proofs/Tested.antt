-- How far the rules before that of pads are tested.
use Rattle.std.proofs.Common.{◌≡◌, List, [], ◌∷◌, Option, Some, None, Result, refl, sym, ap, subst, ◌∙◌}
use Rattle.std.specs.Prelude.{slice_get, IfErr}
use Rattle.std.specs.Result.{IsErrAnd}
use Rattle.image_record.specs.declared.refusal.Refusal.{Refusal}
use Rattle.image_record.specs.declared.refusal.ReadRefusal.{ReadRefusal}
use Rattle.image_record.specs.declared.refusal.ReadRefusal.TheVariants.{Broken, Memory}
use Rattle.image_record.specs.Record.{Raw}
use Rattle.hardware_check.specs.Rules.{k11}
use Rattle.hardware_check.specs.Laws.{KeepsParts}
use Rattle.domain_check.specs.Names.{k7}
use Rattle.domain_check.specs.Colours.{k9}
use Rattle.domain_check.specs.Segments.{k12}
use Rattle.domain_check.specs.Capabilities.{k13}
use Rattle.schedule_check.specs.Interrupts.{k14, k15}
use Rattle.schedule_check.specs.Schedule.{k16}
use Rattle.image_check.specs.Outcomes.{IsFirst}
use Rattle.image_check.specs.Checking.{k8_in_machine, k10_in_machine, rules_before_pads, ended_by, broken_of, broken_before_pads}
use Rattle.image_check.proofs.Kept.{first_handed, first_stays, none_here, none_later}

-- those of the domains' names and colours
abbrev pub colour_rules : List (Raw → Option Refusal)
colour_rules = k7 ∷ k8_in_machine ∷ k9 ∷ k10_in_machine ∷ []

-- those of what else each domain has, and of the schedule
abbrev pub own_rules : List (Raw → Option Refusal)
own_rules = k12 ∷ k13 ∷ k14 ∷ k15 ∷ k16 ∷ []

-- what the rule of shared lines and those after it leave
from_shared : Raw → List Refusal
from_shared i = ended_by (k11 i) (broken_of own_rules i [])

-- rules that are kept leave what is broken later
later_left : (ks : List (Raw → Option Refusal)) (i : Raw) (later : List Refusal) → broken_of ks i [] ≡ []
    → broken_of ks i later ≡ later
later_left [] i later e = refl
later_left (k ∷ ks) i later e =
    ap (λ (o : Option Refusal). ended_by o (broken_of ks i later)) (none_here (k i) (broken_of ks i []) e)
    ∙ later_left ks i later (none_later (k i) (broken_of ks i []) e)

parts_left : (i : Raw) → KeepsParts i → broken_before_pads i ≡ broken_of colour_rules i (from_shared i)
unfolding broken_before_pads rules_before_pads from_shared
parts_left i k = rw (k.parts, k.frames, k.colours, k.costs) refl

colours_left : (i : Raw) → KeepsParts i → broken_of colour_rules i [] ≡ []
    → broken_before_pads i ≡ from_shared i
colours_left i k colours = parts_left i k ∙ later_left colour_rules i (from_shared i) colours

shared_left : (i : Raw) (o : Option Refusal) → KeepsParts i → broken_of colour_rules i [] ≡ [] → k11 i ≡ o
    → broken_before_pads i ≡ ended_by o (broken_of own_rules i [])
unfolding from_shared
shared_left i o k colours shared = colours_left i k colours ∙ ap (λ (p : Option Refusal). ended_by p (broken_of own_rules i [])) shared

first_with : (ks : List (Raw → Option Refusal)) (i : Raw) (later : List Refusal) (e : ReadRefusal)
    → IsFirst (broken_of ks i []) e → IsFirst (broken_of ks i later) e
first_with ks i later Memory first = tt
first_with ks i later (Broken r) first = first_stays ks i r later first

-- ---- the refusals, and that nothing is broken

pub colours_refused : {A : Type 0} → (i : Raw) (result : Result A ReadRefusal) (e : ReadRefusal)
    → IsErrAnd result (λ r. r ≡ e)
    → KeepsParts i → IsFirst (broken_of colour_rules i []) e → IfErr result (IsFirst (broken_before_pads i))
colours_refused i result e h k first =
    first_handed result e (broken_before_pads i) h
    (subst (λ (due : List Refusal). IsFirst due e) (sym (parts_left i k)) (first_with colour_rules i (from_shared i) e first))

pub shared_refused : {A : Type 0} → (i : Raw) (result : Result A ReadRefusal) (r : Refusal)
    → IsErrAnd result (λ q. q ≡ Broken r)
    → KeepsParts i → broken_of colour_rules i [] ≡ [] → k11 i ≡ Some r → IfErr result (IsFirst (broken_before_pads i))
shared_refused i result r h k colours shared =
    first_handed result (Broken r) (broken_before_pads i) h
    (ap (λ (due : List Refusal). slice_get due 0) (shared_left i (Some r) k colours shared))

pub own_refused : {A : Type 0} → (i : Raw) (result : Result A ReadRefusal) (e : ReadRefusal)
    → IsErrAnd result (λ r. r ≡ e)
    → KeepsParts i → broken_of colour_rules i [] ≡ [] → k11 i ≡ None → IsFirst (broken_of own_rules i []) e
    → IfErr result (IsFirst (broken_before_pads i))
own_refused i result e h k colours shared first =
    first_handed result e (broken_before_pads i) h
    (subst (λ (due : List Refusal). IsFirst due e) (sym (shared_left i None k colours shared)) first)

pub none_refused : (i : Raw) → KeepsParts i → broken_of colour_rules i [] ≡ [] → k11 i ≡ None
    → broken_of own_rules i [] ≡ [] → broken_before_pads i ≡ []
none_refused i k colours shared owns = shared_left i None k colours shared ∙ owns

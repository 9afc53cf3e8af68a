-- The rules one by one, and the counts that they bound.
use Rattle.std.proofs.Common.{◌≡◌, ◌≤◌, ℕ, map, List, [], ◌∷◌, length, Option, Some, None, Result, Ok, Err, refl, sym, ap, subst, ◌∙◌, ◌⊎◌, inl, inr, arith}
use Rattle.std.specs.Prelude.{nat_eq, slice_get, IfErr}
use Rattle.std.specs.Result.{IsErrAnd}
use Rattle.std.proofs.lemmas.List.{length-map}
use Rattle.image_record.specs.declared.refusal.Refusal.{Refusal}
use Rattle.image_record.specs.declared.refusal.ReadRefusal.{ReadRefusal}
use Rattle.image_record.specs.declared.refusal.ReadRefusal.TheVariants.{Broken, Memory}
use Rattle.image_record.specs.Outcomes.{IsVerdictOrMemory, Makes}
use Rattle.image_check.specs.Outcomes.{IsFirst}
use Rattle.image_record.specs.declared.raw.Raw as declared
use Rattle.image_record.specs.Models.{raw_model}
use Rattle.image_record.specs.Parts.{domain_model}
use Rattle.image_record.specs.Record.{Raw}
use Rattle.image_record.specs.Cases.{first_in, count_case}
use Rattle.hardware_check.specs.Extensions.{k22}
use Rattle.hardware_check.specs.Laws.{KeepsParts, KeepsHardware}
use Rattle.domain_check.specs.Names.{most_domains, k7, k7_domain}
use Rattle.domain_check.specs.Calls.{k18}
use Rattle.image_check.specs.Pads.{k17}
use Rattle.schedule_check.specs.Harts.{k19}
use Rattle.schedule_check.specs.Mail.{k20, box_of}
use Rattle.schedule_check.proofs.Counts.{Within, counted, at_most}
use Rattle.hardware_check.specs.Hardware.{Hardware, hardware_of}
use Rattle.sched_table.specs.declared.schedule.Entry.{Entry}
use Rattle.schedule_check.specs.Schedule.{entry_of}
use Rattle.image_check.specs.Public.{public_of}
use Rattle.image_check.specs.Checking.{rules_before_pads, rules_after_pads, ended_by, followed_by, broken_of, broken, broken_but_pads, broken_before_pads}
use Rattle.image_check.specs.Laws.{Keeps, KeepsButPads, KeepsBeforePads, HasPadsItem, AcceptanceLaw, ButPadsLaw, PadsLaw, ExtensionsLaw}
use Rattle.image_record.proofs.FirstCases.{or_first}
use Rattle.hardware_check.proofs.Products.{extensions_said}

-- ---- the list is empty exactly where no rule has a broken case

pub none_here : (o : Option Refusal) (later : List Refusal) → ended_by o later ≡ [] → o ≡ None
none_here None later e = refl
none_here (Some r) later e = cc

pub none_later : (o : Option Refusal) (later : List Refusal) → ended_by o later ≡ [] → later ≡ []
none_later None later e = e
none_later (Some r) later e = cc

-- each rule of a list
KeepsAll : List (Raw → Option Refusal) → Raw → Type 0
KeepsAll [] i = Unit {0}
KeepsAll (k ∷ ks) i = (k i ≡ None) × KeepsAll ks i

keeps_all : (ks : List (Raw → Option Refusal)) (i : Raw) (later : List Refusal) → broken_of ks i later ≡ []
    → KeepsAll ks i
unfolding KeepsAll
keeps_all [] i later e = tt
keeps_all (k ∷ ks) i later e = (none_here (k i) (broken_of ks i later) e, keeps_all ks i later (none_later (k i) (broken_of ks i later) e))

later_empty : (ks : List (Raw → Option Refusal)) (i : Raw) (later : List Refusal) → broken_of ks i later ≡ []
    → later ≡ []
later_empty [] i later e = e
later_empty (k ∷ ks) i later e = later_empty ks i later (none_later (k i) (broken_of ks i later) e)

kept_before_those : (i : Raw) (later : List Refusal) → broken_of rules_before_pads i later ≡ []
    → KeepsBeforePads i
unfolding rules_before_pads KeepsAll
kept_before_those i later e =
    let from3 = keeps_all rules_before_pads i later e in
    let from4 = from3.1 in
    let from5 = from4.1 in
    let from6 = from5.1 in
    let from7 = from6.1 in
    let from8 = from7.1 in
    let from9 = from8.1 in
    let from10 = from9.1 in
    let from11 = from10.1 in
    let from12 = from11.1 in
    let from13 = from12.1 in
    let from14 = from13.1 in
    let from15 = from14.1 in
    let from16 = from15.1 in
    record {
      parts = from3.0;
      frames = from4.0;
      colours = from5.0;
      costs = from6.0;
      domains = from7.0;
      named = from8.0;
      apart = from9.0;
      pools = from10.0;
      shared = from11.0;
      segments = from12.0;
      capabilities = from13.0;
      lines = from14.0;
      moments = from15.0;
      schedule = from16.0;
    }

pub kept_before_pads : (i : Raw) → broken_before_pads i ≡ [] → KeepsBeforePads i
unfolding broken_before_pads
kept_before_pads i e = kept_before_those i [] e

record KeepsAfterPads (i : Raw) : Type 0 where
  calls : k18 i ≡ None
  harts : k19 i ≡ None
  mail : k20 i ≡ None
  extensions : k22 i ≡ None

kept_after_pads : (i : Raw) → broken_of rules_after_pads i [] ≡ [] → KeepsAfterPads i
unfolding rules_after_pads
kept_after_pads i e =
    let after20 = ended_by (k22 i) [] in
    let after19 = ended_by (k20 i) after20 in
    let after18 = ended_by (k19 i) after19 in
    let from19 = none_later (k18 i) after18 e in
    let from20 = none_later (k19 i) after19 from19 in
    record {
      calls = none_here (k18 i) after18 e;
      harts = none_here (k19 i) after19 from19;
      mail = none_here (k20 i) after20 from20;
      extensions = none_here (k22 i) [] (none_later (k20 i) after20 from20);
    }

pub kept_but_pads : (i : Raw) → broken_but_pads i ≡ [] → KeepsButPads i
unfolding broken_but_pads
kept_but_pads i e =
    let later = broken_of rules_after_pads i [] in
    let after = kept_after_pads i (later_empty rules_before_pads i later e) in
    record {
      before = kept_before_those i later e;
      calls = after.calls;
      harts = after.harts;
      mail = after.mail;
      extensions = after.extensions;
    }

pub extensions_law : ExtensionsLaw
extensions_law i e = extensions_said i (kept_but_pads i e).extensions

-- what is broken is what those after them leave
later_alone : (i : Raw) (later : List Refusal) → KeepsBeforePads i
    → broken_of rules_before_pads i later ≡ later
unfolding rules_before_pads
later_alone i later k =
    rw (
      k.parts,
      k.frames,
      k.colours,
      k.costs,
      k.domains,
      k.named,
      k.apart,
      k.pools,
      k.shared,
      k.segments,
      k.capabilities,
      k.lines,
      k.moments,
      k.schedule,
    ) refl

-- four rules come after that of pads
after_pads : (i : Raw) (o p q r : Option Refusal) → k18 i ≡ o → k19 i ≡ p → k20 i ≡ q → k22 i ≡ r
    → broken_of rules_after_pads i [] ≡ ended_by o (ended_by p (ended_by q (ended_by r [])))
unfolding rules_after_pads
after_pads i o p q r e f g h = rw (e, f, g, h) refl

none_after_pads : (i : Raw) → KeepsButPads i → broken_of rules_after_pads i [] ≡ []
none_after_pads i k = after_pads i None None None None k.calls k.harts k.mail k.extensions

unbroken_but_pads : (i : Raw) → KeepsButPads i → broken_but_pads i ≡ []
unfolding broken_but_pads
unbroken_but_pads i k = later_alone i (broken_of rules_after_pads i []) k.before ∙ none_after_pads i k

pub but_pads_law : ButPadsLaw
but_pads_law i = (kept_but_pads i, unbroken_but_pads i)

-- ---- the rule of pads comes between the others

-- with the rule of pads besides
Besides : Raw → List Refusal → List Refusal → Type 0
Besides i others all = (all ≡ others) ⊎ HasPadsItem i others all

pads_besides : (i : Raw) (o : Option Refusal) (later : List Refusal) → k17 i ≡ o
    → Besides i later (followed_by o later)
unfolding Besides
pads_besides i None later e = inl refl
pads_besides i (Some r) later e = inr (record { item = r; of_pads = e; besides = refl })

ended_besides : (i : Raw) (o : Option Refusal) (others all : List Refusal) → Besides i others all
    → Besides i (ended_by o others) (ended_by o all)
unfolding Besides
ended_besides i None others all h = h
ended_besides i (Some r) others all h = inl refl

besides_in : (i : Raw) (ks : List (Raw → Option Refusal)) (others all : List Refusal) → Besides i others all
    → Besides i (broken_of ks i others) (broken_of ks i all)
besides_in i [] others all h = h
besides_in i (k ∷ ks) others all h = ended_besides i (k i) (broken_of ks i others) (broken_of ks i all) (besides_in i ks others all h)

pub pads_law : PadsLaw
unfolding broken broken_but_pads Besides
pads_law i =
    let later = broken_of rules_after_pads i [] in
    besides_in i rules_before_pads later (followed_by (k17 i) later) (pads_besides i (k17 i) later refl)

pub none_but_pads : (i : Raw) → broken i ≡ [] → broken_but_pads i ≡ []
none_but_pads i e = elim (pads_law i) [
  | inl same ↦ sym same ∙ e
  | inr has ↦ absurd (no_item has.item (broken_but_pads i) (sym has.besides ∙ e))
]
  where
    no_item : (r : Refusal) (rs : List Refusal) → r ∷ rs ≡ [] → ⊥
    no_item r rs e = cc

none_followed : (o : Option Refusal) (later : List Refusal) → followed_by o later ≡ [] → o ≡ None
none_followed None later e = refl
none_followed (Some r) later e = cc

pub kept : (i : Raw) → broken i ≡ [] → Keeps i
unfolding broken
kept i e =
    let later = broken_of rules_after_pads i [] in
    record {
      others = kept_but_pads i (none_but_pads i e);
      pads = none_followed (k17 i) later (later_empty rules_before_pads i (followed_by (k17 i) later) e);
    }

-- where no rule before that of pads is broken
from_pads : (i : Raw) (o : Option Refusal) → KeepsBeforePads i → k17 i ≡ o
    → broken i ≡ followed_by o (broken_of rules_after_pads i [])
unfolding broken
from_pads i o k e =
    let later = broken_of rules_after_pads i [] in
    later_alone i (followed_by (k17 i) later) k ∙ ap (λ (p : Option Refusal). followed_by p later) e

unbroken : (i : Raw) → Keeps i → broken i ≡ []
unbroken i k = from_pads i None k.others.before k.pads ∙ none_after_pads i k.others

pub acceptance_law : AcceptanceLaw
acceptance_law i = (kept i, unbroken i)

-- ---- the first item, of one list and of the other

first_ended : (o : Option Refusal) (r : Refusal) (rest later : List Refusal)
    → (slice_get rest 0 ≡ Some r → slice_get later 0 ≡ Some r)
    → slice_get (ended_by o rest) 0 ≡ Some r → slice_get (ended_by o later) 0 ≡ Some r
first_ended None r rest later more e = more e
first_ended (Some q) r rest later more e = e

pub first_stays : (ks : List (Raw → Option Refusal)) (i : Raw) (r : Refusal) (later : List Refusal)
    → slice_get (broken_of ks i []) 0 ≡ Some r → slice_get (broken_of ks i later) 0 ≡ Some r
first_stays [] i r later e = cc
first_stays (k ∷ ks) i r later e = first_ended (k i) r (broken_of ks i []) (broken_of ks i later) (first_stays ks i r later) e

first_before_pads : (i : Raw) (r : Refusal) (later : List Refusal)
    → slice_get (broken_before_pads i) 0 ≡ Some r → slice_get (broken_of rules_before_pads i later) 0 ≡ Some r
unfolding broken_before_pads
first_before_pads i r later first = first_stays rules_before_pads i r later first

-- the first of those before the rule of pads is the first of all
pub first_of_all : {A : Type 0} → (i : Raw) (result : Result A ReadRefusal)
    → IfErr result (IsFirst (broken_before_pads i)) → IfErr result (IsFirst (broken i))
unfolding broken
first_of_all i (Ok x) first = first
first_of_all i (Err Memory) first = first
first_of_all i (Err (Broken r)) first = first_before_pads i r (followed_by (k17 i) (broken_of rules_after_pads i [])) first

-- and where none of those is broken, so is the refusal of the rule of pads
pub first_of_pads : {A : Type 0} → (i : Raw) (result : Result A ReadRefusal) → broken_before_pads i ≡ []
    → IsVerdictOrMemory result (k17 i) → IfErr result (IsFirst (broken i))
first_of_pads i (Ok x) before verdict = tt
first_of_pads i (Err Memory) before verdict = tt
first_of_pads i (Err (Broken r)) before verdict =
    ap (λ (rs : List Refusal). slice_get rs 0) (from_pads i (Some r) (kept_before_pads i before) verdict)

-- the first of those before the rule of pads is the first without it, too
pub first_of_others : {A : Type 0} → (i : Raw) (result : Result A ReadRefusal)
    → IfErr result (IsFirst (broken_before_pads i)) → IfErr result (IsFirst (broken_but_pads i))
unfolding broken_but_pads
first_of_others i (Ok x) first = first
first_of_others i (Err Memory) first = first
first_of_others i (Err (Broken r)) first = first_before_pads i r (broken_of rules_after_pads i []) first

-- ---- the machine

keeps_parts : (i : Raw) → KeepsBeforePads i → KeepsParts i
keeps_parts i k = record { parts = k.parts; frames = k.frames; colours = k.colours; costs = k.costs }

pub keeps_hardware : (i : Raw) → KeepsBeforePads i → KeepsHardware i
keeps_hardware i k = record { parts = keeps_parts i k; shared = k.shared }

-- ---- counts

pub domains_within : (i : Raw) → k7 i ≡ None → Within 1 32 (length i.domains)
unfolding k7
domains_within i n =
    let most = most_domains i.version in
    let case = or_first (count_case 7 most most most (length i.domains)) (first_in k7_domain i.domains) n in
    let range = counted 7 most most most (length i.domains) case in
    let few = at_most (nat_eq i.version 1) 16 32 (omega arith) in
    record { least = range.least; most = omega (arith, range.most, few) }

pub few_domains : (i : Raw) → broken_but_pads i ≡ [] → length i.domains ≤ 32
few_domains i e = (domains_within i (kept_but_pads i e).before.domains).most

pub few_raw_domains : (raw : declared.Raw) → broken_but_pads (raw_model raw) ≡ []
    → length raw.domains.items ≤ 32
few_raw_domains raw e = omega (arith, length-map raw.domains.items domain_model, few_domains (raw_model raw) e)

-- ---- what all domains may know

pub public_made : (i : Raw) (h : Hardware) (entries : List Entry) (domains : ℕ) (mail : List (ℕ × ℕ))
    → h ≡ hardware_of i → entries ≡ map entry_of i.schedule → domains ≡ length i.domains
    → mail ≡ map box_of i.mail → record {
      version = i.version;
      hardware = h;
      schedule = entries;
      domains = domains;
      mail = mail;
    } ≡ public_of i
unfolding public_of
public_made i h entries domains mail machine said many boxes = rw (machine, said, many, boxes) refl

-- ---- what a `?` hands on

pub first_handed : {A : Type 0} (result : Result A ReadRefusal) (e : ReadRefusal) (due : List Refusal)
    → IsErrAnd result (λ r. r ≡ e) → IsFirst due e → IfErr result (IsFirst due)
first_handed (Ok x) e due h first = tt
first_handed (Err q) e due h first = subst (IsFirst due) (sym h) first

pub verdict_handed : {A : Type 0} (result : Result A ReadRefusal) (case : Option Refusal) (r : Refusal)
    → IsErrAnd result (λ e. e ≡ Broken r) → case ≡ Some r → IsVerdictOrMemory result case
verdict_handed (Ok x) case r h is = absurd h
verdict_handed (Err Memory) case r h is = tt
verdict_handed (Err (Broken q)) case r h is = let same : q ≡ r = cc in is ∙ ap Some (sym same)

-- where memory ran out before, or nothing was made
pub made_handed : {A B X Y : Type 0} (before : A → B) (model : X → Y) (result : Result X ReadRefusal)
    (e : ReadRefusal) (b : B) (y : Y)
    → IsErrAnd result (λ r. r ≡ e) → Makes before (Err e) b → Makes model result y
made_handed before model (Ok x) e b y h made = absurd h
made_handed before model (Err q) Memory b y h made = subst (λ (r : ReadRefusal). Makes model (Err r) y) (sym h) tt
made_handed before model (Err q) (Broken r) b y h made = absurd made

-- ---- what is left of the rules

-- where none before that of pads is broken, those after it
pub others_left : (i : Raw) → broken_before_pads i ≡ [] → broken_but_pads i ≡ broken_of rules_after_pads i []
unfolding broken_but_pads
others_left i before = later_alone i (broken_of rules_after_pads i []) (kept_before_pads i before)

pub all_left : (i : Raw) → broken_before_pads i ≡ [] → k17 i ≡ None
    → broken i ≡ broken_of rules_after_pads i []
all_left i before pads = from_pads i None (kept_before_pads i before) pads

-- What an image that breaks no rule is: no rule has a broken case, and in natural numbers it can be run.
use Rattle.std.specs.Prelude.{◌≡◌, ◌≢◌, ℕ, ◌+◌, ◌*◌, ◌<◌, ◌≤◌, ◌^◌, ◌⊎◌, ◌↔◌, true, false, pos, List, [], ◌∷◌, length, map, slice_get, Some, None}
use Rattle.std.specs.List.{All, enumerate_from}
use Rattle.tp_base.specs.Rights.{are_good}
use Rattle.image_record.specs.Record as text
use Rattle.image_record.specs.Record.{InKeyRanges}
use Rattle.irq_partition.specs.declared.Moment.{Moment}
use Rattle.irq_partition.specs.Interrupts.{AreMoments}
use Rattle.domain_check.specs.declared.capabilities.InitialCap.TheVariants.{Page, Irq}
use Rattle.frame_colours.specs.Colours.{AreDisjoint, pool}
use Rattle.hardware_check.specs.Hardware.{IsHardware, colours_of, hardware_of}
use Rattle.hardware_check.specs.Rules.{k3, k4, k5, k6, k11}
use Rattle.hardware_check.specs.Extensions.{k22, HasExtensions}
use Rattle.domain_check.specs.Names.{k7}
use Rattle.schedule_check.specs.Schedule.{k16}
use Rattle.domain_check.specs.Colours.{k9}
use Rattle.domain_check.specs.Segments.{k12}
use Rattle.domain_check.specs.Capabilities.{k13}
use Rattle.schedule_check.specs.Interrupts.{k14, k15}
use Rattle.domain_check.specs.Calls.{k18}
use Rattle.image_record.specs.declared.refusal.Refusal.{Refusal}
use Rattle.sched_table.specs.Schedule.{entry_in, entries_on, IsSchedule, AreHarts}
use Rattle.pad_bound.specs.Bound.{IsShape, bound_of}
use Rattle.pad_bound.specs.Worst.{AreWithin}
use Rattle.image_check.specs.Pads.{shape_for, k17}
use Rattle.schedule_check.specs.Harts.{k19}
use Rattle.schedule_check.specs.Mail.{k20}
pub use Rattle.schedule_check.specs.Mail.{AreBoxes}
use Rattle.image_check.specs.Checking.{k8_in_machine, k10_in_machine, broken, broken_but_pads}
use Rattle.image_check.specs.Own.{Segment, Own, segment_at, cap_at, has_line}
use Rattle.image_check.specs.Pages.{has_page, has_page_in, frames_in, share_of}
use Rattle.image_check.specs.Image.{Image, image_from, own_of}

-- no rule before that of pads has a broken case
pub record KeepsBeforePads (i : text.Raw) : Type 0 where
  pub parts : k3 i ≡ None
  pub frames : k4 i ≡ None
  pub colours : k5 i ≡ None
  pub costs : k6 i ≡ None
  pub domains : k7 i ≡ None
  pub named : k8_in_machine i ≡ None
  pub apart : k9 i ≡ None
  pub pools : k10_in_machine i ≡ None
  pub shared : k11 i ≡ None
  pub segments : k12 i ≡ None
  pub capabilities : k13 i ≡ None
  pub lines : k14 i ≡ None
  pub moments : k15 i ≡ None
  pub schedule : k16 i ≡ None

-- no rule but that of pads has
pub record KeepsButPads (i : text.Raw) : Type 0 where
  pub before : KeepsBeforePads i
  pub calls : k18 i ≡ None
  pub harts : k19 i ≡ None
  pub mail : k20 i ≡ None
  pub extensions : k22 i ≡ None

-- no rule has
pub record Keeps (i : text.Raw) : Type 0 where
  pub others : KeepsButPads i
  pub pads : k17 i ≡ None

-- the list of broken rules is empty exactly where no rule has a broken case
abbrev pub AcceptanceLaw : Type 0
AcceptanceLaw = (i : text.Raw) → (broken i ≡ []) ↔ Keeps i

-- so is the list without the rule of pads
abbrev pub ButPadsLaw : Type 0
ButPadsLaw = (i : text.Raw) → (broken_but_pads i ≡ []) ↔ KeepsButPads i

-- the rule of pads is broken, and its item stands before that of a later one
pub record HasPadsItem (i : text.Raw) (others all : List Refusal) : Type 0 where
  pub item : Refusal
  pub of_pads : k17 i ≡ Some item
  pub besides : all ≡ item ∷ others

-- the list of broken rules is that without the rule of pads, or has the item of this rule besides
abbrev pub PadsLaw : Type 0
PadsLaw = (i : text.Raw) → (broken i ≡ broken_but_pads i) ⊎ HasPadsItem i (broken_but_pads i) (broken i)

-- each entry is of one of the domains
pub record NamesDomains (i : Image) : Type 0 where
  pub counted : i.all.domains ≡ length i.owns
  pub schedule : IsSchedule i.all.schedule
  pub named : (e : ℕ) → e < length i.all.schedule → (entry_in i.all.schedule e).domain < length i.owns

abbrev pub NamedLaw : Type 0
NamedLaw = (i : text.Raw) → broken_but_pads i ≡ [] → NamesDomains (image_from i)

-- the bound is of a machine whose numbers are in their ranges, whoever leaves
abbrev pub ShapeLaw : Type 0
ShapeLaw = (i : text.Raw) (calls : ℕ) → broken_but_pads i ≡ [] → IsShape (shape_for (hardware_of i) calls)

-- products and the target buffer are those that the image says, in their ranges
abbrev pub ExtensionsLaw : Type 0
ExtensionsLaw = (i : text.Raw) → broken_but_pads i ≡ [] → HasExtensions i (hardware_of i)

-- each entry is on a hart, of four at most, each hart has one, and each domain is on one
abbrev pub HartsLaw : Type 0
HartsLaw = (i : text.Raw) → broken_but_pads i ≡ [] → AreHarts (image_from i).all.schedule

-- where all entries are on hart 0, these are all of them, each at its place
abbrev pub OneHartLaw : Type 0
OneHartLaw = (i : text.Raw) → All (λ e. e.hart ≡ pos 0) i.schedule →
    let es = (image_from i).all.schedule in
    entries_on es 0 ≡ enumerate_from 0 es

pub record IsSegment (s : Segment) : Type 0 where
  pub page : s.page + s.pages ≤ 2 ^ 20
  pub some : 1 ≤ s.pages
  pub few : s.pages ≤ 64
  pub rights : are_good s.rights ≡ true
  pub bytes : length s.bytes ≤ s.pages * 4096

pub record IsOwn (o : Own) : Type 0 where
  pub entry : o.entry < 2 ^ 32
  pub few : length o.segments ≤ 16
  pub segments : (k : ℕ) → IsSegment (segment_at o k)
  pub apart : (j k n : ℕ) → j < k → k < length o.segments
      → has_page (segment_at o j) n ≡ true → has_page (segment_at o k) n ≡ false
  pub few_caps : length o.caps ≤ 64
  pub pages : (k n : ℕ) → cap_at o k ≡ Page n → has_page_in o.segments n ≡ true
  pub page_once : (j k n : ℕ) → j ≢ k → cap_at o j ≡ Page n → cap_at o k ≢ Page n
  pub few_lines : (k n : ℕ) → cap_at o k ≡ Irq n → n < 32
  pub line_once : (j k n : ℕ) → j ≢ k → cap_at o j ≡ Irq n → cap_at o k ≢ Irq n
  pub lines : (n : ℕ) → has_line o n ≡ true → n < 32
  pub few_moments : length o.moments ≤ 1024
  pub moments : AreMoments o.moments
  pub early : (k : ℕ) (x : Moment) → slice_get o.moments k ≡ Some x → x.at ≤ 1000000000000
  pub own_lines : (k : ℕ) (x : Moment) → slice_get o.moments k ≡ Some x → has_line o x.line ≡ true
  pub listed : AreWithin o.makes o.calls

-- the bound on the switch after an entry's slot, by the calls of its domain
abbrev pub bound_after : Image → ℕ → ℕ
bound_after i e = bound_of (shape_for i.all.hardware (own_of i (entry_in i.all.schedule e).domain).calls)

pub record Runnable (i : Image) : Type 0 where
  pub counted : i.all.domains ≡ length i.owns
  pub some_domain : 0 < length i.owns
  pub few_domains : length i.owns ≤ 32
  pub hardware : IsHardware i.all.hardware
  pub disjoint : AreDisjoint (colours_of i.all.hardware) (map (λ o. o.colours) i.owns)
  pub pools : (d : ℕ) → d < length i.owns
      → frames_in (own_of i d).segments ≤ length (pool (share_of i.all.hardware (own_of i d)))
  pub schedule : IsSchedule i.all.schedule
  pub named : (e : ℕ) → e < length i.all.schedule → (entry_in i.all.schedule e).domain < length i.owns
  pub lasting : (e : ℕ) → e < length i.all.schedule → 1000 ≤ (entry_in i.all.schedule e).length
  pub harts : AreHarts i.all.schedule
  pub padded : (e : ℕ) → e < length i.all.schedule → bound_after i e ≤ (entry_in i.all.schedule e).pad
  pub sound : (d : ℕ) → IsOwn (own_of i d)
  pub numbered : (d : ℕ) → d < length i.owns → (own_of i d).number ≡ d
  pub boxes : AreBoxes i.all.domains i.all.mail
  pub owned : (d e n : ℕ) → d < length i.owns → e < length i.owns → d ≢ e
      → has_line (own_of i d) n ≡ true → has_line (own_of i e) n ≡ false

-- an image in the ranges of its keys that breaks no rule can be run
abbrev pub RunnableLaw : Type 0
RunnableLaw = (i : text.Raw) → InKeyRanges i → broken i ≡ [] → Runnable (image_from i)

-- The numbers and truth values of a record are those of its text: at each of their keys stands, in the table that TOML finds
-- in the bytes, the very value of the record.
use Rattle.std.specs.Prelude.{◌≡◌, ℕ, Bool, false, ℤ, pos, List, [], ◌∷◌, codes, Option, Some, None, Ok, ◌⊎◌}
use Rattle.toml.specs.Data.{Data, Items, no_items, item, Members, get_member}
use Rattle.image_record.specs.Record.{RawCache, RawCosts, RawMuldiv, RawSegment, RawMoment, RawDomain, RawEntry, RawMailbox, Raw}
use Rattle.image_text.specs.Record.{document, image_of}

-- ---- what stands at a key

abbrev pub IsInteger : Data → ℤ → Type 0
IsInteger d z = d ≡ Data.integer z

abbrev pub IntegerAt : List ℕ → Members → ℤ → Type 0
IntegerAt key t z = get_member key t ≡ Some (Data.integer z)

-- a table, of which P holds
pub record TableAt (key : List ℕ) (t : Members) (P : Members → Type 0) : Type 0 where
  pub table : Members
  pub stands : get_member key t ≡ Some (Data.table table)
  pub holds : P table

-- where it is missing, the number is 0
abbrev pub IntegerOrZeroAt : List ℕ → Members → ℤ → Type 0
IntegerOrZeroAt key t z = ((get_member key t ≡ None) × (z ≡ pos 0)) ⊎ IntegerAt key t z

-- where it is missing, the value is false
abbrev pub TruthOrFalseAt : List ℕ → Members → Bool → Type 0
TruthOrFalseAt key t b =
    ((get_member key t ≡ None) × (b ≡ false)) ⊎ (get_member key t ≡ Some (Data.boolean b))

-- one of the two versions; where it is missing, the first
abbrev pub VersionAt : Members → ℕ → Type 0
VersionAt t v = ((get_member (codes "version") t ≡ None) × (v ≡ 1))
    ⊎ (IntegerAt (codes "version") t (pos v) × ((v ≡ 1) ⊎ (v ≡ 2)))

-- where it is missing, there is no number, and no part
abbrev pub IntegerIfAt : List ℕ → Members → Option ℤ → Type 0
IntegerIfAt key t None = get_member key t ≡ None
IntegerIfAt key t (Some z) = IntegerAt key t z

abbrev pub TableIfAt : {A : Type 0} → List ℕ → Members → (A → Members → Type 0) → Option A → Type 0
TableIfAt key t P None = get_member key t ≡ None
TableIfAt key t P (Some x) = TableAt key t (P x)

-- each item is the value of a list, in order
abbrev pub Each : {A : Type 0} → (Data → A → Type 0) → Items → List A → Type 0
Each Is no_items [] = Unit {0}
Each Is (item d ds) (x ∷ xs) = Is d x × Each Is ds xs
Each Is ds xs = ⊥

pub record ArrayAt {A : Type 0} (key : List ℕ) (t : Members) (Is : Data → A → Type 0) (xs : List A)
    : Type 0 where
  pub items : Items
  pub stands : get_member key t ≡ Some (Data.array items)
  pub each : Each Is items xs

-- where it is missing, the list is empty
abbrev pub ArrayIfAt : {A : Type 0} → List ℕ → Members → (Data → A → Type 0) → List A → Type 0
ArrayIfAt key t Is xs = ((get_member key t ≡ None) × (xs ≡ [])) ⊎ ArrayAt key t Is xs

-- where it is missing, there is no list
abbrev pub ArrayOrNoneAt : {A : Type 0} → List ℕ → Members → (Data → A → Type 0) → Option (List A) → Type 0
ArrayOrNoneAt key t Is None = get_member key t ≡ None
ArrayOrNoneAt key t Is (Some xs) = ArrayAt key t Is xs

abbrev pub IsTableOf : {A : Type 0} → (Members → A → Type 0) → Data → A → Type 0
IsTableOf P (Data.table t) x = P t x
IsTableOf P d x = ⊥

-- ---- the parts

pub record CacheNumbers (c : RawCache) (t : Members) : Type 0 where
  pub sets : IntegerAt (codes "sets") t c.sets
  pub ways : IntegerAt (codes "ways") t c.ways

pub record Level2Numbers (c : RawCache) (b : Bool) (t : Members) : Type 0 where
  pub cache : CacheNumbers c t
  pub back : TruthOrFalseAt (codes "back") t b

pub record CostNumbers (c : RawCosts) (t : Members) : Type 0 where
  pub base : IntegerAt (codes "base") t c.base
  pub l1 : IntegerAt (codes "l1") t c.l1
  pub l2 : IntegerAt (codes "l2") t c.l2
  pub mem : IntegerAt (codes "mem") t c.mem
  pub wb : IntegerAt (codes "wb") t c.wb
  pub tlb : IntegerAt (codes "tlb") t c.tlb
  pub mispredict : IntegerAt (codes "mispredict") t c.mispredict
  pub trap : IntegerAt (codes "trap") t c.trap
  pub flush : IntegerAt (codes "flush") t c.flush

pub record MuldivNumbers (c : RawMuldiv) (t : Members) : Type 0 where
  pub mul : IntegerAt (codes "mul") t c.mul
  pub div : IntegerAt (codes "div") t c.div

pub record SegmentNumbers (t : Members) (s : RawSegment) : Type 0 where
  pub page : IntegerAt (codes "page") t (pos s.page)
  pub pages : IntegerAt (codes "pages") t (pos s.pages)

abbrev pub IsMoment : Data → RawMoment → Type 0
IsMoment d m = d ≡ Data.array (item (Data.integer m.at) (item (Data.integer m.line) no_items))

pub record DomainNumbers (t : Members) (o : RawDomain) : Type 0 where
  pub colours : ArrayAt (codes "colours") t IsInteger o.colours
  pub entry : IntegerAt (codes "entry") t (pos o.entry)
  pub segments : ArrayAt (codes "segment") t (IsTableOf SegmentNumbers) o.segments
  pub lines : ArrayIfAt (codes "lines") t IsInteger o.lines
  pub moments : ArrayIfAt (codes "moments") t IsMoment o.moments
  pub calls : ArrayOrNoneAt (codes "calls") t IsInteger o.calls

pub record EntryNumbers (t : Members) (e : RawEntry) : Type 0 where
  pub domain : IntegerAt (codes "domain") t e.domain
  pub length : IntegerAt (codes "length") t e.length
  pub pad : IntegerAt (codes "pad") t e.pad
  pub hart : IntegerOrZeroAt (codes "hart") t e.hart

pub record MailboxNumbers (t : Members) (b : RawMailbox) : Type 0 where
  pub from : IntegerAt (codes "from") t b.from
  pub to : IntegerAt (codes "to") t b.to

-- ---- the image

pub record Numbers (t : Members) (i : Raw) : Type 0 where
  pub version : VersionAt t i.version
  pub frames : IntegerAt (codes "frames") t i.frames
  pub shared : IntegerAt (codes "shared") t i.shared
  pub line : IntegerAt (codes "line") t i.line
  pub l1i : TableAt (codes "l1i") t (CacheNumbers i.l1i)
  pub l1d : TableAt (codes "l1d") t (CacheNumbers i.l1d)
  pub l2 : TableAt (codes "l2") t (Level2Numbers i.l2 i.back)
  pub tlb : TableAt (codes "tlb") t (CacheNumbers i.tlb)
  pub predictor : IntegerAt (codes "predictor") t i.predictor
  pub history : IntegerOrZeroAt (codes "history") t i.history
  pub costs : TableAt (codes "costs") t (CostNumbers i.costs)
  pub muldiv : TableIfAt (codes "muldiv") t MuldivNumbers i.muldiv
  pub targets : IntegerIfAt (codes "targets") t i.targets
  pub domains : ArrayAt (codes "domain") t (IsTableOf DomainNumbers) i.domains
  pub schedule : ArrayAt (codes "schedule") t (IsTableOf EntryNumbers) i.schedule
  pub mail : ArrayIfAt (codes "mail") t (IsTableOf MailboxNumbers) i.mail

-- of every image that bytes are
abbrev pub NumbersLaw : Type 0
NumbersLaw =
    (bytes : List ℕ) (t : Members) (i : Raw) → document bytes ≡ Some t → image_of bytes ≡ Ok i → Numbers t i

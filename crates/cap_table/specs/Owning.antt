-- Which frames the slots own: each that is named is owned at one slot, which names it.
use Rattle.std.specs.Prelude.{◌≡◌, ◌≢◌, ℕ, ◌<◌, List, length, slice_index_or, Option, Some, None}
use Rattle.cap_table.specs.declared.Cap.{Cap}
use Rattle.cap_table.specs.declared.Given.{Given}
use Rattle.cap_table.specs.declared.Cap.TheVariants as cap
use Rattle.cap_table.specs.declared.Given.TheVariants as given
use Rattle.cap_table.specs.Slots.{Slots, cap_at, page_of, table_of, line_of}

-- the frame that a slot owns, by slot
abbrev pub owner_at : List (Option ℕ) → ℕ → Option ℕ
owner_at owners i = slice_index_or owners i None

-- for what capabilities name, as `page_of` or `table_of` tells it
pub record IsOwned (names : Option Cap → Option ℕ) (slots : Slots) (owners : List (Option ℕ)) : Type 0 where
  pub places : length owners ≡ 64
  pub named : (i f : ℕ) → owner_at owners i ≡ Some f → names (cap_at slots i) ≡ Some f
  pub owner : (i f : ℕ) → names (cap_at slots i) ≡ Some f → (j : ℕ) × (owner_at owners j ≡ Some f)
  pub once : (i j f : ℕ) → owner_at owners i ≡ Some f → owner_at owners j ≡ Some f → i ≡ j

-- a table's frame has one slot
pub record IsSingle (slots : Slots) : Type 0 where
  pub once : (i j f : ℕ) → table_of (cap_at slots i) ≡ Some f → table_of (cap_at slots j) ≡ Some f → i ≡ j

-- there are 32 lines
pub record HasLines (slots : Slots) : Type 0 where
  pub few : (i line : ℕ) → line_of (cap_at slots i) ≡ Some line → line < 32

-- what is true of every table
pub record IsSound (slots : Slots) (pages tables : List (Option ℕ)) : Type 0 where
  pub places : length slots ≡ 64
  pub pages_owned : IsOwned page_of slots pages
  pub tables_owned : IsOwned table_of slots tables
  pub single : IsSingle slots
  pub lines : HasLines slots

-- ---- what is given

-- the capability for what is given, noted at no address
abbrev pub given_cap : Given → Cap
given_cap (given.Page frame rights) = cap.Frame frame rights None
given_cap (given.Table frame) = cap.Table frame None
given_cap (given.Irq line) = cap.Irq line

-- no capability names a frame
pub record IsUnnamed (slots : Slots) (frame : ℕ) : Type 0 where
  pub no_page : (i : ℕ) → page_of (cap_at slots i) ≢ Some frame
  pub no_table : (i : ℕ) → table_of (cap_at slots i) ≢ Some frame

-- a frame is given that no capability names, or one of the 32 lines
abbrev pub IsNew : Slots → Given → Type 0
IsNew slots (given.Page frame rights) = IsUnnamed slots frame
IsNew slots (given.Table frame) = IsUnnamed slots frame
IsNew slots (given.Irq line) = line < 32

-- ---- what comes back

-- no other slot names a page
pub record NoOther (slots : Slots) (slot frame : ℕ) : Type 0 where
  pub none : (i : ℕ) → i ≢ slot → page_of (cap_at slots i) ≢ Some frame

-- the page that comes back where a slot is emptied: the one that it names and no other slot does;
-- where none comes back, another slot names what it does
abbrev pub Back : Slots → ℕ → Option ℕ → Type 0
Back slots slot None =
    (f : ℕ) → page_of (cap_at slots slot) ≡ Some f
    → (i : ℕ) × (i ≢ slot) × (page_of (cap_at slots i) ≡ Some f)
Back slots slot (Some f) = (page_of (cap_at slots slot) ≡ Some f) × NoOther slots slot f

-- another slot that names a page, if there is one
abbrev pub IsOther : Slots → ℕ → ℕ → Option ℕ → Type 0
IsOther slots slot frame None = NoOther slots slot frame
IsOther slots slot frame (Some i) = (i ≢ slot) × (i < length slots) × (page_of (cap_at slots i) ≡ Some frame)

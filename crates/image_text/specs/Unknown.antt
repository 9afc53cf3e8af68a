-- Row 26 of the key table: no table has another key than those that the rows name for it. A table that stands where none is wanted is looked into, too: no row names a key of it.
use Rattle.std.specs.Prelude.{ℕ, ◌&&◌, ◌||◌, nat_le, is_some, Bool, true, false, List, [], ◌∷◌, take, drop, codes, Option, Some, None}
use Rattle.std.specs.Str.{bytes_eq}
use Rattle.toml.specs.Data.{Data, Items, no_items, item, Members, no_members, member, get_member, as_table}
use Rattle.image_text.specs.declared.kinds.Place.{Place}
use Rattle.image_text.specs.declared.kinds.Place.TheVariants.{Top, Level2, Domain, Segment, Entry, Mail}
use Rattle.image_text.specs.declared.kinds.Simple.{Simple}
use Rattle.image_text.specs.declared.kinds.Simple.TheVariants.{Table}
use Rattle.image_text.specs.Rows.{Field, Kind, One, Array, SomeTables, Pairs, Fields, Row, key_rows, version_of, if_table, all_items, items_at, Broken, first_broken}

abbrev pub same_place : Place → Place → Bool
same_place Top Top = true
same_place Level2 Level2 = true
same_place Domain Domain = true
same_place Segment Segment = true
same_place Entry Entry = true
same_place Mail Mail = true
same_place _ _ = false

-- the row is about tables of this place, in this version of the format
abbrev pub is_of : ℕ → Place → Row → Bool
is_of version place r = nat_le r.since version && same_place place r.place

abbrev pub names : ℕ → Place → Row → List ℕ → Bool
names version place r key = is_of version place r && bytes_eq r.key key

-- a row of the place names the key
abbrev pub is_known : ℕ → Place → List Row → List ℕ → Bool
is_known version place [] key = false
is_known version place (r ∷ rows) key = names version place r key || is_known version place rows key

abbrev pub all_keys : (List ℕ → Bool) → Members → Bool
all_keys p no_members = true
all_keys p (member key d ms) = p key && all_keys p ms

abbrev pub all_keys_known : ℕ → Place → List Row → Members → Bool
all_keys_known version place rows t = all_keys (is_known version place rows) t

-- ---- the value at a row's key

abbrev pub is_empty : Members → Bool
is_empty no_members = true
is_empty (member key d ms) = false

-- no table in the value has a key, however deep it stands
abbrev mutual
  pub no_key : Data → Bool
  no_key (Data.table t) = is_empty t
  no_key (Data.array ds) = no_key_in ds
  no_key _ = true

  pub no_key_in : Items → Bool
  no_key_in no_items = true
  no_key_in (item d ds) = no_key d && no_key_in ds

abbrev pub is_field : List Field → List ℕ → Bool
is_field [] key = false
is_field (f ∷ fields) key = bytes_eq f.key key || is_field fields key

abbrev pub is_lone_field : List Field → List ℕ → Data → Bool
is_lone_field fields key d = is_field fields key && no_key d

-- a table has no key but these fields, and they hold none
abbrev pub all_fields : List Field → Members → Bool
all_fields fields no_members = true
all_fields fields (member key d ms) = is_lone_field fields key d && all_fields fields ms

abbrev pub fields_alone : List Field → Data → Bool
fields_alone fields (Data.table t) = all_fields fields t
fields_alone fields d = no_key d

-- the tables of an array are looked into by the rows of their place
abbrev pub tables_alone : Data → Bool
tables_alone (Data.array ds) = all_items (λ d. is_some (as_table d) || no_key d) ds
tables_alone d = no_key d

abbrev pub array_alone : Simple → Data → Bool
array_alone Table d = tables_alone d
array_alone _ d = no_key d

-- in the value there is no key but those of its kind
abbrev pub no_more : Kind → Data → Bool
no_more (One simple) d = no_key d
no_more (Array simple) d = array_alone simple d
no_more (SomeTables most) d = tables_alone d
no_more Pairs d = no_key d
no_more (Fields fields) d = fields_alone fields d

abbrev pub no_more_at : Kind → Option Data → Bool
no_more_at kind None = true
no_more_at kind (Some d) = no_more kind d

-- ---- the tables of a place

abbrev pub no_more_if : Bool → Row → Members → Bool
no_more_if true r t = no_more_at r.kind (get_member r.key t)
no_more_if false r t = true

-- so it is at each key of a table of the place
abbrev pub no_more_in : ℕ → Place → List Row → Members → Bool
no_more_in version place [] t = true
no_more_in version place (r ∷ rows) t =
    no_more_if (is_of version place r) r t && no_more_in version place rows t

unfoldable pub known_table : ℕ → Place → List Row → Members → Bool
known_table version place rows t = all_keys_known version place rows t && no_more_in version place rows t

unfoldable pub known_item : ℕ → Place → List Row → Data → Bool
known_item version place rows d = if_table (known_table version place rows) (as_table d)

abbrev pub known_items : ℕ → Place → List Row → Items → Bool
known_items version place rows ds = all_items (known_item version place rows) ds

abbrev pub known_segments : ℕ → List Row → Data → Bool
known_segments version rows d =
    if_table (λ t. known_items version Segment rows (items_at (codes "segment") t)) (as_table d)

unfoldable pub known_domain : ℕ → List Row → Data → Bool
known_domain version rows d = known_item version Domain rows d && known_segments version rows d

abbrev pub known_domains : ℕ → List Row → Items → Bool
known_domains version rows ds = all_items (known_domain version rows) ds

-- no key but those of the rows
unfoldable pub all_known : ℕ → List Row → Members → Bool
all_known version rows t =
    known_table version Top rows t && known_domains version rows (items_at (codes "domain") t)
    && known_items version Entry rows (items_at (codes "schedule") t)
    && known_items version Mail rows (items_at (codes "mail") t)

-- ---- the least broken row

abbrev pub or_broken : Option Broken → Option Broken → Option Broken
or_broken (Some b) rest = Some b
or_broken None rest = rest

abbrev pub or_unknown : Bool → Option Broken → Option Broken
or_unknown true rest = rest
or_unknown false rest = Some (record { row = 26; found = 0 })

abbrev pub first_rows : Members → Option Broken
first_rows t = first_broken (version_of t) (take 25 key_rows) t

abbrev pub no_other_keys : Members → Bool
no_other_keys t = all_known (version_of t) key_rows t

-- rows of later keys stand after row 26
abbrev pub later_rows : Members → Option Broken
later_rows t = first_broken (version_of t) (drop 25 key_rows) t

unfoldable pub broken_key : Members → Option Broken
broken_key t = or_broken (first_rows t) (or_unknown (no_other_keys t) (later_rows t))

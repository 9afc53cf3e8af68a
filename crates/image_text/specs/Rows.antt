-- What must stand in the table that an image's text gives: the key table, its rows as data. A row is broken where its key is missing, of another type, or out of its range.
use Rattle.std.specs.Prelude.{ℕ, ◌+◌, ◌&&◌, nat_le, ℤ, pos, Bool, true, false, not, if◌then◌else◌, List, [], ◌∷◌, codes, Option, Some, None, is_some}
use Rattle.toml.specs.Data.{Data, Items, no_items, item, Members, get_member, as_str, as_integer, as_bool, as_array, as_table}
use Rattle.image_text.specs.declared.kinds.Simple.{Simple}
use Rattle.image_text.specs.declared.kinds.Simple.TheVariants.{Integer, Within, Truth, Text, Table}
use Rattle.image_text.specs.declared.kinds.Place.{Place}
use Rattle.image_text.specs.declared.kinds.Place.TheVariants.{Top, Level2, Domain, Segment, Entry, Mail}

-- ---- values

-- a key of a table in the image's table, and what must stand there
pub record Field : Type 0 where
  pub key : List ℕ
  pub simple : Option Simple  -- None: it may be missing, and a row of its own says what must stand there

pub data Kind : Type 0 where
  One : Simple → Kind  -- one value
  Array : Simple → Kind  -- an array of such values
  SomeTables : ℕ → Kind  -- an array of 1 to so many tables
  Pairs : Kind  -- an array of pairs of integers
  Fields : List Field → Kind  -- a table with these keys

-- a number from low to high
abbrev pub within : ℕ → ℕ → Option ℤ → Bool
within low high (Some (pos n)) = nat_le low n && nat_le n high
within low high _ = false

abbrev pub fits_one : Simple → Data → Bool
fits_one Integer d = is_some (as_integer d)
fits_one (Within low high) d = within low high (as_integer d)
fits_one Truth d = is_some (as_bool d)
fits_one Text d = is_some (as_str d)
fits_one Table d = is_some (as_table d)

abbrev pub all_items : (Data → Bool) → Items → Bool
all_items p no_items = true
all_items p (item d ds) = p d && all_items p ds

abbrev pub count_items : Items → ℕ
count_items no_items = 0
count_items (item d ds) = 1 + count_items ds

-- there are 1 to so many
abbrev pub are_some : ℕ → Items → Bool
are_some most ds = nat_le 1 (count_items ds) && nat_le (count_items ds) most

abbrev pub some_tables : ℕ → Items → Bool
some_tables most ds = are_some most ds && all_items (fits_one Table) ds

abbrev pub are_integers : Data → Data → Bool
are_integers x y = fits_one Integer x && fits_one Integer y

abbrev pub is_pair : Option Items → Bool
is_pair (Some (item x (item y no_items))) = are_integers x y
is_pair _ = false

abbrev pub is_pair_value : Data → Bool
is_pair_value d = is_pair (as_array d)

abbrev pub in_array : (Items → Bool) → Option Items → Bool
in_array p (Some ds) = p ds
in_array p None = false

-- a value stands there, and fits
abbrev pub has_one : Simple → Option Data → Bool
has_one simple (Some d) = fits_one simple d
has_one simple None = false

abbrev pub fits_field : Option Simple → Option Data → Bool
fits_field None o = true
fits_field (Some simple) o = has_one simple o

abbrev pub has_field : Field → Members → Bool
has_field f t = fits_field f.simple (get_member f.key t)

abbrev pub has_all : List Field → Members → Bool
has_all [] t = true
has_all (f ∷ fields) t = has_field f t && has_all fields t

abbrev pub in_fields : List Field → Option Members → Bool
in_fields fields (Some t) = has_all fields t
in_fields fields None = false

unfoldable pub fits : Kind → Data → Bool
fits (One simple) d = fits_one simple d
fits (Array simple) d = in_array (all_items (fits_one simple)) (as_array d)
fits (SomeTables most) d = in_array (some_tables most) (as_array d)
fits Pairs d = in_array (all_items is_pair_value) (as_array d)
fits (Fields fields) d = in_fields fields (as_table d)

-- ---- rows

pub record Row : Type 0 where
  pub number : ℕ
  pub since : ℕ  -- the version of the format in which the key came
  pub place : Place  -- the tables in which it stands
  pub needed : Bool
  pub key : List ℕ
  pub kind : Kind

abbrev pub needs : ℕ → Place → List ℕ → Kind → Row
needs number place key kind =
    record { number = number; since = 1; place = place; needed = true; key = key; kind = kind }

abbrev pub may_have : ℕ → Place → List ℕ → Kind → Row
may_have number place key kind =
    record { number = number; since = 1; place = place; needed = false; key = key; kind = kind }

-- a key of the second version alone
abbrev pub may_have_2 : ℕ → Place → List ℕ → Kind → Row
may_have_2 number place key kind =
    record { number = number; since = 2; place = place; needed = false; key = key; kind = kind }

abbrev pub integer : List ℕ → Field
integer key = record { key = key; simple = Some Integer }

abbrev pub text : List ℕ → Field
text key = record { key = key; simple = Some Text }

-- a key that has a row of its own
abbrev pub of_own_row : List ℕ → Field
of_own_row key = record { key = key; simple = None }

unfoldable pub cache_fields : List Field
cache_fields = integer (codes "sets") ∷ integer (codes "ways") ∷ text (codes "policy") ∷ []

unfoldable pub level2_fields : List Field
level2_fields =
    integer (codes "sets") ∷ integer (codes "ways") ∷ text (codes "policy") ∷ of_own_row (codes "back") ∷ []

unfoldable pub cost_fields : List Field
cost_fields =
    integer (codes "base") ∷ integer (codes "l1") ∷ integer (codes "l2") ∷ integer (codes "mem")
    ∷ integer (codes "wb") ∷ integer (codes "tlb") ∷ integer (codes "mispredict") ∷ integer (codes "trap")
    ∷ integer (codes "flush") ∷ []

unfoldable pub muldiv_fields : List Field
muldiv_fields = integer (codes "mul") ∷ integer (codes "div") ∷ []

-- the key table; row 26, any other key, is made from these rows
unfoldable pub key_rows : List Row
key_rows =
    needs 1 Top (codes "frames") (One Integer)
    ∷ needs 2 Top (codes "shared") (One Integer)
    ∷ needs 3 Top (codes "line") (One Integer)
    ∷ needs 4 Top (codes "l1i") (Fields cache_fields)
    ∷ needs 5 Top (codes "l1d") (Fields cache_fields)
    ∷ needs 6 Top (codes "l2") (Fields level2_fields)
    ∷ needs 7 Top (codes "tlb") (Fields cache_fields)
    ∷ needs 8 Top (codes "predictor") (One Integer)
    ∷ needs 9 Top (codes "costs") (Fields cost_fields)
    ∷ needs 10 Top (codes "domain") (Array Table)
    ∷ needs 11 Domain (codes "name") (One Text)
    ∷ needs 12 Domain (codes "colours") (Array Integer)
    ∷ needs 13 Domain (codes "entry") (One (Within 0 4294967295))
    ∷ needs 14 Domain (codes "segment") (SomeTables 16)
    ∷ needs 15 Segment (codes "page") (One (Within 0 1048575))
    ∷ needs 16 Segment (codes "pages") (One (Within 1 64))
    ∷ needs 17 Segment (codes "rights") (One Text)
    ∷ needs 18 Segment (codes "hex") (One Text)
    ∷ may_have 19 Domain (codes "caps") (Array Text)
    ∷ may_have 20 Domain (codes "lines") (Array Integer)
    ∷ may_have 21 Domain (codes "moments") Pairs
    ∷ needs 22 Top (codes "schedule") (Array Table)
    ∷ needs 23 Entry (codes "domain") (One Integer)
    ∷ needs 24 Entry (codes "length") (One Integer)
    ∷ needs 25 Entry (codes "pad") (One Integer)
    ∷ may_have 27 Level2 (codes "back") (One Truth)
    ∷ may_have 28 Top (codes "version") (One (Within 1 2))
    ∷ may_have_2 29 Domain (codes "calls") (Array Integer)
    ∷ may_have 30 Top (codes "history") (One Integer)
    ∷ may_have 31 Entry (codes "hart") (One Integer)
    ∷ may_have 32 Top (codes "mail") (Array Table)
    ∷ needs 33 Mail (codes "from") (One Integer)
    ∷ needs 34 Mail (codes "to") (One Integer)
    ∷ may_have 37 Top (codes "muldiv") (Fields muldiv_fields)
    ∷ may_have 38 Top (codes "targets") (One Integer)
    ∷ []

-- the version of the format. One that is neither the first nor the second breaks its own row, and knows all keys.
abbrev pub version_from : Option Data → ℕ
version_from None = 1
version_from (Some d) = if within 1 1 (as_integer d) then 1 else 2

abbrev pub version_of : Members → ℕ
version_of t = version_from (get_member (codes "version") t)

-- ---- where a row is broken

abbrev pub fits_if : Bool → Kind → Option Data → Bool
fits_if needed kind None = not needed
fits_if needed kind (Some d) = fits kind d

-- the row is whole in one table
unfoldable pub whole_in : Row → Members → Bool
whole_in row t = fits_if row.needed row.kind (get_member row.key t)

-- what is no table, and what is no array, is another row's matter
abbrev pub if_table : (Members → Bool) → Option Members → Bool
if_table p (Some t) = p t
if_table p None = true

abbrev pub items_or_none : Option Data → Items
items_or_none (Some (Data.array ds)) = ds
items_or_none _ = no_items

-- the items of an array at a key
abbrev pub items_at : List ℕ → Members → Items
items_at key t = items_or_none (get_member key t)

unfoldable pub whole_item : Row → Data → Bool
whole_item row d = if_table (whole_in row) (as_table d)

unfoldable pub whole_segments : Row → Data → Bool
whole_segments row d = if_table (λ t. all_items (whole_item row) (items_at (codes "segment") t)) (as_table d)

-- the row is whole in the second level's table
abbrev pub whole_level2 : Row → Option Data → Bool
whole_level2 row None = true
whole_level2 row (Some d) = whole_item row d

-- the row is whole in an item of the array in which its tables stand
abbrev pub passes : Place → Row → Data → Bool
passes Segment row d = whole_segments row d
passes _ row d = whole_item row d

-- the number of the first item that doesn't pass
abbrev pub first_failing : (Data → Bool) → ℕ → Items → Option ℕ
first_failing p n no_items = None
first_failing p n (item d ds) = if p d then first_failing p (n + 1) ds else Some n

abbrev pub first_broken_item : Row → Items → Option ℕ
first_broken_item row ds = first_failing (passes row.place row) 0 ds

-- the least domain, entry or box in which the row is broken, else 0
abbrev pub broken_at : Place → Row → Members → Option ℕ
broken_at Top row t = if whole_in row t then None else Some 0
broken_at Level2 row t = if whole_level2 row (get_member (codes "l2") t) then None else Some 0
broken_at Entry row t = first_failing (passes Entry row) 0 (items_at (codes "schedule") t)
broken_at Mail row t = first_failing (passes Mail row) 0 (items_at (codes "mail") t)
broken_at place row t = first_failing (passes place row) 0 (items_at (codes "domain") t)

-- a row of a later version says nothing
unfoldable pub broken_in : ℕ → Row → Members → Option ℕ
broken_in version row t = if nat_le row.since version then broken_at row.place row t else None

-- what is broken: the row, and the domain, entry or box
pub record Broken : Type 0 where
  pub row : ℕ
  pub found : ℕ

abbrev pub first_or : ℕ → Option ℕ → Option Broken → Option Broken
first_or row (Some found) rest = Some (record { row = row; found = found })
first_or row None rest = rest

-- the first of these rows that is broken
unfoldable pub first_broken : ℕ → List Row → Members → Option Broken
first_broken version [] t = None
first_broken version (r ∷ rows) t = first_or r.number (broken_in version r t) (first_broken version rows t)

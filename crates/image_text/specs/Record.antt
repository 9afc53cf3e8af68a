-- The record of an image's table. What is missing, or of another type, reads as zero, false or empty, and a number outside
-- its row's range as the least of it: the key table says where something is.
use Rattle.std.specs.Prelude.{◌≡◌, ℕ, ◌&&◌, nat_le, Bool, false, ℤ, pos, negsuc, if◌then◌else◌, List, [], ◌∷◌, codes, Option, Some, None, option_map, Result, Ok, Err}
use Rattle.std.specs.Str.{is_utf8}
use Rattle.toml.specs.Data.{Data, Items, no_items, item, Members, no_members, get_member, as_integer, as_array, as_table}
use Rattle.toml.specs.Parse.{parse_document}
use Rattle.image_record.specs.Record.{RawCache, RawCosts, RawMuldiv, RawSegment, RawMoment, RawDomain, RawEntry, RawMailbox, Raw, raw_domain, InKeyRanges}
use Rattle.image_record.specs.declared.refusal.Refusal.{Refusal}
use Rattle.image_text.specs.Rows.{items_or_none, items_at, version_of, Broken}
use Rattle.image_text.specs.Unknown.{broken_key}

-- ---- values

abbrev pub integer_of : Option Data → ℤ
integer_of (Some (Data.integer z)) = z
integer_of _ = pos 0

abbrev pub truth_of : Option Data → Bool
truth_of (Some (Data.boolean b)) = b
truth_of _ = false

abbrev pub text_of : Option Data → List ℕ
text_of (Some (Data.string s)) = s
text_of _ = []

abbrev pub table_of : Option Data → Members
table_of (Some (Data.table t)) = t
table_of _ = no_members

-- a number of the range, else the least of it
abbrev pub ranged : ℕ → ℕ → ℤ → ℕ
ranged low high (pos n) = if nat_le low n && nat_le n high then n else low
ranged low high (negsuc n) = low

abbrev pub integer_at : List ℕ → Members → ℤ
integer_at key t = integer_of (get_member key t)

abbrev pub natural_at : List ℕ → ℕ → ℕ → Members → ℕ
natural_at key low high t = ranged low high (integer_at key t)

abbrev pub truth_at : List ℕ → Members → Bool
truth_at key t = truth_of (get_member key t)

abbrev pub text_at : List ℕ → Members → List ℕ
text_at key t = text_of (get_member key t)

-- the integer, the table or the array, if there is one
abbrev pub integer_if : Option Data → Option ℤ
integer_if (Some d) = as_integer d
integer_if None = None

abbrev pub table_if : Option Data → Option Members
table_if (Some d) = as_table d
table_if None = None

abbrev pub items_if : Option Data → Option Items
items_if (Some d) = as_array d
items_if None = None

abbrev pub map_items : {A : Type 0} → (Data → A) → Items → List A
map_items f no_items = []
map_items f (item d ds) = f d ∷ map_items f ds

-- the integers, or the texts, of an array
abbrev pub integers_in : Items → List ℤ
integers_in ds = map_items (λ d. integer_of (Some d)) ds

abbrev pub integers_at : List ℕ → Members → List ℤ
integers_at key t = integers_in (items_at key t)

-- the integers of the array, if there is one
abbrev pub integers_if_at : List ℕ → Members → Option (List ℤ)
integers_if_at key t = option_map integers_in (items_if (get_member key t))

abbrev pub texts_at : List ℕ → Members → List (List ℕ)
texts_at key t = map_items (λ d. text_of (Some d)) (items_at key t)

-- ---- the parts

unfoldable pub cache_of : Members → RawCache
cache_of t = record {
  sets = integer_at (codes "sets") t;
  ways = integer_at (codes "ways") t;
  policy = text_at (codes "policy") t;
}

abbrev pub cache_at : List ℕ → Members → RawCache
cache_at key t = cache_of (table_of (get_member key t))

-- it stands in the second level's table
abbrev pub back_at : Members → Bool
back_at t = truth_at (codes "back") (table_of (get_member (codes "l2") t))

unfoldable pub costs_of : Members → RawCosts
costs_of t = record {
  base = integer_at (codes "base") t;
  l1 = integer_at (codes "l1") t;
  l2 = integer_at (codes "l2") t;
  mem = integer_at (codes "mem") t;
  wb = integer_at (codes "wb") t;
  tlb = integer_at (codes "tlb") t;
  mispredict = integer_at (codes "mispredict") t;
  trap = integer_at (codes "trap") t;
  flush = integer_at (codes "flush") t;
}

abbrev pub costs_at : Members → RawCosts
costs_at t = costs_of (table_of (get_member (codes "costs") t))

unfoldable pub muldiv_of : Members → RawMuldiv
muldiv_of t = record { mul = integer_at (codes "mul") t; div = integer_at (codes "div") t }

abbrev pub muldiv_at : Members → Option RawMuldiv
muldiv_at t = option_map muldiv_of (table_if (get_member (codes "muldiv") t))

abbrev pub targets_at : Members → Option ℤ
targets_at t = integer_if (get_member (codes "targets") t)

unfoldable pub segment_of : Members → RawSegment
segment_of t = record {
  page = natural_at (codes "page") 0 1048575 t;
  pages = natural_at (codes "pages") 1 64 t;
  rights = text_at (codes "rights") t;
  hex = text_at (codes "hex") t;
}

abbrev pub segment_in : Data → RawSegment
segment_in d = segment_of (table_of (Some d))

-- the integer at a place of a pair
abbrev pub first_item : Items → ℤ
first_item no_items = pos 0
first_item (item d ds) = integer_of (Some d)

abbrev pub second_item : Items → ℤ
second_item no_items = pos 0
second_item (item d ds) = first_item ds

abbrev pub moment_in : Data → RawMoment
moment_in d = record { at = first_item (items_or_none (Some d)); line = second_item (items_or_none (Some d)) }

unfoldable pub domain_of : Members → RawDomain
domain_of t = record {
  name = text_at (codes "name") t;
  colours = integers_at (codes "colours") t;
  entry = natural_at (codes "entry") 0 4294967295 t;
  segments = map_items segment_in (items_at (codes "segment") t);
  caps = texts_at (codes "caps") t;
  lines = integers_at (codes "lines") t;
  moments = map_items moment_in (items_at (codes "moments") t);
  calls = integers_if_at (codes "calls") t;
}

abbrev pub domain_in : Data → RawDomain
domain_in d = domain_of (table_of (Some d))

unfoldable pub entry_of : Members → RawEntry
entry_of t = record {
  domain = integer_at (codes "domain") t;
  length = integer_at (codes "length") t;
  pad = integer_at (codes "pad") t;
  hart = integer_at (codes "hart") t;
}

abbrev pub entry_in : Data → RawEntry
entry_in d = entry_of (table_of (Some d))

unfoldable pub mailbox_of : Members → RawMailbox
mailbox_of t = record { from = integer_at (codes "from") t; to = integer_at (codes "to") t }

abbrev pub mailbox_in : Data → RawMailbox
mailbox_in d = mailbox_of (table_of (Some d))

unfoldable pub record_of : Members → Raw
record_of t = record {
  version = version_of t;
  frames = integer_at (codes "frames") t;
  shared = integer_at (codes "shared") t;
  line = integer_at (codes "line") t;
  l1i = cache_at (codes "l1i") t;
  l1d = cache_at (codes "l1d") t;
  l2 = cache_at (codes "l2") t;
  back = back_at t;
  tlb = cache_at (codes "tlb") t;
  predictor = integer_at (codes "predictor") t;
  history = integer_at (codes "history") t;
  costs = costs_at t;
  muldiv = muldiv_at t;
  targets = targets_at t;
  domains = map_items domain_in (items_at (codes "domain") t);
  schedule = map_items entry_in (items_at (codes "schedule") t);
  mail = map_items mailbox_in (items_at (codes "mail") t);
}

-- ---- the image that bytes are

-- the table that bytes are, if they are UTF-8 and TOML
unfoldable pub document : List ℕ → Option Members
document bytes = if is_utf8 bytes then parse_document bytes else None

-- K1: the bytes are no text of TOML
abbrev pub not_toml : Refusal
not_toml = record { rule = 1; at = pos 0; found = pos 0; wanted = pos 0 }

-- K2: a row of the key table is broken
abbrev pub broken_row : Broken → Refusal
broken_row b = record { rule = 2; at = pos b.row; found = pos b.found; wanted = pos 0 }

abbrev pub read_whole : Members → Option Broken → Result Raw Refusal
read_whole t (Some b) = Err (broken_row b)
read_whole t None = Ok (record_of t)

abbrev pub read_table : Option Members → Result Raw Refusal
read_table None = Err not_toml
read_table (Some t) = read_whole t (broken_key t)

-- the record of the bytes, or the refusal by the first two rules
unfoldable pub image_of : List ℕ → Result Raw Refusal
image_of bytes = read_table (document bytes)

-- ---- what the key table gives

-- in the first version no domain says which calls it may make
abbrev pub FirstVersionLaw : Type 0
FirstVersionLaw = (bytes : List ℕ) (i : Raw) → image_of bytes ≡ Ok i → i.version ≡ 1 → (d : ℕ)
    → (raw_domain i.domains d).calls ≡ None

-- of every image that bytes are
abbrev pub RangesLaw : Type 0
RangesLaw = (bytes : List ℕ) (i : Raw) → image_of bytes ≡ Ok i → InKeyRanges i

-- The text of a record, as a function: TOML's own writer writes what has no float in one way.
use Rattle.std.specs.Prelude.{ℕ, Bool, true, false, if◌then◌else◌, List, [], ◌∷◌, ◌++◌, codes}
use Rattle.std.specs.Fmt.{signed_decimal}
use Rattle.toml_datetime.specs.Text.{datetime_text}
use Rattle.toml_parser.specs.Lexical.{line_feed}
use Rattle.toml_parser.specs.Strings.{Key}
use Rattle.toml_writer.specs.Text.{string_text, key_text, dotted_text}
use Rattle.toml.specs.Data.{Data, string, integer, float, boolean, datetime, array, table, Items, no_items, item, Members, no_members, member}
use Rattle.toml.specs.Tables.{Definition, key_value, std_table, array_table, Expression}
use Rattle.toml.specs.Text.{before_item, after_item, array_end, before_member, table_end, gap, header_open, header_close, expressions}
use Rattle.image_record.specs.Record.{Raw}
use Rattle.image_writing.specs.Data.{record_members}

-- a value on the right of `=`; no record has a float
unfoldable mutual
  pub value_text : Data → List ℕ
  value_text (string s) = string_text s
  value_text (integer z) = signed_decimal z
  value_text (float x) = []
  value_text (boolean b) = if b then codes "true" else codes "false"
  value_text (datetime dt) = datetime_text dt
  value_text (array ds) = codes "[" ++ items_text true ds
  value_text (table ms) = codes "{" ++ members_text true ms

  pub items_text : Bool → Items → List ℕ
  items_text is_first no_items = array_end false
  items_text is_first (item d ds) =
      before_item false is_first ++ (value_text d ++ (after_item false ++ items_text false ds))

  pub members_text : Bool → Members → List ℕ
  members_text is_first no_members = table_end is_first
  members_text is_first (member k d ms) =
      before_member is_first ++ (key_text k ++ (codes " = " ++ (value_text d ++ members_text false ms)))

-- a line, after others or the first one
unfoldable pub line_text : Bool → Key → Definition → List ℕ
line_text started key (key_value d) = dotted_text key ++ (codes " = " ++ (value_text d ++ line_feed ∷ []))
line_text started key std_table = gap started ++ (header_open false ++ (dotted_text key ++ header_close false))
line_text started key array_table = gap started ++ (header_open true ++ (dotted_text key ++ header_close true))

unfoldable pub lines_text : Bool → List Expression → List ℕ
lines_text started [] = []
lines_text started (e ∷ es) = line_text started e.0 e.1 ++ lines_text true es

unfoldable pub text_of : Raw → List ℕ
text_of r = lines_text false (expressions (record_members r))

-- What has no float is written in one way.
use Rattle.std.proofs.Common.{◌≡◌, ℕ, Bool, true, false, if◌then◌else◌, List, [], ◌∷◌, ◌++◌, codes, refl, ap, ap₂, ◌∙◌, subst}
use Rattle.toml_parser.specs.Lexical.{line_feed}
use Rattle.toml_parser.specs.Strings.{Key}
use Rattle.toml_writer.specs.Text.{key_text, dotted_text}
use Rattle.toml.specs.Data.{Data, string, integer, float, boolean, datetime, array, table, Items, no_items, item, Members, no_members, member}
use Rattle.toml.specs.Tables.{Definition, key_value, std_table, array_table, Expression}
use Rattle.toml.specs.Text.{breaks_lines, before_item, after_item, before_member, are_tables, is_section, pairs, needs_header, header_of, sections, section, elements, expressions, IsValueText, IsItemsText, IsMembersText, IsLineText, IsLinesText, IsDocumentText}
use Rattle.image_writing.specs.Text.{value_text, items_text, members_text, line_text, lines_text}

-- ---- values

abbrev mutual
  pub NoFloat : Data → Type 0
  NoFloat (string s) = Unit {0}
  NoFloat (integer z) = Unit {0}
  NoFloat (float x) = ⊥
  NoFloat (boolean b) = Unit {0}
  NoFloat (datetime dt) = Unit {0}
  NoFloat (array ds) = NoFloatItem ds
  NoFloat (table ms) = NoFloatMember ms

  pub NoFloatItem : Items → Type 0
  NoFloatItem no_items = Unit {0}
  NoFloatItem (item d ds) = NoFloat d × NoFloatItem ds

  pub NoFloatMember : Members → Type 0
  NoFloatMember no_members = Unit {0}
  NoFloatMember (member k d ms) = NoFloat d × NoFloatMember ms

-- an array stands on one line, as what is not pretty
one_line : (ds : Items) → breaks_lines false ds ≡ false
one_line no_items = refl
one_line (item d no_items) = refl
one_line (item d (item e ds)) = refl

mutual
  unfolding value_text

  one_value : (d : Data) (t : List ℕ) → NoFloat d → IsValueText false d t → t ≡ value_text d
  one_value (string s) t none is = is
  one_value (integer z) t none is = is.0
  one_value (float x) t none is = absurd none
  one_value (boolean b) t none is = is
  one_value (datetime dt) t none is = is
  one_value (array ds) t none (rest, is, items) =
      let own = subst (λ (b : Bool). IsItemsText false b true ds rest) (one_line ds) items in
      is ∙ ap (λ r. codes "[" ++ r) (one_items true ds rest none own)
  one_value (table ms) t none (rest, is, members) = is ∙ ap (λ r. codes "{" ++ r) (one_members true ms rest none members)

  one_items : (is_first : Bool) (ds : Items) (t : List ℕ) → NoFloatItem ds → IsItemsText false false is_first ds t
      → t ≡ items_text is_first ds
  one_items is_first no_items t none is = is
  one_items is_first (item d ds) t none (this, rest, is, here, there) =
      is ∙ ap₂ (λ x r. before_item false is_first ++ (x ++ (after_item false ++ r))) (one_value d this none.0 here)
      (one_items false ds rest none.1 there)

  one_members : (is_first : Bool) (ms : Members) (t : List ℕ) → NoFloatMember ms → IsMembersText false is_first ms t
      → t ≡ members_text is_first ms
  one_members is_first no_members t none is = is
  one_members is_first (member k d ms) t none (this, rest, is, here, there, order) =
      is ∙ ap₂ (λ x r. before_member is_first ++ (key_text k ++ (codes " = " ++ (x ++ r)))) (one_value d this none.0 here)
      (one_members false ms rest none.1 there)

-- ---- lines

abbrev NoFloatLine : Definition → Type 0
NoFloatLine (key_value d) = NoFloat d
NoFloatLine _ = Unit {0}

abbrev NoFloatLines : List Expression → Type 0
NoFloatLines [] = Unit {0}
NoFloatLines (e ∷ es) = NoFloatLine e.1 × NoFloatLines es

both_lines : (es fs : List Expression) → NoFloatLines es → NoFloatLines fs → NoFloatLines (es ++ fs)
both_lines [] fs a b = b
both_lines (e ∷ es) fs a b = (a.0, both_lines es fs a.1 b)

one_line_text : (started : Bool) (key : Key) (what : Definition) (t : List ℕ) → NoFloatLine what
    → IsLineText false started key what t → t ≡ line_text started key what
unfolding line_text
one_line_text started key (key_value d) t none (this, is, value) =
    is ∙ ap (λ x. dotted_text key ++ (codes " = " ++ (x ++ line_feed ∷ []))) (one_value d this none value)
one_line_text started key std_table t none is = is
one_line_text started key array_table t none is = is

one_lines : (started : Bool) (es : List Expression) (t : List ℕ) → NoFloatLines es → IsLinesText false started es t
    → t ≡ lines_text started es
unfolding lines_text
one_lines started [] t none is = is
one_lines started (e ∷ es) t none (this, rest, is, here, there) =
    is ∙ ap₂ (λ x r. x ++ r) (one_line_text started e.0 e.1 this none.0 here) (one_lines true es rest none.1 there)

-- ---- the lines of a table

by_test : (b : Bool) (es fs : List Expression) → NoFloatLines es → NoFloatLines fs → NoFloatLines (if b then es else fs)
by_test true es fs a b = a
by_test false es fs a b = b

pair_lines : (ms : Members) → NoFloatMember ms → NoFloatLines (pairs ms)
pair_lines no_members none = tt
pair_lines (member k d ms) none =
    let rest = pair_lines ms none.1 in
    by_test (is_section d) (pairs ms) ((([], k), key_value d) ∷ pairs ms) rest (none.0, rest)

header_lines : (key : Key) (ms : Members) → NoFloatLines (header_of key ms)
header_lines key ms = by_test (needs_header ms) ((key, std_table) ∷ []) [] (tt, tt) tt

mutual
  section_lines : (path : List (List ℕ)) (ms : Members) → NoFloatMember ms → NoFloatLines (sections path ms)
  section_lines path no_members none = tt
  section_lines path (member k d ms) none =
      both_lines (section (path, k) d) (sections path ms) (lines_of (path, k) d none.0) (section_lines path ms none.1)

  lines_of : (key : Key) (d : Data) → NoFloat d → NoFloatLines (section key d)
  lines_of key (table ms) none =
      both_lines (header_of key ms) _ (header_lines key ms)
      (both_lines (pairs ms) _ (pair_lines ms none) (section_lines (key.0 ++ key.1 ∷ []) ms none))
  lines_of key (array ds) none = by_test (are_tables ds) (elements key ds) [] (element_lines key ds none) tt
  lines_of key (string s) none = tt
  lines_of key (integer z) none = tt
  lines_of key (float x) none = tt
  lines_of key (boolean b) none = tt
  lines_of key (datetime dt) none = tt

  element_lines : (key : Key) (ds : Items) → NoFloatItem ds → NoFloatLines (elements key ds)
  element_lines key no_items none = tt
  element_lines key (item (table ms) ds) none =
      let path = key.0 ++ key.1 ∷ [] in
      let own = both_lines (pairs ms) (sections path ms) (pair_lines ms none.0) (section_lines path ms none.0) in
      (tt, both_lines (pairs ms ++ sections path ms) (elements key ds) own (element_lines key ds none.1))
  element_lines key (item (string s) ds) none = element_lines key ds none.1
  element_lines key (item (integer z) ds) none = element_lines key ds none.1
  element_lines key (item (float x) ds) none = element_lines key ds none.1
  element_lines key (item (boolean b) ds) none = element_lines key ds none.1
  element_lines key (item (datetime dt) ds) none = element_lines key ds none.1
  element_lines key (item (array es) ds) none = element_lines key ds none.1

pub one_text : (ms : Members) (t : List ℕ) → NoFloatMember ms → IsDocumentText false ms t
    → t ≡ lines_text false (expressions ms)
one_text ms t none is =
    one_lines false (expressions ms) t (both_lines (pairs ms) (sections [] ms) (pair_lines ms none) (section_lines [] ms none)) is

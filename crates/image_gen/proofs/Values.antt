-- Values laid out for people, and how they are read.
use Rattle.std.proofs.Common.{◌≡◌, ℕ, suc, ◌-◌, ◌<◌, ◌≤◌, ◌^◌, Bool, true, false, ◌||◌, ◌==◌, pos, List, [], ◌∷◌, ◌++◌, length, codes, decimal, Option, Some, None, option_and_then, refl, sym, ap, ◌∙◌, subst, arith, append_assoc, length-append, eq-eqb}
use Rattle.std.proofs.lemmas.Bool.{and_parts}
use Rattle.std.proofs.lemmas.Bool.Decides.{nat_tests}
use Rattle.std.proofs.lemmas.Option.{none-some, same_Some}
use Rattle.std.specs.List.{list_all, list_any}
use Rattle.toml_parser.specs.declared.scalar.Scalar.{Scalar}
use Rattle.toml_parser.specs.declared.scalar.Scalar.TheVariants.{Integer}
use Rattle.toml_parser.specs.Lexical.{first, is_word, skip_blank}
use Rattle.toml_parser.specs.Strings.{starts_string}
use Rattle.toml_parser.specs.Numbers.{unquoted}
use Rattle.toml_writer.specs.Text.{string_text, key_text, encoding_of, escaped, needs_escape, quotes_after, has, is_control}
use Rattle.toml_writer.proofs.Strings.{is_key_start-key_text}
use Rattle.toml_writer.proofs.Scalars.{IsWord, unquoted-word, IsWord-pos}
use Rattle.toml.specs.Data.{Data, string, integer, array, table, Items, no_items, item, push_item}
use Rattle.toml.specs.Tables.{Nodes, no_nodes, close, put}
use Rattle.toml.specs.Parse.{read_map, atom, val, scalar_data, after_element, items, members}
use Rattle.toml.specs.Text.{before_item, after_item, array_end, before_member, table_end}
use Rattle.toml.proofs.Turns.{val_atom, val_array, val_table, items_end, items_more, members_end, members_more, keyval_ok}
use Rattle.toml.proofs.Blanks.{starts_value, strip_if, skip_within, skip_none, skip_space, blanks_item, blanks_end, blanks_member, blanks_table_end}
use Rattle.toml.proofs.ReadValues.{EndsValue, item_join, item_join-none, item_join-push, AfterElement, read_value, value_start, key_equals-pair}

-- the text is read as the data, where n levels more may be nested
pub record IsText (n : ℕ) (d : Data) (text : List ℕ) : Type 0 where
  pub some : 0 < length text
  pub starts : (rest : List ℕ) → starts_value (first (text ++ rest)) ≡ true
  pub reads : (rest : List ℕ) → EndsValue rest → val n (text ++ rest) ≡ Some (d, rest)

-- ---- words

atom_word : (text : List ℕ) → starts_string text ≡ false → atom text ≡ read_map scalar_data (unquoted text)
unfolding atom
atom_word text h = rw h

word_front : (w rest : List ℕ) → 0 < length w → list_all is_word w ≡ true → is_word (first (w ++ rest)) ≡ true
word_front [] rest some all = absurd (omega arith)
word_front (c ∷ cs) rest some all = (and_parts (is_word c) (list_all is_word cs) all).0

pub word_is : (n : ℕ) (w : List ℕ) (s : Scalar) → IsWord w s → IsText n (scalar_data s) w
word_is n w s h = record {
  some = h.some;
  starts = λ rest. (let word = word_front w rest h.some h.all in rw word);
  reads = λ rest ends. (
      let word = word_front w rest h.some h.all in
      let a : (first (w ++ rest) == 91) ≡ false = grind (arith, nat_tests) in
      let b : (first (w ++ rest) == 123) ≡ false = grind (arith, nat_tests) in
      let neither : starts_string (w ++ rest) ≡ false = grind (arith, nat_tests) in
      val_atom n (w ++ rest) a b ∙ atom_word (w ++ rest) neither ∙ rw (unquoted-word w rest s h.some h.all ends.1 h.value));
}

pub number_is : (n k : ℕ) → k < 2 ^ 63 → IsText n (integer (pos k)) (decimal k)
number_is n k small = word_is n (decimal k) (Integer (pos k)) (IsWord-pos k small)

-- ---- strings

-- a byte that a string or a comment shows as it is
abbrev pub is_simple : ℕ → Bool
is_simple c = is_word c || c == 32

pub none_of : (p : ℕ → Bool) → ((c : ℕ) → is_simple c ≡ true → p c ≡ false) → (s : List ℕ)
    → list_all is_simple s ≡ true → list_any p s ≡ false
none_of p none [] all = refl
none_of p none (c ∷ cs) all =
    let (here, more) = and_parts (is_simple c) (list_all is_simple cs) all in
    rw (none c here, none_of p none cs more)

escaped_simple : (s : List ℕ) → list_all is_simple s ≡ true → escaped false 0 s ≡ s
unfolding escaped needs_escape quotes_after
escaped_simple [] all = refl
escaped_simple (c ∷ cs) all =
    let (here, more) = and_parts (is_simple c) (list_all is_simple cs) all in
    let plain : needs_escape false 0 c ≡ false = grind (arith, nat_tests) in
    let other : (c == 34) ≡ false = grind (arith, nat_tests) in
    rw (plain, other, escaped_simple cs more)

simple_text : (s : List ℕ) → list_all is_simple s ≡ true → string_text s ≡ 34 ∷ (s ++ 34 ∷ [])
unfolding string_text encoding_of
simple_text s all =
    let control : list_any is_control s ≡ false = none_of is_control (λ c h. grind (arith, nat_tests)) s all in
    let slash : has 92 s ≡ false = none_of (λ x. x == 92) (λ c h. grind (arith, nat_tests)) s all in
    let quote : has 34 s ≡ false = none_of (λ x. x == 34) (λ c h. grind (arith, nat_tests)) s all in
    let feed : has 10 s ≡ false = none_of (λ x. x == 10) (λ c h. grind (arith, nat_tests)) s all in
    rw (control, slash, quote, feed, escaped_simple s all)

pub string_is : (n : ℕ) (s : List ℕ) → list_all is_simple s ≡ true → IsText n (string s) (34 ∷ (s ++ 34 ∷ []))
string_is n s all =
    let P : List ℕ → Type 0 = λ t. IsText n (string s) t in
    let deep : 0 ≤ n = omega arith in
    subst P (simple_text s all) (record {
      some = (value_start false (string s) (string_text s) [] refl refl).0;
      starts = λ rest. (value_start false (string s) (string_text s) rest refl refl).1;
      reads = λ rest ends. read_value false (string s) n (string_text s) rest refl deep refl ends;
    })

-- ---- after an element

no_end : (c : ℕ) → starts_value c ≡ true → ((c == 93) ≡ false) × ((c == 125) ≡ false)
no_end c h = (grind (arith, nat_tests), grind (arith, nat_tests))

after_comma : (closing : ℕ) (t : List ℕ) → after_element closing (44 ∷ t) ≡ Some t
unfolding after_element
after_comma closing t = rw (skip_none (44 ∷ t) 44 refl refl)

after_at : (closing : ℕ) (text t : List ℕ) → skip_blank text ≡ closing ∷ t → (closing == 44) ≡ false
    → after_element closing text ≡ Some (closing ∷ t)
unfolding after_element
after_at closing text t at_closing other = rw (at_closing, other, eq-eqb closing closing refl)

-- ---- arrays

pub record Item (n : ℕ) : Type 0 where
  pub value : Data
  pub text : List ℕ
  pub is : IsText n value text

abbrev pub item_data : {n : ℕ} → List (Item n) → Items
item_data [] = no_items
item_data (i ∷ is) = item i.value (item_data is)

-- in one line, or each in a line of its own
abbrev pub items_text : {n : ℕ} → Bool → Bool → List (Item n) → List ℕ
items_text lines is_first [] = array_end lines
items_text lines is_first (i ∷ is) = before_item lines is_first ++ (i.text ++ (after_item lines ++ items_text lines false is))

after_items : {n : ℕ} (lines : Bool) (is : List (Item n)) (rest : List ℕ)
    → AfterElement 93 (after_item lines ++ (items_text lines false is ++ rest))
    (items_text lines false is ++ rest)
after_items true [] rest = (10 ∷ 93 ∷ rest, after_comma 93 _, refl, omega arith, ((refl, refl), (refl, refl)))
after_items false [] rest = (
  93
      ∷ rest,
  after_at 93 (93 ∷ rest) rest (skip_none (93 ∷ rest) 93 refl refl) refl,
  refl,
  omega arith,
  ((refl, refl), (refl, refl)),
)
after_items true (i ∷ is) rest = (_, after_comma 93 _, refl, omega arith, ((refl, refl), (refl, refl)))
after_items false (i ∷ is) rest = (_, after_comma 93 _, refl, omega arith, ((refl, refl), (refl, refl)))

read_items : {n : ℕ} (lines is_first : Bool) (is : List (Item n)) (rest x : List ℕ) (found : Items) (m : ℕ)
    → skip_blank x ≡ skip_blank (strip_if is_first (items_text lines is_first is ++ rest)) → length x < m
    → items (val n) m found x ≡ Some (item_join found (item_data is), rest)
read_items {n = n} lines is_first [] rest x found m skip room =
    let closing : skip_blank x ≡ 93 ∷ rest = skip ∙ blanks_end lines is_first rest in
    items_end (val n) m found x (omega arith) (rw closing refl) ∙ rw (closing, item_join-none found)
read_items {n = n} lines is_first (i ∷ is) rest x found m skip room =
    let r2 = after_item lines ++ (items_text lines false is ++ rest) in
    let s = i.text ++ r2 in
    let same : items_text lines is_first (i ∷ is) ++ rest ≡ before_item lines is_first ++ s = simp append_assoc refl in
    let start = i.is.starts r2 in
    let at_start : skip_blank x ≡ s = skip ∙ rw same (blanks_item lines is_first s start) in
    let (next, element, next_skip, next_len, ends) = after_items lines is rest in
    let other : (first (skip_blank x) == 93) ≡ false = rw at_start (no_end (first s) start).0 in
    let within = skip_within x in
    let some = i.is.some in
    let sizes = length-append i.text r2 in
    let shorter : length (skip_blank x) ≡ length s = ap length at_start in
    let tail = read_items lines false is rest next (push_item found i.value) (m - 1) next_skip (omega arith) in
    items_more (val n) m found x i.value r2 next (omega arith) other (rw at_start (i.is.reads r2 ends)) element ∙ tail
    ∙ ap (λ t. Some (t, rest)) (item_join-push found i.value (item_data is))

pub array_is : {n : ℕ} (lines : Bool) (is : List (Item n))
    → IsText (suc n) (array (item_data is)) (91 ∷ items_text lines true is)
array_is {n = n} lines is = record {
  some = omega arith;
  starts = λ rest. refl;
  reads = λ rest ends. (
      let t = items_text lines true is ++ rest in
      val_array n (91 ∷ t) refl ∙ rw (read_items lines true is rest t no_items (length (91 ∷ t)) refl (omega arith)));
}

-- ---- tables in one line, whose keys stand in any order

pub record Pair (n : ℕ) : Type 0 where
  pub key : List ℕ
  pub plain : key_text key ≡ key
  pub value : Data
  pub text : List ℕ
  pub is : IsText n value text

abbrev pub pairs_text : {n : ℕ} → Bool → List (Pair n) → List ℕ
pairs_text is_first [] = table_end is_first
pairs_text is_first (p ∷ ps) = before_member is_first ++ (p.key ++ (codes " = " ++ (p.text ++ pairs_text false ps)))

-- the pairs put one after the other
abbrev pub put_all : {n : ℕ} → List (Pair n) → Nodes → Option Nodes
put_all [] found = Some found
put_all (p ∷ ps) found = option_and_then (put_all ps) (put ([], p.key) p.value found)

some_step : (o : Option Nodes) (then : Nodes → Option Nodes) (last : Nodes) → option_and_then then o ≡ Some last → (more : Nodes) × (o ≡ Some more) × (then more ≡ Some last)
some_step None then last e = absurd (none-some last e)
some_step (Some more) then last e = (more, refl, e)

after_pairs : {n : ℕ} (ps : List (Pair n)) (rest : List ℕ)
    → AfterElement 125 (pairs_text false ps ++ rest) (pairs_text false ps ++ rest)
after_pairs [] rest =
    let closing : skip_blank (32 ∷ 125 ∷ rest) ≡ 125 ∷ rest = skip_space (125 ∷ rest) ∙ skip_none (125 ∷ rest) 125 refl refl in (
      125
          ∷ rest,
      after_at 125 (32 ∷ 125 ∷ rest) rest closing refl,
      skip_none (125 ∷ rest) 125 refl refl
          ∙ sym closing,
      omega arith,
      ((refl, refl), (refl, refl)),
    )
after_pairs (p ∷ ps) rest = (_, after_comma 125 _, refl, omega arith, ((refl, refl), (refl, refl)))

pub key_starts : (k rest : List ℕ) → starts_value (first (key_text k ++ rest)) ≡ true
key_starts k rest =
    let start = is_key_start-key_text k rest in
    grind (arith, nat_tests)

read_pairs : {n : ℕ} (is_first : Bool) (ps : List (Pair n)) (rest x : List ℕ) (found last : Nodes) (m : ℕ)
    → put_all ps found ≡ Some last
    → skip_blank x ≡ skip_blank (strip_if is_first (pairs_text is_first ps ++ rest)) → length x < m
    → members (val n) m found x ≡ Some (close last, rest)
read_pairs {n = n} is_first [] rest x found last m all skip room =
    let closing : skip_blank x ≡ 125 ∷ rest = skip ∙ blanks_table_end is_first rest in
    members_end (val n) m found x (omega arith) (rw closing refl) ∙ rw (closing, same_Some found last all)
read_pairs {n = n} is_first (p ∷ ps) rest x found last m all skip room =
    let r2 = pairs_text false ps ++ rest in
    let value_at = p.text ++ r2 in
    let s = key_text p.key ++ (codes " = " ++ value_at) in
    let (more, edit, others) = some_step (put ([], p.key) p.value found) (put_all ps) last all in
    let same : pairs_text is_first (p ∷ ps) ++ rest ≡ before_member is_first ++ s = rw p.plain (simp append_assoc refl) in
    let at_start : skip_blank x ≡ s = skip ∙ rw same (blanks_member is_first s (key_starts p.key _)) in
    let (next, element, next_skip, next_len, ends) = after_pairs ps rest in
    let pair = keyval_ok (val n) s value_at r2 ([], p.key) p.value (key_equals-pair p.key value_at (p.is.starts r2)) (p.is.reads r2 ends) in
    let other : (first (skip_blank x) == 125) ≡ false = rw at_start (no_end (first s) (key_starts p.key (codes " = " ++ value_at))).1 in
    let within = skip_within x in
    let sizes = length-append p.text r2 in
    let key_sizes = length-append (key_text p.key) (codes " = " ++ value_at) in
    let shorter : length (skip_blank x) ≡ length s = ap length at_start in
    let tail = read_pairs false ps rest next more last (m - 1) others next_skip (omega arith) in
    members_more (val n) m found more x ([], p.key) p.value r2 next (omega arith) other (rw at_start pair) edit element ∙ tail

pub table_is : {n : ℕ} (ps : List (Pair n)) (last : Nodes) → put_all ps no_nodes ≡ Some last
    → IsText (suc n) (table (close last)) (123 ∷ pairs_text true ps)
table_is {n = n} ps last all = record {
  some = omega arith;
  starts = λ rest. refl;
  reads = λ rest ends. (
      let t = pairs_text true ps ++ rest in
      val_table n (123 ∷ t) refl refl ∙ rw (read_pairs true ps rest t no_nodes last (length (123 ∷ t)) all refl (omega arith)));
}

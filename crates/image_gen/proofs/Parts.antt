-- The lines of a generated image's text, and what they make.
use Rattle.std.proofs.Common.{◌≡◌, ℕ, zero, suc, ◌+◌, ◌%◌, ◌<◌, ◌≤◌, ◌^◌, ◌==◌, Bool, true, false, pos, List, [], ◌∷◌, ◌++◌, map, codes, decimal, flat_map, Some, refl, sym, ap, ap₂, ◌∙◌, subst, subst₂, arith, append_assoc, mod-lt}
use Rattle.std.proofs.lemmas.Bool.Decides.{nat_tests}
use Rattle.std.proofs.lemmas.Fmt.{decimal_by_steps}
use Rattle.std.proofs.lemmas.List.Folds.{list_all-append}
use Rattle.std.specs.Fmt.{digits}
use Rattle.std.specs.List.{list_all, range_with_len}
use Rattle.toml_parser.specs.declared.scalar.Scalar.TheVariants.{Integer}
use Rattle.toml_parser.specs.Lexical.{skip_from}
use Rattle.toml_parser.proofs.OnLiterals.{toml_parser_on_literals}
use Rattle.toml_writer.specs.Text.{key_text}
use Rattle.toml_writer.proofs.Scalars.{IsWord}
use Rattle.toml.specs.Data.{Data, string, array, table, Items, no_items, item, push_item}
use Rattle.toml.specs.Tables.{Nodes, no_nodes, close, define, key_value, array_table, at_key, along_dots, along_header}
use Rattle.toml.specs.View.{items_of}
use Rattle.rand_pcg.specs.Lcg.{Lcg}
use Rattle.seed_words.specs.Words.{word}
use Rattle.image_gen.specs.Text.{heading, machine_text, separator, moment_text, moments_text, name_text, interrupts_text, segments_text, domain_text_with, slot_text, schedule_title}
use Rattle.image_gen.specs.Generated.{moment_at, slot_length}
use Rattle.image_gen.proofs.Values.{IsText, is_simple, word_is, number_is, string_is, Item, item_data, items_text, array_is, Pair, pairs_text, put_all, table_is}
use Rattle.image_gen.proofs.Documents.{IsBlank, IsLine, blank_line, pair_line, header_line, inside_comment, TextLine, lines_text, Leads, leads_lines}
use Rattle.image_gen.proofs.Tables.{number, cache_nodes, costs_nodes, at_machine, at_domains, at_schedule, segment_nodes, segment_data, moment_data, moments_data, domain_nodes, slot_nodes}

-- ---- numbers in comments and names

pub decimal_simple : (n : ℕ) → n < 2 ^ 64 → list_all is_simple (decimal n) ≡ true
decimal_simple = decimal_by_steps (λ n ds. list_all is_simple ds ≡ true) one more
  where
    digit : (k : ℕ) → k < 10 → is_simple (48 + k) ≡ true
    digit k l = grind (arith, nat_tests)

    one : (n : ℕ) → n < 10 → list_all is_simple ((48 + n) ∷ []) ≡ true
    one n l = rw (digit n l)

    more : (n : ℕ) (ds : List ℕ) → 10 ≤ n → list_all is_simple ds ≡ true
        → list_all is_simple (ds ++ ((48 + n % 10) ∷ [])) ≡ true
    more n ds l all =
        let last = digit (n % 10) (mod-lt n (omega arith)) in
        rw (list_all-append is_simple ds ((48 + n % 10) ∷ []), all, last)

in_comment : (n : ℕ) (rest : List ℕ) → n < 2 ^ 64
    → skip_from true true (decimal n ++ rest) ≡ skip_from true true rest
in_comment n rest small = inside_comment (decimal n) rest (decimal_simple n small)

pub heading_blank : (seed : ℕ) → seed < 2 ^ 64 → IsBlank (heading seed)
unfolding heading skip_from
heading_blank seed small rest =
    let tail = codes ", by: ./tp gen --seed " ++ (decimal seed ++ codes "\n") in
    ap (skip_from true true) (append_assoc (decimal seed) tail rest) ∙ in_comment seed (tail ++ rest) small
    ∙ ap (skip_from true true) (append_assoc (decimal seed) (codes "\n") rest) ∙ in_comment seed (codes "\n" ++ rest) small

unfoldable domain_title : ℕ → List ℕ
domain_title d = codes "\n# ---- domain " ++ (decimal d ++ codes "\n\n")

domain_blank : (d : ℕ) → d < 2 ^ 64 → IsBlank (domain_title d)
unfolding domain_title skip_from
domain_blank d small rest =
    ap (skip_from true true) (append_assoc (decimal d) (codes "\n\n") rest) ∙ in_comment d (codes "\n\n" ++ rest) small

pub schedule_blank : IsBlank schedule_title
unfolding schedule_title skip_from
schedule_blank rest = refl

-- ---- kinds of lines

-- a number written so
number_as : (n k : ℕ) (t : List ℕ) → decimal k ≡ t → k < 2 ^ 63 → IsText n (number k) t
number_as n k t is small = subst (IsText n (number k)) is (number_is n k small)

abbrev value_line : (k t : List ℕ) (d : Data) → key_text k ≡ k → IsText 80 d t → TextLine
value_line k t d plain is = record {
  expression = (([], k), key_value d);
  text = k ++ (codes " = " ++ (t ++ codes "\n"));
  is = pair_line k t d plain is;
}

abbrev number_line : (k t : List ℕ) (n : ℕ) → key_text k ≡ k → decimal n ≡ t → n < 2 ^ 63 → TextLine
number_line k t n plain is small = value_line k t (number n) plain (number_as 80 n t is small)

abbrev titled_line : (blank : List ℕ) → IsBlank blank → TextLine → TextLine
titled_line blank none l = record { expression = l.expression; text = blank ++ l.text; is = blank_line blank l.text l.expression none l.is }

abbrev array_header : (k : List ℕ) → key_text k ≡ k → TextLine
array_header k plain = record { expression = (([], k), array_table); text = codes "[[" ++ (k ++ codes "]]\n"); is = header_line k plain }

abbrev number_pair : {n : ℕ} (k t : List ℕ) (v : ℕ) → key_text k ≡ k → decimal v ≡ t → v < 2 ^ 63 → Pair n
number_pair {n = n} k t v plain is small = record { key = k; plain = plain; value = number v; text = t; is = number_as n v t is small }

abbrev string_pair : {n : ℕ} (k s : List ℕ) → key_text k ≡ k → list_all is_simple s ≡ true → Pair n
string_pair {n = n} k s plain all = record { key = k; plain = plain; value = string s; text = 34 ∷ (s ++ 34 ∷ []); is = string_is n s all }

abbrev number_item : {n : ℕ} (k : ℕ) → k < 2 ^ 63 → Item n
number_item {n = n} k small = record { value = number k; text = decimal k; is = number_is n k small }

abbrev string_item : {n : ℕ} (s : List ℕ) → list_all is_simple s ≡ true → Item n
string_item {n = n} s all = record { value = string s; text = 34 ∷ (s ++ 34 ∷ []); is = string_is n s all }

abbrev array_line : (k : List ℕ) → key_text k ≡ k → Bool → List (Item 79) → TextLine
array_line k plain lines is = value_line k (91 ∷ items_text lines true is) (array (item_data is)) plain (array_is lines is)

-- the same text, another way
abbrev line_as : (l : TextLine) (text : List ℕ) → l.text ≡ text → TextLine
line_as l text same = record { expression = l.expression; text = text; is = subst (IsLine l.expression) same l.is }

-- the text of a number, before and after others
closed : (before number a b : List ℕ) → before ++ ((number ++ a) ++ b) ≡ before ++ (number ++ (a ++ b))
closed before number a b = ap (λ (t : List ℕ). before ++ t) (append_assoc number a b)

-- ---- the machine

unfoldable cache_pairs : (s w p : List ℕ) (sets ways : ℕ) → decimal sets ≡ s → decimal ways ≡ w
    → sets < 2 ^ 63 → ways < 2 ^ 63 → list_all is_simple p ≡ true → List (Pair 79)
unfolding key_text
cache_pairs s w p sets ways sets_is ways_is few_sets few_ways all =
    number_pair (codes "sets") s sets refl sets_is few_sets
    ∷ number_pair (codes "ways") w ways refl ways_is few_ways ∷ string_pair (codes "policy") p refl all
    ∷ []

unfoldable cost_pairs : List (Pair 79)
unfolding key_text digits
cost_pairs =
    number_pair (codes "base") (codes "1") 1 refl refl (omega arith) ∷ number_pair (codes "l1") (codes "1") 1 refl refl (omega arith)
    ∷ number_pair (codes "l2") (codes "8") 8 refl refl (omega arith) ∷ number_pair (codes "mem") (codes "40") 40 refl refl (omega arith)
    ∷ number_pair (codes "wb") (codes "10") 10 refl refl (omega arith) ∷ number_pair (codes "tlb") (codes "1") 1 refl refl (omega arith)
    ∷ number_pair (codes "mispredict") (codes "3") 3 refl refl (omega arith)
    ∷ number_pair (codes "trap") (codes "10") 10 refl refl (omega arith)
    ∷ number_pair (codes "flush") (codes "20") 20 refl refl (omega arith) ∷ []

abbrev table_line : (k : List ℕ) → key_text k ≡ k → (ps : List (Pair 79)) (last : Nodes) → put_all ps no_nodes ≡ Some last → TextLine
table_line k plain ps last all = value_line k (123 ∷ pairs_text true ps) (table (close last)) plain (table_is ps last all)

unfoldable machine_lines : (p : List ℕ) → list_all is_simple p ≡ true → List TextLine
unfolding key_text digits skip_from cache_pairs cost_pairs at_key along_dots
machine_lines p all =
    titled_line (codes "\n# ---- the machine\n\n") (λ rest. refl) (number_line (codes "frames") (codes "128") 128 refl refl (omega arith))
    ∷ number_line (codes "shared") (codes "512") 512 refl refl (omega arith)
    ∷ number_line (codes "line") (codes "64") 64 refl refl (omega arith)
    ∷ table_line (codes "l1i") refl
    (cache_pairs (codes "16") (codes "2") (codes "lru") 16 2 refl refl (omega arith) (omega arith) refl)
    (cache_nodes 16 2 (codes "lru")) refl
    ∷ table_line (codes "l1d") refl
    (cache_pairs (codes "16") (codes "2") (codes "lru") 16 2 refl refl (omega arith) (omega arith) refl)
    (cache_nodes 16 2 (codes "lru")) refl
    ∷ table_line (codes "l2") refl
    (cache_pairs (codes "512") (codes "4") p 512 4 refl refl (omega arith) (omega arith) all)
    (cache_nodes 512 4 p) refl
    ∷ table_line (codes "tlb") refl
    (cache_pairs (codes "4") (codes "2") (codes "lru") 4 2 refl refl (omega arith) (omega arith) refl)
    (cache_nodes 4 2 (codes "lru")) refl
    ∷ number_line (codes "predictor") (codes "16") 16 refl refl (omega arith)
    ∷ table_line (codes "costs") refl cost_pairs costs_nodes refl
    ∷ []

pub machine_leads : (p : List ℕ) → list_all is_simple p ≡ true
    → Leads (no_nodes, []) (at_machine p) (machine_text p)
unfolding machine_lines machine_text cache_pairs cost_pairs define along_header at_key along_dots
machine_leads p all =
    let same : lines_text (machine_lines p all) ≡ machine_text p = simp append_assoc refl in
    subst (Leads (no_nodes, []) (at_machine p)) same (leads_lines (machine_lines p all) (no_nodes, []) (at_machine p) refl)

-- ---- interrupts

moment_small : (k w : ℕ) → k < 8 → moment_at k w < 2 ^ 63
moment_small k w l =
    let within : w % 20000 < 20000 = mod-lt w (omega arith) in
    omega (arith, within)

abbrev moment_pair : (d k w : ℕ) → d < 2 ^ 63 → k < 8 → List (Item 78)
moment_pair d k w small l = number_item (moment_at k w) (moment_small k w l) ∷ number_item d small ∷ []

abbrev moment_item : (d k w : ℕ) → d < 2 ^ 63 → k < 8 → Item 79
moment_item d k w small l = record {
  value = moment_data d k w;
  text = 91 ∷ items_text false true (moment_pair d k w small l);
  is = array_is false (moment_pair d k w small l);
}

moment_items : (d : ℕ) (w : ℕ → ℕ) → d < 2 ^ 63 → (a n : ℕ) → a + n ≤ 8 → List (Item 79)
moment_items d w small a zero l = []
moment_items d w small a (suc n) l = moment_item d a (w a) small (omega arith) ∷ moment_items d w small (a + 1) n (omega arith)

moment_items_data : (d : ℕ) (w : ℕ → ℕ) (small : d < 2 ^ 63) (a n : ℕ) (l : a + n ≤ 8)
    → item_data (moment_items d w small a n l)
    ≡ items_of (map (λ k. moment_data d k (w k)) (range_with_len a n))
unfolding moment_items
moment_items_data d w small a zero l = refl
moment_items_data d w small a (suc n) l = ap (item (moment_data d a (w a))) (moment_items_data d w small (a + 1) n (omega arith))

moments_written : (d : ℕ) (w : ℕ → ℕ) (small : d < 2 ^ 63) (a n : ℕ) (l : a + n ≤ 8)
    → items_text false (a == 0) (moment_items d w small a n l) ≡ flat_map (λ k. moment_text d k (w k)) (range_with_len a n) ++ codes "]"
unfolding moment_items
moments_written d w small a zero l = refl
moments_written d w small a (suc n) l =
    let later : (a + 1 == 0) ≡ false = grind (arith, nat_tests) in
    let next = rw later at (moments_written d w small (a + 1) n (omega arith)) in
    let here = separator a in
    let this = 91 ∷ items_text false true (moment_pair d a (w a) small (omega arith)) in
    let others = flat_map (λ k. moment_text d k (w k)) (range_with_len (a + 1) n) in
    rw next (sym (append_assoc (here ++ this) others (codes "]") ∙ append_assoc here this (others ++ codes "]")))

-- ---- a domain

entry_word : IsWord (codes "0x10000") (Integer (pos 65536))
unfolding toml_parser_on_literals
entry_word = record { some = omega arith; all = refl; value = refl }

unfoldable segment_pairs : (page : ℕ) (t rights hex : List ℕ) → decimal page ≡ t → page < 2 ^ 63
    → list_all is_simple rights ≡ true → list_all is_simple hex ≡ true → List (Pair 78)
unfolding key_text digits
segment_pairs page t rights hex is small all_rights all_hex =
    number_pair (codes "page") t page refl is small ∷ number_pair (codes "pages") (codes "1") 1 refl refl (omega arith)
    ∷ string_pair (codes "rights") rights refl all_rights ∷ string_pair (codes "hex") hex refl all_hex ∷ []

unfoldable segment_item : (page : ℕ) (t rights hex : List ℕ) → decimal page ≡ t → page < 2 ^ 63
    → list_all is_simple rights ≡ true → list_all is_simple hex ≡ true → Item 79
unfolding segment_pairs at_key along_dots
segment_item page t rights hex is small all_rights all_hex =
    let ps = segment_pairs page t rights hex is small all_rights all_hex in
    record { value = segment_data page rights hex; text = 123 ∷ pairs_text true ps; is = table_is ps (segment_nodes page rights hex) refl }

unfoldable segment_items : (hex : List ℕ) → list_all is_simple hex ≡ true → List (Item 79)
unfolding digits
segment_items hex all =
    segment_item 16 (codes "16") (codes "rx") hex refl (omega arith) refl all
    ∷ segment_item 32 (codes "32") (codes "rw") [] refl (omega arith) refl refl ∷ []

unfoldable name_lines : (d : ℕ) → d < 256 → List TextLine
unfolding key_text
name_lines d small =
    let named = string_is 80 (codes "g" ++ decimal d) (decimal_simple d (omega arith)) in
    let name = value_line (codes "name") (34 ∷ ((codes "g" ++ decimal d) ++ 34 ∷ [])) (string (codes "g" ++ decimal d)) refl named in
    let colours = array_line (codes "colours") refl false (number_item (d + 1) (omega arith) ∷ []) in
    titled_line (domain_title d) (domain_blank d (omega arith)) (array_header (codes "domain") refl)
    ∷ line_as name (codes "name = \"g" ++ (decimal d ++ codes "\"\n")) (closed (codes "name = \"g") (decimal d) (codes "\"") (codes "\n"))
    ∷ line_as colours (codes "colours = [" ++ (decimal (d + 1) ++ codes "]\n"))
    (closed (codes "colours = [") (decimal (d + 1)) (codes "]") (codes "\n"))
    ∷ value_line (codes "entry") (codes "0x10000") (number 65536) refl (word_is 80 (codes "0x10000") (Integer (pos 65536)) entry_word)
    ∷ []

name_same : (d : ℕ) (small : d < 256) → lines_text (name_lines d small) ≡ name_text d
unfolding name_lines domain_title name_text
name_same d small = simp append_assoc refl

unfoldable interrupt_lines : (d : ℕ) → d < 256 → (is : List (Item 79)) (moments : List ℕ)
    → items_text false true is ≡ moments ++ codes "]" → List TextLine
unfolding key_text
interrupt_lines d small is moments e =
    let named = string_item (codes "irq " ++ decimal d) (decimal_simple d (omega arith)) in
    let caps = array_line (codes "caps") refl false (named ∷ []) in
    let lines = array_line (codes "lines") refl false (number_item d (omega arith) ∷ []) in
    let first_closed =
    ap (λ (t : List ℕ). codes "caps = [\"irq " ++ (t ++ codes "\n"))
    (append_assoc (decimal d) (codes "\"") (codes "]")) in
    let written = ap (λ (t : List ℕ). codes "moments = [" ++ (t ++ codes "\n")) e in
    line_as caps (codes "caps = [\"irq " ++ (decimal d ++ codes "\"]\n"))
    (first_closed ∙ closed (codes "caps = [\"irq ") (decimal d) (codes "\"]") (codes "\n"))
    ∷ line_as lines (codes "lines = [" ++ (decimal d ++ codes "]\n")) (closed (codes "lines = [") (decimal d) (codes "]") (codes "\n"))
    ∷ line_as (array_line (codes "moments") refl false is) (codes "moments = [" ++ (moments ++ codes "]\n"))
    (written ∙ closed (codes "moments = [") moments (codes "]") (codes "\n"))
    ∷ []

interrupts_same : (d : ℕ) (small : d < 256) (is : List (Item 79)) (moments : List ℕ)
    (e : items_text false true is ≡ moments ++ codes "]")
    → lines_text (interrupt_lines d small is moments e) ≡ interrupts_text d moments
unfolding interrupt_lines interrupts_text
interrupts_same d small is moments e = simp append_assoc refl

unfoldable segment_lines : (hex : List ℕ) → list_all is_simple hex ≡ true → List TextLine
unfolding key_text
segment_lines hex all = array_line (codes "segment") refl true (segment_items hex all) ∷ []

segments_same : (hex : List ℕ) (all : list_all is_simple hex ≡ true)
    → lines_text (segment_lines hex all) ≡ segments_text hex
unfolding segment_lines segment_items segment_item segment_pairs segments_text
segments_same hex all = simp append_assoc refl

lines_text-append : (xs ys : List TextLine) → lines_text (xs ++ ys) ≡ lines_text xs ++ lines_text ys
lines_text-append [] ys = refl
lines_text-append (x ∷ xs) ys =
    ap (λ (t : List ℕ). x.text ++ t) (lines_text-append xs ys)
    ∙ sym (append_assoc x.text (lines_text xs) (lines_text ys))

module _ (p : List ℕ) (d : ℕ) (small : d < 256) (hex : List ℕ) (all : list_all is_simple hex ≡ true) (g : Lcg) where
  abbrev moments : List ℕ
  moments = moments_text d g

  is : List (Item 79)
  is = moment_items d (word g) (omega arith) 0 8 (omega arith)

  written : items_text false true is ≡ moments ++ codes "]"
  unfolding is moments_text
  written = moments_written d (word g) (omega arith) 0 8 (omega arith)

  abbrev domain_lines : List TextLine
  domain_lines = name_lines d small ++ (interrupt_lines d small is moments written ++ segment_lines hex all)

  same : lines_text domain_lines ≡ domain_text_with d moments hex
  same =
      lines_text-append (name_lines d small) (interrupt_lines d small is moments written ++ segment_lines hex all)
      ∙ ap₂ (λ (x y : List ℕ). x ++ y) (name_same d small)
      (lines_text-append (interrupt_lines d small is moments written) (segment_lines hex all)
      ∙ ap₂ (λ (x y : List ℕ). x ++ y) (interrupts_same d small is moments written) (segments_same hex all))

  abbrev made : Nodes
  made = domain_nodes d hex (moments_data d (word g))

  made_is : domain_nodes d hex (item_data is) ≡ made
  unfolding is
  made_is = ap (domain_nodes d hex) (moment_items_data d (word g) (omega arith) 0 8 (omega arith))

  pub domain_begins : Leads (at_machine p) (at_domains p no_items made) (domain_text_with d moments hex)
  unfolding name_lines interrupt_lines segment_lines segment_items segment_item define along_header at_key
      along_dots
  domain_begins =
      subst₂ (λ ns t. Leads (at_machine p) (at_domains p no_items ns) t) made_is same
      (leads_lines domain_lines (at_machine p) (at_domains p no_items (domain_nodes d hex (item_data is))) refl)

  pub domain_follows : (done : Items) (last : Nodes)
      → Leads (at_domains p done last) (at_domains p (push_item done (table (close last))) made)
      (domain_text_with d moments hex)
  unfolding name_lines interrupt_lines segment_lines segment_items segment_item define along_header at_key
      along_dots
  domain_follows done last =
      let more = push_item done (table (close last)) in
      subst₂ (λ ns t. Leads (at_domains p done last) (at_domains p more ns) t) made_is same
      (leads_lines domain_lines (at_domains p done last) (at_domains p more (domain_nodes d hex (item_data is))) refl)

-- ---- a slot

unfoldable slot_lines : (d w : ℕ) → d < 256 → List TextLine
unfolding key_text digits skip_from
slot_lines d w small =
    let within : w % 5000 < 5000 = mod-lt w (omega arith) in
    titled_line (codes "\n") (λ rest. refl) (array_header (codes "schedule") refl)
    ∷ value_line (codes "domain") (decimal d) (number d) refl (number_is 80 d (omega arith))
    ∷ value_line (codes "length") (decimal (slot_length w)) (number (slot_length w)) refl
    (number_is 80 (slot_length w) (omega (arith, within)))
    ∷ number_line (codes "pad") (codes "6150") 6150 refl refl (omega arith)
    ∷ []

slot_same : (d w : ℕ) (small : d < 256) → lines_text (slot_lines d w small) ≡ slot_text d w
unfolding slot_lines slot_text
slot_same d w small = simp append_assoc refl

pub slot_begins : (p : List ℕ) (ds : Items) (domain : Nodes) (d w : ℕ) → d < 256
    → Leads (at_domains p ds domain) (at_schedule p ds domain no_items (slot_nodes d w)) (slot_text d w)
unfolding slot_lines define along_header at_key along_dots
slot_begins p ds domain d w small =
    subst (Leads (at_domains p ds domain) (at_schedule p ds domain no_items (slot_nodes d w))) (slot_same d w small)
    (leads_lines (slot_lines d w small) (at_domains p ds domain) (at_schedule p ds domain no_items (slot_nodes d w)) refl)

pub slot_follows : (p : List ℕ) (ds : Items) (domain : Nodes) (d w : ℕ) → d < 256
    → (done : Items) (last : Nodes)
    → Leads (at_schedule p ds domain done last)
    (at_schedule p ds domain (push_item done (table (close last))) (slot_nodes d w)) (slot_text d w)
unfolding slot_lines define along_header at_key along_dots
slot_follows p ds domain d w small done last =
    let next = at_schedule p ds domain (push_item done (table (close last))) (slot_nodes d w) in
    subst (Leads (at_schedule p ds domain done last) next) (slot_same d w small)
    (leads_lines (slot_lines d w small) (at_schedule p ds domain done last) next refl)

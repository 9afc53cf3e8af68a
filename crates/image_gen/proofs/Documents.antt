-- Lines of TOML laid out for people, and how they are read one after the other.
use Rattle.std.proofs.Common.{◌≡◌, ℕ, zero, suc, ◌+◌, ◌-◌, ◌<◌, ◌≤◌, true, false, ◌==◌, List, [], ◌∷◌, ◌++◌, map, length, codes, Option, Some, None, option_and_then, refl, sym, ap, ◌∙◌, arith, append_assoc, append-nil, length-append, flat_map, subst, nat_le}
use Rattle.std.proofs.lemmas.Bool.{and_parts}
use Rattle.std.proofs.lemmas.Bool.Decides.{nat_tests}
use Rattle.std.proofs.lemmas.Option.{none-some, same_Some}
use Rattle.std.specs.List.{list_all, range_with_len}
use Rattle.toml_parser.specs.Lexical.{first, skip_from, skip_blank, skip_ws}
use Rattle.toml_parser.proofs.LexicalLemmas.{skip_ws_none, skip_from-nil}
use Rattle.toml_writer.specs.Text.{key_text}
use Rattle.toml_writer.proofs.Strings.{is_key_start-key_text}
use Rattle.toml.specs.Data.{Data, table, Items, no_items, push_item}
use Rattle.toml.specs.Tables.{Nodes, no_nodes, close, Document, Expression, define, key_value, array_table}
use Rattle.toml.specs.View.{items_of}
use Rattle.toml.specs.Parse.{val, expression, ends_line, line, lines, skip_bom, parse_document}
use Rattle.toml.proofs.Turns.{keyval_ok, lines_end, lines_more, document_some}
use Rattle.toml.proofs.Blanks.{skip_start, skip_within, skip_newline}
use Rattle.toml.proofs.ReadValues.{EndsValue, key_equals-pair, item_join, item_join-none, item_join-push}
use Rattle.toml.proofs.ReadLines.{run, line_turn}
use Rattle.image_gen.proofs.Values.{IsText, is_simple, key_starts}

-- ---- one line

-- the reader takes the expression, and goes on after it
pub record Takes (e : Expression) (x rest : List ℕ) : Type 0 where
  pub some : (length (skip_blank x) == 0) ≡ false
  pub reads : line (skip_blank x) ≡ Some (e, 10 ∷ rest)
  pub shorter : suc (length rest) < length (skip_blank x)

pub record IsLine (e : Expression) (text : List ℕ) : Type 0 where
  pub takes : (rest x : List ℕ) → skip_blank x ≡ skip_blank (text ++ rest) → Takes e x rest

-- nothing that is read
abbrev pub IsBlank : List ℕ → Type 0
IsBlank blank = (rest : List ℕ) → skip_blank (blank ++ rest) ≡ skip_blank rest

pub blank_line : (blank text : List ℕ) (e : Expression) → IsBlank blank → IsLine e text
    → IsLine e (blank ++ text)
blank_line blank text e none l = record {
  takes = λ rest x skip. l.takes rest x (skip ∙ ap skip_blank (append_assoc blank text rest) ∙ none (text ++ rest));
}

taken : (e : Expression) (x s rest : List ℕ) → skip_blank x ≡ s → line s ≡ Some (e, 10 ∷ rest)
    → suc (length rest) < length s → Takes e x rest
taken e x s rest at_start reads shorter =
    let size : length (skip_blank x) ≡ length s = ap length at_start in
    record { some = grind (arith, nat_tests); reads = ap line at_start ∙ reads; shorter = omega arith }

ends_at_newline : (rest : List ℕ) → ends_line (skip_ws (10 ∷ rest)) ≡ true
ends_at_newline rest = rw (skip_ws_none (10 ∷ rest) refl) (grind (arith, nat_tests))

read_pair : (k v rest : List ℕ) (d : Data) → IsText 80 d v
    → line (key_text k ++ (codes " = " ++ (v ++ 10 ∷ rest))) ≡ Some ((([], k), key_value d), 10 ∷ rest)
unfolding line expression
read_pair k v rest d is =
    let value_at = v ++ 10 ∷ rest in
    let s = key_text k ++ (codes " = " ++ value_at) in
    let ends : EndsValue (10 ∷ rest) = ((refl, refl), (refl, refl)) in
    let pair =
    keyval_ok (val 80) s value_at (10 ∷ rest) ([], k) d
    (key_equals-pair k value_at (is.starts (10 ∷ rest))) (is.reads (10 ∷ rest) ends) in
    let key_first = is_key_start-key_text k (codes " = " ++ value_at) in
    let other : (first s == 91) ≡ false = grind (arith, nat_tests) in
    rw (other, pair, ends_at_newline rest)

pub pair_line : (k v : List ℕ) (d : Data) → key_text k ≡ k → IsText 80 d v
    → IsLine (([], k), key_value d) (k ++ (codes " = " ++ (v ++ codes "\n")))
pair_line k v d plain is = record {
  takes = λ rest x skip. (
      let s = key_text k ++ (codes " = " ++ (v ++ 10 ∷ rest)) in
      let same : (k ++ (codes " = " ++ (v ++ codes "\n"))) ++ rest ≡ s = rw plain (simp append_assoc refl) in
      let start = key_starts k (codes " = " ++ (v ++ 10 ∷ rest)) in
      let key_size = length-append (key_text k) (codes " = " ++ (v ++ 10 ∷ rest)) in
      let value_size = length-append v (10 ∷ rest) in
      taken _ x s rest (skip ∙ ap skip_blank same ∙ skip_start s start) (read_pair k v rest d is) (omega (arith, key_size, value_size)));
}

pub header_line : (k : List ℕ) → key_text k ≡ k
    → IsLine (([], k), array_table) (codes "[[" ++ (k ++ codes "]]\n"))
header_line k plain = record {
  takes = λ rest x skip. (
      let text = codes "[[" ++ (key_text k ++ codes "]]\n") in
      let (s, at_start, reads, some, shorter, not_bom) = line_turn false false ([], k) array_table text rest refl (omega arith) in
      let same : (codes "[[" ++ (k ++ codes "]]\n")) ++ rest ≡ text ++ rest = rw plain refl in
      taken _ x s rest (skip ∙ ap skip_blank same ∙ at_start) reads shorter);
}

-- ---- comments

pub inside_comment : (s rest : List ℕ) → list_all is_simple s ≡ true
    → skip_from true true (s ++ rest) ≡ skip_from true true rest
unfolding skip_from
inside_comment [] rest all = refl
inside_comment (c ∷ cs) rest all =
    let (here, more) = and_parts (is_simple c) (list_all is_simple cs) all in
    let feed : (c == 10) ≡ false = grind (arith, nat_tests) in
    let return : (c == 13) ≡ false = grind (arith, nat_tests) in
    let delete : (c == 127) ≡ false = grind (arith, nat_tests) in
    let tab : (c == 9) ≡ false = grind (arith, nat_tests) in
    let shown : nat_le 32 c ≡ true = grind (arith, nat_tests) in
    rw (feed, return, delete, tab, shown) (inside_comment cs rest more)

-- ---- line after line

-- the reader gets to the next document, where the rest is left
pub record Goes (m : ℕ) (doc : Document) (x : List ℕ) (next : Document) (rest : List ℕ) : Type 0 where
  pub left : List ℕ
  pub fuel : ℕ
  pub skips : skip_blank left ≡ skip_blank rest
  pub room : length left < fuel
  pub same : lines m doc x ≡ lines fuel next left

pub record Leads (doc next : Document) (text : List ℕ) : Type 0 where
  pub goes : (rest x : List ℕ) (m : ℕ) → skip_blank x ≡ skip_blank (text ++ rest) → length x < m
      → Goes m doc x next rest

pub leads_blank : (doc : Document) (blank : List ℕ) → IsBlank blank → Leads doc doc blank
leads_blank doc blank none = record {
  goes = λ rest x m skip room. record { left = x; fuel = m; skips = skip ∙ none rest; room = room; same = refl };
}

pub leads_both : (a b c : Document) (t u : List ℕ) → Leads a b t → Leads b c u → Leads a c (t ++ u)
leads_both a b c t u one two = record {
  goes = λ rest x m skip room. (
      let g = one.goes (u ++ rest) x m (skip ∙ ap skip_blank (append_assoc t u rest)) room in
      let h = two.goes rest g.left g.fuel g.skips g.room in
      record { left = h.left; fuel = h.fuel; skips = h.skips; room = h.room; same = g.same ∙ h.same });
}

pub leads_line : (doc next : Document) (e : Expression) (text : List ℕ) → IsLine e text
    → define doc e ≡ Some next → Leads doc next text
leads_line doc next e text l defined = record {
  goes = λ rest x m skip room. (
      let t = l.takes rest x skip in
      let within = skip_within x in
      let shorter = t.shorter in
      record {
        left = 10 ∷ rest;
        fuel = m - 1;
        skips = skip_newline rest;
        room = omega (arith, shorter, within, room);
        same = lines_more m doc next x e (10 ∷ rest) (omega (arith, room)) t.some t.reads defined;
      });
}

pub record TextLine : Type 0 where
  pub expression : Expression
  pub text : List ℕ
  pub is : IsLine expression text

abbrev pub lines_text : List TextLine → List ℕ
lines_text [] = []
lines_text (l ∷ ls) = l.text ++ lines_text ls

abbrev pub expressions_of : List TextLine → List Expression
expressions_of [] = []
expressions_of (l ∷ ls) = l.expression ∷ expressions_of ls

run_step : (o : Option Document) (es : List Expression) (last : Document)
    → option_and_then (λ next. run next es) o ≡ Some last
    → (next : Document) × (o ≡ Some next) × (run next es ≡ Some last)
run_step None es last e = absurd (none-some last e)
run_step (Some next) es last e = (next, refl, e)

pub leads_lines : (ls : List TextLine) (doc last : Document) → run doc (expressions_of ls) ≡ Some last
    → Leads doc last (lines_text ls)
leads_lines [] doc last e =
    let P : Document → Type 0 = λ d. Leads doc d [] in
    subst P (same_Some doc last e) (leads_blank doc [] (λ rest. refl))
leads_lines (l ∷ ls) doc last e =
    let (next, defined, more) = run_step (define doc l.expression) (expressions_of ls) last e in
    leads_both doc next last l.text (lines_text ls) (leads_line doc next l.expression l.text l.is defined) (leads_lines ls next last more)

-- ---- all of them

no_mark : (text : List ℕ) → (first text == 239) ≡ false → skip_bom text ≡ text
unfolding skip_bom
no_mark text h = rw h

pub leads_whole : (text : List ℕ) (doc : Document) → (first text == 239) ≡ false
    → Leads (no_nodes, []) doc text → parse_document text ≡ Some (close doc.0)
leads_whole text doc unmarked leads =
    let g = leads.goes [] text (suc (length text)) (ap skip_blank (sym (append-nil text))) (omega arith) in
    let at_end : length (skip_blank g.left) ≡ 0 = rw (g.skips, skip_from-nil true false) refl in
    let room = g.room in
    document_some text doc (ap (lines (suc (length text)) (no_nodes, [])) (no_mark text unmarked) ∙ g.same
    ∙ lines_end g.fuel doc g.left (omega (arith, room)) at_end)

-- ---- tables of an array, one after the other

-- each of the numbers has this
abbrev pub Each : (ℕ → Type 0) → List ℕ → Type 0
Each P [] = Unit {0}
Each P (k ∷ ks) = P k × Each P ks

pub each_below : (a n b : ℕ) → a + n ≤ b → Each (λ k. k < b) (range_with_len a n)
each_below a zero b l = tt
each_below a (suc n) b l = (omega arith, each_below (a + 1) n b (omega arith))

-- where each text adds a table to the array
module _ (P : ℕ → Type 0) (at : Items → Nodes → Document) (made : ℕ → Nodes) (text : ℕ → List ℕ)
    (step : (k : ℕ) → P k → (done : Items) (last : Nodes)
    → Leads (at done last) (at (push_item done (table (close last))) (made k)) (text k)) where
  abbrev pub made_table : ℕ → Data
  made_table k = table (close (made k))

  pub record Added (done : Items) (last : Nodes) (ks : List ℕ) : Type 0 where
    pub done_then : Items
    pub last_then : Nodes
    pub leads : Leads (at done last) (at done_then last_then) (flat_map text ks)
    pub all : push_item done_then (table (close last_then))
        ≡ item_join (push_item done (table (close last))) (items_of (map made_table ks))

  pub tables_added : (ks : List ℕ) → Each P ks → (done : Items) (last : Nodes) → Added done last ks
  tables_added [] each done last = record {
    done_then = done;
    last_then = last;
    leads = leads_blank (at done last) [] (λ rest. refl);
    all = sym (item_join-none (push_item done (table (close last))));
  }
  tables_added (k ∷ ks) each done last =
      let now = push_item done (table (close last)) in
      let r = tables_added ks each.1 now (made k) in
      record {
        done_then = r.done_then;
        last_then = r.last_then;
        leads = leads_both _ _ _ (text k) (flat_map text ks) (step k each.0 done last) r.leads;
        all = r.all ∙ item_join-push now (made_table k) (items_of (map made_table ks));
      }

  -- all of an array, whose first table comes after another document
  pub record ReadAll (start : Document) (ks : List ℕ) : Type 0 where
    pub done : Items
    pub last : Nodes
    pub leads : Leads start (at done last) (flat_map text ks)
    pub all : push_item done (table (close last)) ≡ items_of (map made_table ks)

  pub tables_read : (start : Document) → ((k : ℕ) → P k → Leads start (at no_items (made k)) (text k))
      → (a n : ℕ) → 0 < n → Each P (range_with_len a n) → ReadAll start (range_with_len a n)
  tables_read start begin a zero some each = absurd (omega arith)
  tables_read start begin a (suc n) some each =
      let r = tables_added (range_with_len (a + 1) n) each.1 no_items (made a) in
      record {
        done = r.done_then;
        last = r.last_then;
        leads = leads_both _ _ _ (text a) (flat_map text (range_with_len (a + 1) n)) (begin a each.0) r.leads;
        all = r.all;
      }

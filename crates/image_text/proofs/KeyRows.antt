-- The rows of the code's key table: there are 25 at least, and their parts are parts of the key table.
use Rattle.std.proofs.Common.{◌≡◌, ℕ, ◌-◌, ◌≤◌, List, length, map, take, drop, sym, ap, ◌∙◌, arith}
use Rattle.std.proofs.lemmas.List.{length-map, length-drop, take-map, drop-map}
use Rattle.std.proofs.Math.Seq.{take-length}
use Rattle.image_text.specs.Rows.{key_rows}
use Rattle.image_text.specs.Models.{row_model}
use Rattle.image_text.specs.declared.rows.Row.{Row}

row_count : (rows : List Row) → map row_model rows ≡ key_rows → length rows ≡ length key_rows
row_count rows h = sym (length-map rows row_model) ∙ ap length h

pub at_least_25 : (rows : List Row) → map row_model rows ≡ key_rows → 25 ≤ length rows
unfolding key_rows
at_least_25 rows h = let count = row_count rows h in search (arith, count)

pub first_part : (n : ℕ) (rows : List Row) → map row_model rows ≡ key_rows
    → map row_model (take n rows) ≡ take n key_rows
first_part n rows h = sym (take-map row_model n rows) ∙ ap (take n) h

whole_rest : (n : ℕ) (rows : List Row) → take (length rows - n) (drop n rows) ≡ drop n rows
whole_rest n rows = rw (sym (length-drop n rows)) (take-length (drop n rows))

pub last_part : (n : ℕ) (rows : List Row) → map row_model rows ≡ key_rows
    → map row_model (take (length rows - n) (drop n rows)) ≡ drop n key_rows
last_part n rows h = ap (map row_model) (whole_rest n rows) ∙ sym (drop-map row_model n rows) ∙ ap (drop n) h

-- Sets as rows of a table with a row for each colour.
use Rattle.std.proofs.Common.{◌≡◌, ℕ, zero, suc, ◌+◌, ◌-◌, ◌*◌, ◌/◌, ◌%◌, ◌<◌, ◌≤◌, ap, sym, ◌∙◌, arith}
use Rattle.std.specs.Prelude.{◌↔◌}
use Rattle.std.proofs.lemmas.Nat.{div-mul-add, mod-mul-add, div_below, mod_below, div-add-mod', mul-le}
use Rattle.std.proofs.Math.Nat.{mul-pos, mul_comm, mul_assoc, eq_of_mul-eq-mul_right}
use Rattle.l2_colour.specs.Colours.{IsColoured, lines_of, colours_of, colour_of_line, colour_of_set}

factor_pos : (a b n : ℕ) → a * b ≡ n → 0 < n → 0 < a
factor_pos zero b n is some = absurd (omega arith)
factor_pos (suc a) b n is some = omega arith

-- the row of a remainder is the remainder of the row
row_of-mod : (n rows row : ℕ) → 0 < rows → 0 < row → n % (rows * row) / row ≡ n / row % rows
row_of-mod n rows row some_rows some_row =
    let q : ℕ = n / (rows * row) in
    let r : ℕ = n % (rows * row) in
    let whole : q * (rows * row) + r ≡ n = div-add-mod' n (rows * row) in
    let part : r / row * row + r % row ≡ r = div-add-mod' r row in
    let r_lt : r < rows * row = mod_below n (rows * row) (mul-pos some_rows some_row) in
    let below : r / row < rows = div_below r row rows some_row r_lt in
    let column : r % row < row = mod_below r row some_row in
    let n_is : (q * rows + r / row) * row + r % row ≡ n = omega (arith, whole, part) in
    let row_is : n / row ≡ q * rows + r / row =
    ap (λ (m : ℕ). m / row) (sym n_is) ∙ div-mul-add (q * rows + r / row) row (r % row) column in
    sym (ap (λ (m : ℕ). m % rows) row_is ∙ mod-mul-add q rows (r / row) below)

pub line_pos : (line_size sets : ℕ) → IsColoured line_size sets → 0 < line_size
line_pos line_size sets coloured =
    factor_pos line_size (lines_of line_size) 4096
    (mul_comm line_size (lines_of line_size) ∙ coloured.whole_lines) (omega arith)

pub lines_pos : (line_size sets : ℕ) → IsColoured line_size sets → 0 < lines_of line_size
lines_pos line_size sets coloured = factor_pos (lines_of line_size) line_size 4096 coloured.whole_lines (omega arith)

-- the sets are a row of a frame's lines for each colour
pub sets_are : (line_size sets : ℕ) → IsColoured line_size sets
    → colours_of line_size sets * lines_of line_size ≡ sets
sets_are line_size sets coloured =
    let rows : ℕ = colours_of line_size sets in
    let row : ℕ = lines_of line_size in
    let total : (rows * row) * line_size ≡ sets * line_size =
    mul_assoc rows row line_size ∙ ap (λ (n : ℕ). rows * n) coloured.whole_lines ∙ coloured.whole_colours in
    eq_of_mul-eq-mul_right line_size (line_pos line_size sets coloured) (rows * row) sets total

-- the set of a line has the colour of the line's frame
pub line_in_colour : (line_size sets line : ℕ) → IsColoured line_size sets
    → colour_of_set line_size (line % sets) ≡ colour_of_line line_size sets line
line_in_colour line_size sets line coloured =
    ap (λ (n : ℕ). line % n / lines_of line_size) (sym (sets_are line_size sets coloured))
    ∙ row_of-mod line (colours_of line_size sets) (lines_of line_size) coloured.some (lines_pos line_size sets coloured)

-- a row by its first place and the one after its last
pub row_is : (colour row s : ℕ) → 0 < row → (colour * row ≤ s) × (s < colour * row + row) ↔ s / row ≡ colour
row_is colour row s some =
    let whole : s / row * row + s % row ≡ s = div-add-mod' s row in
    let column : s % row < row = mod_below s row some in (
      λ between.
          let shift : colour * row + (s - colour * row) ≡ s = omega (arith, between.0) in
          ap (λ (n : ℕ). n / row) (sym shift) ∙ div-mul-add colour row (s - colour * row) (omega (arith, between.0, between.1)),
      λ same.
          let start : s / row * row ≡ colour * row = ap (λ (n : ℕ). n * row) same in
          (omega (arith, whole, start), omega (arith, whole, start, column)),
    )

-- a row ends within the table
pub row_end : (r rows row : ℕ) → r < rows → r * row + row ≤ rows * row
row_end r rows row lt = let all : suc r * row ≤ rows * row = mul-le (suc r) row rows row lt (omega arith) in omega (arith, all)

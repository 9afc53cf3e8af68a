-- The shared region lies in frames of colour 0, and each of them has at most one of a set's lines.
use Rattle.std.proofs.Common.{◌≡◌, ◌≢◌, ◌∙◌, ℕ, zero, suc, ◌+◌, ◌*◌, ◌/◌, ◌%◌, ◌<◌, ◌≤◌, Bool, cond, map, ap, sym, refl, arith, inl, inr, add-one, suc-mul, eq-eqb, ne_eqb, ap₂}
use Rattle.std.specs.Prelude.{count_by, ◌==◌}
use Rattle.std.specs.List.{range_with_len}
use Rattle.std.proofs.lemmas.Bool.{cases_lt, cases_eq}
use Rattle.std.proofs.lemmas.List.FromFn.{length-map-range_with_len, get_or-map-range_with_len, sum_by-map-range_with_len_more}
use Rattle.std.proofs.lemmas.Nat.{mod_below, mod-mul-add, div-add-mod', mul-le}
use Rattle.std.proofs.Math.Nat.{mul_assoc, mul_comm, zero-mul, mul-mod_left, le_of_mul-le-mul_right, lt_of_mul-lt-mul_right}
use Rattle.l2_colour.specs.Colours.{IsColoured, lines_of, colours_of}
use Rattle.l2_colour.proofs.Rows.{sets_are}
use Rattle.kernel_clone.specs.Footprints.{Layout, IsLayout, lines_in_frame, shared_line, shared_lines}
use Rattle.kernel_clone.proofs.LineLaws.{some_lines, whole_lines, shared_frame}
use Rattle.mem_system.specs.Hierarchy.{Hierarchy, colour_of_line}
use Rattle.mem_system.specs.Operations.{shared_region}
use Rattle.mem_system.specs.Sharing.{IsRegion, HasRoom}

module _ (h : Hierarchy) (l : Layout) (is : IsLayout l) (coloured : IsColoured h.line_size h.l2.count) (same_line : l.line ≡ h.line_size)
    (same_colours : l.colours ≡ colours_of h.line_size h.l2.count) where
  abbrev lines : ℕ
  lines = lines_in_frame l

  -- a frame has as many lines to both
  lines_are : lines ≡ lines_of h.line_size
  lines_are = ap (λ (n : ℕ). 4096 / n) same_line

  -- the sets are a row of a frame's lines for each colour
  sets_are_rows : l.colours * lines ≡ h.l2.count
  sets_are_rows = ap₂ (λ (a b : ℕ). a * b) same_colours lines_are ∙ sets_are h.line_size h.l2.count coloured

  -- shared line i has colour 0
  first_colour : (i : ℕ) → colour_of_line h (shared_line l i) ≡ 0
  unfolding colour_of_line
  first_colour i =
      let colours : ℕ = colours_of h.line_size h.l2.count in
      ap (λ (n : ℕ). shared_line l i / n % colours) (sym lines_are)
      ∙ ap (λ (frame : ℕ). frame % colours) (shared_frame l i is)
      ∙ ap (λ (n : ℕ). i / lines * n % colours) same_colours
      ∙ mul-mod_left (i / lines) colours

  pub region_is : IsRegion h (shared_region l)
  unfolding shared_region
  region_is i lt =
      let below : i < shared_lines l = omega (arith, lt, length-map-range_with_len (shared_line l) 0 (shared_lines l)) in
      ap (colour_of_line h) (get_or-map-range_with_len (shared_line l) 0 (shared_lines l) i i 0 below (omega arith)) ∙ first_colour i

  -- and stands in the set of its place in its frame
  shared_set : (i : ℕ) → shared_line l i % h.l2.count ≡ i % lines
  shared_set i =
      let row : ℕ = l.colours * lines in
      let place : i % lines < lines = mod_below i lines (some_lines l is) in
      let most : 1 * lines ≤ row = mul-le 1 lines l.colours lines (omega (arith, is.some_colours)) (omega arith) in
      ap (λ (n : ℕ). shared_line l i % n) (sym sets_are_rows)
      ∙ ap (λ (n : ℕ). (n + i % lines) % row) (mul_assoc (i / lines) l.colours lines)
      ∙ mod-mul-add (i / lines) row (i % lines) (omega (arith, place, most))

  -- how many of the first n lines stand in a set
  unfoldable at_set : ℕ → ℕ → ℕ
  at_set s n = count_by (λ line. line % h.l2.count == s) (map (shared_line l) (range_with_len 0 n))

  at_set-zero : (s : ℕ) → at_set s 0 ≡ 0
  unfolding at_set
  at_set-zero s = refl

  at_set-suc : (s n : ℕ) → at_set s (suc n) ≡ at_set s n + cond (n % lines == s) 1 0
  unfolding at_set
  at_set-suc s n =
      ap (at_set s) (sym (add-one n))
      ∙ sum_by-map-range_with_len_more (λ line. cond (line % h.l2.count == s) 1 0) (shared_line l) 0 n n (omega arith)
      ∙ ap (λ (k : ℕ). at_set s n + cond (k == s) 1 0) (shared_set n)

  -- one in each frame that has come to the set's place
  counted : (s n : ℕ) → s < lines → at_set s n * lines + s < n + lines
  counted s zero lt = omega (arith, lt, ap (λ (k : ℕ). k * lines) (at_set-zero s) ∙ zero-mul lines)
  counted s (suc n) lt = elim (cases_eq (n % lines) s) [
    | inl here ↦
        let before : at_set s n * lines + s < n + lines = counted s n lt in
        let more : at_set s (suc n) ≡ at_set s n + 1 =
        at_set-suc s n ∙ ap (λ (b : Bool). at_set s n + cond b 1 0) (eq-eqb (n % lines) s here) in
        let place : n / lines * lines + n % lines ≡ n = div-add-mod' n lines in
        let less : at_set s n < suc (n / lines) =
        lt_of_mul-lt-mul_right lines (omega (arith, before, here, place, suc-mul (n / lines) lines)) in
        let most : at_set s n * lines ≤ n / lines * lines =
        mul-le (at_set s n) lines (n / lines) lines (omega (arith, less)) (omega arith) in
        let whole : at_set s (suc n) * lines ≡ at_set s n * lines + lines = ap (λ (k : ℕ). k * lines) more ∙ grind arith in
        omega (arith, most, whole, place, here)
    | inr apart ↦
        let before : at_set s n * lines + s < n + lines = counted s n lt in
        let same : at_set s (suc n) ≡ at_set s n =
        at_set-suc s n ∙ ap (λ (b : Bool). at_set s n + cond b 1 0) (ne_eqb (n % lines) s apart)
        ∙ omega arith in
        let whole : at_set s (suc n) * lines ≡ at_set s n * lines = ap (λ (k : ℕ). k * lines) same in
        omega (arith, before, whole)
  ]

  none_past : (s n : ℕ) → lines ≤ s → at_set s n ≡ 0
  none_past s zero past = at_set-zero s
  none_past s (suc n) past =
      let before : at_set s n ≡ 0 = none_past s n past in
      let place : n % lines < lines = mod_below n lines (some_lines l is) in
      let apart : n % lines ≢ s = λ e. omega (arith, place, past, e) in
      at_set-suc s n ∙ ap (λ (b : Bool). at_set s n + cond b 1 0) (ne_eqb (n % lines) s apart) ∙ omega (arith, before)

  -- the lines fill no more frames than have begun
  frames_begun : shared_lines l ≤ (l.shared + 4095) / 4096 * lines
  frames_begun =
      let frames : ℕ = (l.shared + 4095) / 4096 in
      let begun : frames * 4096 + (l.shared + 4095) % 4096 ≡ l.shared + 4095 = div-add-mod' (l.shared + 4095) 4096 in
      let rest : (l.shared + 4095) % 4096 < 4096 = mod_below (l.shared + 4095) 4096 (omega arith) in
      let whole : shared_lines l * l.line + l.shared % l.line ≡ l.shared = div-add-mod' l.shared l.line in
      let frame : frames * (lines * l.line) ≡ frames * 4096 = ap (λ (n : ℕ). frames * n) (mul_comm lines l.line ∙ whole_lines l is) in
      let rows : (frames * lines) * l.line ≡ frames * (lines * l.line) = mul_assoc frames lines l.line in
      le_of_mul-le-mul_right {k = l.line} (omega (arith, begun, rest, whole, frame, rows)) (omega (arith, is.least_line))

  pub has_room : (l.shared + 4095) / 4096 ≤ h.l2.ways → HasRoom h (shared_region l)
  unfolding shared_region at_set
  has_room fits s =
      let few : at_set s (shared_lines l) ≤ h.l2.ways = elim (cases_lt s lines) [
        | inl lt ↦
            let frames : ℕ = (l.shared + 4095) / 4096 in
            let count : at_set s (shared_lines l) * lines + s < shared_lines l + lines = counted s (shared_lines l) lt in
            let less : at_set s (shared_lines l) < suc frames =
            lt_of_mul-lt-mul_right lines (omega (arith, count, frames_begun, suc-mul frames lines)) in
            omega (arith, less, fits)
        | inr past ↦ omega (arith, none_past s (shared_lines l) past)
      ] in
      few

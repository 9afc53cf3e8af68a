-- Lines and their frames.
use Rattle.std.proofs.Common.{◌≡◌, ◌≢◌, ◌∙◌, ◌<◌, ◌≤◌, ◌⊎◌, ◌+◌, ◌-◌, ◌*◌, ◌/◌, ◌%◌, ◌^◌, ℕ, length, Some, Bool, ap, ap₂, sym, refl, arith, lit≤, inl, inr}
use Rattle.std.specs.Prelude.{slice_get, if◌then◌else◌}
use Rattle.std.proofs.lemmas.Bool.{cases_eq, cases_lt, lt-ltb, le-ltb}
use Rattle.std.proofs.lemmas.List.FromFn.{length-map-range_with_len}
use Rattle.std.proofs.lemmas.Nat.{div-mul-add, mod-mul-add, div-add-mod', same_from_place, mod_below}
use Rattle.std.proofs.Math.Nat.{pow-le-pow_right, div-div-eq-div-mul, eq_of_mul-eq-mul_right}
use Rattle.kernel_clone.specs.Footprints.{Layout, IsLayout, lines_in_frame, line_of, text_line, shared_line}
use Rattle.kernel_clone.specs.Laws.{frame_of, frame_at, lines_of, text_lines}
use Rattle.kernel_clone.proofs.Items.{get_left, get_right, get_range}

-- ---- the lines of a frame

-- a power of two from 16 to 128 is one of four
pub line_cases : (l : Layout) → IsLayout l
    → (l.line ≡ 16) ⊎ ((l.line ≡ 32) ⊎ ((l.line ≡ 64) ⊎ (l.line ≡ 128)))
line_cases l is =
    let k : ℕ = is.power.0 in
    let power : l.line ≡ 2 ^ k = is.power.1 in
    let least = is.least_line in
    let most = is.most_line in
    elim (cases_lt k 4) [
      | inl below ↦
          let few : 2 ^ k ≤ 2 ^ 3 = (let le : k ≤ 3 = omega (arith, below) in pow-le-pow_right (lit≤ tt) le) in
          absurd (omega (arith, few, power, least))
      | inr four ↦
          elim (cases_lt k 8) [
            | inl few ↦ four_cases k l.line power four few
            | inr above ↦
                let many : 2 ^ 8 ≤ 2 ^ k = pow-le-pow_right (lit≤ tt) above in
                absurd (omega (arith, many, power, most))
          ]
    ]
  where
    four_cases : (k line : ℕ) → line ≡ 2 ^ k → 4 ≤ k → k < 8
        → (line ≡ 16) ⊎ ((line ≡ 32) ⊎ ((line ≡ 64) ⊎ (line ≡ 128)))
    four_cases k line power four few =
        elim (cases_eq k 4) [
          | inl e ↦ inl (power ∙ ap (λ (n : ℕ). 2 ^ n) e)
          | inr not4 ↦
              elim (cases_eq k 5) [
                | inl e ↦ inr (inl (power ∙ ap (λ (n : ℕ). 2 ^ n) e))
                | inr not5 ↦
                    elim (cases_eq k 6) [
                      | inl e ↦ inr (inr (inl (power ∙ ap (λ (n : ℕ). 2 ^ n) e)))
                      | inr not6 ↦
                          let e : k ≡ 7 = omega (arith, four, few, not4, not5, not6) in
                          inr (inr (inr (power ∙ ap (λ (n : ℕ). 2 ^ n) e)))
                    ]
              ]
        ]

pub whole_lines : (l : Layout) → IsLayout l → l.line * lines_in_frame l ≡ 4096
whole_lines l is = elim (line_cases l is) [
  | inl e ↦ rw e refl
  | inr (inl e) ↦ rw e refl
  | inr (inr (inl e)) ↦ rw e refl
  | inr (inr (inr e)) ↦ rw e refl
]

pub many_lines : (l : Layout) → IsLayout l → 32 ≤ lines_in_frame l
many_lines l is = elim (line_cases l is) [
  | inl e ↦ rw e (lit≤ tt)
  | inr (inl e) ↦ rw e (lit≤ tt)
  | inr (inr (inl e)) ↦ rw e (lit≤ tt)
  | inr (inr (inr e)) ↦ rw e (lit≤ tt)
]

pub some_lines : (l : Layout) → IsLayout l → 0 < lines_in_frame l
some_lines l is = let many = many_lines l is in omega (arith, many)

pub frame_of-line_of : (l : Layout) (frame i : ℕ) → i < lines_in_frame l
    → frame_of l (line_of l frame i) ≡ frame
frame_of-line_of l frame i lt = div-mul-add frame (lines_in_frame l) i lt

pub entry_frame : (l : Layout) (address : ℕ) → IsLayout l → frame_of l (address / l.line) ≡ frame_at address
entry_frame l address is = div-div-eq-div-mul address l.line (lines_in_frame l) ∙ ap (λ (n : ℕ). address / n) (whole_lines l is)

-- ---- the text

pub text_line-below : (l : Layout) (j : ℕ) → j < lines_in_frame l → text_line l j ≡ line_of l l.text j
text_line-below l j lt =
    ap (λ (b : Bool). if b then line_of l l.text j else line_of l l.more_text (j % lines_in_frame l)) (lt-ltb j (lines_in_frame l) lt)

pub text_line-past : (l : Layout) (j : ℕ) → lines_in_frame l ≤ j
    → text_line l j ≡ line_of l l.more_text (j % lines_in_frame l)
text_line-past l j le =
    ap (λ (b : Bool). if b then line_of l l.text j else line_of l l.more_text (j % lines_in_frame l)) (le-ltb j (lines_in_frame l) le)

pub text_frame : (l : Layout) (j : ℕ) → IsLayout l
    → (frame_of l (text_line l j) ≡ l.text) ⊎ (frame_of l (text_line l j) ≡ l.more_text)
text_frame l j is = elim (cases_lt j (lines_in_frame l)) [
  | inl below ↦ inl (ap (frame_of l) (text_line-below l j below) ∙ frame_of-line_of l l.text j below)
  | inr past ↦ inr (ap (frame_of l) (text_line-past l j past)
      ∙ frame_of-line_of l l.more_text (j % lines_in_frame l) (mod_below j (lines_in_frame l) (some_lines l is)))
]

length-lines_of : (l : Layout) (frame : ℕ) → length (lines_of l frame) ≡ lines_in_frame l
unfolding lines_of
length-lines_of l frame = length-map-range_with_len (line_of l frame) 0 (lines_in_frame l)

get-lines_of : (l : Layout) (frame i : ℕ) → i < lines_in_frame l
    → slice_get (lines_of l frame) i ≡ Some (line_of l frame i)
unfolding lines_of
get-lines_of l frame i lt = get_range (line_of l frame) (lines_in_frame l) i lt

-- one subtraction is the remainder
mod_past : (j n : ℕ) → n ≤ j → j < 2 * n → j % n ≡ j - n
mod_past j n le lt =
    let rest : j - n < n = omega (arith, le, lt) in
    let whole : j ≡ 1 * n + (j - n) = omega (arith, le) in
    ap (λ (m : ℕ). m % n) whole ∙ mod-mul-add 1 n (j - n) rest

pub text_lines_are : (l : Layout) (j : ℕ) → j < 2 * lines_in_frame l
    → slice_get (text_lines l) j ≡ Some (text_line l j)
unfolding text_lines
text_lines_are l j lt = elim (cases_lt j (lines_in_frame l)) [
  | inl below ↦
      get_left (lines_of l l.text) (lines_of l l.more_text) j (line_of l l.text j) (get-lines_of l l.text j below)
      ∙ ap Some (sym (text_line-below l j below))
  | inr past ↦
      let rest : j - lines_in_frame l < lines_in_frame l = omega (arith, past, lt) in
      get_right (lines_of l l.text) (lines_of l l.more_text) (lines_in_frame l) j (length-lines_of l l.text) past
      ∙ (get-lines_of l l.more_text (j - lines_in_frame l) rest
      ∙ ap Some (ap (line_of l l.more_text) (sym (mod_past j (lines_in_frame l) past lt)) ∙ sym (text_line-past l j past)))
]

-- ---- the shared region

pub shared_frame : (l : Layout) (j : ℕ) → IsLayout l
    → frame_of l (shared_line l j) ≡ j / lines_in_frame l * l.colours
shared_frame l j is =
    frame_of-line_of l (j / lines_in_frame l * l.colours) (j % lines_in_frame l) (mod_below j (lines_in_frame l) (some_lines l is))

pub shared_once : (l : Layout) (i j : ℕ) → IsLayout l → i ≢ j → shared_line l i ≢ shared_line l j
shared_once l i j is other same =
    let n : ℕ = lines_in_frame l in
    let some : 0 < n = some_lines l is in
    let parts = same_from_place (i / n * l.colours) (i % n) (j / n * l.colours) (j % n) n (mod_below i n some) (mod_below j n some) same in
    let coloured : 0 < l.colours = (let two = is.some_colours in omega (arith, two)) in
    let rows : i / n ≡ j / n = eq_of_mul-eq-mul_right l.colours coloured (i / n) (j / n) parts.0 in
    other (sym (div-add-mod' i n) ∙ (ap₂ (λ (q r : ℕ). q * n + r) rows parts.1 ∙ div-add-mod' j n))

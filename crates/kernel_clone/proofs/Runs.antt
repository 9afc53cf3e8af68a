-- Lines side by side.
use Rattle.std.proofs.Common.{◌≡◌, ◌∙◌, ◌<◌, ◌≤◌, ◌+◌, ◌*◌, ◌/◌, ◌%◌, ◌^◌, ℕ, zero, suc, List, [], ◌∷◌, ◌++◌, length, map, Some, true, false, ap, ap₂, sym, refl, subst, arith, inl, inr}
use Rattle.std.specs.Prelude.{slice_get, if◌then◌else◌}
use Rattle.std.specs.List.{range_with_len}
use Rattle.std.proofs.lemmas.Bool.{cases_lt}
use Rattle.std.proofs.lemmas.List.FromFn.{length-map-range_with_len, map-range_with_len_more}
use Rattle.std.proofs.lemmas.Nat.{div-mul-add, mod-mul-add, div-add-mod'}
use Rattle.tp_base.specs.Ranges.{IsFrameNo}
use Rattle.kernel_clone.specs.Footprints.{Layout, LineTouch, IsLayout, text_touches, stack_touches, data_touches, shared_touches, zeroed_touches, touch_of, run_of, text_line, line_of, shared_line, shared_lines, lines_in_frame, data_count, is_of_switch}
use Rattle.kernel_clone.specs.Laws.{shared_count}
use Rattle.kernel_clone.specs.declared.Kind.{Kind}
use Rattle.kernel_clone.specs.declared.Kind.TheVariants.{Fetch, Load, Store}
use Rattle.kernel_clone.proofs.Items.{get_range}
use Rattle.kernel_clone.proofs.LineLaws.{text_line-below, text_line-past, many_lines}
use Rattle.kernel_clone.proofs.Powers.{each_line}

pub get_run : (kind : Kind) (first count i : ℕ) → i < count
    → slice_get (run_of kind first count) i ≡ Some (touch_of kind (first + i))
unfolding run_of
get_run kind first count i lt = get_range (λ k. touch_of kind (first + k)) count i lt

pub run_item : (ts : List LineTouch) (kind : Kind) (first count i : ℕ) → ts ≡ run_of kind first count
    → i < count → slice_get ts i ≡ Some (touch_of kind (first + i))
run_item ts kind first count i is lt = ap (λ (us : List LineTouch). slice_get us i) is ∙ get_run kind first count i lt

pub length-run : (kind : Kind) (first count : ℕ) → length (run_of kind first count) ≡ count
unfolding run_of
length-run kind first count = length-map-range_with_len (λ i. touch_of kind (first + i)) 0 count

map_same : {X : Type 0} → (f g : ℕ → X) (n : ℕ) → ((i : ℕ) → i < n → f i ≡ g i)
    → map f (range_with_len 0 n) ≡ map g (range_with_len 0 n)
map_same f g zero same = refl
map_same {X} f g (suc n) same =
    let more : suc n ≡ n + 1 = omega arith in
    let last : 0 + n ≡ n = omega arith in
    subst (λ (m : ℕ). map f (range_with_len 0 m) ≡ map g (range_with_len 0 m)) (sym more)
    (map-range_with_len_more f 0 n n last
    ∙ (ap₂ (λ (xs : List X) (x : X). xs ++ x ∷ []) (map_same f g n (λ i lt. same i (omega (arith, lt)))) (same n (omega arith))
    ∙ sym (map-range_with_len_more g 0 n n last)))

-- ---- a frame

-- all its lines are ones that there are
pub frame_room : (l : Layout) → IsLayout l → (frame : ℕ) → IsFrameNo frame
    → frame * lines_in_frame l + lines_in_frame l ≤ 2 ^ 23
frame_room l is frame few =
    each_line (λ n. frame * (4096 / n) + 4096 / n ≤ 2 ^ 23)
    (omega (arith, few)) (omega (arith, few)) (omega (arith, few)) (omega (arith, few)) l is

pub line_room : (l : Layout) → IsLayout l → (frame i n : ℕ) → IsFrameNo frame → i + n ≤ lines_in_frame l
    → line_of l frame i + n ≤ 2 ^ 23
line_room l is frame i n few le = let room = frame_room l is frame few in omega (arith, room, le)

frame_run : (l : Layout) (frame n : ℕ)
    → map (λ i. touch_of Store (line_of l frame i)) (range_with_len 0 n) ≡ run_of Store (line_of l frame 0) n
unfolding run_of
frame_run l frame n =
    map_same (λ i. touch_of Store (line_of l frame i)) (λ i. touch_of Store (line_of l frame 0 + i)) n
    (λ i lt. let sum : line_of l frame i ≡ line_of l frame 0 + i = omega arith in ap (touch_of Store) sum)

-- that was zeroed
pub zeroed_run : (l : Layout) (frame : ℕ)
    → zeroed_touches l (Some frame) ≡ run_of Store (line_of l frame 0) (lines_in_frame l)
unfolding zeroed_touches
zeroed_run l frame = frame_run l frame (lines_in_frame l)

-- ---- the text

-- its places go round two frames, whose lines are a multiple of 4
text_place : (l : Layout) → IsLayout l → (op i : ℕ) → i < 4
    → (4 * op + i) % (2 * lines_in_frame l) ≡ 4 * op % (2 * lines_in_frame l) + i
text_place l is op i lt =
    each_line (λ n. (4 * op + i) % (2 * (4096 / n)) ≡ 4 * op % (2 * (4096 / n)) + i)
    (omega (arith, lt)) (omega (arith, lt)) (omega (arith, lt)) (omega (arith, lt)) l is

text_within : (l : Layout) → IsLayout l → (op : ℕ) → 4 * op % (2 * lines_in_frame l) < lines_in_frame l
    → 4 * op % (2 * lines_in_frame l) + 4 ≤ lines_in_frame l
text_within l is op =
    each_line (λ n. 4 * op % (2 * (4096 / n)) < 4096 / n → 4 * op % (2 * (4096 / n)) + 4 ≤ 4096 / n)
    (λ lt. omega (arith, lt)) (λ lt. omega (arith, lt)) (λ lt. omega (arith, lt)) (λ lt. omega (arith, lt)) l is

text_past : (l : Layout) → IsLayout l → (op i : ℕ) → i < 4
    → (4 * op % (2 * lines_in_frame l) + i) % lines_in_frame l ≡ 4 * op % (2 * lines_in_frame l) % lines_in_frame l + i
text_past l is op i lt =
    each_line (λ n. (4 * op % (2 * (4096 / n)) + i) % (4096 / n) ≡ 4 * op % (2 * (4096 / n)) % (4096 / n) + i)
    (omega (arith, lt)) (omega (arith, lt)) (omega (arith, lt)) (omega (arith, lt)) l is

text_past_room : (l : Layout) → IsLayout l → (op : ℕ)
    → 4 * op % (2 * lines_in_frame l) % lines_in_frame l + 4 ≤ lines_in_frame l
text_past_room l is op =
    each_line (λ n. 4 * op % (2 * (4096 / n)) % (4096 / n) + 4 ≤ 4096 / n) (omega arith) (omega arith) (omega arith) (omega arith) l is

text_next : (l : Layout) → IsLayout l → (op i : ℕ) → i < 4
    → text_line l ((4 * op + i) % (2 * lines_in_frame l)) ≡ text_line l (4 * op % (2 * lines_in_frame l)) + i
text_next l is op i lt =
    let n : ℕ = lines_in_frame l in
    let j : ℕ = 4 * op % (2 * n) in
    ap (text_line l) (text_place l is op i lt)
    ∙ elim (cases_lt j n) [
      | inl below ↦
          let within = text_within l is op below in
          let sum : line_of l l.text (j + i) ≡ line_of l l.text j + i = omega arith in
          text_line-below l (j + i) (omega (arith, within, lt)) ∙ (sum ∙ ap (λ (m : ℕ). m + i) (sym (text_line-below l j below)))
      | inr past ↦
          let rest : (j + i) % n ≡ j % n + i = text_past l is op i lt in
          let sum : line_of l l.more_text ((j + i) % n) ≡ line_of l l.more_text (j % n) + i = omega (arith, rest) in
          text_line-past l (j + i) (omega (arith, past)) ∙ (sum ∙ ap (λ (m : ℕ). m + i) (sym (text_line-past l j past)))
    ]

pub text_run : (l : Layout) → IsLayout l → (op : ℕ)
    → text_touches l op ≡ run_of Fetch (text_line l (4 * op % (2 * lines_in_frame l))) 4
unfolding text_touches run_of
text_run l is op =
    map_same (λ i. touch_of Fetch (text_line l ((4 * op + i) % (2 * lines_in_frame l))))
    (λ i. touch_of Fetch (text_line l (4 * op % (2 * lines_in_frame l)) + i)) 4 (λ i lt. ap (touch_of Fetch) (text_next l is op i lt))

pub text_room : (l : Layout) → IsLayout l → (op : ℕ)
    → text_line l (4 * op % (2 * lines_in_frame l)) + 4 ≤ 2 ^ 23
text_room l is op =
    let n : ℕ = lines_in_frame l in
    let j : ℕ = 4 * op % (2 * n) in
    elim (cases_lt j n) [
      | inl below ↦ rw (text_line-below l j below) (line_room l is l.text j 4 is.text (text_within l is op below))
      | inr past ↦ rw (text_line-past l j past) (line_room l is l.more_text (j % n) 4 is.more_text (text_past_room l is op))
    ]

-- ---- the stack

pub stack_run : (l : Layout) → stack_touches l ≡ run_of Store (line_of l l.stack 0) 2
unfolding stack_touches
stack_run l = frame_run l l.stack 2

pub stack_room : (l : Layout) → IsLayout l → line_of l l.stack 0 + 2 ≤ 2 ^ 23
stack_room l is = let many = many_lines l is in line_room l is l.stack 0 2 is.stack (omega (arith, many))

-- ---- the data

data_place : (l : Layout) → IsLayout l → (op i : ℕ) → i < 2
    → (2 * op + i) % lines_in_frame l ≡ 2 * op % lines_in_frame l + i
data_place l is op i lt =
    each_line (λ n. (2 * op + i) % (4096 / n) ≡ 2 * op % (4096 / n) + i)
    (omega (arith, lt)) (omega (arith, lt)) (omega (arith, lt)) (omega (arith, lt)) l is

data_within : (l : Layout) → IsLayout l → (op : ℕ) → 2 * op % lines_in_frame l + 2 ≤ lines_in_frame l
data_within l is op =
    each_line (λ n. 2 * op % (4096 / n) + 2 ≤ 4096 / n) (omega arith) (omega arith) (omega arith) (omega arith) l is

few_data : (op : ℕ) → data_count op ≤ 2
few_data op = elim (is_of_switch op) as (λ b. (if b then 1 else 2) ≤ 2) [ true ↦ omega arith | false ↦ omega arith ]

pub data_run : (l : Layout) → IsLayout l → (op : ℕ)
    → data_touches l op ≡ run_of Store (line_of l l.data_frame (2 * op % lines_in_frame l)) (data_count op)
unfolding data_touches run_of
data_run l is op =
    map_same (λ i. touch_of Store (line_of l l.data_frame ((2 * op + i) % lines_in_frame l)))
    (λ i. touch_of Store (line_of l l.data_frame (2 * op % lines_in_frame l) + i)) (data_count op)
    (λ i lt.
    let few = few_data op in
    let place = data_place l is op i (omega (arith, lt, few)) in
    let sum : line_of l l.data_frame ((2 * op + i) % lines_in_frame l)
    ≡ line_of l l.data_frame (2 * op % lines_in_frame l) + i =
    omega (arith, place) in
    ap (touch_of Store) sum)

pub data_room : (l : Layout) → IsLayout l → (op : ℕ)
    → line_of l l.data_frame (2 * op % lines_in_frame l) + 2 ≤ 2 ^ 23
data_room l is op = line_room l is l.data_frame (2 * op % lines_in_frame l) 2 is.data_frame (data_within l is op)

-- ---- the shared region

pub loaded_run : (l : Layout) (op : ℕ)
    → shared_touches l op ≡ run_of Load (shared_line l (op % shared_lines l)) (shared_count op)
unfolding shared_touches run_of
loaded_run l op =
    let line : ℕ = shared_line l (op % shared_lines l) in
    elim (is_of_switch op) as (λ b. (if b then [] else touch_of Load line ∷ [])
    ≡ map (λ i. touch_of Load (line + i)) (range_with_len 0 (if b then 0 else 1)))
    [ true ↦ refl | false ↦ let same : line + 0 ≡ line = omega arith in ap (λ (n : ℕ). touch_of Load n ∷ []) (sym same) ]

-- the one shared line, where there is one
pub loaded_item : (l : Layout) (op line k : ℕ) → shared_touches l op ≡ run_of Load line (shared_count op)
    → k < shared_count op
    → slice_get (shared_touches l op) k ≡ Some (touch_of Load line)
loaded_item l op line k is lt =
    let few : shared_count op ≤ 1 =
    elim (is_of_switch op) as (λ b. (if b then 0 else 1) ≤ 1)
    [ true ↦ omega arith | false ↦ omega arith ] in
    let same : line + k ≡ line = omega (arith, lt, few) in
    run_item (shared_touches l op) Load line (shared_count op) k is lt ∙ ap (λ (n : ℕ). Some (touch_of Load n)) same

-- in a frame of it, which begins at a whole number of frames, one line follows the other
pub shared_next : (l : Layout) (place i : ℕ) → place % lines_in_frame l ≡ 0 → i < lines_in_frame l
    → shared_line l (place + i) ≡ shared_line l place + i
shared_next l place i starts lt =
    let n : ℕ = lines_in_frame l in
    let q : ℕ = place / n in
    let whole : place + i ≡ q * n + i = (let parts = div-add-mod' place n in omega (arith, parts, starts)) in
    let frame : (place + i) / n ≡ q = ap (λ (m : ℕ). m / n) whole ∙ div-mul-add q n i lt in
    let rest : (place + i) % n ≡ i = ap (λ (m : ℕ). m % n) whole ∙ mod-mul-add q n i lt in
    let line : shared_line l (place + i) ≡ q * l.colours * n + i = ap₂ (λ (f r : ℕ). f * l.colours * n + r) frame rest in
    let first : shared_line l place ≡ q * l.colours * n + 0 = ap (λ (r : ℕ). q * l.colours * n + r) starts in
    omega (arith, line, first)

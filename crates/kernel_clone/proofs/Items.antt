-- The items of a footprint, by their places.
use Rattle.std.proofs.Common.{◌≡◌, ◌∙◌, ◌<◌, ◌≤◌, ◌+◌, ◌-◌, ◌*◌, ◌/◌, ◌%◌, ℕ, zero, suc, List, [], ◌∷◌, ◌++◌, length, map, Option, Some, None, true, false, ap, sym, refl, subst, arith, zero-add, suc-add, option_map}
use Rattle.std.specs.Prelude.{slice_get, slice_index, take, if◌then◌else◌}
use Rattle.std.specs.List.{range_with_len}
use Rattle.std.proofs.lemmas.List.{append_assoc, length-append, length-map, length-take-le, get_or-take}
use Rattle.std.proofs.lemmas.List.FromFn.{length-map-range_with_len, get_or-map-range_with_len}
use Rattle.std.proofs.lemmas.Option.{slice_get-get_or, slice_get-map}
use Rattle.kernel_clone.specs.Footprints.{Layout, WorkDone, LineTouch, touches, text_touches, stack_touches, data_touches, shared_touches, own_touches, zeroed_touches, entry_touches, written_touches, touch_of, text_line, line_of, shared_line, shared_lines, lines_in_frame, data_count, is_of_switch}
use Rattle.kernel_clone.specs.Laws.{own_count, shared_count, zeroed_count, count_of}
use Rattle.kernel_clone.specs.declared.Kind.TheVariants.{Fetch, Load, Store}

-- ---- lists

pub get_left : {X : Type 0} → (xs ys : List X) (i : ℕ) (x : X) → slice_get xs i ≡ Some x
    → slice_get (xs ++ ys) i ≡ Some x
get_left [] ys i x h = cc
get_left (y ∷ xs) ys zero x h = h
get_left (y ∷ xs) ys (suc i) x h = get_left xs ys i x h

get_more : {X : Type 0} → (xs ys : List X) (i : ℕ) → slice_get (xs ++ ys) (length xs + i) ≡ slice_get ys i
get_more [] ys i = rw (zero-add i) refl
get_more (y ∷ xs) ys i = rw (suc-add (length xs) i) (get_more xs ys i)

pub get_right : {X : Type 0} → (xs ys : List X) (n i : ℕ) → length xs ≡ n → n ≤ i
    → slice_get (xs ++ ys) i ≡ slice_get ys (i - n)
get_right xs ys n i len le =
    let whole : i ≡ length xs + (i - n) = omega (arith, len, le) in
    ap (slice_get (xs ++ ys)) whole ∙ get_more xs ys (i - n)

pub get_range : {X : Type 0} → (f : ℕ → X) (n i : ℕ) → i < n
    → slice_get (map f (range_with_len 0 n)) i ≡ Some (f i)
get_range f n i lt =
    slice_get-get_or (map f (range_with_len 0 n)) i (f i) (subst (λ (m : ℕ). i < m) (sym (length-map-range_with_len f 0 n)) lt)
    ∙ ap Some (get_or-map-range_with_len f 0 n i i (f i) lt (zero-add i))

-- ---- how long the parts are

pub length-text : (l : Layout) (op : ℕ) → length (text_touches l op) ≡ 4
unfolding text_touches
length-text l op = length-map-range_with_len (λ i. touch_of Fetch (text_line l ((4 * op + i) % (2 * lines_in_frame l)))) 0 4

pub length-stack : (l : Layout) → length (stack_touches l) ≡ 2
unfolding stack_touches
length-stack l = length-map-range_with_len (λ i. touch_of Store (line_of l l.stack i)) 0 2

pub length-data : (l : Layout) (op : ℕ) → length (data_touches l op) ≡ data_count op
unfolding data_touches
length-data l op = length-map-range_with_len _ 0 (data_count op)

pub length-shared : (l : Layout) (op : ℕ) → length (shared_touches l op) ≡ shared_count op
unfolding shared_touches
length-shared l op =
    elim (is_of_switch op) as (λ b. length {A = LineTouch}
    (if b then [] else touch_of Load (shared_line l (op % shared_lines l)) ∷ []) ≡ (if b then 0 else 1))
    [ true ↦ refl | false ↦ refl ]

pub length-zeroed : (l : Layout) (zeroed : Option ℕ)
    → length (zeroed_touches l zeroed) ≡ zeroed_count l zeroed
unfolding zeroed_touches
length-zeroed l None = refl
length-zeroed l (Some frame) = length-map-range_with_len _ 0 (lines_in_frame l)

pub length-entries : (l : Layout) (entries : List ℕ) → length (entry_touches l entries) ≡ length entries
unfolding entry_touches
length-entries l entries = length-map entries _

pub length-written : (l : Layout) (w : WorkDone)
    → length (written_touches l w) ≡ zeroed_count l w.zeroed + length w.entries
length-written l w =
    rw (
      length-append (zeroed_touches l w.zeroed) (entry_touches l w.entries),
      length-zeroed l w.zeroed,
      length-entries l w.entries,
    ) refl

pub length-parts : (l : Layout) (w : WorkDone)
    → length (touches l w) ≡ 6 + data_count w.op + shared_count w.op + length (written_touches l w)
unfolding touches
length-parts l w =
    let whole : length (text_touches l w.op ++ (stack_touches l ++ (data_touches l w.op ++ (shared_touches l w.op ++ written_touches l w))))
    ≡ 4 + (2 + (data_count w.op + (shared_count w.op + length (written_touches l w)))) =
    rw (
      length-append (text_touches l w.op) (stack_touches l ++ (data_touches l w.op ++ (shared_touches l w.op ++ written_touches l w))),
      length-append (stack_touches l) (data_touches l w.op ++ (shared_touches l w.op ++ written_touches l w)),
      length-append (data_touches l w.op) (shared_touches l w.op ++ written_touches l w),
      length-append (shared_touches l w.op) (written_touches l w),
      length-text l w.op,
      length-stack l,
      length-data l w.op,
      length-shared l w.op,
    ) refl in
    omega (arith, whole)

pub length-touches : (l : Layout) (w : WorkDone) → length (touches l w) ≡ count_of l w
length-touches l w =
    let parts = length-parts l w in
    let written = length-written l w in
    omega (arith, parts, written)

-- of entries in an array, of which some are taken
pub length-taken : (l : Layout) (w : WorkDone) (entries : List ℕ) (count z : ℕ)
    → w.entries ≡ take count entries → count ≤ length entries
    → zeroed_count l w.zeroed ≡ z → z + count ≡ length (written_touches l w)
length-taken l w entries count z is few zeroed =
    let written = length-written l w in
    let taken : length w.entries ≡ count = ap length is ∙ length-take-le count entries few in
    omega (arith, written, taken, zeroed)

-- ---- the items of the parts

pub entry_item : (l : Layout) (entries : List ℕ) (k : ℕ) → k < length entries
    → slice_get (entry_touches l entries) k ≡ Some (touch_of Store (slice_index entries k / l.line))
unfolding entry_touches
entry_item l entries k lt =
    slice_get-map (λ at. touch_of Store (at / l.line)) entries k
    ∙ ap (option_map (λ at. touch_of Store (at / l.line))) (slice_get-get_or entries k 0 lt)

-- of entries in an array, of which some are taken
pub taken_item : (l : Layout) (entries : List ℕ) (count k : ℕ) → k < count → count ≤ length entries
    → slice_get (entry_touches l (take count entries)) k ≡ Some (touch_of Store (slice_index entries k / l.line))
taken_item l entries count k lt le =
    entry_item l (take count entries) k (subst (λ (n : ℕ). k < n) (sym (length-take-le count entries le)) lt)
    ∙ ap (λ (at : ℕ). Some (touch_of Store (at / l.line))) (get_or-take count entries k 0 lt)

pub frame_item : (l : Layout) (frame i : ℕ) → i < lines_in_frame l
    → slice_get (zeroed_touches l (Some frame)) i ≡ Some (touch_of Store (line_of l frame i))
unfolding zeroed_touches
frame_item l frame i lt = get_range (λ k. touch_of Store (line_of l frame k)) (lines_in_frame l) i lt

pub zeroed_item : (l : Layout) (w : WorkDone) (frame i : ℕ) → w.zeroed ≡ Some frame → i < lines_in_frame l
    → slice_get (written_touches l w) i ≡ Some (touch_of Store (line_of l frame i))
zeroed_item l w frame i is lt =
    subst (λ (z : Option ℕ). slice_get (zeroed_touches l z ++ entry_touches l w.entries) i
    ≡ Some (touch_of Store (line_of l frame i))) (sym is)
    (get_left (zeroed_touches l (Some frame)) (entry_touches l w.entries) i (touch_of Store (line_of l frame i)) (frame_item l frame i lt))

pub plain_written : (l : Layout) (w : WorkDone) (i : ℕ) → w.zeroed ≡ None
    → slice_get (written_touches l w) i ≡ slice_get (entry_touches l w.entries) i
unfolding zeroed_touches
plain_written l w i is = ap (λ (z : Option ℕ). slice_get (zeroed_touches l z ++ entry_touches l w.entries) i) is

pub past_zeroed : (l : Layout) (w : WorkDone) (i n : ℕ) → zeroed_count l w.zeroed ≡ n → n ≤ i
    → slice_get (written_touches l w) i ≡ slice_get (entry_touches l w.entries) (i - n)
past_zeroed l w i n is le = get_right (zeroed_touches l w.zeroed) (entry_touches l w.entries) n i (length-zeroed l w.zeroed ∙ is) le

-- ---- the items of the operation itself

pub text_item : (l : Layout) (op i : ℕ) (t : LineTouch) → slice_get (text_touches l op) i ≡ Some t
    → slice_get (own_touches l op) i ≡ Some t
unfolding own_touches
text_item l op i t is = get_left (text_touches l op) _ i t is

past_text : (l : Layout) (op i : ℕ) → 4 ≤ i
    → slice_get (own_touches l op) i ≡ slice_get (stack_touches l ++ (data_touches l op ++ shared_touches l op)) (i - 4)
unfolding own_touches
past_text l op i le = get_right (text_touches l op) _ 4 i (length-text l op) le

pub stack_item : (l : Layout) (op i : ℕ) (t : LineTouch) → 4 ≤ i
    → slice_get (stack_touches l) (i - 4) ≡ Some t → slice_get (own_touches l op) i ≡ Some t
stack_item l op i t le is = past_text l op i le ∙ get_left (stack_touches l) _ (i - 4) t is

past_stack : (l : Layout) (op i : ℕ) → 4 ≤ i → 2 ≤ i - 4
    → slice_get (own_touches l op) i ≡ slice_get (data_touches l op ++ shared_touches l op) (i - 4 - 2)
past_stack l op i le two = past_text l op i le ∙ get_right (stack_touches l) _ 2 (i - 4) (length-stack l) two

pub data_item : (l : Layout) (op i : ℕ) (t : LineTouch) → 4 ≤ i → 2 ≤ i - 4
    → slice_get (data_touches l op) (i - 4 - 2) ≡ Some t
    → slice_get (own_touches l op) i ≡ Some t
data_item l op i t le two is = past_stack l op i le two ∙ get_left (data_touches l op) _ (i - 4 - 2) t is

past_data : (l : Layout) (op i d : ℕ) → d ≡ data_count op → 4 ≤ i → 2 ≤ i - 4 → d ≤ i - 4 - 2
    → slice_get (own_touches l op) i ≡ slice_get (shared_touches l op) (i - 4 - 2 - d)
past_data l op i d is le two more =
    past_stack l op i le two ∙ get_right (data_touches l op) _ d (i - 4 - 2) (length-data l op ∙ sym is) more

pub shared_item : (l : Layout) (op i d : ℕ) (t : LineTouch) → d ≡ data_count op → 4 ≤ i → 2 ≤ i - 4
    → d ≤ i - 4 - 2
    → slice_get (shared_touches l op) (i - 4 - 2 - d) ≡ Some t → slice_get (own_touches l op) i ≡ Some t
shared_item l op i d t is le two more at = past_data l op i d is le two more ∙ at

-- ---- the items of the whole

-- the operation's own, and then what the work stored
pub touches_parts : (l : Layout) (w : WorkDone) → touches l w ≡ own_touches l w.op ++ written_touches l w
unfolding touches own_touches
touches_parts l w =
    rw (
      append_assoc (text_touches l w.op) (stack_touches l ++ (data_touches l w.op ++ shared_touches l w.op)) (written_touches l w),
      append_assoc (stack_touches l) (data_touches l w.op ++ shared_touches l w.op) (written_touches l w),
      append_assoc (data_touches l w.op) (shared_touches l w.op) (written_touches l w),
    ) refl

pub length-own : (l : Layout) (op : ℕ) → length (own_touches l op) ≡ own_count op
unfolding own_touches
length-own l op =
    rw (
      length-append (text_touches l op) (stack_touches l ++ (data_touches l op ++ shared_touches l op)),
      length-append (stack_touches l) (data_touches l op ++ shared_touches l op),
      length-append (data_touches l op) (shared_touches l op),
      length-text l op,
      length-stack l,
      length-data l op,
      length-shared l op,
    ) (omega arith)

pub own_item : (l : Layout) (w : WorkDone) (op i : ℕ) (t : LineTouch) → op ≡ w.op
    → slice_get (own_touches l op) i ≡ Some t
    → slice_get (touches l w) i ≡ Some t
own_item l w op i t same is =
    ap (λ ts. slice_get ts i) (touches_parts l w)
    ∙ get_left (own_touches l w.op) (written_touches l w) i t (subst (λ (o : ℕ). slice_get (own_touches l o) i ≡ Some t) same is)

pub past_own : (l : Layout) (w : WorkDone) (op i n : ℕ) → op ≡ w.op → n ≡ own_count op → n ≤ i
    → slice_get (touches l w) i ≡ slice_get (written_touches l w) (i - n)
past_own l w op i n same is le =
    ap (λ ts. slice_get ts i) (touches_parts l w)
    ∙ get_right (own_touches l w.op) (written_touches l w) n i (length-own l w.op ∙ sym (is ∙ ap own_count same)) le

pub written_below : (l : Layout) (w : WorkDone) (op i n : ℕ) → op ≡ w.op → n ≡ own_count op → n ≤ i
    → i < length (touches l w)
    → i - n < length (written_touches l w)
written_below l w op i n same is le lt =
    let whole = length-parts l w in
    let own : own_count op ≡ own_count w.op = ap own_count same in
    omega (arith, is, own, le, lt, whole)

-- What holds of each part of a footprint holds of all of it; where touches are.
use Rattle.std.proofs.Common.{◌≡◌, ◌≢◌, ◌∙◌, ◌<◌, ◌≤◌, ◌+◌, ◌*◌, ◌/◌, ◌%◌, ℕ, [], ◌∷◌, ◌++◌, length, map, Option, Some, None, Bool, true, false, ap, sym, refl, subst, arith, zero-add, inl, inr}
use Rattle.std.specs.Prelude.{All, slice_index, if◌then◌else◌}
use Rattle.std.specs.List.{range_with_len}
use Rattle.std.proofs.lemmas.List.{length-map, get_or-map}
use Rattle.std.proofs.lemmas.List.Elements.{All-append}
use Rattle.std.proofs.lemmas.List.FromFn.{length-map-range_with_len, get_or-map-range_with_len}
use Rattle.std.proofs.lemmas.Bool.{true≢false}
use Rattle.std.proofs.lemmas.Nat.{mod_below, le-div}
use Rattle.std.proofs.Math.Nat.{mul-mod_left}
use Rattle.kernel_clone.specs.Footprints.{Layout, WorkDone, LineTouch, IsLayout, touches, text_touches, stack_touches, data_touches, shared_touches, zeroed_touches, entry_touches, written_touches, touch_of, text_line, line_of, shared_line, shared_lines, lines_in_frame, data_count, is_of_switch}
use Rattle.kernel_clone.specs.Laws.{IsPlaced, MayStore, StoresIn}
use Rattle.kernel_clone.specs.declared.Kind.TheVariants.{Fetch, Load, Store}
use Rattle.kernel_clone.proofs.LineLaws.{some_lines, many_lines, frame_of-line_of, text_frame, shared_frame, entry_frame}

all_range : {X : Type 0} (P : X → Type 0) (f : ℕ → X) (n : ℕ) → ((i : ℕ) → i < n → P (f i))
    → All P (map f (range_with_len 0 n))
all_range P f n each = λ k d lt.
    let below : k < n = subst (λ (m : ℕ). k < m) (length-map-range_with_len f 0 n) lt in
    subst P (sym (get_or-map-range_with_len f 0 n k k d below (zero-add k))) (each k below)

-- a fact of each touch, part by part
pub record OfEach (P : LineTouch → Type 0) (l : Layout) (w : WorkDone) : Type 0 where
  pub text : (j : ℕ) → P (touch_of Fetch (text_line l j))
  pub stack : (i : ℕ) → i < 2 → P (touch_of Store (line_of l l.stack i))
  pub data_frame : (j : ℕ) → P (touch_of Store (line_of l l.data_frame (j % lines_in_frame l)))
  pub shared : is_of_switch w.op ≡ false → P (touch_of Load (shared_line l (w.op % shared_lines l)))
  pub zeroed : (frame i : ℕ) → w.zeroed ≡ Some frame → i < lines_in_frame l
      → P (touch_of Store (line_of l frame i))
  pub entries : (k : ℕ) → k < length w.entries → P (touch_of Store (slice_index w.entries k / l.line))

all_text : (P : LineTouch → Type 0) (l : Layout) (w : WorkDone) → OfEach P l w → All P (text_touches l w.op)
unfolding text_touches
all_text P l w each =
    all_range P (λ i. touch_of Fetch (text_line l ((4 * w.op + i) % (2 * lines_in_frame l)))) 4
    (λ i _. each.text ((4 * w.op + i) % (2 * lines_in_frame l)))

all_stack : (P : LineTouch → Type 0) (l : Layout) (w : WorkDone) → OfEach P l w → All P (stack_touches l)
unfolding stack_touches
all_stack P l w each = all_range P (λ i. touch_of Store (line_of l l.stack i)) 2 each.stack

all_data : (P : LineTouch → Type 0) (l : Layout) (w : WorkDone) → OfEach P l w → All P (data_touches l w.op)
unfolding data_touches
all_data P l w each =
    all_range P (λ i. touch_of Store (line_of l l.data_frame ((2 * w.op + i) % lines_in_frame l))) (data_count w.op)
    (λ i _. each.data_frame (2 * w.op + i))

all_one : (P : LineTouch → Type 0) (t : LineTouch) → P t → All P (t ∷ [])
all_one P t p = λ k d lt. let first : k ≡ 0 = omega (arith, lt) in rw first p

all_shared : (P : LineTouch → Type 0) (l : Layout) (w : WorkDone) → OfEach P l w
    → All P (shared_touches l w.op)
unfolding shared_touches
all_shared P l w each =
    elim (is_of_switch w.op) as
    (λ b. is_of_switch w.op ≡ b
    → All P (if b then [] else touch_of Load (shared_line l (w.op % shared_lines l)) ∷ [])) [
      | true ↦ λ _. λ k d lt. absurd (omega (arith, lt))
      | false ↦ λ call. all_one P (touch_of Load (shared_line l (w.op % shared_lines l))) (each.shared call)
    ] refl

all_zeroed : (P : LineTouch → Type 0) (l : Layout) (w : WorkDone) → OfEach P l w → (zeroed : Option ℕ)
    → w.zeroed ≡ zeroed → All P (zeroed_touches l zeroed)
unfolding zeroed_touches
all_zeroed P l w each None is = λ k d lt. absurd (omega (arith, lt))
all_zeroed P l w each (Some frame) is =
    all_range P (λ i. touch_of Store (line_of l frame i)) (lines_in_frame l) (λ i lt. each.zeroed frame i is lt)

all_entries : (P : LineTouch → Type 0) (l : Layout) (w : WorkDone) → OfEach P l w
    → All P (entry_touches l w.entries)
unfolding entry_touches
all_entries P l w each = λ k d lt.
    let below : k < length w.entries = subst (λ (m : ℕ). k < m) (length-map w.entries (λ at. touch_of Store (at / l.line))) lt in
    subst P (sym (get_or-map (λ at. touch_of Store (at / l.line)) w.entries k 0 d below)) (each.entries k below)

pub all_touches : (P : LineTouch → Type 0) (l : Layout) (w : WorkDone) → OfEach P l w → All P (touches l w)
unfolding touches
all_touches P l w each =
    All-append P (text_touches l w.op) (stack_touches l ++ (data_touches l w.op ++ (shared_touches l w.op ++ written_touches l w)))
    (all_text P l w each)
    (All-append P (stack_touches l) (data_touches l w.op ++ (shared_touches l w.op ++ written_touches l w)) (all_stack P l w each)
    (All-append P (data_touches l w.op) (shared_touches l w.op ++ written_touches l w) (all_data P l w each)
    (All-append P (shared_touches l w.op) (written_touches l w) (all_shared P l w each)
    (All-append P (zeroed_touches l w.zeroed) (entry_touches l w.entries)
    (all_zeroed P l w each w.zeroed refl) (all_entries P l w each)))))

-- ---- where touches are

few_lines : (l : Layout) → IsLayout l → (i : ℕ) → i < 2 → i < lines_in_frame l
few_lines l is i lt = let many = many_lines l is in omega (arith, lt, many)

some_shared_lines : (l : Layout) → IsLayout l → 0 < shared_lines l
some_shared_lines l is =
    let least = is.least_line in
    let whole : 1 * l.line ≤ l.shared = (let some = is.some_shared in omega (arith, some)) in
    le-div 1 l.shared l.line (omega (arith, least)) whole

pub placed : (l : Layout) (w : WorkDone) → IsLayout l → All (λ t. IsPlaced l w t.kind t.line) (touches l w)
placed l w is = all_touches (λ t. IsPlaced l w t.kind t.line) l w (record {
  text = λ j. text_frame l j is;
  stack = λ i lt. inl (frame_of-line_of l l.stack i (few_lines l is i lt));
  data_frame = λ j. inr (inl (frame_of-line_of l l.data_frame (j % lines_in_frame l) (mod_below j (lines_in_frame l) (some_lines l is))));
  shared = λ call. record {
    shared = (w.op % shared_lines l, mod_below w.op (shared_lines l) (some_shared_lines l is), refl);
    colour =
        ap (λ (f : ℕ). f % l.colours) (shared_frame l (w.op % shared_lines l) is)
        ∙ mul-mod_left (w.op % shared_lines l / lines_in_frame l) l.colours;
    call = call;
  };
  zeroed = λ frame i z lt. inr (inr (inl (z ∙ ap Some (sym (frame_of-line_of l frame i lt)))));
  entries = λ k lt. inr (inr (inr (k, lt, refl)));
})

pub stored : (own : ℕ → Bool) (l : Layout) (w : WorkDone) → IsLayout l → MayStore own l w
    → All (StoresIn own l) (touches l w)
stored own l w is may = all_touches (StoresIn own l) l w (record {
  text = λ j e. cc;
  stack = λ i lt _. ap own (frame_of-line_of l l.stack i (few_lines l is i lt)) ∙ may.stack;
  data_frame =
      λ j _. ap own (frame_of-line_of l l.data_frame (j % lines_in_frame l)
      (mod_below j (lines_in_frame l) (some_lines l is))) ∙ may.data_frame;
  shared = λ call e. cc;
  zeroed = λ frame i z lt _. ap own (frame_of-line_of l frame i lt) ∙ may.zeroed frame z;
  entries = λ k lt _. ap own (entry_frame l (slice_index w.entries k) is) ∙ may.entries k lt;
})

pub no_load : (l : Layout) (w : WorkDone) → is_of_switch w.op ≡ true → All (λ t. t.kind ≢ Load) (touches l w)
no_load l w switch = all_touches (λ t. t.kind ≢ Load) l w (record {
  text = λ j e. cc;
  stack = λ i lt e. cc;
  data_frame = λ j e. cc;
  shared = λ call. absurd (true≢false (sym switch ∙ call));
  zeroed = λ frame i z lt e. cc;
  entries = λ k lt e. cc;
})

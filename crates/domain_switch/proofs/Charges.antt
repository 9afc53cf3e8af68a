-- Charges one after the other.
use Rattle.std.proofs.Common.{◌≡◌, ◌∙◌, sym, ap, subst, refl, arith, ℕ, zero, suc, ◌+◌, ◌*◌, ◌%◌, ◌≤◌, List, [], ◌∷◌, ◌++◌, length, map, take, take_all, Option, Some, None}
use Rattle.std.specs.Prelude.{Bool, if◌then◌else◌, slice_get}
use Rattle.std.specs.List.{range_with_len}
use Rattle.std.proofs.lemmas.List.{take_more, map-append, append-nil, append_assoc}
use Rattle.std.proofs.lemmas.List.FromFn.{map-range_with_len_more}
use Rattle.std.proofs.lemmas.Nat.{mul-le}
use Rattle.std.proofs.Math.Nat.{div-mul-le_self}
use Rattle.std.proofs.lemmas.Option.{slice_get_within, get_or_from_slice_get}
use Rattle.set_cache.specs.Rule.{Rule}
use Rattle.cycle_cost.specs.Costs.{CostTable}
use Rattle.kernel_clone.specs.Footprints.{Layout, WorkDone, LineTouch, IsLayout, lines_in_frame, line_of, touch_of, run_of, touches, text_touches, stack_touches, data_touches, shared_touches, own_touches, zeroed_touches, entry_touches, written_touches, shared_line, shared_lines, leave_op, enter_op}
use Rattle.kernel_clone.specs.Laws.{shared_count}
use Rattle.kernel_clone.specs.declared.Kind.TheVariants as kind
use Rattle.kernel_clone.proofs.Items.{touches_parts}
use Rattle.kernel_clone.proofs.Runs.{zeroed_run, loaded_run, shared_next}
use Rattle.mem_system.specs.Cost.{Touch, Load, EmptyTlb, Flush, Charge, touched, on_core, pass_on, below_all}
use Rattle.mem_system.specs.Contents.{SystemContents, MakesTouch, MakesTouches}
use Rattle.mem_system.proofs.Touches.{makes_none, makes_one, makes_then}
use Rattle.mem_system.specs.Operations.{touch_by, touch_of_line, footprint, operation, shared_region, prefetch, leave, leave_if, enter, switch_by, plain}

-- ---- how many lines

-- the shared region
pub few_shared : (l : Layout) → IsLayout l → shared_lines l ≤ 4096
few_shared l is =
    let whole : shared_lines l * l.line ≤ l.shared = div-mul-le_self l.shared l.line in
    let least : shared_lines l * 16 ≤ shared_lines l * l.line =
    mul-le (shared_lines l) 16 (shared_lines l) l.line (omega arith) is.least_line in
    omega (arith, whole, least, is.most_shared)

module _ {P : Type 0} (rule : P → ℕ → Rule) (stands : P → ℕ → ℕ → List ℕ → Type 0) where
  -- ---- a footprint

  -- the first touches of a list
  abbrev pub Front : List LineTouch → ℕ → ℕ → SystemContents P → SystemContents P → Type 0
  Front ts place a old new = MakesTouches rule stands (map touch_of_line (take place ts)) a old new

  pub front_none : (ts : List LineTouch) (kept : SystemContents P) → Front ts 0 0 kept kept
  front_none ts kept = makes_none rule stands kept

  pub front_more : (ts : List LineTouch) (place a b : ℕ) (t : LineTouch) (old middle new : SystemContents P)
      → slice_get ts place ≡ Some t → Front ts place a old middle → MakesTouch rule stands (touch_by t.kind t.line) b middle new
      → Front ts (place + 1) (a + b) old new
  front_more ts place a b t old middle new is before touch =
      let more : take (place + 1) ts ≡ take place ts ++ t ∷ [] =
      take_more ts place t (slice_get_within ts place t is)
      ∙ ap (λ (one : LineTouch). take place ts ++ one ∷ []) (get_or_from_slice_get ts place t t is) in
      let all : map touch_of_line (take (place + 1) ts) ≡ map touch_of_line (take place ts) ++ touch_by t.kind t.line ∷ [] =
      ap (map touch_of_line) more ∙ map-append touch_of_line (take place ts) (t ∷ []) in
      subst (λ (us : List Touch). MakesTouches rule stands us (a + b) old new) (sym all)
      (makes_then rule stands (map touch_of_line (take place ts)) (touch_by t.kind t.line ∷ []) a b old middle new before
      (makes_one rule stands (touch_by t.kind t.line) b middle new touch))

  pub front_all : (ts : List LineTouch) (count a : ℕ) (old new : SystemContents P) → length ts ≤ count
      → Front ts count a old new
      → MakesTouches rule stands (map touch_of_line ts) a old new
  front_all ts count a old new whole all =
      subst (λ (us : List LineTouch). MakesTouches rule stands (map touch_of_line us) a old new) (take_all count ts whole) all

  pub zeroed_none : (l : Layout) (zeroed : Option ℕ) (kept : SystemContents P) → zeroed ≡ None
      → MakesTouches rule stands (map touch_of_line (zeroed_touches l zeroed)) 0 kept kept
  unfolding zeroed_touches
  zeroed_none l zeroed kept is =
      subst (λ (z : Option ℕ). MakesTouches rule stands (map touch_of_line (zeroed_touches l z)) 0 kept kept)
      (sym is) (makes_none rule stands kept)

  pub zeroed_some : (l : Layout) (zeroed : Option ℕ) (frame first a : ℕ) (old new : SystemContents P)
      → zeroed ≡ Some frame → first ≡ line_of l frame 0
      → MakesTouches rule stands (map touch_of_line (run_of kind.Store first (lines_in_frame l))) a old new
      → MakesTouches rule stands (map touch_of_line (zeroed_touches l zeroed)) a old new
  zeroed_some l zeroed frame first a old new is at all =
      let same : zeroed_touches l zeroed ≡ run_of kind.Store first (lines_in_frame l) =
      ap (zeroed_touches l) is ∙ (zeroed_run l frame ∙ ap (λ (n : ℕ). run_of kind.Store n (lines_in_frame l)) (sym at)) in
      subst (λ (ts : List LineTouch). MakesTouches rule stands (map touch_of_line ts) a old new) (sym same) all

  -- of a switch
  pub loaded_none : (l : Layout) (op count : ℕ) (kept : SystemContents P) → count ≡ shared_count op
      → count ≡ 0
      → MakesTouches rule stands (map touch_of_line (shared_touches l op)) 0 kept kept
  unfolding run_of
  loaded_none l op count kept is none =
      let same : shared_touches l op ≡ [] =
      loaded_run l op ∙ ap (run_of kind.Load (shared_line l (op % shared_lines l))) (sym is ∙ none) in
      subst (λ (ts : List LineTouch). MakesTouches rule stands (map touch_of_line ts) 0 kept kept) (sym same) (makes_none rule stands kept)

  joined : (xs ys : List LineTouch) (a b : ℕ) (old middle new : SystemContents P)
      → MakesTouches rule stands (map touch_of_line xs) a old middle → MakesTouches rule stands (map touch_of_line ys) b middle new
      → MakesTouches rule stands (map touch_of_line (xs ++ ys)) (a + b) old new
  joined xs ys a b old middle new one two =
      subst (λ (us : List Touch). MakesTouches rule stands us (a + b) old new) (sym (map-append touch_of_line xs ys))
      (makes_then rule stands (map touch_of_line xs) (map touch_of_line ys) a b old middle new one two)

  -- the text, the stack, the data and the shared line
  pub own_made : (l : Layout) (op : ℕ) (text stack stored : List LineTouch) (a b c d : ℕ)
      (old one two three new : SystemContents P)
      → text_touches l op ≡ text → stack_touches l ≡ stack → data_touches l op ≡ stored
      → MakesTouches rule stands (map touch_of_line text) a old one
      → MakesTouches rule stands (map touch_of_line stack) b one two
      → MakesTouches rule stands (map touch_of_line stored) c two three
      → MakesTouches rule stands (map touch_of_line (shared_touches l op)) d three new
      → MakesTouches rule stands (map touch_of_line (own_touches l op)) (a + b + c + d) old new
  unfolding own_touches
  own_made l op text stack stored a b c d old one two three new is_text is_stack is_stored first second third fourth =
      let sum : a + (b + (c + d)) ≡ a + b + c + d = omega arith in
      let loaded : List LineTouch = shared_touches l op in
      rw (is_text, is_stack, is_stored)
      (subst (λ (n : ℕ). MakesTouches rule stands (map touch_of_line (text ++ (stack ++ (stored ++ loaded)))) n old new) sum
      (joined text (stack ++ (stored ++ loaded)) a (b + (c + d)) old one new first
      (joined stack (stored ++ loaded) b (c + d) one two new second
      (joined stored loaded c d two three new third fourth))))

  -- the operation's own lines, the zeroed frame's, and those of the entries
  pub footprint_made : (l : Layout) (w : WorkDone) (a b c : ℕ) (old one two new : SystemContents P)
      → MakesTouches rule stands (map touch_of_line (own_touches l w.op)) a old one
      → MakesTouches rule stands (map touch_of_line (zeroed_touches l w.zeroed)) b one two
      → MakesTouches rule stands (map touch_of_line (entry_touches l w.entries)) c two new
      → MakesTouches rule stands (footprint l w) (a + b + c) old new
  unfolding footprint
  footprint_made l w a b c old one two new own zeroed entries =
      let whole : map touch_of_line (touches l w)
      ≡ map touch_of_line (own_touches l w.op)
      ++ (map touch_of_line (zeroed_touches l w.zeroed) ++ map touch_of_line (entry_touches l w.entries)) =
      ap (map touch_of_line) (touches_parts l w)
      ∙ map-append touch_of_line (own_touches l w.op) (written_touches l w)
      ∙ ap (λ (us : List Touch). map touch_of_line (own_touches l w.op) ++ us)
      (map-append touch_of_line (zeroed_touches l w.zeroed) (entry_touches l w.entries)) in
      let sum : a + (b + c) ≡ a + b + c = omega arith in
      subst (λ (us : List Touch). MakesTouches rule stands us (a + b + c) old new) (sym whole)
      (subst (λ (n : ℕ). MakesTouches rule stands
      (map touch_of_line (own_touches l w.op)
      ++ (map touch_of_line (zeroed_touches l w.zeroed)
      ++ map touch_of_line (entry_touches l w.entries))) n old new) sum
      (makes_then rule stands (map touch_of_line (own_touches l w.op))
      (map touch_of_line (zeroed_touches l w.zeroed) ++ map touch_of_line (entry_touches l w.entries)) a
      (b + c) old one new own
      (makes_then rule stands (map touch_of_line (zeroed_touches l w.zeroed))
      (map touch_of_line (entry_touches l w.entries)) b c one two new zeroed entries)))

  -- an operation that writes nothing beside its own work
  pub plain_made : (l : Layout) (op a : ℕ) (old new : SystemContents P)
      → MakesTouches rule stands (map touch_of_line (own_touches l op)) a old new
      → MakesTouches rule stands (footprint l (plain op)) a old new
  unfolding footprint zeroed_touches entry_touches
  plain_made l op a old new made =
      let same : touches l (plain op) ≡ own_touches l op = touches_parts l (plain op) ∙ append-nil (own_touches l op) in
      subst (λ (ts : List LineTouch). MakesTouches rule stands (map touch_of_line ts) a old new) (sym same) made

  -- ---- an operation

  charges : (cycles : ℕ) (kept : SystemContents P) → MakesTouch rule stands (Charge cycles) cycles kept kept
  unfolding touched on_core pass_on below_all
  charges cycles kept = record { same = refl; pinned = refl; steps = λ caches for. record { cost = omega arith; next = for } }

  pub operation_made : (costs : CostTable) (l : Layout) (w : WorkDone) (trap a : ℕ)
      (old new : SystemContents P) → trap ≡ costs.trap
      → MakesTouches rule stands (footprint l w) a old new → MakesTouches rule stands (operation costs l w) (trap + a) old new
  unfolding operation
  operation_made costs l w trap a old new is made =
      subst (λ (t : ℕ). MakesTouches rule stands (Charge t ∷ footprint l w) (trap + a) old new) is
      (makes_then rule stands (Charge trap ∷ []) (footprint l w) trap a old old new
      (makes_one rule stands (Charge trap) trap old old (charges trap old)) made)

  -- ---- the prefetch

  pub loads_none : (l : Layout) (kept : SystemContents P)
      → MakesTouches rule stands (prefetch (map (shared_line l) (range_with_len 0 0))) 0 kept kept
  unfolding prefetch
  loads_none l kept = makes_none rule stands kept

  -- lines of one frame more
  loads_region : (l : Layout) (place n : ℕ) → place % lines_in_frame l ≡ 0 → n ≤ lines_in_frame l
      → prefetch (map (shared_line l) (range_with_len 0 (place + n)))
      ≡ prefetch (map (shared_line l) (range_with_len 0 place)) ++ map touch_of_line (run_of kind.Load (shared_line l place) n)
  unfolding prefetch run_of
  loads_region l place zero starts few =
      let same : place + 0 ≡ place = omega arith in
      ap (λ (m : ℕ). map Load (map (shared_line l) (range_with_len 0 m))) same
      ∙ sym (append-nil (map Load (map (shared_line l) (range_with_len 0 place))))
  loads_region l place (suc n) starts few =
      let lines : ℕ → List ℕ = λ m. map (shared_line l) (range_with_len 0 m) in
      let run : ℕ → List LineTouch = λ m. map (λ i. touch_of kind.Load (shared_line l place + i)) (range_with_len 0 m) in
      let line : ℕ = shared_line l (place + n) in
      let next : line ≡ shared_line l place + n = shared_next l place n starts (omega (arith, few)) in
      let sum : place + suc n ≡ place + n + 1 = omega arith in
      let more : suc n ≡ n + 1 = omega arith in
      let last : 0 + n ≡ n = omega arith in
      let left : lines (place + suc n) ≡ lines (place + n) ++ line ∷ [] =
      ap lines sum ∙ map-range_with_len_more (shared_line l) 0 (place + n) (place + n) (omega arith) in
      let right : run (suc n) ≡ run n ++ touch_of kind.Load line ∷ [] =
      ap run more ∙ map-range_with_len_more (λ i. touch_of kind.Load (shared_line l place + i)) 0 n n last
      ∙ ap (λ (m : ℕ). run n ++ touch_of kind.Load m ∷ []) (sym next) in
      let before : map Load (lines (place + n)) ≡ map Load (lines place) ++ map touch_of_line (run n) =
      loads_region l place n starts (omega (arith, few)) in
      ap (map Load) left ∙ map-append Load (lines (place + n)) (line ∷ [])
      ∙ ap (λ (us : List Touch). us ++ Load line ∷ []) before
      ∙ append_assoc (map Load (lines place)) (map touch_of_line (run n)) (Load line ∷ [])
      ∙ ap (λ (us : List Touch). map Load (lines place) ++ us)
      (sym (ap (map touch_of_line) right ∙ map-append touch_of_line (run n) (touch_of kind.Load line ∷ [])))

  pub loads_more : (l : Layout) (place n a b first : ℕ) (old middle new : SystemContents P)
      → first ≡ shared_line l place
      → place % lines_in_frame l ≡ 0 → n ≤ lines_in_frame l
      → MakesTouches rule stands (prefetch (map (shared_line l) (range_with_len 0 place))) a old middle
      → MakesTouches rule stands (map touch_of_line (run_of kind.Load first n)) b middle new
      → MakesTouches rule stands (prefetch (map (shared_line l) (range_with_len 0 (place + n)))) (a + b) old new
  loads_more l place n a b first old middle new is starts few before run =
      subst (λ (us : List Touch). MakesTouches rule stands us (a + b) old new) (sym (loads_region l place n starts few))
      (makes_then rule stands (prefetch (map (shared_line l) (range_with_len 0 place)))
      (map touch_of_line (run_of kind.Load (shared_line l place) n)) a b old middle new before
      (subst (λ (m : ℕ). MakesTouches rule stands (map touch_of_line (run_of kind.Load m n)) b middle new) is run))

  pub loads_all : (l : Layout) (count a : ℕ) (old new : SystemContents P) → count ≡ shared_lines l
      → MakesTouches rule stands (prefetch (map (shared_line l) (range_with_len 0 count))) a old new
      → MakesTouches rule stands (prefetch (shared_region l)) a old new
  unfolding shared_region
  loads_all l count a old new whole all =
      subst (λ (n : ℕ).
      MakesTouches rule stands (prefetch (map (shared_line l) (range_with_len 0 n))) a old new) whole all

  -- ---- a switch

  pub leaves : (costs : CostTable) (l : Layout) (trap a : ℕ) (old new : SystemContents P) → trap ≡ costs.trap
      → MakesTouches rule stands (map touch_of_line (own_touches l leave_op)) a old new
      → MakesTouches rule stands (leave costs l) (trap + a) old new
  unfolding leave
  leaves costs l trap a old new is made = operation_made costs l (plain leave_op) trap a old new is (plain_made l leave_op a old new made)

  pub leaves_some : (costs : CostTable) (l : Layout) (out : Option Layout) (a : ℕ)
      (old new : SystemContents P) → out ≡ Some l
      → MakesTouches rule stands (leave costs l) a old new → MakesTouches rule stands (leave_if costs out) a old new
  unfolding leave_if
  leaves_some costs l out a old new is made =
      subst (λ (o : Option Layout). MakesTouches rule stands (leave_if costs o) a old new) (sym is) made

  pub leaves_none : (costs : CostTable) (out : Option Layout) (kept : SystemContents P) → out ≡ None
      → MakesTouches rule stands (leave_if costs out) 0 kept kept
  unfolding leave_if
  leaves_none costs out kept is =
      subst (λ (o : Option Layout). MakesTouches rule stands (leave_if costs o) 0 kept kept) (sym is)
      (makes_none rule stands kept)

  pub enters : (l : Layout) (a : ℕ) (old new : SystemContents P)
      → MakesTouches rule stands (map touch_of_line (own_touches l enter_op)) a old new → MakesTouches rule stands (enter l) a old new
  unfolding enter
  enters l a old new made = plain_made l enter_op a old new made

  pub switch_made : (loads flushes : Bool) (costs : CostTable) (out : Option Layout) (into : Layout)
      (a b f e : ℕ) (old left loaded fresh new : SystemContents P)
      → let region = if loads then prefetch (shared_region into) else [] in
      let emptied = if flushes then Flush else EmptyTlb in
      MakesTouches rule stands (leave_if costs out) a old left → MakesTouches rule stands region b left loaded
      → MakesTouch rule stands emptied f loaded fresh → MakesTouches rule stands (enter into) e fresh new
      → MakesTouches rule stands (switch_by loads flushes costs out into) (a + b + f + e) old new
  unfolding switch_by
  switch_made loads flushes costs out into a b f e old left loaded fresh new leaves loading flushing enters =
      let region : List Touch = if loads then prefetch (shared_region into) else [] in
      let emptied : Touch = if flushes then Flush else EmptyTlb in
      subst (λ (n : ℕ).
      MakesTouches rule stands (leave_if costs out ++ (region ++ (emptied ∷ enter into))) n old new)
      (let e : a + (b + (f + e)) ≡ a + b + f + e = omega arith in e)
      (makes_then rule stands (leave_if costs out) (region ++ (emptied ∷ enter into)) a (b + (f + e)) old left new leaves
      (makes_then rule stands region (emptied ∷ enter into) b (f + e) left loaded new loading
      (makes_then rule stands (emptied ∷ []) (enter into) f e loaded fresh new
      (makes_one rule stands emptied f loaded fresh flushing) enters)))

-- Translations, loads and stores, of the code and of the definitions.
use Rattle.std.proofs.Common.{◌≡◌, ◌≢◌, ◌⊎◌, ℕ, ◌+◌, ◌*◌, ◌/◌, ◌%◌, List, inl, inr, Some, None, Result, Ok, Err, refl, sym, ap, ap₂, subst, subst₂, ◌∙◌, arith}
use Rattle.phys_mem.specs.Address.{frame_of, word_place}
use Rattle.phys_mem.specs.Contents.{Contents}
use Rattle.phys_mem.specs.Holds.{Holds}
use Rattle.phys_mem.specs.Mem.{Mem, word, written, word-written_frame}
use Rattle.page_map.specs.Reached.{SameTables}
use Rattle.page_map.proofs.ReachLemmas.{same_beside}
use Rattle.page_map.proofs.WalkLemmas.{walk_by_tables}
use Rattle.set_cache.specs.Rule.{Rule}
use Rattle.cap_table.specs.Slots.{Slots}
use Rattle.rv_core.specs.Memory.{load_size}
use Rattle.rv_core.specs.declared.Store.{Store as StoreMade}
use Rattle.rv_core.specs.declared.Trap.{Trap}
use Rattle.rv_core.specs.Exceptions.{code_of}
use Rattle.rv_decode.specs.declared.LoadWidth.{LoadWidth}
use Rattle.rv_decode.specs.declared.LoadWidth.TheVariants.{Byte, Half, Word, ByteUnsigned, HalfUnsigned}
use Rattle.sv32_walk.specs.declared.access.Access.{Access}
use Rattle.sv32_walk.specs.declared.access.Access.TheVariants as access
use Rattle.sv32_walk.specs.declared.access.WalkFault.{WalkFault}
use Rattle.sv32_walk.specs.PageTableEntry.{ppn}
use Rattle.sv32_walk.specs.Walk.{Walk, walk}
use Rattle.tlb_model.specs.Buffer.{Buffer}
use Rattle.mem_system.specs.Hierarchy.{Hierarchy}
use Rattle.mem_system.specs.Cost.{Touch, Touched, Load, Store as StoreTouch}
use Rattle.mem_system.specs.Contents.{SystemContents, MakesTouch}
use Rattle.mem_system.specs.Translation as translation
use Rattle.mem_system.specs.Translation.{KeepsLeaves, look_of}
use Rattle.mem_system.proofs.Leaves.{keeps_by}
use Rattle.call_table.specs.Domain.{Dom}
use Rattle.call_table.proofs.TablesMeaning as tables
use Rattle.world_view.specs.Kernel.{estate, no_dom}
use Rattle.world_view.specs.Instruction.{trapped, stopped}
use Rattle.world_view.specs.Event.{Storage, Act, fault_of, frame_or_stop, translate, place, address_in, line_in, part_of_word, stored_in, load, store}
use Rattle.world_view.specs.Relations.{HasFacts}
use Rattle.world_view.proofs.actions.TableLaws.{IsPage, Walkable, walkable, own_page}
use Rattle.world_view.proofs.steps.CodeLaws.{translate_value}
use Rattle.world_view.specs.Machine.{Setting}
use Rattle.domain_step.specs.Kept.{Fits, charged, after, Kept}
use Rattle.domain_step.specs.Moves.{Yields, Answered, end_of}
use Rattle.domain_step.proofs.Charges.{touch_kept}
use Rattle.domain_step.proofs.Yields.{yields_rules, y_found, y_faults}

-- ---- alignment

-- an address is as aligned as its last two bits
pub load_aligned : (width : LoadWidth) (a b : ℕ) → a % 4096 ≡ b % 4096 → b % load_size width ≡ 0
    → a % load_size width ≡ 0
load_aligned Byte a b e h = omega arith
load_aligned Half a b e h = omega arith
load_aligned Word a b e h = omega arith
load_aligned ByteUnsigned a b e h = omega arith
load_aligned HalfUnsigned a b e h = omega arith

abbrev IsSize : ℕ → Type 0
IsSize size = (size ≡ 1) ⊎ ((size ≡ 2) ⊎ (size ≡ 4))

pub store_aligned : (size a b : ℕ) → IsSize size → a % 4096 ≡ b % 4096 → b % size ≡ 0 → a % size ≡ 0
store_aligned size a b (inl one) e h = subst (λ (n : ℕ). a % n ≡ 0) (sym one) (omega arith)
store_aligned size a b (inr (inl two)) e h =
    let even : b % 2 ≡ 0 = subst (λ (n : ℕ). b % n ≡ 0) two h in
    subst (λ (n : ℕ). a % n ≡ 0) (sym two) (omega arith)
store_aligned size a b (inr (inr four)) e h =
    let by_four : b % 4 ≡ 0 = subst (λ (n : ℕ). b % n ≡ 0) four h in
    subst (λ (n : ℕ). a % n ≡ 0) (sym four) (omega arith)

-- a size that is neither 1 nor 2
pub stored_four : (size : ℕ) → IsSize size → size ≢ 1 → size ≢ 2 → size ≡ 4
stored_four size (inl one) a b = absurd (a one)
stored_four size (inr (inl two)) a b = absurd (b two)
stored_four size (inr (inr four)) a b = four

-- ---- addresses

module _ (at va : ℕ) (e : at % 4096 ≡ va % 4096) where
  -- an address with the last digits of another is in a frame where that other one lies there
  pub address_there : at ≡ address_in (at / 4096) va
  unfolding address_in
  address_there = omega (arith, e)

  pub place_there : word_place at ≡ place va
  place_there = ap (λ (n : ℕ). n / 4) e

  pub low_there : at % 4 ≡ va % 4
  low_there = omega (arith, e)

module _ {P : Type 0} (rule : P → ℕ → Rule) (w : Setting) (memory : Contents)
    (system : SystemContents P) (fits : Fits rule w memory system) where
  pub same_line : w.machine.line ≡ system.l2.line_size
  same_line = fits.sound.line ∙ ap (λ (h : Hierarchy). h.line_size) fits.levels

  -- and so is its line
  pub line_there : (at va line : ℕ) → at % 4096 ≡ va % 4096 → line ≡ at / system.l2.line_size
      → line ≡ line_in w.machine (at / 4096) va
  unfolding line_in
  line_there at va line e is =
      is ∙ ap₂ (λ (a n : ℕ). a / n) (address_there at va e) (sym same_line)

-- ---- what is kept

-- a domain of which only the capabilities are known
abbrev pub dom_of : Slots → Dom
dom_of caps = record no_dom { caps = caps }

inr-is : {A B : Type 0} {a b : B} → ◌≡◌ {A = A ⊎ B} (inr a) (inr b) → a ≡ b
inr-is e = cc

inl-inr : {A B : Type 0} {a : A} {b : B} → ◌≢◌ {A = A ⊎ B} (inl a) (inr b)
inl-inr e = cc

module _ {P : Type 0} (rule : P → ℕ → Rule) (stands : P → ℕ → ℕ → List ℕ → Type 0) (w : Setting)
    (caps : Slots) (root : ℕ) (memory : Contents) where
  -- what the code keeps of this memory, with this hierarchy and so many cycles spent
  abbrev Keeps : SystemContents P → ℕ → Storage → Touched → Type 0
  Keeps system spent = Kept rule stands w caps root memory system spent

  -- in each memory that this one stands for, where the buffer's leaves are its walks'
  abbrev Wherever : SystemContents P → (Mem → Type 0) → Type 0
  Wherever system Q =
      (m : Mem) → Holds memory m → KeepsLeaves m memory.frames root system.core.tlb → Q m

  -- the look-up of an address, by the walk in so many frames
  abbrev look_in : ℕ → Access → ℕ → Mem → ℕ → Touch
  look_in line a va m frames = look_of line va (walk m frames root va a)

  -- the buffer may keep another leaf after a look-up
  pub looked : (a : Access) (va spent spent' cycles : ℕ) (old new : SystemContents P)
      (s : Storage) (r : Touched)
      → Keeps old spent s r → spent' ≡ spent + cycles
      → Wherever old (λ m.
      MakesTouch rule stands (look_in old.l2.line_size a va m memory.frames) cycles old new)
      → Wherever old (λ m. KeepsLeaves m memory.frames root new.core.tlb)
      → Keeps new spent' s (charged w r (look_in w.machine.line a va s.mem w.machine.frames))
  looked a va spent spent' cycles old new s r k more makes keeps =
      let look = look_in w.machine.line a va s.mem w.machine.frames in
      let Makes : ℕ → ℕ → Type 0 =
      λ line frames. MakesTouch rule stands (look_in line a va s.mem frames) cycles old new in
      let there : MakesTouch rule stands look cycles old new =
      subst₂ Makes (sym (same_line rule w memory old k.fits)) (sym k.fits.frames)
      (makes s.mem k.holds k.leaves) in
      touch_kept rule stands w memory old new look caps root spent spent' cycles s r there more
      (keeps s.mem k.holds k.leaves) k

  -- what a walk in so many frames answers
  abbrev answer_in : Access → ℕ → Mem → ℕ → Result ℕ WalkFault
  answer_in a va m frames = translation.translated va (walk m frames root va a).result

  -- and answers by the walk
  pub walk_there : (a : Access) (va spent : ℕ) (result : Result ℕ WalkFault) (old : SystemContents P)
      (s : Storage) (r : Touched)
      → Keeps old spent s r → Wherever old (λ m. result ≡ answer_in a va m memory.frames)
      → result ≡ answer_in a va s.mem w.machine.frames
  walk_there a va spent result old s r k is =
      is s.mem k.holds k.leaves ∙ ap (answer_in a va s.mem) (sym k.fits.frames)

  -- any other touch leaves the buffer as it was: of the line of an address
  pub line_kept : (touch : ℕ → Touch) (at va line spent spent' cycles : ℕ) (old new : SystemContents P)
      (s : Storage) (r : Touched)
      → at % 4096 ≡ va % 4096 → line ≡ at / old.l2.line_size
      → MakesTouch rule stands (touch line) cycles old new → new.core.tlb ≡ old.core.tlb
      → spent' ≡ spent + cycles → Keeps old spent s r
      → Keeps new spent' s (charged w r (touch (line_in w.machine (at / 4096) va)))
  line_kept touch at va line spent spent' cycles old new s r e is makes buffer more k =
      let here : ℕ = line_in w.machine (at / 4096) va in
      let there : MakesTouch rule stands (touch here) cycles old new =
      subst (λ (n : ℕ). MakesTouch rule stands (touch n) cycles old new)
      (line_there rule w memory old k.fits at va line e is) makes in
      let leaves : KeepsLeaves s.mem memory.frames root new.core.tlb =
      subst (λ (b : Buffer P). KeepsLeaves s.mem memory.frames root b) (sym buffer) k.leaves in
      touch_kept rule stands w memory old new (touch here) caps root spent spent' cycles s r there more
      leaves k

  -- a frame is a page of the domain's
  abbrev IsItsPage : Mem → ℕ → Type 0
  IsItsPage m f = IsPage w.machine w.own (dom_of caps) m f

  facts_of : (system : SystemContents P) (spent : ℕ) (s : Storage) (r : Touched) → Keeps system spent s r
      → HasFacts w.machine w.own (dom_of caps) s
  facts_of system spent s r k = record { slots = k.slots; facts = k.facts }

  -- a store to a page changes no walk
  pub stored_kept : (memory' : Contents) (system : SystemContents P) (spent f i v : ℕ)
      (s : Storage) (r : Touched)
      → IsItsPage s.mem f → memory'.frames ≡ memory.frames → Holds memory' (written s.mem f i v)
      → Keeps system spent s r
      → Kept rule stands w caps root memory' system spent (record s { mem = written s.mem f i v }) r
  stored_kept memory' system spent f i v s r page frames holds k =
      let e = estate w.machine w.own in
      let d = dom_of caps in
      let new = written s.mem f i v in
      let facts = facts_of system spent s r k in
      let same : SameTables s.mem new e.root =
      same_beside s.mem new e.root f page.frame.apart
      (λ g j other. word-written_frame s.mem f i v g j other) in
      let in_memory = (walkable w.machine w.own d s.mem facts).map.in_memory in
      let walks : (at : ℕ) (a : Access)
      → walk new memory.frames root at a ≡ walk s.mem memory.frames root at a =
      λ at a.
      subst₂ (λ (top n : ℕ). walk new n top at a ≡ walk s.mem n top at a) (sym k.tables) k.fits.frames
      (walk_by_tables s.mem new w.machine.frames e.root at a in_memory same) in
      let leaves : KeepsLeaves new memory.frames root system.core.tlb =
      keeps_by s.mem new memory.frames root system.core.tlb
      (λ at leaf a small is. ap (λ (x : Walk). x.result) (walks at a) ∙ is) k.leaves in
      record {
        fits = record {
          kernel = k.fits.kernel;
          sound = k.fits.sound;
          frames = k.fits.frames ∙ sym frames;
          levels = k.fits.levels;
          pinned = k.fits.pinned;
        };
        tables = k.tables;
        slots = k.slots;
        holds = holds;
        facts = (tables.stored e d s.mem facts f i v page.frame).facts;
        leaves = subst (λ (n : ℕ). KeepsLeaves new n root system.core.tlb) (sym frames) leaves;
        cost = k.cost;
        caches = k.caches;
      }

  -- the frame that a walk comes to is a page
  by_walk : (d : Dom) (a : Access) (va f : ℕ) (s : Storage)
      → Walkable w.machine w.own (estate w.machine w.own).root (IsItsPage s.mem) s.mem
      → (x : Result ℕ WalkFault)
      → (walk s.mem w.machine.frames (estate w.machine w.own).root va a).result ≡ x
      → frame_or_stop d a va x ≡ inr f → IsItsPage s.mem f
  unfolding frame_or_stop
  by_walk d a va f s walks (Ok leaf) is same =
      let top : ℕ = (estate w.machine w.own).root in
      subst (IsItsPage s.mem) (inr-is same)
      (own_page w.machine w.own top (IsItsPage s.mem) s.mem walks va a leaf is)
  by_walk d a va f s walks (Err x) is same = absurd (inl-inr same)

  pub found_page : (d : Dom) (a : Access) (va f spent : ℕ) (system : SystemContents P)
      (s : Storage) (r : Touched)
      → Keeps system spent s r → (translate w.machine root d a va s).value ≡ inr f → IsItsPage s.mem f
  found_page d a va f spent system s r k e =
      let top : ℕ = (estate w.machine w.own).root in
      let facts = facts_of system spent s r k in
      let there : (translate w.machine top d a va s).value ≡ inr f =
      subst (λ (n : ℕ). (translate w.machine n d a va s).value ≡ inr f) k.tables e in
      by_walk d a va f s (walkable w.machine w.own (dom_of caps) s.mem facts)
      (walk s.mem w.machine.frames top va a).result refl
      (sym (translate_value w.machine top d a va s _ refl) ∙ there)

-- ---- translation

module _ (w : Setting) (root : ℕ) (d : Dom) (a : Access) (va : ℕ) (s : Storage) (r : Touched)
    (K : Storage → Touched → Type 0)
    (keeps : K s (charged w r (look_of w.machine.line va (walk s.mem w.machine.frames root va a)))) where
  -- the walk, and what the translation ends with
  abbrev walked : Result ℕ WalkFault
  walked = (walk s.mem w.machine.frames root va a).result

  abbrev Translates : Result ℕ Trap → Type 0
  Translates result = Yields w (translate w.machine root d a va) s r (Answered d result K)

  looks : K (translate w.machine root d a va s).state
      (after w r (translate w.machine root d a va s).notes)
  unfolding translate after
  looks = keeps

  frame_is : (at : ℕ) (x : Result ℕ WalkFault) → Ok at ≡ translation.translated va x
      → frame_or_stop d a va x ≡ inr (at / 4096)
  unfolding frame_or_stop
  frame_is at (Ok leaf) e =
      let is : at ≡ ppn leaf * 4096 + va % 4096 = ok-is e in
      ap (λ (n : ℕ). inr n) (omega (arith, is))
    where
      ok-is : {x y : ℕ} → ◌≡◌ {A = Result ℕ WalkFault} (Ok x) (Ok y) → x ≡ y
      ok-is e = cc
  frame_is at (Err fault) e = cc

  -- an address, whose frame is the walk's
  pub translated : (at : ℕ) → Ok at ≡ translation.translated va walked → Translates (Ok (at / 4096))
  translated at is = record {
    met = record {
      value = translate_value w.machine root d a va s _ refl ∙ frame_is at walked is;
      kept = looks;
    };
  }

  stop_is : (fault : WalkFault) (trap : Trap) → trap ≡ record { exception = fault_of a fault; value = va }
      → (x : Result ℕ WalkFault) → Err fault ≡ translation.translated va x
      → frame_or_stop d a va x ≡ end_of d (Err trap)
  unfolding frame_or_stop trapped
  stop_is fault trap same (Ok leaf) e = cc
  stop_is fault trap same (Err x) e =
      let is : fault ≡ x = cc in
      rw (sym is) (ap (λ (y : Trap). inl (stopped (code_of y.exception) y.value d)) (sym same))

  pub faulted : (fault : WalkFault) (trap : Trap) → Err fault ≡ translation.translated va walked
      → trap ≡ record { exception = fault_of a fault; value = va } → Translates (Err trap)
  faulted fault trap is same = record {
    met = record {
      value = translate_value w.machine root d a va s _ refl ∙ stop_is fault trap same walked is;
      kept = looks;
    };
  }

-- ---- a load

module _ {P : Type 0} (rule : P → ℕ → Rule) (stands : P → ℕ → ℕ → List ℕ → Type 0) (w : Setting)
    (caps : Slots) (root : ℕ) (memory : Contents) (d : Dom) (s : Storage) (r : Touched) where
  -- these steps are answered so, and this is kept
  abbrev Comes : {A : Type 0} → Act A → Result A Trap → (Storage → Touched → Type 0) → Type 0
  Comes x result K = Yields w x s r (Answered d result K)

  abbrev KeepsAll : Contents → SystemContents P → ℕ → Storage → Touched → Type 0
  KeepsAll m system spent = Kept rule stands w caps root m system spent

  pub load_faulted : (K : Storage → Touched → Type 0) (width : LoadWidth) (va : ℕ) (trap : Trap)
      → Comes {A = ℕ} (translate w.machine root d access.Load va) (Err trap) K
      → Comes {A = ℕ} (load w.machine root d width va) (Err trap) K
  unfolding load
  load_faulted K width va trap fault = search (yields_rules, y_faults, fault) depth 40

  pub load_found : (width : LoadWidth) (va v at line spent spent' cycles : ℕ) (mid new : SystemContents P)
      → Comes (translate w.machine root d access.Load va) (Ok (at / 4096)) (KeepsAll memory mid spent)
      → at % 4096 ≡ va % 4096 → line ≡ at / mid.l2.line_size
      → MakesTouch rule stands (Load line) cycles mid new → new.core.tlb ≡ mid.core.tlb
      → spent' ≡ spent + cycles
      → ((m : Mem) → Holds memory m
      → v ≡ part_of_word (load_size width) (word m (frame_of at) (word_place at)) (at % 4))
      → Comes (load w.machine root d width va) (Ok v) (KeepsAll memory new spent')
  unfolding load
  load_found width va v at line spent spent' cycles mid new page e is makes buffer more value =
      let K = Kept rule stands w caps root memory mid spent in
      let K' = Kept rule stands w caps root memory new spent' in
      let f = at / 4096 in
      let loads : (t : Storage) (q : Touched) → K t q → K' t (charged w q (Load (line_in w.machine f va))) =
      λ t q k.
      line_kept rule stands w caps root memory (λ n. Load n) at va line spent spent' cycles mid new t q e
      is makes buffer more k in
      let part : Mem → ℕ = λ m. part_of_word (load_size width) (word m f (place va)) (va % 4) in
      let found : (m : Mem) → Holds memory m → v ≡ part m =
      rw (place_there at va e, low_there at va e) at value in
      let reads : (t : Storage) (q : Touched) → K t q
      → ◌≡◌ {A = Dom ⊎ ℕ} (inr (part t.mem)) (end_of d (Ok v)) =
      λ t q k. ap (λ n. inr n) (sym (found t.mem k.holds)) in
      search (yields_rules, y_found, page, loads, reads) depth 40

  -- ---- a store

  pub store_none : (K : Storage → Touched → Type 0) → K s r
      → Comes (store w.machine root d None) (Ok tt) K
  unfolding store
  store_none K keeps = search (yields_rules, keeps) depth 40

  pub store_faulted : (K : Storage → Touched → Type 0) (made : StoreMade) (trap : Trap)
      → Comes {A = ℕ} (translate w.machine root d access.Store made.at) (Err trap) K
      → Comes (store w.machine root d (Some made)) (Err trap) K
  unfolding store
  store_faulted K made trap fault = search (yields_rules, y_faults, fault) depth 40

  -- and it is known that a frame holds a page
  record OnPage (f : ℕ) (system : SystemContents P) (spent : ℕ) (t : Storage) (q : Touched) : Type 0 where
    kept : Kept rule stands w caps root memory system spent t q
    page : IsPage w.machine w.own (dom_of caps) t.mem f

  on_page : (va f spent : ℕ) (system : SystemContents P)
      → Comes (translate w.machine root d access.Store va) (Ok f) (KeepsAll memory system spent)
      → Comes (translate w.machine root d access.Store va) (Ok f) (OnPage f system spent)
  unfolding translate
  on_page va f spent system found =
      let page =
      found_page rule stands w caps root memory d access.Store va f spent system s _ found.met.kept
      found.met.value in
      record {
        met = record { value = found.met.value; kept = record { kept = found.met.kept; page = page } };
      }

  -- a memory in which the store was made, at a place of a frame
  abbrev with_store : StoreMade → ℕ → ℕ → ℕ → Mem → Mem
  with_store made f i low m = written m f i (stored_in made.size (word m f i) low made.word)

  pub store_made : (made : StoreMade) (at line spent spent' cycles : ℕ) (mid new : SystemContents P)
      (memory' : Contents)
      → Comes (translate w.machine root d access.Store made.at) (Ok (at / 4096)) (KeepsAll memory mid spent)
      → at % 4096 ≡ made.at % 4096 → line ≡ at / mid.l2.line_size
      → MakesTouch rule stands (StoreTouch line) cycles mid new → new.core.tlb ≡ mid.core.tlb
      → spent' ≡ spent + cycles → memory'.frames ≡ memory.frames
      → ((m : Mem) → Holds memory m
      → Holds memory' (with_store made (frame_of at) (word_place at) (at % 4) m))
      → Comes (store w.machine root d (Some made)) (Ok tt) (KeepsAll memory' new spent')
  unfolding store
  store_made made at line spent spent' cycles mid new memory' found e is makes buffer more frames write =
      let f = at / 4096 in
      let i = place made.at in
      let next : Mem → Mem =
      λ m. written m f i (stored_in made.size (word m f i) (made.at % 4) made.word) in
      let On = OnPage f mid spent in
      let On' = OnPage f new spent' in
      let page = on_page made.at f spent mid found in
      let stores : (t : Storage) (q : Touched) → On t q
      → On' t (charged w q (StoreTouch (line_in w.machine f made.at))) =
      λ t q k. record {
        kept = line_kept rule stands w caps root memory (λ n. StoreTouch n) at made.at line spent
            spent' cycles mid new t q e is makes buffer more k.kept;
        page = k.page;
      } in
      let stored : (m : Mem) → Holds memory m → Holds memory' (next m) =
      rw (place_there at made.at e, low_there at made.at e) at write in
      let writes : (t : Storage) (q : Touched) → On' t q
      → Kept rule stands w caps root memory' new spent' (record t { mem = next t.mem }) q =
      λ t q k.
      stored_kept rule stands w caps root memory memory' new spent' f i
      (stored_in made.size (word t.mem f i) (made.at % 4) made.word) t q k.page frames
      (stored t.mem k.kept.holds) k.kept in
      search (yields_rules, y_found, page, stores, writes) depth 40

-- Actions of a domain from memories that are beside: one law of `>>=`, one of each primitive, and one line for each definition.
use Rattle.std.proofs.Common.{◌≡◌, ℕ, cond, eqb, ◌/◌, ◌⊎◌, List, [], ◌∷◌, ◌++◌, Option, All, length, Some, None, Result, Ok, Err, ap, ap₂, refl, sym, ◌∙◌, subst, inl, inr, true≢false, mod-lt, lit<}
use Rattle.std.proofs.lemmas.List.Elements.{All-nil, All-cons, All-head, All-tail}
use Rattle.std.proofs.Math.Arith.{digits_div}
use Rattle.tp_base.specs.Table.{empty, at, put, at-put}
use Rattle.tp_base.specs.Act.{Done, go_on, ◌>>=◌, ◌>>◌, give, stop, note, either}
use Rattle.phys_mem.specs.Mem.{Mem, Frame, frame_at, word, written, frame_at-written_other}
use Rattle.rv_decode.specs.declared.Instr.{Instr}
use Rattle.rv_decode.specs.declared.Instr.TheVariants as instr
use Rattle.rv_decode.specs.declared.LoadWidth.{LoadWidth}
use Rattle.rv_core.specs.declared.Effect.{Effect}
use Rattle.rv_core.specs.Effect.{Outcome}
use Rattle.rv_core.specs.declared.Store.{Store as StoreMade}
use Rattle.rv_core.specs.declared.Trap.{Trap}
use Rattle.rv_core.specs.Exceptions.{code_of}
use Rattle.sv32_walk.specs.declared.access.Access.{Access}
use Rattle.sv32_walk.specs.declared.access.WalkFault.{WalkFault}
use Rattle.sv32_walk.specs.PageTableEntry.{ppn}
use Rattle.sv32_walk.specs.Walk.{Walk, walk}
use Rattle.call_table.specs.Domain.{Dom}
use Rattle.call_table.specs.Calls.{number_made}
use Rattle.call_table.specs.Mail.{called}
use Rattle.call_table.specs.Claims.{is_mine, claims, Facts}
use Rattle.cap_table.specs.Slots.{Slots}
use Rattle.call_table.proofs.MailCalls.{within_own, storage_kept}
use Rattle.call_table.proofs.TablesMeaning.{stored}
use Rattle.hardware_check.specs.Hardware.{Hardware}
use Rattle.image_check.specs.Own.{Own}
use Rattle.world_view.specs.Frames.{own_frame}
use Rattle.world_view.specs.Kernel.{estate, layout}
use Rattle.world_view.specs.Instruction.{stopped, trapped}
use Rattle.mem_system.specs.Cost.{Touch, Fetch, Load, Store as StoreTouch, Branch, Jump, Charge}
use Rattle.mem_system.specs.Translation.{lines_of, look_of}
use Rattle.mem_system.specs.Sharing.{IsOwnLine, MayTouch}
use Rattle.mem_system.proofs.OwnTouches.{may_append}
use Rattle.world_view.specs.Cost.{hierarchy, region, own_colour}
use Rattle.world_view.specs.Event.{Storage, Act, touch, fault_of, frame_or_stop, translate, address_in, line_in, read, write, unless, load, store, computed, loaded, guessed, settle, execute, timed, call_touches, make_call, perform, instruction}
use Rattle.world_view.specs.Relations.{IsOwnFrame, MayAll, IsKernel, HasFacts, BesideStorage}
use Rattle.world_view.proofs.actions.TableLaws.{IsPage, walkable, own_reads, own_page, walk_alike, mine_own, own_mine, not_mine}
use Rattle.world_view.proofs.actions.InstructionLaws.{retired_caps}
use Rattle.world_view.proofs.touches.KernelTouches.{call_may}
use Rattle.world_view.proofs.touches.Lines.{own_address}

-- what is known of the value and of what is left, if there is a value; else the facts of the domain with which it ended
abbrev pub Known : {A : Type 0} → Hardware → Own → (A → Storage → Type 0) → Dom ⊎ A → Storage → Type 0
Known p o P (inl d) s = HasFacts p o d s
Known p o P (inr a) s = P a s

-- the facts hold of every domain with the same capabilities
pub facts_of : (p : Hardware) (o : Own) (d x : Dom) (s : Storage) → x.caps ≡ d.caps → HasFacts p o d s
    → HasFacts p o x s
facts_of p o d x s e h = record {
  slots = ap length e ∙ h.slots;
  facts = subst (λ (caps : Slots). Facts (estate p o).root (is_mine (estate p o)) (claims (estate p o) caps) s.mem) (sym e) h.facts;
}

module _ (p : Hardware) (o : Own) (kernel : IsKernel p o) (d : Dom) (first : Storage) where
  -- the same touches, all of them allowed, memories that are beside, and the same value, which meets P with what is left
  pub record Alike {A : Type 0} (P : A → Storage → Type 0) (r q : Done Storage Touch Dom A) : Type 0 where
    pub notes : r.notes ≡ q.notes
    pub may : MayAll p o r.notes
    pub state : BesideStorage p o first r.state q.state
    pub value : r.value ≡ q.value
    pub known : Known p o P r.value r.state

  -- from memories that are beside, of which the whole machine's meets H
  pub record Near {A : Type 0} (H : Storage → Type 0) (P : A → Storage → Type 0) (x : Act A) : Type 0 where
    pub runs : (s a : Storage) → BesideStorage p o first s a → H s → Alike P (x s) (x a)

  on_near : {A B : Type 0} (P : A → Storage → Type 0) (Q : B → Storage → Type 0)
      (r q : Done Storage Touch Dom A) (f : A → Act B) (v : Dom ⊎ A)
      → Alike P r q → Known p o P v r.state → ((a : A) → Near (P a) Q (f a)) → Alike Q (go_on r f v) (go_on q f v)
  unfolding go_on
  on_near P Q r q f (inl x) h k g = record { notes = h.notes; may = h.may; state = h.state; value = refl; known = k }
  on_near P Q r q f (inr a) h k g =
      let n = (g a).runs r.state q.state h.state k in
      record {
        notes = ap₂ (λ x y. x ++ y) h.notes n.notes;
        may = may_append (hierarchy p) (own_colour o) (region p) r.notes (f a r.state).notes h.may n.may;
        state = n.state;
        value = n.value;
        known = n.known;
      }

  bind_near : {A B : Type 0} (H : Storage → Type 0) (P : A → Storage → Type 0) (Q : B → Storage → Type 0)
      (x : Act A) (f : A → Act B)
      → Near H P x → ((a : A) → Near (P a) Q (f a)) → Near H Q (x >>= f)
  unfolding ◌>>=◌
  bind_near {A} {B} H P Q x f h g = record {
    runs = λ s a b k.
        let n = h.runs s a b k in
        subst (λ (v : Dom ⊎ A). Alike Q (go_on (x s) f (x s).value) (go_on (x a) f v)) n.value
        (on_near P Q (x s) (x a) f (x s).value n n.known g);
  }

  -- the facts still hold of the domain
  abbrev pub Held : Storage → Type 0
  Held s = HasFacts p o d s

  -- and the frame holds a page of its own
  pub record Page (f : ℕ) (s : Storage) : Type 0 where
    pub held : Held s
    pub page : IsPage p o d s.mem f

  -- nothing is known of the value
  abbrev pub Any : {A : Type 0} → A → Storage → Type 0
  Any v s = Held s

  -- the facts hold of the domain that it gives
  abbrev pub Ends : Dom → Storage → Type 0
  Ends x s = HasFacts p o x s

  -- what was known still is
  abbrev pub Still : {A : Type 0} → (Storage → Type 0) → A → Storage → Type 0
  Still H v s = H s

  bind_page : {B : Type 0} (Q : B → Storage → Type 0) (x : Act ℕ) (f : ℕ → Act B) → Near Held Page x
      → ((a : ℕ) → Near (Page a) Q (f a)) → Near Held Q (x >>= f)
  bind_page Q x f h g = bind_near Held Page Q x f h g

  bind_still : {A B : Type 0} (Q : B → Storage → Type 0) (H : Storage → Type 0) (x : Act A) (f : A → Act B)
      → Near H (Still H) x → ((a : A) → Near H Q (f a)) → Near H Q (x >>= f)
  bind_still Q H x f h g = bind_near H (Still H) Q x f h g

  bind_any : {A B : Type 0} (Q : B → Storage → Type 0) (H : Storage → Type 0) (x : Act A) (f : A → Act B)
      → Near H Any x → ((a : A) → Near Held Q (f a)) → Near H Q (x >>= f)
  bind_any Q H x f h g = bind_near H Any Q x f h g

  then_still : {A B : Type 0} (Q : B → Storage → Type 0) (H : Storage → Type 0) (x : Act A) (y : Act B)
      → Near H (Still H) x → Near H Q y → Near H Q (x >> y)
  unfolding ◌>>◌
  then_still Q H x y h g = bind_near H (Still H) Q x (λ _. y) h (λ a. g)

  then_any : {A B : Type 0} (Q : B → Storage → Type 0) (H : Storage → Type 0) (x : Act A) (y : Act B)
      → Near H Any x → Near Held Q y → Near H Q (x >> y)
  unfolding ◌>>◌
  then_any Q H x y h g = bind_near H Any Q x (λ _. y) h (λ a. g)

  give_any : {A : Type 0} (a : A) → Near Held Any (give a)
  unfolding give
  give_any a = record { runs = λ s k b h. record { notes = refl; may = tt; state = b; value = refl; known = h } }

  -- the domain that is given has the same capabilities
  give_ends : (x : Dom) → x.caps ≡ d.caps → Near Held Ends (give x)
  unfolding give
  give_ends x same = record {
    runs =
        λ s k b h.
        record { notes = refl; may = tt; state = b; value = refl; known = facts_of p o d x s same h };
  }

  stop_at : {A : Type 0} (P : A → Storage → Type 0) (H : Storage → Type 0) (x : Dom) → x.caps ≡ d.caps
      → ((s : Storage) → H s → Held s) → Near H P (stop x)
  unfolding stop
  stop_at P H x same held = record {
    runs =
        λ s k b h. record {
          notes = refl;
          may = tt;
          state = b;
          value = refl;
          known = facts_of p o d x s same (held s h);
        };
  }

  stop_stopped : {A : Type 0} (P : A → Storage → Type 0) (code value : ℕ)
      → Near Held P (stop {A = A} (stopped code value d))
  unfolding stopped
  stop_stopped P code value = stop_at P Held (stopped code value d) refl (λ s h. h)

  known_frame : (a : Access) (va : ℕ) (s : Storage) (r : Result ℕ WalkFault) → Held s
      → ((leaf : ℕ) → r ≡ Ok leaf → Page (ppn leaf) s) → Known p o Page (frame_or_stop d a va r) s
  unfolding frame_or_stop stopped
  known_frame a va s (Ok leaf) held page = page leaf refl
  known_frame a va s (Err f) held page = facts_of p o d (stopped (code_of (fault_of a f)) va d) s refl held

  -- lines of addresses in own frames
  own_lines : (addresses : List ℕ) → All (λ at. IsOwnFrame p o (at / 4096)) addresses
      → All (IsOwnLine (hierarchy p) (own_colour o)) (lines_of p.line addresses)
  unfolding lines_of
  own_lines [] all = All-nil (IsOwnLine (hierarchy p) (own_colour o))
  own_lines (at ∷ addresses) all =
      All-cons (IsOwnLine (hierarchy p) (own_colour o)) (at / p.line) (lines_of p.line addresses)
      (own_address p o kernel at (All-head (λ (x : ℕ). IsOwnFrame p o (x / 4096)) at addresses all))
      (own_lines addresses (All-tail (λ (x : ℕ). IsOwnFrame p o (x / 4096)) at addresses all))

  -- the walk is the same in both memories, and comes to a page of the domain
  translate_near : (a : Access) (va : ℕ) → Near Held Page (translate p (estate p o).root d a va)
  unfolding translate look_of
  translate_near a va = record {
    runs = λ s k b h.
        let root = (estate p o).root in
        let tables = walkable p o d s.mem h in
        let same : walk s.mem p.frames root va a ≡ walk k.mem p.frames root va a =
        sym (walk_alike p o root (IsPage p o d s.mem) s.mem tables va a k.mem b.same) in
        record {
          notes = ap (λ (w : Walk). look_of p.line va w ∷ []) same;
          may = (own_lines (walk s.mem p.frames root va a).reads (own_reads p o root (IsPage p o d s.mem) s.mem tables va a), tt);
          state = b;
          value = ap (λ (w : Walk). frame_or_stop d a va w.result) same;
          known = known_frame a va s (walk s.mem p.frames root va a).result h
              (λ leaf is. record { held = h; page = own_page p o root (IsPage p o d s.mem) s.mem tables va a leaf is });
        };
  }

  -- an address in frame f is in frame f
  frame_of_address : (f va : ℕ) → address_in f va / 4096 ≡ f
  unfolding address_in
  frame_of_address f va = digits_div f (mod-lt va (lit< tt))

  own_in : (f va : ℕ) → IsOwnFrame p o f → IsOwnLine (hierarchy p) (own_colour o) (line_in p f va)
  unfolding line_in
  own_in f va own = own_address p o kernel (address_in f va) (ap (own_frame p o) (frame_of_address f va) ∙ own)

  touch_still : (H : Storage → Type 0) (t : Touch)
      → ((s : Storage) → H s → MayTouch (hierarchy p) (own_colour o) (region p) t)
      → Near H (Still H) (touch t)
  unfolding touch note
  touch_still H t may = record { runs = λ s k b h. record { notes = refl; may = (may s h, tt); state = b; value = refl; known = h } }

  fetch_page : (f va : ℕ) → Near (Page f) (Still (Page f)) (touch (Fetch (line_in p f va)))
  fetch_page f va = touch_still (Page f) (Fetch (line_in p f va)) (λ s is. own_in f va is.page.own)

  load_page : (f va : ℕ) → Near (Page f) (Still (Page f)) (touch (Load (line_in p f va)))
  load_page f va = touch_still (Page f) (Load (line_in p f va)) (λ s is. inl (own_in f va is.page.own))

  store_page : (f va : ℕ) → Near (Page f) (Still (Page f)) (touch (StoreTouch (line_in p f va)))
  store_page f va = touch_still (Page f) (StoreTouch (line_in p f va)) (λ s is. own_in f va is.page.own)

  read_page : (f i : ℕ) → Near (Page f) (Still (Page f)) (read f i)
  unfolding read word
  read_page f i = record {
    runs =
        λ s k b h. record {
          notes = refl;
          may = tt;
          state = b;
          value = ap (λ (x : Frame). inr (at 0 x i)) (b.same f h.page.own);
          known = h;
        };
  }

  -- the last use of the page
  read_last : (f i : ℕ) → Near (Page f) Any (read f i)
  unfolding read word
  read_last f i = record {
    runs =
        λ s k b h. record {
          notes = refl;
          may = tt;
          state = b;
          value = ap (λ (x : Frame). inr (at 0 x i)) (b.same f h.page.own);
          known = h.held;
        };
  }

  written_same : (m k : Mem) (f i v g : ℕ) → frame_at m f ≡ frame_at k f → frame_at m g ≡ frame_at k g
      → frame_at (written m f i v) g ≡ frame_at (written k f i v) g
  unfolding frame_at written
  written_same m k f i v g e h =
      rw (at-put empty m f g (put (at empty m f) i v), at-put empty k f g (put (at empty k f) i v))
      (ap₂ (λ (x y : Frame). cond (eqb g f) (put x i v) y) e h)

  -- a store into a page changes no fact
  write_page : (f i v : ℕ) → Near (Page f) Any (write f i v)
  unfolding write
  write_page f i v = record {
    runs = λ s k b h. record {
      notes = refl;
      may = tt;
      state = record {
        same = λ g own. written_same s.mem k.mem f i v g (b.same f h.page.own) (b.same g own);
        outside =
            λ g out. frame_at-written_other s.mem f i v g
            (λ e. true≢false (sym h.page.own ∙ ap (own_frame p o) (sym e) ∙ out)) ∙ b.outside g out;
        side = b.side;
        others = b.others;
      };
      value = refl;
      known = stored (estate p o) d s.mem h.held f i v h.page.frame;
    };
  }

  unless_still : (trap : Option Trap) → Near Held (Still Held) (unless trap d)
  unfolding unless trapped stopped
  unless_still None = record { runs = (give_any tt).runs }
  unless_still (Some trap) = stop_at (Still Held) Held (trapped trap d) refl (λ s h. h)

  -- a kernel call does the same work in the domain's own frames and on its side of the boxes, and keeps the facts
  call_near : Near Held Ends (make_call p (estate p o) (layout p o) d)
  unfolding make_call estate
  call_near = record {
    runs = λ s k b h.
        let e = estate p o in
        let c = within_own e d s k h (λ f mine. b.same f (mine_own p o f mine)) b.side in
        record {
          notes = ap (call_touches p (layout p o) (number_made e d)) c.notes;
          may = call_may p o kernel (number_made e d) (called e d s).notes c.work;
          state = record {
            same = λ f own. c.same f (own_mine p o f own);
            outside = λ f out. c.outside f (not_mine p o f out) ∙ b.outside f out;
            side = c.side;
            others = c.others ∙ b.others;
          };
          value = ap (λ (v : Dom ⊎ Dom). inr (either v)) c.value;
          known = storage_kept e d s kernel.has_estate h;
        };
  }

ruleset near_rules = (
  bind_page,
  bind_still,
  bind_any,
  then_still,
  then_any,
  give_any,
  stop_stopped,
  translate_near,
  fetch_page,
  load_page,
  store_page,
  read_page,
  read_last,
  write_page,
  unless_still,
)

module _ (p : Hardware) (o : Own) (kernel : IsKernel p o) (d : Dom) (first : Storage) where
  load_near : (width : LoadWidth) (va : ℕ)
      → Near p o kernel d first (Held p o kernel d first) (Any p o kernel d first)
      (load p (estate p o).root d width va)
  unfolding load
  load_near width va = search near_rules depth 40

  store_near : (s : Option StoreMade)
      → Near p o kernel d first (Held p o kernel d first) (Any p o kernel d first)
      (store p (estate p o).root d s)
  unfolding store
  store_near None = search near_rules depth 40
  store_near (Some s) = search near_rules depth 40

  loaded_near : (t : ℕ) (i : Instr)
      → Near p o kernel d first (Held p o kernel d first) (Any p o kernel d first)
      (loaded p (estate p o).root t d i)
  unfolding loaded
  loaded_near t (instr.Load width rd rs1 offset) = load_near width _
  loaded_near t (instr.ReadCounter counter rd) = search near_rules depth 40
  loaded_near t _ = search near_rules depth 40

  computed_still : (i : Instr)
      → Near p o kernel d first (Held p o kernel d first) (Still p o kernel d first (Held p o kernel d first))
      (computed p d i)
  unfolding computed
  computed_still (instr.Multiply product rd rs1 rs2) = touch_still p o kernel d first (Held p o kernel d first) (Charge _) (λ s h. tt)
  computed_still (instr.Divide division rd rs1 rs2) = touch_still p o kernel d first (Held p o kernel d first) (Charge _) (λ s h. tt)
  computed_still _ = record { runs = (give_any p o kernel d first tt).runs }

  guessed_still : (i : Instr) (pc : ℕ) (e : Effect)
      → Near p o kernel d first (Held p o kernel d first) (Still p o kernel d first (Held p o kernel d first))
      (guessed i pc e)
  unfolding guessed
  guessed_still (instr.Branch comparison rs1 rs2 offset) pc e =
      touch_still p o kernel d first (Held p o kernel d first) (Branch pc e.taken e.next) (λ s h. tt)
  guessed_still (instr.Jal rd offset) pc e =
      touch_still p o kernel d first (Held p o kernel d first) (Jump pc e.next) (λ s h. tt)
  guessed_still (instr.Jalr rd rs1 offset) pc e =
      touch_still p o kernel d first (Held p o kernel d first) (Jump pc e.next) (λ s h. tt)
  guessed_still _ pc e = record { runs = (give_any p o kernel d first tt).runs }

module _ (p : Hardware) (o : Own) (kernel : IsKernel p o) (d : Dom) (first : Storage) where
  settle_near : (i : Instr) (value : ℕ) (out : Outcome)
      → Near p o kernel d first (Held p o kernel d first) (Ends p o kernel d first)
      (settle p (estate p o).root d i value out)
  unfolding settle
  settle_near i value out =
      then_still p o kernel d first (Ends p o kernel d first) (Held p o kernel d first) _ _
      (unless_still p o kernel d first out.effect.trap)
      (then_still p o kernel d first (Ends p o kernel d first) (Held p o kernel d first) _ _
      (guessed_still p o kernel d first i d.threads.current.pc out.effect)
      (then_any p o kernel d first (Ends p o kernel d first) (Held p o kernel d first) _ _ (store_near p o kernel d first out.effect.store)
      (give_ends p o kernel d first _ (retired_caps out.effect.next out.regs i value d))))

  execute_near : (t : ℕ) (i : Instr)
      → Near p o kernel d first (Held p o kernel d first) (Ends p o kernel d first)
      (execute p (estate p o).root t d i)
  unfolding execute
  execute_near t i = search (near_rules, loaded_near, settle_near) depth 40

  timed_near : (t : ℕ) (i : Instr)
      → Near p o kernel d first (Held p o kernel d first) (Ends p o kernel d first)
      (timed p (estate p o).root t d i)
  unfolding timed
  timed_near t i =
      then_still p o kernel d first (Ends p o kernel d first) (Held p o kernel d first) _ _ (computed_still p o kernel d first i)
      (execute_near t i)

module _ (p : Hardware) (o : Own) (kernel : IsKernel p o) (d : Dom) (first : Storage) where
  perform_near : (t : ℕ) (w : ℕ) (i : Option Instr)
      → Near p o kernel d first (Held p o kernel d first) (Ends p o kernel d first)
      (perform p (estate p o) (layout p o) t d w i)
  unfolding perform
  perform_near t w None = stop_stopped p o kernel d first (Ends p o kernel d first) 2 w
  perform_near t w (Some instr.Ecall) = call_near p o kernel d first
  perform_near t w (Some i) = timed_near p o kernel d first t i

  pub instruction_near : (t : ℕ)
      → Near p o kernel d first (Held p o kernel d first) (Ends p o kernel d first)
      (instruction p (estate p o) (layout p o) t d)
  unfolding instruction
  instruction_near t = search (near_rules, perform_near) depth 40

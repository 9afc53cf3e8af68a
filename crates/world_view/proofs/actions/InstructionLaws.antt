-- What an instruction leaves of a domain and its memory: what holds where it stops, where it retires and after its call holds
-- whichever of them it does, if its store keeps what is held.
use Rattle.std.proofs.Common.{◌≡◌, ℕ, List, Option, Some, None, ◌⊎◌, inl, inr, refl, subst}
use Rattle.std.specs.Prelude.{Result, Ok, Err}
use Rattle.tp_base.specs.Act.{Done, go_on, ◌>>=◌, ◌>>◌, give, stop, note, either}
use Rattle.phys_mem.specs.Mem.{written}
use Rattle.rv_decode.specs.declared.Instr.{Instr}
use Rattle.rv_decode.specs.declared.Instr.TheVariants as instr
use Rattle.rv_decode.specs.declared.LoadWidth.{LoadWidth}
use Rattle.rv_core.specs.declared.Effect.{Effect}
use Rattle.rv_core.specs.Effect.{Outcome, effect_of}
use Rattle.rv_core.specs.declared.Store.{Store as StoreMade}
use Rattle.rv_core.specs.declared.Trap.{Trap}
use Rattle.rv_core.specs.Exceptions.{code_of}
use Rattle.sv32_walk.specs.declared.access.Access.{Access}
use Rattle.sv32_walk.specs.declared.access.Access.TheVariants as access
use Rattle.sv32_walk.specs.declared.access.WalkFault.{WalkFault}
use Rattle.sv32_walk.specs.PageTableEntry.{ppn}
use Rattle.sv32_walk.specs.Walk.{walk}
use Rattle.mem_system.specs.Cost.{Touch, Fetch, Load, Store as StoreTouch, Branch, Jump, Charge}
use Rattle.kernel_clone.specs.Footprints.{Layout}
use Rattle.call_table.specs.Domain.{Dom, placed}
use Rattle.call_table.specs.Claims.{Estate}
use Rattle.call_table.specs.Mail.{called}
use Rattle.hardware_check.specs.Hardware.{Hardware}
use Rattle.world_view.specs.Cost.{bare_layout}
use Rattle.world_view.specs.Instruction.{stopped, trapped, retired_at, read_out}
use Rattle.world_view.specs.Event.{Storage, Act, fault_of, frame_or_stop, touch, translate, line_in, read, write, unless, load, store, computed, loaded, noted, guessed, settle, execute, timed, make_call, perform, instruction}

module _ (p : Hardware) (e : Estate) (l : Layout) (d : Dom) (Held : Storage → Type 0) (Q : Dom → Storage → Type 0)
    (stops : (code value : ℕ) (s : Storage) → Held s → Q (stopped code value d) s)
    (retires : (pc value : ℕ) (regs : List ℕ) (i : Instr) (s : Storage) → Held s → Q (retired_at pc regs (noted i value d)) s)
    (stores : (s : Storage) (va leaf i v : ℕ) → Held s → (walk s.mem p.frames e.root va access.Store).result ≡ Ok leaf
    → Held (record s { mem = written s.mem (ppn leaf) i v })) where
  -- of the domain with which a step ends early, and of what it gives
  abbrev Meets : {A : Type 0} → (A → Storage → Type 0) → Dom ⊎ A → Storage → Type 0
  Meets R (inl x) s = Q x s
  Meets R (inr a) s = R a s

  record Ends {A : Type 0} (H : Storage → Type 0) (R : A → Storage → Type 0) (x : Act A) : Type 0 where
    ends : (s : Storage) → H s → Meets R (x s).value (x s).state

  -- anything may be given
  abbrev Any : {A : Type 0} → A → Storage → Type 0
  Any a s = Held s

  -- what was known still is
  abbrev Still : {A : Type 0} → (Storage → Type 0) → A → Storage → Type 0
  Still H a s = H s

  -- a walk has come to the frame
  record Found (a : Access) (va f : ℕ) (s : Storage) : Type 0 where
    held : Held s
    leaf : ℕ
    is : (walk s.mem p.frames e.root va a).result ≡ Ok leaf
    frame : ppn leaf ≡ f

  on_ends : {A B : Type 0} (R : A → Storage → Type 0) (T : B → Storage → Type 0)
      (r : Done Storage Touch Dom A) (y : A → Act B) (v : Dom ⊎ A)
      → Meets R v r.state → ((a : A) → Ends (R a) T (y a)) → Meets T (go_on r y v).value (go_on r y v).state
  unfolding go_on
  on_ends R T r y (inl x) h rest = h
  on_ends R T r y (inr a) h rest = (rest a).ends r.state h

  bind_ends : {A B : Type 0} (H : Storage → Type 0) (R : A → Storage → Type 0) (T : B → Storage → Type 0)
      (x : Act A) (y : A → Act B)
      → Ends H R x → ((a : A) → Ends (R a) T (y a)) → Ends H T (x >>= y)
  unfolding ◌>>=◌
  bind_ends H R T x y first rest = record { ends = λ s h. on_ends R T (x s) y (x s).value (first.ends s h) rest }

  then_ends : {A B : Type 0} (H K : Storage → Type 0) (T : B → Storage → Type 0) (x : Act A) (y : Act B)
      → Ends H (Still {A = A} K) x → Ends K T y → Ends H T (x >> y)
  unfolding ◌>>◌
  then_ends H K T x y first rest = bind_ends H (Still K) T x (λ _. y) first (λ a. rest)

  -- where more is known
  held_ends : {A : Type 0} (H : Storage → Type 0) (R : A → Storage → Type 0) (x : Act A)
      → ((s : Storage) → H s → Held s) → Ends Held R x → Ends H R x
  held_ends H R x held h = record { ends = λ s more. h.ends s (held s more) }

  -- ---- primitives

  give_ends : {A : Type 0} (H : Storage → Type 0) (R : A → Storage → Type 0) (a : A)
      → ((s : Storage) → H s → R a s) → Ends H R (give a)
  unfolding give
  give_ends H R a h = record { ends = h }

  stop_ends : {A : Type 0} (R : A → Storage → Type 0) (x : Dom) → ((s : Storage) → Held s → Q x s)
      → Ends Held R (stop x)
  unfolding stop
  stop_ends R x h = record { ends = h }

  touch_ends : (H : Storage → Type 0) (t : Touch) → Ends H (Still H) (touch t)
  unfolding touch note
  touch_ends H t = record { ends = λ s h. h }

  read_ends : (H : Storage → Type 0) (f i : ℕ) → Ends H (Still H) (read f i)
  unfolding read
  read_ends H f i = record { ends = λ s h. h }

  write_ends : (va f i v : ℕ) → Ends (Found access.Store va f) Any (write f i v)
  unfolding write
  write_ends va f i v = record {
    ends = λ s h. subst (λ (g : ℕ). Held (record s { mem = written s.mem g i v })) h.frame (stores s va h.leaf i v h.held h.is);
  }

  unless_ends : (trap : Option Trap) → Ends Held (Still Held) (unless trap d)
  unfolding unless trapped
  unless_ends None = give_ends Held (Still Held) tt (λ s h. h)
  unless_ends (Some trap) =
      stop_ends (Still Held) (stopped (code_of trap.exception) trap.value d)
      (stops (code_of trap.exception) trap.value)

  frame_ends : (a : Access) (va : ℕ) (s : Storage) (r : Result ℕ WalkFault) → Held s
      → (walk s.mem p.frames e.root va a).result ≡ r
      → Meets (Found a va) (frame_or_stop d a va r) s
  unfolding frame_or_stop
  frame_ends a va s (Ok leaf) h is = record { held = h; leaf = leaf; is = is; frame = refl }
  frame_ends a va s (Err f) h is = stops (code_of (fault_of a f)) va s h

  translate_ends : (a : Access) (va : ℕ) → Ends Held (Found a va) (translate p e.root d a va)
  unfolding translate
  translate_ends a va = record { ends = λ s h. frame_ends a va s (walk s.mem p.frames e.root va a).result h refl }

  -- ---- an instruction

  load_ends : (width : LoadWidth) (va : ℕ) → Ends Held Any (load p e.root d width va)
  unfolding load
  load_ends width va =
      let a = access.Load in
      bind_ends Held (Found a va) Any _ _ (translate_ends a va) (λ f.
      then_ends (Found a va f) (Found a va f) Any _ _ (touch_ends (Found a va f) (Load (line_in p f va)))
      (bind_ends (Found a va f) (Still (Found a va f)) Any _ _ (read_ends (Found a va f) f _)
      (λ w. give_ends (Found a va f) Any _ (λ s h. h.held))))

  store_ends : (made : Option StoreMade) → Ends Held (Still Held) (store p e.root d made)
  unfolding store
  store_ends None = give_ends Held (Still Held) tt (λ s h. h)
  store_ends (Some made) =
      let a = access.Store in
      let va = made.at in
      bind_ends Held (Found a va) (Still Held) _ _ (translate_ends a va) (λ f.
      then_ends (Found a va f) (Found a va f) (Still Held) _ _ (touch_ends (Found a va f) (StoreTouch (line_in p f va)))
      (bind_ends (Found a va f) (Still (Found a va f)) (Still Held) _ _ (read_ends (Found a va f) f _) (λ w. write_ends va f _ _)))

  loaded_ends : (t : ℕ) (i : Instr) → Ends Held Any (loaded p e.root t d i)
  unfolding loaded
  loaded_ends t (instr.Load width rd rs1 offset) = load_ends width _
  loaded_ends t (instr.ReadCounter counter rd) = give_ends Held Any _ (λ s h. h)
  loaded_ends t i = give_ends Held Any 0 (λ s h. h)

  guessed_ends : (i : Instr) (pc : ℕ) (e : Effect) → Ends Held (Still Held) (guessed i pc e)
  unfolding guessed
  guessed_ends (instr.Branch comparison rs1 rs2 offset) pc e = touch_ends Held (Branch pc e.taken e.next)
  guessed_ends (instr.Jal rd offset) pc e = touch_ends Held (Jump pc e.next)
  guessed_ends (instr.Jalr rd rs1 offset) pc e = touch_ends Held (Jump pc e.next)
  guessed_ends i pc e = give_ends Held (Still Held) tt (λ s h. h)

  computed_ends : (i : Instr) → Ends Held (Still Held) (computed p d i)
  unfolding computed
  computed_ends (instr.Multiply product rd rs1 rs2) = touch_ends Held (Charge _)
  computed_ends (instr.Divide division rd rs1 rs2) = touch_ends Held (Charge _)
  computed_ends i = give_ends Held (Still Held) tt (λ s h. h)

  settle_ends : (i : Instr) (value : ℕ) (out : Outcome) → Ends Held Q (settle p e.root d i value out)
  unfolding settle
  settle_ends i value out =
      then_ends Held Held Q _ _ (unless_ends out.effect.trap)
      (then_ends Held Held Q _ _ (guessed_ends i d.threads.current.pc out.effect)
      (then_ends Held Held Q _ _ (store_ends out.effect.store) (give_ends Held Q _ (retires out.effect.next value out.regs i))))

  execute_ends : (t : ℕ) (i : Instr) → Ends Held Q (execute p e.root t d i)
  unfolding execute
  execute_ends t i =
      then_ends Held Held Q _ _ (unless_ends _)
      (bind_ends Held Any Q _ _ (loaded_ends t i)
      (λ value. settle_ends i value (effect_of d.threads.current.regs d.threads.current.pc i value)))

  timed_ends : (t : ℕ) (i : Instr) → Ends Held Q (timed p e.root t d i)
  unfolding timed
  timed_ends t i = then_ends Held Held Q _ _ (computed_ends i) (execute_ends t i)

  either_meets : (v : Dom ⊎ Dom) (s : Storage) → Meets Q v s → Q (either v) s
  unfolding either
  either_meets (inl x) s h = h
  either_meets (inr x) s h = h

  -- an instruction that makes no call
  pub timed_leaves : (t : ℕ) (i : Instr) (s : Storage) → Held s
      → Q (either (timed p e.root t d i s).value) (timed p e.root t d i s).state
  timed_leaves t i s h = either_meets (timed p e.root t d i s).value (timed p e.root t d i s).state ((timed_ends t i).ends s h)

  module _ (calls : (s : Storage) → Held s → Q (either (called e d s).value) (called e d s).state) where
    call_ends : Ends Held Q (make_call p e l d)
    unfolding make_call
    call_ends = record { ends = calls }

    perform_ends : (t w : ℕ) (i : Option Instr) → Ends Held Q (perform p e l t d w i)
    unfolding perform
    perform_ends t w None = stop_ends Q _ (stops 2 w)
    perform_ends t w (Some instr.Ecall) = call_ends
    perform_ends t w (Some i) = timed_ends t i

    instruction_ends : (t : ℕ) → Ends Held Q (instruction p e l t d)
    unfolding instruction
    instruction_ends t =
        let a = access.Fetch in
        let va = d.threads.current.pc in
        bind_ends Held (Found a va) Q _ _ (translate_ends a va) (λ f.
        then_ends (Found a va f) (Found a va f) Q _ _ (touch_ends (Found a va f) (Fetch (line_in p f va)))
        (bind_ends (Found a va f) (Still (Found a va f)) Q _ _ (read_ends (Found a va f) f _)
        (λ w. held_ends (Found a va f) Q _ (λ s h. h.held) (perform_ends t w _))))

    pub leaves_all : (t : ℕ) (s : Storage) → Held s
        → Q (either (instruction p e l t d s).value) (instruction p e l t d s).state
    leaves_all t s h = either_meets (instruction p e l t d s).value (instruction p e l t d s).state ((instruction_ends t).ends s h)

-- of the domain alone, whatever memory is
pub leaves : (p : Hardware) (e : Estate) (l : Layout) (d : Dom) (Q : Dom → Type 0)
    → ((code value : ℕ) → Q (stopped code value d))
    → ((pc value : ℕ) (regs : List ℕ) (i : Instr) → Q (retired_at pc regs (noted i value d)))
    → ((s : Storage) → Q (either (called e d s).value))
    → (t : ℕ) (s : Storage) → Q (either (instruction p e l t d s).value)
leaves p e l d Q stops retires calls t s =
    leaves_all p e l d (λ (s : Storage). Unit {0}) (λ (x : Dom) (s : Storage). Q x) (λ code value s h. stops code value)
    (λ pc value regs i s h. retires pc value regs i) (λ s va leaf i v h is. tt) (λ s h. calls s) t s tt

-- an instruction that makes no call moves no word in boxes
pub timed_boxes : (p : Hardware) (e : Estate) (t : ℕ) (d : Dom) (i : Instr) (s : Storage)
    → (timed p e.root t d i s).state.boxes ≡ s.boxes
timed_boxes p e t d i s =
    timed_leaves p e (bare_layout p) d (λ (x : Storage). x.boxes ≡ s.boxes) (λ (y : Dom) (x : Storage). x.boxes ≡ s.boxes)
    (λ code value x h. h) (λ pc value regs i x h. h) (λ x va leaf i v h is. h) t i s refl

-- ---- what reading a counter leaves

pub noted_delivered : (i : Instr) (value : ℕ) (d : Dom) → (noted i value d).delivered ≡ d.delivered
unfolding noted read_out
noted_delivered (instr.ReadCounter counter rd) value d = refl
noted_delivered i value d = refl

pub noted_threads : (i : Instr) (value : ℕ) (d : Dom) → (noted i value d).threads ≡ d.threads
unfolding noted read_out
noted_threads (instr.ReadCounter counter rd) value d = refl
noted_threads i value d = refl

pub noted_caps : (i : Instr) (value : ℕ) (d : Dom) → (noted i value d).caps ≡ d.caps
unfolding noted read_out
noted_caps (instr.ReadCounter counter rd) value d = refl
noted_caps i value d = refl

-- nor does retiring change the capabilities
pub retired_caps : (pc : ℕ) (regs : List ℕ) (i : Instr) (value : ℕ) (d : Dom)
    → (retired_at pc regs (noted i value d)).caps ≡ d.caps
unfolding retired_at placed
retired_caps pc regs i value d = noted_caps i value d

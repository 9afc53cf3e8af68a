-- An instruction, of the code and of the definitions.
use Rattle.std.proofs.Common.{◌≡◌, ◌≢◌, ◌⊎◌, ℕ, ◌+◌, ◌*◌, ◌/◌, ◌%◌, ◌^◌, inl, inr, Bool, true, false, cond, eqb, List, Option, Some, None, is_some, option_map, Result, Ok, Err, refl, sym, ap, ap₂, subst, subst₂, ◌∙◌, arith}
use Rattle.std.proofs.lemmas.Option.{none-some}
use Rattle.tp_base.specs.Act.{◌>>◌, give, either}
use Rattle.phys_mem.specs.Contents.{Contents}
use Rattle.phys_mem.specs.Holds.{Holds}
use Rattle.phys_mem.specs.Mem.{Mem, word}
use Rattle.phys_mem.specs.Address.{frame_of, word_place}
use Rattle.set_cache.specs.Rule.{Rule}
use Rattle.cap_table.specs.Slots.{Slots}
use Rattle.rv_core.specs.Alu as alu
use Rattle.rv_core.specs.Effect as effect
use Rattle.rv_core.specs.declared.Effect.{Effect}
use Rattle.cycle_cost.specs.Costs.{ProductCosts}
use Rattle.rv_core.specs.Effect.{Outcome, effect_of}
use Rattle.rv_core.specs.Memory.{load_size, store_size, sum_of, address_of, alignment_trap, misalignment_of}
use Rattle.rv_core.specs.Registers.{register}
use Rattle.rv_core.specs.declared.Store.{Store as StoreMade}
use Rattle.rv_core.specs.declared.Trap.{Trap}
use Rattle.rv_core.specs.declared.exception.Exception.TheVariants as exception
use Rattle.rv_core.specs.Exceptions.{code_of}
use Rattle.rv_decode.specs.Table.{decode_of}
use Rattle.rv_decode.specs.declared.Comparison.{Comparison}
use Rattle.rv_decode.specs.declared.Counter.{Counter}
use Rattle.rv_decode.specs.declared.Instr.{Instr}
use Rattle.rv_decode.specs.declared.LoadWidth.{LoadWidth}
use Rattle.rv_decode.specs.declared.Product.{Product}
use Rattle.rv_decode.specs.declared.Division.{Division}
use Rattle.rv_decode.specs.declared.Instr.TheVariants as instr
use Rattle.sv32_walk.specs.declared.access.Access.TheVariants as access
use Rattle.tlb_model.specs.Buffer.{Buffer}
use Rattle.mem_system.specs.Cost.{Touch, Touched, Fetch, Branch, Jump as JumpTouch, Charge, touched, on_core, pass_on, below_all}
use Rattle.mem_system.specs.Contents.{SystemContents, MakesTouch, hierarchy_of}
use Rattle.mem_system.specs.Hierarchy.{Hierarchy}
use Rattle.mem_system.specs.Translation.{KeepsLeaves}
use Rattle.thread_set.specs.Threads.{with_current}
use Rattle.call_table.specs.Domain.{Dom, placed}
use Rattle.mail_slots.specs.Boxes.{Boxes}
use Rattle.kernel_call.specs.declared.domain.Domain.{Domain}
use Rattle.kernel_call.specs.Models.{dom_model, Stands, Becomes}
use Rattle.world_view.specs.Kernel.{estate}
use Rattle.world_view.specs.Instruction.{counter_value, trapped, stopped, retired_at, read_out}
use Rattle.world_view.specs.Event.{Storage, Act, touch, load, translate, place, line_in, read, store, computed, loaded, noted, guessed, settle, execute, timed, make_call, perform, instruction}
use Rattle.world_view.proofs.actions.InstructionLaws.{timed_boxes}
use Rattle.world_view.proofs.steps.CodeLaws.{noted-other, loaded-other, guessed-other, timed-other, perform-other}
use Rattle.world_view.specs.Machine.{Setting}
use Rattle.domain_step.specs.Kept.{IsSetting, charged, Kept}
use Rattle.domain_step.specs.Moves.{Yields, Answered, Left}
use Rattle.domain_step.proofs.Charges.{touch_kept}
use Rattle.domain_step.proofs.Points.{Point, YieldsAt, YieldsFrom, Boxed}
use Rattle.domain_step.proofs.Yields.{yields_rules, y_next, y_found, y_faults, y_touch, y_give, y_stop, becomes_then}
use Rattle.domain_step.proofs.Accesses.{line_kept}

-- ---- the end of an instruction

module _ (next value : ℕ) (old new : Domain) where
  -- what is so of the old domain when it goes on to the next instruction
  abbrev Retires : (Dom → Dom) → Domain → Type 0
  Retires f from = Becomes (λ d. retired_at next d.threads.current.regs (f d)) from new

  pub finish_read : (counter : Counter) (rd : ℕ) (mid : Domain) → Becomes (read_out value) old mid
      → Retires (λ d. d) mid → Retires (noted (instr.ReadCounter counter rd) value) old
  unfolding noted read_out
  finish_read counter rd mid read retired =
      becomes_then (read_out value) (λ d. retired_at next d.threads.current.regs d) old mid new read
      retired

  pub finish_other : (i : Instr) → ((c : Counter) (rd : ℕ) → i ≢ instr.ReadCounter c rd)
      → Retires (λ d. d) old → Retires (noted i value) old
  finish_other i other retired readings replies r q =
      let d = dom_model old readings replies in
      subst (λ (m : Dom). Stands new (retired_at next d.threads.current.regs m))
      (sym (noted-other i value d other)) (retired readings replies r q)

-- ---- stores

module _ (regs : List ℕ) (made : StoreMade) where
  abbrev Keeps : Outcome → Type 0
  Keeps out = out.effect.store ≡ Some made → out.regs ≡ regs

  keeps_none : (out : Outcome) → out.effect.store ≡ None → Keeps out
  keeps_none out none e = absurd (none-some made (sym none ∙ e))

  keeps_if : (b : Bool) (x y : Outcome) → x.effect.store ≡ None → y.effect.store ≡ None
      → Keeps (cond b x y)
  keeps_if true x y none none' = keeps_none x none
  keeps_if false x y none none' = keeps_none y none'

  keeps_branch : (pc target : ℕ) (b : Bool) → Keeps (effect.branch regs pc target b)
  keeps_branch pc target true = keeps_if (eqb (target % 4) 0) _ _ refl refl
  keeps_branch pc target false = keeps_none (effect.continuation regs pc) refl

  keeps_access : (pc : ℕ) (t : Option Trap) (done : Outcome) → done.effect.store ≡ None
      → Keeps (effect.access regs pc t done)
  keeps_access pc None done none = keeps_none done none
  keeps_access pc (Some trap) done none = keeps_none (effect.exception regs pc trap) refl

  keeps_store : (pc : ℕ) (t : Option Trap) (done : Outcome) → done.regs ≡ regs
      → Keeps (effect.access regs pc t done)
  keeps_store pc None done same e = same
  keeps_store pc (Some trap) done same e = refl

  -- an instruction that stores writes no register
  pub store_keeps : (pc : ℕ) (i : Instr) (loaded : ℕ) → Keeps (effect_of regs pc i loaded)
  store_keeps pc (instr.Lui rd imm) loaded e = absurd (none-some made e)
  store_keeps pc (instr.Auipc rd imm) loaded e = absurd (none-some made e)
  store_keeps pc (instr.Jal rd offset) loaded e = keeps_if _ _ _ refl refl e
  store_keeps pc (instr.Jalr rd rs1 offset) loaded e = keeps_if _ _ _ refl refl e
  store_keeps pc (instr.Branch comparison rs1 rs2 offset) loaded e =
      keeps_branch pc ((pc + offset) % 2 ^ 32)
      (alu.holds comparison (register regs rs1) (register regs rs2)) e
  store_keeps pc (instr.Load width rd rs1 offset) loaded e =
      keeps_access pc (alignment_trap (load_size width) exception.LoadMisaligned (sum_of regs rs1 offset)) _ refl e
  store_keeps pc (instr.Store width rs1 rs2 offset) loaded e =
      keeps_store pc (alignment_trap (store_size width) exception.StoreMisaligned (sum_of regs rs1 offset)) _ refl e
  store_keeps pc (instr.Immediate operation rd rs1 imm) loaded e = absurd (none-some made e)
  store_keeps pc (instr.Register operation rd rs1 rs2) loaded e = absurd (none-some made e)
  store_keeps pc (instr.Multiply product rd rs1 rs2) loaded e = absurd (none-some made e)
  store_keeps pc (instr.Divide division rd rs1 rs2) loaded e = absurd (none-some made e)
  store_keeps pc instr.Fence loaded e = absurd (none-some made e)
  store_keeps pc instr.Ecall loaded e = absurd (none-some made e)
  store_keeps pc instr.Ebreak loaded e = absurd (none-some made e)
  store_keeps pc (instr.ReadCounter counter rd) loaded e = absurd (none-some made e)

-- ---- registers that were written early

-- a domain with other registers
abbrev pub with_regs : List ℕ → Dom → Dom
with_regs regs d =
    record d { threads = record d.threads { current = record d.threads.current { regs = regs } } }

pub trapped_same : (new : Domain) (trap : Trap) (d : Dom) (regs : List ℕ)
    → regs ≡ d.threads.current.regs → Stands new (trapped trap (with_regs regs d))
    → Stands new (trapped trap d)
trapped_same new trap d regs same stands =
    subst (λ (rs : List ℕ). Stands new (trapped trap (with_regs rs d))) same stands

retired_same : (next value : ℕ) (i : Instr) (regs : List ℕ) (d : Dom)
    → retired_at next regs (noted i value (with_regs regs d)) ≡ retired_at next regs (noted i value d)
unfolding noted read_out retired_at placed with_current
retired_same next value (instr.Lui rd imm) regs d = refl
retired_same next value (instr.Auipc rd imm) regs d = refl
retired_same next value (instr.Jal rd offset) regs d = refl
retired_same next value (instr.Jalr rd rs1 offset) regs d = refl
retired_same next value (instr.Branch comparison rs1 rs2 offset) regs d = refl
retired_same next value (instr.Load width rd rs1 offset) regs d = refl
retired_same next value (instr.Store width rs1 rs2 offset) regs d = refl
retired_same next value (instr.Immediate operation rd rs1 imm) regs d = refl
retired_same next value (instr.Register operation rd rs1 rs2) regs d = refl
retired_same next value (instr.Multiply product rd rs1 rs2) regs d = refl
retired_same next value (instr.Divide division rd rs1 rs2) regs d = refl
retired_same next value instr.Fence regs d = refl
retired_same next value instr.Ecall regs d = refl
retired_same next value instr.Ebreak regs d = refl
retired_same next value (instr.ReadCounter counter rd) regs d = refl

pub finished_same : (new : Domain) (out : Outcome) (next value : ℕ) (i : Instr) (regs : List ℕ)
    (d : Dom) → next ≡ out.effect.next → regs ≡ out.regs
    → Stands new (retired_at next regs (noted i value (with_regs regs d)))
    → Stands new (retired_at out.effect.next out.regs (noted i value d))
finished_same new out next value i regs d e same stands =
    subst₂ (λ (n : ℕ) (rs : List ℕ). Stands new (retired_at n rs (noted i value d))) e same
    (subst (Stands new) (retired_same next value i regs d) stands)

-- a store that faults was one
pub faulted_keeps : (w : Setting) (K : Storage → Touched → Type 0) (root : ℕ) (d : Dom) (i : Instr)
    (value : ℕ) (made : Option StoreMade) {s : Storage} {r : Touched} {trap : Trap}
    → (effect_of d.threads.current.regs d.threads.current.pc i value).effect.store ≡ made
    → Yields w (store w.machine root d made) s r (Answered d (Err trap) K)
    → (effect_of d.threads.current.regs d.threads.current.pc i value).regs ≡ d.threads.current.regs
unfolding store give
faulted_keeps w K root d i value None e answers = absurd (inr-inl answers.met.value)
  where
    inr-inl : {A B : Type 0} {a : A} {b : B} → inr b ≢ inl a
    inr-inl e = cc
faulted_keeps w K root d i value (Some made) e answers =
    store_keeps d.threads.current.regs made d.threads.current.pc i value e

-- ---- what an instruction needs from outside

module _ (p : Point) (K : Storage → Touched → Type 0) (i : Instr) where
  abbrev LoadedAs : Result ℕ Trap → Type 0
  LoadedAs result =
      YieldsAt p (loaded p.setting.machine p.root p.clock p.dom i) (Answered p.dom result K)

  pub loaded_load : {width : LoadWidth} {rd rs1 offset : ℕ} (at : ℕ) (result : Result ℕ Trap)
      → i ≡ instr.Load width rd rs1 offset → at ≡ address_of p.dom.threads.current.regs i
      → YieldsAt p (load p.setting.machine p.root p.dom width at) (Answered p.dom result K)
      → LoadedAs result
  unfolding loaded
  loaded_load {width} at result e is found =
      let Ends : Act ℕ → Type 0 = λ x. YieldsAt p x (Answered p.dom result K) in
      let there = is ∙ ap (address_of p.dom.threads.current.regs) e in
      subst (λ (j : Instr). Ends (loaded p.setting.machine p.root p.clock p.dom j)) (sym e)
      (subst (λ (x : ℕ). Ends (load p.setting.machine p.root p.dom width x)) there found)

  pub loaded_counter : {counter : Counter} {rd : ℕ} (value : ℕ) → K p.storage p.reached
      → i ≡ instr.ReadCounter counter rd → value ≡ counter_value counter p.clock p.dom
      → LoadedAs (Ok value)
  unfolding loaded
  loaded_counter {counter} value keeps e is =
      rw (e, is)
      (y_give p.setting p.storage p.reached (counter_value counter p.clock p.dom) _
      (record { value = refl; kept = keeps }))

  pub loaded_other : K p.storage p.reached
      → ((x : LoadWidth) (rd rs1 offset : ℕ) → i ≢ instr.Load x rd rs1 offset)
      → ((c : Counter) (rd : ℕ) → i ≢ instr.ReadCounter c rd) → LoadedAs (Ok 0)
  loaded_other keeps not_load not_counter =
      rw (loaded-other p.setting.machine p.root p.clock p.dom i not_load not_counter)
      (y_give p.setting p.storage p.reached 0 _ (record { value = refl; kept = keeps }))

-- ---- what makes one touch, or none: a branch or a jump; a product or a division

-- a touch in the code, and the hierarchy before and after
pub record OneTouch (P : Type 0) : Type 0 where
  pub touch : Touch
  pub before : SystemContents P
  pub later : SystemContents P
  pub spent : ℕ
  pub cycles : ℕ

pub yields_touch : {P : Type 0} (rule : P → ℕ → Rule) (stands : P → ℕ → ℕ → List ℕ → Type 0)
    (p : Point) (caps : Slots) (memory : Contents) (g : OneTouch P) (x : Act (Unit {0}))
    → x ≡ touch g.touch
    → MakesTouch rule stands g.touch g.cycles g.before g.later
    → g.later.core.tlb ≡ g.before.core.tlb
    → Kept rule stands p.setting caps p.root memory g.before g.spent p.storage p.reached
    → YieldsAt p x
    (Answered p.dom (Ok tt) (Kept rule stands p.setting caps p.root memory g.later (g.spent + g.cycles)))
yields_touch {P} rule stands p caps memory g x is makes buffer k =
    let leaves : KeepsLeaves p.storage.mem memory.frames p.root g.later.core.tlb =
    subst (λ (b : Buffer P). KeepsLeaves p.storage.mem memory.frames p.root b) (sym buffer)
    k.leaves in
    let keeps =
    touch_kept rule stands p.setting memory g.before g.later g.touch caps p.root
    g.spent
    (g.spent + g.cycles) g.cycles p.storage p.reached makes refl leaves k in
    rw is
    (y_touch p.setting p.storage p.reached g.touch _
    (record { value = refl; kept = keeps }))

pub guesses_branch : (i : Instr) {comparison : Comparison} {rs1 rs2 offset : ℕ} (pc : ℕ) (e : Effect)
    → i ≡ instr.Branch comparison rs1 rs2 offset → guessed i pc e ≡ touch (Branch pc e.taken e.next)
unfolding guessed
guesses_branch i pc e is = rw is refl

pub guesses_jal : (i : Instr) {rd offset : ℕ} (pc : ℕ) (e : Effect)
    → i ≡ instr.Jal rd offset → guessed i pc e ≡ touch (JumpTouch pc e.next)
unfolding guessed
guesses_jal i pc e is = rw is refl

pub guesses_jalr : (i : Instr) {rd rs1 offset : ℕ} (pc : ℕ) (e : Effect)
    → i ≡ instr.Jalr rd rs1 offset → guessed i pc e ≡ touch (JumpTouch pc e.next)
unfolding guessed
guesses_jalr i pc e is = rw is refl

pub guessed_none : (p : Point) (K : Storage → Touched → Type 0) (i : Instr) (pc : ℕ) (e : Effect)
    → K p.storage p.reached
    → ((c : Comparison) (rs1 rs2 offset : ℕ) → i ≢ instr.Branch c rs1 rs2 offset)
    → ((rd offset : ℕ) → i ≢ instr.Jal rd offset)
    → ((rd rs1 offset : ℕ) → i ≢ instr.Jalr rd rs1 offset)
    → YieldsAt p (guessed i pc e) (Answered p.dom (Ok tt) K)
guessed_none p K i pc e keeps branch jal jalr =
    rw (guessed-other i pc e branch jal jalr)
    (y_give p.setting p.storage p.reached tt _ (record { value = refl; kept = keeps }))

-- cycles alone change nothing of the hierarchy
pub charge_makes : {P : Type 0} (rule : P → ℕ → Rule) (stands : P → ℕ → ℕ → List ℕ → Type 0) (cycles : ℕ)
    (system : SystemContents P) → MakesTouch rule stands (Charge cycles) cycles system system
unfolding touched on_core pass_on below_all
charge_makes rule stands cycles system = record {
  same = refl;
  pinned = refl;
  steps = λ caches stand. record { cost = omega arith; next = stand };
}

-- what products cost in the code is what they cost in the machine
pub same_costs : {P : Type 0} (rule : P → ℕ → Rule) (w : Setting) (system : SystemContents P)
    (products : Option ProductCosts) → IsSetting w → w.levels ≡ hierarchy_of rule system
    → products ≡ system.core.products → products ≡ w.machine.muldiv
same_costs rule w system products sound levels table =
    table ∙ sym (sound.products ∙ ap (λ (h : Hierarchy). h.products) levels)

-- an instruction that takes its own time, and then retires with these registers
pub yields_timed : {P : Type 0} (rule : P → ℕ → Rule) (stands : P → ℕ → ℕ → List ℕ → Type 0)
    (p : Point) (caps : Slots) (memory : Contents) (system : SystemContents P) (spent cycles : ℕ) (i : Instr)
    (new : Domain) (last : Dom)
    → computed p.setting.machine p.dom i ≡ touch (Charge cycles)
    → execute p.setting.machine p.root p.clock p.dom i ≡ give last
    → Stands new last
    → Kept rule stands p.setting caps p.root memory system spent p.storage p.reached
    → YieldsAt p (timed p.setting.machine p.root p.clock p.dom i)
    (Left new (Kept rule stands p.setting caps p.root memory system (spent + cycles)))
unfolding timed either
yields_timed rule stands p caps memory system spent cycles i new last computes executes is k =
    let once : OneTouch _ = record {
      touch = Charge cycles;
      before = system;
      later = system;
      spent = spent;
      cycles = cycles;
    } in
    let takes =
    yields_touch rule stands p caps memory once (computed p.setting.machine p.dom i) computes
    (charge_makes rule stands cycles system) refl k in
    y_next p.setting (computed p.setting.machine p.dom i) (execute p.setting.machine p.root p.clock p.dom i)
    p.storage p.reached _
    (y_found p.setting p.dom (Kept rule stands p.setting caps p.root memory system (spent + cycles))
    (computed p.setting.machine p.dom i) p.storage p.reached _ tt takes
    (λ t q n. rw executes (y_give p.setting t q last _ (record { dom = is; kept = n }))))

-- ---- the effect

module _ (p : Point) (K : Storage → Touched → Type 0) (i : Instr) (value : ℕ) (out : Outcome)
    (new : Domain)
    (keeps : K p.storage p.reached) where
  abbrev Settles : (Storage → Touched → Type 0) → Type 0
  Settles K' = YieldsAt p (settle p.setting.machine p.root p.dom i value out) (Left new K')

  pub settle_trapped : (trap : Trap) → out.effect.trap ≡ Some trap → Stands new (trapped trap p.dom)
      → Settles K
  unfolding settle either
  settle_trapped trap e stands = search (yields_rules, e, stands, keeps) depth 40

  module _ (K' K'' : Storage → Touched → Type 0) (e : out.effect.trap ≡ None)
      (guess :
      YieldsFrom p K (guessed i p.dom.threads.current.pc out.effect) (Answered p.dom (Ok tt) K'))
    where
      abbrev Stores : Result (Unit {0}) Trap → Type 0
      Stores result =
          YieldsFrom p K' (store p.setting.machine p.root p.dom out.effect.store)
          (Answered p.dom result K'')

      -- what comes after the guess
      abbrev rest_of : Act Dom
      rest_of =
          store p.setting.machine p.root p.dom out.effect.store
          >> give (retired_at out.effect.next out.regs (noted i value p.dom))

      settle_goes : (Q : Dom ⊎ Dom → Storage → Touched → Type 0) → YieldsFrom p K' rest_of Q
          → YieldsAt p (settle p.setting.machine p.root p.dom i value out) Q
      unfolding settle
      settle_goes Q rest = search (yields_rules, y_found, e, guess, rest, keeps) depth 40

      pub settle_faulted : (trap : Trap) → Stores (Err trap) → Stands new (trapped trap p.dom)
          → Settles K''
      unfolding either
      settle_faulted trap fault stands =
          settle_goes (Left new K'')
          (λ t q k. search (yields_rules, y_faults, fault, stands, k) depth 40)

      pub settle_finished : Stores (Ok tt)
          → Stands new (retired_at out.effect.next out.regs (noted i value p.dom))
          → Settles K''
      unfolding either
      settle_finished stores stands =
          settle_goes (Left new K'')
          (λ t q k. search (yields_rules, y_found, stores, stands, k) depth 40)

-- ---- an instruction that is no kernel call

-- what the domain's registers make of it
abbrev effect_at : Point → Instr → ℕ → Outcome
effect_at p i value = effect_of p.dom.threads.current.regs p.dom.threads.current.pc i value

module _ (p : Point) (K : Storage → Touched → Type 0) (i : Instr) (new : Domain)
    (keeps : K p.storage p.reached) where
  abbrev Executes : (Storage → Touched → Type 0) → Type 0
  Executes K' = YieldsAt p (execute p.setting.machine p.root p.clock p.dom i) (Left new K')

  abbrev Loads : (Storage → Touched → Type 0) → Result ℕ Trap → Type 0
  Loads K' result =
      YieldsFrom p K (loaded p.setting.machine p.root p.clock p.dom i) (Answered {A = ℕ} p.dom result K')

  -- what its address is misaligned by
  abbrev Misaligned : Option Trap → Type 0
  Misaligned trap = misalignment_of i (address_of p.dom.threads.current.regs i) ≡ trap

  pub execute_misaligned : (trap : Trap) → Misaligned (Some trap) → Stands new (trapped trap p.dom)
      → Executes K
  unfolding execute either
  execute_misaligned trap e stands = search (yields_rules, e, stands, keeps) depth 40

  pub execute_faulted : (K' : Storage → Touched → Type 0) (trap : Trap) → Misaligned None
      → Loads K' (Err trap)
      → Stands new (trapped trap p.dom) → Executes K'
  unfolding execute either
  execute_faulted K' trap e found stands =
      search (yields_rules, y_faults, e, found, stands, keeps) depth 40

  pub execute_settled : (value : ℕ) (K' K'' : Storage → Touched → Type 0) → Misaligned None
      → Loads K' (Ok value)
      → YieldsFrom p K' (settle p.setting.machine p.root p.dom i value (effect_at p i value)) (Left new K'')
      → Executes K''
  unfolding execute
  execute_settled value K' K'' e found rest =
      search (yields_rules, y_found, e, found, rest, keeps) depth 40

-- ---- the next instruction

-- the page of the next instruction is looked up so, from this root
abbrev LooksUp : Point → ℕ → Result ℕ Trap → (Storage → Touched → Type 0) → Type 0
LooksUp p root result K =
    YieldsAt p (translate p.setting.machine root p.dom access.Fetch p.dom.threads.current.pc)
    (Answered {A = ℕ} p.dom result K)

-- a look-up leaves the boxes
looks_boxed : (p : Point) (root : ℕ) (result : Result ℕ Trap) (K : Storage → Touched → Type 0) (mail : Boxes)
    → mail ≡ p.storage.boxes → LooksUp p root result K → LooksUp p root result (Boxed mail K)
unfolding translate
looks_boxed p root result K mail same found = record {
  met = record { value = found.met.value; kept = record { kept = found.met.kept; boxes = same } };
}

-- and so do steps that leave these
left_boxed : (w : Setting) (x : Act Dom) (s : Storage) (r : Touched) (new : Domain) (K : Storage → Touched → Type 0)
    (mail : Boxes) → mail ≡ (x s).state.boxes → Yields w x s r (Left new K) → Yields w x s r (Left new (Boxed mail K))
left_boxed w x s r new K mail same left = record {
  met = record { dom = left.met.dom; kept = record { kept = left.met.kept; boxes = same } };
}

-- the fetch of a word in the code: where it was found, the line of that address, the boxes, the hierarchy before and
-- after, whether there are products, and the cycles spent before it and on it
pub record Fetched (P : Type 0) : Type 0 where
  pub caps : Slots
  pub memory : Contents
  pub mail : Boxes
  pub before : SystemContents P
  pub later : SystemContents P
  pub at : ℕ
  pub line : ℕ
  pub word : ℕ
  pub muldiv : Bool
  pub spent : ℕ
  pub cycles : ℕ

-- what is kept after it
abbrev pub AfterFetch : {P : Type 0} → (P → ℕ → Rule) → (P → ℕ → ℕ → List ℕ → Type 0) → Point
    → Fetched P
    → Storage → Touched → Type 0
AfterFetch rule stands p f =
    Boxed f.mail (Kept rule stands p.setting f.caps p.root f.memory f.later (f.spent + f.cycles))

-- it is the domain's next instruction
pub record IsFetched {P : Type 0} (rule : P → ℕ → Rule) (stands : P → ℕ → ℕ → List ℕ → Type 0)
    (p : Point) (f : Fetched P) : Type 0 where
  pub page : LooksUp p p.root (Ok (f.at / 4096))
      (Kept rule stands p.setting f.caps p.root f.memory f.before f.spent)
  pub boxes : f.mail ≡ p.storage.boxes
  pub placed_at : f.at % 4096 ≡ p.dom.threads.current.pc % 4096
  pub line : f.line ≡ f.at / f.before.l2.line_size
  pub makes : MakesTouch rule stands (Fetch f.line) f.cycles f.before f.later
  pub muldiv : f.muldiv ≡ is_some f.later.core.products
  pub buffer : f.later.core.tlb ≡ f.before.core.tlb
  pub found : (m : Mem) → Holds f.memory m
      → f.word ≡ word m (f.at / 4096) (place p.dom.threads.current.pc)

module _ (p : Point) (new : Domain)
    (top : p.root ≡ (estate p.setting.machine p.setting.own).root) where
  abbrev Runs : (Storage → Touched → Type 0) → Type 0
  Runs K =
      let w = p.setting in
      YieldsAt p
      (instruction w.machine (estate w.machine w.own) w.clone p.clock p.dom)
      (Left new K)

  pub instruction_missed : (K : Storage → Touched → Type 0) (mail : Boxes) (trap : Trap) → mail ≡ p.storage.boxes
      → LooksUp p p.root (Err trap) K → Stands new (trapped trap p.dom) → Runs (Boxed mail K)
  unfolding instruction either
  instruction_missed K mail trap same missed stands =
      let root : ℕ = (estate p.setting.machine p.setting.own).root in
      let fault : LooksUp p root (Err trap) (Boxed mail K) =
      looks_boxed p root (Err trap) K mail same (subst (λ (n : ℕ). LooksUp p n (Err trap) K) top missed) in
      search (yields_rules, y_faults, fault, stands) depth 40

  module _ {P : Type 0} (rule : P → ℕ → Rule) (stands : P → ℕ → ℕ → List ℕ → Type 0) (f : Fetched P)
      (is : IsFetched rule stands p f) where
    -- from after the fetch these steps end so
    abbrev Goes : (Setting → Act Dom) → (Storage → Touched → Type 0) → Type 0
    Goes x K = YieldsFrom p (AfterFetch rule stands p f) (x p.setting) (Left new K)

    abbrev Performs : (Storage → Touched → Type 0) → ℕ → Option Instr → Type 0
    Performs K x i = Goes (λ w. perform w.machine (estate w.machine w.own) w.clone p.clock p.dom x i) K

    instruction_read : (K : Storage → Touched → Type 0) → Performs K f.word (decode_of f.muldiv f.word)
        → Runs K
    unfolding instruction
    instruction_read K rest =
        let w = p.setting in
        let e = estate w.machine w.own in
        let l = w.clone in
        let Before = Kept rule stands w f.caps p.root f.memory f.before f.spent in
        let M = Boxed f.mail Before in
        let N = AfterFetch rule stands p f in
        let frame = f.at / 4096 in
        let pc = p.dom.threads.current.pc in
        let there : LooksUp p e.root (Ok frame) M =
        looks_boxed p e.root (Ok frame) Before f.mail is.boxes
        (subst (λ (n : ℕ). LooksUp p n (Ok frame) Before) top is.page) in
        let line : Touch = Fetch (line_in w.machine frame pc) in
        let fetches : (u : Storage) (q : Touched) → M u q → N u (charged w q line) =
        λ u q k. record {
          kept =
              line_kept rule stands w f.caps p.root f.memory (λ n. Fetch n) f.at pc f.line f.spent
              (f.spent + f.cycles) f.cycles
              f.before f.later u q is.placed_at is.line is.makes is.buffer refl k.kept;
          boxes = k.boxes;
        } in
        let Does : Storage → Touched → ℕ → Type 0 = λ u q x.
        Yields w (perform w.machine e l p.clock p.dom x (decode_of (is_some w.machine.muldiv) x)) u q (Left new K) in
        let Performed : Storage → Touched → Bool → Type 0 = λ u q b.
        Yields w (perform w.machine e l p.clock p.dom f.word (decode_of b f.word)) u q (Left new K) in
        let goes : (u : Storage) (q : Touched) → N u q → Does u q (word u.mem frame (place pc)) =
        λ u q k.
        let products = k.kept.fits.sound.products ∙ ap (λ (h : Hierarchy). h.products) k.kept.fits.levels in
        let flag = is.muldiv ∙ ap (λ (o : Option ProductCosts). is_some o) (sym products) in
        subst (Does u q) (is.found u.mem k.kept.holds) (subst (Performed u q) flag (rest u q k)) in
        search (yields_rules, y_found, there, fetches, goes) depth 40

    pub instruction_undefined : (trap : Trap)
        → trap ≡ record { exception = exception.IllegalInstruction; value = f.word }
        → decode_of f.muldiv f.word ≡ None
        → Stands new (trapped trap p.dom) → Runs (AfterFetch rule stands p f)
    unfolding perform trapped either
    instruction_undefined trap same none stands' =
        let dom = subst (λ (x : Trap). Stands new (stopped (code_of x.exception) x.value p.dom)) same stands' in
        instruction_read (AfterFetch rule stands p f)
        (λ u q k.
        rw none (y_stop p.setting u q (stopped 2 f.word p.dom) _ (record { dom = dom; kept = k })))

    pub instruction_called : (K : Storage → Touched → Type 0) → decode_of f.muldiv f.word ≡ Some instr.Ecall
        → Goes (λ w. make_call w.machine (estate w.machine w.own) w.clone p.dom) K → Runs K
    unfolding perform
    instruction_called K some rest = instruction_read K (λ u q k. rw some (rest u q k))

    pub instruction_timed : (i : Instr) (K : Storage → Touched → Type 0)
        → decode_of f.muldiv f.word ≡ Some i → i ≢ instr.Ecall
        → Goes (λ w. timed w.machine p.root p.clock p.dom i) K → Runs (Boxed f.mail K)
    instruction_timed i K some other rest =
        let w = p.setting in
        let e = estate w.machine w.own in
        let l = w.clone in
        instruction_read (Boxed f.mail K) (λ u q k.
        rw (some, perform-other w.machine e l p.clock p.dom f.word i other)
        (left_boxed w (timed w.machine e.root p.clock p.dom i) u q new K f.mail
        (k.boxes ∙ sym (timed_boxes w.machine e p.clock p.dom i u))
        (subst (λ (n : ℕ). Yields w (timed w.machine n p.clock p.dom i) u q (Left new K)) top (rest u q k))))

    pub instruction_executed : (i : Instr) (K : Storage → Touched → Type 0)
        → decode_of f.muldiv f.word ≡ Some i → i ≢ instr.Ecall
        → ((c : Product) (rd rs1 rs2 : ℕ) → i ≢ instr.Multiply c rd rs1 rs2)
        → ((c : Division) (rd rs1 rs2 : ℕ) → i ≢ instr.Divide c rd rs1 rs2)
        → Goes (λ w. execute w.machine p.root p.clock p.dom i) K → Runs (Boxed f.mail K)
    instruction_executed i K some other multiply divide rest =
        instruction_timed i K some other
        (λ u q k.
        rw (timed-other p.setting.machine p.root p.clock p.dom i multiply divide) (rest u q k))

-- the code's table of costs has products where its own are some
pub same_products : {A B : Type 0} (f : A → B) (o : Option A) (products : Option B) (b : Bool) → b ≡ is_some o
    → option_map f o ≡ products → b ≡ is_some products
same_products f None products b is e = is ∙ ap (λ (x : Option _). is_some x) e
same_products f (Some a) products b is e = is ∙ ap (λ (x : Option _). is_some x) e

-- the word of an address is that of the place where its own word begins
pub found_word : (m : Mem) (x at pc : ℕ) → at % 4096 ≡ pc % 4096
    → x ≡ word m (frame_of (at / 4 * 4)) (word_place (at / 4 * 4)) → x ≡ word m (at / 4096) (place pc)
found_word m x at pc e is =
    let frame : frame_of (at / 4 * 4) ≡ at / 4096 = omega arith in
    let there : word_place (at / 4 * 4) ≡ place pc = omega (arith, e) in
    is ∙ ap₂ (word m) frame there

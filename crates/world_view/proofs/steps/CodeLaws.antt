-- What code that runs the machine wants to know of its definitions.
use Rattle.std.proofs.Common.{◌≡◌, ◌≢◌, ℕ, ◌+◌, ◌*◌, ◌/◌, ◌%◌, ◌^◌, ◌≤◌, max, true, false, cond, eqb, List, [], ◌∷◌, ◌++◌, length, Some, None, Result, inl, inr, refl, sym, ap, ◌∙◌, arith, add-zero, eq-eqb, ne_eqb}
use Rattle.std.specs.List.{sum_by}
use Rattle.std.proofs.lemmas.Bool.{cases_Bool, cases_lt}
use Rattle.std.proofs.lemmas.List.{get_or_past}
use Rattle.std.proofs.lemmas.List.Sums.{sum_by-append}
use Rattle.tp_base.specs.Table.{at}
use Rattle.tp_base.specs.Act.{◌>>=◌, ◌>>◌, go_on, give}
use Rattle.rv_decode.specs.declared.Instr.{Instr}
use Rattle.rv_decode.specs.declared.Instr.TheVariants as instr
use Rattle.rv_decode.specs.declared.Counter.{Counter}
use Rattle.rv_decode.specs.declared.Product.{Product}
use Rattle.rv_decode.specs.declared.Division.{Division}
use Rattle.rv_core.specs.Registers.{register, with_register}
use Rattle.rv_core.specs.Products.{product_of, division_of}
use Rattle.world_view.specs.Instruction.{retired_at}
use Rattle.rv_core.specs.declared.Effect.{Effect}
use Rattle.sv32_walk.specs.declared.access.Access.{Access}
use Rattle.sv32_walk.specs.declared.access.WalkFault.{WalkFault}
use Rattle.sv32_walk.specs.Walk.{walk}
use Rattle.hardware_check.specs.Hardware.{Hardware}
use Rattle.image_check.specs.Image.{Image, own_of}
use Rattle.sched_table.specs.Schedule.{entry_of_slot, slot_end, outgoing}
use Rattle.world_view.specs.Opening.{word_of, page_words}
use Rattle.irq_partition.specs.Interrupts.{next_cycle, due}
use Rattle.thread_set.specs.Threads.{is_ready}
use Rattle.call_table.specs.Domain.{Dom, is_running}
use Rattle.call_table.specs.Claims.{Estate}
use Rattle.kernel_clone.specs.Footprints.{Layout}
use Rattle.world_view.specs.Kernel.{opening_dom, estate}
use Rattle.mem_system.specs.Cost.{Touched}
use Rattle.world_view.specs.Event.{Storage, Act, frame_or_stop, translate, unless, store, settle, computed, loaded, noted, guessed, execute, timed, perform, instruction, interrupts_of, idle_until, event}
use Rattle.world_view.specs.Machine.{caches_of, Setting, setting, Local, paid, delivered, happened, step, stretch, World, dom_of, part_of, switch_work, switch, whole, whole_by}
use Rattle.world_view.specs.Relations.{IsDomain}
use Rattle.world_view.proofs.opening.Separate.{Separated}
use Rattle.world_view.proofs.opening.OpeningLaws.{at-tabled, at-tabled_past, opening_dom_is}
use Rattle.world_view.specs.Used.{largest_of, count_of}

-- ---- memory at its opening

-- past the last byte there are zeros
word_of-past : (bytes : List ℕ) (i : ℕ) → (length bytes + 3) / 4 ≤ i → word_of bytes i ≡ 0
word_of-past bytes i h =
    let past : length bytes ≤ 4 * i = omega arith in
    rw (
      get_or_past bytes (4 * i) 0 past,
      get_or_past bytes (4 * i + 1) 0 (omega arith),
      get_or_past bytes
          (4 * i + 2) 0 (omega arith),
      get_or_past bytes (4 * i + 3) 0 (omega arith),
    )

pub at-page_words : (bytes : List ℕ) (i : ℕ) → at 0 (page_words bytes) i ≡ word_of bytes i
unfolding page_words
at-page_words bytes i =
    elim (cases_lt i ((length bytes + 3) / 4)) [
      | inl within ↦ at-tabled (word_of bytes) ((length bytes + 3) / 4) i within
      | inr past ↦ at-tabled_past (word_of bytes) ((length bytes + 3) / 4) i past ∙ sym (word_of-past bytes i past)
    ]

-- ---- steps of a domain, by what they end with and what they leave

module _ {A B : Type 0} (x : Act A) (y : A → Act B) (s : Storage) where
  pub bind_value : (a : A) → (x s).value ≡ inr a → ((x >>= y) s).value ≡ (y a (x s).state).value
  unfolding ◌>>=◌ go_on
  bind_value a e = rw e

module _ (p : Hardware) (root : ℕ) (d : Dom) (a : Access) (va : ℕ) (s : Storage) where
  pub translate_value : (r : Result ℕ WalkFault) → (walk s.mem p.frames root va a).result ≡ r
      → (translate p root d a va s).value ≡ frame_or_stop d a va r
  unfolding translate
  translate_value r e = ap (frame_or_stop d a va) e

pub noted-other : (i : Instr) (value : ℕ) (d : Dom) → ((c : Counter) (rd : ℕ) → i ≢ instr.ReadCounter c rd)
    → noted i value d ≡ d
unfolding noted
noted-other (instr.ReadCounter c rd) value d other = absurd (other c rd refl)
noted-other (instr.Lui rd imm) value d other = refl
noted-other (instr.Auipc rd imm) value d other = refl
noted-other (instr.Jal rd offset) value d other = refl
noted-other (instr.Jalr rd rs1 offset) value d other = refl
noted-other (instr.Branch comparison rs1 rs2 offset) value d other = refl
noted-other (instr.Load width rd rs1 offset) value d other = refl
noted-other (instr.Store width rs1 rs2 offset) value d other = refl
noted-other (instr.Immediate operation rd rs1 imm) value d other = refl
noted-other (instr.Register operation rd rs1 rs2) value d other = refl
noted-other (instr.Multiply product rd rs1 rs2) value d other = refl
noted-other (instr.Divide division rd rs1 rs2) value d other = refl
noted-other instr.Fence value d other = refl
noted-other instr.Ecall value d other = refl
noted-other instr.Ebreak value d other = refl

pub loaded-other : (p : Hardware) (root : ℕ) (t : ℕ) (d : Dom) (i : Instr)
    → ((w : _) (rd rs1 offset : ℕ) → i ≢ instr.Load w rd rs1 offset)
    → ((c : Counter) (rd : ℕ) → i ≢ instr.ReadCounter c rd)
    → loaded p root t d i ≡ give 0
unfolding loaded
loaded-other p root t d (instr.ReadCounter c rd) load other = absurd (other c rd refl)
loaded-other p root t d (instr.Lui rd imm) load other = refl
loaded-other p root t d (instr.Auipc rd imm) load other = refl
loaded-other p root t d (instr.Jal rd offset) load other = refl
loaded-other p root t d (instr.Jalr rd rs1 offset) load other = refl
loaded-other p root t d (instr.Branch comparison rs1 rs2 offset) load other = refl
loaded-other p root t d (instr.Load width rd rs1 offset) load other = absurd (load width rd rs1 offset refl)
loaded-other p root t d (instr.Store width rs1 rs2 offset) load other = refl
loaded-other p root t d (instr.Immediate operation rd rs1 imm) load other = refl
loaded-other p root t d (instr.Register operation rd rs1 rs2) load other = refl
loaded-other p root t d (instr.Multiply product rd rs1 rs2) load other = refl
loaded-other p root t d (instr.Divide division rd rs1 rs2) load other = refl
loaded-other p root t d instr.Fence load other = refl
loaded-other p root t d instr.Ecall load other = refl
loaded-other p root t d instr.Ebreak load other = refl

pub perform-other : (p : Hardware) (e : Estate) (l : Layout) (t : ℕ) (d : Dom) (w : ℕ) (i : Instr)
    → i ≢ instr.Ecall → perform p e l t d w (Some i) ≡ timed p e.root t d i
unfolding perform
perform-other p e l t d w (instr.ReadCounter c rd) other = refl
perform-other p e l t d w (instr.Lui rd imm) other = refl
perform-other p e l t d w (instr.Auipc rd imm) other = refl
perform-other p e l t d w (instr.Jal rd offset) other = refl
perform-other p e l t d w (instr.Jalr rd rs1 offset) other = refl
perform-other p e l t d w (instr.Branch comparison rs1 rs2 offset) other = refl
perform-other p e l t d w (instr.Load width rd rs1 offset) other = refl
perform-other p e l t d w (instr.Store width rs1 rs2 offset) other = refl
perform-other p e l t d w (instr.Immediate operation rd rs1 imm) other = refl
perform-other p e l t d w (instr.Register operation rd rs1 rs2) other = refl
perform-other p e l t d w (instr.Multiply product rd rs1 rs2) other = refl
perform-other p e l t d w (instr.Divide division rd rs1 rs2) other = refl
perform-other p e l t d w instr.Fence other = refl
perform-other p e l t d w instr.Ecall other = absurd (other refl)
perform-other p e l t d w instr.Ebreak other = refl

-- only branches and jumps are
pub guessed-other : (i : Instr) (pc : ℕ) (e : Effect)
    → ((c : _) (rs1 rs2 offset : ℕ) → i ≢ instr.Branch c rs1 rs2 offset)
    → ((rd offset : ℕ) → i ≢ instr.Jal rd offset)
    → ((rd rs1 offset : ℕ) → i ≢ instr.Jalr rd rs1 offset) → guessed i pc e ≡ give tt
unfolding guessed
guessed-other (instr.Branch comparison rs1 rs2 offset) pc e branch jal jalr = absurd (branch comparison rs1 rs2 offset refl)
guessed-other (instr.Jal rd offset) pc e branch jal jalr = absurd (jal rd offset refl)
guessed-other (instr.Jalr rd rs1 offset) pc e branch jal jalr = absurd (jalr rd rs1 offset refl)
guessed-other (instr.ReadCounter c rd) pc e branch jal jalr = refl
guessed-other (instr.Lui rd imm) pc e branch jal jalr = refl
guessed-other (instr.Auipc rd imm) pc e branch jal jalr = refl
guessed-other (instr.Load width rd rs1 offset) pc e branch jal jalr = refl
guessed-other (instr.Store width rs1 rs2 offset) pc e branch jal jalr = refl
guessed-other (instr.Immediate operation rd rs1 imm) pc e branch jal jalr = refl
guessed-other (instr.Register operation rd rs1 rs2) pc e branch jal jalr = refl
guessed-other (instr.Multiply product rd rs1 rs2) pc e branch jal jalr = refl
guessed-other (instr.Divide division rd rs1 rs2) pc e branch jal jalr = refl
guessed-other instr.Fence pc e branch jal jalr = refl
guessed-other instr.Ecall pc e branch jal jalr = refl
guessed-other instr.Ebreak pc e branch jal jalr = refl

-- only products and divisions take a time of their own
pub computed-other : (p : Hardware) (d : Dom) (i : Instr)
    → ((c : _) (rd rs1 rs2 : ℕ) → i ≢ instr.Multiply c rd rs1 rs2)
    → ((c : _) (rd rs1 rs2 : ℕ) → i ≢ instr.Divide c rd rs1 rs2) → computed p d i ≡ give tt
unfolding computed
computed-other p d (instr.Multiply product rd rs1 rs2) multiply divide = absurd (multiply product rd rs1 rs2 refl)
computed-other p d (instr.Divide division rd rs1 rs2) multiply divide = absurd (divide division rd rs1 rs2 refl)
computed-other p d (instr.Branch comparison rs1 rs2 offset) multiply divide = refl
computed-other p d (instr.Jal rd offset) multiply divide = refl
computed-other p d (instr.Jalr rd rs1 offset) multiply divide = refl
computed-other p d (instr.ReadCounter c rd) multiply divide = refl
computed-other p d (instr.Lui rd imm) multiply divide = refl
computed-other p d (instr.Auipc rd imm) multiply divide = refl
computed-other p d (instr.Load width rd rs1 offset) multiply divide = refl
computed-other p d (instr.Store width rs1 rs2 offset) multiply divide = refl
computed-other p d (instr.Immediate operation rd rs1 imm) multiply divide = refl
computed-other p d (instr.Register operation rd rs1 rs2) multiply divide = refl
computed-other p d instr.Fence multiply divide = refl
computed-other p d instr.Ecall multiply divide = refl
computed-other p d instr.Ebreak multiply divide = refl

-- what they do to the domain
pub executed-product : (p : Hardware) (r t : ℕ) (d : Dom) (product : Product) (rd rs1 rs2 : ℕ)
    → let regs = d.threads.current.regs in
    execute p r t d (instr.Multiply product rd rs1 rs2)
    ≡ give (retired_at ((d.threads.current.pc + 4) % 2 ^ 32)
    (with_register regs rd (product_of product (register regs rs1) (register regs rs2))) d)
unfolding execute unless loaded settle guessed store noted ◌>>◌ ◌>>=◌ go_on give
executed-product p r t d product rd rs1 rs2 = refl

pub executed-division : (p : Hardware) (r t : ℕ) (d : Dom) (division : Division) (rd rs1 rs2 : ℕ)
    → let regs = d.threads.current.regs in
    execute p r t d (instr.Divide division rd rs1 rs2)
    ≡ give (retired_at ((d.threads.current.pc + 4) % 2 ^ 32)
    (with_register regs rd (division_of division (register regs rs1) (register regs rs2))) d)
unfolding execute unless loaded settle guessed store noted ◌>>◌ ◌>>=◌ go_on give
executed-division p r t d division rd rs1 rs2 = refl

pub timed-other : (p : Hardware) (r t : ℕ) (d : Dom) (i : Instr)
    → ((c : _) (rd rs1 rs2 : ℕ) → i ≢ instr.Multiply c rd rs1 rs2)
    → ((c : _) (rd rs1 rs2 : ℕ) → i ≢ instr.Divide c rd rs1 rs2) → timed p r t d i ≡ execute p r t d i
unfolding timed ◌>>◌ ◌>>=◌ go_on give
timed-other p r t d i multiply divide = rw (computed-other p d i multiply divide) refl

module _ (w : Setting) (end : ℕ) (s : Local) where
  -- no moment is due, and the current thread is ready
  pub step-running : is_running s.dom.status ≡ true → due s.clock (interrupts_of w.own s.dom) ≡ None
      → is_ready s.dom.threads.current.state ≡ true
      → step w end s ≡ paid w s.caches s.clock (instruction w.machine (estate w.machine w.own) w.clone s.clock s.dom s.storage)
  unfolding step event happened
  step-running runs none ready = rw (runs, none, ready)

  -- no moment is due, and no thread is ready
  pub step-idle : is_running s.dom.status ≡ true → due s.clock (interrupts_of w.own s.dom) ≡ None
      → is_ready s.dom.threads.current.state ≡ false
      → step w end s ≡ record s { clock = idle_until end (next_cycle (interrupts_of w.own s.dom)) }
  unfolding step event happened
  step-idle runs none ready = rw (runs, none, ready)

  -- a moment is due
  pub step-due : (line : ℕ) → is_running s.dom.status ≡ true
      → due s.clock (interrupts_of w.own s.dom) ≡ Some line
      → step w end s ≡ delivered w line s
  unfolding step event happened
  step-due line runs is = rw (runs, is)

  pub step-still : is_running s.dom.status ≡ false → step w end s ≡ record s { clock = end }
  unfolding step event happened
  step-still still = rw still

-- ---- a switch

module _ (i : Image) (k : ℕ) (w : World) where
  abbrev pub work : Touched
  work = switch_work i (outgoing i.all.schedule k) (entry_of_slot i.all.schedule k).domain (caches_of 0 w)

  -- the domain of slot k as it begins, and as it ends
  abbrev pub slot_begun : Local
  slot_begun = part_of 0 (entry_of_slot i.all.schedule k).domain (switch i k w)

  abbrev pub slot_over : Local
  slot_over =
      stretch (setting i.all.hardware (own_of i (entry_of_slot i.all.schedule k).domain) false)
      (slot_end i.all.schedule k) slot_begun

-- ---- the opening

pub whole_first-dom : (i : Image) (d : ℕ) → Separated i → IsDomain i d
    → dom_of (whole i 0) d ≡ opening_dom i.all.hardware (own_of i d)
unfolding whole_by
whole_first-dom i d r is = opening_dom_is i r d is

-- ---- what switches took, with one more

abbrev counted : ℕ → ℕ × ℕ → ℕ
counted e u = cond (eqb u.0 e) 1 0

pub count_of-push_same : (e v : ℕ) (us : List (ℕ × ℕ)) → count_of e (us ++ (e, v) ∷ []) ≡ count_of e us + 1
unfolding count_of
count_of-push_same e v us =
    let one : sum_by (counted e) ((e, v) ∷ []) ≡ 1 = rw (eq-eqb e e refl) in
    sum_by-append (counted e) us ((e, v) ∷ []) ∙ ap (λ n. sum_by (counted e) us + n) one

pub count_of-push_other : (e j v : ℕ) (us : List (ℕ × ℕ)) → j ≢ e
    → count_of e (us ++ (j, v) ∷ []) ≡ count_of e us
unfolding count_of
count_of-push_other e j v us other =
    let none : sum_by (counted e) ((j, v) ∷ []) ≡ 0 = rw (ne_eqb j e other) in
    sum_by-append (counted e) us ((j, v) ∷ []) ∙ ap (λ n. sum_by (counted e) us + n) none ∙ add-zero (sum_by (counted e) us)

pub largest_of-push_same : (e v : ℕ) (us : List (ℕ × ℕ))
    → largest_of e (us ++ (e, v) ∷ []) ≡ max (largest_of e us) v
unfolding largest_of
largest_of-push_same e v [] = rw (eq-eqb e e refl) (omega arith)
largest_of-push_same e v (u ∷ us) =
    elim (cases_Bool (eqb u.0 e)) [
      | inl same ↦ let rest = largest_of-push_same e v us in rw same (omega (arith, rest))
      | inr other ↦ let rest = largest_of-push_same e v us in rw other rest
    ]

pub largest_of-push_other : (e j v : ℕ) (us : List (ℕ × ℕ)) → j ≢ e
    → largest_of e (us ++ (j, v) ∷ []) ≡ largest_of e us
unfolding largest_of
largest_of-push_other e j v [] other = rw (ne_eqb j e other)
largest_of-push_other e j v (u ∷ us) other =
    elim (cases_Bool (eqb u.0 e)) [
      | inl same ↦ let rest = largest_of-push_other e j v us other in rw (same, rest)
      | inr apart ↦ let rest = largest_of-push_other e j v us other in rw (apart, rest)
    ]

-- What an instruction costs at worst, with the kernel call that it makes.
use Rattle.std.proofs.Common.{◌≡◌, ℕ, ◌+◌, ◌*◌, ◌/◌, ◌≤◌, Bool, true, false, if◌then◌else◌, List, [], ◌∷◌, length, Option, Some, None, Result, Ok, Err, ◌≢◌, ◌⊎◌, inl, inr, refl, sym, subst, arith, le_refl, mul-le-mul_right}
use Rattle.std.specs.Prelude.{is_some}
use Rattle.std.proofs.lemmas.List.{length-map}
use Rattle.std.proofs.lemmas.Nat.{mul-le}
use Rattle.tp_base.specs.Act.{Done, go_on, ◌>>=◌, ◌>>◌, give, stop, note}
use Rattle.phys_mem.specs.Mem.{Mem, word}
use Rattle.rv_decode.specs.Table.{decode_of}
use Rattle.rv_decode.specs.declared.Instr.{Instr}
use Rattle.rv_decode.specs.declared.Instr.TheVariants as instr
use Rattle.rv_decode.specs.declared.LoadWidth.{LoadWidth}
use Rattle.rv_core.specs.declared.Effect.{Effect}
use Rattle.rv_core.specs.Registers.{register}
use Rattle.rv_core.specs.Products.{digits_of, dividend_of}
use Rattle.rv_core.proofs.Digits.{least_power-few}
use Rattle.cycle_cost.specs.Costs.{ProductCosts, most_added}
use Rattle.rv_core.specs.Effect as effect
use Rattle.rv_core.specs.Effect.{Outcome, continuation, effect_of}
use Rattle.rv_core.specs.declared.Store.{Store as StoreMade}
use Rattle.rv_core.specs.declared.Trap.{Trap}
use Rattle.sv32_walk.specs.declared.access.Access.{Access}
use Rattle.sv32_walk.specs.declared.access.Access.TheVariants as access
use Rattle.sv32_walk.specs.declared.access.WalkFault.{WalkFault}
use Rattle.sv32_walk.specs.PageTableEntry.{ppn}
use Rattle.sv32_walk.specs.Walk.{walk, from_table, from_entry, first_level}
use Rattle.kernel_clone.specs.Footprints.{touches, delivery_op}
use Rattle.pad_bound.specs.Bound.{worst_look, worst_read, worst_fetch, worst_access, worst_instruction, worst_operation}
use Rattle.pad_bound.specs.Worst.{AreWithin, IsPermitted}
use Rattle.pad_bound.proofs.Parts.{operation_covers, few_written}
use Rattle.mem_system.specs.Cost.{Touch, Fetch, Load, Store as StoreTouch, Branch, Jump, EmptyTlb, Charge}
use Rattle.mem_system.specs.Translation.{lines_of, look_of}
use Rattle.mem_system.specs.Operations.{footprint, operation, plain}
use Rattle.mem_system.specs.Worst.{worst_touch, worst_touches}
use Rattle.mem_system.proofs.Worst.{worst-append, worst_lines}
use Rattle.call_table.specs.Domain.{Dom}
use Rattle.call_table.specs.Calls.{empties, work_of, number_made}
use Rattle.call_table.specs.Mail.{called}
use Rattle.call_table.proofs.MailCalls.{allowed_work}
use Rattle.hardware_check.specs.Hardware.{Hardware}
use Rattle.image_check.specs.Own.{Own}
use Rattle.image_check.specs.Pads.{again_of}
use Rattle.world_view.specs.Kernel.{estate, layout}
use Rattle.world_view.specs.Cost.{hierarchy}
use Rattle.world_view.specs.EventLaws.{instruction_at, next_instruction}
use Rattle.world_view.specs.Frames.{root_of}
use Rattle.world_view.specs.Event.{Storage, Act, touch, frame_or_stop, translate, place, line_in, read, write, unless, load, store, product_time, division_time, digits_in, computed, loaded, guessed, settle, execute, timed, call_touches, make_call, perform, instruction, delivery_touches}
use Rattle.world_view.specs.Relations.{own_shape, largest_step}

-- a walk reads two entries at most
few_reads : (m : Mem) (frames root va : ℕ) (a : Access) → length (walk m frames root va a).reads ≤ 2
unfolding walk from_entry from_table first_level
few_reads m frames root va a = grind arith

-- a product or a division takes no longer than the longest
few_product : (products : Option ProductCosts) → product_time products ≤ most_added products
few_product None = omega arith
few_product (Some costs) = omega arith

few_division : (products : Option ProductCosts) (digits : ℕ) → digits ≤ 32
    → division_time products digits ≤ most_added products
few_division None digits few = omega arith
few_division (Some costs) digits few =
    let most = mul-le costs.div (1 + digits) costs.div 33 (le_refl costs.div) (omega (arith, few)) in
    omega (arith, most)

few_digits : (n : ℕ) → digits_of n ≤ 32
few_digits n = let few = least_power-few 32 0 n in omega (arith, few)

module _ (p : Hardware) where
  worst : List Touch → ℕ
  worst ts = worst_touches (hierarchy p) ts

  -- steps whose touches cost at most so much, from any memory
  record Costs {A : Type 0} (most : ℕ) (x : Act A) : Type 0 where
    within : (s : Storage) → worst (x s).notes ≤ most

  on_costs : {A B : Type 0} (a b : ℕ) (r : Done Storage Touch Dom A) (y : A → Act B) (v : Dom ⊎ A)
      → worst r.notes ≤ a → ((v : A) → Costs b (y v)) → worst (go_on r y v).notes ≤ a + b
  unfolding go_on worst
  on_costs a b r y (inl d) first rest = omega (arith, first)
  on_costs a b r y (inr v) first rest =
      let next = (rest v).within r.state in
      let both = worst-append (hierarchy p) r.notes (y v r.state).notes in
      omega (arith, first, next, both)

  bind_costs : {A B : Type 0} (a b : ℕ) (x : Act A) (y : A → Act B) → Costs a x → ((v : A) → Costs b (y v))
      → Costs (a + b) (x >>= y)
  unfolding ◌>>=◌
  bind_costs a b x y first rest = record { within = λ s. on_costs a b (x s) y (x s).value (first.within s) rest }

  then_costs : {A B : Type 0} (a b : ℕ) (x : Act A) (y : Act B) → Costs a x → Costs b y
      → Costs (a + b) (x >> y)
  unfolding ◌>>◌
  then_costs a b x y first rest = bind_costs a b x (λ _. y) first (λ _. rest)

  more : {A : Type 0} (a b : ℕ) (x : Act A) → a ≤ b → Costs a x → Costs b x
  more a b x few h = record { within = λ s. let within = h.within s in omega (arith, within, few) }

  -- ---- primitives

  give_costs : {A : Type 0} (v : A) → Costs 0 (give v)
  unfolding give worst worst_touches
  give_costs v = record { within = λ s. le_refl 0 }

  stop_costs : {A : Type 0} (d : Dom) → Costs 0 (stop {A = A} d)
  unfolding stop worst worst_touches
  stop_costs d = record { within = λ s. le_refl 0 }

  read_costs : (f i : ℕ) → Costs 0 (read f i)
  unfolding read worst worst_touches
  read_costs f i = record { within = λ s. le_refl 0 }

  write_costs : (f i v : ℕ) → Costs 0 (write f i v)
  unfolding write worst worst_touches
  write_costs f i v = record { within = λ s. le_refl 0 }

  unless_costs : (trap : Option Trap) (d : Dom) → Costs 0 (unless trap d)
  unfolding unless
  unless_costs None d = give_costs tt
  unless_costs (Some trap) d = stop_costs _

  touch_costs : (t : Touch) → Costs (worst_touch (hierarchy p) t) (touch t)
  unfolding touch note worst worst_touches
  touch_costs t = record { within = λ s. omega arith }

  -- a look-up makes two reads at most
  translate_costs : (root : ℕ) (d : Dom) (a : Access) (va : ℕ)
      → Costs (worst_look p.costs (again_of p)) (translate p root d a va)
  unfolding translate look_of lines_of worst worst_touches hierarchy
  translate_costs root d a va = record {
    within = λ s.
        let reads = (walk s.mem p.frames root va a).reads in
        let many : length (lines_of p.line reads) * worst_read p.costs (again_of p) ≤ 2 * worst_read p.costs (again_of p) =
        mul-le-mul_right (worst_read p.costs (again_of p))
        (subst (λ (n : ℕ). n ≤ 2) (sym (length-map reads (λ at. at / p.line)))
        (few_reads s.mem p.frames root va a)) in
        omega (arith, many);
  }

  -- ---- loads and stores

  access_worst : ℕ
  access_worst = worst_look p.costs (again_of p) + worst_access p.costs (again_of p)

  load_costs : (root : ℕ) (d : Dom) (width : LoadWidth) (va : ℕ) → Costs access_worst (load p root d width va)
  unfolding load access_worst hierarchy
  load_costs root d width va =
      more _ access_worst _ (omega arith)
      (bind_costs (worst_look p.costs (again_of p)) (worst_access p.costs (again_of p) + (0 + 0)) _ _ (translate_costs root d _ va) (λ f.
      then_costs (worst_access p.costs (again_of p)) (0 + 0) _ _ (touch_costs (Load (line_in p f va)))
      (bind_costs 0 0 _ _ (read_costs f _) (λ w. give_costs _))))

  store_costs : (root : ℕ) (d : Dom) (made : Option StoreMade) → Costs access_worst (store p root d made)
  unfolding store access_worst hierarchy
  store_costs root d None = more 0 access_worst _ (omega arith) (give_costs tt)
  store_costs root d (Some made) =
      more _ access_worst _ (omega arith)
      (bind_costs (worst_look p.costs (again_of p)) (worst_access p.costs (again_of p) + (0 + 0)) _ _
      (translate_costs root d _ made.at) (λ f.
      then_costs (worst_access p.costs (again_of p)) (0 + 0) _ _
      (touch_costs (StoreTouch (line_in p f made.at)))
      (bind_costs 0 0 _ _ (read_costs f _) (λ w. write_costs f _ _))))

  no_store_costs : (root : ℕ) (d : Dom) (made : Option StoreMade) → made ≡ None
      → Costs 0 (store p root d made)
  unfolding store
  no_store_costs root d None is = give_costs tt
  no_store_costs root d (Some made) is = absurd (cc is)

  -- ---- an instruction

  guessed_costs : (i : Instr) (pc : ℕ) (e : Effect) → Costs p.costs.mispredict (guessed i pc e)
  unfolding guessed hierarchy
  guessed_costs (instr.Branch comparison rs1 rs2 offset) pc e = touch_costs (Branch pc e.taken e.next)
  guessed_costs (instr.Lui rd imm) pc e = more 0 p.costs.mispredict _ (omega arith) (give_costs tt)
  guessed_costs (instr.Auipc rd imm) pc e = more 0 p.costs.mispredict _ (omega arith) (give_costs tt)
  guessed_costs (instr.Jal rd offset) pc e = touch_costs (Jump pc e.next)
  guessed_costs (instr.Jalr rd rs1 offset) pc e = touch_costs (Jump pc e.next)
  guessed_costs (instr.Load width rd rs1 offset) pc e = more 0 p.costs.mispredict _ (omega arith) (give_costs tt)
  guessed_costs (instr.Store width rs1 rs2 offset) pc e = more 0 p.costs.mispredict _ (omega arith) (give_costs tt)
  guessed_costs (instr.Immediate operation rd rs1 imm) pc e = more 0 p.costs.mispredict _ (omega arith) (give_costs tt)
  guessed_costs (instr.Register operation rd rs1 rs2) pc e = more 0 p.costs.mispredict _ (omega arith) (give_costs tt)
  guessed_costs (instr.Multiply product rd rs1 rs2) pc e = more 0 p.costs.mispredict _ (omega arith) (give_costs tt)
  guessed_costs (instr.Divide division rd rs1 rs2) pc e = more 0 p.costs.mispredict _ (omega arith) (give_costs tt)
  guessed_costs instr.Fence pc e = more 0 p.costs.mispredict _ (omega arith) (give_costs tt)
  guessed_costs instr.Ecall pc e = more 0 p.costs.mispredict _ (omega arith) (give_costs tt)
  guessed_costs instr.Ebreak pc e = more 0 p.costs.mispredict _ (omega arith) (give_costs tt)
  guessed_costs (instr.ReadCounter counter rd) pc e = more 0 p.costs.mispredict _ (omega arith) (give_costs tt)

  -- a product or a division takes no longer than the machine's longest
  computed_costs : (d : Dom) (i : Instr) → Costs (most_added p.muldiv) (computed p d i)
  unfolding computed hierarchy
  computed_costs d (instr.Multiply product rd rs1 rs2) =
      more (product_time p.muldiv) (most_added p.muldiv) _ (few_product p.muldiv) (touch_costs (Charge _))
  computed_costs d (instr.Divide division rd rs1 rs2) =
      let digits = digits_in d.threads.current.regs division rs1 in
      more (division_time p.muldiv digits) (most_added p.muldiv) _
      (few_division p.muldiv digits (few_digits (dividend_of division (register d.threads.current.regs rs1))))
      (touch_costs (Charge _))
  computed_costs d (instr.Branch comparison rs1 rs2 offset) = more 0 (most_added p.muldiv) _ (omega arith) (give_costs tt)
  computed_costs d (instr.Lui rd imm) = more 0 (most_added p.muldiv) _ (omega arith) (give_costs tt)
  computed_costs d (instr.Auipc rd imm) = more 0 (most_added p.muldiv) _ (omega arith) (give_costs tt)
  computed_costs d (instr.Jal rd offset) = more 0 (most_added p.muldiv) _ (omega arith) (give_costs tt)
  computed_costs d (instr.Jalr rd rs1 offset) = more 0 (most_added p.muldiv) _ (omega arith) (give_costs tt)
  computed_costs d (instr.Load width rd rs1 offset) = more 0 (most_added p.muldiv) _ (omega arith) (give_costs tt)
  computed_costs d (instr.Store width rs1 rs2 offset) = more 0 (most_added p.muldiv) _ (omega arith) (give_costs tt)
  computed_costs d (instr.Immediate operation rd rs1 imm) = more 0 (most_added p.muldiv) _ (omega arith) (give_costs tt)
  computed_costs d (instr.Register operation rd rs1 rs2) = more 0 (most_added p.muldiv) _ (omega arith) (give_costs tt)
  computed_costs d instr.Fence = more 0 (most_added p.muldiv) _ (omega arith) (give_costs tt)
  computed_costs d instr.Ecall = more 0 (most_added p.muldiv) _ (omega arith) (give_costs tt)
  computed_costs d instr.Ebreak = more 0 (most_added p.muldiv) _ (omega arith) (give_costs tt)
  computed_costs d (instr.ReadCounter counter rd) = more 0 (most_added p.muldiv) _ (omega arith) (give_costs tt)

  -- by what its store costs
  settle_costs : (root : ℕ) (d : Dom) (i : Instr) (value most : ℕ) (out : Outcome)
      → Costs most (store p root d out.effect.store)
      → Costs (p.costs.mispredict + most) (settle p root d i value out)
  unfolding settle
  settle_costs root d i value most out stores =
      more (0 + (p.costs.mispredict + (most + 0))) (p.costs.mispredict + most) _ (omega arith)
      (then_costs 0 _ _ _ (unless_costs out.effect.trap d)
      (then_costs p.costs.mispredict _ _ _ (guessed_costs i d.threads.current.pc out.effect)
      (then_costs most 0 _ _ stores (give_costs _))))

  loads_alone : (regs : List ℕ) (pc : ℕ) (trap : Option Trap) (new : List ℕ)
      → (effect.access regs pc trap (continuation new pc)).effect.store ≡ None
  loads_alone regs pc None new = refl
  loads_alone regs pc (Some trap) new = refl

  -- what an instruction costs after its fetch that makes no call
  abbrev plain_worst : ℕ
  plain_worst = p.costs.mispredict + access_worst + most_added p.muldiv

  -- what needs something from outside the registers stores nothing
  execute_by : (root t : ℕ) (d : Dom) (i : Instr) (loads stores : ℕ) → Costs loads (loaded p root t d i)
      → ((value : ℕ) → Costs stores (store p root d (effect_of d.threads.current.regs d.threads.current.pc i value).effect.store))
      → loads + stores ≤ access_worst → Costs (p.costs.mispredict + access_worst) (execute p root t d i)
  unfolding execute
  execute_by root t d i loads stores load store few =
      more (0 + (loads + (p.costs.mispredict + stores))) (p.costs.mispredict + access_worst) _ (omega (arith, few))
      (then_costs 0 _ _ _ (unless_costs _ d) (bind_costs loads _ _ _ load (λ value. settle_costs root d i value stores _ (store value))))

  stores_only : (root t : ℕ) (d : Dom) (i : Instr) → loaded p root t d i ≡ give 0
      → Costs (p.costs.mispredict + access_worst) (execute p root t d i)
  stores_only root t d i none =
      execute_by root t d i 0 access_worst (subst (Costs 0) (sym none) (give_costs 0)) (λ value. store_costs root d _) (omega arith)

  execute_costs : (root t : ℕ) (d : Dom) (i : Instr)
      → Costs (p.costs.mispredict + access_worst) (execute p root t d i)
  unfolding loaded
  execute_costs root t d (instr.Load width rd rs1 offset) =
      execute_by root t d (instr.Load width rd rs1 offset) access_worst 0 (load_costs root d width _)
      (λ value. no_store_costs root d _ (loads_alone _ _ _ _)) (omega arith)
  execute_costs root t d (instr.ReadCounter counter rd) =
      execute_by root t d (instr.ReadCounter counter rd) 0 access_worst (give_costs _) (λ value. store_costs root d _) (omega arith)
  execute_costs root t d (instr.Lui rd imm) = stores_only root t d (instr.Lui rd imm) refl
  execute_costs root t d (instr.Auipc rd imm) = stores_only root t d (instr.Auipc rd imm) refl
  execute_costs root t d (instr.Jal rd offset) = stores_only root t d (instr.Jal rd offset) refl
  execute_costs root t d (instr.Jalr rd rs1 offset) = stores_only root t d (instr.Jalr rd rs1 offset) refl
  execute_costs root t d (instr.Branch comparison rs1 rs2 offset) = stores_only root t d (instr.Branch comparison rs1 rs2 offset) refl
  execute_costs root t d (instr.Store width rs1 rs2 offset) = stores_only root t d (instr.Store width rs1 rs2 offset) refl
  execute_costs root t d (instr.Immediate operation rd rs1 imm) = stores_only root t d (instr.Immediate operation rd rs1 imm) refl
  execute_costs root t d (instr.Register operation rd rs1 rs2) = stores_only root t d (instr.Register operation rd rs1 rs2) refl
  execute_costs root t d (instr.Multiply product rd rs1 rs2) = stores_only root t d (instr.Multiply product rd rs1 rs2) refl
  execute_costs root t d (instr.Divide division rd rs1 rs2) = stores_only root t d (instr.Divide division rd rs1 rs2) refl
  execute_costs root t d instr.Fence = stores_only root t d instr.Fence refl
  execute_costs root t d instr.Ecall = stores_only root t d instr.Ecall refl
  execute_costs root t d instr.Ebreak = stores_only root t d instr.Ebreak refl

  timed_costs : (root t : ℕ) (d : Dom) (i : Instr) → Costs plain_worst (timed p root t d i)
  unfolding timed
  timed_costs root t d i =
      more (most_added p.muldiv + (p.costs.mispredict + access_worst)) plain_worst _ (omega arith)
      (then_costs (most_added p.muldiv) _ _ _ (computed_costs d i) (execute_costs root t d i))

module _ (p : Hardware) (o : Own) where
  emptied_costs : (b : Bool) → worst p (if b then EmptyTlb ∷ [] else []) ≡ 0
  unfolding worst worst_touches
  emptied_costs true = refl
  emptied_costs false = refl

  -- a kernel call is within the operation
  call_costs : AreWithin o.makes o.calls → (d : Dom) → Costs p (worst_operation (own_shape p o)) (make_call p (estate p o) (layout p o) d)
  unfolding make_call call_touches operation footprint worst worst_touches hierarchy layout estate
  call_costs listed d = record {
    within = λ s.
        let e = estate p o in
        let l = layout p o in
        let w = work_of (number_made e d) (called e d s).notes in
        let allowed = allowed_work e d s in
        let bounded = allowed.bounded in
        let permitted : IsPermitted o.calls w = λ is. listed w.op (allowed.permitted is) in
        let covers = operation_covers (own_shape p o) l w bounded.call (few_written o.calls l w bounded permitted) in
        let lines = worst_lines (hierarchy p) (touches l w) in
        let both = worst-append (hierarchy p) (operation p.costs l w) (if empties (called e d s).notes then EmptyTlb ∷ [] else []) in
        let none = emptied_costs (empties (called e d s).notes) in
        omega (arith, covers, lines, both, none);
  }

  -- what an instruction costs after its fetch
  perform_worst : ℕ
  perform_worst = plain_worst p + worst_operation (own_shape p o)

  executes : (t : ℕ) (d : Dom) (i : Instr) → Costs p perform_worst (timed p (estate p o).root t d i)
  unfolding perform_worst
  executes t d i = more p (plain_worst p) perform_worst _ (omega arith) (timed_costs p (estate p o).root t d i)

  perform_costs : AreWithin o.makes o.calls → (t : ℕ) (d : Dom) (w : ℕ) (i : Option Instr)
      → Costs p perform_worst (perform p (estate p o) (layout p o) t d w i)
  unfolding perform perform_worst
  perform_costs listed t d w None = more p 0 perform_worst _ (omega arith) (stop_costs p _)
  perform_costs listed t d w (Some instr.Ecall) =
      more p (worst_operation (own_shape p o)) perform_worst _ (omega arith) (call_costs listed d)
  perform_costs listed t d w (Some i) = executes t d i

  instruction_costs : AreWithin o.makes o.calls → (t : ℕ) (d : Dom)
      → Costs p (worst_look p.costs (again_of p) + (worst_fetch p.costs (again_of p) + (0 + perform_worst)))
      (instruction p (estate p o) (layout p o) t d)
  unfolding instruction hierarchy
  instruction_costs listed t d =
      bind_costs p (worst_look p.costs (again_of p)) _ _ _ (translate_costs p _ d _ _) (λ f.
      then_costs p (worst_fetch p.costs (again_of p)) _ _ _ (touch_costs p (Fetch (line_in p f d.threads.current.pc)))
      (bind_costs p 0 perform_worst _ _ (read_costs p f _) (λ w. perform_costs listed t d w _)))

  -- ---- an instruction that makes no call

  -- where the value is known
  value_costs : {A B : Type 0} (a b : ℕ) (r : Done Storage Touch Dom A) (y : A → Act B) (v : A)
      → worst p r.notes ≤ a → worst p (y v r.state).notes ≤ b
      → worst p (go_on r y (inr v)).notes ≤ a + b
  unfolding go_on worst
  value_costs a b r y v first rest =
      let both = worst-append (hierarchy p) r.notes (y v r.state).notes in
      omega (arith, first, rest, both)

  plain_costs : (t : ℕ) (d : Dom) (w : ℕ) (i : Option Instr) → i ≢ Some instr.Ecall
      → Costs p (plain_worst p) (perform p (estate p o) (layout p o) t d w i)
  unfolding perform
  plain_costs t d w None plain = more p 0 (plain_worst p) _ (omega arith) (stop_costs p _)
  plain_costs t d w (Some instr.Ecall) plain = absurd (plain refl)
  plain_costs t d w (Some i) plain = timed_costs p (estate p o).root t d i

  -- what follows the fetch's look-up
  abbrev rest_of : ℕ → Dom → ℕ → Act Dom
  rest_of t d f =
      touch (Fetch (line_in p f d.threads.current.pc))
      >> (read f (place d.threads.current.pc)
      >>= (λ w. perform p (estate p o) (layout p o) t d w (decode_of (is_some p.muldiv) w)))

  rest_costs : (t f : ℕ) (d : Dom) (s : Storage)
      → decode_of (is_some p.muldiv) (word s.mem f (place d.threads.current.pc)) ≢ Some instr.Ecall
      → worst p (rest_of t d f s).notes ≤ worst_fetch p.costs (again_of p) + (0 + (plain_worst p))
  unfolding ◌>>=◌ ◌>>◌ touch note read hierarchy
  rest_costs t f d s plain =
      let line = line_in p f d.threads.current.pc in
      let w = word s.mem f (place d.threads.current.pc) in
      value_costs (worst_fetch p.costs (again_of p)) (0 + (plain_worst p)) (touch (Fetch line) s)
      (λ _. read f (place d.threads.current.pc)
      >>= (λ x. perform p (estate p o) (layout p o) t d x (decode_of (is_some p.muldiv) x))) tt
      ((touch_costs p (Fetch line)).within s)
      (value_costs 0 (plain_worst p) (read f (place d.threads.current.pc) s)
      (λ x. perform p (estate p o) (layout p o) t d x (decode_of (is_some p.muldiv) x)) w
      ((read_costs p f (place d.threads.current.pc)).within s) ((plain_costs t d w (decode_of (is_some p.muldiv) w) plain).within s))

  plain_by : (t : ℕ) (d : Dom) (s : Storage) (r : Result ℕ WalkFault)
      → instruction_at (is_some p.muldiv) s.mem d.threads.current.pc r ≢ Some instr.Ecall
      → worst p (go_on (translate p (estate p o).root d access.Fetch d.threads.current.pc s) (rest_of t d) (frame_or_stop d access.Fetch d.threads.current.pc r)).notes
      ≤ worst_look p.costs (again_of p) + (worst_fetch p.costs (again_of p) + (0 + (plain_worst p)))
  unfolding frame_or_stop go_on translate
  plain_by t d s (Err f) plain =
      let looks = (translate_costs p (estate p o).root d access.Fetch d.threads.current.pc).within s in
      omega (arith, looks)
  plain_by t d s (Ok leaf) plain =
      value_costs (worst_look p.costs (again_of p)) (worst_fetch p.costs (again_of p) + (0 + (plain_worst p)))
      (translate p (estate p o).root d access.Fetch d.threads.current.pc s) (rest_of t d) (ppn leaf)
      ((translate_costs p (estate p o).root d access.Fetch d.threads.current.pc).within s) (rest_costs t (ppn leaf) d s plain)

  -- with its base, it is within the bound's instruction
  pub plain_within : (t : ℕ) (d : Dom) (s : Storage) → next_instruction p o d s.mem ≢ Some instr.Ecall
      → p.costs.base + worst_touches (hierarchy p) (instruction p (estate p o) (layout p o) t d s).notes ≤ worst_instruction (own_shape p o)
  unfolding worst access_worst worst_instruction instruction ◌>>=◌ translate estate
  plain_within t d s plain =
      let within = plain_by t d s (walk s.mem p.frames (root_of p o) d.threads.current.pc access.Fetch).result plain in
      omega (arith, within)

  -- ---- any

  -- with its base, it is within the largest step
  pub instruction_within : AreWithin o.makes o.calls → (t : ℕ) (d : Dom) (s : Storage)
      → p.costs.base + worst_touches (hierarchy p) (instruction p (estate p o) (layout p o) t d s).notes ≤ largest_step p o
  unfolding worst perform_worst access_worst worst_instruction
  instruction_within listed t d s =
      let within = (instruction_costs listed t d).within s in omega (arith, within)

  -- a delivery is within the operation
  pub delivery_within : worst_touches (hierarchy p) (delivery_touches p (layout p o))
      ≤ worst_operation (own_shape p o)
  unfolding delivery_touches operation footprint worst_touches hierarchy layout
  delivery_within =
      let l = layout p o in
      let w = plain delivery_op in
      let covers =
      operation_covers (own_shape p o) l w refl
      (few_written o.calls l w
      (record { call = refl; zeroes = λ frame is. absurd (cc is); few = omega arith })
      (λ is. absurd (cc is))) in
      let lines = worst_lines (hierarchy p) (touches l w) in
      omega (arith, covers, lines)

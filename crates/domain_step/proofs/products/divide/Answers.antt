use Rattle.std.proofs.Common.{◌≡◌, ℕ, ◌+◌, ◌%◌, ◌^◌, Option, refl, sym, ap, ◌∙◌, arith}
use Rattle.std.specs.Prelude.{option_map}
use Rattle.cycle_cost.specs.Costs.{ProductCosts}
use Rattle.cycle_cost.specs.Models.{product_costs_of}
use Rattle.rv_decode.specs.declared.Instr.TheVariants.{Divide}
use Rattle.rv_core.specs.Registers.{register, with_register}
use Rattle.rv_core.specs.Products.{digits_of, dividend_of, division_of}
use Rattle.rv_core.specs.Effect.{effect_of}
use Rattle.mem_system.specs.Cost.{Charge}
use Rattle.kernel_call.specs.Models.{dom_model}
use Rattle.world_view.specs.Instruction.{retired_at}
use Rattle.world_view.specs.Event.{touch, noted, computed, division_time, digits_in}
use Rattle.world_view.proofs.steps.CodeLaws.{executed-division}
use Rattle.domain_step.proofs.Points.{Point}
use Rattle.domain_step.proofs.Instructions.{finished_same, same_costs, yields_timed}
use Rattle.mem_system.specs.Contents.{system}
use Rattle.domain_step.proofs.products.divide.Goals as goal

pub returns-clause-leaves : goal.returns-clause-leaves
unfolding computed noted
returns-clause-leaves g c w l2 memory root now s r readings replies k h q =
    let rule = g.P.Policy.rule in
    let old = c.args.domain.now in
    let on = system c.args.core.now l2 in
    let d = dom_model old readings replies in
    let p : Point =
    record { setting = w; clock = now; root = root; dom = d; storage = s; reached = r } in
    let i = Divide c.args.division c.args.rd c.args.rs1 c.args.rs2 in
    let regs = old.threads.active.regs in
    let costs =
    same_costs rule w on (option_map product_costs_of c.products.result) k.fits.sound k.fits.levels
    c.products.ensures.table in
    let products = option_map product_costs_of c.products.result in
    let time : division_time w.machine.muldiv (digits_in regs c.args.division c.args.rs1) ≡ c.division_time.result =
    sym (c.division_time.ensures.value
    ∙ ap (λ (n : ℕ). division_time products (digits_of (dividend_of c.args.division n)))
    c.get-dividend.ensures.word
    ∙ ap (λ (o : Option ProductCosts). division_time o (digits_in regs c.args.division c.args.rs1)) costs)
    in
    let word = division_of c.args.division (register regs c.args.rs1) (register regs c.args.rs2) in
    let retired =
    finished_same c.retire.new.domain (effect_of regs old.threads.active.pc i 0) _ 0 i c.divide.new.regs d refl
    c.divide.ensures.written (c.retire.ensures.becomes readings replies h q) in
    yields_timed rule g.P.Policy.stands_for p old.caps memory on c.args.spent c.division_time.result i
    c.retire.new.domain
    (retired_at ((old.threads.active.pc + 4) % 2 ^ 32) (with_register regs c.args.rd word) d)
    (ap (λ (n : ℕ). touch (Charge n)) time)
    (executed-division w.machine root now d c.args.division c.args.rd c.args.rs1 c.args.rs2) retired k

pub overflow_add-after : goal.overflow_add-after
overflow_add-after g c = omega (arith, c.requires.spent, c.division_time.ensures.few)

pub divide-requires : goal.divide-requires
divide-requires g c = record { rd = c.requires.rd; rs1 = c.requires.rs1; rs2 = c.requires.rs2 }

pub returns-clause-grows : goal.returns-clause-grows
returns-clause-grows g c =
    let grows = c.retire.ensures.grows in
    record {
      retired = grows.retired;
      readings = omega (arith, grows.readings);
      replies = omega (arith, grows.replies);
    }

pub returns-clause-few : goal.returns-clause-few
returns-clause-few g c = omega (arith, c.division_time.ensures.few)

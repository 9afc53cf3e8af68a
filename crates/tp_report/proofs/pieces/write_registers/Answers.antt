use Rattle.std.proofs.Common.{◌<◌, ◌≤◌, length, get_or, sym, arith, rules}
use Rattle.std.specs.List.{enumerate_from}
use Rattle.std.proofs.lemmas.List.FromFn.{length-enumerate_from}
use Rattle.std.proofs.lemmas.Result.{err_from_is_err_and}
use Rattle.tp_report.specs.Texts.{register_text, registers_text}
use Rattle.tp_report.proofs.Each.{added_each, cut_in_each, added_all}
use Rattle.tp_report.proofs.Places.{place_at}
use Rattle.tp_report.proofs.pieces.write_registers.Goals as goal

pub returns-in_err-write_register : goal.returns-in_err-write_register
unfolding registers_text
returns-in_err-write_register g c =
    let p = err_from_is_err_and c.from_residual.result c.from_residual.ensures.1 in
    let xs = enumerate_from 0 c.args.regs.now in
    let within : c.loop-x.x < length xs = omega (arith, length-enumerate_from 0 c.args.regs.now) in
    rw p.1 (record {
      adds =
          cut_in_each register_text xs c.loop-x.x (c.loop-x.x, get_or c.args.regs.now c.loop-x.x 0) _ _ _
          within (sym (place_at c.args.regs.now c.loop-x.x (search rules))) c.loop-x.invariant
          c.in_err-write_register.ensures.adds;
    })

pub loop-x-preserved : goal.loop-x-preserved
loop-x-preserved g c =
    let xs = enumerate_from 0 c.args.regs.now in
    let within : c.loop-x.x < length xs = omega (arith, length-enumerate_from 0 c.args.regs.now) in
    added_each register_text xs c.loop-x.x (c.loop-x.x, get_or c.args.regs.now c.loop-x.x 0) _ _ _ within
    (sym (place_at c.args.regs.now c.loop-x.x (search rules))) c.loop-x.invariant
    c.in_ok-write_register.ensures.adds

pub returns : goal.returns
unfolding registers_text
returns g c =
    let end : length (enumerate_from 0 c.args.regs.now) ≤ c.loop-x.x = omega (arith, length-enumerate_from 0 c.args.regs.now) in
    record { adds = added_all register_text (enumerate_from 0 c.args.regs.now) c.loop-x.x _ _ end c.loop-x.invariant }

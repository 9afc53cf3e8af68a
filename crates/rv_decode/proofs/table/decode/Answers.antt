-- What the table makes of the word has it, and registers and immediates in their ranges.
use Rattle.std.proofs.Common.{Option, sym, subst}
use Rattle.std.specs.Prelude.{IfSome}
use Rattle.std.proofs.lemmas.Option.{IfSome_then}
use Rattle.rv_decode.specs.declared.Instr.{Instr}
use Rattle.rv_decode.proofs.Decoded.{IsDecoded, decode_of-is}
use Rattle.rv_decode.proofs.table.decode.Goals as goal

pub returns : goal.returns
returns c =
    let value = c.instruction_of.ensures.value in
    let is = subst (λ (found : Option Instr). IfSome found (IsDecoded c.args.muldiv c.args.word)) (sym value)
    (decode_of-is c.args.muldiv c.args.word c.ranges.word.fits) in
    record {
      value = value;
      word = IfSome_then c.instruction_of.result is (λ instr found. found.word);
      registers = IfSome_then c.instruction_of.result is (λ instr found. found.registers);
      immediates = IfSome_then c.instruction_of.result is (λ instr found. found.immediates);
    }

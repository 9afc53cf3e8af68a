use Rattle.std.proofs.Common.{◌≡◌, ◌-◌, ◌≤◌, length, Some, inl, inr, ap, arith}
use Rattle.tp_io.specs.Causes.{Rose}
use Rattle.tp_io.specs.Objects.{surely_taken}
use Rattle.tp_answer.specs.Answer.{answer}
use Rattle.tp_tests.proofs.runs.run_surely.Goals as goal
use Rattle.tp_words.specs.Words.{words_of}

pub returns : goal.returns
returns c = record {
  due = λ fits.
      let left : Some c.new-source.result ≡ Some c.args.bytes.items = ap Some c.new-source.ensures.value in
      let sure : surely_taken c.in_ok-sink.sink ≡ Some (c.args.room - 0) = ap surely_taken c.in_ok-sink.ensures.value in
      let enough : length (answer (words_of c.args.words.now) c.args.bytes.items).1 ≤ c.args.room - 0 = omega arith in
      elim (c.tp_main.ensures.complete_sure c.args.bytes.items (c.args.room - 0) left sure enough) [
        | inl comes ↦ comes
        | inr fault ↦ let rose : Rose 0 0 = c.tp_main.ensures.read_fault.rose fault in absurd (omega arith)
      ];
}

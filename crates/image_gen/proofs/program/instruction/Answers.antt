use Rattle.std.proofs.Common.{sym, ap, ◌∙◌, arith}
use Rattle.image_gen.specs.Program.{first_register, second_register, number, offset, instruction_of, instruction}
use Rattle.image_gen.proofs.program.instruction.Goals as goal

pub overflow_add-r : goal.overflow_add-r
overflow_add-r c = omega arith

pub overflow_add-s : goal.overflow_add-s
overflow_add-s c = omega arith

pub overflow_sub-offset : goal.overflow_sub-offset
overflow_sub-offset c = omega arith

pub overflow_mul-offset : goal.overflow_mul-offset
overflow_mul-offset c = omega arith

pub overflow_add-offset : goal.overflow_add-offset
overflow_add-offset c = omega arith

pub encoded-requires-clause-rd : goal.encoded-requires-clause-rd
encoded-requires-clause-rd c = omega arith

pub encoded-requires-clause-rs1 : goal.encoded-requires-clause-rs1
encoded-requires-clause-rs1 c = omega arith

pub encoded-requires-clause-high : goal.encoded-requires-clause-high
encoded-requires-clause-high c = omega arith

pub encoded-requires-in-1-clause-rd : goal.encoded-requires-in-1-clause-rd
encoded-requires-in-1-clause-rd c = omega arith

pub encoded-requires-in-1-clause-rs1 : goal.encoded-requires-in-1-clause-rs1
encoded-requires-in-1-clause-rs1 c = omega arith

pub encoded-requires-in-1-clause-high : goal.encoded-requires-in-1-clause-high
encoded-requires-in-1-clause-high c = omega arith

pub encoded-requires-in-2-clause-rd : goal.encoded-requires-in-2-clause-rd
encoded-requires-in-2-clause-rd c = omega arith

pub encoded-requires-in-2-clause-rs1 : goal.encoded-requires-in-2-clause-rs1
encoded-requires-in-2-clause-rs1 c = omega arith

pub encoded-requires-in-2-clause-high : goal.encoded-requires-in-2-clause-high
encoded-requires-in-2-clause-high c = omega arith

pub encoded-requires-in-3-clause-rd : goal.encoded-requires-in-3-clause-rd
encoded-requires-in-3-clause-rd c = omega arith

pub encoded-requires-in-3-clause-rs1 : goal.encoded-requires-in-3-clause-rs1
encoded-requires-in-3-clause-rs1 c = omega arith

pub encoded-requires-in-3-clause-high : goal.encoded-requires-in-3-clause-high
encoded-requires-in-3-clause-high c = omega arith

pub encoded-requires-in-4-clause-rd : goal.encoded-requires-in-4-clause-rd
encoded-requires-in-4-clause-rd c = omega arith

pub encoded-requires-in-4-clause-rs1 : goal.encoded-requires-in-4-clause-rs1
encoded-requires-in-4-clause-rs1 c = omega arith

pub encoded-requires-in-4-clause-high : goal.encoded-requires-in-4-clause-high
encoded-requires-in-4-clause-high c = omega arith

pub encoded-requires-in-5-clause-rd : goal.encoded-requires-in-5-clause-rd
encoded-requires-in-5-clause-rd c = omega arith

pub encoded-requires-in-5-clause-rs1 : goal.encoded-requires-in-5-clause-rs1
encoded-requires-in-5-clause-rs1 c = omega arith

pub encoded-requires-in-5-clause-high : goal.encoded-requires-in-5-clause-high
encoded-requires-in-5-clause-high c = omega arith

pub encoded-requires-in-6-clause-rd : goal.encoded-requires-in-6-clause-rd
encoded-requires-in-6-clause-rd c = omega arith

pub encoded-requires-in-6-clause-rs1 : goal.encoded-requires-in-6-clause-rs1
encoded-requires-in-6-clause-rs1 c = omega arith

pub encoded-requires-in-6-clause-high : goal.encoded-requires-in-6-clause-high
encoded-requires-in-6-clause-high c = omega arith

pub returns-in-0 : goal.returns-in-0
unfolding instruction
returns-in-0 c =
    let w = c.args.word in
    record {
      value =
          c.encoded.ensures.value
          ∙ sym (ap (λ k. instruction_of k (first_register w) (second_register w) (number w) (offset w))
          c.in-0.is);
    }

pub returns-in-1 : goal.returns-in-1
unfolding instruction
returns-in-1 c =
    let w = c.args.word in
    record {
      value =
          c.encoded-in-1.ensures.value
          ∙ sym (ap (λ k. instruction_of k (first_register w) (second_register w) (number w) (offset w))
          c.in-1.is);
    }

pub returns-in-2 : goal.returns-in-2
unfolding instruction
returns-in-2 c =
    let w = c.args.word in
    record {
      value =
          c.encoded-in-2.ensures.value
          ∙ sym (ap (λ k. instruction_of k (first_register w) (second_register w) (number w) (offset w))
          c.in-2.is);
    }

pub returns-in-3 : goal.returns-in-3
unfolding instruction
returns-in-3 c =
    let w = c.args.word in
    record {
      value =
          c.encoded-in-3.ensures.value
          ∙ sym (ap (λ k. instruction_of k (first_register w) (second_register w) (number w) (offset w))
          c.in-3.is);
    }

pub returns-in-4 : goal.returns-in-4
unfolding instruction
returns-in-4 c =
    let w = c.args.word in
    record {
      value =
          c.encoded-in-4.ensures.value
          ∙ sym (ap (λ k. instruction_of k (first_register w) (second_register w) (number w) (offset w))
          c.in-4.is);
    }

pub returns-in-5 : goal.returns-in-5
unfolding instruction
returns-in-5 c =
    let w = c.args.word in
    record {
      value =
          c.encoded-in-5.ensures.value
          ∙ sym (ap (λ k. instruction_of k (first_register w) (second_register w) (number w) (offset w))
          c.in-5.is);
    }

pub returns-in-6 : goal.returns-in-6
unfolding instruction
returns-in-6 c =
    let w = c.args.word in
    record {
      value =
          c.encoded-in-6.ensures.value
          ∙ sym (ap (λ k. instruction_of k (first_register w) (second_register w) (number w) (offset w))
          c.in-6.is);
    }

use Rattle.std.proofs.Common.{ap, ap₂, ◌∙◌, Some, Option}
use Rattle.clap.specs.Words.{Rule, rule_of}
use Rattle.clap.specs.declared.builder.arg.Arg.{Arg}
use Rattle.clap.specs.declared.builder.value_parser.ValueParser.{ValueParser}
use Rattle.tp_words.proofs.words.number_arg.Goals as goal

pub returns : goal.returns
returns c =
    let (q, given, same) = c.value_parser.ensures.given in
    record {
      rule = ap rule_of c.value_parser.ensures.others
          ∙ ap₂ (λ (r : Rule) (p : Option ValueParser). record r { parser = p }) c.text_arg.ensures.rule
          (given ∙ ap Some (same ∙ c.number_parser.ensures.value));
      local = ap (λ (a : Arg). a.global) c.value_parser.ensures.others ∙ c.text_arg.ensures.local;
    }

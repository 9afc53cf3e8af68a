use Rattle.std.proofs.Common.{ap, ◌∙◌, Some, true}
use Rattle.clap.specs.Words.{Rule, rule_of}
use Rattle.clap.specs.declared.builder.arg.Arg.{Arg}
use Rattle.clap.specs.declared.builder.action.ArgAction.TheVariants.{Set}
use Rattle.tp_words.proofs.words.text_arg.Goals as goal

-- each call sets one field
pub returns : goal.returns
returns c =
    let made = c.required.ensures
    ∙ ap (λ (a : Arg). record a { required = true }) (c.action.ensures
    ∙ ap (λ (a : Arg). record a { action = Some Set }) c.long.ensures) in
    record {
      rule = ap rule_of made
          ∙ ap (λ (r : Rule). record r { long = Some c.args.name.now; action = Some Set; required = true }) c.new.ensures.rule;
      local = ap (λ (a : Arg). a.global) made ∙ c.new.ensures.optional.1;
    }

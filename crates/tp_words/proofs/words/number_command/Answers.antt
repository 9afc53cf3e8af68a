use Rattle.tp_words.proofs.WordsLaws.{has_option, has_own}
use Rattle.tp_words.proofs.words.number_command.Goals as goal

pub returns : goal.returns
returns c = record {
  app = has_option _ _ c.number_arg.ensures.local c.arg.result _ _ c.new.ensures.app c.number_arg.ensures.rule c.arg.ensures;
  local = has_own _ _ c.number_arg.ensures.local c.arg.result c.new.ensures.local c.arg.ensures;
}

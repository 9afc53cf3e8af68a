use Rattle.tp_words.proofs.WordsLaws.{has_option, has_own}
use Rattle.tp_words.proofs.words.ablate_command.Goals as goal

pub returns : goal.returns
returns c = record {
  app =
      c.with_number.ensures.app _ (has_option _ _ c.text_arg.ensures.local c.arg-ablate.result _ _
      c.new.ensures.app c.text_arg.ensures.rule c.arg-ablate.ensures);
  local = c.with_number.ensures.local (has_own _ _ c.text_arg.ensures.local c.arg-ablate.result c.new.ensures.local c.arg-ablate.ensures);
}

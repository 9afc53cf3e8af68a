use Rattle.tp_words.proofs.words.alone_command.Goals as goal

pub returns : goal.returns
returns c = record {
  app = c.with_number.ensures.app _ c.number_command-alone.ensures.app;
  local = c.with_number.ensures.local c.number_command-alone.ensures.local;
}

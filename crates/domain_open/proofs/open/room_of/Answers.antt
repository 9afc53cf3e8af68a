use Rattle.std.proofs.Common.{ap, ◌∙◌}
use Rattle.irq_partition.specs.Interrupts.{none_delivered}
use Rattle.domain_open.proofs.Errors.{no_value}
use Rattle.domain_open.proofs.open.room_of.Goals as goal

pub returns-in_err-kept : goal.returns-in_err-kept
returns-in_err-kept c = record {
  kept = no_value _ c.from_residual.result _ c.from_residual.ensures.1;
  frames = no_value _ c.from_residual.result _ c.from_residual.ensures.1;
  no_tables = no_value _ c.from_residual.result _ c.from_residual.ensures.1;
  tables = no_value _ c.from_residual.result _ c.from_residual.ensures.1;
  caps = no_value _ c.from_residual.result _ c.from_residual.ensures.1;
  opening = no_value _ c.from_residual.result _ c.from_residual.ensures.1;
}

pub returns-in_err-tables : goal.returns-in_err-tables
returns-in_err-tables c = record {
  kept = no_value _ c.from_residual-in_err-tables.result _ c.from_residual-in_err-tables.ensures.1;
  frames = no_value _ c.from_residual-in_err-tables.result _ c.from_residual-in_err-tables.ensures.1;
  no_tables = no_value _ c.from_residual-in_err-tables.result _ c.from_residual-in_err-tables.ensures.1;
  tables = no_value _ c.from_residual-in_err-tables.result _ c.from_residual-in_err-tables.ensures.1;
  caps = no_value _ c.from_residual-in_err-tables.result _ c.from_residual-in_err-tables.ensures.1;
  opening = no_value _ c.from_residual-in_err-tables.result _ c.from_residual-in_err-tables.ensures.1;
}

pub returns-in_err-interrupts : goal.returns-in_err-interrupts
returns-in_err-interrupts c = record {
  kept = no_value _ c.from_residual-in_err-interrupts.result _ c.from_residual-in_err-interrupts.ensures.1;
  frames = no_value _ c.from_residual-in_err-interrupts.result _ c.from_residual-in_err-interrupts.ensures.1;
  no_tables = no_value _ c.from_residual-in_err-interrupts.result _ c.from_residual-in_err-interrupts.ensures.1;
  tables = no_value _ c.from_residual-in_err-interrupts.result _ c.from_residual-in_err-interrupts.ensures.1;
  caps = no_value _ c.from_residual-in_err-interrupts.result _ c.from_residual-in_err-interrupts.ensures.1;
  opening = no_value _ c.from_residual-in_err-interrupts.result _ c.from_residual-in_err-interrupts.ensures.1;
}

pub returns-in_err-caps : goal.returns-in_err-caps
returns-in_err-caps c = record {
  kept = no_value _ c.from_residual-in_err-caps.result _ c.from_residual-in_err-caps.ensures.1;
  frames = no_value _ c.from_residual-in_err-caps.result _ c.from_residual-in_err-caps.ensures.1;
  no_tables = no_value _ c.from_residual-in_err-caps.result _ c.from_residual-in_err-caps.ensures.1;
  tables = no_value _ c.from_residual-in_err-caps.result _ c.from_residual-in_err-caps.ensures.1;
  caps = no_value _ c.from_residual-in_err-caps.result _ c.from_residual-in_err-caps.ensures.1;
  opening = no_value _ c.from_residual-in_err-caps.result _ c.from_residual-in_err-caps.ensures.1;
}

pub lines_of-requires : goal.lines_of-requires
lines_of-requires c = record { sound = c.requires.sound }

pub returns : goal.returns
returns c = record {
  kept = c.in_ok-kept.ensures.items;
  frames = c.in_ok-kept.ensures.capacity;
  no_tables = c.in_ok-tables.ensures.items;
  tables = c.in_ok-tables.ensures.capacity;
  caps = c.in_ok-caps.ensures.lines;
  opening = c.in_ok-interrupts.ensures.opening ∙ ap none_delivered c.as_slice.ensures.value;
}

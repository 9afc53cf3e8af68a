use Rattle.l2_colour.proofs.Rows.{line_in_colour}
use Rattle.l2_colour.proofs.lines_keep_to_their_colour.Goals as goal

pub returns : goal.returns
returns c = record { colour = line_in_colour c.args.line_size c.args.sets c.args.line c.requires.coloured }

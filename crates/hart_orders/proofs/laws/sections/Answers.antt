use Rattle.hart_orders.proofs.ChoiceLaws.{choice_mail, choice_law, choice_pad, choice_largest, one_hart_run}
use Rattle.hart_orders.proofs.laws.sections.Goals as goal

pub returns : goal.returns
returns c = record { mailed = choice_mail; isolated = choice_law; used = choice_pad; largest = choice_largest; one = one_hart_run }

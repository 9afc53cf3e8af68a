use Rattle.std.proofs.Common.{sym, subst, ◌<◌, false, get_or-set_same, get_or-set_other}
use Rattle.irq_partition.specs.Interrupts.{with_bit}
use Rattle.irq_partition.proofs.Order.{with_bit-sound}
use Rattle.irq_partition.proofs.laws.bits_are_apart.Goals as goal

pub returns-clause-own : goal.returns-clause-own
unfolding with_bit
returns-clause-own c = λ s line bit sound below. get_or-set_same s.bits line bit false (subst (λ n. line < n) (sym sound.lines) below)

pub returns-clause-others : goal.returns-clause-others
unfolding with_bit
returns-clause-others c = λ s line other bit apart. get_or-set_other s.bits line other bit false apart

pub returns-clause-sound : goal.returns-clause-sound
returns-clause-sound c = with_bit-sound

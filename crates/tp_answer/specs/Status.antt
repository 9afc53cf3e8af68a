-- The number with which the program ends.
use Rattle.std.specs.Prelude.{ℕ}
use Rattle.tp_answer.specs.declared.status.Status.{Status}
use Rattle.tp_answer.specs.declared.status.Status.TheVariants.{Done, Refused, Usage, ReadFault, WriteFault, Memory, TooLong}

abbrev pub exit_number : Status → ℕ
exit_number Done = 0
exit_number Refused = 1
exit_number Usage = 2
exit_number ReadFault = 3
exit_number WriteFault = 4
exit_number Memory = 5
exit_number TooLong = 6

use Rattle.sched_table.proofs.HartSchedules.{AreSoFar}
use Rattle.sched_table.proofs.hart_schedule.HartSchedule.new.Given as goal

abbrev pub invariant-loop-place : goal.invariant-loop-place
invariant-loop-place l = AreSoFar l.entries l.hart l.place l.places.items l.own.items

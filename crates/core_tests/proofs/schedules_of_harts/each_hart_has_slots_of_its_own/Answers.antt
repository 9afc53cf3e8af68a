use Rattle.std.proofs.Common.{ℕ, zero, suc, ◌≡◌, ◌<◌, ◌≤◌, length, refl, sym, ◌∙◌, arith}
use Rattle.sched_table.specs.Example.{three}
use Rattle.sched_table.specs.Schedule.{entry_in, entries_on, on_hart, harts_in, AreHarts, IsSchedule}
use Rattle.core_tests.proofs.schedules_of_harts.each_hart_has_slots_of_its_own.Goals as goal

own_hart : (e : ℕ) → (entry_in three e).domain ≡ (entry_in three e).hart
own_hart zero = refl
own_hart (suc zero) = refl
own_hart (suc (suc zero)) = refl
own_hart (suc (suc (suc e))) = refl

few : (e : ℕ) → (entry_in three e).hart < 4
few zero = omega arith
few (suc zero) = omega arith
few (suc (suc zero)) = omega arith
few (suc (suc (suc e))) = omega arith

lengths : (e : ℕ) → (entry_in three e).length ≤ 1000000
lengths zero = omega arith
lengths (suc zero) = omega arith
lengths (suc (suc zero)) = omega arith
lengths (suc (suc (suc e))) = omega arith

pads : (e : ℕ) → (entry_in three e).pad ≤ 1000000
pads zero = omega arith
pads (suc zero) = omega arith
pads (suc (suc zero)) = omega arith
pads (suc (suc (suc e))) = omega arith

schedule : IsSchedule three
schedule = record { some = omega arith; few = omega arith; lengths = lengths; pads = pads }

each : (h : ℕ) → h < harts_in three → 0 < length (on_hart three h)
unfolding entries_on harts_in
each zero l = omega arith
each (suc zero) l = omega arith
each (suc (suc h)) l = absurd (omega (arith, l))

harts : AreHarts three
harts = record { few = λ e l. few e; each = each; one = λ e f l m same. sym (own_hart e) ∙ same ∙ own_hart f }

pub new-requires : goal.new-requires
new-requires g c = record { schedule = schedule; some = each 0 (omega arith) }

pub hart_schedules-requires : goal.hart_schedules-requires
hart_schedules-requires g c = record { schedule = schedule; harts = harts }

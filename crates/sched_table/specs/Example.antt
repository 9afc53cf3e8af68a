-- Worked starts: two entries, the second of which is longer. And which entries are a hart's, and when its slots begin.
use Rattle.std.specs.Prelude.{◌≡◌, ℕ, refl, List, [], ◌∷◌}
use Rattle.sched_table.specs.declared.schedule.Entry.{Entry}
use Rattle.sched_table.specs.Schedule.{start, last_end, switch_entry, entries_on, on_hart, place_on, harts_in, hart_schedules}

abbrev pub two : List Entry
two =
    record { domain = 0; length = 1000; pad = 30; hart = 0 }
    ∷ record { domain = 1; length = 2000; pad = 7; hart = 0 } ∷ []

-- the boot is a switch of the last entry
pub first : start two 0 ≡ 7
unfolding start
first = refl

pub second : start two 1 ≡ 1037
unfolding start
second = refl

pub third : start two 2 ≡ 3044
unfolding start
third = refl

pub ended : last_end two 2 ≡ 3037
unfolding start
ended = refl

pub of_first : switch_entry two 1 ≡ 0
of_first = refl

-- the second of three is of another domain, which runs on another hart
abbrev pub on_harts : ℕ → ℕ → Entry
on_harts hart pad = record { domain = hart; length = 1000; pad = pad; hart = hart }

abbrev pub three : List Entry
three = on_harts 0 30 ∷ on_harts 1 7 ∷ on_harts 0 50 ∷ []

pub of_hart_0 : entries_on three 0 ≡ (0, on_harts 0 30) ∷ (2, on_harts 0 50) ∷ []
unfolding entries_on
of_hart_0 = refl

pub of_hart_1 : entries_on three 1 ≡ (1, on_harts 1 7) ∷ []
unfolding entries_on
of_hart_1 = refl

pub two_harts : harts_in three ≡ 2
unfolding harts_in
two_harts = refl

pub of_each : hart_schedules three ≡ entries_on three 0 ∷ entries_on three 1 ∷ []
unfolding hart_schedules harts_in
of_each = refl

-- the second entry of hart 0 is the third of all
pub place_of_third : place_on three 0 1 ≡ 2
unfolding entries_on
place_of_third = refl

-- each hart's boot is a switch of its own last entry
pub boot_of_hart_0 : place_on three 0 (switch_entry (on_hart three 0) 0) ≡ 2
unfolding entries_on
boot_of_hart_0 = refl

pub first_of_hart_0 : start (on_hart three 0) 0 ≡ 50
unfolding entries_on start
first_of_hart_0 = refl

pub second_of_hart_0 : start (on_hart three 0) 1 ≡ 1080
unfolding entries_on start
second_of_hart_0 = refl

pub first_of_hart_1 : start (on_hart three 1) 0 ≡ 7
unfolding entries_on start
first_of_hart_1 = refl

pub second_of_hart_1 : start (on_hart three 1) 1 ≡ 1014
unfolding entries_on start
second_of_hart_1 = refl

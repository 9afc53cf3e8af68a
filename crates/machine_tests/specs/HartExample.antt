-- Two harts, computed from the definitions alone: red on hart 0, blue on hart 1, each of which reads the clock before and
-- after it prints.
use Rattle.std.specs.Prelude.{◌≡◌, ℕ, zero, suc, List, [], ◌∷◌, ◌++◌, refl}
use Rattle.image_check.specs.Image.{Image}
use Rattle.sched_table.specs.Schedule.{entries_on, harts_in, hart_for}
use Rattle.world_view.specs.Machine.{guarded, dom_of, whole}
use Rattle.world_view.specs.Harts.{start_on, slots_of, proceeds, begins, runs, goes_on, after, all_cold, harts, view_on, view_mailed_on, view_alone_on, next_by, after_by, harts_by, settles}
use Rattle.machine_tests.specs.Example.{timed_prints, everything}

abbrev pub on_two_harts : Image
on_two_harts = record timed_prints {
  all = record timed_prints.all {
    schedule =
        record { domain = 0; length = 10000; pad = 6150; hart = 0 }
        ∷ record { domain = 1; length = 10000; pad = 6150; hart = 1 } ∷ [];
  };
}

-- so many events of each in turn, hart 0's first
abbrev pub by_turns : ℕ → List ℕ
by_turns zero = []
by_turns (suc n) = 0 ∷ 1 ∷ by_turns n

-- hart 1's events before any of hart 0's
abbrev pub all_of : ℕ → ℕ → List ℕ
all_of h zero = []
all_of h (suc n) = h ∷ all_of h n

abbrev pub one_by_one : ℕ → List ℕ
one_by_one n = all_of 1 n ++ all_of 0 n

-- all that a run computes with
all_harts : ℕ
unfolding everything entries_on harts_in hart_for proceeds begins runs goes_on next_by after_by all_cold harts_by settles guarded
    view_on view_mailed_on
all_harts = 0

-- the boot that comes first finds nothing in the second level, and the other the shared lines
pub boots : (harts on_two_harts (by_turns 1)).world.used ≡ (0, 755) ∷ (1, 435) ∷ []
unfolding all_harts
boots = refl

pub boots_other_way : (harts on_two_harts (one_by_one 1)).world.used ≡ (1, 755) ∷ (0, 435) ∷ []
unfolding all_harts
boots_other_way = refl

-- a hart's first slot begins with the pad of its own last entry
pub begins_at : start_on on_two_harts 1 0 ≡ 6150
unfolding all_harts
begins_at = refl

-- two slots of each: a boot, seven instructions and a jump to the end, a switch, and one jump
pub two_slots : slots_of 1 (harts on_two_harts (by_turns 11)) ≡ 2
unfolding all_harts
two_slots = refl

pub used_by_turns : (harts on_two_harts (by_turns 11)).world.used
    ≡ (0, 755) ∷ (1, 435) ∷ (0, 580) ∷ (1, 580) ∷ []
unfolding all_harts
used_by_turns = refl

pub red_by_turns : (dom_of (harts on_two_harts (by_turns 11)).world 0).readings ≡ 6150 ∷ 6621 ∷ []
unfolding all_harts
red_by_turns = refl

pub blue_by_turns : (dom_of (harts on_two_harts (by_turns 11)).world 1).readings ≡ 6150 ∷ 6621 ∷ []
unfolding all_harts
blue_by_turns = refl

-- and where hart 1 goes first
pub blue_first : (dom_of (harts on_two_harts (one_by_one 11)).world 1).readings ≡ 6150 ∷ 6621 ∷ []
unfolding all_harts
blue_first = refl

pub red_last : (dom_of (harts on_two_harts (one_by_one 11)).world 0).readings ≡ 6150 ∷ 6621 ∷ []
unfolding all_harts
red_last = refl

-- as it is alone on its hart
pub blue_alone : view_on on_two_harts 1 (harts on_two_harts (by_turns 11)) ≡ view_alone_on on_two_harts 1 2
unfolding all_harts
blue_alone = refl

-- an image whose entries are all of hart 0 is, slot after slot, the machine of one hart
pub one_hart : (harts timed_prints (all_of 0 18)).world.used ≡ (whole timed_prints 2).used
unfolding all_harts
one_hart = refl

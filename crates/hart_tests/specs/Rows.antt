-- Rows of several harts, computed from the definitions alone: what a seed chooses, and in what order bounds are told.
use Rattle.std.specs.Prelude.{◌≡◌, ℕ, List, [], ◌∷◌, ◌++◌, refl}
use Rattle.rand_pcg.specs.Lcg.{state_after}
use Rattle.seed_words.specs.Words.{word}
use Rattle.sched_table.specs.declared.schedule.Entry.{Entry}
use Rattle.kernel_clone.specs.Permissions.{every_call}
use Rattle.pad_bound.specs.Bound.{with_calls}
use Rattle.pad_bound.specs.Example.{small}
use Rattle.world_view.specs.Harts.{Harts}
use Rattle.hart_orders.specs.declared.choice.Choice.TheVariants.{Drawn}
use Rattle.hart_orders.specs.Order.{chosen, drawn}
use Rattle.tp_report.specs.Report.{entries_text, entry_text, entry_line}

-- ---- seeds

-- which of some harts has the first event is named by this word
abbrev pub ChoosesBy : ℕ → ℕ → Type 0
ChoosesBy seed named = (s : Harts) (hs : List ℕ) → chosen (Drawn seed) 0 s hs ≡ drawn named hs

-- all bits of a seed count
pub of_seed_7 : ChoosesBy 7 2215483850
unfolding chosen word state_after
of_seed_7 s hs = refl

pub of_seed_65543 : ChoosesBy 65543 77513119
unfolding chosen word state_after
of_seed_65543 s hs = refl

pub of_greatest : ChoosesBy 4294967295 1314271857
unfolding chosen word state_after
of_greatest s hs = refl

-- ---- bounds

-- the first entry is of hart 1, the second of hart 0
abbrev pub entry_on : ℕ → Entry
entry_on hart = record { domain = hart; length = 1000; pad = 9000; hart = hart }

-- their bounds are told in the order of the schedule, whatever their harts
pub in_order : entries_text small (entry_on 1 ∷ entry_on 0 ∷ []) (every_call ∷ 3 ∷ [])
    ≡ entry_line 0 (with_calls small 3) ++ (entry_line 1 (with_calls small every_call) ++ [])
unfolding entries_text entry_text
in_order = refl

-- The schedules that an image lends, one for each hart.
use Rattle.std.proofs.Common.{◌≡◌, ℕ, ◌<◌, List, length, zero-add, ap, ◌∙◌}
use Rattle.std.specs.Prelude.{slice_index_or}
use Rattle.std.proofs.lemmas.List.FromFn.{length-map-range_with_len, get_or-map-range_with_len}
use Rattle.sched_table.specs.declared.schedule.Entry.{Entry}
use Rattle.sched_table.specs.Schedule.{entries_on, harts_in, hart_schedules}

module _ (es : List Entry) (all : List (List (ℕ × Entry))) (are : all ≡ hart_schedules es) where
  pub one_each : length all ≡ harts_in es
  unfolding hart_schedules
  one_each = ap length are ∙ length-map-range_with_len (entries_on es) 0 (harts_in es)

  pub own_entries : (h : ℕ) (placed : List (ℕ × Entry)) → h < harts_in es
      → placed ≡ slice_index_or all h placed → placed ≡ entries_on es h
  unfolding hart_schedules
  own_entries h placed below read =
      read ∙ ap (λ (xs : List (List (ℕ × Entry))). slice_index_or xs h placed) are
      ∙ get_or-map-range_with_len (entries_on es) 0 (harts_in es) h h placed below (zero-add h)

-- The switch lines of the code are those of the machine.
use Rattle.std.proofs.Common.{◌≡◌, ℕ, zero, suc, ◌+◌, ◌<◌, ◌≤◌, List, [], ◌∷◌, ◌++◌, length, refl, ap, arith}
use Rattle.std.specs.Prelude.{slice_get, Some}
use Rattle.std.specs.List.{flat_map, range_with_len}
use Rattle.world_view.specs.Used.{count_of, largest_of}
use Rattle.tp_report.specs.Report.{switch_text, switch_lines}
use Rattle.sched_table.specs.declared.schedule.Entry.{Entry}
use Rattle.world_view.specs.declared.used.Used.{Used}
use Rattle.tp_report.specs.Switches.{used_in, switch_at, switches_text}

-- what agrees at each number writes the same texts
flat_map-range_same : (f g : ℕ → List ℕ) (a n : ℕ) → ((k : ℕ) → a ≤ k → k < a + n → f k ≡ g k)
    → flat_map f (range_with_len a n) ≡ flat_map g (range_with_len a n)
flat_map-range_same f g a zero same = refl
flat_map-range_same f g a (suc n) same =
    rw (same a (omega arith) (omega arith)) (ap (λ text. g a ++ text)
    (flat_map-range_same f g (a + 1) n (λ k low high. same k (omega arith) (omega arith))))

switch_at-text : (entries : List Entry) (used : List Used) (us : List (ℕ × ℕ)) (e : ℕ)
    → (used_in used e).largest ≡ largest_of e us → (used_in used e).count ≡ count_of e us
    → switch_at entries used e ≡ switch_text entries us e
unfolding switch_at switch_text
switch_at-text entries used us e largest count = rw (largest, count)

-- where each entry's numbers are those of its switches
pub switches_text-lines : (entries : List Entry) (used : List Used) (us : List (ℕ × ℕ))
    → ((e : ℕ) → e < length entries → ((used_in used e).largest ≡ largest_of e us) × ((used_in used e).count ≡ count_of e us))
    → switches_text entries used ≡ switch_lines entries us
unfolding switches_text switch_lines
switches_text-lines entries used us same =
    flat_map-range_same (switch_at entries used) (switch_text entries us) 0 (length entries)
    (λ e low high. let both = same e (omega arith) in switch_at-text entries used us e both.0 both.1)

-- what is looked up within the list is what stands there
pub used_in-got : (used : List Used) (e : ℕ) → e < length used → slice_get used e ≡ Some (used_in used e)
used_in-got [] e h = absurd (omega arith)
used_in-got (u ∷ us) zero h = refl
used_in-got (u ∷ us) (suc e) h = used_in-got us e (omega arith)

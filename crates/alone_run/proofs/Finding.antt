-- The hart of a domain, found entry after entry.
use Rattle.std.proofs.Common.{◌≡◌, ℕ, ◌+◌, ◌<◌, ◌≤◌, Bool, List, ◌∷◌, length, drop, sym, ap, ◌∙◌, eq-eqb}
use Rattle.std.specs.Prelude.{◌==◌, if◌then◌else◌}
use Rattle.std.proofs.lemmas.Bool.{ne_eqb}
use Rattle.std.proofs.lemmas.List.{drop_more, drop_all}
use Rattle.sched_table.specs.declared.schedule.Entry.{Entry}
use Rattle.sched_table.specs.Schedule.{no_entry, entry_of_slot, hart_for}
use Rattle.sched_table.proofs.Starts.{slot_in_round}

-- ---- entry after entry

module _ (es : List Entry) (d k : ℕ) (e : Entry) (below : k < length es) (read : e ≡ entry_of_slot es k) where
  -- the hart by entry k and those after it
  by_rest : hart_for (drop k es) d ≡ if e.domain == d then e.hart else hart_for (drop (k + 1) es) d
  unfolding hart_for
  by_rest =
      ap (λ (xs : List Entry). hart_for xs d) (drop_more es k no_entry below)
      ∙ ap (λ (x : Entry). hart_for (x ∷ drop (k + 1) es) d) (sym (read ∙ slot_in_round es k below))

  pub named_here : e.domain ≡ d → hart_for (drop k es) d ≡ e.hart
  named_here same = by_rest ∙ ap (λ (b : Bool). if b then e.hart else hart_for (drop (k + 1) es) d) (eq-eqb e.domain d same)

  pub named_later : (e.domain ≡ d → ⊥) → hart_for (drop k es) d ≡ hart_for (drop (k + 1) es) d
  named_later other = by_rest ∙ ap (λ (b : Bool). if b then e.hart else hart_for (drop (k + 1) es) d) (ne_eqb e.domain d other)

pub named_nowhere : (es : List Entry) (d k : ℕ) → length es ≤ k → hart_for (drop k es) d ≡ 0
unfolding hart_for
named_nowhere es d k past = ap (λ (xs : List Entry). hart_for xs d) (drop_all k es past)

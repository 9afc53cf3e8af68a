-- A new memory.
use Rattle.std.proofs.Common.{rules, ◌≡◌, ◌∙◌, ap, subst, sym, ℕ, List, [], length, replicate}
use Rattle.std.proofs.lemmas.List.{length-replicate}
use Rattle.std.specs.Prelude.{slice_index, vec_len}
use Rattle.tp_base.specs.Table.{empty}
use Rattle.phys_mem.specs.Contents.{Contents}
use Rattle.phys_mem.specs.Slots.{held, AreSlots}
use Rattle.phys_mem.specs.Holds.{Holds}
use Rattle.phys_mem.specs.Mem.{Frame}
use Rattle.phys_mem.proofs.FrameLemmas.{index-replicate}
use Rattle.phys_mem.proofs.HoldsLemmas.{holds-all_zero}
use Rattle.phys_mem.proofs.NewLemmas.{first_slot, new_slots, held-new}
use Rattle.phys_mem.proofs.memory.PhysMem.new.Goals as goal

pub invariant_of-result : goal.invariant_of-result
invariant_of-result c =
    let slots : c.in_ok-slots.slots.items ≡ replicate c.args.frames 0 = search rules in
    let unused : c.in_ok-unused.unused.items ≡ [] = search rules in
    let words : c.resize.new.self.items ≡ replicate 1024 0 =
    first_slot c.in_ok-words.words.items c.resize.new.self.items (vec_len c.in_ok-words.words) (search rules) (search rules) (search rules)
    in
    let count : length c.in_ok-slots.slots.items ≡ c.args.frames =
    ap (λ (xs : List ℕ). length xs) slots ∙ length-replicate {A = ℕ} c.args.frames 0 in
    let size : length c.resize.new.self.items ≡ 1024 = ap (λ (xs : List ℕ). length xs) words ∙ length-replicate {A = ℕ} 1024 0 in
    let blank : (place : ℕ) → slice_index c.resize.new.self.items place ≡ 0 =
    λ place. ap (λ (xs : List ℕ). slice_index xs place) words ∙ index-replicate 1024 place in (
      subst (λ (xs : List ℕ). AreSlots xs c.in_ok-unused.unused.items c.resize.new.self.items) (sym slots)
          (subst (λ (xs : List ℕ). AreSlots (replicate c.args.frames 0) xs c.resize.new.self.items) (sym unused)
          (new_slots c.args.frames c.resize.new.self.items size blank c.requires.few)),
      record {
        unused = search (rules, count);
        words = search (rules, count);
      },
    )

pub returns-clause-zero : goal.returns-clause-zero
returns-clause-zero c =
    let slots : c.in_ok-slots.slots.items ≡ replicate c.args.frames 0 = search rules in
    let words : c.resize.new.self.items ≡ replicate 1024 0 =
    first_slot c.in_ok-words.words.items c.resize.new.self.items (vec_len c.in_ok-words.words) (search rules) (search rules) (search rules)
    in
    let size : length c.resize.new.self.items ≡ 1024 = ap (λ (xs : List ℕ). length xs) words ∙ length-replicate {A = ℕ} 1024 0 in
    let blank : (place : ℕ) → slice_index c.resize.new.self.items place ≡ 0 =
    λ place. ap (λ (xs : List ℕ). slice_index xs place) words ∙ index-replicate 1024 place in
    ap (λ (xs : List ℕ). held xs c.resize.new.self.items) slots
    ∙ held-new c.args.frames c.resize.new.self.items size blank

pub returns-clause-holds : goal.returns-clause-holds
returns-clause-holds c =
    subst (λ (memory : Contents). Holds memory (empty {A = Frame})) (sym (returns-clause-zero c)) (holds-all_zero c.args.frames)

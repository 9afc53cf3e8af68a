-- A word that was read is one of the frame's slot.
use Rattle.std.proofs.Common.{arith, rules, ◌≡◌, ◌∙◌, ap, sym, ℕ, ◌+◌, ◌*◌, ◌/◌, ◌%◌, ◌<◌, List, length}
use Rattle.std.specs.Prelude.{slice_index}
use Rattle.phys_mem.specs.Contents.{Contents, word_at}
use Rattle.phys_mem.specs.Slots.{held, AreSlots}
use Rattle.phys_mem.proofs.SlotLemmas.{read_is, index-words_in, slot_made}
use Rattle.phys_mem.proofs.HoldsLemmas.{holds-word_at}
use Rattle.phys_mem.proofs.memory.PhysMem.word.Goals as goal

-- it is kept
within_slot : (slots unused words : List ℕ) (at slot : ℕ) → AreSlots slots unused words
    → at / 4096 < length slots
    → slot ≡ slice_index slots (at / 4096) → 1024 * slot + at % 4096 / 4 < length words
within_slot slots unused words at slot are within is = omega (arith, is, slot_made slots unused words are (at / 4096) within)

-- it is the memory's
word_of_slot : (slots words : List ℕ) (memory : Contents) (at slot : ℕ) → held slots words ≡ memory
    → at / 4096 < length slots
    → slot ≡ slice_index slots (at / 4096) → slice_index words (1024 * slot + at % 4096 / 4) ≡ word_at memory at
word_of_slot slots words memory at slot is within is_slot =
    let frame : at / 4 / 1024 ≡ at / 4096 = omega arith in
    let place : at / 4 % 1024 ≡ at % 4096 / 4 = omega arith in
    ap (λ (s : ℕ). slice_index words (1024 * s + at % 4096 / 4)) (is_slot ∙ ap (λ (f : ℕ). slice_index slots f) (sym frame))
    ∙ ap (λ (p : ℕ). slice_index words (1024 * slice_index slots (at / 4 / 1024) + p)) (sym place)
    ∙ sym (index-words_in slots words (at / 4) (omega (arith, within)))
    ∙ ap (λ (all : Contents). word_at all at) is

pub index-requires-2 : goal.index-requires-2
index-requires-2 c =
    let slots : List ℕ = c.self.inside.slots.items in
    let within : c.args.at / 4096 < length slots = search rules in
    let slot : c.index.result.now ≡ slice_index slots (c.args.at / 4096) =
    read_is slots (c.args.at / 4096) c.index.result.now within c.index.ensures in
    search (
      rules,
      within_slot slots c.self.inside.unused.items c.self.inside.words.items c.args.at
          c.index.result.now c.self.invariant.0 within slot,
    )

pub returns-clause-value : goal.returns-clause-value
returns-clause-value c =
    let slots : List ℕ = c.self.inside.slots.items in
    let words : List ℕ = c.self.inside.words.items in
    let place : ℕ = 1024 * c.index.result.now + c.args.at % 4096 / 4 in
    let within : c.args.at / 4096 < length slots = search rules in
    let slot : c.index.result.now ≡ slice_index slots (c.args.at / 4096) =
    read_is slots (c.args.at / 4096) c.index.result.now within c.index.ensures in
    read_is words place c.index-2.result.now
    (within_slot slots c.self.inside.unused.items words c.args.at c.index.result.now c.self.invariant.0
    within slot) c.index-2.ensures
    ∙ word_of_slot slots words c.args.self.now c.args.at c.index.result.now c.self.view_is within slot

pub returns-clause-holds : goal.returns-clause-holds
returns-clause-holds c = λ mem holds.
    returns-clause-value c ∙ holds-word_at c.args.self.now mem c.args.at c.requires.within holds

-- The words of a frame are those of its slot.
use Rattle.std.proofs.Common.{arith, rules, ◌≡◌, ◌∙◌, ap, ℕ, ◌+◌, ◌*◌, ◌<◌, ◌≤◌, List, length}
use Rattle.std.specs.Prelude.{slice_index, slice_range}
use Rattle.phys_mem.specs.Contents.{Contents, frame_words}
use Rattle.phys_mem.specs.Slots.{held, AreSlots}
use Rattle.phys_mem.proofs.SlotLemmas.{read_is, slot_made, slot_words}
use Rattle.phys_mem.proofs.memory.PhysMem.words_of.Goals as goal

end_within : (slots unused words part : List ℕ) (frame slot : ℕ) → AreSlots slots unused words
    → frame < length slots → slot ≡ slice_index slots frame
    → part ≡ words → 1024 * slot + 1024 ≤ length part
end_within slots unused words part frame slot are within is same =
    omega (arith, is, slot_made slots unused words are frame within, ap (λ (xs : List ℕ). length xs) same)

part_is : (slots unused words part : List ℕ) (memory : Contents) (frame slot : ℕ)
    → AreSlots slots unused words → held slots words ≡ memory
    → frame < length slots → slot ≡ slice_index slots frame → part ≡ words
    → slice_range part (1024 * slot) (1024 * slot + 1024) ≡ frame_words memory frame
part_is slots unused words part memory frame slot are is within is_slot same =
    ap (λ (xs : List ℕ). slice_range xs (1024 * slot) (1024 * slot + 1024)) same
    ∙ ap (λ (s : ℕ). slice_range words (1024 * s) (1024 * s + 1024)) is_slot
    ∙ slot_words slots unused words are frame within
    ∙ ap (λ (all : Contents). frame_words all frame) is

pub slice_bounds-result-end : goal.slice_bounds-result-end
slice_bounds-result-end c =
    let slots : List ℕ = c.self.inside.slots.items in
    let within : c.number.result < length slots = search rules in
    let slot : c.index.result.now ≡ slice_index slots c.number.result =
    read_is slots c.number.result c.index.result.now within c.index.ensures in
    end_within slots c.self.inside.unused.items c.self.inside.words.items c.deref.result.now c.number.result c.index.result.now
    c.self.invariant.0 within slot c.deref.ensures.value

pub returns-clause-value : goal.returns-clause-value
returns-clause-value c =
    let slots : List ℕ = c.self.inside.slots.items in
    let within : c.number.result < length slots = search rules in
    let slot : c.index.result.now ≡ slice_index slots c.number.result =
    read_is slots c.number.result c.index.result.now within c.index.ensures in
    part_is slots c.self.inside.unused.items c.self.inside.words.items c.deref.result.now c.args.self.now c.number.result c.index.result.now
    c.self.invariant.0 c.self.view_is within slot c.deref.ensures.value
    ∙ ap (λ (f : ℕ). frame_words c.args.self.now f) c.number.ensures.same

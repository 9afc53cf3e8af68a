-- A word that was written into a frame's own slot.
use Rattle.std.proofs.Common.{arith, rules, ◌≡◌, ◌∙◌, ap, sym, subst, false, ℕ, ◌+◌, ◌*◌, ◌/◌, ◌%◌, ◌<◌, Bool, List, length, map, slice_set, length-set, get_or-set_same, inl, inr}
use Rattle.std.proofs.lemmas.Bool.{cases_lt}
use Rattle.std.proofs.lemmas.List.{get_or_past}
use Rattle.std.specs.Prelude.{slice_index, slice_index_or}
use Rattle.phys_mem.specs.Contents.{Contents, with_word}
use Rattle.phys_mem.specs.Slots.{words_in, held, is_zero_slot, AreSlots}
use Rattle.phys_mem.proofs.SlotLemmas.{frames_size, read_is, slot_made, unmarked_slot, words_in-written, written_slots}
use Rattle.phys_mem.proofs.GivingLemmas.{same_contents}
use Rattle.phys_mem.proofs.memory.PhysMem.put.Goals as goal

unmarked : (marked : List Bool) (frame : ℕ)
    → slice_index_or (slice_set marked frame false) frame false ≡ false
unmarked marked frame = elim (cases_lt frame (length marked)) [
  | inl within ↦ get_or-set_same marked frame false false within
  | inr past ↦ get_or_past (slice_set marked frame false) frame false (omega (arith, past, length-set marked frame false))
]

-- the slots and words of a memory that is `now` but for a mark, and the frame's slot
record Writing (slots unused words : List ℕ) (now : Contents) (at slot : ℕ) : Type 0 where
  are : AreSlots slots unused words
  is : held slots words ≡ record now { marked = slice_set now.marked (at / 4096) false }
  within : at / 4096 < length slots
  slot_is : slot ≡ slice_index slots (at / 4096)

module _ (slots unused words : List ℕ) (now : Contents) (at slot : ℕ) (w : Writing slots unused words now at slot) where
  own : 0 < slice_index slots (at / 4096)
  own =
      unmarked_slot slots words (record now { marked = slice_set now.marked (at / 4096) false }) (at / 4096) w.is w.within
      (unmarked now.marked (at / 4096))

  in_slot : 1024 * slot + at % 4096 / 4 < length words
  in_slot = omega (arith, w.slot_is, slot_made slots unused words w.are (at / 4096) w.within)

  put_slots : (word : ℕ) → AreSlots slots unused (slice_set words (1024 * slot + at % 4096 / 4) word)
  put_slots word =
      subst (λ (s : ℕ). AreSlots slots unused (slice_set words (1024 * s + at % 4096 / 4) word)) (sym w.slot_is)
      (written_slots slots unused words w.are (at / 4096) (at % 4096 / 4) word w.within (omega arith) own)

  put_word : (word : ℕ)
      → held slots (slice_set words (1024 * slot + at % 4096 / 4) word) ≡ with_word now at word
  put_word word =
      let place : ℕ = at % 4096 / 4 in
      let index : 1024 * (at / 4096) + at % 4096 / 4 ≡ at / 4 = omega arith in
      same_contents (length slots) now.frames (words_in slots (slice_set words (1024 * slot + place) word))
      (slice_set now.words (at / 4) word)
      (map is_zero_slot slots) (slice_set now.marked (at / 4096) false)
      (ap (λ (memory : Contents). memory.frames) w.is)
      (ap (λ (s : ℕ). words_in slots (slice_set words (1024 * s + place) word)) w.slot_is
      ∙ words_in-written slots unused words w.are (at / 4096) place word w.within (omega arith) own
      ∙ ap (λ (i : ℕ). slice_set (words_in slots words) i word) index
      ∙ ap (λ (memory : Contents). slice_set memory.words (at / 4) word) w.is)
      (ap (λ (memory : Contents). memory.marked) w.is)

writing : (slots unused words : List ℕ) (now after : Contents) (at slot : ℕ) → AreSlots slots unused words
    → held slots words ≡ after
    → after ≡ record now { marked = slice_set now.marked (at / 4096) false } → at / 4096 < length slots
    → slot ≡ slice_index_or slots (at / 4096) slot → Writing slots unused words now at slot
writing slots unused words now after at slot are is becomes within read = record {
  are = are;
  is = is ∙ becomes;
  within = within;
  slot_is = read_is slots (at / 4096) slot within read;
}

pub index_mut-requires : goal.index_mut-requires
index_mut-requires c =
    let slots : List ℕ = c.self.inside.slots.items in
    let unused : List ℕ = c.self.inside.unused.items in
    let words : List ℕ = c.self.inside.words.items in
    let within : c.args.at / 4096 < length slots = search rules in
    let w : Writing slots unused words c.args.self.now c.args.at c.index.result.now =
    writing slots unused words c.args.self.now c.unmark.new.self c.args.at c.index.result.now c.self.invariant.0 c.self.view_is
    c.unmark.ensures.becomes within c.index.ensures
    in
    search (rules, in_slot slots unused words c.args.self.now c.args.at c.index.result.now w)

pub invariant_of-self : goal.invariant_of-self
invariant_of-self c =
    let slots : List ℕ = c.self.inside.slots.items in
    let unused : List ℕ = c.self.inside.unused.items in
    let words : List ℕ = c.self.inside.words.items in
    let within : c.args.at / 4096 < length slots = search rules in
    let w : Writing slots unused words c.args.self.now c.args.at c.index.result.now =
    writing slots unused words c.args.self.now c.unmark.new.self c.args.at c.index.result.now c.self.invariant.0 c.self.view_is
    c.unmark.ensures.becomes within c.index.ensures
    in
    (put_slots slots unused words c.args.self.now c.args.at c.index.result.now w c.args.word, c.self.invariant.1)

pub returns-clause-becomes : goal.returns-clause-becomes
returns-clause-becomes c =
    let slots : List ℕ = c.self.inside.slots.items in
    let unused : List ℕ = c.self.inside.unused.items in
    let words : List ℕ = c.self.inside.words.items in
    let within : c.args.at / 4096 < length slots = search rules in
    let w : Writing slots unused words c.args.self.now c.args.at c.index.result.now =
    writing slots unused words c.args.self.now c.unmark.new.self c.args.at c.index.result.now c.self.invariant.0 c.self.view_is
    c.unmark.ensures.becomes within c.index.ensures
    in
    put_word slots unused words c.args.self.now c.args.at c.index.result.now w c.args.word

pub returns-clause-size : goal.returns-clause-size
returns-clause-size c =
    let size = frames_size c.self.inside.slots.items c.self.inside.words.items c.unmark.new.self c.self.view_is in
    subst (λ (memory : Contents). length memory.words ≡ 1024 * memory.frames) c.unmark.ensures.becomes size

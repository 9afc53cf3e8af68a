-- A frame got a slot: one that was unused, or a new one.
use Rattle.std.proofs.Common.{arith, rules, ◌≡◌, ◌∙◌, ap, sym, subst, false, ℕ, ◌+◌, ◌-◌, ◌*◌, ◌/◌, ◌<◌, List, [], ◌∷◌, ◌++◌, length, take, replicate, slice_set, length-set}
use Rattle.std.proofs.lemmas.List.{take_all, with_items_is}
use Rattle.std.specs.Prelude.{slice_index}
use Rattle.phys_mem.specs.Contents.{Contents, zeroed_words}
use Rattle.phys_mem.specs.Slots.{held, AreSlots}
use Rattle.phys_mem.proofs.FrameLemmas.{length-zeroed_words}
use Rattle.phys_mem.proofs.SlotLemmas.{marked_slot, made_whole}
use Rattle.phys_mem.proofs.TakingLemmas.{unused_made, held-reused, reused_slots, with_slot, held-made, made_slots, new_enough}
use Rattle.phys_mem.proofs.memory.PhysMem.take_slot.Goals as goal

-- words of slots that grow by one
with_slot-is : (words grown : List ℕ) → length words ≡ 1024 * (length words / 1024)
    → grown ≡ take (1024 * (length words / 1024 + 1)) words ++ replicate (1024 * (length words / 1024 + 1) - length words) 0
    → grown ≡ with_slot words
with_slot-is words grown whole is =
    is
    ∙ ap (λ (first : List ℕ). first ++ replicate (1024 * (length words / 1024 + 1) - length words) 0)
    (take_all (1024 * (length words / 1024 + 1)) words (omega (arith, whole)))
    ∙ (let more : 1024 * (length words / 1024 + 1) - length words ≡ 1024 = omega (arith, whole) in
    ap (λ (n : ℕ). words ++ replicate n 0) more)

pub zero_words-requires : goal.zero_words-requires
zero_words-requires c =
    let slots : List ℕ = c.self.inside.slots.items in
    let words : List ℕ = c.self.inside.words.items in
    let popped : c.self.inside.unused.items ≡ c.pop.new.self.items ++ c.in-Some.slot ∷ [] = search rules in
    let are : AreSlots slots (c.pop.new.self.items ++ c.in-Some.slot ∷ []) words =
    subst (λ (unused : List ℕ). AreSlots slots unused words) popped c.self.invariant.0
    in
    record {
      within =
          omega (
            arith,
            unused_made slots c.pop.new.self.items words c.in-Some.slot are,
            ap
                (λ (xs : List ℕ). length xs) c.deref_mut.ensures.value,
          );
    }

pub invariant_of-self : goal.invariant_of-self
invariant_of-self c =
    let slots : List ℕ = c.self.inside.slots.items in
    let words : List ℕ = c.self.inside.words.items in
    let rest : List ℕ = c.pop.new.self.items in
    let slot : ℕ = c.in-Some.slot in
    let popped : c.self.inside.unused.items ≡ rest ++ slot ∷ [] = search rules in
    let are : AreSlots slots (rest ++ slot ∷ []) words =
    subst (λ (unused : List ℕ). AreSlots slots unused words) popped c.self.invariant.0 in
    let within : c.args.frame < length slots = search rules in
    let zero : slice_index slots c.args.frame ≡ 0 =
    marked_slot slots words c.args.self.now c.args.frame c.self.view_is within c.requires.marked in
    let cleared : c.zero_words.new.words ≡ zeroed_words words slot = search rules in
    let same : length c.zero_words.new.words ≡ length words =
    ap (λ (xs : List ℕ). length xs) cleared ∙ length-zeroed_words words slot (unused_made slots rest words slot are)
    in
    let size : length (slice_set slots c.args.frame slot) ≡ length slots = length-set slots c.args.frame slot in (
      subst (λ (now : List ℕ). AreSlots (slice_set slots c.args.frame slot) rest now)
          (sym (with_items_is c.self.inside.words c.zero_words.new.words (search (rules, same)) ∙ cleared))
          (reused_slots slots rest words slot are c.args.frame within zero),
      record {
        unused = omega (arith, size, c.pop.ensures.capacity, c.self.invariant.1.unused);
        words = omega (arith, size, c.self.invariant.1.words);
      },
    )

pub unwrap-requires : goal.unwrap-requires
unwrap-requires c =
    let slots : List ℕ = c.self.inside.slots.items in
    let words : List ℕ = c.self.inside.words.items in
    let none : c.self.inside.unused.items ≡ [] = search rules in
    let are : AreSlots slots [] words = subst (λ (unused : List ℕ). AreSlots slots unused words) none c.self.invariant.0 in
    let within : c.args.frame < length slots = search rules in
    let zero : slice_index slots c.args.frame ≡ 0 =
    marked_slot slots words c.args.self.now c.args.frame c.self.view_is within c.requires.marked in
    let count : c.len-slot.result ≡ length words = search rules in
    c.resize.ensures.succeeds (omega (arith, count, new_enough slots words are c.args.frame within zero, c.self.invariant.1.words))

pub invariant_of-self-in-None : goal.invariant_of-self-in-None
invariant_of-self-in-None c =
    let slots : List ℕ = c.self.inside.slots.items in
    let words : List ℕ = c.self.inside.words.items in
    let none : c.self.inside.unused.items ≡ [] = search rules in
    let rest : c.pop.new.self.items ≡ [] = search rules in
    let are : AreSlots slots [] words = subst (λ (unused : List ℕ). AreSlots slots unused words) none c.self.invariant.0 in
    let within : c.args.frame < length slots = search rules in
    let zero : slice_index slots c.args.frame ≡ 0 =
    marked_slot slots words c.args.self.now c.args.frame c.self.view_is within c.requires.marked in
    let count : c.len-slot.result ≡ length words = search rules in
    let longer : c.resize.new.self.items ≡ with_slot words =
    with_slot-is words c.resize.new.self.items (made_whole slots [] words are) (search rules)
    in
    let size : length (slice_set slots c.args.frame (c.len-slot.result / 1024)) ≡ length slots =
    length-set slots c.args.frame (c.len-slot.result / 1024)
    in (
      subst (λ (n : ℕ). AreSlots (slice_set slots c.args.frame (n / 1024)) c.pop.new.self.items c.resize.new.self.items) (sym count)
          (subst (λ (now : List ℕ). AreSlots (slice_set slots c.args.frame (length words / 1024)) c.pop.new.self.items now) (sym longer)
          (subst (λ (now : List ℕ). AreSlots (slice_set slots c.args.frame (length words / 1024)) now (with_slot words)) (sym rest)
          (made_slots slots words are c.args.frame within zero))),
      record {
        unused = omega (arith, size, c.pop.ensures.capacity, c.self.invariant.1.unused);
        words = omega (arith, size, c.resize.ensures.capacity, c.self.invariant.1.words);
      },
    )

pub returns-in-Some : goal.returns-in-Some
returns-in-Some c =
    let slots : List ℕ = c.self.inside.slots.items in
    let words : List ℕ = c.self.inside.words.items in
    let rest : List ℕ = c.pop.new.self.items in
    let slot : ℕ = c.in-Some.slot in
    let popped : c.self.inside.unused.items ≡ rest ++ slot ∷ [] = search rules in
    let are : AreSlots slots (rest ++ slot ∷ []) words =
    subst (λ (unused : List ℕ). AreSlots slots unused words) popped c.self.invariant.0 in
    let within : c.args.frame < length slots = search rules in
    let zero : slice_index slots c.args.frame ≡ 0 =
    marked_slot slots words c.args.self.now c.args.frame c.self.view_is within c.requires.marked in
    let cleared : c.zero_words.new.words ≡ zeroed_words words slot = search rules in
    let same : length c.zero_words.new.words ≡ length words =
    ap (λ (xs : List ℕ). length xs) cleared ∙ length-zeroed_words words slot (unused_made slots rest words slot are)
    in
    record {
      becomes =
          ap (λ (now : List ℕ). held (slice_set slots c.args.frame slot) now)
          (with_items_is c.self.inside.words c.zero_words.new.words (search (rules, same)) ∙ cleared)
          ∙ held-reused slots rest words slot are c.args.frame within zero
          ∙ ap (λ (memory : Contents). record memory { marked = slice_set memory.marked c.args.frame false }) c.self.view_is;
    }

pub returns-in-None : goal.returns-in-None
returns-in-None c =
    let slots : List ℕ = c.self.inside.slots.items in
    let words : List ℕ = c.self.inside.words.items in
    let none : c.self.inside.unused.items ≡ [] = search rules in
    let are : AreSlots slots [] words = subst (λ (unused : List ℕ). AreSlots slots unused words) none c.self.invariant.0 in
    let within : c.args.frame < length slots = search rules in
    let zero : slice_index slots c.args.frame ≡ 0 =
    marked_slot slots words c.args.self.now c.args.frame c.self.view_is within c.requires.marked in
    let count : c.len-slot.result ≡ length words = search rules in
    let longer : c.resize.new.self.items ≡ with_slot words =
    with_slot-is words c.resize.new.self.items (made_whole slots [] words are) (search rules)
    in
    record {
      becomes =
          ap (λ (n : ℕ). held (slice_set slots c.args.frame (n / 1024)) c.resize.new.self.items) count
          ∙ ap (λ (now : List ℕ). held (slice_set slots c.args.frame (length words / 1024)) now) longer
          ∙ held-made slots words are c.args.frame within zero
          ∙ ap (λ (memory : Contents). record memory { marked = slice_set memory.marked c.args.frame false }) c.self.view_is;
    }

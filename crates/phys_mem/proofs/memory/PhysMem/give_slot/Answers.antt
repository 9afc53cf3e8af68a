-- A frame that was zeroed, or had the mark already.
use Rattle.std.proofs.Common.{arith, rules, ◌≡◌, ◌∙◌, ap, sym, subst, ℕ, ◌<◌, List, ◌∷◌, [], ◌++◌, length, slice_set, length-set, get_or-set_same, true}
use Rattle.std.specs.Prelude.{slice_index}
use Rattle.phys_mem.specs.Contents.{Contents, zeroed, is_marked}
use Rattle.phys_mem.specs.Slots.{AreSlots, is_zero_slot}
use Rattle.phys_mem.proofs.SlotLemmas.{frames_size, read_is, is_marked-slot}
use Rattle.phys_mem.proofs.GivingLemmas.{held-given, held-marked, given_slots, unused_few}
use Rattle.phys_mem.proofs.memory.PhysMem.give_slot.Goals as goal

pub returns-then-slot-eq-ZERO_SLOT-clause-becomes : goal.returns-then-slot-eq-ZERO_SLOT-clause-becomes
returns-then-slot-eq-ZERO_SLOT-clause-becomes c =
    let slots : List ℕ = c.self.inside.slots.items in
    let within : c.args.frame < length slots = search rules in
    let zero : slice_index slots c.args.frame ≡ 0 =
    sym (read_is slots c.args.frame c.index-slot.result.now within c.index-slot.ensures) ∙ c.if-slot-eq-ZERO_SLOT.true
    in
    subst (λ (memory : Contents). memory ≡ zeroed memory c.args.frame) c.self.view_is
    (held-marked slots c.self.inside.unused.items c.self.inside.words.items c.self.invariant.0 c.args.frame within zero)

pub returns-then-slot-eq-ZERO_SLOT-clause-marked : goal.returns-then-slot-eq-ZERO_SLOT-clause-marked
returns-then-slot-eq-ZERO_SLOT-clause-marked c =
    let slots : List ℕ = c.self.inside.slots.items in
    let within : c.args.frame < length slots = search rules in
    let zero : slice_index slots c.args.frame ≡ 0 =
    sym (read_is slots c.args.frame c.index-slot.result.now within c.index-slot.ensures) ∙ c.if-slot-eq-ZERO_SLOT.true
    in
    subst (λ (memory : Contents). is_marked memory c.args.frame ≡ true) c.self.view_is
    (is_marked-slot slots c.self.inside.words.items c.args.frame within ∙ ap is_zero_slot zero)

pub returns-then-slot-eq-ZERO_SLOT-clause-size : goal.returns-then-slot-eq-ZERO_SLOT-clause-size
returns-then-slot-eq-ZERO_SLOT-clause-size c =
    frames_size c.self.inside.slots.items c.self.inside.words.items c.args.self.now c.self.view_is

pub push_reserved-requires : goal.push_reserved-requires
push_reserved-requires c =
    let slots : List ℕ = c.self.inside.slots.items in
    let within : c.args.frame < length slots = search rules in
    let slot : c.index-slot.result.now ≡ slice_index slots c.args.frame =
    read_is slots c.args.frame c.index-slot.result.now within c.index-slot.ensures
    in
    let own : 0 < slice_index slots c.args.frame = omega (arith, slot, c.if-slot-eq-ZERO_SLOT.false) in
    let few : length c.self.inside.unused.items < length slots =
    unused_few slots c.self.inside.unused.items c.self.inside.words.items c.self.invariant.0 c.args.frame within own
    in
    search (rules, few, c.self.invariant.1.unused)

pub invariant_of-self : goal.invariant_of-self
invariant_of-self c =
    let slots : List ℕ = c.self.inside.slots.items in
    let unused : List ℕ = c.self.inside.unused.items in
    let words : List ℕ = c.self.inside.words.items in
    let within : c.args.frame < length slots = search rules in
    let slot : c.index-slot.result.now ≡ slice_index slots c.args.frame =
    read_is slots c.args.frame c.index-slot.result.now within c.index-slot.ensures
    in
    let own : 0 < slice_index slots c.args.frame = omega (arith, slot, c.if-slot-eq-ZERO_SLOT.false) in
    let pushed : c.push_reserved.new.self.items ≡ unused ++ slice_index slots c.args.frame ∷ [] =
    c.push_reserved.ensures.items ∙ ap (λ (s : ℕ). unused ++ s ∷ []) slot
    in
    let size : length (slice_set slots c.args.frame 0) ≡ length slots = length-set slots c.args.frame 0 in (
      subst (λ (now : List ℕ). AreSlots (slice_set slots c.args.frame 0) now words) (sym pushed)
          (given_slots slots unused words c.self.invariant.0 c.args.frame within own),
      record {
        unused = omega (arith, size, c.push_reserved.ensures.capacity, c.self.invariant.1.unused);
        words = omega (arith, size, c.self.invariant.1.words);
      },
    )

pub returns-clause-becomes : goal.returns-clause-becomes
returns-clause-becomes c =
    let slots : List ℕ = c.self.inside.slots.items in
    let within : c.args.frame < length slots = search rules in
    held-given slots c.self.inside.unused.items c.self.inside.words.items c.self.invariant.0 c.args.frame within
    ∙ ap (λ (memory : Contents). zeroed memory c.args.frame) c.self.view_is

pub returns-clause-size : goal.returns-clause-size
returns-clause-size c = frames_size c.self.inside.slots.items c.self.inside.words.items c.args.self.now c.self.view_is

pub returns-clause-marked : goal.returns-clause-marked
returns-clause-marked c =
    let slots : List ℕ = c.self.inside.slots.items in
    let within : c.args.frame < length slots = search rules in
    is_marked-slot (slice_set slots c.args.frame 0) c.self.inside.words.items c.args.frame
    (omega (arith, within, length-set slots c.args.frame 0))
    ∙ ap is_zero_slot (get_or-set_same slots c.args.frame 0 0 within)

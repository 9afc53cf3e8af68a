-- A frame that has the mark.
use Rattle.std.proofs.Common.{rules, ◌≡◌, ◌∙◌, sym, subst, ℕ, ◌<◌, List, length}
use Rattle.std.specs.Prelude.{slice_index}
use Rattle.phys_mem.specs.Contents.{Contents, frame_words, zeros}
use Rattle.phys_mem.proofs.SlotLemmas.{read_is}
use Rattle.phys_mem.proofs.GivingLemmas.{zero_slot_words}
use Rattle.phys_mem.proofs.memory.PhysMem.is_blank.Goals as goal

pub returns-clause-zero : goal.returns-clause-zero
returns-clause-zero c = λ blank.
    let slots : List ℕ = c.self.inside.slots.items in
    let within : c.number.result < length slots = search rules in
    let is_zero : c.index.result.now ≡ 0 = search (rules, blank) in
    let zero : slice_index slots c.number.result ≡ 0 =
    sym (read_is slots c.number.result c.index.result.now within c.index.ensures) ∙ is_zero in
    subst (λ (frame : ℕ). frame_words c.args.self.now frame ≡ zeros 1) c.number.ensures.same
    (subst (λ (memory : Contents). frame_words memory c.number.result ≡ zeros 1) c.self.view_is
    (zero_slot_words slots c.self.inside.unused.items c.self.inside.words.items c.self.invariant.0 c.number.result within zero))

-- How many frames have the mark, and what they read.
use Rattle.std.proofs.Common.{arith, ◌≡◌, ◌∙◌, ap, sym, ℕ, ◌+◌, ◌-◌, ◌/◌, List}
use Rattle.phys_mem.specs.Contents.{Contents, marks}
use Rattle.phys_mem.specs.Slots.{times}
use Rattle.phys_mem.proofs.TimesLemmas.{times-le-length, count-zero_slots}
use Rattle.phys_mem.proofs.GivingLemmas.{marked_words}
use Rattle.phys_mem.proofs.memory.PhysMem.zeros.Goals as goal

pub returns-clause-value : goal.returns-clause-value
returns-clause-value c =
    let slots : List ℕ = c.self.inside.slots.items in
    let count : c.len.result + c.len-2.result + 1 - c.len-made.result / 1024 ≡ times 0 slots =
    omega (arith, c.len-2.ensures, c.len.ensures, c.len-made.ensures, c.self.invariant.0.made, times-le-length 0 slots)
    in
    count ∙ sym (count-zero_slots slots) ∙ ap (λ (memory : Contents). marks memory) c.self.view_is

pub returns-clause-zero : goal.returns-clause-zero
returns-clause-zero c = λ frame marked.
    marked_words c.self.inside.slots.items c.self.inside.unused.items c.self.inside.words.items c.args.self.now frame
    c.self.invariant.0 c.self.view_is marked

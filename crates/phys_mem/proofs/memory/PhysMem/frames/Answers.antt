-- The size of a memory.
use Rattle.std.proofs.Common.{rules, ◌≡◌, ◌∙◌, ap, sym, ◌*◌, ℕ, length}
use Rattle.phys_mem.specs.Contents.{Contents}
use Rattle.phys_mem.proofs.SlotLemmas.{length-words_in}
use Rattle.phys_mem.proofs.memory.PhysMem.frames.Goals as goal

pub returns-clause-words : goal.returns-clause-words
returns-clause-words c =
    let count : length c.self.inside.slots.items ≡ c.len.result = search rules in
    ap (λ (memory : Contents). length memory.words) (sym c.self.view_is)
    ∙ length-words_in c.self.inside.slots.items c.self.inside.words.items
    ∙ ap (λ (n : ℕ). 1024 * n) count

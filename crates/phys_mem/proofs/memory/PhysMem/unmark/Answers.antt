-- A frame that has a slot of its own.
use Rattle.std.proofs.Common.{arith, rules, ◌≡◌, subst, false, ℕ, ◌<◌, List, length, slice_set}
use Rattle.std.specs.Prelude.{slice_index}
use Rattle.phys_mem.specs.Contents.{Contents}
use Rattle.phys_mem.proofs.SlotLemmas.{read_is}
use Rattle.phys_mem.proofs.TakingLemmas.{held-own}
use Rattle.phys_mem.proofs.memory.PhysMem.unmark.Goals as goal

pub returns-else-index-eq-ZERO_SLOT : goal.returns-else-index-eq-ZERO_SLOT
returns-else-index-eq-ZERO_SLOT c =
    let slots : List ℕ = c.self.inside.slots.items in
    let within : c.args.frame < length slots = search rules in
    let slot : c.index.result.now ≡ slice_index slots c.args.frame = read_is slots c.args.frame c.index.result.now within c.index.ensures in
    record {
      becomes =
          subst (λ (memory : Contents). memory ≡ record memory { marked = slice_set memory.marked c.args.frame false }) c.self.view_is
          (held-own slots c.self.inside.words.items c.args.frame within (omega (arith, slot, c.if-index-eq-ZERO_SLOT.false)));
    }

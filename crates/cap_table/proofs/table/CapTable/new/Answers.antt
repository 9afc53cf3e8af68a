-- Empty slots are sound.
use Rattle.cap_table.proofs.SoundLemmas.{empty_sound}
use Rattle.cap_table.proofs.table.CapTable.new.Goals as goal

pub invariant_of-result : goal.invariant_of-result
invariant_of-result c =
    rw (c.in_ok-all_empty.ensures.empty, c.in_ok-all_empty-2.ensures.empty, c.in_ok-all_empty-3.ensures.empty)
    empty_sound

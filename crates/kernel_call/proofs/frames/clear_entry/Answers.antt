-- The entry that is cleared, if any.
use Rattle.kernel_call.proofs.Drops.{leaf_leaves, entry_leaves, nothing_leaves}
use Rattle.kernel_call.proofs.frames.clear_entry.Goals as goal

pub returns-in-Some-clause-clears : goal.returns-in-Some-clause-clears
returns-in-Some-clause-clears c = λ m holds.
    leaf_leaves c.args.map.now c.args.unmapped c.args.uninstalled m c.unmap.new.mem c.tell_entry.new.work
    c.in-Some.va c.unmap.result c.in-Some.is
    (c.unmap.ensures.unmapped m holds) (c.unmap.ensures.entry m holds) (c.tell_entry.ensures.written 7 c.requires.fresh)

pub returns-in_default-uninstalled-clause-clears : goal.returns-in_default-uninstalled-clause-clears
returns-in_default-uninstalled-clause-clears c = λ m holds.
    nothing_leaves c.args.map.now c.args.unmapped c.args.uninstalled m c.args.memory.now c.args.work.now
    c.in_default.is c.in_default-uninstalled.is holds c.requires.fresh

pub returns-clause-clears : goal.returns-clause-clears
returns-clause-clears c = λ m holds.
    entry_leaves c.args.map.now c.args.unmapped c.args.uninstalled m c.uninstall_table.new.mem c.tell_entry-2.new.work
    c.in-Some-uninstalled.va c.uninstall_table.result c.in_default.is c.in-Some-uninstalled.is
    (c.uninstall_table.ensures.uninstalled m holds) c.uninstall_table.ensures.entry (c.tell_entry-2.ensures.written 7 c.requires.fresh)

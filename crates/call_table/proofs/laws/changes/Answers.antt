-- The laws of slots that are set, and of entries that are written.
use Rattle.call_table.proofs.EntriesWritten.{allocated_slot, mapped_slot, copied_page, copied_line, deleted_slot, revoked_slots, entries_are}
use Rattle.call_table.proofs.FreedFrames.{freed}
use Rattle.call_table.proofs.laws.changes.Goals as goal

pub returns-clause-deleted : goal.returns-clause-deleted
returns-clause-deleted c = λ e d x m is does. deleted_slot e d x m is does

pub returns-clause-revoked : goal.returns-clause-revoked
returns-clause-revoked c = λ e d x m h is does. revoked_slots e d x m h is does

pub returns-clause-entries : goal.returns-clause-entries
returns-clause-entries c = λ e d x m h does. entries_are e d x m h does

pub returns-clause-allocated : goal.returns-clause-allocated
returns-clause-allocated c = λ e d x m h is does. allocated_slot e d x m h is does

pub returns-clause-mapped : goal.returns-clause-mapped
returns-clause-mapped c = λ e d x m frame rights at h is does there. mapped_slot e d x m frame rights at h is does there

pub returns-clause-copied_page : goal.returns-clause-copied_page
returns-clause-copied_page c = λ e d x m frame rights at h is does there. copied_page e d x m frame rights at h is does there

pub returns-clause-copied_line : goal.returns-clause-copied_line
returns-clause-copied_line c = λ e d x m line h is does there. copied_line e d x m line h is does there

pub returns-clause-freed : goal.returns-clause-freed
returns-clause-freed c = freed

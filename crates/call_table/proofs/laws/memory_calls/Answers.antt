-- The laws of TABLE and UNMAP, and of the calls that leave memory.
use Rattle.call_table.proofs.MeaningPages.{table_means, unmap_means, deleted_table, deleted_line, memory_stays}
use Rattle.call_table.proofs.laws.memory_calls.Goals as goal

pub returns-clause-table : goal.returns-clause-table
returns-clause-table c = λ e d x m frame h is does named. table_means e d x m frame h is does named

pub returns-clause-unmap : goal.returns-clause-unmap
returns-clause-unmap c = λ e d m frame rights va h is there. unmap_means e d m frame rights va h is there

pub returns-clause-others : goal.returns-clause-others
returns-clause-others c = λ e d m none. memory_stays e d m none

pub returns-clause-deleted_table : goal.returns-clause-deleted_table
returns-clause-deleted_table c = deleted_table

pub returns-clause-deleted_line : goal.returns-clause-deleted_line
returns-clause-deleted_line c = deleted_line

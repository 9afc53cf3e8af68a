-- The law of what the facts mean for page tables.
use Rattle.call_table.proofs.TablesMeaning.{page_tables, stored}
use Rattle.call_table.proofs.laws.page_tables.Goals as goal

pub returns-clause-tables : goal.returns-clause-tables
returns-clause-tables c = λ e d m h. page_tables e d m h

pub returns-clause-stores : goal.returns-clause-stores
returns-clause-stores c = λ e d m f i v h. stored e d m h f i v

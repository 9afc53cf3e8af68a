mod Opening
mod TableLemmas

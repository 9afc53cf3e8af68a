-- The walk by what its steps found: a root or a table outside memory, one entry that ends it, or two.
use Rattle.std.proofs.Common.{◌≡◌, [], ◌∷◌, ℕ, ◌<◌, ◌≤◌, lt-ltb, le-ltb}
use Rattle.std.specs.Prelude.{Some, None, Result, Err}
use Rattle.phys_mem.specs.Mem.{Mem, word}
use Rattle.sv32_walk.specs.declared.access.Access.{Access}
use Rattle.sv32_walk.specs.declared.access.WalkFault.{WalkFault}
use Rattle.sv32_walk.specs.declared.access.WalkFault.TheVariants as fault
use Rattle.sv32_walk.specs.PageTableEntry.{ppn, vpn_0, vpn_1}
use Rattle.sv32_walk.specs.Walk.{walk, from_entry, from_table, first_level, last_level, entry_address}

module _ (mem : Mem) (frames root va : ℕ) (access : Access) where
  pub no_root : frames ≤ root
      → walk mem frames root va access ≡ record { result = Err fault.Access; reads = [] }
  unfolding walk
  no_root past = rw (le-ltb root frames past)

  module _ (within : root < frames) (first entry : ℕ) (at : first ≡ vpn_1 va) (is : entry ≡ word mem root first) where
    pub one_read : (end : Result ℕ WalkFault) → first_level frames va access entry ≡ Some end
        → walk mem frames root va access ≡ record { result = end; reads = entry_address root first ∷ [] }
    unfolding walk from_entry
    one_read end found = rw (lt-ltb root frames within, ← at, ← is, found)

    module _ (table : ℕ) (named : table ≡ ppn entry) (pointer : first_level frames va access entry ≡ None) where
      pub no_table : frames ≤ table
          → walk mem frames root va access ≡ record { result = Err fault.Access; reads = entry_address root first ∷ [] }
      unfolding walk from_entry from_table
      no_table past = rw (lt-ltb root frames within, ← at, ← is, pointer, ← named, le-ltb table frames past)

      pub two_reads : (second last : ℕ) → second ≡ vpn_0 va → last ≡ word mem table second → table < frames
          → walk mem frames root va access ≡ record {
            result = last_level frames access last;
            reads = entry_address root first ∷ entry_address table second ∷ [];
          }
      unfolding walk from_entry from_table
      two_reads second last at_second is_last inside =
          rw (lt-ltb root frames within, ← at, ← is, pointer, ← named, lt-ltb table frames inside, ← at_second, ← is_last)

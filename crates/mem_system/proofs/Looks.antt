-- Look-ups: of a page that the buffer holds, and of one whose walk reads its entries at the second level.
use Rattle.std.proofs.Common.{arith, ◌≡◌, ◌∙◌, sym, refl, ap, subst, subst₂, ℕ, ◌+◌, ◌≤◌, ◌/◌, Bool, true, false, List, length, map, take, Ok, Err}
use Rattle.std.specs.Prelude.{Result, is_some}
use Rattle.sv32_walk.specs.declared.access.WalkFault.{WalkFault}
use Rattle.sv32_walk.specs.Walk.{Walk, padded}
use Rattle.set_cache.specs.Rule.{Rule}
use Rattle.set_cache.specs.Cache.{Shape, Sets, place_of}
use Rattle.set_cache.specs.Contents.{StandsFor, SameShape, shape_of}
use Rattle.tlb_model.specs.Buffer.{Buffer, found_of, filled_of}
use Rattle.l2_colour.specs.Contents.{L2Contents}
use Rattle.mem_system.specs.Hierarchy.{Hierarchy}
use Rattle.mem_system.specs.Cost.{Read, looked, on_core, below_all, pass_on, touched}
use Rattle.mem_system.specs.Contents.{CoreContents, BelowSteps, SystemSteps, MakesTouch, hierarchy_of, system}
use Rattle.mem_system.specs.Translation.{is_found, lines_of, look_of}
use Rattle.mem_system.proofs.Accesses.{same_shape}
use Rattle.mem_system.proofs.Leaves.{reads_of}

module _ {P : Type 0} (rule : P → ℕ → Rule) (stands : P → ℕ → ℕ → List ℕ → Type 0) (va : ℕ) (w : Walk)
    (old : CoreContents P) (l2 : L2Contents P) where
  same_after : (tlb : Buffer P) → SameShape old.tlb.pages tlb.pages
      → hierarchy_of rule (system (record old { tlb = tlb }) l2) ≡ hierarchy_of rule (system old l2)
  same_after tlb shape =
      ap (λ (s : Shape). record (hierarchy_of rule (system old l2)) { tlb = s }) (same_shape rule old.tlb.pages tlb.pages shape)

  -- the buffer holds the page
  pub look_held : (tlb : Buffer P) → SameShape old.tlb.pages tlb.pages
      → ((sets : Sets) → StandsFor stands old.tlb.pages sets → true ≡ is_some (place_of (shape_of rule old.tlb.pages) sets (va / 4096)))
      → ((sets : Sets) → StandsFor stands old.tlb.pages sets
      → StandsFor stands tlb.pages (found_of (shape_of rule old.tlb.pages) sets (va / 4096)))
      → MakesTouch rule stands (look_of l2.line_size va w) old.costs.tlb (system old l2) (system (record old { tlb = tlb }) l2)
  unfolding touched pass_on on_core looked below_all look_of
  look_held tlb shape held step = record {
    same = same_after tlb shape;
    pinned = refl;
    steps = λ caches for.
        let h : Hierarchy = hierarchy_of rule (system old l2) in
        let reads : List ℕ = lines_of l2.line_size w.reads in
        subst (λ (b : Bool). SystemSteps stands old.costs.tlb (system (record old { tlb = tlb }) l2)
        (pass_on h old.pinned caches.l2 (looked h caches.core (va / 4096) reads (is_found w.result) b)))
        (held caches.core.tlb for.core.tlb)
        (record {
          cost = omega arith;
          next = record {
            core = record { l1i = for.core.l1i; l1d = for.core.l1d; tlb = step caches.core.tlb for.core.tlb; guesses = for.core.guesses };
            l2 = for.l2;
          };
        });
  }

  module _ (absent : (sets : Sets) → StandsFor stands old.tlb.pages sets
      → is_some (place_of (shape_of rule old.tlb.pages) sets (va / 4096)) ≡ false)
      (count : ℕ) (array : List ℕ) (padding : array ≡ padded w.reads) (counted : count ≡ length w.reads) (few : count ≤ 2)
      (last : L2Contents P) (cycles : ℕ)
      (same_read : hierarchy_of rule (system old last) ≡ hierarchy_of rule (system old l2))
      (reads : (sets : Sets) → StandsFor stands l2.cache sets
      → BelowSteps stands cycles last (below_all (hierarchy_of rule (system old l2)) old.pinned sets
      (map Read (lines_of l2.line_size (take count array))))) where
    walk_reads : (sets : Sets) → StandsFor stands l2.cache sets
        → BelowSteps stands cycles last (below_all (hierarchy_of rule (system old l2)) old.pinned sets
        (map Read (lines_of l2.line_size w.reads)))
    walk_reads sets for =
        subst (λ (xs : List ℕ). BelowSteps stands cycles last (below_all (hierarchy_of rule (system old l2)) old.pinned sets
        (map Read (lines_of l2.line_size xs))))
        (reads_of count array w.reads padding counted few) (reads sets for)

    -- the walk finds a leaf, which is kept
    pub look_filled : (leaf : ℕ) (result : Result ℕ WalkFault) → result ≡ w.result → result ≡ Ok leaf
        → (tlb : Buffer P) → SameShape old.tlb.pages tlb.pages
        → ((sets : Sets) → StandsFor stands old.tlb.pages sets
        → StandsFor stands tlb.pages (filled_of (shape_of rule old.tlb.pages) sets (va / 4096)))
        → MakesTouch rule stands (look_of l2.line_size va w) (old.costs.tlb + cycles) (system old l2)
        (system (record old { tlb = tlb }) last)
    unfolding touched pass_on on_core looked look_of
    look_filled leaf result walked found tlb shape step = record {
      same = ap (λ (k : Hierarchy). record k { tlb = shape_of rule tlb.pages }) same_read ∙ same_after tlb shape;
      pinned = refl;
      steps = λ caches for.
          let h : Hierarchy = hierarchy_of rule (system old l2) in
          let was_read = walk_reads caches.l2 for.l2 in
          subst₂ (λ (f b : Bool). SystemSteps stands (old.costs.tlb + cycles) (system (record old { tlb = tlb }) last)
          (pass_on h old.pinned caches.l2 (looked h caches.core (va / 4096) (lines_of l2.line_size w.reads) f b)))
          (ap is_found (sym found ∙ walked)) (sym (absent caches.core.tlb for.core.tlb))
          (record {
            cost = omega (arith, was_read.cost);
            next = record {
              core = record { l1i = for.core.l1i; l1d = for.core.l1d; tlb = step caches.core.tlb for.core.tlb; guesses = for.core.guesses };
              l2 = was_read.next;
            };
          });
    }

    -- it finds none, and the buffer stays
    pub look_failed : (fault : WalkFault) (result : Result ℕ WalkFault) → result ≡ w.result
        → result ≡ Err fault
        → MakesTouch rule stands (look_of l2.line_size va w) (old.costs.tlb + cycles) (system old l2) (system old last)
    unfolding touched pass_on on_core looked look_of
    look_failed fault result walked failed = record {
      same = same_read;
      pinned = refl;
      steps = λ caches for.
          let h : Hierarchy = hierarchy_of rule (system old l2) in
          let was_read = walk_reads caches.l2 for.l2 in
          subst₂ (λ (f b : Bool). SystemSteps stands (old.costs.tlb + cycles) (system old last)
          (pass_on h old.pinned caches.l2 (looked h caches.core (va / 4096) (lines_of l2.line_size w.reads) f b)))
          (ap is_found (sym failed ∙ walked)) (sym (absent caches.core.tlb for.core.tlb))
          (record { cost = omega (arith, was_read.cost); next = record { core = for.core; l2 = was_read.next } });
    }

-- Where walks of page tables read, and where they end.
use Rattle.std.proofs.Common.{arith, ◌≡◌, ◌≢◌, ◌∙◌, ap, sym, subst, inl, inr, [], ◌∷◌, ℕ, ◌/◌, ◌<◌, true, true≢false}
use Rattle.std.proofs.lemmas.Bool.{cases_Bool}
use Rattle.std.proofs.lemmas.List.Elements.{All-nil, All-cons}
use Rattle.std.specs.Prelude.{All, Ok, Err}
use Rattle.phys_mem.specs.Mem.{Mem}
use Rattle.sv32_walk.specs.declared.access.Access.{Access}
use Rattle.sv32_walk.specs.declared.access.WalkFault.TheVariants as fault
use Rattle.sv32_walk.specs.PageTableEntry.{ppn, vpn_0, vpn_1}
use Rattle.sv32_walk.specs.Walk.{Walk, walk, entry_address}
use Rattle.sv32_walk.specs.Translation.{Points, first_entry, second_entry, InBigPage, HasLeaf, big, small, LeavesMemory, root_outside, table_outside, big_outside, page_outside}
use Rattle.sv32_walk.proofs.WalkLemmas.{leaf_in_words, outside_in_words, both_read}
use Rattle.page_map.specs.Tables.{IsPointer, IsPageMap, has_table, table_of}
use Rattle.page_map.specs.Reached.{TablesIn, PagesIn}
use Rattle.page_map.proofs.WalkLemmas.{no_entry, vpn_0-below, vpn_1-below}
use Rattle.page_map.proofs.KeptLemmas.{pointer_at, pointer-points}

entry_frame : (table index : ℕ) → index < 1024 → entry_address table index / 4096 ≡ table
unfolding entry_address
entry_frame table index below = omega (arith, below)

module _ (m : Mem) (root frames : ℕ) (k : IsPageMap m root frames) (va : ℕ) (access : Access) where
  points : has_table m root va ≡ true → Points (first_entry m root va)
  points table = pointer-points (first_entry m root va) root frames (pointer_at m root frames va k table)

  read_in : (pool : ℕ → Type 0) (table index : ℕ) → index < 1024 → pool table
      → pool (entry_address table index / 4096)
  read_in pool table index below in_pool = subst pool (sym (entry_frame table index below)) in_pool

  -- it reads the root and the tables alone
  pub walk_reads : (pool : ℕ → Type 0) → pool root → TablesIn pool m root
      → All (λ at. pool (at / 4096)) (walk m frames root va access).reads
  walk_reads pool own t =
      let in_pool : ℕ → Type 0 = λ at. pool (at / 4096) in
      let at_root : in_pool (entry_address root (vpn_1 va)) = read_in pool root (vpn_1 va) (vpn_1-below va) own in
      elim (cases_Bool (has_table m root va)) [
        | inl table ↦
            let p : IsPointer (first_entry m root va) root frames = pointer_at m root frames va k table in
            let at_table : in_pool (entry_address (table_of m root va) (vpn_0 va)) =
            read_in pool (table_of m root va) (vpn_0 va) (vpn_0-below va) (t.each (vpn_1 va) (vpn_1-below va) table) in
            subst (All in_pool) (sym (both_read m frames root va access k.in_memory (points table) p.in_memory))
            (All-cons in_pool _ (entry_address (table_of m root va) (vpn_0 va) ∷ []) at_root
            (All-cons in_pool _ [] at_table (All-nil in_pool)))
        | inr none ↦
            subst (All in_pool) (sym (ap (λ (w : Walk). w.reads) (no_entry m frames root va access k.in_memory none)))
            (All-cons in_pool _ [] at_root (All-nil in_pool))
      ]

  -- no page of 4 MiB, since a pointer is no leaf
  no_big_page : {A : Type 0} → InBigPage m frames root va access → A
  no_big_page b = absurd (true≢false (sym b.allowed.is_user ∙ (points b.allowed.is_valid).no_user))

  page_of_leaf : (pool : ℕ → Type 0) → PagesIn pool m root → (leaf : ℕ) → HasLeaf m frames root va access leaf
      → pool (ppn leaf)
  page_of_leaf pool p leaf (big b within is) = no_big_page b
  page_of_leaf pool p leaf (small q within is) =
      subst (λ (w : ℕ). pool (ppn w)) (sym is)
      (p.each (vpn_1 va) (vpn_0 va) (vpn_1-below va) (vpn_0-below va) q.pointer.is_valid q.allowed.is_valid)

  -- and comes to one of the pages
  pub walk_page : (pool : ℕ → Type 0) → PagesIn pool m root → (leaf : ℕ)
      → (walk m frames root va access).result ≡ Ok leaf → pool (ppn leaf)
  walk_page pool p leaf e = page_of_leaf pool p leaf ((leaf_in_words m frames root va access leaf).0 e)

  leaves_not : PagesIn (λ page. page < frames) m root → LeavesMemory m frames root va access → ⊥
  leaves_not p (root_outside past) = absurd (let in_memory : root < frames = k.in_memory in omega arith)
  leaves_not p (table_outside in_root q past) =
      let table : ppn (first_entry m root va) < frames = (pointer_at m root frames va k q.is_valid).in_memory in
      absurd (omega arith)
  leaves_not p (big_outside b past) = no_big_page b
  leaves_not p (page_outside q past) =
      let page : ppn (second_entry m root va) < frames =
      p.each (vpn_1 va) (vpn_0 va) (vpn_1-below va) (vpn_0-below va) q.pointer.is_valid q.allowed.is_valid in
      absurd (omega arith)

  -- within memory
  pub walk_inside : PagesIn (λ page. page < frames) m root
      → (walk m frames root va access).result ≢ Err fault.Access
  walk_inside p e = leaves_not p ((outside_in_words m frames root va access).0 e)

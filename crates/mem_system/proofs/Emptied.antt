-- A core whose dirty lines are written back is made fresh.
use Rattle.std.proofs.Common.{arith, ◌≡◌, ◌∙◌, ap, sym, subst, refl, ℕ, ◌+◌, ◌*◌, List, map}
use Rattle.tp_base.specs.Table.{empty}
use Rattle.set_cache.specs.Rule.{Rule}
use Rattle.set_cache.specs.Cache.{Shape, dirty_of, dirty_lines}
use Rattle.set_cache.specs.Contents.{Contents, StandsFor, SameShape, shape_of}
use Rattle.set_cache.specs.Calls.{IsFlush}
use Rattle.tlb_model.specs.Buffer.{Buffer}
use Rattle.branch_pred.specs.declared.Sizes.{Sizes}
use Rattle.branch_pred.specs.Guesses.{Guesses, fresh_guesses, sizes_of}
use Rattle.l2_colour.specs.Contents.{L2Contents}
use Rattle.mem_system.specs.Hierarchy.{Hierarchy}
use Rattle.mem_system.specs.Cost.{Caches, Flush, WriteBack, below_all, touched, pass_on, on_core, flushed, fresh_core}
use Rattle.mem_system.specs.Contents.{CoreContents, SystemStands, BelowSteps, MakesTouch, hierarchy_of, system}
use Rattle.mem_system.proofs.Accesses.{same_shape}
use Rattle.mem_system.proofs.Made.{sizes_made}

module _ {P : Type 0} (takes : P → ℕ → Type 0) (rule : P → ℕ → Rule) (stands : P → ℕ → ℕ → List ℕ → Type 0)
    (old : CoreContents P) (l1d l1i : Contents P) (tlb : Buffer P) (guesses : Guesses) (l2 last : L2Contents P) (dirty clean : ℕ) where
  made_fresh : hierarchy_of rule (system old last) ≡ hierarchy_of rule (system old l2)
      → ((caches : Caches) → SystemStands stands (system old l2) caches
      → BelowSteps stands 0 last (below_all (hierarchy_of rule (system old l2)) old.pinned caches.l2
      (map WriteBack (dirty_lines (shape_of rule old.l1d) caches.core.l1d))))
      → IsFlush takes rule stands dirty old.l1d l1d
      → IsFlush takes rule stands clean old.l1i l1i
      → SameShape old.tlb.pages tlb.pages → StandsFor stands tlb.pages empty
      → guesses ≡ fresh_guesses (sizes_of old.guesses)
      → MakesTouch rule stands Flush (old.costs.flush + old.costs.wb * dirty) (system old l2)
      (system (record old { l1i = l1i; l1d = l1d; tlb = tlb; guesses = guesses }) last)
  unfolding touched pass_on on_core flushed fresh_core
  made_fresh same writes lines code pages none reset =
      let h : Hierarchy = hierarchy_of rule (system old last) in
      let sizes : sizes_of guesses ≡ sizes_of old.guesses = ap sizes_of reset ∙ sizes_made (sizes_of old.guesses) in
      record {
        same =
            ap (λ (s : Shape). record h { l1i = s; l1d = shape_of rule l1d; tlb = shape_of rule tlb.pages; predictor = sizes_of guesses })
            (same_shape rule old.l1i l1i code.shape)
            ∙ ap (λ (s : Shape). record h { l1d = s; tlb = shape_of rule tlb.pages; predictor = sizes_of guesses })
            (same_shape rule old.l1d l1d lines.shape)
            ∙ ap (λ (s : Shape). record h { tlb = s; predictor = sizes_of guesses }) (same_shape rule old.tlb.pages tlb.pages pages)
            ∙ ap (λ (s : Sizes). record h { predictor = s }) sizes
            ∙ same;
        pinned = refl;
        steps = λ caches for.
            let wrote = writes caches for in
            let counted : old.costs.wb * dirty ≡ old.costs.wb * dirty_of (shape_of rule old.l1d) caches.core.l1d =
            ap (λ (n : ℕ). old.costs.wb * n) (lines.stands_for caches.core.l1d for.core.l1d) in
            record {
              cost = omega (arith, counted, wrote.cost);
              next = record {
                core = record { l1i = code.fresh; l1d = lines.fresh; tlb = none; guesses = reset };
                l2 = wrote.next;
              };
            };
      }

  -- the same, of the core as it is named where its lines are written back
  pub emptied : (now : CoreContents P) → old ≡ now
      → hierarchy_of rule (system now last) ≡ hierarchy_of rule (system now l2)
      → ((caches : Caches) → SystemStands stands (system now l2) caches
      → BelowSteps stands 0 last (below_all (hierarchy_of rule (system now l2)) now.pinned caches.l2
      (map WriteBack (dirty_lines (shape_of rule now.l1d) caches.core.l1d))))
      → IsFlush takes rule stands dirty old.l1d l1d
      → IsFlush takes rule stands clean old.l1i l1i
      → SameShape old.tlb.pages tlb.pages → StandsFor stands tlb.pages empty
      → guesses ≡ fresh_guesses (sizes_of old.guesses)
      → MakesTouch rule stands Flush (old.costs.flush + old.costs.wb * dirty) (system now l2)
      (system (record old { l1i = l1i; l1d = l1d; tlb = tlb; guesses = guesses }) last)
  emptied now is same writes lines code pages none reset =
      subst (λ (o : CoreContents P). MakesTouch rule stands Flush (old.costs.flush + old.costs.wb * dirty) (system o l2)
      (system (record old { l1i = l1i; l1d = l1d; tlb = tlb; guesses = guesses }) last))
      is
      (made_fresh
      (subst (λ (o : CoreContents P). hierarchy_of rule (system o last) ≡ hierarchy_of rule (system o l2)) (sym is) same)
      (subst (λ (o : CoreContents P). (caches : Caches) → SystemStands stands (system o l2) caches
      → BelowSteps stands 0 last (below_all (hierarchy_of rule (system o l2)) o.pinned caches.l2
      (map WriteBack (dirty_lines (shape_of rule o.l1d) caches.core.l1d))))
      (sym is) writes)
      lines code pages none reset)

-- Domains that are emptied one after the other, but for the kept ones.
use Rattle.std.proofs.Common.{◌≡◌, ℕ, ◌+◌, ◌<◌, ◌≤◌, Bool, true, false, List, length, get_or, set, refl, sym, ap, ◌∙◌, inl, inr, zero-add, arith}
use Rattle.std.proofs.lemmas.List.{ext_get_or, get_or-set_same, get_or-set_other, length-set}
use Rattle.std.proofs.lemmas.Bool.{cases_eq}
use Rattle.image_record.specs.Record.{RawDomain, no_raw_domain}
use Rattle.image_redact.specs.Redacted.{is_among, emptied}
use Rattle.image_redact.proofs.Lists.{from, same_length, kept_at, emptied_at}

abbrev at : List RawDomain → ℕ → RawDomain
at os k = get_or os k no_raw_domain

module _ (v : ℕ) (kept : List Bool) (taken : List (List ℕ)) where
  -- of these domains the first n are done
  pub record AreDone (n : ℕ) (old new : List RawDomain) : Type 0 where
    pub same : length new ≡ length old
    pub done : (k : ℕ) → k < n → at new k ≡ at (from v kept taken 0 old) k
    pub left : (k : ℕ) → n ≤ k → at new k ≡ at old k

  pub none_done : (os : List RawDomain) → AreDone 0 os os
  none_done os = record { same = refl; done = λ k l. absurd (omega (arith, l)); left = λ k l. refl }

  -- a kept one is left as it is
  pub kept_done : (n : ℕ) (old new : List RawDomain) → is_among kept n ≡ true → AreDone n old new → AreDone (n + 1) old new
  kept_done n old new here h = record {
    same = h.same;
    done = λ k l. elim (cases_eq k n) [
      | inl is ↦ rw is (h.left n (omega arith) ∙ sym (kept_at v kept taken no_raw_domain 0 n old (ap (is_among kept) (zero-add n) ∙ here)))
      | inr other ↦ h.done k (omega (arith, l, other))
    ];
    left = λ k l. h.left k (omega (arith, l));
  }

  -- another one is emptied
  pub other_done : (n : ℕ) (old new : List RawDomain) (o : RawDomain) → n < length new → is_among kept n ≡ false
      → o ≡ emptied v taken n (at new n) → AreDone n old new → AreDone (n + 1) old (set new n o)
  other_done n old new o below other is h = record {
    same = length-set new n o ∙ h.same;
    done = λ k l. elim (cases_eq k n) [
      | inl e ↦
          rw e
          (get_or-set_same new n o no_raw_domain below
          ∙ is ∙ ap (emptied v taken n) (h.left n (omega arith))
          ∙ sym (emptied_at v kept taken no_raw_domain 0 n old (omega (arith, below, h.same)) (ap (is_among kept) (zero-add n) ∙ other)
          ∙ ap (λ m. emptied v taken m (at old n)) (zero-add n)))
      | inr e ↦ get_or-set_other new n k o no_raw_domain e ∙ h.done k (omega (arith, l, e))
    ];
    left = λ k l. get_or-set_other new n k o no_raw_domain (λ e. absurd (omega (arith, l, e))) ∙ h.left k (omega (arith, l));
  }

  pub all_done : (n : ℕ) (old new : List RawDomain) → length new ≤ n → AreDone n old new → new ≡ from v kept taken 0 old
  all_done n old new end h =
      ext_get_or no_raw_domain new (from v kept taken 0 old) (h.same ∙ sym (same_length v kept taken 0 old))
      (λ k l. h.done k (omega (arith, l, end)))

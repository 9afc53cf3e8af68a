-- What switches took, of the code and of the definitions.
use Rattle.std.proofs.Common.{◌≡◌, ℕ, ◌+◌, ◌<◌, ◌≤◌, max, List, [], ◌∷◌, ◌++◌, length, take, drop, replicate, get_or, refl, sym, ap, subst, subst₂, ◌∙◌, arith, append-nil}
use Rattle.std.proofs.Math.ListN.{set}
use Rattle.std.proofs.lemmas.List.{drop_all, take_all}
use Rattle.std.proofs.lemmas.Option.{slice_get-get_or}
use Rattle.world_view.specs.Used.{largest_of, count_of}
use Rattle.world_view.proofs.steps.CodeLaws.{count_of-push_same, count_of-push_other, largest_of-push_same, largest_of-push_other}
use Rattle.world_view.specs.declared.used.Used.{Used}
use Rattle.domain_step.specs.Usage.{IsUsed, CountedUpTo}
use Rattle.domain_step.proofs.Elements.{each_set, each_replicate}

module _ (used : List Used) (e : ℕ) (none : Used) (within : e < length used) where
  pub is_used_noted : (cycles largest : ℕ) (us : List (ℕ × ℕ))
      → largest ≡ max (get_or used e none).largest cycles → IsUsed used us
      → IsUsed (set used e (record { largest = largest; count = (get_or used e none).count + 1 })) (us ++ (e, cycles) ∷ [])
  is_used_noted cycles largest us is old =
      let had = slice_get-get_or used e none within in
      record {
        largest = each_set (λ j u. u.largest ≡ largest_of j us) (λ j u. u.largest ≡ largest_of j (us ++ (e, cycles) ∷ [])) used e _ within
            (is ∙ ap (λ n. max n cycles) (old.largest e (get_or used e none) had) ∙ sym (largest_of-push_same e cycles us))
            (λ j u apart same. same ∙ sym (largest_of-push_other j e cycles us (λ q. apart (sym q)))) old.largest;
        count = each_set (λ j u. u.count ≡ count_of j us) (λ j u. u.count ≡ count_of j (us ++ (e, cycles) ∷ [])) used e _ within
            (ap (λ n. n + 1) (old.count e (get_or used e none) had) ∙ sym (count_of-push_same e cycles us))
            (λ j u apart same. same ∙ sym (count_of-push_other j e cycles us (λ q. apart (sym q)))) old.count;
      }

  pub counted_noted : (n largest : ℕ) → CountedUpTo n used
      → CountedUpTo (n + 1)
      (set used e (record { largest = largest; count = (get_or used e none).count + 1 }))
  counted_noted n largest old =
      let had = old.few e (get_or used e none) (slice_get-get_or used e none within) in
      record {
        few =
            each_set (λ j u. u.count ≤ n) (λ j u. u.count ≤ n + 1) used e _ within (omega arith)
            (λ j u apart h. omega arith) old.few;
      }

-- before the first switch
pub is_used_none : (used : List Used) (n : ℕ) → used ≡ replicate n (record { largest = 0; count = 0 })
    → IsUsed used []
unfolding largest_of count_of
is_used_none used n is = rw is (record {
  largest = λ e. each_replicate (λ u. u.largest ≡ 0) n _ refl e;
  count = λ e. each_replicate (λ u. u.count ≡ 0) n _ refl e;
})

pub counted_none : (used : List Used) (n : ℕ) → used ≡ replicate n (record { largest = 0; count = 0 })
    → CountedUpTo 0 used
counted_none used n is = rw is (record { few = λ e. each_replicate (λ u. u.count ≤ 0) n _ (omega arith) e })

-- ---- a slice of all entries, written back

pub written_back : {A : Type 0} (new items : List A) (n : ℕ) → length new ≡ n → length items ≡ n
    → take n (new ++ drop (length new) items) ≡ new
written_back new items n long same =
    let rest : drop (length new) items ≡ [] = drop_all (length new) items (omega arith) in
    rw (rest, append-nil new) (take_all n new (omega arith))

module _ (used new : List Used) (n : ℕ) (long : length new ≡ n) (was : length used ≡ n) where
  pub noted_back : (e e' cycles cycles' : ℕ) → e ≡ e' → cycles ≡ cycles'
      → ((us : List (ℕ × ℕ)) → IsUsed used us → IsUsed new (us ++ (e, cycles) ∷ []))
      → (us : List (ℕ × ℕ)) → IsUsed used us → IsUsed (take n (new ++ drop (length new) used)) (us ++ (e', cycles') ∷ [])
  noted_back e e' cycles cycles' same equal noted us old =
      subst (λ (v : List Used). IsUsed v (us ++ (e', cycles') ∷ [])) (sym (written_back new used n long was))
      (subst₂ (λ (j m : ℕ). IsUsed new (us ++ (j, m) ∷ [])) same equal (noted us old))

  pub counted_back : ((k : ℕ) → CountedUpTo k used → CountedUpTo (k + 1) new) → (k : ℕ) → CountedUpTo k used
      → CountedUpTo (k + 1) (take n (new ++ drop (length new) used))
  counted_back counted k old = subst (CountedUpTo (k + 1)) (sym (written_back new used n long was)) (counted k old)

  pub length_back : length (take n (new ++ drop (length new) used)) ≡ length used
  length_back = ap length (written_back new used n long was) ∙ long ∙ sym was

-- Rights never widen: each page that capabilities name after a call was named before with at least these rights, or is new.
use Rattle.std.proofs.Common.{◌≡◌, ◌⊎◌, ◌∙◌, sym, subst, refl, inl, inr, ℕ, ◌/◌, ◌%◌, Bool, true, false, not, cond, le-leb, leb-true, le_refl, arith, List, [], ◌∷◌, Option, Some, None}
use Rattle.std.specs.Prelude.{nat_eq, nat_le, if◌then◌else◌}
use Rattle.std.proofs.lemmas.Bool.{and_parts}
use Rattle.tp_base.specs.Act.{Done, either}
use Rattle.tp_base.specs.Rights.{are_good}
use Rattle.phys_mem.specs.Mem.{Mem, zeroed_frame}
use Rattle.page_map.specs.Tables.{map_refusal, install_refusal}
use Rattle.page_map.specs.Changes.{mapped, unmapped, installed}
use Rattle.rv_core.specs.Registers.{register}
use Rattle.cap_table.specs.declared.Cap.{Cap}
use Rattle.cap_table.specs.declared.Cap.TheVariants as cap
use Rattle.cap_table.specs.Slots.{Slots, cap_at, with_cap, copied, noted, is_revoked, revoked, revoked_count}
use Rattle.cap_table.proofs.RevokeLemmas.{at_revoked}
use Rattle.call_table.specs.Domain.{Dom, replied, placed, done, refused, exited, with_caps}
use Rattle.call_table.specs.Claims.{Estate, is_named, least_free}
use Rattle.call_table.specs.Calls.{Note, is_slot, page_in, table_in, is_within, may_give, put_byte, fresh_cap, with_slot, alloc, install, map_page, unmap, copy, copy_refusal, drop_slot, delete, revoke, call_of, call, number_made}
use Rattle.call_table.specs.Laws.{IsNoWider, after_copies}
use Rattle.call_table.proofs.TablesSlots.{cap_by}
use Rattle.call_table.proofs.QuietCalls.{later_quiet}
use Rattle.call_table.proofs.ConfinedCalls.{free_parts}
use Rattle.call_table.proofs.MeaningSteps.{Gives, either_gives, bind_gives, give_gives, quiet_gives, if_gives, zero_gives, map_gives, unmap_gives, install_gives, unmap_all_gives, buffer_gives, drop_gives, page_refusal_gives, table_refusal_gives, check_gives, some_gives, filled_gives, allowed_gives, unless_gives}

-- ---- rights

within_same : (r : ℕ) → is_within r r ≡ true
within_same r =
    rw (
      le-leb (r % 2) (r % 2) (le_refl (r % 2)),
      le-leb (r / 2 % 2) (r / 2 % 2) (le_refl (r / 2 % 2)),
      le-leb (r / 4 % 2) (r / 4 % 2) (le_refl (r / 4 % 2)),
    ) refl

le_through : (a b c : ℕ) → nat_le a b ≡ true → nat_le b c ≡ true → nat_le a c ≡ true
le_through a b c x y = let x' = leb-true a b x in let y' = leb-true b c y in le-leb a c (omega (arith, x', y'))

within_through : (a b c : ℕ) → is_within a b ≡ true → is_within b c ≡ true → is_within a c ≡ true
within_through a b c x y =
    let p = and_parts _ _ x in
    let q = and_parts _ _ y in
    let p' = and_parts _ _ p.1 in
    let q' = and_parts _ _ q.1 in
    rw (
      le_through (a % 2) (b % 2) (c % 2) p.0 q.0,
      le_through (a / 2 % 2) (b / 2 % 2) (c / 2 % 2) p'.0 q'.0,
      le_through (a / 4 % 2) (b / 4 % 2) (c / 4 % 2) p'.1 q'.1,
    ) refl

-- ---- slots of which each page was named before

abbrev pub Named : Slots → ℕ → ℕ → Type 0
Named old f r = (j : ℕ) × (s : ℕ) × (u : Option ℕ) × (cap_at old j ≡ Some (cap.Frame f s u)) × (is_within r s ≡ true)

module _ (New : ℕ → Type 0) (old : Slots) where
  -- a capability whose page is new, or was named before with at least these rights
  pub record IsOld (c : Option Cap) : Type 0 where
    pub page : (f r : ℕ) (w : Option ℕ) → c ≡ Some (cap.Frame f r w) → New f ⊎ Named old f r

  pub record AreOld (now : Slots) : Type 0 where
    pub each : (i : ℕ) → IsOld (cap_at now i)

  same_cap : (j f r : ℕ) (w : Option ℕ) → cap_at old j ≡ Some (cap.Frame f r w) → Named old f r
  same_cap j f r w is = (j, r, w, is, within_same r)

  pub old_same : AreOld old
  old_same = record { each = λ i. record { page = λ f r w is. inr (same_cap i f r w is) } }

  pub old_set : (now : Slots) (a : ℕ) (c : Option Cap) → AreOld now → IsOld c → AreOld (with_cap now a c)
  old_set now a c h o = record {
    each = λ i. record {
      page = λ f r w is. elim (cap_by now a i c (cap.Frame f r w) is) [
        | inl new ↦ o.page f r w new.1
        | inr kept ↦ (h.each i).page f r w kept.1
      ];
    };
  }

  pub old_none : IsOld None
  old_none = record { page = λ f r w e. absurd (cc e) }

  noted_old : (x : Cap) (a : ℕ) (at : Option ℕ) → cap_at old a ≡ Some x → IsOld (noted (Some x) at)
  noted_old (cap.Frame g s v) a at is = record {
    page = λ f r w e.
        let rights : s ≡ r = cc e in
        let same : Some (cap.Frame g s v) ≡ Some (cap.Frame f r v) = cc e in
        inr (same_cap a f r v (is ∙ same));
  }
  noted_old (cap.Table g v) a at is = record { page = λ f r w e. absurd (cc e) }
  noted_old (cap.Irq line) a at is = record { page = λ f r w e. absurd (cc e) }

  may_copy : (t : Bool) (code : ℕ) → cond t None (Some code) ≡ None → t ≡ true
  may_copy true code e = refl
  may_copy false code e = absurd (cc e)

  copied_old : (x : Cap) (a c : ℕ) → cap_at old a ≡ Some x → copy_refusal x c ≡ None
      → IsOld (copied (Some x) c)
  copied_old (cap.Frame g s v) a c is ok = record {
    page = λ f r w e.
        let rights : c ≡ r = cc e in
        let same : Some (cap.Frame g s v) ≡ Some (cap.Frame f s v) = cc e in
        inr (
          a,
          s,
          v,
          is
              ∙ same,
          subst (λ (q : ℕ). is_within q s ≡ true) rights
              (and_parts (are_good c) (is_within c s) (may_copy (may_give s c) 6 ok)).1,
        );
  }
  copied_old (cap.Table g v) a c is ok = absurd (cc ok)
  copied_old (cap.Irq line) a c is ok = record { page = λ f r w e. absurd (cc e) }

  fresh_by : (t : Bool) (g : ℕ) → New g → IsOld (Some (cond t (cap.Frame g 7 None) (cap.Table g None)))
  fresh_by true g new = record { page = λ f r w e. let same : g ≡ f = cc e in inl (subst New same new) }
  fresh_by false g new = record { page = λ f r w e. absurd (cc e) }

  -- ---- each call

  abbrev pub Old : Dom → Type 0
  Old x = AreOld x.caps

  abbrev Step : {A : Type 0} → (A → Mem → Type 0) → Done Mem Note Dom A → Type 0
  Step P r = Gives Old P r

  -- nothing of memory
  abbrev Stays : Dom → Mem → Type 0
  Stays x n = Old x

  module _ (d : Dom) (h : AreOld d.caps) (m : Mem) where
    old_refused : (code : ℕ) → Old (refused code d)
    unfolding replied placed
    old_refused code = h

    put_old : (a : ℕ) → Step Stays (put_byte d a m)
    unfolding put_byte replied placed
    put_old a = check_gives Old Stays m d old_refused 11 _ _ (λ _. give_gives Old Stays m _ h)

    slot_old : (a n : ℕ) (c : Option Cap) → IsOld c → Old (done n (with_slot d a c))
    unfolding replied placed with_caps
    slot_old a n c o = old_set d.caps a c h o

    alloc_old : (e : Estate) (a b : ℕ) → ((f : ℕ) → least_free e d.caps ≡ Some f → New f)
        → Step Stays (alloc e d a b m)
    unfolding alloc is_slot
    alloc_old e a b new =
        check_gives Old Stays m d old_refused 2 _ _ (λ _.
        check_gives Old Stays m d old_refused 4 _ _ (λ _.
        check_gives Old Stays m d old_refused 5 _ _ (λ _.
        some_gives Old Stays m d old_refused 10 (least_free e d.caps) _ (λ f is.
        zero_gives Old Stays m f _
        (give_gives Old Stays (zeroed_frame m f) _ (slot_old a 0 (Some (fresh_cap b f)) (fresh_by (nat_eq b 0) f (new f is))))))))

    pub copy_from : (a to c : ℕ)
        → ((x : Cap) → cap_at d.caps a ≡ Some x → copy_refusal x c ≡ None → IsOld (copied (Some x) c))
        → Step Stays (copy d a to c m)
    unfolding copy is_slot
    copy_from a to c from =
        check_gives Old Stays m d old_refused 2 _ _ (λ _.
        check_gives Old Stays m d old_refused 2 _ _ (λ _.
        some_gives Old Stays m d old_refused 3 (cap_at d.caps a) _ (λ x is.
        check_gives Old Stays m d old_refused 4 _ _ (λ _.
        unless_gives Old Stays m d old_refused (copy_refusal x c) _ (λ ok.
        give_gives Old Stays m _ (slot_old to 0 (copied (Some x) c) (from x is ok)))))))

    install_from : (e : Estate) (a va : ℕ)
        → ((x : Cap) (at : Option ℕ) → cap_at d.caps a ≡ Some x → IsOld (noted (Some x) at))
        → Step Stays (install e d a va m)
    unfolding install
    install_from e a va from =
        filled_gives Old Stays m d old_refused a _ (λ _ x is.
        some_gives Old Stays m d old_refused 5 (table_in x) _ (λ t _.
        check_gives Old Stays m d old_refused 7 _ _ (λ _.
        check_gives Old Stays m d old_refused 8 _ _ (λ _.
        table_refusal_gives Old Stays m e.root va _
        (allowed_gives Old Stays m d old_refused (install_refusal m e.root va) _ (λ _.
        install_gives Old Stays m e.root va t.frame _
        (give_gives Old Stays (installed m e.root va t.frame) _ (slot_old a 0 (noted (Some x) (Some va)) (from x (Some va) is)))))))))

    map_from : (e : Estate) (a va c : ℕ)
        → ((x : Cap) (at : Option ℕ) → cap_at d.caps a ≡ Some x → IsOld (noted (Some x) at))
        → Step Stays (map_page e d a va c m)
    unfolding map_page
    map_from e a va c from =
        filled_gives Old Stays m d old_refused a _ (λ _ x is.
        some_gives Old Stays m d old_refused 5 (page_in x) _ (λ page _.
        check_gives Old Stays m d old_refused 6 _ _ (λ _.
        check_gives Old Stays m d old_refused 7 _ _ (λ _.
        check_gives Old Stays m d old_refused 8 _ _ (λ _.
        page_refusal_gives Old Stays m e.root va _
        (allowed_gives Old Stays m d old_refused (map_refusal m e.root va) _ (λ _.
        map_gives Old Stays m e.root va page.frame c _
        (give_gives Old Stays (mapped m e.root va page.frame c) _ (slot_old a 0 (noted (Some x) (Some va)) (from x (Some va) is))))))))))

    unmap_from : (e : Estate) (a : ℕ)
        → ((x : Cap) (at : Option ℕ) → cap_at d.caps a ≡ Some x → IsOld (noted (Some x) at))
        → Step Stays (unmap e d a m)
    unfolding unmap
    unmap_from e a from =
        filled_gives Old Stays m d old_refused a _ (λ _ x is.
        some_gives Old Stays m d old_refused 5 (page_in x) _ (λ page _.
        some_gives Old Stays m d old_refused 7 page.mapped _ (λ va _.
        unmap_gives Old Stays m e.root va _
        (buffer_gives Old Stays (unmapped m e.root va) _
        (give_gives Old Stays (unmapped m e.root va) _ (slot_old a 0 (noted (Some x) None) (from x None is)))))))

  done_old : (x : Dom) (n : ℕ) → Old x → Old (done n x)
  unfolding replied placed
  done_old x n h = h

  emptied_old : (x : Dom) (i : ℕ) → Old x → Old (with_slot x i None)
  unfolding with_caps
  emptied_old x i h = old_set x.caps i None h old_none

  module _ (d : Dom) (h : AreOld d.caps) (m : Mem) where
    delete_old : (e : Estate) (a : ℕ) → Step Stays (delete e d a m)
    unfolding delete
    delete_old e a =
        filled_gives Old Stays m d (old_refused d h m) a _ (λ _ x is.
        check_gives Old Stays m d (old_refused d h m) 12 _ _ (λ _.
        bind_gives Old Stays Stays (drop_slot e a d) _ m (drop_gives e Old Old emptied_old a d m h) (λ x n o.
        buffer_gives Old Stays n _
        (give_gives Old Stays n _ (done_old x 0 o)))))

    revoked_old : (a : ℕ) → Old (with_caps (revoked d.caps a) d)
    unfolding with_caps
    revoked_old a = record {
      each = λ i. subst IsOld (sym (at_revoked d.caps a i)) (by_test i (is_revoked d.caps a i));
    }
      where
        by_test : (i : ℕ) (t : Bool) → IsOld (if t then None else cap_at d.caps i)
        by_test i true = old_none
        by_test i false = h.each i

    revoke_old : (e : Estate) (a : ℕ) → Step Stays (revoke e d a m)
    unfolding revoke
    revoke_old e a =
        filled_gives Old Stays m d (old_refused d h m) a _ (λ _ x is.
        unmap_all_gives Old Stays m e.root _ _
        (buffer_gives Old Stays _ _
        (give_gives Old Stays _ _ (done_old _ (revoked_count d.caps a) (revoked_old a)))))

    exited_old : (a : ℕ) → Old (exited a d)
    unfolding exited
    exited_old a = h

-- ---- all of them, from a domain's own slots

module _ (New : ℕ → Type 0) (d : Dom) (m : Mem) where
  any_old : (e : Estate) → ((f : ℕ) → least_free e d.caps ≡ Some f → New f) → (number a b c : ℕ)
      → Gives (Old New d.caps) (Stays New d.caps) (call_of e d number a b c m)
  unfolding call_of
  any_old e new number a b c =
      let h : AreOld New d.caps d.caps = old_same New d.caps in
      let from : (i : ℕ) (x : Cap) (at : Option ℕ) → cap_at d.caps i ≡ Some x
      → IsOld New d.caps (noted (Some x) at) =
      λ i x at is. noted_old New d.caps x i at is in
      if_gives (Old New d.caps) (Stays New d.caps) m (nat_eq number 0) _ _
      (λ _. give_gives (Old New d.caps) (Stays New d.caps) m (exited a d) (exited_old New d.caps d h m a))
      (if_gives (Old New d.caps) (Stays New d.caps) m (nat_eq number 1) _ _ (λ _. put_old New d.caps d h m a)
      (if_gives (Old New d.caps) (Stays New d.caps) m (nat_eq number 2) _ _ (λ _. alloc_old New d.caps d h m e a b new)
      (if_gives (Old New d.caps) (Stays New d.caps) m (nat_eq number 3) _ _ (λ _. install_from New d.caps d h m e a b (from a))
      (if_gives (Old New d.caps) (Stays New d.caps) m (nat_eq number 4) _ _ (λ _. map_from New d.caps d h m e a b c (from a))
      (if_gives (Old New d.caps) (Stays New d.caps) m (nat_eq number 5) _ _ (λ _. unmap_from New d.caps d h m e a (from a))
      (if_gives (Old New d.caps) (Stays New d.caps) m (nat_eq number 6) _ _
      (λ _. copy_from New d.caps d h m a b c (λ x is ok. copied_old New d.caps x a c is ok))
      (if_gives (Old New d.caps) (Stays New d.caps) m (nat_eq number 7) _ _ (λ _. delete_old New d.caps d h m e a)
      (if_gives (Old New d.caps) (Stays New d.caps) m (nat_eq number 8) _ _ (λ _. revoke_old New d.caps d h m e a)
      (quiet_gives (Old New d.caps) (Stays New d.caps) d (old_refused New d.caps d h m) m _ (later_quiet d number a b)
      (λ x same. subst (AreOld New d.caps) (sym same) h))))))))))

  call_old : (e : Estate) → ((f : ℕ) → least_free e d.caps ≡ Some f → New f)
      → AreOld New d.caps (either (call e d m).value).caps
  unfolding call
  call_old e new =
      let regs = d.threads.current.regs in
      either_gives (Old New d.caps) _ (any_old e new (number_made e d) (register regs 10) (register regs 11) (register regs 12))

  copy_old : (a to c : ℕ) → AreOld New d.caps (either (copy d a to c m).value).caps
  copy_old a to c =
      either_gives (Old New d.caps) (copy d a to c m)
      (copy_from New d.caps d (old_same New d.caps) m a to c (λ x is ok. copied_old New d.caps x a c is ok))

pub not_named : (t : Bool) → not t ≡ true → t ≡ false
not_named true e = absurd (cc e)
not_named false e = refl

pub no_wider : (e : Estate) (d : Dom) (m : Mem) → IsNoWider e d.caps (either (call e d m).value).caps
no_wider e d m = record {
  from = λ i f r w is. ((call_old (λ f. is_named e d.caps f ≡ false) d m e (λ f is. not_named _ (free_parts e d.caps f is).0)).each i).page f r w is;
}

-- ---- chains of copies

pub copies : (m : Mem) (xs : List (ℕ × ℕ × ℕ)) (d : Dom) (i f r : ℕ) (w : Option ℕ)
    → cap_at (after_copies xs m d).caps i ≡ Some (cap.Frame f r w) → Named d.caps f r
unfolding after_copies
copies m [] d i f r w is = same_cap (λ f. ⊥) d.caps i f r w is
copies m (x ∷ xs) d i f r w is =
    let next = either (copy d x.0 x.1 x.2 m).value in
    let l = copies m xs next i f r w is in
    elim (((copy_old (λ f. ⊥) d m x.0 x.1 x.2).each l.0).page f l.1 l.2 l.3) [
      | inl new ↦ absurd new
      | inr old ↦ (old.0, old.1, old.2, old.3, within_through r l.1 old.1 l.4 old.4)
    ]

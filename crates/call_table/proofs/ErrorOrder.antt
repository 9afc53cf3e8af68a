-- A call is refused by the first of its errors, and done where it has none; their codes ascend.
use Rattle.std.proofs.Common.{◌≡◌, ◌∙◌, ap, sym, subst, refl, inl, inr, ◌⊎◌, ℕ, ◌%◌, Bool, true, false, not, ◌&&◌, ◌||◌, List, [], ◌∷◌, length, arith, ne_eqb, Option, Some, None, is_some}
use Rattle.std.specs.Prelude.{nat_eq, nat_lt, nat_le, if◌then◌else◌, is_none, map, slice_get}
use Rattle.tp_base.specs.Act.{Done, go_on, ◌>>=◌, ◌>>◌, give, stop, check}
use Rattle.phys_mem.specs.Mem.{Mem}
use Rattle.sv32_walk.specs.PageTableEntry.{valid}
use Rattle.sv32_walk.specs.Translation.{second_entry}
use Rattle.thread_set.specs.Threads.{vacant}
use Rattle.page_map.specs.declared.refusal.MapRefusal.TheVariants as refusal
use Rattle.page_map.specs.Tables.{has_table, has_page, map_refusal, install_refusal}
use Rattle.frame_colours.proofs.Ascending.{Ascends, increasing_from_Ascends}
use Rattle.cap_table.specs.declared.Cap.{Cap}
use Rattle.cap_table.specs.declared.Cap.TheVariants as cap
use Rattle.cap_table.specs.Slots.{cap_at, is_filled, page_of, table_of, line_of, mapped_at, installed_at, in_use}
use Rattle.call_table.specs.Domain.{Dom, refused}
use Rattle.call_table.specs.Claims.{Estate, free_frames, least_free}
use Rattle.call_table.specs.Calls.{Note, Act, page_refusal, table_refusal, some_or, is_slot, filled, page_in, table_in, line_in, line_at, may_give, allowed, put_byte, alloc, install, map_page, unmap, copy_refusal, unless_refused, copy, drop_slot, delete, revoke, poll, wait, signal, spawn, call_of, call, number_made}
use Rattle.call_table.specs.Calls.{Page, Directory as TableCap}
use Rattle.call_table.specs.Meanings.{argument_a, argument_b, argument_c}
use Rattle.call_table.proofs.Refusals.{Sure, give_sure, zero_sure, map_at_sure, unmap_at_sure, install_at_sure, buffer_sure, bind_sure, drop_sure, unmap_all_sure}
use Rattle.call_table.specs.Errors.{Error, bad_call, bad_slot, empty, used, wrong_kind, bad_rights, bad_address, mapped, no_table, no_frame, output_full, table_in_use, no_thread, in_slot, rights_of, is_multiple, is_beyond, errors_of, first_so, AscendLaw, FirstErrorLaw, NoErrorLaw}

-- it goes on with a value
abbrev Goes : {A : Type 0} → Dom ⊎ A → Type 0
Goes {A} v = (x : A) × (v ≡ inr x)

-- an action whose end is that of the first of these errors that is so
record EndsAs (d : Dom) (xs : List Error) (r : Done Mem Note Dom Dom) : Type 0 where
  refused : (code : ℕ) → first_so xs ≡ Some code → r.value ≡ inl (refused code d)
  done : first_so xs ≡ None → Goes r.value

-- refused by the first that is so
now : {d : Dom} {xs : List Error} {r : Done Mem Note Dom Dom} (code : ℕ) → first_so xs ≡ Some code
    → r.value ≡ inl (refused code d)
    → EndsAs d xs r
now {d} code first is = record {
  refused = λ c e. let same : Some code ≡ Some c = sym first ∙ e in
      let code_is : code ≡ c = cc same in
      is ∙ ap (λ (n : ℕ). inl (refused n d)) code_is;
  done = λ e. let no : Some code ≡ None = sym first ∙ e in absurd (cc no);
}

module _ (d : Dom) (m : Mem) where
  module _ (code : ℕ) (xs : List Error) where
    check_ends : (so t : Bool) (y : Act Dom) → so ≡ not t → (t ≡ true → EndsAs d xs (y m))
        → EndsAs d (record { code = code; is_so = so } ∷ xs) ((check (refused code d) t >> y) m)
    unfolding check ◌>>◌ ◌>>=◌ go_on give stop first_so
    check_ends false true y e h = let r = h refl in record { refused = r.refused; done = r.done }
    check_ends true false y e h = now code refl refl
    check_ends true true y e h = absurd (cc e)
    check_ends false false y e h = absurd (cc e)

    some_ends : {A : Type 0} (so : Bool) (o : Option A) (f : A → Act Dom) → so ≡ is_none o
        → ((a : A) → o ≡ Some a → EndsAs d xs (f a m))
        → EndsAs d (record { code = code; is_so = so } ∷ xs) ((some_or (refused code d) o >>= f) m)
    unfolding some_or ◌>>=◌ go_on give stop first_so
    some_ends false (Some a) f e h = let r = h a refl in record { refused = r.refused; done = r.done }
    some_ends true None f e h = now code refl refl
    some_ends true (Some a) f e h = absurd (cc e)
    some_ends false None f e h = absurd (cc e)

    -- two errors of one code
    either_ends : (so too : Bool) (r : Done Mem Note Dom Dom)
        → EndsAs d (record { code = code; is_so = so } ∷ record { code = code; is_so = too } ∷ xs) r
        → EndsAs d (record { code = code; is_so = so || too } ∷ xs) r
    unfolding first_so
    either_ends true too r h = record { refused = h.refused; done = h.done }
    either_ends false too r h = record { refused = h.refused; done = h.done }

  sure_ends : (y : Act Dom) → Sure y → EndsAs d [] (y m)
  unfolding first_so
  sure_ends y s = record { refused = λ c is. absurd (cc is); done = λ _. by_value (y m).value refl }
    where
      by_value : (v : Dom ⊎ Dom) → (y m).value ≡ v → Goes v
      by_value (inl x) is = absurd (s.goes m x is)
      by_value (inr x) is = (x, refl)

  if_ends : (t : Bool) (xs ys : List Error) (x y : Act Dom) → EndsAs d xs (x m) → EndsAs d ys (y m)
      → EndsAs d (if t then xs else ys) ((if t then x else y) m)
  if_ends true xs ys x y h g = h
  if_ends false xs ys x y h g = g

  stop_ends : EndsAs d (bad_call true ∷ []) (stop (refused 1 d) m)
  unfolding first_so stop
  stop_ends = now 1 refl refl

  -- ---- a slot and what it holds

  not_not : (t : Bool) → t ≡ not (not t)
  not_not true = refl
  not_not false = refl

  not_filled : (o : Option Cap) → is_some o ≡ not (not (is_filled o))
  not_filled None = refl
  not_filled (Some c) = refl

  module _ (xs : List Error) where
    filled_by : (t : Bool) (o : Option Cap) (f : Cap → Act Dom)
        → ((c : Cap) → o ≡ Some c → EndsAs d xs (f c m))
        → EndsAs d (bad_slot (not t) ∷ empty (is_none o) ∷ xs) (((check (refused 2 d) t >> some_or (refused 3 d) o) >>= f) m)
    unfolding check some_or ◌>>◌ ◌>>=◌ go_on give stop first_so
    filled_by false o f h = now 2 refl refl
    filled_by true None f h = now 3 refl refl
    filled_by true (Some c) f h = let r = h c refl in record { refused = r.refused; done = r.done }

    filled_ends : (a : ℕ) (f : Cap → Act Dom) → ((c : Cap) → cap_at d.caps a ≡ Some c → EndsAs d xs (f c m))
        → EndsAs d (bad_slot (not (nat_lt a 64)) ∷ empty (is_none (in_slot d a)) ∷ xs) ((filled d a >>= f) m)
    unfolding filled is_slot
    filled_ends a f h = filled_by (nat_lt a 64) (cap_at d.caps a) f h

  no_page : (c : Cap) → is_none (page_of (Some c)) ≡ is_none (page_in c)
  no_page (cap.Frame f r w) = refl
  no_page (cap.Table f w) = refl
  no_page (cap.Irq line) = refl

  no_directory : (c : Cap) → is_none (table_of (Some c)) ≡ is_none (table_in c)
  no_directory (cap.Frame f r w) = refl
  no_directory (cap.Table f w) = refl
  no_directory (cap.Irq line) = refl

  no_line : (c : Cap) → is_none (line_of (Some c)) ≡ is_none (line_in c)
  no_line (cap.Frame f r w) = refl
  no_line (cap.Table f w) = refl
  no_line (cap.Irq line) = refl

  placed : (c : Cap) (t : TableCap) → table_in c ≡ Some t
      → is_some (installed_at (Some c)) ≡ not (not (is_some t.installed))
  placed (cap.Table f w) t is = let same : record { frame = f; installed = w } ≡ t = cc is in
      ap (λ (u : TableCap). is_some u.installed) same ∙ not_not (is_some t.installed)
  placed (cap.Frame f r w) t is = absurd (cc is)
  placed (cap.Irq line) t is = absurd (cc is)

  page_place : (c : Cap) (page : Page) → page_in c ≡ Some page → mapped_at (Some c) ≡ page.mapped
  page_place (cap.Frame f r w) page is =
      let same : record { frame = f; rights = r; mapped = w } ≡ page = cc is in
      ap (λ (u : Page). u.mapped) same
  page_place (cap.Table f w) page is = absurd (cc is)
  page_place (cap.Irq line) page is = absurd (cc is)

  page_rights : (c : Cap) (page : Page) → page_in c ≡ Some page → rights_of (Some c) ≡ page.rights
  page_rights (cap.Frame f r w) page is =
      let same : record { frame = f; rights = r; mapped = w } ≡ page = cc is in
      ap (λ (u : Page). u.rights) same
  page_rights (cap.Table f w) page is = absurd (cc is)
  page_rights (cap.Irq line) page is = absurd (cc is)

  line_by : (f : ℕ → Act Dom) → ((line : ℕ) → EndsAs d [] (f line m)) → (t : Bool) (o : Option Cap)
      → EndsAs d (bad_slot (not t) ∷ empty (is_none o) ∷ wrong_kind (is_none (line_of o)) ∷ [])
      ((((check (refused 2 d) t >> some_or (refused 3 d) o) >>= (λ c. some_or (refused 5 d) (line_in c))) >>= f) m)
  unfolding check some_or ◌>>◌ ◌>>=◌ go_on give stop first_so
  line_by f h false o = now 2 refl refl
  line_by f h true None = now 3 refl refl
  line_by f h true (Some (cap.Frame g r w)) = now 5 refl refl
  line_by f h true (Some (cap.Table g w)) = now 5 refl refl
  line_by f h true (Some (cap.Irq line)) = let r = h line in record { refused = r.refused; done = r.done }

  -- ---- what page tables refuse

  module _ (xs : List Error) (y : Act Dom) (h : EndsAs d xs (y m)) where
    map_by : (a t p : Bool) → a ≡ true
        → EndsAs d (mapped (t && p) ∷ no_table (not t) ∷ xs)
        ((allowed d (if not a then Some refusal.BadAddress
        else (if t && p then Some refusal.Mapped else (if t then None else Some refusal.NoTable)))
        >> y) m)
    unfolding allowed ◌>>◌ ◌>>=◌ go_on give stop first_so
    map_by true true true is = now 8 refl refl
    map_by true true false is = record { refused = h.refused; done = h.done }
    map_by true false p is = now 9 refl refl
    map_by false t p is = absurd (cc is)

    page_refusal_ends : (root va : ℕ) → nat_eq (va % 4096) 0 ≡ true
        → EndsAs d (mapped (has_page m root va) ∷ no_table (not (has_table m root va)) ∷ xs)
        ((page_refusal root va >>= λ r. allowed d r >> y) m)
    unfolding page_refusal map_refusal ◌>>=◌ go_on
    page_refusal_ends root va aligned =
        let r = map_by (nat_eq (va % 4096) 0) (has_table m root va) (valid (second_entry m root va)) aligned in
        record { refused = r.refused; done = r.done }

    install_by : (a t : Bool) → a ≡ true
        → EndsAs d (mapped t ∷ xs) ((allowed d
        (if not a then Some refusal.BadAddress else (if t then Some refusal.Mapped else None)) >> y) m)
    unfolding allowed ◌>>◌ ◌>>=◌ go_on give stop first_so
    install_by true true is = now 8 refl refl
    install_by true false is = record { refused = h.refused; done = h.done }
    install_by false t is = absurd (cc is)

    table_refusal_ends : (root va : ℕ) → nat_eq (va % 4194304) 0 ≡ true
        → EndsAs d (mapped (has_table m root va) ∷ xs) ((table_refusal root va >>= λ r. allowed d r >> y) m)
    unfolding table_refusal install_refusal ◌>>=◌ go_on
    table_refusal_ends root va aligned =
        let r = install_by (nat_eq (va % 4194304) 0) (has_table m root va) aligned in
        record { refused = r.refused; done = r.done }

  -- ---- each call

  put_ends : (a : ℕ) → EndsAs d (output_full (not (nat_lt (length d.printed) 4096)) ∷ []) (put_byte d a m)
  unfolding put_byte
  put_ends a = check_ends 11 [] _ _ _ refl (λ _. sure_ends _ (give_sure _))

  no_free : (fs : List ℕ) → nat_eq (length fs) 0 ≡ is_none (slice_get fs 0)
  no_free [] = refl
  no_free (f ∷ fs) = ne_eqb (length (f ∷ fs)) 0 (λ e. absurd (omega (arith, e)))

  alloc_ends : (e : Estate) (a b : ℕ)
      → EndsAs d (bad_slot (not (nat_lt a 64)) ∷ used (is_some (in_slot d a)) ∷ wrong_kind (not (nat_le b 1))
      ∷ no_frame (nat_eq (length (free_frames e d.caps)) 0) ∷ []) (alloc e d a b m)
  unfolding alloc is_slot least_free
  alloc_ends e a b =
      check_ends 2 _ _ _ _ refl (λ _.
      check_ends 4 _ _ _ _ (not_filled (cap_at d.caps a)) (λ _.
      check_ends 5 _ _ _ _ refl (λ _.
      some_ends 10 _ _ (least_free e d.caps) _ (no_free (free_frames e d.caps)) (λ f _.
      sure_ends _ (zero_sure f _ (give_sure _))))))

  install_ends : (e : Estate) (a b : ℕ)
      → EndsAs d (bad_slot (not (nat_lt a 64)) ∷ empty (is_none (in_slot d a)) ∷ wrong_kind (is_none (table_of (in_slot d a)))
      ∷ bad_address (not (is_multiple 4194304 b))
      ∷ mapped (is_some (installed_at (in_slot d a)) || has_table m e.root b) ∷ []) (install e d a b m)
  unfolding install
  install_ends e a b =
      filled_ends _ a _ (λ c there.
      some_ends 5 _ _ (table_in c) _ (ap (λ x. is_none (table_of x)) there ∙ no_directory c) (λ t is.
      check_ends 7 _ _ _ _ refl (λ aligned.
      either_ends 8 _ (is_some (installed_at (in_slot d a))) (has_table m e.root b) _
      (check_ends 8 _ _ _ _ (ap (λ x. is_some (installed_at x)) there ∙ placed c t is) (λ _.
      table_refusal_ends [] _ (sure_ends _ (install_at_sure e.root b t.frame _ (give_sure _))) e.root b aligned)))))

  map_ends : (e : Estate) (a b c : ℕ)
      → EndsAs d (bad_slot (not (nat_lt a 64)) ∷ empty (is_none (in_slot d a)) ∷ wrong_kind (is_none (page_of (in_slot d a)))
      ∷ bad_rights (is_beyond (in_slot d a) c) ∷ bad_address (not (is_multiple 4096 b))
      ∷ mapped (is_some (mapped_at (in_slot d a)) || has_page m e.root b)
      ∷ no_table (not (has_table m e.root b)) ∷ []) (map_page e d a b c m)
  unfolding map_page
  map_ends e a b c =
      filled_ends _ a _ (λ x there.
      some_ends 5 _ _ (page_in x) _ (ap (λ o. is_none (page_of o)) there ∙ no_page x) (λ page is.
      check_ends 6 _ _ _ _
      (ap (λ o. not (may_give (rights_of o) c)) there
      ∙ ap (λ (r : ℕ). not (may_give r c)) (page_rights x page is)) (λ _.
      check_ends 7 _ _ _ _ refl (λ aligned.
      either_ends 8 _ (is_some (mapped_at (in_slot d a))) (has_page m e.root b) _
      (check_ends 8 _ _ _ _
      (ap (λ o. is_some (mapped_at o)) there ∙ ap is_some (page_place x page is)
      ∙ not_not (is_some page.mapped)) (λ _.
      page_refusal_ends [] _ (sure_ends _ (map_at_sure e.root b page.frame c _ (give_sure _))) e.root b aligned))))))

  unmap_ends : (e : Estate) (a : ℕ)
      → EndsAs d (bad_slot (not (nat_lt a 64)) ∷ empty (is_none (in_slot d a)) ∷ wrong_kind (is_none (page_of (in_slot d a)))
      ∷ bad_address (is_none (mapped_at (in_slot d a))) ∷ []) (unmap e d a m)
  unfolding unmap
  unmap_ends e a =
      filled_ends _ a _ (λ x there.
      some_ends 5 _ _ (page_in x) _ (ap (λ o. is_none (page_of o)) there ∙ no_page x) (λ page is.
      some_ends 7 _ _ page.mapped _ (ap (λ o. is_none (mapped_at o)) there ∙ ap is_none (page_place x page is)) (λ va _.
      sure_ends _ (unmap_at_sure e.root va _ (buffer_sure _ (give_sure _))))))

  copy_by : (x : Cap) (c : ℕ) (y : Act Dom) → EndsAs d [] (y m)
      → EndsAs d (wrong_kind (is_some (table_of (Some x))) ∷ bad_rights (is_some (page_of (Some x)) && is_beyond (Some x) c) ∷ [])
      ((unless_refused d (copy_refusal x c) >> y) m)
  unfolding unless_refused ◌>>◌ ◌>>=◌ go_on give stop first_so
  copy_by (cap.Table f w) c y h = now 5 refl refl
  copy_by (cap.Irq line) c y h = record { refused = h.refused; done = h.done }
  copy_by (cap.Frame f rights w) c y h = by_test (may_give rights c)
    where
      by_test : (t : Bool) → EndsAs d (wrong_kind false ∷ bad_rights (not t) ∷ [])
          ((unless_refused d (if t then None else Some 6) >> y) m)
      by_test true = record { refused = h.refused; done = h.done }
      by_test false = now 6 refl refl

  copy_at : (o : Option Cap) (x : Cap) (c : ℕ) (y : Act Dom) → o ≡ Some x → EndsAs d [] (y m)
      → EndsAs d (wrong_kind (is_some (table_of o)) ∷ bad_rights (is_some (page_of o) && is_beyond o c) ∷ [])
      ((unless_refused d (copy_refusal x c) >> y) m)
  copy_at o x c y is h =
      subst (λ (z : Option Cap). EndsAs d (wrong_kind (is_some (table_of z)) ∷ bad_rights (is_some (page_of z) && is_beyond z c) ∷ [])
      ((unless_refused d (copy_refusal x c) >> y) m)) (sym is) (copy_by x c y h)

  copy_ends : (a b c : ℕ)
      → EndsAs d (bad_slot (not (nat_lt a 64) || not (nat_lt b 64)) ∷ empty (is_none (in_slot d a)) ∷ used (is_some (in_slot d b))
      ∷ wrong_kind (is_some (table_of (in_slot d a)))
      ∷ bad_rights (is_some (page_of (in_slot d a)) && is_beyond (in_slot d a) c) ∷ []) (copy d a b c m)
  unfolding copy is_slot
  copy_ends a b c =
      either_ends 2 _ (not (nat_lt a 64)) (not (nat_lt b 64)) _
      (check_ends 2 _ _ _ _ refl (λ _.
      check_ends 2 _ _ _ _ refl (λ _.
      some_ends 3 _ _ (cap_at d.caps a) _ refl (λ x there.
      check_ends 4 _ _ _ _ (not_filled (cap_at d.caps b)) (λ _.
      copy_at (cap_at d.caps a) x c _ there (sure_ends _ (give_sure _)))))))

  delete_ends : (e : Estate) (a : ℕ)
      → EndsAs d (bad_slot (not (nat_lt a 64)) ∷ empty (is_none (in_slot d a)) ∷ table_in_use (in_use d.caps a) ∷ []) (delete e d a m)
  unfolding delete
  delete_ends e a =
      filled_ends _ a _ (λ x _.
      check_ends 12 _ _ _ _ (not_not (in_use d.caps a)) (λ _.
      sure_ends _ (bind_sure (drop_slot e a d) _ (drop_sure e a d) (λ z. buffer_sure _ (give_sure _)))))

  revoke_ends : (e : Estate) (a : ℕ)
      → EndsAs d (bad_slot (not (nat_lt a 64)) ∷ empty (is_none (in_slot d a)) ∷ []) (revoke e d a m)
  unfolding revoke
  revoke_ends e a =
      filled_ends _ a _ (λ x _.
      sure_ends _ (unmap_all_sure e.root _ _ (buffer_sure _ (give_sure _))))

  line_ends : (a : ℕ) (f : ℕ → Act Dom) → ((line : ℕ) → EndsAs d [] (f line m))
      → EndsAs d
      (bad_slot (not (nat_lt a 64)) ∷ empty (is_none (in_slot d a))
      ∷ wrong_kind (is_none (line_of (in_slot d a))) ∷ []) ((line_at d a >>= f) m)
  unfolding line_at filled is_slot
  line_ends a f h = line_by f h (nat_lt a 64) (cap_at d.caps a)

  poll_ends : (a : ℕ)
      → EndsAs d
      (bad_slot (not (nat_lt a 64)) ∷ empty (is_none (in_slot d a))
      ∷ wrong_kind (is_none (line_of (in_slot d a))) ∷ []) (poll d a m)
  unfolding poll
  poll_ends a = line_ends a _ (λ line. sure_ends _ (give_sure _))

  wait_ends : (a : ℕ)
      → EndsAs d
      (bad_slot (not (nat_lt a 64)) ∷ empty (is_none (in_slot d a))
      ∷ wrong_kind (is_none (line_of (in_slot d a))) ∷ []) (wait d a m)
  unfolding wait
  wait_ends a = line_ends a _ (λ line. sure_ends _ (give_sure _))

  signal_ends : (a : ℕ)
      → EndsAs d
      (bad_slot (not (nat_lt a 64)) ∷ empty (is_none (in_slot d a))
      ∷ wrong_kind (is_none (line_of (in_slot d a))) ∷ []) (signal d a m)
  unfolding signal
  signal_ends a = line_ends a _ (λ line. sure_ends _ (give_sure _))

  spawn_ends : (a b : ℕ)
      → EndsAs d (bad_address (not (is_multiple 4 a)) ∷ no_thread (is_none (vacant d.threads)) ∷ [])
      (spawn d a b m)
  unfolding spawn
  spawn_ends a b = check_ends 7 _ _ _ _ refl (λ _. some_ends 13 _ _ (vacant d.threads) _ refl (λ t _. sure_ends _ (give_sure _)))

  call_ends : (e : Estate) (number a b c : ℕ)
      → EndsAs d (errors_of e d m number a b c) (call_of e d number a b c m)
  unfolding call_of errors_of
  call_ends e number a b c =
      if_ends (nat_eq number 0) _ _ _ _ (sure_ends _ (give_sure _))
      (if_ends (nat_eq number 1) _ _ _ _ (put_ends a)
      (if_ends (nat_eq number 2) _ _ _ _ (alloc_ends e a b)
      (if_ends (nat_eq number 3) _ _ _ _ (install_ends e a b)
      (if_ends (nat_eq number 4) _ _ _ _ (map_ends e a b c)
      (if_ends (nat_eq number 5) _ _ _ _ (unmap_ends e a)
      (if_ends (nat_eq number 6) _ _ _ _ (copy_ends a b c)
      (if_ends (nat_eq number 7) _ _ _ _ (delete_ends e a)
      (if_ends (nat_eq number 8) _ _ _ _ (revoke_ends e a)
      (if_ends (nat_eq number 9) _ _ _ _ (poll_ends a)
      (if_ends (nat_eq number 10) _ _ _ _ (wait_ends a)
      (if_ends (nat_eq number 11) _ _ _ _ (signal_ends a)
      (if_ends (nat_eq number 12) _ _ _ _ (spawn_ends a b)
      (if_ends (nat_eq number 13) _ _ _ _ (sure_ends _ (give_sure _))
      (if_ends (nat_eq number 14) _ _ _ _ (sure_ends _ (give_sure _))
      stop_ends))))))))))))))

pub first_error : FirstErrorLaw
unfolding call
first_error e d m = (call_ends d m e (number_made e d) (argument_a d) (argument_b d) (argument_c d)).refused

pub no_error : NoErrorLaw
unfolding call
no_error e d m = (call_ends d m e (number_made e d) (argument_a d) (argument_b d) (argument_c d)).done

-- ---- the codes ascend

codes : List Error → List ℕ
codes xs = map (λ x. x.code) xs

if_ascends : (t : Bool) (xs ys : List Error) → Ascends 0 (codes xs) → Ascends 0 (codes ys)
    → Ascends 0 (codes (if t then xs else ys))
if_ascends true xs ys h g = h
if_ascends false xs ys h g = g

all_ascend : (e : Estate) (d : Dom) (m : Mem) (number a b c : ℕ)
    → Ascends 0 (codes (errors_of e d m number a b c))
unfolding errors_of codes Ascends
all_ascend e d m number a b c =
    if_ascends (nat_eq number 0) _ _ tt
    (if_ascends (nat_eq number 1) _ _ (omega arith, tt)
    (if_ascends (nat_eq number 2) _ _ (omega arith, (omega arith, (omega arith, (omega arith, tt))))
    (if_ascends (nat_eq number 3) _ _ (omega arith, (omega arith, (omega arith, (omega arith, (omega arith, tt)))))
    (if_ascends (nat_eq number 4) _ _ (
      omega arith,
      (omega arith, (omega arith, (omega arith, (omega arith, (omega arith, (omega arith, tt)))))),
    )
    (if_ascends (nat_eq number 5) _ _ (omega arith, (omega arith, (omega arith, (omega arith, tt))))
    (if_ascends (nat_eq number 6) _ _ (omega arith, (omega arith, (omega arith, (omega arith, (omega arith, tt)))))
    (if_ascends (nat_eq number 7) _ _ (omega arith, (omega arith, (omega arith, tt)))
    (if_ascends (nat_eq number 8) _ _ (omega arith, (omega arith, tt))
    (if_ascends (nat_eq number 9) _ _ (omega arith, (omega arith, (omega arith, tt)))
    (if_ascends (nat_eq number 10) _ _ (omega arith, (omega arith, (omega arith, tt)))
    (if_ascends (nat_eq number 11) _ _ (omega arith, (omega arith, (omega arith, tt)))
    (if_ascends (nat_eq number 12) _ _ (omega arith, (omega arith, tt))
    (if_ascends (nat_eq number 13) _ _ tt
    (if_ascends (nat_eq number 14) _ _ tt
    (omega arith, tt)))))))))))))))

pub codes_ascend : AscendLaw
unfolding codes
codes_ascend e d m =
    increasing_from_Ascends _ 0 (all_ascend e d m (number_made e d) (argument_a d) (argument_b d) (argument_c d))

-- What a call comes to, by its number and the tests that it passes: the domain that it leaves, in one equation.
use Rattle.std.proofs.Common.{◌≡◌, ◌∙◌, ap, ap₂, refl, inr, ℕ, ◌<◌, ◌≤◌, ◌%◌, Bool, true, false, eq-eqb, lt-ltb, le-ltb, Option, Some, None}
use Rattle.std.specs.Prelude.{nat_eq, nat_lt, [], ◌∷◌, ◌++◌, length}
use Rattle.tp_base.specs.Act.{Done, go_on, ◌>>=◌, ◌>>◌, give, stop, check, either}
use Rattle.phys_mem.specs.Mem.{Mem}
use Rattle.thread_set.specs.Threads.{vacant}
use Rattle.page_map.specs.Changes.{page_entry, unmapped}
use Rattle.cap_table.specs.declared.Cap.{Cap}
use Rattle.cap_table.specs.declared.Cap.TheVariants as cap
use Rattle.cap_table.specs.Slots.{cap_at, noted}
use Rattle.call_table.specs.Domain.{Dom, done, refused, exited, is_set, with_bit, signalled, turned, thread_ended, with_spawned}
use Rattle.call_table.specs.Claims.{Estate}
use Rattle.call_table.specs.Calls.{Note, Act, some_or, is_slot, filled, line_in, line_at, bit_value, page_in, unmap_at, empty_buffer, with_slot, put_byte, unmap, poll, waited, wait, signal, spawn, call_of, call}
use Rattle.call_table.specs.ThreadLaws.{after_call}
use Rattle.call_table.specs.Meanings.{Makes, Names, argument_a, argument_b, argument_c}

-- ---- tests that are passed, or not

module _ (d : Dom) (m : Mem) (code : ℕ) where
  passes : (t : Bool) (y : Act Dom) → t ≡ true → (check (refused code d) t >> y) m ≡ y m
  unfolding check ◌>>◌ ◌>>=◌ go_on give
  passes true y is = refl
  passes false y is = absurd (cc is)

  fails : (t : Bool) (y : Act Dom) → t ≡ false → (check (refused code d) t >> y) m ≡ stop (refused code d) m
  unfolding check ◌>>◌ ◌>>=◌ go_on give stop
  fails false y is = refl
  fails true y is = absurd (cc is)

  finds : {A : Type 0} (o : Option A) (f : A → Act Dom) (x : A) → o ≡ Some x
      → (some_or (refused code d) o >>= f) m ≡ f x m
  unfolding some_or ◌>>=◌ go_on give
  finds (Some y) f x is = let same : y ≡ x = cc is in ap (λ z. f z m) same
  finds None f x is = absurd (cc is)

  lacks : {A : Type 0} (o : Option A) (f : A → Act Dom) → o ≡ None
      → (some_or (refused code d) o >>= f) m ≡ stop (refused code d) m
  unfolding some_or ◌>>=◌ go_on stop
  lacks None f is = refl
  lacks (Some y) f is = absurd (cc is)

module _ (d : Dom) (m : Mem) (f : ℕ → Act Dom) (line : ℕ) where
  line_by : (t : Bool) (o : Option Cap) → t ≡ true → o ≡ Some (cap.Irq line)
      → ((((check (refused 2 d) t >> some_or (refused 3 d) o) >>= (λ c. some_or (refused 5 d) (line_in c))) >>= f) m) ≡ f line m
  unfolding check some_or ◌>>◌ ◌>>=◌ go_on give stop
  line_by true (Some (cap.Irq l)) t is = let same : l ≡ line = cc is in ap (λ n. f n m) same
  line_by true (Some (cap.Frame g r w)) t is = absurd (cc is)
  line_by true (Some (cap.Table g w)) t is = absurd (cc is)
  line_by true None t is = absurd (cc is)
  line_by false o t is = absurd (cc t)

  line_found : Names d line → (line_at d (argument_a d) >>= f) m ≡ f line m
  unfolding line_at filled is_slot
  line_found n = line_by (nat_lt (argument_a d) 64) (cap_at d.caps (argument_a d)) (lt-ltb (argument_a d) 64 n.slot) n.line_there

-- ---- each call

pub by_number : (e : Estate) (d : Dom) (m : Mem) (number : ℕ) → Makes e d number
    → call e d m ≡ call_of e d number (argument_a d) (argument_b d) (argument_c d) m
unfolding call
by_number e d m number is = ap (λ (n : ℕ). call_of e d n (argument_a d) (argument_b d) (argument_c d) m) is

module _ (e : Estate) (d : Dom) (m : Mem) where
  -- the end of an action without work
  abbrev Left : Done Mem Note Dom Dom → Dom
  Left r = either r.value

  pub exit_is : Makes e d 0 → after_call e d m ≡ exited (argument_a d) d
  unfolding call_of give either
  exit_is is = ap Left (by_number e d m 0 is)

  pub end_is : Makes e d 14 → after_call e d m ≡ thread_ended d
  unfolding call_of give either
  end_is is = ap Left (by_number e d m 14 is)

  pub yield_is : Makes e d 13 → after_call e d m ≡ turned (done 0 d)
  unfolding call_of give either
  yield_is is = ap Left (by_number e d m 13 is)

  pub put_is : Makes e d 1 → length d.printed < 4096
      → after_call e d m ≡ done 0 (record d { printed = d.printed ++ argument_a d % 256 ∷ [] })
  unfolding call_of put_byte give either
  put_is is room =
      ap Left (by_number e d m 1 is)
      ∙ ap Left (passes d m 11 (nat_lt (length d.printed) 4096) _ (lt-ltb (length d.printed) 4096 room))

  pub full_is : Makes e d 1 → 4096 ≤ length d.printed → after_call e d m ≡ refused 11 d
  unfolding call_of put_byte stop either
  full_is is full =
      ap Left (by_number e d m 1 is)
      ∙ ap Left (fails d m 11 (nat_lt (length d.printed) 4096) _ (le-ltb (length d.printed) 4096 full))

  module _ (line : ℕ) (names : Names d line) where
    pub poll_is : Makes e d 9 → after_call e d m ≡ done (bit_value (is_set d line)) (with_bit line false d)
    unfolding call_of poll give either
    poll_is is = ap Left (by_number e d m 9 is) ∙ ap Left (line_found d m _ line names)

    pub wait_is : Makes e d 10 → after_call e d m ≡ waited (is_set d line) line d
    unfolding call_of wait give either
    wait_is is = ap Left (by_number e d m 10 is) ∙ ap Left (line_found d m _ line names)

    pub signal_is : Makes e d 11 → after_call e d m ≡ done 0 (signalled line d)
    unfolding call_of signal give either
    signal_is is = ap Left (by_number e d m 11 is) ∙ ap Left (line_found d m _ line names)

  module _ (is : Makes e d 12) (aligned : argument_a d % 4 ≡ 0) where
    pub spawn_is : (t : ℕ) → vacant d.threads ≡ Some t
        → after_call e d m ≡ done t (with_spawned (argument_a d) (argument_b d) d)
    unfolding call_of spawn give either
    spawn_is t there =
        ap Left (by_number e d m 12 is)
        ∙ ap Left (passes d m 7 (nat_eq (argument_a d % 4) 0) _ (eq-eqb (argument_a d % 4) 0 aligned))
        ∙ ap Left (finds d m 13 (vacant d.threads) _ t there)

    pub none_is : vacant d.threads ≡ None → after_call e d m ≡ refused 13 d
    unfolding call_of spawn stop either
    none_is none =
        ap Left (by_number e d m 12 is)
        ∙ ap Left (passes d m 7 (nat_eq (argument_a d % 4) 0) _ (eq-eqb (argument_a d % 4) 0 aligned))
        ∙ ap Left (lacks d m 13 (vacant d.threads) _ none)

-- ---- UNMAP of a page that is mapped

module _ (e : Estate) (d : Dom) (m : Mem) (frame rights va : ℕ) where
  -- what it does
  abbrev pub cleared : Done Mem Note Dom Dom
  cleared = record {
    notes = Note.Entry (page_entry m e.root va) ∷ Note.Emptied ∷ [];
    state = unmapped m e.root va;
    value = inr (done 0 (with_slot d (argument_a d) (Some (cap.Frame frame rights None))));
  }

  -- by whether the slot is one, and what is in it
  abbrev from_slot : Bool → Option Cap → Done Mem Note Dom Dom
  from_slot t o =
      ((check (refused 2 d) t >> some_or (refused 3 d) o) >>= (λ c.
      some_or (refused 5 d) (page_in c) >>= (λ page.
      some_or (refused 7 d) page.mapped >>= (λ at.
      unmap_at e.root at >> (empty_buffer >> give (done 0 (with_slot d (argument_a d) (noted (Some c) None)))))))) m

  pub unmap_is : Makes e d 5 → argument_a d < 64
      → cap_at d.caps (argument_a d) ≡ Some (cap.Frame frame rights (Some va))
      → call e d m ≡ cleared
  unfolding call_of unmap filled is_slot check some_or unmap_at empty_buffer give stop ◌>>◌ ◌>>=◌ go_on
  unmap_is is below there = by_number e d m 5 is ∙ ap₂ from_slot (lt-ltb (argument_a d) 64 below) there

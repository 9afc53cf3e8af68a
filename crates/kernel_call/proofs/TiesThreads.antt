-- How the calls on lines and threads run, to each of their ends, and what the code leaves then.
use Rattle.std.proofs.Common.{◌≡◌, ◌≢◌, ℕ, ◌-◌, ◌<◌, ◌≤◌, ◌%◌, Bool, true, false, List, [], ◌∷◌, length, Option, Some, None, Ok, Err, ◌⊎◌, inl, inr, refl, ap, sym, subst, ◌∙◌, arith}
use Rattle.std.specs.Prelude.{nat_eq, if◌then◌else◌, is_some, slice_get, slice_set, Result}
use Rattle.std.proofs.lemmas.Bool.{le-ltb}
use Rattle.std.proofs.lemmas.List.{length-append, set-get_or}
use Rattle.tp_base.specs.Act as act
use Rattle.tp_base.specs.Act.{◌>>=◌, stop, give, either}
use Rattle.phys_mem.specs.Mem.{Mem}
use Rattle.thread_set.specs.Threads.{waiter, woken, vacant}
use Rattle.irq_partition.specs.Interrupts as irq
use Rattle.irq_partition.specs.Interrupts.{Interrupts}
use Rattle.cap_table.specs.declared.Cap.{Cap}
use Rattle.cap_table.specs.declared.Cap.TheVariants as cap
use Rattle.cap_table.specs.Slots.{cap_at}
use Rattle.call_table.specs.Domain.{Dom, reply_past, recorded, replied, done, refused, is_set, with_bit, signalled_by, signalled, turned, waiting, with_spawned}
use Rattle.call_table.specs.Claims.{Estate}
use Rattle.kernel_clone.specs.Footprints.{call_number}
use Rattle.kernel_clone.specs.declared.operation.Call.{Call}
use Rattle.kernel_clone.specs.Permissions.{is_mail, is_call, is_of_memory}
use Rattle.kernel_clone.proofs.CallLaws.{differ}
use Rattle.kernel_clone.specs.declared.operation.Call.TheVariants as call
use Rattle.call_table.specs.Calls.{Note, Act, filled, line_in, line_at, bit_value, poll, waited, wait, signal, spawn, call_of}
use Rattle.call_table.specs.declared.Reply.{Reply}
use Rattle.call_table.proofs.WorkSteps.{last_reply}
use Rattle.kernel_call.specs.declared.domain.Domain.{Domain}
use Rattle.kernel_call.specs.declared.error.CallError.{CallError}
use Rattle.kernel_call.specs.Models.{dom_model, Stands, Becomes}
use Rattle.kernel_call.specs.Facts.{code_of, end_of, reads}
use Rattle.kernel_call.specs.Threads.{IsAnswered}
use Rattle.kernel_call.proofs.Paths.{goes_on, ends_there, filled_then, some_passes, some_ends, some_then, some_stops, check_then, check_ends}

-- ---- the line that a slot names

pub not_line : (c : Cap) → ((line : ℕ) → c ≡ cap.Irq line → ⊥) → line_in c ≡ None
not_line (cap.Frame f rights w) other = refl
not_line (cap.Table f w) other = refl
not_line (cap.Irq line) other = absurd (other line refl)

module _ (d : Dom) (a : ℕ) (m : Mem) where
  pub line_unfilled : (found : Result Cap CallError) (x y : CallError) (result : Result ℕ CallError)
      → filled d a m ≡ reads m (end_of d found)
      → found ≡ Err y → x ≡ y → result ≡ Err x → line_at d a m ≡ reads m (end_of d result)
  unfolding line_at
  line_unfilled found x y result finds was same is =
      ends_there (filled d a) _ m (refused (code_of y) d) (finds ∙ ap (λ (t : Result Cap CallError). reads m (end_of d t)) was)
      ∙ ap (λ (t : Result ℕ CallError). reads m (end_of d t)) (ap Err (sym same) ∙ sym is)

  pub line_other : (c : Cap) → a < 64 → cap_at d.caps a ≡ Some c → line_in c ≡ None
      → line_at d a m ≡ reads m (inl (refused 5 d))
  unfolding line_at
  line_other c below there none = filled_then d a _ c m below there ∙ some_stops (refused 5 d) (line_in c) m none

  pub line_found : (line : ℕ) → a < 64 → cap_at d.caps a ≡ Some (cap.Irq line)
      → line_at d a m ≡ reads m (inr line)
  unfolding line_at
  line_found line below there = filled_then d a _ (cap.Irq line) m below there ∙ some_passes (refused 5 d) (Some line) line m refl

  module _ (found : Result ℕ CallError) (finds : line_at d a m ≡ reads m (end_of d found)) where
    line_then : {B : Type 0} (f : ℕ → Act B) (line : ℕ) → found ≡ Ok line → (line_at d a >>= f) m ≡ f line m
    line_then f line is = goes_on (line_at d a) f m line (finds ∙ ap (λ (t : Result ℕ CallError). reads m (end_of d t)) is)

    line_ends : {B : Type 0} (f : ℕ → Act B) (x : CallError) → found ≡ Err x
        → (line_at d a >>= f) m ≡ reads m (inl (refused (code_of x) d))
    line_ends f x is =
        ends_there (line_at d a) f m (refused (code_of x) d)
        (finds ∙ ap (λ (t : Result ℕ CallError). reads m (end_of d t)) is)

    -- ---- POLL, WAIT and SIGNAL

    pub poll_refused : (x : CallError) → found ≡ Err x → poll d a m ≡ reads m (inl (refused (code_of x) d))
    unfolding poll
    poll_refused x is = line_ends _ x is

    pub poll_done : (line : ℕ) → found ≡ Ok line
        → poll d a m ≡ reads m (inr (done (bit_value (is_set d line)) (with_bit line false d)))
    unfolding poll give
    poll_done line is = line_then _ line is

    pub wait_refused : (x : CallError) → found ≡ Err x → wait d a m ≡ reads m (inl (refused (code_of x) d))
    unfolding wait
    wait_refused x is = line_ends _ x is

    wait_then : (line : ℕ) (bit : Bool) → found ≡ Ok line → is_set d line ≡ bit
        → wait d a m ≡ reads m (inr (waited bit line d))
    unfolding wait give
    wait_then line bit is there = line_then _ line is ∙ ap (λ (b : Bool). reads m (◌⊎◌.inr (waited b line d))) there

    pub wait_done : (line : ℕ) → found ≡ Ok line → is_set d line ≡ true
        → wait d a m ≡ reads m (inr (done 1 (with_bit line false d)))
    unfolding waited
    wait_done line is there = wait_then line true is there

    pub wait_blocked : (line : ℕ) → found ≡ Ok line → is_set d line ≡ false
        → wait d a m ≡ reads m (inr (waiting line d))
    unfolding waited
    wait_blocked line is there = wait_then line false is there

    pub signal_refused : (x : CallError) → found ≡ Err x
        → signal d a m ≡ reads m (inl (refused (code_of x) d))
    unfolding signal
    signal_refused x is = line_ends _ x is

    pub signal_done : (line : ℕ) → found ≡ Ok line → signal d a m ≡ reads m (inr (done 0 (signalled line d)))
    unfolding signal give
    signal_done line is = line_then _ line is

-- ---- SPAWN

module _ (d : Dom) (a b : ℕ) (m : Mem) where
  pub spawn_unaligned : nat_eq (a % 4) 0 ≡ false → spawn d a b m ≡ reads m (inl (refused 7 d))
  unfolding spawn
  spawn_unaligned bad = check_ends (refused 7 d) (nat_eq (a % 4) 0) _ m bad

  pub spawn_full : nat_eq (a % 4) 0 ≡ true → vacant d.threads ≡ None
      → spawn d a b m ≡ reads m (inl (refused 13 d))
  unfolding spawn
  spawn_full aligned none =
      check_then (refused 7 d) (nat_eq (a % 4) 0) _ m aligned ∙ some_ends (refused 13 d) (vacant d.threads) _ m none

  pub spawn_done : (t : ℕ) → nat_eq (a % 4) 0 ≡ true → vacant d.threads ≡ Some t
      → spawn d a b m ≡ reads m (inr (done t (with_spawned a b d)))
  unfolding spawn give
  spawn_done t aligned free =
      check_then (refused 7 d) (nat_eq (a % 4) 0) _ m aligned ∙ some_then (refused 13 d) (vacant d.threads) _ t m free

-- ---- a signal

signals_some : (line : ℕ) (d : Dom) (o : Option ℕ) → is_some o ≡ true
    → signalled_by line o d ≡ recorded 0 1 (record d { threads = woken line d.threads })
unfolding signalled_by
signals_some line d (Some t) some = refl
signals_some line d None some = absurd (cc some)

signals_none : (line : ℕ) (d : Dom) (o : Option ℕ) → (is_some o ≡ true → ⊥)
    → signalled_by line o d ≡ with_bit line true d
unfolding signalled_by
signals_none line d None none = refl
signals_none line d (Some t) none = absurd (none refl)

pub signal_wakes : (line : ℕ) (d : Dom) → is_some (waiter line d.threads) ≡ true
    → signalled line d ≡ recorded 0 1 (record d { threads = woken line d.threads })
unfolding signalled
signal_wakes line d some = signals_some line d (waiter line d.threads) some

pub signal_sets : (line : ℕ) (d : Dom) → (is_some (waiter line d.threads) ≡ true → ⊥)
    → signalled line d ≡ with_bit line true d
unfolding signalled
signal_sets line d none = signals_none line d (waiter line d.threads) none

signals_more : (line : ℕ) (d : Dom) (o : Option ℕ) → length d.replies ≤ length (signalled_by line o d).replies
unfolding signalled_by recorded with_bit
signals_more line d None = omega arith
signals_more line d (Some t) = omega (arith, length-append d.replies (record { code = 0; value = 1 } ∷ []))

-- no reply is lost
pub signal_more : (line : ℕ) (d : Dom) → length d.replies ≤ length (signalled line d).replies
unfolding signalled
signal_more line d = signals_more line d (waiter line d.threads)

-- ---- bits

pub bit_given : (d : Dom) (old new : Interrupts) (line : ℕ) (bit : Bool) → new ≡ irq.with_bit old line bit
    → old.delivered ≡ d.delivered → old.bits ≡ d.bits
    → record d { delivered = new.delivered; bits = new.bits } ≡ with_bit line bit d
unfolding irq.with_bit with_bit
bit_given d old new line bit is delivered bits =
    ap (λ (i : Interrupts). record d { delivered = i.delivered; bits = i.bits }) is
    ∙ ap (λ (n : ℕ). record d { delivered = n; bits = slice_set old.bits line bit }) delivered
    ∙ ap (λ (bs : List Bool). record d { bits = slice_set bs line bit }) bits

-- a bit that is clear is cleared in vain
pub clear_already : (d : Dom) (line : ℕ) → is_set d line ≡ false → with_bit line false d ≡ d
unfolding with_bit
clear_already d line clear =
    ap (λ (bs : List Bool). record d { bits = bs })
    (ap (λ (b : Bool). slice_set d.bits line b) (sym clear) ∙ set-get_or d.bits line false)

-- ---- what the code leaves

pub stands_as : (new : Domain) (x y : Dom) → x ≡ y → Stands new x → Stands new y
stands_as new x y is h = subst (Stands new) is h

pub then_becomes : (mid new : Domain) (x : Dom) (f : Dom → Dom) → Stands mid x → Becomes f mid new
    → Stands new (f x)
then_becomes mid new x f h next =
    stands_as new (f (dom_model mid x.readings x.replies)) (f x) (ap f h.same)
    (next x.readings x.replies h.readings h.replies)

module _ (m : Mem) (before : ℕ) (new : Domain) (r : act.Done Mem Note Dom Dom) where
  pub answered : (x : Dom) (v : Dom ⊎ Dom) (reply : Option Reply) → r ≡ reads m v → either v ≡ x
      → Stands new x → reply ≡ reply_past before x
      → IsAnswered m before reply new r
  answered x v reply is ends stands last =
      let there : x ≡ either r.value = sym (ap (λ (r : act.Done Mem Note Dom Dom). either r.value) is ∙ ends) in
      record {
        notes = ap (λ (r : act.Done Mem Note Dom Dom). r.notes) is;
        state = ap (λ (r : act.Done Mem Note Dom Dom). r.state) is;
        dom = subst (Stands new) there stands;
        reply_is = last ∙ ap (reply_past before) there;
      }

  -- the call was refused, and its reply is this
  pub answered_refused : (d : Dom) (x : CallError) (given reply : Reply)
      → r ≡ reads m (inl (refused (code_of x) d)) → before ≤ length d.replies
      → given ≡ record { code = code_of x; value = 0 } → reply ≡ given → Stands new (replied given.code given.value d)
      → IsAnswered m before (Some reply) new r
  unfolding either
  answered_refused d x given reply is had told same stands =
      answered (refused (code_of x) d) (inl (refused (code_of x) d)) (Some reply) is refl
      (subst (λ (g : Reply). Stands new (replied g.code g.value d)) told stands)
      (ap Some (same ∙ told) ∙ sym (last_reply d before (code_of x) 0 had))

  -- the call was done, and its reply is this
  pub answered_done : (d : Dom) (value : ℕ) (reply : Reply) → r ≡ reads m (inr (done value d))
      → before ≤ length d.replies
      → reply ≡ record { code = 0; value = value } → Stands new (done value d) → IsAnswered m before (Some reply) new r
  unfolding either
  answered_done d value reply is had same stands =
      answered (done value d) (inr (done value d)) (Some reply) is refl stands (ap Some same ∙ sym (last_reply d before 0 value had))

  no_reply : (x : Dom) → length x.replies ≤ before → None ≡ reply_past before x
  no_reply x few =
      sym (ap (λ (b : Bool). if b then slice_get x.replies (length x.replies - 1) else None) (le-ltb before (length x.replies) few))

  -- it has none
  pub answered_not : (x : Dom) (reply : Option Reply) → r ≡ reads m (inr x) → length x.replies ≤ before
      → reply ≡ None → Stands new x
      → IsAnswered m before reply new r
  unfolding either
  answered_not x reply is few none stands = answered x (inr x) reply is refl stands (none ∙ no_reply x few)

  -- it was done, and then another thread had its turn
  pub answered_turned : (d : Dom) (reply : Option Reply) → r ≡ reads m (inr (turned (done 0 d)))
      → before ≤ length d.replies
      → reply ≡ Some (record { code = 0; value = 0 }) → Stands new (turned (done 0 d)) → IsAnswered m before reply new r
  unfolding either turned
  answered_turned d reply is had same stands =
      answered (turned (done 0 d)) (inr (turned (done 0 d))) reply is refl stands (same ∙ sym (last_reply d before 0 0 had))

-- ---- the call of a number

-- the call of this number is that action
pub answered_by : (number k : ℕ) (e : Estate) (d : Dom) (a b c : ℕ) (m : Mem) (before : ℕ)
    (reply : Option Reply) (new : Domain)
    (r : act.Done Mem Note Dom Dom) → number ≡ k → call_of e d k a b c m ≡ r → IsAnswered m before reply new r
    → IsAnswered m before reply new (call_of e d number a b c m)
answered_by number k e d a b c m before reply new r is same h =
    subst (λ (n : ℕ). IsAnswered m before reply new (call_of e d n a b c m)) (sym is)
    (subst (IsAnswered m before reply new) (sym same) h)

-- a call that leaves memory alone, where it is none of the others, is on mailboxes
pub last_without_memory : (c : Call) → is_of_memory (call_number c) ≡ false → c ≢ call.Exit → c ≢ call.Poll
    → c ≢ call.Wait → c ≢ call.Signal
    → c ≢ call.Spawn → c ≢ call.Yield → c ≢ call.EndThread → is_mail (call_number c) ≡ true
last_without_memory call.Exit other x p w s n y e = absurd (x refl)
last_without_memory call.Put other x p w s n y e = absurd (cc other)
last_without_memory call.Alloc other x p w s n y e = absurd (cc other)
last_without_memory call.Table other x p w s n y e = absurd (cc other)
last_without_memory call.Map other x p w s n y e = absurd (cc other)
last_without_memory call.Unmap other x p w s n y e = absurd (cc other)
last_without_memory call.Copy other x p w s n y e = absurd (cc other)
last_without_memory call.Delete other x p w s n y e = absurd (cc other)
last_without_memory call.Revoke other x p w s n y e = absurd (cc other)
last_without_memory call.Poll other x p w s n y e = absurd (p refl)
last_without_memory call.Wait other x p w s n y e = absurd (w refl)
last_without_memory call.Signal other x p w s n y e = absurd (s refl)
last_without_memory call.Spawn other x p w s n y e = absurd (n refl)
last_without_memory call.Yield other x p w s n y e = absurd (y refl)
last_without_memory call.EndThread other x p w s n y e = absurd (e refl)
last_without_memory call.Send other x p w s n y e = refl
last_without_memory call.Receive other x p w s n y e = refl

-- on memory such a call is none
pub no_memory_call : (c : Call) → is_mail (call_number c) ≡ true → (e : Estate) (d : Dom) (m : Mem) (a b k : ℕ)
    → call_of e d (call_number c) a b k m ≡ reads m (inl (refused 1 d))
unfolding call_of stop
no_memory_call call.Send is e d m a b k = refl
no_memory_call call.Receive is e d m a b k = refl
no_memory_call call.Exit is e d m a b k = absurd (cc is)
no_memory_call call.Put is e d m a b k = absurd (cc is)
no_memory_call call.Alloc is e d m a b k = absurd (cc is)
no_memory_call call.Table is e d m a b k = absurd (cc is)
no_memory_call call.Map is e d m a b k = absurd (cc is)
no_memory_call call.Unmap is e d m a b k = absurd (cc is)
no_memory_call call.Copy is e d m a b k = absurd (cc is)
no_memory_call call.Delete is e d m a b k = absurd (cc is)
no_memory_call call.Revoke is e d m a b k = absurd (cc is)
no_memory_call call.Poll is e d m a b k = absurd (cc is)
no_memory_call call.Wait is e d m a b k = absurd (cc is)
no_memory_call call.Signal is e d m a b k = absurd (cc is)
no_memory_call call.Spawn is e d m a b k = absurd (cc is)
no_memory_call call.Yield is e d m a b k = absurd (cc is)
no_memory_call call.EndThread is e d m a b k = absurd (cc is)

pub bad_call : (e : Estate) (d : Dom) (m : Mem) (number a b c : ℕ) → is_call number ≡ false
    → call_of e d number a b c m ≡ reads m (inl (refused 1 d))
unfolding call_of stop
bad_call e d m number a b c none =
    rw (
      differ number 0 false none refl,
      differ number 1 false none refl,
      differ number 2 false none refl,
      differ number 3 false none refl,
      differ number 4 false none refl,
      differ number 5 false none refl,
      differ number 6 false none refl,
      differ number 7 false none refl,
      differ number 8 false none refl,
      differ number 9 false none refl,
      differ number 10 false none refl,
      differ number 11 false none refl,
      differ number 12 false none refl,
      differ number 13 false none refl,
      differ number 14 false none refl,
    ) refl

-- Calls that do no work: their end is the same from every memory, and they leave memory and all slots as they are.
use Rattle.std.proofs.Common.{◌≡◌, ℕ, ◌≤◌, Bool, true, false, Option, Some, None, [], ◌⊎◌, inl, inr, refl, leb-true}
use Rattle.std.specs.Prelude.{nat_eq, nat_le, nat_lt, ◌%◌, ◌&&◌, if◌then◌else◌}
use Rattle.std.proofs.lemmas.Bool.{and_parts}
use Rattle.tp_base.specs.Act.{go_on, ◌>>=◌, ◌>>◌, give, stop, check}
use Rattle.phys_mem.specs.Mem.{Mem}
use Rattle.thread_set.specs.Threads.{vacant, waiter}
use Rattle.cap_table.specs.declared.Cap.{Cap}
use Rattle.cap_table.specs.declared.Cap.TheVariants as cap
use Rattle.cap_table.specs.Slots.{cap_at}
use Rattle.call_table.specs.Domain.{Dom, placed, recorded, replied, done, refused, is_set, with_bit, signalled_by, signalled, turned, waiting, thread_ended, with_spawned}
use Rattle.call_table.specs.Calls.{Act, some_or, is_slot, filled, line_in, line_at, bit_value, poll, waited, wait, signal, spawn}

-- the codes of errors
pub record IsCode (code : ℕ) : Type 0 where
  pub some : 1 ≤ code
  pub few : code ≤ 13

pub is_code : (code : ℕ) → nat_le 1 code && nat_le code 13 ≡ true → IsCode code
is_code code is = let parts = and_parts _ _ is in record { some = leb-true 1 code parts.0; few = leb-true code 13 parts.1 }

-- a refusal of a domain
pub record IsRefused (d x : Dom) : Type 0 where
  pub code : ℕ
  pub error : IsCode code
  pub reply : x ≡ refused code d

-- refused, or done with the same slots
abbrev pub QuietEnd : Dom → Dom ⊎ Dom → Type 0
QuietEnd d (inl x) = IsRefused d x
QuietEnd d (inr x) = x.caps ≡ d.caps

pub record Quiet (d : Dom) (y : Act Dom) : Type 0 where
  pub value : Dom ⊎ Dom
  pub ends : QuietEnd d value
  pub is : (m : Mem) → (y m).value ≡ value
  pub memory : (m : Mem) → (y m).state ≡ m
  pub no_work : (m : Mem) → (y m).notes ≡ []

module _ (d : Dom) where
  give_quiet : (x : Dom) → x.caps ≡ d.caps → Quiet d (give x)
  unfolding give
  give_quiet x same = record { value = inr x; ends = same; is = λ m. refl; memory = λ m. refl; no_work = λ m. refl }

  stop_quiet : (code : ℕ) → IsCode code → Quiet d (stop (refused code d))
  unfolding stop
  stop_quiet code error =
      record {
        value = inl (refused code d);
        ends = record { code = code; error = error; reply = refl };
        is = λ m. refl;
        memory = λ m. refl;
        no_work = λ m. refl;
      }

  if_quiet : (t : Bool) (x y : Act Dom) → Quiet d x → Quiet d y → Quiet d (if t then x else y)
  if_quiet true x y h g = h
  if_quiet false x y h g = g

  check_quiet : (code : ℕ) (t : Bool) (y : Act Dom) → IsCode code → Quiet d y
      → Quiet d (check (refused code d) t >> y)
  unfolding check ◌>>◌ ◌>>=◌ go_on give stop
  check_quiet code true y error h = record {
    value = h.value;
    ends = h.ends;
    is = λ m. h.is m;
    memory = λ m. h.memory m;
    no_work = λ m. h.no_work m;
  }
  check_quiet code false y error h =
      record {
        value = inl (refused code d);
        ends = record { code = code; error = error; reply = refl };
        is = λ m. refl;
        memory = λ m. refl;
        no_work = λ m. refl;
      }

  some_quiet : {A : Type 0} (code : ℕ) (o : Option A) (f : A → Act Dom) → IsCode code
      → ((a : A) → Quiet d (f a))
      → Quiet d (some_or (refused code d) o >>= f)
  unfolding some_or ◌>>=◌ go_on give stop
  some_quiet code (Some a) f error h =
      let q = h a in
      record { value = q.value; ends = q.ends; is = λ m. q.is m; memory = λ m. q.memory m; no_work = λ m. q.no_work m }
  some_quiet code None f error h =
      record {
        value = inl (refused code d);
        ends = record { code = code; error = error; reply = refl };
        is = λ m. refl;
        memory = λ m. refl;
        no_work = λ m. refl;
      }

  line_by : (t : Bool) (o : Option Cap) (f : ℕ → Act Dom) → ((line : ℕ) → Quiet d (f line))
      → Quiet d (((check (refused 2 d) t >> some_or (refused 3 d) o) >>= (λ c. some_or (refused 5 d) (line_in c))) >>= f)
  unfolding check some_or ◌>>◌ ◌>>=◌ go_on give stop
  line_by true (Some (cap.Irq line)) f h =
      let q = h line in
      record { value = q.value; ends = q.ends; is = λ m. q.is m; memory = λ m. q.memory m; no_work = λ m. q.no_work m }
  line_by true (Some (cap.Frame g rights w)) f h =
      record {
        value = inl (refused 5 d);
        ends = record { code = 5; error = is_code 5 refl; reply = refl };
        is = λ m. refl;
        memory = λ m. refl;
        no_work = λ m. refl;
      }
  line_by true (Some (cap.Table g w)) f h =
      record {
        value = inl (refused 5 d);
        ends = record { code = 5; error = is_code 5 refl; reply = refl };
        is = λ m. refl;
        memory = λ m. refl;
        no_work = λ m. refl;
      }
  line_by true None f h =
      record {
        value = inl (refused 3 d);
        ends = record { code = 3; error = is_code 3 refl; reply = refl };
        is = λ m. refl;
        memory = λ m. refl;
        no_work = λ m. refl;
      }
  line_by false o f h =
      record {
        value = inl (refused 2 d);
        ends = record { code = 2; error = is_code 2 refl; reply = refl };
        is = λ m. refl;
        memory = λ m. refl;
        no_work = λ m. refl;
      }

  line_quiet : (a : ℕ) (f : ℕ → Act Dom) → ((line : ℕ) → Quiet d (f line)) → Quiet d (line_at d a >>= f)
  unfolding line_at filled is_slot
  line_quiet a f h = line_by (nat_lt a 64) (cap_at d.caps a) f h

  -- ---- each call from 9 on

  pub poll_quiet : (a : ℕ) → Quiet d (poll d a)
  unfolding poll replied placed with_bit
  poll_quiet a = line_quiet a _ (λ line. give_quiet (done (bit_value (is_set d line)) (with_bit line false d)) refl)

  waited_slots : (t : Bool) (line : ℕ) → (waited t line d).caps ≡ d.caps
  unfolding waited waiting replied placed with_bit
  waited_slots true line = refl
  waited_slots false line = refl

  pub wait_quiet : (a : ℕ) → Quiet d (wait d a)
  unfolding wait
  wait_quiet a = line_quiet a _ (λ line. give_quiet (waited (is_set d line) line d) (waited_slots (is_set d line) line))

  signalled_slots : (line : ℕ) (o : Option ℕ) → (done 0 (signalled_by line o d)).caps ≡ d.caps
  unfolding signalled_by recorded with_bit replied placed
  signalled_slots line None = refl
  signalled_slots line (Some t) = refl

  pub signal_quiet : (a : ℕ) → Quiet d (signal d a)
  unfolding signal signalled
  signal_quiet a = line_quiet a _ (λ line. give_quiet (done 0 (signalled line d)) (signalled_slots line (waiter line d.threads)))

  pub spawn_quiet : (a b : ℕ) → Quiet d (spawn d a b)
  unfolding spawn with_spawned replied placed
  spawn_quiet a b =
      check_quiet 7 (nat_eq (a % 4) 0) _ (is_code 7 refl)
      (some_quiet 13 (vacant d.threads) _ (is_code 13 refl) (λ t. give_quiet (done t (with_spawned a b d)) refl))

  pub yield_quiet : Quiet d (give (turned (done 0 d)))
  unfolding turned replied placed
  yield_quiet = give_quiet (turned (done 0 d)) refl

  pub end_quiet : Quiet d (give (thread_ended d))
  unfolding thread_ended
  end_quiet = give_quiet (thread_ended d) refl

  -- the call of a number that is none of 0 to 8
  abbrev pub later_call : ℕ → ℕ → ℕ → Act Dom
  later_call number a b =
      if nat_eq number 9 then poll d a
      else if nat_eq number 10 then wait d a
      else if nat_eq number 11 then signal d a
      else if nat_eq number 12 then spawn d a b
      else if nat_eq number 13 then give (turned (done 0 d))
      else if nat_eq number 14 then give (thread_ended d)
      else stop (refused 1 d)

  pub later_quiet : (number a b : ℕ) → Quiet d (later_call number a b)
  later_quiet number a b =
      if_quiet (nat_eq number 9) _ _ (poll_quiet a)
      (if_quiet (nat_eq number 10) _ _ (wait_quiet a)
      (if_quiet (nat_eq number 11) _ _ (signal_quiet a)
      (if_quiet (nat_eq number 12) _ _ (spawn_quiet a b)
      (if_quiet (nat_eq number 13) _ _ yield_quiet
      (if_quiet (nat_eq number 14) _ _ end_quiet
      (stop_quiet 1 (is_code 1 refl)))))))

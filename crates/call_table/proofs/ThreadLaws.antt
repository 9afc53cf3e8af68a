-- Whose turn it is after a call or a delivery, who wakes a thread that waits, and what a signal does.
use Rattle.std.proofs.Common.{◌≡◌, ◌≢◌, ◌⊎◌, ◌∙◌, ap, sym, subst, refl, inl, inr, ℕ, ◌+◌, ◌<◌, Bool, true, false, eqb-true, Option, Some, None, get_or, get_or-set_same}
use Rattle.std.specs.Prelude.{nat_eq, ◌%◌, ◌^◌, List, [], ◌∷◌, ◌++◌}
use Rattle.std.proofs.lemmas.Bool.{cases_eq}
use Rattle.phys_mem.specs.Mem.{Mem, zeroed_frame}
use Rattle.page_map.specs.Tables.{map_refusal, install_refusal}
use Rattle.page_map.specs.Changes.{mapped, unmapped, installed}
use Rattle.rv_core.specs.Registers.{register}
use Rattle.thread_set.specs.declared.Thread.{Thread}
use Rattle.thread_set.specs.declared.ThreadState.{ThreadState}
use Rattle.thread_set.specs.declared.ThreadState.TheVariants.{Never, Ready, Waiting, Ended}
use Rattle.thread_set.specs.Threads.{Threads, AreThreads, all_of, current_number, never, thread_at, waits_for, with_current, vacant, spawned, waiter}
use Rattle.thread_set.proofs.Places.{position-nowhere}
use Rattle.thread_set.proofs.Turns.{yielded-all}
use Rattle.thread_set.proofs.Changes.{spawned-eight, blocked-others, finished-others, woken-at, woken-others, spawned-others}
use Rattle.cap_table.specs.declared.Cap.{Cap}
use Rattle.cap_table.specs.Slots.{cap_at, copied, noted, line_of, revoked, revoked_count}
use Rattle.call_table.specs.Domain.{Dom, placed, recorded, replied, done, refused, exited, with_caps, is_set, with_bit, signalled_by, signalled, delivered_on, turned, waiting, thread_ended, with_spawned}
use Rattle.call_table.specs.Claims.{Estate, least_free}
use Rattle.call_table.specs.Calls.{is_slot, page_in, table_in, fresh_cap, copy_refusal, with_slot, bit_value, put_byte, alloc, install, map_page, unmap, copy, drop_slot, delete, revoke, poll, waited, wait, signal, spawn, call_of, call, number_made}
use Rattle.call_table.specs.ThreadLaws.{HasTurn, MayRun, after_call, Signals, CallTurnLaw, DeliveryTurnLaw, CallWakesLaw, DeliveryWakesLaw, SignalWakesLaw, SignalSetsLaw, DeliveryCountLaw, CallCountLaw}
use Rattle.call_table.proofs.MeaningSteps.{Gives, either_gives, bind_gives, give_gives, stop_gives, if_gives, zero_gives, map_gives, unmap_gives, install_gives, unmap_all_gives, buffer_gives, drop_gives, page_refusal_gives, table_refusal_gives, check_gives, some_gives, filled_gives, line_gives, allowed_gives, unless_gives}
use Rattle.call_table.proofs.ThreadLawsTurns.{waits_apart, current_eight, current_others, yielded_turn, ended_turn, moved_turn, blocked_turn, finished_turn, woken_turn, waiter_waits, woken_ready, spawned_ready, waits_started}

-- ---- a signal

waits_for_one : (line other : ℕ) (s : ThreadState) → waits_for line s ≡ true → waits_for other s ≡ true
    → other ≡ line
waits_for_one line other (Waiting l) is was = sym (eqb-true l other was) ∙ eqb-true l line is
waits_for_one line other Never is was = absurd (cc is)
waits_for_one line other Ready is was = absurd (cc is)
waits_for_one line other Ended is was = absurd (cc is)

module _ (line : ℕ) (d : Dom) where
  -- by who waits for the line
  abbrev End : Option ℕ → Dom
  End o = signalled_by line o d

  turn_by : (o : Option ℕ) → HasTurn d.threads → HasTurn (End o).threads
  unfolding signalled_by with_bit recorded
  turn_by None h = h
  turn_by (Some w) h = woken_turn d.threads line h

  ready_by : (o : Option ℕ) → waiter line d.threads ≡ o → HasTurn d.threads → MayRun d → MayRun (End o)
  unfolding signalled_by with_bit recorded
  ready_by None is h run = run
  ready_by (Some w) is h run = woken_ready d.threads line w h run is

  others_by : (o : Option ℕ) → waiter line d.threads ≡ o → AreThreads d.threads → (other t : ℕ) → other ≢ line
      → waits_for other (thread_at d.threads t).state ≡ true → thread_at (End o).threads t ≡ thread_at d.threads t
  unfolding signalled_by with_bit recorded
  others_by None is sound other t apart waits = refl
  others_by (Some w) is sound other t apart waits =
      woken-others d.threads line w t sound is
      (λ same. apart (waits_for_one line other (thread_at d.threads w).state (waiter_waits d.threads line w is)
      (subst (λ (k : ℕ). waits_for other (thread_at d.threads k).state ≡ true) same waits)))

  count_by : (o : Option ℕ) → (End o).delivered ≡ d.delivered
  unfolding signalled_by with_bit recorded
  count_by None = refl
  count_by (Some w) = refl

  pub signalled_turn : HasTurn d.threads → HasTurn (signalled line d).threads
  unfolding signalled
  signalled_turn h = turn_by (waiter line d.threads) h

  pub signalled_ready : HasTurn d.threads → MayRun d → MayRun (signalled line d)
  unfolding signalled
  signalled_ready h run = ready_by (waiter line d.threads) refl h run

  pub signalled_others : AreThreads d.threads → (other t : ℕ) → other ≢ line
      → waits_for other (thread_at d.threads t).state ≡ true
      → thread_at (signalled line d).threads t ≡ thread_at d.threads t
  unfolding signalled
  signalled_others sound other t apart waits = others_by (waiter line d.threads) refl sound other t apart waits

  pub signalled_count : (signalled line d).delivered ≡ d.delivered
  unfolding signalled
  signalled_count = count_by (waiter line d.threads)

pub signal_wakes : SignalWakesLaw
unfolding signalled signalled_by recorded
signal_wakes d line t sound is = (
  ap (λ (o : Option ℕ). thread_at (signalled_by line o d).threads t) is ∙ woken-at d.threads line t sound is,
  ap (λ (o : Option ℕ). (signalled_by line o d).bits) is,
)

pub signal_sets : SignalSetsLaw
unfolding signalled signalled_by with_bit waiter
signal_sets d line sound below none =
    let is : waiter line d.threads ≡ None =
    position-nowhere (λ x. waits_for line x.state) (all_of d.threads) never
    (record { fails = λ k within. none k (subst (λ (n : ℕ). k < n) sound.eight within) }) in (
      ap (λ (o : Option ℕ). is_set (signalled_by line o d) line) is ∙ get_or-set_same d.bits line true false below,
      ap (λ (o : Option ℕ). (signalled_by line o d).threads) is,
    )

-- ---- a delivery

pub delivery_turn : DeliveryTurnLaw
unfolding delivered_on
delivery_turn d line h = signalled_turn line (record d { delivered = d.delivered + 1 }) h

pub delivery_wakes : DeliveryWakesLaw
unfolding delivered_on
delivery_wakes d line other t sound apart waits =
    signalled_others line (record d { delivered = d.delivered + 1 }) sound other t apart waits

pub delivery_counts : DeliveryCountLaw
unfolding delivered_on
delivery_counts d line = signalled_count line (record d { delivered = d.delivered + 1 })

-- ---- what every call may do to the threads and to the count of moments

-- where Excuse tells for which lines it may wake a thread
record IsFair (Excuse : ℕ → Type 0) (d x : Dom) : Type 0 where
  count : x.delivered ≡ d.delivered
  turn : HasTurn d.threads → MayRun d → HasTurn x.threads
  waits : HasTurn d.threads → MayRun d → (t line : ℕ) → waits_for line (thread_at d.threads t).state ≡ true
      → (thread_at x.threads t ≡ thread_at d.threads t) ⊎ Excuse line

-- the threads and the count as they were
record IsSame (d x : Dom) : Type 0 where
  threads : x.threads ≡ d.threads
  count : x.delivered ≡ d.delivered

emptied_same : (d x : Dom) (i : ℕ) → IsSame d x → IsSame d (with_slot x i None)
unfolding with_caps
emptied_same d x i s = record { threads = s.threads; count = s.count }

module _ (Excuse : ℕ → Type 0) (d : Dom) where
  abbrev Fair : Dom → Type 0
  Fair x = IsFair Excuse d x

  abbrev FairIn : Dom → Mem → Type 0
  FairIn x n = Fair x

  abbrev SameIn : Dom → Mem → Type 0
  SameIn x n = IsSame d x

  -- only the current thread goes on
  done_fair : (code value : ℕ) (x : Dom) → IsSame d x → Fair (replied code value x)
  unfolding replied placed
  done_fair code value x s = record {
    count = s.count;
    turn = λ h run. moved_turn x.threads _ refl (subst HasTurn (sym s.threads) h);
    waits = λ h run t line waits.
        let sound : AreThreads x.threads = subst AreThreads (sym s.threads) h.eight in
        let same : (k : ℕ) → thread_at x.threads k ≡ thread_at d.threads k = λ k. ap (λ (ts : Threads). thread_at ts k) s.threads in
        let apart : t ≢ current_number x.threads =
        subst (λ (ts : Threads). t ≢ current_number ts) (sym s.threads) (waits_apart d.threads line t run waits) in
        inl (current_others x.threads sound _ t apart ∙ same t);
  }

  refused_fair : (code : ℕ) → Fair (refused code d)
  refused_fair code = done_fair code 0 d (record { threads = refl; count = refl })

  slot_fair : (value a : ℕ) (c : Option Cap) → Fair (done value (with_slot d a c))
  unfolding with_caps
  slot_fair value a c = done_fair 0 value (with_slot d a c) (record { threads = refl; count = refl })

  poll_fair : (value line : ℕ) → Fair (done value (with_bit line false d))
  unfolding with_bit
  poll_fair value line = done_fair 0 value (with_bit line false d) (record { threads = refl; count = refl })

  wait_fair : (t : Bool) (line : ℕ) → Fair (waited t line d)
  unfolding waited waiting with_current
  wait_fair true line = poll_fair 1 line
  wait_fair false line =
      let x : Thread = record d.threads.current { pc = (d.threads.current.pc + 4) % 2 ^ 32 } in
      record {
        count = refl;
        turn = λ h run. blocked_turn (with_current d.threads x) line (current_eight d.threads h.eight x);
        waits = λ h run t other waits.
            let apart : t ≢ current_number d.threads = waits_apart d.threads other t run waits in
            inl (blocked-others (with_current d.threads x) line t (current_eight d.threads h.eight x) apart
            ∙ current_others d.threads h.eight x t apart);
      }

  signal_fair : (line : ℕ) → Excuse line → Fair (done 0 (signalled line d))
  unfolding replied placed
  signal_fair line excused =
      let x : Dom = signalled line d in
      record {
        count = signalled_count line d;
        turn = λ h run. moved_turn x.threads _ refl (signalled_turn line d h);
        waits = λ h run t other waits. elim (cases_eq other line) [
          | inl same ↦ inr (subst Excuse (sym same) excused)
          | inr apart ↦
              let left : thread_at x.threads t ≡ thread_at d.threads t = signalled_others line d h.eight other t apart waits in
              let not_here : t ≢ current_number x.threads =
              waits_apart x.threads other t (signalled_ready line d h run)
              (ap (λ (y : Thread). waits_for other y.state) left ∙ waits) in
              inl (current_others x.threads (signalled_turn line d h).eight _ t not_here ∙ left)
        ];
      }

  spawn_fair : (entry argument v : ℕ) → vacant d.threads ≡ Some v
      → Fair (done v (with_spawned entry argument d))
  unfolding replied placed with_spawned
  spawn_fair entry argument v is =
      let ts : Threads = spawned d.threads entry argument in
      record {
        count = refl;
        turn = λ h run. moved_turn ts _ refl (record {
          eight = spawned-eight d.threads entry argument h.eight;
          ready = λ t below ready. spawned_ready d.threads entry argument v h.eight run is;
        });
        waits = λ h run t line waits.
            let left : thread_at ts t ≡ thread_at d.threads t =
            spawned-others d.threads entry argument v t h.eight is (waits_started d.threads entry argument v h.eight run is line t waits) in
            let not_here : t ≢ current_number ts =
            waits_apart ts line t (spawned_ready d.threads entry argument v h.eight run is)
            (ap (λ (y : Thread). waits_for line y.state) left ∙ waits) in
            inl (current_others ts (spawned-eight d.threads entry argument h.eight) _ t not_here ∙ left);
      }

  yield_fair : Fair (turned (done 0 d))
  unfolding turned
  yield_fair =
      let r : Fair (done 0 d) = done_fair 0 0 d (record { threads = refl; count = refl }) in
      record {
        count = r.count;
        turn = λ h run. yielded_turn (done 0 d).threads (r.turn h run).eight;
        waits = λ h run t line waits. elim (r.waits h run t line waits) [
          | inl same ↦
              inl (ap (λ (xs : List Thread). get_or xs t never) (yielded-all (done 0 d).threads (r.turn h run).eight) ∙ same)
          | inr excused ↦ inr excused
        ];
      }

  end_fair : Fair (thread_ended d)
  unfolding thread_ended
  end_fair = record {
    count = refl;
    turn = λ h run. finished_turn d.threads h.eight;
    waits = λ h run t line waits. inl (finished-others d.threads t h.eight (waits_apart d.threads line t run waits));
  }

  exit_fair : (code : ℕ) → ((line : ℕ) → Excuse line) → Fair (exited code d)
  unfolding exited
  exit_fair code excused = record {
    count = refl;
    turn = λ h run. ended_turn d.threads h.eight;
    waits = λ h run t line waits. inr (excused line);
  }

  -- ---- each call

  module _ (e : Estate) (m : Mem) where
    put_call : (a : ℕ) → Gives Fair FairIn (put_byte d a m)
    unfolding put_byte
    put_call a =
        check_gives Fair FairIn m d refused_fair 11 _ _ (λ _.
        give_gives Fair FairIn m _
        (done_fair 0 0 (record d { printed = d.printed ++ a % 256 ∷ [] })
        (record { threads = refl; count = refl })))

    alloc_call : (a b : ℕ) → Gives Fair FairIn (alloc e d a b m)
    unfolding alloc is_slot
    alloc_call a b =
        check_gives Fair FairIn m d refused_fair 2 _ _ (λ _.
        check_gives Fair FairIn m d refused_fair 4 _ _ (λ _.
        check_gives Fair FairIn m d refused_fair 5 _ _ (λ _.
        some_gives Fair FairIn m d refused_fair 10 (least_free e d.caps) _ (λ f is.
        zero_gives Fair FairIn m f _
        (give_gives Fair FairIn (zeroed_frame m f) _ (slot_fair 0 a (Some (fresh_cap b f))))))))

    install_call : (a va : ℕ) → Gives Fair FairIn (install e d a va m)
    unfolding install
    install_call a va =
        filled_gives Fair FairIn m d refused_fair a _ (λ _ x _.
        some_gives Fair FairIn m d refused_fair 5 (table_in x) _ (λ t _.
        check_gives Fair FairIn m d refused_fair 7 _ _ (λ _.
        check_gives Fair FairIn m d refused_fair 8 _ _ (λ _.
        table_refusal_gives Fair FairIn m e.root va _
        (allowed_gives Fair FairIn m d refused_fair (install_refusal m e.root va) _ (λ _.
        install_gives Fair FairIn m e.root va t.frame _
        (give_gives Fair FairIn (installed m e.root va t.frame) _ (slot_fair 0 a (noted (Some x) (Some va))))))))))

    map_call : (a va c : ℕ) → Gives Fair FairIn (map_page e d a va c m)
    unfolding map_page
    map_call a va c =
        filled_gives Fair FairIn m d refused_fair a _ (λ _ x _.
        some_gives Fair FairIn m d refused_fair 5 (page_in x) _ (λ page _.
        check_gives Fair FairIn m d refused_fair 6 _ _ (λ _.
        check_gives Fair FairIn m d refused_fair 7 _ _ (λ _.
        check_gives Fair FairIn m d refused_fair 8 _ _ (λ _.
        page_refusal_gives Fair FairIn m e.root va _
        (allowed_gives Fair FairIn m d refused_fair (map_refusal m e.root va) _ (λ _.
        map_gives Fair FairIn m e.root va page.frame c _
        (give_gives Fair FairIn (mapped m e.root va page.frame c) _ (slot_fair 0 a (noted (Some x) (Some va)))))))))))

    unmap_call : (a : ℕ) → Gives Fair FairIn (unmap e d a m)
    unfolding unmap
    unmap_call a =
        filled_gives Fair FairIn m d refused_fair a _ (λ _ x _.
        some_gives Fair FairIn m d refused_fair 5 (page_in x) _ (λ page _.
        some_gives Fair FairIn m d refused_fair 7 page.mapped _ (λ va _.
        unmap_gives Fair FairIn m e.root va _
        (buffer_gives Fair FairIn (unmapped m e.root va) _
        (give_gives Fair FairIn (unmapped m e.root va) _ (slot_fair 0 a (noted (Some x) None)))))))

    copy_call : (a to c : ℕ) → Gives Fair FairIn (copy d a to c m)
    unfolding copy is_slot
    copy_call a to c =
        check_gives Fair FairIn m d refused_fair 2 _ _ (λ _.
        check_gives Fair FairIn m d refused_fair 2 _ _ (λ _.
        some_gives Fair FairIn m d refused_fair 3 (cap_at d.caps a) _ (λ x _.
        check_gives Fair FairIn m d refused_fair 4 _ _ (λ _.
        unless_gives Fair FairIn m d refused_fair (copy_refusal x c) _ (λ _.
        give_gives Fair FairIn m _ (slot_fair 0 to (copied (Some x) c)))))))

    delete_call : (a : ℕ) → Gives Fair FairIn (delete e d a m)
    unfolding delete
    delete_call a =
        filled_gives Fair FairIn m d refused_fair a _ (λ _ x _.
        check_gives Fair FairIn m d refused_fair 12 _ _ (λ _.
        bind_gives Fair SameIn FairIn (drop_slot e a d) _ m
        (drop_gives e Fair (IsSame d) (emptied_same d) a d m (record { threads = refl; count = refl })) (λ x n s.
        buffer_gives Fair FairIn n _
        (give_gives Fair FairIn n _ (done_fair 0 0 x s)))))

    revoked_same : (a : ℕ) → IsSame d (with_caps (revoked d.caps a) d)
    unfolding with_caps
    revoked_same a = record { threads = refl; count = refl }

    revoke_call : (a : ℕ) → Gives Fair FairIn (revoke e d a m)
    unfolding revoke
    revoke_call a =
        filled_gives Fair FairIn m d refused_fair a _ (λ _ x _.
        unmap_all_gives Fair FairIn m e.root _ _
        (buffer_gives Fair FairIn _ _
        (give_gives Fair FairIn _ _ (done_fair 0 (revoked_count d.caps a) (with_caps (revoked d.caps a) d) (revoked_same a)))))

    poll_call : (a : ℕ) → Gives Fair FairIn (poll d a m)
    unfolding poll
    poll_call a =
        line_gives Fair FairIn m d refused_fair a _ (λ line _.
        give_gives Fair FairIn m _ (poll_fair (bit_value (is_set d line)) line))

    wait_call : (a : ℕ) → Gives Fair FairIn (wait d a m)
    unfolding wait
    wait_call a =
        line_gives Fair FairIn m d refused_fair a _ (λ line _.
        give_gives Fair FairIn m _ (wait_fair (is_set d line) line))

    signal_call : (a : ℕ) → ((line : ℕ) → line_of (cap_at d.caps a) ≡ Some line → Excuse line)
        → Gives Fair FairIn (signal d a m)
    unfolding signal
    signal_call a excused =
        line_gives Fair FairIn m d refused_fair a _ (λ line names.
        give_gives Fair FairIn m _ (signal_fair line (excused line names)))

    spawn_call : (a b : ℕ) → Gives Fair FairIn (spawn d a b m)
    unfolding spawn
    spawn_call a b =
        check_gives Fair FairIn m d refused_fair 7 _ _ (λ _.
        some_gives Fair FairIn m d refused_fair 13 (vacant d.threads) _ (λ v is.
        give_gives Fair FairIn m _ (spawn_fair a b v is)))

    module _ (number a b c : ℕ) (exits : number ≡ 0 → (line : ℕ) → Excuse line)
        (signals : number ≡ 11 → (line : ℕ) → line_of (cap_at d.caps a) ≡ Some line → Excuse line) where
      any_call : Gives Fair FairIn (call_of e d number a b c m)
      unfolding call_of
      any_call =
          if_gives Fair FairIn m (nat_eq number 0) _ _ (λ is. give_gives Fair FairIn m _ (exit_fair a (exits (eqb-true number 0 is))))
          (if_gives Fair FairIn m (nat_eq number 1) _ _ (λ _. put_call a)
          (if_gives Fair FairIn m (nat_eq number 2) _ _ (λ _. alloc_call a b)
          (if_gives Fair FairIn m (nat_eq number 3) _ _ (λ _. install_call a b)
          (if_gives Fair FairIn m (nat_eq number 4) _ _ (λ _. map_call a b c)
          (if_gives Fair FairIn m (nat_eq number 5) _ _ (λ _. unmap_call a)
          (if_gives Fair FairIn m (nat_eq number 6) _ _ (λ _. copy_call a b c)
          (if_gives Fair FairIn m (nat_eq number 7) _ _ (λ _. delete_call a)
          (if_gives Fair FairIn m (nat_eq number 8) _ _ (λ _. revoke_call a)
          (if_gives Fair FairIn m (nat_eq number 9) _ _ (λ _. poll_call a)
          (if_gives Fair FairIn m (nat_eq number 10) _ _ (λ _. wait_call a)
          (if_gives Fair FairIn m (nat_eq number 11) _ _ (λ is. signal_call a (signals (eqb-true number 11 is)))
          (if_gives Fair FairIn m (nat_eq number 12) _ _ (λ _. spawn_call a b)
          (if_gives Fair FairIn m (nat_eq number 13) _ _ (λ _. give_gives Fair FairIn m _ yield_fair)
          (if_gives Fair FairIn m (nat_eq number 14) _ _ (λ _. give_gives Fair FairIn m _ end_fair)
          (stop_gives Fair FairIn m _ (refused_fair 1))))))))))))))))

-- ---- the laws of calls

call_fair : (e : Estate) (d : Dom) (m : Mem)
    → IsFair (λ line. Signals e d line ⊎ (number_made e d ≡ 0)) d (after_call e d m)
unfolding call
call_fair e d m =
    let regs = d.threads.current.regs in
    let Excuse : ℕ → Type 0 = λ line. Signals e d line ⊎ (number_made e d ≡ 0) in
    either_gives (IsFair Excuse d) _
    (any_call Excuse d e m (number_made e d) (register regs 10) (register regs 11) (register regs 12)
    (λ is line. inr is) (λ is line names. inl (record { number = is; names = names })))

pub call_turn : CallTurnLaw
call_turn e d m h run = (call_fair e d m).turn h run

pub call_wakes : CallWakesLaw
call_wakes e d m t line h run below waits = (call_fair e d m).waits h run t line waits

pub call_counts : CallCountLaw
call_counts e d m = (call_fair e d m).count

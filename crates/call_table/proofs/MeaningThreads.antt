-- What the calls of threads, lines and output leave of a domain.
use Rattle.std.proofs.Common.{◌≡◌, ◌≢◌, ◌∙◌, ap, sym, subst, subst₂, refl, ℕ, suc, ◌+◌, ◌<◌, ◌≤◌, ◌%◌, ◌^◌, Bool, true, false, true≢false, not, arith, length, get_or, set, get_or-set_same, get_or-set_other, inl, inr, Option, Some, None}
use Rattle.std.specs.Prelude.{if◌then◌else◌, List, [], ◌∷◌, ◌++◌}
use Rattle.std.specs.List.{list_any}
use Rattle.std.proofs.lemmas.Bool.{cases_eq, cases_lt}
use Rattle.std.proofs.lemmas.List.{get_or-replicate, get_or_past, length-set}
use Rattle.std.proofs.lemmas.List.Folds.{list_any_at}
use Rattle.rv_core.specs.Registers.{zeros}
use Rattle.thread_set.specs.declared.Thread.{Thread}
use Rattle.thread_set.specs.declared.ThreadState.TheVariants.{Waiting, Ended}
use Rattle.thread_set.specs.Threads.{Threads, AreThreads, all_of, current_number, never, thread_at, is_ready, is_live, in_state, between, yielded, given_way, with_current, with_thread, started, vacant, started_at, spawned, blocked, finished, waiter, resumed, resumed_at, woken, end_live}
use Rattle.thread_set.proofs.Parts.{number-below}
use Rattle.thread_set.proofs.Places.{position-first, position-nowhere}
use Rattle.thread_set.proofs.Turns.{yielded-ready, yielded-soonest, yielded-none, yielded-all, given-all}
use Rattle.thread_set.proofs.Changes.{spawned-eight, spawned-at, spawned-others, blocked-at, blocked-others, finished-at, finished-others, put-turn, ended-at}
use Rattle.call_table.specs.declared.DomainStatus.TheVariants.{Exited}
use Rattle.call_table.specs.Domain.{Dom, placed, recorded, replied, done, exited, with_bit, signalled_by, signalled, delivered_on, turned, waiting, has_live, thread_ended, with_spawned}
use Rattle.call_table.specs.Calls.{bit_value, waited}
use Rattle.call_table.specs.ThreadLaws.{MayRun}
use Rattle.call_table.specs.Meanings.{argument_a, argument_b, caller, answered, PassesTurn, IsExited, ExitLaw, IsLastLive, IsThreadEnded, EndThreadLaw, IsPrinted, PutLaw, OutputFullLaw, IsPolled, IsWaiting, PollSetLaw, PollClearLaw, WaitSetLaw, WaitClearLaw, IsSignalled, SignalLaw, IsVacant, IsStarted, IsSpawned, SpawnLaw, NoThreadLaw, IsYielded, YieldLaw}
use Rattle.call_table.proofs.ThreadLawsTurns.{ready_live, current_at, current_eight, current_others, current_stays, waiter_waits, waits_apart}
use Rattle.call_table.proofs.MeaningNumbers.{exit_is, end_is, yield_is, put_is, full_is, poll_is, wait_is, signal_is, spawn_is, none_is}

-- ---- EXIT

live_ended : (x : Thread) → is_live x.state ≡ true → end_live x ≡ in_state Ended x
live_ended x is = ap (λ (t : Bool). if t then in_state Ended x else x) is

dead_stays : (x : Thread) → is_live x.state ≡ false → end_live x ≡ x
dead_stays x is = ap (λ (t : Bool). if t then in_state Ended x else x) is

exited_means : (d : Dom) (code : ℕ) → AreThreads d.threads → IsExited code d (exited code d)
unfolding exited
exited_means d code sound = record {
  status = refl;
  ended = λ t below live. ended-at d.threads t sound below ∙ live_ended (thread_at d.threads t) live;
  not_live = λ t below dead. ended-at d.threads t sound below ∙ dead_stays (thread_at d.threads t) dead;
  rest = refl;
}

pub exit_means : ExitLaw
exit_means e d m sound is = subst (IsExited (argument_a d) d) (sym (exit_is e d m is)) (exited_means d (argument_a d) sound)

-- ---- ENDTHREAD

none_live : (xs : List Thread) → ((k : ℕ) → k < length xs → is_live (get_or xs k never).state ≡ false)
    → list_any (λ x. is_live x.state) xs ≡ false
none_live [] h = refl
none_live (x ∷ xs) h = rw (h 0 (omega arith), none_live xs (λ k below. h (suc k) (omega (arith, below)))) refl

-- the threads with the current one ended
abbrev after_end : Dom → Threads
after_end d = finished d.threads

finished_eight : (ts : Threads) → AreThreads ts → AreThreads (finished ts)
unfolding finished
finished_eight ts sound = given-sound (with_current ts (in_state Ended ts.current)) (current_eight ts sound (in_state Ended ts.current))
  where
    given-sound : (s : Threads) → AreThreads s → AreThreads (given_way s)
    given-sound s h = record { eight = ap length (given-all s h) ∙ h.eight }

-- ---- a caller that is no longer ready

module _ (was : Threads) (x : Thread) (eight : AreThreads was) (quiet : is_ready x.state ≡ false) where
  abbrev stopped : Threads
  stopped = with_current was x

  stopped_eight : AreThreads stopped
  stopped_eight = current_eight was eight x

  passes : given_way stopped ≡ yielded stopped
  unfolding given_way with_current
  passes = ap (λ (b : Bool). if b then stopped else yielded stopped) quiet

  still : (t : ℕ) → thread_at (yielded stopped) t ≡ thread_at stopped t
  still t = ap (λ (xs : List Thread). get_or xs t never) (yielded-all stopped stopped_eight)

  state_of : (t : ℕ) (b : Bool) → is_ready (thread_at (yielded stopped) t).state ≡ b
      → is_ready (thread_at stopped t).state ≡ b
  state_of t b is = ap (λ (y : Thread). is_ready y.state) (sym (still t)) ∙ is

  passed : (d y : Dom) → current_number was ≡ caller d → y.threads ≡ yielded stopped → PassesTurn d y
  unfolding with_current
  passed d y caller_is is =
      let next : PassesTurn (record d { threads = was }) (record y { threads = yielded stopped }) =
      record {
        ready = λ t below ready. yielded-ready stopped t stopped_eight below (state_of t true ready);
        soonest = λ t below ready. yielded-soonest stopped t stopped_eight below (state_of t true ready);
        none = λ none.
            ap current_number (yielded-none stopped stopped_eight (λ t below. state_of t false (none t below)));
      } in
      record {
        ready = subst (λ (ts : Threads). (t : ℕ) → t < 8 → is_ready (thread_at ts t).state ≡ true → is_ready ts.current.state ≡ true)
            (sym is) next.ready;
        soonest = subst₂ (λ (ts : Threads) (n : ℕ). (t : ℕ) → t < 8 → is_ready (thread_at ts t).state ≡ true
            → between n (current_number ts) ≤ between n t) (sym is) caller_is next.soonest;
        none = subst₂ (λ (ts : Threads) (n : ℕ). ((t : ℕ) → t < 8 → is_ready (thread_at ts t).state ≡ false)
            → current_number ts ≡ n) (sym is) caller_is next.none;
      }

module _ (d : Dom) (sound : AreThreads d.threads) where
  none_left : IsLastLive d → has_live (after_end d) ≡ false
  none_left last =
      none_live (all_of (after_end d)) (λ k within.
      let below : k < 8 = subst (λ (n : ℕ). k < n) (finished_eight d.threads sound).eight within in
      elim (cases_eq k (caller d)) [
        | inl same ↦
            ap (λ (n : ℕ). is_live (thread_at (after_end d) n).state) same
            ∙ ap (λ (x : Thread). is_live x.state) (finished-at d.threads sound)
        | inr other ↦
            ap (λ (x : Thread). is_live x.state) (finished-others d.threads k sound other) ∙ last k below other
      ])

  one_left : (t : ℕ) → t < 8 → t ≢ caller d → is_live (thread_at d.threads t).state ≡ true
      → has_live (after_end d) ≡ true
  one_left t below other live =
      list_any_at (λ x. is_live x.state) (all_of (after_end d)) t never
      (subst (λ (n : ℕ). t < n) (sym (finished_eight d.threads sound).eight) below)
      (ap (λ (x : Thread). is_live x.state) (finished-others d.threads t sound other) ∙ live)

  ended_means : IsThreadEnded d (thread_ended d)
  unfolding thread_ended finished
  ended_means = record {
    ended = finished-at d.threads sound;
    others = λ t other. finished-others d.threads t sound other;
    last = λ last. ap (λ (t : Bool). if t then d.status else Exited 0) (none_left last);
    not_last = λ t below other live. ap (λ (b : Bool). if b then d.status else Exited 0) (one_left t below other live);
    turn = passed d.threads (in_state Ended d.threads.current) sound refl d (thread_ended d) refl
        (passes d.threads (in_state Ended d.threads.current) sound refl);
    rest = refl;
  }

pub end_means : EndThreadLaw
end_means e d m sound is = subst (IsThreadEnded d) (sym (end_is e d m is)) (ended_means d sound)

-- ---- PUT

printed_means : (d : Dom) (byte : ℕ)
    → IsPrinted byte d (done 0 (record d { printed = d.printed ++ byte ∷ [] }))
unfolding replied placed with_current
printed_means d byte = record { done = record { threads = refl; reply = refl }; last = refl; rest = refl }

pub put_means : PutLaw
put_means e d m is room =
    subst (IsPrinted (argument_a d % 256) d) (sym (put_is e d m is room)) (printed_means d (argument_a d % 256))

pub full_means : OutputFullLaw
full_means e d m is full = full_is e d m is full

-- ---- POLL and WAIT

cleared_bit : (bits : List Bool) (line : ℕ) → get_or (set bits line false) line false ≡ false
cleared_bit bits line = elim (cases_lt line (length bits)) [
  | inl below ↦ get_or-set_same bits line false false below
  | inr past ↦ get_or_past (set bits line false) line false (omega (arith, past, length-set bits line false))
]

polled_means : (value line : ℕ) (d : Dom) → IsPolled value line d (done value (with_bit line false d))
unfolding replied placed with_current with_bit
polled_means value line d = record {
  done = record { threads = refl; reply = refl };
  clear = cleared_bit d.bits line;
  others = λ other apart. get_or-set_other d.bits line other false false apart;
  rest = refl;
}

waiting_means : (line : ℕ) (d : Dom) → AreThreads d.threads → IsWaiting line d (waiting line d)
unfolding waiting with_current blocked
waiting_means line d sound =
    let x : Thread = record d.threads.current { pc = (d.threads.current.pc + 4) % 2 ^ 32 } in
    let past : Threads = with_current d.threads x in
    let eight : AreThreads past = current_eight d.threads sound x in
    record {
      waits = blocked-at past line eight;
      others = λ t other. blocked-others past line t eight other ∙ current_others d.threads sound x t other;
      turn = passed past (in_state (Waiting line) x) eight refl d (waiting line d) refl (passes past (in_state (Waiting line) x) eight refl);
      rest = refl;
    }

pub poll_set : PollSetLaw
poll_set e d m line is names bit =
    subst (IsPolled 1 line d) (sym (poll_is e d m line names is ∙ ap (λ (t : Bool). done (bit_value t) (with_bit line false d)) bit))
    (polled_means 1 line d)

pub poll_clear : PollClearLaw
poll_clear e d m line is names bit =
    subst (IsPolled 0 line d) (sym (poll_is e d m line names is ∙ ap (λ (t : Bool). done (bit_value t) (with_bit line false d)) bit))
    (polled_means 0 line d)

pub wait_set : WaitSetLaw
unfolding waited
wait_set e d m line is names bit =
    subst (IsPolled 1 line d) (sym (wait_is e d m line names is ∙ ap (λ (t : Bool). waited t line d) bit)) (polled_means 1 line d)

pub wait_clear : WaitClearLaw
unfolding waited
wait_clear e d m line sound is names bit =
    subst (IsWaiting line d) (sym (wait_is e d m line names is ∙ ap (λ (t : Bool). waited t line d) bit)) (waiting_means line d sound)

-- ---- SIGNAL

-- a domain with one moment more
abbrev counted : Dom → Dom
counted d = record d { delivered = d.delivered + 1 }

module _ (line : ℕ) (d : Dom) where
  -- by who waits for the line
  abbrev Now : Option ℕ → Dom
  Now o = signalled_by line o d

  abbrev Later : Option ℕ → Dom
  Later o = signalled_by line o (counted d)

  abbrev Means : Dom → Dom → Type 0
  Means y x = (x.threads ≡ record y.threads { current = answered 0 0 y.threads.current })
      × (x.replies ≡ y.replies ++ record { code = 0; value = 0 } ∷ []) × (x.bits ≡ y.bits)
      × (x ≡ record d { threads = x.threads; replies = x.replies; bits = x.bits })

  means_by : (o : Option ℕ) → Means (Later o) (done 0 (Now o))
  unfolding signalled_by with_bit recorded replied placed with_current
  means_by None = (refl, refl, refl, refl)
  means_by (Some t) = (refl, refl, refl, refl)

  module _ (sound : AreThreads d.threads) (run : MayRun d) where
    woken_turn : (w : ℕ) → waiter line d.threads ≡ Some w → current_number (woken line d.threads) ≡ caller d
    unfolding woken given_way
    woken_turn w is =
        let x : Thread = resumed (thread_at d.threads w) in
        let apart : w ≢ caller d = waits_apart d.threads line w run (waiter_waits d.threads line w is) in
        let ready : is_ready (with_thread d.threads w x).current.state ≡ true =
        ap (λ (y : Thread). is_ready y.state) (current_stays d.threads sound w x apart) ∙ run in
        ap (λ (o : Option ℕ). current_number (resumed_at d.threads o)) is
        ∙ ap (λ (t : Bool). current_number (if t then with_thread d.threads w x else yielded (with_thread d.threads w x))) ready
        ∙ put-turn d.threads w x sound

    turn_by : (o : Option ℕ) → waiter line d.threads ≡ o → current_number (done 0 (Now o)).threads ≡ caller d
    unfolding signalled_by with_bit recorded replied placed with_current
    turn_by None is = refl
    turn_by (Some w) is = woken_turn w is

    signalled_means : IsSignalled line d (done 0 (signalled line d))
    unfolding signalled delivered_on
    signalled_means =
        let by : Means (Later (waiter line d.threads)) (done 0 (Now (waiter line d.threads))) = means_by (waiter line d.threads) in
        record {
          done = record { threads = by.0; reply = by.1 };
          bits = by.2;
          turn = turn_by (waiter line d.threads) refl;
          rest = by.3;
        }

pub signal_means : SignalLaw
signal_means e d m line sound run is names =
    subst (IsSignalled line d) (sym (signal_is e d m line names is)) (signalled_means line d sound run)

-- ---- SPAWN

vacant_is : (d : Dom) (t : ℕ) → AreThreads d.threads → IsVacant d t → vacant d.threads ≡ Some t
unfolding vacant
vacant_is d t sound v =
    position-first (λ x. not (is_live x.state)) (all_of d.threads) never t
    (record {
      within = subst (λ (n : ℕ). t < n) (sym sound.eight) v.below;
      passes = ap not v.not_live;
      before = λ s less. ap not (v.least s less);
    })

none_vacant : (d : Dom) → AreThreads d.threads
    → ((t : ℕ) → t < 8 → is_live (thread_at d.threads t).state ≡ true) → vacant d.threads ≡ None
unfolding vacant
none_vacant d sound live =
    position-nowhere (λ x. not (is_live x.state)) (all_of d.threads) never
    (record { fails = λ k within. ap not (live k (subst (λ (n : ℕ). k < n) sound.eight within)) })

started_means : (entry argument : ℕ) → IsStarted entry argument (started entry argument)
started_means entry argument = record {
  ready = refl;
  pc = refl;
  x10 = refl;
  zero = λ r below other. get_or-set_other zeros 10 r argument 0 other ∙ get_or-replicate 32 r 0 0 below;
}

module _ (d : Dom) (entry argument t : ℕ) (sound : AreThreads d.threads) (run : MayRun d) (v : IsVacant d t) where
  abbrev Spawned : Threads
  Spawned = spawned d.threads entry argument

  there : vacant d.threads ≡ Some t
  there = vacant_is d t sound v

  eight : AreThreads Spawned
  eight = spawned-eight d.threads entry argument sound

  not_caller : t ≢ caller d
  not_caller same =
      let live : is_live (thread_at d.threads (caller d)).state ≡ true =
      ap (λ (x : Thread). is_live x.state) (current_at d.threads) ∙ ready_live d.threads.current.state run in
      true≢false (sym live ∙ ap (λ (n : ℕ). is_live (thread_at d.threads n).state) (sym same) ∙ v.not_live)

  is_put : Spawned ≡ with_thread d.threads t (started entry argument)
  unfolding spawned
  is_put = ap (λ (o : Option ℕ). started_at d.threads entry argument o) there

  turn : current_number Spawned ≡ caller d
  turn = ap (λ (ts : Threads). current_number ts) is_put ∙ put-turn d.threads t (started entry argument) sound

  current : Spawned.current ≡ d.threads.current
  current = ap (λ (ts : Threads). ts.current) is_put ∙ current_stays d.threads sound t (started entry argument) not_caller

  -- the caller's reply leaves every other thread
  others_stay : (x : Thread) (s : ℕ) → s ≢ caller d
      → thread_at (with_current Spawned x) s ≡ thread_at Spawned s
  others_stay x s other = current_others Spawned eight x s (λ same. other (same ∙ turn))

  spawned_means : argument_a d ≡ entry → argument_b d ≡ argument
      → IsSpawned t d (done t (with_spawned entry argument d))
  unfolding replied placed with_spawned with_current
  spawned_means a b =
      let x : Thread = answered 0 t Spawned.current in
      record {
        started =
            subst (λ (n : ℕ). IsStarted n (argument_b d) (thread_at (with_current Spawned x) t)) (sym a)
            (subst (λ (n : ℕ). IsStarted entry n (thread_at (with_current Spawned x) t)) (sym b)
            (subst (IsStarted entry argument)
            (sym (others_stay x t not_caller ∙ spawned-at d.threads entry argument t sound there))
            (started_means entry argument)));
        caller_goes_on =
            ap (λ (n : ℕ). thread_at (with_current Spawned x) n) (sym turn)
            ∙ current_at (with_current Spawned x) ∙ ap (answered 0 t) current;
        turn = turn;
        others = λ s other_t other.
            others_stay x s other ∙ spawned-others d.threads entry argument t s sound there other_t;
        reply = refl;
        rest = refl;
      }

pub spawn_means : SpawnLaw
spawn_means e d m t sound run is aligned v =
    subst (IsSpawned t d) (sym (spawn_is e d m is aligned t (vacant_is d t sound v)))
    (spawned_means d (argument_a d) (argument_b d) t sound run v refl refl)

pub no_thread : NoThreadLaw
no_thread e d m sound is aligned live = none_is e d m is aligned (none_vacant d sound live)

-- ---- YIELD

module _ (d : Dom) (sound : AreThreads d.threads) (run : MayRun d) where
  abbrev Past : Threads
  Past = record d.threads { current = answered 0 0 d.threads.current }

  past_eight : AreThreads Past
  unfolding with_current
  past_eight = current_eight d.threads sound (answered 0 0 d.threads.current)

  past_others : (t : ℕ) → t ≢ caller d → thread_at Past t ≡ thread_at d.threads t
  unfolding with_current
  past_others t other = current_others d.threads sound (answered 0 0 d.threads.current) t other

  all_stay : (t : ℕ) → thread_at (yielded Past) t ≡ thread_at Past t
  all_stay t = ap (λ (xs : List Thread). get_or xs t never) (yielded-all Past past_eight)

  ready_past : (t : ℕ) → is_ready (thread_at d.threads t).state ≡ true
      → is_ready (thread_at Past t).state ≡ true
  ready_past t is = elim (cases_eq t (caller d)) [
    | inl same ↦
        ap (λ (n : ℕ). is_ready (thread_at Past n).state) same ∙ ap (λ (x : Thread). is_ready x.state) (current_at Past) ∙ run
    | inr other ↦ ap (λ (x : Thread). is_ready x.state) (past_others t other) ∙ is
  ]

  yielded_means : IsYielded d (turned (done 0 d))
  unfolding turned replied placed with_current
  yielded_means = record {
    caller_goes_on = all_stay (caller d) ∙ current_at Past;
    others = λ t other. all_stay t ∙ past_others t other;
    ready =
        yielded-ready Past (caller d) past_eight (number-below Past past_eight)
        (ap (λ (x : Thread). is_ready x.state) (current_at Past) ∙ run);
    soonest = λ t below is. yielded-soonest Past t past_eight below (ready_past t is);
    reply = refl;
    rest = refl;
  }

pub yield_means : YieldLaw
yield_means e d m sound run is = subst (IsYielded d) (sym (yield_is e d m is)) (yielded_means d sound run)

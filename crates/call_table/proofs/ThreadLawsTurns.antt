-- Whose turn it is after each change of the threads, and which threads a change leaves.
use Rattle.std.proofs.Common.{◌≡◌, ◌≢◌, ◌∙◌, ap, sym, subst, refl, inl, inr, ℕ, Bool, true, false, true≢false, arith, List, Option, Some, None, get_or}
use Rattle.std.specs.Prelude.{if◌then◌else◌}
use Rattle.std.proofs.Math.Seq.{get_or-append_seam}
use Rattle.std.proofs.lemmas.Bool.{cases_eq}
use Rattle.thread_set.specs.declared.Thread.{Thread}
use Rattle.thread_set.specs.declared.ThreadState.{ThreadState}
use Rattle.thread_set.specs.declared.ThreadState.TheVariants.{Never, Ready, Waiting, Ended}
use Rattle.thread_set.specs.Threads.{Threads, AreThreads, all_of, current_number, never, thread_at, is_ready, is_live, waits_for, in_state, turned_to, yielded, given_way, with_current, with_thread, started, vacant, started_at, spawned, blocked, finished, waiter, resumed, resumed_at, woken, end_live, all_ended}
use Rattle.thread_set.proofs.Parts.{turned-set, turned-self, number-below}
use Rattle.thread_set.proofs.Turns.{yielded-ready, yielded-all, given-ready, given-all}
use Rattle.thread_set.proofs.Changes.{yielded-eight, given-eight, thread-eight, ended-eight, waiter-first, woken-others, vacant-ended, put-others, put-turn, ended-at}
use Rattle.call_table.specs.ThreadLaws.{HasTurn}

-- ---- states

pub ready_live : (s : ThreadState) → is_ready s ≡ true → is_live s ≡ true
ready_live Ready is = refl
ready_live Never is = absurd (cc is)
ready_live (Waiting line) is = absurd (cc is)
ready_live Ended is = absurd (cc is)

waits_live : (line : ℕ) (s : ThreadState) → waits_for line s ≡ true → is_live s ≡ true
waits_live line (Waiting l) is = refl
waits_live line Never is = absurd (cc is)
waits_live line Ready is = absurd (cc is)
waits_live line Ended is = absurd (cc is)

not_both : (line : ℕ) (s : ThreadState) → is_ready s ≡ true → waits_for line s ≡ true → ⊥
not_both line Ready is waits = true≢false (sym waits)
not_both line Never is waits = true≢false (sym is)
not_both line (Waiting l) is waits = true≢false (sym is)
not_both line Ended is waits = true≢false (sym is)

none_ready : (x : Thread) → is_ready (end_live x).state ≡ false
none_ready x = by_state (is_live x.state) refl
  where
    not_ready : (b : Bool) → is_ready x.state ≡ b → is_live x.state ≡ false → b ≡ false
    not_ready false is dead = refl
    not_ready true is dead = absurd (true≢false (sym (ready_live x.state is) ∙ dead))

    by_state : (b : Bool) → is_live x.state ≡ b → is_ready (if b then in_state Ended x else x).state ≡ false
    by_state true is = refl
    by_state false is = not_ready (is_ready x.state) refl is

-- ---- the current thread among all

module _ (ts : Threads) where
  pub current_at : thread_at ts (current_number ts) ≡ ts.current
  current_at = get_or-append_seam ts.before ts.current ts.after never

  -- a thread that waits isn't the current one, where that is ready
  pub waits_apart : (line t : ℕ) → is_ready ts.current.state ≡ true
      → waits_for line (thread_at ts t).state ≡ true → t ≢ current_number ts
  waits_apart line t run waits same =
      let here : thread_at ts t ≡ ts.current = ap (λ (k : ℕ). thread_at ts k) same ∙ current_at in
      not_both line ts.current.state run (sym (ap (λ (x : Thread). waits_for line x.state) here) ∙ waits)

  module _ (sound : AreThreads ts) where
    current_put : (x : Thread) → with_current ts x ≡ with_thread ts (current_number ts) x
    unfolding with_current with_thread turned_to
    current_put x =
        sym (turned-set (current_number ts) (all_of ts) x (omega (arith, sound.eight, number-below ts sound))
        ∙ ap (λ (s : Threads). with_current s x) (turned-self ts))

    pub current_eight : (x : Thread) → AreThreads (with_current ts x)
    current_eight x = subst AreThreads (sym (current_put x)) (thread-eight ts (current_number ts) x sound)

    pub current_others : (x : Thread) (t : ℕ) → t ≢ current_number ts
        → thread_at (with_current ts x) t ≡ thread_at ts t
    current_others x t other = ap (λ (s : Threads). thread_at s t) (current_put x) ∙ put-others ts (current_number ts) t x sound other

    -- one that is put elsewhere leaves the current one
    pub current_stays : (t : ℕ) (x : Thread) → t ≢ current_number ts
        → (with_thread ts t x).current ≡ ts.current
    current_stays t x other =
        sym (get_or-append_seam (with_thread ts t x).before (with_thread ts t x).current (with_thread ts t x).after never)
        ∙ ap (λ (k : ℕ). thread_at (with_thread ts t x) k) (put-turn ts t x sound)
        ∙ put-others ts t (current_number ts) x sound (λ same. other (sym same))
        ∙ current_at

    -- ---- whose turn it is

    pub yielded_turn : HasTurn (yielded ts)
    yielded_turn = record {
      eight = yielded-eight ts sound;
      ready = λ t below is.
          yielded-ready ts t sound below (ap (λ (xs : List Thread). is_ready (get_or xs t never).state) (sym (yielded-all ts sound)) ∙ is);
    }

    pub given_turn : HasTurn (given_way ts)
    given_turn = record {
      eight = given-eight ts sound;
      ready = λ t below is.
          given-ready ts t sound below (ap (λ (xs : List Thread). is_ready (get_or xs t never).state) (sym (given-all ts sound)) ∙ is);
    }

    pub ended_turn : HasTurn (all_ended ts)
    ended_turn = record {
      eight = ended-eight ts sound;
      ready = λ t below is.
          absurd (true≢false (sym is ∙ ap (λ (x : Thread). is_ready x.state) (ended-at ts t sound below) ∙ none_ready (thread_at ts t)));
    }

-- the current thread goes on
pub moved_turn : (ts : Threads) (x : Thread) → x.state ≡ ts.current.state → HasTurn ts
    → HasTurn (with_current ts x)
unfolding with_current
moved_turn ts x same h = record {
  eight = current_eight ts h.eight x;
  ready = λ t below is. elim (cases_eq t (current_number ts)) [
    | inl here ↦
        sym (ap (λ (y : Thread). is_ready y.state)
        (ap (λ (k : ℕ). thread_at (with_current ts x) k) here ∙ current_at (with_current ts x))) ∙ is
    | inr other ↦
        ap is_ready same
        ∙ h.ready t below (ap (λ (y : Thread). is_ready y.state) (sym (current_others ts h.eight x t other)) ∙ is)
  ];
}

pub blocked_turn : (ts : Threads) (line : ℕ) → AreThreads ts → HasTurn (blocked line ts)
unfolding blocked
blocked_turn ts line sound =
    given_turn (with_current ts (in_state (Waiting line) ts.current))
    (current_eight ts sound (in_state (Waiting line) ts.current))

pub finished_turn : (ts : Threads) → AreThreads ts → HasTurn (finished ts)
unfolding finished
finished_turn ts sound = given_turn (with_current ts (in_state Ended ts.current)) (current_eight ts sound (in_state Ended ts.current))

-- ---- the one that is woken

pub woken_turn : (ts : Threads) (line : ℕ) → HasTurn ts → HasTurn (woken line ts)
unfolding woken
woken_turn ts line h = by_waiter (waiter line ts)
  where
    by_waiter : (o : Option ℕ) → HasTurn (resumed_at ts o)
    by_waiter None = h
    by_waiter (Some w) = given_turn (with_thread ts w (resumed (thread_at ts w))) (thread-eight ts w (resumed (thread_at ts w)) h.eight)

pub waiter_waits : (ts : Threads) (line w : ℕ) → waiter line ts ≡ Some w
    → waits_for line (thread_at ts w).state ≡ true
waiter_waits ts line w is = (waiter-first ts line w is).passes

-- a current thread that is ready stays ready
pub woken_ready : (ts : Threads) (line w : ℕ) → HasTurn ts → is_ready ts.current.state ≡ true
    → waiter line ts ≡ Some w
    → is_ready (woken line ts).current.state ≡ true
woken_ready ts line w h run is =
    let apart : w ≢ current_number ts = waits_apart ts line w run (waiter_waits ts line w is) in
    (woken_turn ts line h).ready (current_number ts) (number-below ts h.eight)
    (ap (λ (x : Thread). is_ready x.state)
    (woken-others ts line w (current_number ts) h.eight is (λ same. apart (sym same)) ∙ current_at ts) ∙ run)

-- ---- the one that is started

module _ (ts : Threads) (entry argument v : ℕ) (sound : AreThreads ts)
    (run : is_ready ts.current.state ≡ true) (is : vacant ts ≡ Some v) where
  pub spawned_ready : is_ready (spawned ts entry argument).current.state ≡ true
  unfolding spawned
  spawned_ready =
      let apart : v ≢ current_number ts =
      λ same. true≢false (sym (ready_live ts.current.state run)
      ∙ ap (λ (x : Thread). is_live x.state) (sym (ap (λ (k : ℕ). thread_at ts k) same ∙ current_at ts)) ∙ vacant-ended ts v is) in
      ap (λ (o : Option ℕ). is_ready (started_at ts entry argument o).current.state) is
      ∙ ap (λ (x : Thread). is_ready x.state) (current_stays ts sound v (started entry argument) apart) ∙ run

  -- a thread that waits isn't the one that is started
  pub waits_started : (line t : ℕ) → waits_for line (thread_at ts t).state ≡ true → t ≢ v
  waits_started line t waits same =
      true≢false (sym (waits_live line (thread_at ts t).state waits)
      ∙ ap (λ (k : ℕ). is_live (thread_at ts k).state) same ∙ vacant-ended ts v is)

-- Which threads a change reaches.
use Rattle.std.proofs.Common.{arith, ◌≡◌, ◌≢◌, ◌∙◌, sym, subst, ap, refl, ℕ, suc, ◌+◌, ◌-◌, ◌<◌, ◌≤◌, ⊎_elim, Bool, true, false, true≢false, List, ◌∷◌, ◌++◌, length, map, set, get_or, get_or-set_same, get_or-set_other, length-append}
use Rattle.std.specs.Prelude.{All, Option, Some, None, not}
use Rattle.std.proofs.Math.ListN.{get_or-append, length-set}
use Rattle.std.proofs.Math.Seq.{get_or-append_seam}
use Rattle.std.proofs.lemmas.List.{get_or-append-add, get_or_default, get_or-map, length-map, map-append}
use Rattle.std.proofs.lemmas.Bool.{cases_lt}
use Rattle.thread_set.specs.declared.Thread.{Thread}
use Rattle.thread_set.specs.declared.ThreadState.TheVariants.{Waiting, Ended}
use Rattle.thread_set.specs.Threads.{Threads, AreThreads, all_of, current_number, never, thread_at, is_live, waits_for, in_state, yielded, given_way, with_current, with_thread, started, threads_at_entry, vacant, started_at, spawned, blocked, finished, waiter, resumed, resumed_at, woken, end_live, all_ended}
use Rattle.thread_set.proofs.Parts.{all-turned, number-turned, number-below}
use Rattle.thread_set.proofs.Places.{IsFirst, IsNowhere, position-nowhere, first-Some, nowhere-None}
use Rattle.thread_set.proofs.Turns.{yielded-all, given-all}

-- ---- there are eight

pub yielded-eight : (ts : Threads) → AreThreads ts → AreThreads (yielded ts)
yielded-eight ts sound = record { eight = ap length (yielded-all ts sound) ∙ sound.eight }

pub given-eight : (ts : Threads) → AreThreads ts → AreThreads (given_way ts)
given-eight ts sound = record { eight = ap length (given-all ts sound) ∙ sound.eight }

current-eight : (ts : Threads) (x : Thread) → AreThreads ts → AreThreads (with_current ts x)
unfolding with_current
current-eight ts x sound =
    record { eight = length-append ts.before (x ∷ ts.after) ∙ sym (length-append ts.before (ts.current ∷ ts.after)) ∙ sound.eight }

pub thread-all : (ts : Threads) (t : ℕ) (x : Thread) → AreThreads ts
    → all_of (with_thread ts t x) ≡ set (all_of ts) t x
unfolding with_thread
thread-all ts t x sound =
    all-turned (current_number ts) (set (all_of ts) t x) (omega (arith, length-set (all_of ts) t x, sound.eight, number-below ts sound))

pub thread-eight : (ts : Threads) (t : ℕ) (x : Thread) → AreThreads ts → AreThreads (with_thread ts t x)
thread-eight ts t x sound = record { eight = ap length (thread-all ts t x sound) ∙ length-set (all_of ts) t x ∙ sound.eight }

pub opening-eight : (entry : ℕ) → AreThreads (threads_at_entry entry)
unfolding threads_at_entry
opening-eight entry = record { eight = refl }

started-eight : (ts : Threads) (entry argument : ℕ) (o : Option ℕ) → AreThreads ts
    → AreThreads (started_at ts entry argument o)
started-eight ts entry argument None sound = sound
started-eight ts entry argument (Some t) sound = thread-eight ts t (started entry argument) sound

pub spawned-eight : (ts : Threads) (entry argument : ℕ) → AreThreads ts
    → AreThreads (spawned ts entry argument)
unfolding spawned
spawned-eight ts entry argument sound = started-eight ts entry argument (vacant ts) sound

pub blocked-eight : (ts : Threads) (line : ℕ) → AreThreads ts → AreThreads (blocked line ts)
unfolding blocked
blocked-eight ts line sound = given-eight _ (current-eight ts (in_state (Waiting line) ts.current) sound)

pub finished-eight : (ts : Threads) → AreThreads ts → AreThreads (finished ts)
unfolding finished
finished-eight ts sound = given-eight _ (current-eight ts (in_state Ended ts.current) sound)

resumed-eight : (ts : Threads) (o : Option ℕ) → AreThreads ts → AreThreads (resumed_at ts o)
resumed-eight ts None sound = sound
resumed-eight ts (Some t) sound = given-eight _ (thread-eight ts t (resumed (thread_at ts t)) sound)

pub woken-eight : (ts : Threads) (line : ℕ) → AreThreads ts → AreThreads (woken line ts)
unfolding woken
woken-eight ts line sound = resumed-eight ts (waiter line ts) sound

pub ended-eight : (ts : Threads) → AreThreads ts → AreThreads (all_ended ts)
unfolding all_ended
ended-eight ts sound =
    record {
      eight = omega (
        arith,
        sound.eight,
        length-append ts.before (ts.current ∷ ts.after),
        length-append (map end_live ts.before) (end_live ts.current ∷ map end_live ts.after),
        length-map ts.before end_live,
        length-map ts.after end_live,
      );
    }

-- ---- the current one

given-same : (ts : Threads) (t : ℕ) → AreThreads ts → thread_at (given_way ts) t ≡ thread_at ts t
given-same ts t sound = ap (λ (xs : List Thread). get_or xs t never) (given-all ts sound)

current-at : (ts : Threads) (x : Thread) → AreThreads ts
    → thread_at (given_way (with_current ts x)) (current_number ts) ≡ x
unfolding with_current
current-at ts x sound =
    given-same (with_current ts x) (current_number ts) (current-eight ts x sound)
    ∙ get_or-append_seam ts.before x ts.after never

beside : (xs ys : List Thread) (x y : Thread) (t : ℕ) → t ≢ length xs
    → get_or (xs ++ x ∷ ys) t never ≡ get_or (xs ++ y ∷ ys) t never
beside xs ys x y t other =
    ⊎_elim
    (λ (below : t < length xs). get_or-append xs (x ∷ ys) never t below ∙ sym (get_or-append xs (y ∷ ys) never t below))
    (λ (above : length xs ≤ t).
    let place : t ≡ length xs + suc (t - length xs - 1) = omega (arith, other) in
    ap (λ (k : ℕ). get_or (xs ++ x ∷ ys) k never) place ∙ get_or-append-add xs (x ∷ ys) (suc (t - length xs - 1)) never
    ∙ sym (ap (λ (k : ℕ). get_or (xs ++ y ∷ ys) k never) place ∙ get_or-append-add xs (y ∷ ys) (suc (t - length xs - 1)) never))
    (cases_lt t (length xs))

current-others : (ts : Threads) (x : Thread) (t : ℕ) → AreThreads ts → t ≢ current_number ts
    → thread_at (given_way (with_current ts x)) t ≡ thread_at ts t
unfolding with_current
current-others ts x t sound other =
    given-same (with_current ts x) t (current-eight ts x sound)
    ∙ beside ts.before ts.after x ts.current t other

pub blocked-at : (ts : Threads) (line : ℕ) → AreThreads ts
    → thread_at (blocked line ts) (current_number ts) ≡ in_state (Waiting line) ts.current
unfolding blocked
blocked-at ts line sound = current-at ts (in_state (Waiting line) ts.current) sound

pub blocked-others : (ts : Threads) (line t : ℕ) → AreThreads ts → t ≢ current_number ts
    → thread_at (blocked line ts) t ≡ thread_at ts t
unfolding blocked
blocked-others ts line t sound other = current-others ts (in_state (Waiting line) ts.current) t sound other

pub finished-at : (ts : Threads) → AreThreads ts
    → thread_at (finished ts) (current_number ts) ≡ in_state Ended ts.current
unfolding finished
finished-at ts sound = current-at ts (in_state Ended ts.current) sound

pub finished-others : (ts : Threads) (t : ℕ) → AreThreads ts → t ≢ current_number ts
    → thread_at (finished ts) t ≡ thread_at ts t
unfolding finished
finished-others ts t sound other = current-others ts (in_state Ended ts.current) t sound other

-- ---- the one that a line wakes

waits : ℕ → Thread → Bool
waits line x = waits_for line x.state

pub waiter-first : (ts : Threads) (line w : ℕ) → waiter line ts ≡ Some w
    → IsFirst (λ x. waits_for line x.state) (all_of ts) never w
unfolding waiter
waiter-first ts line w e = first-Some (λ x. waits_for line x.state) (all_of ts) never w e

pub waiter-least : (ts : Threads) (line w t : ℕ) → waiter line ts ≡ Some w
    → waits_for line (thread_at ts t).state ≡ true → w ≤ t
waiter-least ts line w t e is =
    ⊎_elim
    (λ (less : t < w). absurd (true≢false (sym is ∙ (waiter-first ts line w e).before t less)))
    (λ (more : w ≤ t). more)
    (cases_lt t w)

woken-is : (ts : Threads) (line w t : ℕ) → AreThreads ts → waiter line ts ≡ Some w
    → thread_at (woken line ts) t ≡ get_or (set (all_of ts) w (resumed (thread_at ts w))) t never
unfolding woken
woken-is ts line w t sound e =
    ap (λ (o : Option ℕ). thread_at (resumed_at ts o) t) e
    ∙ given-same (with_thread ts w (resumed (thread_at ts w))) t (thread-eight ts w (resumed (thread_at ts w)) sound)
    ∙ ap (λ (xs : List Thread). get_or xs t never) (thread-all ts w (resumed (thread_at ts w)) sound)

pub woken-at : (ts : Threads) (line w : ℕ) → AreThreads ts → waiter line ts ≡ Some w
    → thread_at (woken line ts) w ≡ resumed (thread_at ts w)
woken-at ts line w sound e =
    woken-is ts line w w sound e ∙ get_or-set_same (all_of ts) w (resumed (thread_at ts w)) never (waiter-first ts line w e).within

pub woken-others : (ts : Threads) (line w t : ℕ) → AreThreads ts → waiter line ts ≡ Some w → t ≢ w
    → thread_at (woken line ts) t ≡ thread_at ts t
woken-others ts line w t sound e other =
    woken-is ts line w t sound e ∙ get_or-set_other (all_of ts) w t (resumed (thread_at ts w)) never other

pub woken-none : (ts : Threads) (line : ℕ) → AreThreads ts
    → ((t : ℕ) → t < 8 → waits_for line (thread_at ts t).state ≡ false) → woken line ts ≡ ts
unfolding woken waiter
woken-none ts line sound none =
    ap (resumed_at ts) (position-nowhere (λ x. waits_for line x.state) (all_of ts) never
    (record { fails = λ k within. none k (subst (λ (n : ℕ). k < n) sound.eight within) }))

-- ---- the one that is started

pub vacant-below : (ts : Threads) (t : ℕ) → AreThreads ts → Some t ≡ vacant ts → t < 8
unfolding vacant
vacant-below ts t sound e =
    subst (λ (n : ℕ). t < n) sound.eight (first-Some (λ x. not (is_live x.state)) (all_of ts) never t (sym e)).within

pub vacant-Some : (ts : Threads) (t : ℕ) → Some t ≡ vacant ts → All (λ x. is_live x.state ≡ true) (all_of ts)
    → ⊥
unfolding vacant
vacant-Some ts t e all =
    let first : IsFirst (λ x. not (is_live x.state)) (all_of ts) never t =
    first-Some (λ x. not (is_live x.state)) (all_of ts) never t (sym e) in
    true≢false (sym first.passes ∙ ap not (all t never first.within))

pub vacant-None : (ts : Threads) → None ≡ vacant ts → All (λ x. is_live x.state ≡ true) (all_of ts)
unfolding vacant
vacant-None ts e = λ k d within.
    let nowhere : IsNowhere (λ x. not (is_live x.state)) (all_of ts) never =
    nowhere-None (λ x. not (is_live x.state)) (all_of ts) never (sym e) in
    ap (λ (x : Thread). is_live x.state) (get_or_default (all_of ts) k d never within)
    ∙ not-false (is_live (get_or (all_of ts) k never).state) (nowhere.fails k within)
  where
    not-false : (b : Bool) → not b ≡ false → b ≡ true
    not-false true q = refl
    not-false false q = absurd (true≢false q)

pub waiter-below : (ts : Threads) (line t : ℕ) → AreThreads ts → Some t ≡ waiter line ts → t < 8
waiter-below ts line t sound e = subst (λ (n : ℕ). t < n) sound.eight (waiter-first ts line t (sym e)).within

vacant-first : (ts : Threads) (v : ℕ) → vacant ts ≡ Some v
    → IsFirst (λ x. not (is_live x.state)) (all_of ts) never v
unfolding vacant
vacant-first ts v e = first-Some (λ x. not (is_live x.state)) (all_of ts) never v e

not-true : (b : Bool) → not b ≡ true → b ≡ false
not-true false q = refl
not-true true q = absurd (true≢false (sym q))

pub vacant-ended : (ts : Threads) (v : ℕ) → vacant ts ≡ Some v → is_live (thread_at ts v).state ≡ false
vacant-ended ts v e = not-true (is_live (thread_at ts v).state) (vacant-first ts v e).passes

pub vacant-least : (ts : Threads) (v t : ℕ) → vacant ts ≡ Some v → is_live (thread_at ts t).state ≡ false
    → v ≤ t
vacant-least ts v t e is =
    ⊎_elim
    (λ (less : t < v). absurd (true≢false (ap not (sym is) ∙ (vacant-first ts v e).before t less)))
    (λ (more : v ≤ t). more)
    (cases_lt t v)

spawned-is : (ts : Threads) (entry argument v t : ℕ) → AreThreads ts → vacant ts ≡ Some v
    → thread_at (spawned ts entry argument) t ≡ get_or (set (all_of ts) v (started entry argument)) t never
unfolding spawned
spawned-is ts entry argument v t sound e =
    ap (λ (o : Option ℕ). thread_at (started_at ts entry argument o) t) e
    ∙ ap (λ (xs : List Thread). get_or xs t never) (thread-all ts v (started entry argument) sound)

pub spawned-at : (ts : Threads) (entry argument v : ℕ) → AreThreads ts → vacant ts ≡ Some v
    → thread_at (spawned ts entry argument) v ≡ started entry argument
spawned-at ts entry argument v sound e =
    spawned-is ts entry argument v v sound e ∙ get_or-set_same (all_of ts) v (started entry argument) never (vacant-first ts v e).within

pub spawned-others : (ts : Threads) (entry argument v t : ℕ) → AreThreads ts → vacant ts ≡ Some v → t ≢ v
    → thread_at (spawned ts entry argument) t ≡ thread_at ts t
spawned-others ts entry argument v t sound e other =
    spawned-is ts entry argument v t sound e ∙ get_or-set_other (all_of ts) v t (started entry argument) never other

-- ---- one that is put, and all that are ended

pub put-at : (ts : Threads) (t : ℕ) (x : Thread) → AreThreads ts → t < 8
    → thread_at (with_thread ts t x) t ≡ x
put-at ts t x sound below =
    ap (λ (xs : List Thread). get_or xs t never) (thread-all ts t x sound)
    ∙ get_or-set_same (all_of ts) t x never (omega (arith, sound.eight))

pub put-others : (ts : Threads) (t other : ℕ) (x : Thread) → AreThreads ts → other ≢ t
    → thread_at (with_thread ts t x) other ≡ thread_at ts other
put-others ts t other x sound apart =
    ap (λ (xs : List Thread). get_or xs other never) (thread-all ts t x sound) ∙ get_or-set_other (all_of ts) t other x never apart

pub put-turn : (ts : Threads) (t : ℕ) (x : Thread) → AreThreads ts
    → current_number (with_thread ts t x) ≡ current_number ts
unfolding with_thread
put-turn ts t x sound =
    number-turned (current_number ts) (set (all_of ts) t x) (omega (arith, length-set (all_of ts) t x, sound.eight, number-below ts sound))

pub ended-at : (ts : Threads) (t : ℕ) → AreThreads ts → t < 8
    → thread_at (all_ended ts) t ≡ end_live (thread_at ts t)
unfolding all_ended
ended-at ts t sound below =
    ap (λ (xs : List Thread). get_or xs t never) (sym (map-append end_live ts.before (ts.current ∷ ts.after)))
    ∙ get_or-map end_live (all_of ts) t never never (omega (arith, sound.eight))

pub ended-turn : (ts : Threads) → current_number (all_ended ts) ≡ current_number ts
unfolding all_ended
ended-turn ts = length-map ts.before end_live

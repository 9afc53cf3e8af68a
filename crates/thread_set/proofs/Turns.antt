-- Whose turn comes next.
use Rattle.std.proofs.Common.{arith, ◌≡◌, ◌∙◌, sym, subst, ap, refl, ℕ, suc, ◌+◌, ◌-◌, ◌%◌, ◌<◌, ◌≤◌, ⊎_elim, Bool, true, false, true≢false, List, [], ◌∷◌, ◌++◌, length, take, drop, set, get_or, length-append, length-take, length-drop, append_assoc}
use Rattle.std.specs.Prelude.{Option, Some, None, position, option_map, if◌then◌else◌}
use Rattle.std.proofs.Math.ListN.{get_or-append}
use Rattle.std.proofs.Math.Seq.{get_or-append_seam}
use Rattle.std.proofs.lemmas.List.{get_or-append-add, get_or_default}
use Rattle.std.proofs.lemmas.Bool.{cases_lt}
use Rattle.thread_set.specs.declared.Thread.{Thread}
use Rattle.thread_set.specs.Threads.{Threads, AreThreads, all_of, current_number, never, thread_at, is_ready, between, turned_to, in_turn, turned_by, yielded, given_way}
use Rattle.thread_set.proofs.Parts.{seen, all-seen, number-seen, all-turned, number-turned, current-turned, turned-self, number-below}
use Rattle.thread_set.proofs.Places.{IsFirst, IsNowhere, position-first, position-nowhere, places, first-Some, nowhere-None, first-push, nowhere-push}

abbrev ready : Thread → Bool
ready x = is_ready x.state

-- the number of the thread so many after number n
abbrev turn : ℕ → ℕ → ℕ
turn n k = (n + 1 + k) % 8

length-in_turn : (ts : Threads) → AreThreads ts → length (in_turn ts) ≡ 8
length-in_turn ts sound =
    omega (
      arith,
      sound.eight,
      length-append ts.before (ts.current ∷ ts.after),
      length-append ts.after
          (ts.before ++ ts.current ∷ []),
      length-append ts.before (ts.current ∷ []),
    )

in_turn-at : (ts : Threads) (k : ℕ) → AreThreads ts → k < 8
    → get_or (in_turn ts) k never ≡ thread_at ts (turn (current_number ts) k)
in_turn-at ts k sound below = ⊎_elim after_it up_to_it (cases_lt k (length ts.after))
  where
    all : List Thread
    all = all_of ts

    total : length ts.before + suc (length ts.after) ≡ 8
    total = sym (length-append ts.before (ts.current ∷ ts.after)) ∙ sound.eight

    after_it : k < length ts.after
        → get_or (in_turn ts) k never ≡ get_or (all_of ts) (turn (current_number ts) k) never
    after_it less =
        let place : turn (length ts.before) k ≡ length ts.before + suc k = omega (arith, total) in
        get_or-append ts.after (ts.before ++ ts.current ∷ []) never k less
        ∙ sym (ap (λ (i : ℕ). get_or (all_of ts) i never) place ∙ get_or-append-add ts.before (ts.current ∷ ts.after) (suc k) never)

    at_most : (j : ℕ) → k ≡ length ts.after + j
        → get_or (ts.before ++ ts.current ∷ []) j never
        ≡ get_or (all_of ts) (turn (current_number ts) k) never
    at_most j is = ⊎_elim
        (λ (less : j < length ts.before).
        let place : turn (length ts.before) k ≡ j = omega (arith, total) in
        get_or-append ts.before (ts.current ∷ []) never j less
        ∙ sym (ap (λ (i : ℕ). get_or (all_of ts) i never) place ∙ get_or-append ts.before (ts.current ∷ ts.after) never j less))
        (λ (more : length ts.before ≤ j).
        let last : j ≡ length ts.before = omega (arith, total) in
        let place : turn (length ts.before) k ≡ length ts.before = omega (arith, total) in
        ap (λ (i : ℕ). get_or (ts.before ++ ts.current ∷ []) i never) last ∙ get_or-append_seam ts.before ts.current [] never
        ∙ sym (ap (λ (i : ℕ). get_or (all_of ts) i never) place ∙ get_or-append_seam ts.before ts.current ts.after never))
        (cases_lt j (length ts.before))

    up_to_it : length ts.after ≤ k
        → get_or (in_turn ts) k never ≡ get_or (all_of ts) (turn (current_number ts) k) never
    up_to_it more =
        let is : k ≡ length ts.after + (k - length ts.after) = omega arith in
        ap (λ (i : ℕ). get_or (in_turn ts) i never) is
        ∙ get_or-append-add ts.after (ts.before ++ ts.current ∷ []) (k - length ts.after) never
        ∙ at_most (k - length ts.after) is

-- ---- the next ready one

yields-first : (ts : Threads) (i : ℕ) → IsFirst ready (in_turn ts) never i
    → yielded ts ≡ turned_to (turn (current_number ts) i) (all_of ts)
unfolding yielded
yields-first ts i first = ap (turned_by ts) (position-first ready (in_turn ts) never i first)

yields-nowhere : (ts : Threads) → IsNowhere ready (in_turn ts) never → yielded ts ≡ ts
unfolding yielded
yields-nowhere ts nowhere = ap (turned_by ts) (position-nowhere ready (in_turn ts) never nowhere)

-- as it is seen from a thread that is ready
reached : (ts : Threads) (t : ℕ) → AreThreads ts → t < 8 → ready (thread_at ts t) ≡ true
    → ready (get_or (in_turn ts) (between (current_number ts) t) never) ≡ true
reached ts t sound below is =
    let n : current_number ts < 8 = number-below ts sound in
    let place : turn (current_number ts) (between (current_number ts) t) ≡ t = omega arith in
    ap ready (in_turn-at ts (between (current_number ts) t) sound (omega arith) ∙ ap (λ (k : ℕ). thread_at ts k) place) ∙ is

pub yielded-ready : (ts : Threads) (t : ℕ) → AreThreads ts → t < 8 → ready (thread_at ts t) ≡ true
    → is_ready (yielded ts).current.state ≡ true
yielded-ready ts t sound below is =
    ⊎_elim
    (λ (some : (i : ℕ) × IsFirst ready (in_turn ts) never i).
    let first : IsFirst ready (in_turn ts) never some.0 = some.1 in
    let inside : some.0 < 8 = subst (λ (k : ℕ). some.0 < k) (length-in_turn ts sound) first.within in
    ap (λ (s : Threads). ready s.current) (yields-first ts some.0 first)
    ∙ ap ready (current-turned (turn (current_number ts) some.0) (all_of ts) ∙ sym (in_turn-at ts some.0 sound inside)) ∙ first.passes)
    (λ (none : IsNowhere ready (in_turn ts) never).
    let n : current_number ts < 8 = number-below ts sound in
    absurd (true≢false (sym (reached ts t sound below is)
    ∙ none.fails (between (current_number ts) t) (omega (arith, length-in_turn ts sound)))))
    (places ready (in_turn ts) never)

pub yielded-soonest : (ts : Threads) (t : ℕ) → AreThreads ts → t < 8 → ready (thread_at ts t) ≡ true
    → between (current_number ts) (current_number (yielded ts)) ≤ between (current_number ts) t
yielded-soonest ts t sound below is =
    ⊎_elim
    (λ (some : (i : ℕ) × IsFirst ready (in_turn ts) never i).
    let i : ℕ = some.0 in
    let first : IsFirst ready (in_turn ts) never some.0 = some.1 in
    let inside : some.0 < 8 = subst (λ (k : ℕ). some.0 < k) (length-in_turn ts sound) first.within in
    let n : current_number ts < 8 = number-below ts sound in
    let number : current_number (yielded ts) ≡ turn (current_number ts) some.0 =
    ap (λ (s : Threads). current_number s) (yields-first ts some.0 first)
    ∙ number-turned (turn (current_number ts) some.0) (all_of ts) (omega (arith, sound.eight)) in
    let distance : between (current_number ts) (current_number (yielded ts)) ≡ some.0 = omega (arith, number) in
    ⊎_elim
    (λ (sooner : between (current_number ts) t < some.0).
    absurd (true≢false (sym (reached ts t sound below is) ∙ first.before (between (current_number ts) t) sooner)))
    (λ (later : some.0 ≤ between (current_number ts) t).
    subst (λ (k : ℕ). k ≤ between (current_number ts) t) (sym distance) later)
    (cases_lt (between (current_number ts) t) some.0))
    (λ (none : IsNowhere ready (in_turn ts) never).
    let n : current_number ts < 8 = number-below ts sound in
    absurd (true≢false (sym (reached ts t sound below is)
    ∙ none.fails (between (current_number ts) t) (omega (arith, length-in_turn ts sound)))))
    (places ready (in_turn ts) never)

pub yielded-none : (ts : Threads) → AreThreads ts → ((t : ℕ) → t < 8 → ready (thread_at ts t) ≡ false)
    → yielded ts ≡ ts
yielded-none ts sound none = yields-nowhere ts (record { fails = fails })
  where
    fails : (k : ℕ) → k < length (in_turn ts) → ready (get_or (in_turn ts) k never) ≡ false
    fails k within =
        let below : k < 8 = subst (λ (n : ℕ). k < n) (length-in_turn ts sound) within in
        ap ready (in_turn-at ts k sound below) ∙ none (turn (current_number ts) k) (omega arith)

pub yielded-all : (ts : Threads) → AreThreads ts → all_of (yielded ts) ≡ all_of ts
yielded-all ts sound =
    ⊎_elim
    (λ (some : (i : ℕ) × IsFirst ready (in_turn ts) never i).
    ap (λ (s : Threads). all_of s) (yields-first ts some.0 some.1)
    ∙ all-turned (turn (current_number ts) some.0) (all_of ts) (omega (arith, sound.eight)))
    (λ (none : IsNowhere ready (in_turn ts) never). ap (λ (s : Threads). all_of s) (yields-nowhere ts none))
    (places ready (in_turn ts) never)

-- ---- giving way

given-by : (ts : Threads) (b : Bool) → (P : Threads → Type 0) → (is_ready ts.current.state ≡ b)
    → (is_ready ts.current.state ≡ true → P ts) → P (yielded ts) → P (if b then ts else yielded ts)
given-by ts true P is kept passed = kept is
given-by ts false P is kept passed = passed

given-cases : (ts : Threads) (P : Threads → Type 0) → (is_ready ts.current.state ≡ true → P ts)
    → P (yielded ts) → P (given_way ts)
unfolding given_way
given-cases ts P kept passed = given-by ts (is_ready ts.current.state) P refl kept passed

pub given-ready : (ts : Threads) (t : ℕ) → AreThreads ts → t < 8 → ready (thread_at ts t) ≡ true
    → is_ready (given_way ts).current.state ≡ true
given-ready ts t sound below is =
    given-cases ts (λ (s : Threads). is_ready s.current.state ≡ true) (λ e. e) (yielded-ready ts t sound below is)

pub given-all : (ts : Threads) → AreThreads ts → all_of (given_way ts) ≡ all_of ts
given-all ts sound = given-cases ts (λ (s : Threads). all_of s ≡ all_of ts) (λ e. refl) (yielded-all ts sound)

-- ---- as the code finds it: the next ready one but the current, and the current one's place written

abbrev found : ℕ → List Thread → Option ℕ
found n xs = option_map (turn n) (position ready (drop (n + 1) xs ++ take n xs))

apart : (n : ℕ) (xs : List Thread) (x : Thread)
    → in_turn (seen n xs x) ≡ (drop (n + 1) xs ++ take n xs) ++ x ∷ []
apart n xs x = sym (append_assoc (drop (n + 1) xs) (take n xs) (x ∷ []))

pub turn-Some : (n : ℕ) (xs : List Thread) (x : Thread) (t : ℕ) → n < 8 → length xs ≡ 8
    → Some t ≡ found n xs → (t < 8) × (yielded (seen n xs x) ≡ turned_to t (set xs n x))
turn-Some n xs x t below eight e = by_place (position ready (drop (n + 1) xs ++ take n xs)) refl e
  where
    by_place : (o : Option ℕ) → position ready (drop (n + 1) xs ++ take n xs) ≡ o
        → Some t ≡ option_map (turn n) o
        → (t < 8) × (yielded (seen n xs x) ≡ turned_to t (set xs n x))
    by_place None is same = absurd (cc)
    by_place (Some i) is same =
        let number : t ≡ turn n i = cc in
        let first : IsFirst ready (drop (n + 1) xs ++ take n xs) never i = first-Some ready (drop (n + 1) xs ++ take n xs) never i is in
        let whole : IsFirst ready (in_turn (seen n xs x)) never i =
        subst (λ (ys : List Thread). IsFirst ready ys never i) (sym (apart n xs x))
        (first-push ready (drop (n + 1) xs ++ take n xs) x never i first) in
        let here : current_number (seen n xs x) ≡ n = number-seen n xs x (omega arith) in (
          omega (arith, number),
          yields-first (seen n xs x) i whole ∙ ap (λ (k : ℕ). turned_to (turn k i) (all_of (seen n xs x))) here
              ∙ ap (λ (k : ℕ). turned_to k (all_of (seen n xs x))) (sym number) ∙ ap (turned_to t) (all-seen n xs x (omega arith)),
        )

pub turn-None : (n : ℕ) (xs : List Thread) (x : Thread) → n < 8 → length xs ≡ 8
    → None ≡ found n xs → yielded (seen n xs x) ≡ seen n xs x
turn-None n xs x below eight e = by_place (position ready (drop (n + 1) xs ++ take n xs)) refl e
  where
    by_place : (o : Option ℕ) → position ready (drop (n + 1) xs ++ take n xs) ≡ o
        → None ≡ option_map (turn n) o
        → yielded (seen n xs x) ≡ seen n xs x
    by_place (Some i) is same = absurd (cc)
    by_place None is same =
        let nowhere : IsNowhere ready (drop (n + 1) xs ++ take n xs) never = nowhere-None ready (drop (n + 1) xs ++ take n xs) never is in
        let seven : length (drop (n + 1) xs ++ take n xs) ≡ 7 =
        omega (arith, length-append (drop (n + 1) xs) (take n xs), length-drop (n + 1) xs, length-take n xs) in
        let here : current_number (seen n xs x) ≡ n = number-seen n xs x (omega arith) in
        let again : turn (current_number (seen n xs x)) (length (drop (n + 1) xs ++ take n xs))
        ≡ current_number (seen n xs x) =
        omega arith in
        ⊎_elim
        (λ (last : IsFirst ready ((drop (n + 1) xs ++ take n xs) ++ x ∷ []) never (length (drop (n + 1) xs ++ take n xs))).
        yields-first (seen n xs x) (length (drop (n + 1) xs ++ take n xs))
        (subst (λ (ys : List Thread). IsFirst ready ys never (length (drop (n + 1) xs ++ take n xs))) (sym (apart n xs x)) last)
        ∙ ap (λ (k : ℕ). turned_to k (all_of (seen n xs x))) again ∙ turned-self (seen n xs x))
        (λ (none : IsNowhere ready ((drop (n + 1) xs ++ take n xs) ++ x ∷ []) never).
        yields-nowhere (seen n xs x) (subst (λ (ys : List Thread). IsNowhere ready ys never) (sym (apart n xs x)) none))
        (nowhere-push ready (drop (n + 1) xs ++ take n xs) x never nowhere)

-- and what is read there
pub read-turned : (t : ℕ) (xs : List Thread) (d : Thread) → t < length xs
    → turned_to t xs ≡ seen t xs (get_or xs t d)
unfolding turned_to
read-turned t xs d within = ap (λ (y : Thread). seen t xs y) (get_or_default xs t never d within)

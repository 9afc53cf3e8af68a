-- One set: where its lines stand before and after a write of one way.
use Rattle.std.proofs.Common.{◌≡◌, ◌≢◌, ◌⊎◌, ℕ, ◌<◌, Bool, true, false, cond, eqb, ltb, List, length, get_or, set, Option, Some, None, option_map, is_some, refl, ap, sym, subst, ◌∙◌, arith, inl, inr, unwrap_or, get_or-set_same, get_or-set_other}
use Rattle.std.proofs.Math.ListN.{length-set}
use Rattle.std.proofs.lemmas.List.{get_or_past}
use Rattle.std.proofs.lemmas.List.Quantifiers.{position-Some}
use Rattle.std.proofs.lemmas.List.Folds.{position_or_len-set}
use Rattle.std.proofs.lemmas.List.Sums.{position_or_len_is, fails_before_first}
use Rattle.std.proofs.lemmas.Bool.{cases_eq, cases_lt, false≢true, false_from_ne_true}
use Rattle.std.proofs.lemmas.Bool.Decides.{nat_tests}
use Rattle.std.specs.Prelude.{◌||◌}
use Rattle.std.specs.List.{position_or_len}
use Rattle.set_cache.specs.declared.KeptLine.{KeptLine}
use Rattle.set_cache.specs.declared.Touch.{Touch}
use Rattle.set_cache.specs.Cache.{is_line, is_dirty, way_of}
use Rattle.set_cache.specs.Contents.{IsOnce}
use Rattle.set_cache.specs.Lines.{MovesLines, MovesMarks, mark_of}

-- a line in a way
abbrev pub line_of : ℕ → Bool → Option KeptLine
line_of number dirty = Some (record { number = number; dirty = dirty })

-- a way keeps one line
pub one_line : (a b : ℕ) (h : Option KeptLine) → is_line a h ≡ true → is_line b h ≡ true → a ≡ b
one_line a b None x y = absurd (false≢true x)
one_line a b (Some line) x y = grind (arith, nat_tests)

other_line : (a b : ℕ) (h : Option KeptLine) → is_line a h ≡ true → b ≢ a → is_line b h ≡ false
other_line a b h x n = false_from_ne_true (is_line b h) (λ y. n (one_line b a h y x))

not_victim : (n : ℕ) (h : Option KeptLine) → option_map (λ (line : KeptLine). line.number) h ≢ Some n
    → is_line n h ≡ false
not_victim n None other = refl
not_victim n (Some line) other =
    false_from_ne_true (eqb line.number n)
    (λ t. let e : line.number ≡ n = grind (arith, nat_tests) in other (ap Some e))

victim_is_line : (n : ℕ) (h : Option KeptLine) → option_map (λ (line : KeptLine). line.number) h ≡ Some n
    → is_line n h ≡ true
victim_is_line n None e = let f : None ≡ Some n = e in absurd (cc)
victim_is_line n (Some line) e = let s : line.number ≡ n = cc in grind (arith, nat_tests)

pub way_of-set : (n way : ℕ) (y : Option KeptLine) (ps : List (Option KeptLine))
    → is_line n y ≡ is_line n (get_or ps way None) → way_of n (set ps way y) ≡ way_of n ps
way_of-set n way y ps e = rw (position_or_len-set (is_line n) ps way y None e, length-set ps way y)

pub way_of_is : (n way : ℕ) (ps : List (Option KeptLine)) → way < length ps
    → is_line n (get_or ps way None) ≡ true
    → ((k : ℕ) → k ≢ way → is_line n (get_or ps k None) ≡ false) → way_of n ps ≡ Some way
way_of_is n way ps lt here others =
    let at : position_or_len (is_line n) ps ≡ way =
    position_or_len_is (is_line n) ps way None (omega arith) (λ k below. others k (λ e. omega arith))
    (λ _. here) in
    let t : ltb way (length ps) ≡ true = grind (arith, nat_tests) in
    rw (at, t)

pub way_of_none : (n : ℕ) (ps : List (Option KeptLine)) → ((k : ℕ) → is_line n (get_or ps k None) ≡ false)
    → way_of n ps ≡ None
way_of_none n ps none =
    let at : position_or_len (is_line n) ps ≡ length ps =
    position_or_len_is (is_line n) ps (length ps) None (omega arith) (λ k below. none k)
    (λ lt. absurd (omega arith)) in
    let t : ltb (length ps) (length ps) ≡ false = grind (arith, nat_tests) in
    rw (at, t)

-- a line that no way is found for stands at none
pub none_of_way : (n : ℕ) (ps : List (Option KeptLine)) → way_of n ps ≡ None → (k : ℕ)
    → is_line n (get_or ps k None) ≡ false
none_of_way n ps missing k =
    let at : ℕ = position_or_len (is_line n) ps in
    elim (cases_lt k at) [
      | inl lt ↦ fails_before_first (is_line n) ps k None lt
      | inr ge ↦ elim (cases_lt at (length ps)) [
        | inl found ↦
            let t : ltb at (length ps) ≡ true = grind (arith, nat_tests) in
            let e : Some at ≡ None = subst (λ b. cond b (Some at) None ≡ None) t missing in
            absurd (cc)
        | inr past ↦ ap (is_line n) (get_or_past ps k None (omega arith))
      ]
    ]

-- where a way keeps the line, no other does
pub others_of_way : (n way : ℕ) (ps : List (Option KeptLine)) → IsOnce ps
    → is_line n (get_or ps way None) ≡ true
    → (k : ℕ) → k ≢ way → is_line n (get_or ps k None) ≡ false
others_of_way n way ps once here k other = false_from_ne_true (is_line n (get_or ps k None))
    (λ t. other (once n k way t here))

-- what another line stands at after the write, it stood at before
came_put : (ps : List (Option KeptLine)) (way number : ℕ) (dirty : Bool) → way < length ps → (other k : ℕ)
    → other ≢ number
    → is_line other (get_or (set ps way (line_of number dirty)) k None) ≡ true
    → is_line other (get_or ps k None) ≡ true
came_put ps way number dirty lt other k n t =
    let new : Option KeptLine = line_of number dirty in
    elim (cases_eq k way) [
      | inl same ↦
          let u : is_line other (get_or (set ps way new) way None) ≡ true =
          subst (λ (j : ℕ). is_line other (get_or (set ps way new) j None) ≡ true) same t in
          let v : eqb number other ≡ true =
          subst (λ (o : Option KeptLine). is_line other o ≡ true) (get_or-set_same ps way new None lt) u in
          absurd (n (grind (arith, nat_tests)))
      | inr apart ↦ subst (λ (o : Option KeptLine). is_line other o ≡ true)
          (get_or-set_other ps way k new None apart) t
    ]

-- the line itself stands at its way alone
here_put : (ps : List (Option KeptLine)) (way number : ℕ) (dirty : Bool) → way < length ps
    → ((k : ℕ) → k ≢ way → is_line number (get_or ps k None) ≡ false)
    → (k : ℕ) → is_line number (get_or (set ps way (line_of number dirty)) k None) ≡ true → k ≡ way
here_put ps way number dirty lt others k t =
    let new : Option KeptLine = line_of number dirty in
    elim (cases_eq k way) [
      | inl same ↦ same
      | inr apart ↦
          let u : is_line number (get_or ps k None) ≡ true =
          subst (λ (o : Option KeptLine). is_line number o ≡ true)
          (get_or-set_other ps way k new None apart) t in
          absurd (false≢true (sym (others k apart) ∙ u))
    ]

pub once_put : (ps : List (Option KeptLine)) (way number : ℕ) (dirty : Bool) → way < length ps → IsOnce ps
    → ((k : ℕ) → k ≢ way → is_line number (get_or ps k None) ≡ false)
    → IsOnce (set ps way (line_of number dirty))
once_put ps way number dirty lt once others = λ n i j hi hj.
    let new : Option KeptLine = line_of number dirty in
    elim (cases_eq n number) [
      | inl same ↦
          let P : ℕ → ℕ → Type 0 = λ m k. is_line m (get_or (set ps way new) k None) ≡ true in
          let at_i : i ≡ way =
          here_put ps way number dirty lt others i (subst (λ (m : ℕ). P m i) same hi) in
          let at_j : j ≡ way =
          here_put ps way number dirty lt others j (subst (λ (m : ℕ). P m j) same hj) in
          at_i ∙ sym at_j
      | inr apart ↦ once n i j (came_put ps way number dirty lt n i apart hi)
          (came_put ps way number dirty lt n j apart hj)
    ]

own_line : (number : ℕ) (dirty : Bool) → is_line number (line_of number dirty) ≡ true
own_line number dirty = grind (arith, nat_tests)

alien_line : (number other : ℕ) (dirty : Bool) → other ≢ number
    → is_line other (line_of number dirty) ≡ false
alien_line number other dirty n = other_line number other (line_of number dirty) (own_line number dirty) n

abbrev pub hit_answer : Touch
hit_answer = record { hit = true; victim = None; dirty_victim = false }

-- the ways of lines before and after a write of one way
abbrev pub ways_of : List (Option KeptLine) → ℕ → Option ℕ
ways_of ps = λ number. way_of number ps

-- ---- a hit that writes nothing

pub moves_same : (ps : List (Option KeptLine)) (way number : ℕ) → way_of number ps ≡ Some way
    → MovesLines hit_answer number (ways_of ps) (ways_of ps)
moves_same ps way number found = record {
  hit = sym (ap is_some found);
  spares = λ _. refl;
  stays = λ _. refl;
  here = ap is_some found;
  others = λ other n v. refl;
  given_up = λ v e. absurd (let f : None ≡ Some v = e in cc);
}

pub marks_same : (ps : List (Option KeptLine)) (way number : ℕ) → way_of number ps ≡ Some way
    → MovesMarks hit_answer number false (mark_of ps) (mark_of ps)
marks_same ps way number found = record {
  own = rw found refl;
  others = λ other n v. refl;
  given_up = λ v e. absurd (let f : None ≡ Some v = e in cc);
  clean = λ _. refl;
}

-- ---- a hit that marks the line

stays_marked : (ps : List (Option KeptLine)) (way number : ℕ) → way_of number ps ≡ Some way
    → way_of number (set ps way (line_of number true)) ≡ way_of number ps
stays_marked ps way number found =
    let at = position-Some (is_line number) ps way None found in
    way_of-set number way (line_of number true) ps (own_line number true ∙ sym at.1)

others_marked : (ps : List (Option KeptLine)) (way number other : ℕ) → way_of number ps ≡ Some way
    → other ≢ number
    → way_of other (set ps way (line_of number true)) ≡ way_of other ps
others_marked ps way number other found n =
    let at = position-Some (is_line number) ps way None found in
    way_of-set other way (line_of number true) ps
    (alien_line number other true n ∙ sym (other_line number other (get_or ps way None) at.1 n))

pub moves_marked : (ps : List (Option KeptLine)) (way number : ℕ) → way_of number ps ≡ Some way
    → MovesLines hit_answer number (ways_of ps) (ways_of (set ps way (line_of number true)))
moves_marked ps way number found =
    let stays = stays_marked ps way number found in
    record {
      hit = sym (ap is_some found);
      spares = λ _. refl;
      stays = λ _. stays;
      here = ap is_some (stays ∙ found);
      others = λ other n v. others_marked ps way number other found n;
      given_up = λ v e. absurd (let f : None ≡ Some v = e in cc);
    }

-- the mark at a way that was written
mark_written : (ps : List (Option KeptLine)) (way number : ℕ) (new : Option KeptLine) → way < length ps
    → way_of number (set ps way new) ≡ Some way
    → mark_of (set ps way new) number ≡ Some (is_dirty new)
mark_written ps way number new lt at = rw (at, get_or-set_same ps way new None lt) refl

-- another line keeps its mark where it keeps its way, which is not the one that was written
mark_elsewhere : (ps : List (Option KeptLine)) (way other : ℕ) (new : Option KeptLine) (found : Option ℕ)
    → way_of other ps ≡ found
    → way_of other (set ps way new) ≡ way_of other ps → is_line other (get_or ps way None) ≡ false
    → mark_of (set ps way new) other ≡ mark_of ps other
mark_elsewhere ps way other new None found stays alien = rw (stays, found) refl
mark_elsewhere ps way other new (Some w) found stays alien =
    let at = position-Some (is_line other) ps w None found in
    let apart : w ≢ way =
    λ same. false≢true (sym alien ∙ subst (λ (k : ℕ). is_line other (get_or ps k None) ≡ true) same at.1) in
    rw (stays, found, get_or-set_other ps way w new None apart) refl

pub marks_marked : (ps : List (Option KeptLine)) (way number : ℕ) → way_of number ps ≡ Some way
    → MovesMarks hit_answer number true (mark_of ps) (mark_of (set ps way (line_of number true)))
marks_marked ps way number found =
    let new : Option KeptLine = line_of number true in
    let at = position-Some (is_line number) ps way None found in
    record {
      own = mark_written ps way number new at.0 (stays_marked ps way number found ∙ found);
      others = λ other n v.
          mark_elsewhere ps way other new (way_of other ps) refl
          (others_marked ps way number other found n) (other_line number other (get_or ps way None) at.1 n);
      given_up = λ v e. absurd (let f : None ≡ Some v = e in cc);
      clean = λ _. refl;
    }

-- ---- a miss that takes a way

pub at_filled : (ps : List (Option KeptLine)) (way number : ℕ) (dirty : Bool) → way < length ps → IsOnce ps
    → way_of number ps ≡ None
    → way_of number (set ps way (line_of number dirty)) ≡ Some way
at_filled ps way number dirty lt once missing =
    let new : Option KeptLine = line_of number dirty in
    let none : (k : ℕ) → is_line number (get_or ps k None) ≡ false = none_of_way number ps missing in
    let own : is_line number (get_or (set ps way new) way None) ≡ true =
    rw (get_or-set_same ps way new None lt) (own_line number dirty) in
    way_of_is number way (set ps way new) (omega (arith, length-set ps way new)) own
    (others_of_way number way (set ps way new) (once_put ps way number dirty lt once (λ k _. none k)) own)

others_filled : (ps : List (Option KeptLine)) (way number other : ℕ) (dirty : Bool) → other ≢ number
    → is_line other (get_or ps way None) ≡ false
    → way_of other (set ps way (line_of number dirty)) ≡ way_of other ps
others_filled ps way number other dirty n alien = way_of-set other way (line_of number dirty) ps
    (alien_line number other dirty n ∙ sym alien)

-- the line that the way kept stood there alone, and is gone
gone_filled : (ps : List (Option KeptLine)) (way number v : ℕ) (dirty : Bool) → way < length ps → IsOnce ps
    → way_of number ps ≡ None
    → is_line v (get_or ps way None) ≡ true
    → (way_of v ps ≡ Some way) × (way_of v (set ps way (line_of number dirty)) ≡ None)
gone_filled ps way number v dirty lt once missing was =
    let new : Option KeptLine = line_of number dirty in
    let none : (k : ℕ) → is_line number (get_or ps k None) ≡ false = none_of_way number ps missing in
    let n : v ≢ number =
    λ same. false≢true
    (sym (none way) ∙ subst (λ (m : ℕ). is_line m (get_or ps way None) ≡ true) same was) in
    let left : (k : ℕ) → is_line v (get_or (set ps way new) k None) ≡ false =
    λ k. false_from_ne_true (is_line v (get_or (set ps way new) k None)) (λ t.
    let at : k ≡ way = once v k way (came_put ps way number dirty lt v k n t) was in
    let u : is_line v (get_or (set ps way new) way None) ≡ true =
    subst (λ (j : ℕ). is_line v (get_or (set ps way new) j None) ≡ true) at t in
    let w : is_line v new ≡ true =
    subst (λ (o : Option KeptLine). is_line v o ≡ true) (get_or-set_same ps way new None lt) u in
    false≢true (sym (alien_line number v dirty n) ∙ w)) in
    (way_of_is v way ps lt was (others_of_way v way ps once was), way_of_none v (set ps way new) left)

pub moves_filled : (ps : List (Option KeptLine)) (way number : ℕ) (dirty gave_dirty : Bool)
    (victim : Option ℕ)
    → way < length ps → IsOnce ps → way_of number ps ≡ None
    → victim ≡ option_map (λ (line : KeptLine). line.number) (get_or ps way None)
    → MovesLines (record { hit = false; victim = victim; dirty_victim = gave_dirty }) number (ways_of ps)
    (ways_of (set ps way (line_of number dirty)))
moves_filled ps way number dirty gave_dirty victim lt once missing gave =
    let at = at_filled ps way number dirty lt once missing in
    record {
      hit = sym (ap is_some missing);
      spares = λ e. absurd (false≢true e);
      stays = λ e. absurd (false≢true e);
      here = ap is_some at;
      others = λ other n v. others_filled ps way number other dirty n
          (not_victim other (get_or ps way None) (λ e. v (gave ∙ e)));
      given_up = λ v e.
          let gone = gone_filled ps way number v dirty lt once missing
          (victim_is_line v (get_or ps way None) (sym gave ∙ e)) in
          (gone.0 ∙ sym at, gone.1);
    }

fresh_mark : (number : ℕ) (store : Bool)
    → Some (is_dirty (line_of number store)) ≡ Some (store || unwrap_or None false)
fresh_mark number true = refl
fresh_mark number false = refl

no_victim : (old : Option KeptLine) → option_map (λ (line : KeptLine). line.number) old ≡ None
    → is_dirty old ≡ false
no_victim None e = refl
no_victim (Some line) e = absurd (let f : Some line.number ≡ None = e in cc)

pub marks_filled : (ps : List (Option KeptLine)) (way number : ℕ) (store : Bool) (victim : Option ℕ)
    (gave_dirty : Bool)
    → way < length ps → IsOnce ps → way_of number ps ≡ None
    → victim ≡ option_map (λ (line : KeptLine). line.number) (get_or ps way None)
    → gave_dirty ≡ is_dirty (get_or ps way None)
    → MovesMarks (record { hit = false; victim = victim; dirty_victim = gave_dirty }) number store
    (mark_of ps)
    (mark_of (set ps way (line_of number store)))
marks_filled ps way number store victim gave_dirty lt once missing gave told =
    let new : Option KeptLine = line_of number store in
    let old : Option KeptLine = get_or ps way None in
    record {
      own = rw missing
          (mark_written ps way number new lt (at_filled ps way number store lt once missing)
          ∙ fresh_mark number store);
      others = λ other n v.
          let alien = not_victim other old (λ e. v (gave ∙ e)) in
          mark_elsewhere ps way other new (way_of other ps) refl
          (others_filled ps way number other store n alien) alien;
      given_up = λ v e.
          let gone = gone_filled ps way number v store lt once missing
          (victim_is_line v old (sym gave ∙ e)) in
          (rw gone.0 (ap Some (sym told)), rw gone.1 refl);
      clean = λ e. told ∙ no_victim old (sym gave ∙ e);
    }

-- ---- what follows of any move of lines

victim_or_not : (v : Option ℕ) (n : ℕ) → (v ≡ Some n) ⊎ (v ≢ Some n)
victim_or_not None n = inr (λ e. let x : None ≡ Some n = e in cc)
victim_or_not (Some m) n = elim
    (cases_eq m n) [ inl e ↦ inl (ap Some e) | inr ne ↦ inr (λ e. ne (let x : Some m ≡ Some n = e in cc)) ]

-- what is here after a touch was here before it, but for the touched line
pub kept_before : (answer : Touch) (number : ℕ) (before after : ℕ → Option ℕ)
    → MovesLines answer number before after
    → (other : ℕ) → other ≢ number → is_some (after other) ≡ true → after other ≡ before other
kept_before answer number before after moves other n kept =
    elim (victim_or_not answer.victim other) [
      | inl gone ↦ absurd (false≢true (sym (ap is_some (moves.given_up other gone).1) ∙ kept))
      | inr stays ↦ moves.others other n stays
    ]

-- a touch of a line that is here moves nothing
pub places_stay : (answer : Touch) (number : ℕ) (before after : ℕ → Option ℕ)
    → MovesLines answer number before after
    → is_some (before number) ≡ true → (other : ℕ) → after other ≡ before other
places_stay answer number before after moves here other =
    let hit : answer.hit ≡ true = moves.hit ∙ here in
    elim (cases_eq other number) [
      | inl same ↦ subst (λ (n : ℕ). after n ≡ before n) (sym same) (moves.stays hit)
      | inr apart ↦ moves.others other apart
          (λ e. let x : None ≡ Some other = sym (moves.spares hit) ∙ e in absurd (cc))
    ]

-- a line that stands at a way is found
pub some_at : (n : ℕ) (ps : List (Option KeptLine)) (way : ℕ) → is_line n (get_or ps way None) ≡ true
    → is_some (way_of n ps) ≡ true
some_at n ps way t = of (way_of n ps) refl
  where
    of : (found : Option ℕ) → way_of n ps ≡ found → is_some found ≡ true
    of None e = absurd (false≢true (sym (none_of_way n ps e way) ∙ t))
    of (Some w) e = refl

-- and found there, where it stands once
pub way_at : (n way : ℕ) (ps : List (Option KeptLine)) → IsOnce ps → is_line n (get_or ps way None) ≡ true
    → way_of n ps ≡ Some way
way_at n way ps once t = of (way_of n ps) refl
  where
    of : (found : Option ℕ) → way_of n ps ≡ found → way_of n ps ≡ Some way
    of None e = absurd (false≢true (sym (none_of_way n ps e way) ∙ t))
    of (Some w) e = e ∙ ap Some (once n w way (position-Some (is_line n) ps w None e).1 t)

unmarked : (mark : Option Bool) → mark ≢ Some true → Some (false || unwrap_or mark false) ≢ Some true
unmarked None n = λ e. let x : Some false ≡ Some true = e in absurd (cc)
unmarked (Some true) n = absurd (n refl)
unmarked (Some false) n = n

-- a touch that is no store marks nothing
pub marks_clean : (answer : Touch) (number : ℕ) (before after : ℕ → Option Bool)
    → MovesMarks answer number false before after
    → ((line : ℕ) → before line ≢ Some true) → (line : ℕ) → after line ≢ Some true
marks_clean answer number before after marks clean line e =
    elim (cases_eq line number) [
      | inl same ↦ unmarked (before number) (clean number) (sym marks.own ∙ ap after (sym same) ∙ e)
      | inr apart ↦ elim (victim_or_not answer.victim line) [
        | inl gone ↦ let x : None ≡ Some true = sym (marks.given_up line gone).1 ∙ e in absurd (cc)
        | inr stays ↦ clean line (sym (marks.others line apart stays) ∙ e)
      ]
    ]

-- where no line has a mark none is given up that has one
pub no_dirty_victim : (answer : Touch) (number : ℕ) (store : Bool) (before after : ℕ → Option Bool)
    → MovesMarks answer number store before after
    → ((line : ℕ) → before line ≢ Some true) → answer.dirty_victim ≡ false
no_dirty_victim answer number store before after marks clean = of answer.victim refl
  where
    of : (victim : Option ℕ) → answer.victim ≡ victim → answer.dirty_victim ≡ false
    of None e = marks.clean e
    of (Some v) e = false_from_ne_true answer.dirty_victim (λ dirty. clean v ((marks.given_up v e).0 ∙ ap Some dirty))

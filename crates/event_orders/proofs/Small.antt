-- A small machine is one of those that the laws are about.
use Rattle.std.proofs.Common.{◌≡◌, ◌≢◌, ℕ, zero, suc, ◌-◌, ◌<◌, ◌≤◌, ◌+◌, ◌++◌, Bool, true, false, ltb, ltb-true, List, [], ◌∷◌, ap, ap₂, sym, ◌∙◌, refl, subst, arith, true≢false}
use Rattle.std.specs.Prelude.{if◌then◌else◌}
use Rattle.tp_base.specs.Table.{at-put_same, at-put_other}
use Rattle.event_orders.specs.Machine.{IsMachine}
use Rattle.event_orders.specs.Small.{Hart, World, Small, idle, hart_of, stands, worked, turned, work_on, turn_on, next, IsSmall, SameShared, InTime, AllInTime, machine}
use Rattle.event_orders.proofs.Commuting.{this_or}

module _ (p : Small) where
  -- ---- what an event comes to

  module _ (h : ℕ) (w : World) where
    abbrev x : Hart
    x = hart_of h w

    works : x.inside ≡ true → next p h w ≡ work_on p h w x
    unfolding next
    works now = ap (λ (b : Bool). if b then work_on p h w x else turn_on p h w x) now

    turns : x.inside ≡ false → next p h w ≡ turn_on p h w x
    unfolding next
    turns out = ap (λ (b : Bool). if b then work_on p h w x else turn_on p h w x) out

    pub hart_works : x.inside ≡ true → hart_of h (next p h w) ≡ worked p h x
    unfolding work_on
    hart_works now = ap (λ (u : World). hart_of h u) (works now) ∙ at-put_same idle w.harts h (worked p h x)

    pub hart_turns : x.inside ≡ false → hart_of h (next p h w) ≡ turned p h x w.shared
    unfolding turn_on
    hart_turns out = ap (λ (u : World). hart_of h u) (turns out) ∙ at-put_same idle w.harts h (turned p h x w.shared)

    pub shared_works : x.inside ≡ true → SameShared (next p h w) w
    unfolding work_on
    shared_works now = record { shared = ap (λ (u : World). u.shared) (works now); used = ap (λ (u : World). u.used) (works now) }

    pub shared_turns : x.inside ≡ false → (next p h w).shared ≡ p.leaves h x.slots x.state w.shared
    unfolding turn_on
    shared_turns out = ap (λ (u : World). u.shared) (turns out)

    pub used_turns : x.inside ≡ false → (next p h w).used ≡ w.used ++ (h, p.takes h x.slots x.state w.shared) ∷ []
    unfolding turn_on
    used_turns out = ap (λ (u : World). u.used) (turns out)

    module _ (g : ℕ) (ne : g ≢ h) where
      others_if : (b : Bool) → hart_of g (if b then work_on p h w x else turn_on p h w x) ≡ hart_of g w
      unfolding work_on turn_on
      others_if true = at-put_other idle w.harts h g (worked p h x) ne
      others_if false = at-put_other idle w.harts h g (turned p h x w.shared) ne

      pub others_still : hart_of g (next p h w) ≡ hart_of g w
      unfolding next
      others_still = others_if x.inside

  -- ---- a switch from states that are the same

  module _ (h : ℕ) (w v : World) (out : (hart_of h w).inside ≡ false) (same : hart_of h w ≡ hart_of h v)
      (shared : SameShared w v) where
    out_too : (hart_of h v).inside ≡ false
    out_too = ap (λ (x : Hart). x.inside) (sym same) ∙ out

    pub turns_alike : hart_of h (next p h w) ≡ hart_of h (next p h v)
    turns_alike = hart_turns h w out ∙ ap₂ (turned p h) same shared.shared ∙ sym (hart_turns h v out_too)

    pub turns_alike_shared : SameShared (next p h w) (next p h v)
    turns_alike_shared = record {
      shared =
          shared_turns h w out ∙ ap₂ (λ (x : Hart) (y : ℕ). p.leaves h x.slots x.state y) same shared.shared
          ∙ sym (shared_turns h v out_too);
      used =
          used_turns h w out
          ∙ ap₂ (λ (us : List (ℕ × ℕ)) (c : ℕ). us ++ (h, c) ∷ []) shared.used
          (ap₂ (λ (x : Hart) (y : ℕ). p.takes h x.slots x.state y) same shared.shared)
          ∙ sym (used_turns h v out_too);
    }

  works_alike : (h : ℕ) (w v : World) → (hart_of h w).inside ≡ true → hart_of h w ≡ hart_of h v
      → hart_of h (next p h w) ≡ hart_of h (next p h v)
  works_alike h w v now same =
      hart_works h w now ∙ ap (worked p h) same ∙ sym (hart_works h v (ap (λ (x : Hart). x.inside) (sym same) ∙ now))

  -- ---- how far an event takes its hart

  stands_goes : (x c k : ℕ) (b : Bool) → (stands x c k b).inside ≡ true → (stands x c k b).slots ≡ k
  stands_goes x c k true e = refl
  stands_goes x c k false e = absurd (true≢false (sym e))

  stands_ends : (x c k : ℕ) (b : Bool) → (stands x c k b).inside ≡ false → (stands x c k b).slots ≡ suc k
  stands_ends x c k true e = absurd (true≢false e)
  stands_ends x c k false e = refl

  stands_clock : (x c k : ℕ) (b : Bool) → (stands x c k b).clock ≡ c
  stands_clock x c k true = refl
  stands_clock x c k false = refl

  stands_in_time : (h x c k : ℕ) (b : Bool) → ltb c (p.end h k) ≡ b → c < p.start h (suc k)
      → InTime p h (stands x c k b) (stands x c k b).inside
  stands_in_time h x c k true e soon = ltb-true c (p.end h k) e
  stands_in_time h x c k false e soon = soon

  module _ (h : ℕ) (w : World) (now : (hart_of h w).inside ≡ true) where
    abbrev its : Hart
    its = hart_of h w

    abbrev state : ℕ
    state = p.work h its.slots its.state

    abbrev clock : ℕ
    clock = its.clock + p.cycles h its.slots its.state

    abbrev early : Bool
    early = ltb clock (p.end h its.slots)

    pub goes_on : (hart_of h (next p h w)).inside ≡ true → (hart_of h (next p h w)).slots ≡ its.slots
    goes_on after =
        ap (λ (x : Hart). x.slots) (hart_works h w now)
        ∙ stands_goes state clock its.slots early (ap (λ (x : Hart). x.inside) (sym (hart_works h w now)) ∙ after)

    pub ends : (hart_of h (next p h w)).inside ≡ false → (hart_of h (next p h w)).slots ≡ suc its.slots
    ends after =
        ap (λ (x : Hart). x.slots) (hart_works h w now)
        ∙ stands_ends state clock its.slots early (ap (λ (x : Hart). x.inside) (sym (hart_works h w now)) ∙ after)

    pub clock_then : (hart_of h (next p h w)).clock ≡ clock
    clock_then = ap (λ (x : Hart). x.clock) (hart_works h w now) ∙ stands_clock state clock its.slots early

  -- ---- time

  module _ (is : IsSmall p) where
    rises_if : (h : ℕ) (w : World) (b : Bool) → (hart_of h w).inside ≡ b → InTime p h (hart_of h w) b
        → (hart_of h w).clock < (hart_of h (next p h w)).clock
    rises_if h w true now early =
        let some = is.some h (hart_of h w).slots (hart_of h w).state in
        let clock = clock_then h w now in
        omega (arith, some, clock)
    rises_if h w false out early =
        let clock = ap (λ (x : Hart). x.clock) (hart_turns h w out) in omega (arith, early, clock)

    in_time_if : (h : ℕ) (w : World) (b : Bool) → (hart_of h w).inside ≡ b → InTime p h (hart_of h w) b
        → InTime p h (hart_of h (next p h w)) (hart_of h (next p h w)).inside
    in_time_if h w true now early =
        let few = is.few h (hart_of h w).slots (hart_of h w).state in
        let padded = is.padded h (hart_of h w).slots in
        subst (λ (x : Hart). InTime p h x x.inside) (sym (hart_works h w now))
        (stands_in_time h (state h w now) (clock h w now) (hart_of h w).slots _ refl (omega (arith, few, padded, early)))
    in_time_if h w false out early =
        subst (λ (x : Hart). InTime p h x x.inside) (sym (hart_turns h w out)) (is.long h (hart_of h w).slots)

    in_time : (h : ℕ) (w : World) → h < p.count → AllInTime p w → AllInTime p (next p h w)
    in_time h w there all = record {
      each =
          this_or (λ j. j < p.count → InTime p j (hart_of j (next p h w)) (hart_of j (next p h w)).inside) h
          (λ _. in_time_if h w (hart_of h w).inside refl (all.each h there))
          (λ j ne there'. subst (λ (x : Hart). InTime p j x x.inside) (sym (others_still h w j ne)) (all.each j there'));
    }

    -- starts rise
    past : (h k d : ℕ) → p.end h k ≤ p.start h (k + suc d)
    past h k zero =
        let padded = is.padded h k in
        let one : suc k ≡ k + 1 = omega arith in
        subst (λ (j : ℕ). p.end h k ≤ p.start h j) one (omega (arith, padded))
    past h k (suc d) =
        let before = past h k d in
        let long = is.long h (k + suc d) in
        let padded = is.padded h (k + suc d) in
        let one : suc (k + suc d) ≡ k + suc (suc d) = omega arith in
        subst (λ (j : ℕ). p.end h k ≤ p.start h j) one (omega (arith, before, long, padded))

    past_all : (h k n : ℕ) → k < n → p.end h k ≤ p.start h n
    past_all h k n less =
        let some : k + suc (n - suc k) ≡ n = omega (arith, less) in
        subst (λ (j : ℕ). p.end h k ≤ p.start h j) some (past h k (n - suc k))

    before_if : (h n : ℕ) (x : Hart) (b : Bool) → InTime p h x b → x.slots < n → x.clock < p.start h n
    before_if h n x true early less = let later = past_all h x.slots n less in omega (arith, early, later)
    before_if h n x false early less =
        let later = past_all h x.slots n less in
        let long = is.long h x.slots in
        omega (arith, early, later, long)

    pub is_machine : IsMachine (machine p)
    is_machine = record {
      same = λ h. record { itself = λ w. refl; back = λ w v e. sym e; on = λ w v u e f. e ∙ f };
      shared = record {
        itself = λ w. record { shared = refl; used = refl };
        back = λ w v e. record { shared = sym e.shared; used = sym e.used };
        on = λ w v u e f. record { shared = e.shared ∙ f.shared; used = e.used ∙ f.used };
      };
      as_far = λ h w v e. record {
        clock = ap (λ (x : Hart). x.clock) e;
        slots = ap (λ (x : Hart). x.slots) e;
        inside = ap (λ (x : Hart). x.inside) e;
      };
      sound = in_time;
      others = λ g h w there ne s. others_still h w g ne;
      work = λ h w v there s t now same. works_alike h w v now same;
      work_shared = λ h w there s now. shared_works h w now;
      turn = λ h w v there s t out same shared. turns_alike h w v out same shared;
      turn_shared = λ h w v there s t out same shared. turns_alike_shared h w v out same shared;
      rises = λ h w there s. rises_if h w (hart_of h w).inside refl (s.each h there);
      early = λ h w there s now. subst (InTime p h (hart_of h w)) now (s.each h there);
      before = λ h n w there s less. before_if h n (hart_of h w) (hart_of h w).inside (s.each h there) less;
      begins = λ h w there s out. ap (λ (x : Hart). x.inside) (hart_turns h w out);
      begins_slot = λ h w there s out. ap (λ (x : Hart). x.slots) (hart_turns h w out);
      goes_on = λ h w now after. goes_on h w now after;
      ends = λ h w now after. ends h w now after;
    }

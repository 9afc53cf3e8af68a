-- A world in which each hart's slot was run whole, ahead of one in which its events are still to come.
use Rattle.std.proofs.Common.{◌≡◌, ◌≢◌, ℕ, zero, suc, ◌<◌, false, subst, arith}
use Rattle.tp_base.specs.Table.{Table, empty, at, put, at-empty, at-put_by}
use Rattle.event_orders.specs.Machine.{Machine, IsMachine}
use Rattle.event_orders.specs.Orders.{run, slot_events, run_slot}
use Rattle.event_orders.specs.Laws.{Alike, AreBetween}
use Rattle.event_orders.proofs.Steps.{End, none_left, run_sound, run_others, run_shared, run_same, end_same, slot_ends}

module _ (m : Machine) (is : IsMachine m) where
  -- for each hart the events that end its slot lead, in the one world, to where the other stands
  pub record Ahead (w v : m.World) (owed : Table ℕ) : Type 0 where
    pub sound : m.IsSound w
    pub sound_ahead : m.IsSound v
    pub shared : m.SameShared w v
    pub ends : (h : ℕ) → h < m.harts → End m is h (at 0 owed h) w
    pub same : (h : ℕ) → h < m.harts → m.Same h (run m h (at 0 owed h) w) v

  at_start : (w : m.World) (h k : ℕ) → k ≡ 0 → m.inside h w ≡ false → End m is h k w × m.Same h (run m h k w) w
  unfolding run
  at_start w h zero none out = (out, (is.same h).itself w)
  at_start w h (suc k) none out = absurd (omega (arith, none))

  pub start : (w : m.World) → m.IsSound w → AreBetween m w → Ahead w w empty
  start w s out = record {
    sound = s;
    sound_ahead = s;
    shared = is.shared.itself w;
    ends = λ h there. (at_start w h _ (at-empty 0 h) (out h there)).0;
    same = λ h there. (at_start w h _ (at-empty 0 h) (out h there)).1;
  }

  -- ---- a hart that is in no slot is the same in both

  same_if : (h k : ℕ) (w v : m.World) → k ≡ 0 → m.Same h (run m h k w) v → m.Same h w v
  unfolding run
  same_if h zero w v none same = same
  same_if h (suc k) w v none same = absurd (omega (arith, none))

  module _ (w v : m.World) (owed : Table ℕ) (a : Ahead w v owed) where
    pub none_owed : (h : ℕ) → h < m.harts → m.inside h w ≡ false → at 0 owed h ≡ 0
    none_owed h there out = none_left m is h (at 0 owed h) w (a.ends h there) out

    pub same_between : (h : ℕ) → h < m.harts → m.inside h w ≡ false → m.Same h w v
    same_between h there out = same_if h (at 0 owed h) w v (none_owed h there out) (a.same h there)

    pub alike_between : AreBetween m w → Alike m w v
    alike_between out = record { shared = a.shared; each = λ h there. same_between h there (out h there) }

  -- ---- one event of hart h

  module _ (w v : m.World) (owed : Table ℕ) (a : Ahead w v owed) (h : ℕ) (there : h < m.harts) where
    abbrev w' : m.World
    w' = m.next h w

    sound' : m.IsSound w'
    sound' = is.sound h w there a.sound

    -- another hart's events are as they were before it
    others_end : (g : ℕ) → g < m.harts → g ≢ h → End m is g (at 0 owed g) w'
    others_end g there' ne =
        end_same m is g there' (at 0 owed g) w w' a.sound sound' ((is.same g).back w' w (is.others g h w there ne a.sound))
        (a.ends g there')

    others_lead : (g : ℕ) → g < m.harts → g ≢ h → m.Same g (run m g (at 0 owed g) w') v
    others_lead g there' ne =
        (is.same g).on _ _ v
        (run_same m is g there' (at 0 owed g) w' w sound' a.sound (others_end g there' ne) (is.others g h w there ne a.sound))
        (a.same g there')

    -- it is of a slot: the world ahead has it already

    work_by : (k : ℕ) → End m is h (suc k) w → m.Same h (run m h (suc k) w) v → Ahead w' v (put owed h k)
    unfolding run
    work_by k e same = record {
      sound = sound';
      sound_ahead = a.sound_ahead;
      shared = is.shared.on w' w v (is.work_shared h w there a.sound e.0) a.shared;
      ends = at-put_by 0 owed h k (λ g n. g < m.harts → End m is g n w') (λ _. e.1) (λ g ne there'. others_end g there' ne);
      same = at-put_by 0 owed h k (λ g n. g < m.harts → m.Same g (run m g n w') v) (λ _. same)
          (λ g ne there'. others_lead g there' ne);
    }

    pub work : (k : ℕ) → at 0 owed h ≡ suc k → Ahead w' v (put owed h k)
    work k some =
        work_by k (subst (λ (n : ℕ). End m is h n w) some (a.ends h there))
        (subst (λ (n : ℕ). m.Same h (run m h n w) v) some (a.same h there))

    -- it is a switch: the world ahead makes it now, and runs the whole slot

    pub turn : m.inside h w ≡ false → Ahead w' (run_slot m h v) (put owed h (slot_events m h v))
    unfolding run_slot
    turn out =
        let v' = m.next h v in
        let k = slot_events m h v in
        let ends = slot_ends m is h there v a.sound_ahead in
        let now = same_between w v owed a h there out in
        let sound_v' = is.sound h v there a.sound_ahead in
        let same' = is.turn h w v there a.sound a.sound_ahead out now a.shared in
        let ends' = end_same m is h there k v' w' sound_v' sound' ((is.same h).back w' v' same') ends in
        record {
          sound = sound';
          sound_ahead = run_sound m is h there k v' sound_v';
          shared = is.shared.on w' v' _ (is.turn_shared h w v there a.sound a.sound_ahead out now a.shared)
              (is.shared.back _ v' (run_shared m is h there k v' sound_v' ends));
          ends = at-put_by 0 owed h k (λ g n. g < m.harts → End m is g n w') (λ _. ends') (λ g ne there'. others_end g there' ne);
          same = at-put_by 0 owed h k (λ g n. g < m.harts → m.Same g (run m g n w') (run m h k v'))
              (λ _. run_same m is h there k w' v' sound' sound_v' ends' same')
              (λ g ne there'. (is.same g).on _ v _ (others_lead g there' ne)
              ((is.same g).back _ v ((is.same g).on _ v' v (run_others m is h there g k v' ne sound_v')
              (is.others g h v there ne a.sound_ahead))));
        }

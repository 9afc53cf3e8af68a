-- The code's harts in the order that a seed draws, each slot whole where its switch is drawn.
use Rattle.std.proofs.Common.{◌≡◌, ◌∙◌, ℕ, zero, suc, ◌+◌, ◌-◌, ◌<◌, Bool, true, ltb-true, List, [], Option, Some, None, IfSome, inl, inr, refl, sym, ap, subst, arith}
use Rattle.std.proofs.lemmas.Bool.{cases_eq}
use Rattle.std.proofs.lemmas.List.{get_or-set_same, get_or-set_other}
use Rattle.std.proofs.Math.ListN.{set}
use Rattle.std.specs.Prelude.{◌%◌, slice_index, length}
use Rattle.tp_base.specs.Table.{Table, empty, at, put, at-put_same, at-put_other}
use Rattle.image_record.specs.Record.{Raw}
use Rattle.seed_words.specs.Words.{seeded, word}
use Rattle.sched_table.specs.Schedule.{harts_in}
use Rattle.image_check.specs.Image.{Image}
use Rattle.image_check.specs.Laws.{Runnable}
use Rattle.event_orders.specs.Machine.{Machine}
use Rattle.event_orders.specs.Orders.{Counted, named, has_left, is_owed_or, is_owed_or_left, owed_of, counted_if, counted, slot_events, run_slot, drawn_slots}
use Rattle.event_orders.proofs.Drawn.{passing_all, passing_same, get_holds}
use Rattle.world_view.specs.Harts.{Harts, slots_of}
use Rattle.hart_orders.specs.Order.{cycles_before}
use Rattle.hart_machine.specs.HartMachine.{machine_of}
use Rattle.hart_machine.specs.Laws.{words_from, drawn_slot_by_slot}
use Rattle.hart_machine.proofs.LeastClock.{cycles_are}
use Rattle.hart_set.specs.declared.set.State.{State}
use Rattle.hart_set.specs.Slots.{EndsSlot}
use Rattle.hart_set.specs.Models.{image_of, harts_after, StandsAfter}
use Rattle.hart_set.specs.Choosers.{counted_after, Owes, left_in}
use Rattle.hart_set.specs.Run.{StandsAt}
use Rattle.hart_set.proofs.Paused as paused
use Rattle.hart_set.proofs.Paused.{Paused, its_slot, one_later}

-- so many draws are left at most, of these harts, with so many events owed of each; as many were before
pub record OnTheWay (v : Raw × State) (seed n before left : ℕ) (owed names : List ℕ) : Type 0 where
  pub at : Paused v
  pub table : Table ℕ
  pub owes : Owes (image_of v) owed table
  pub are : names ≡ left_in v at.order table n
  pub leads : drawn_slots (machine_of (image_of v)) n (words_from seed before left) (counted_after v at.order table)
      ≡ drawn_slot_by_slot (image_of v) seed n

-- nothing is owed yet
pub at_first : (v : Raw × State) (seed n most : ℕ) (owed names : List ℕ) → Runnable (image_of v)
    → most ≡ cycles_before (image_of v) n (harts_in (image_of v).all.schedule) → StandsAfter v []
    → Owes (image_of v) owed empty
    → ((order : List ℕ) (table : Table ℕ) → StandsAfter v order → Owes (image_of v) owed table → names ≡ left_in v order table n)
    → OnTheWay v seed n 0 most owed names
at_first v seed n most owed names r same stands owes are =
    let i = image_of v in
    let enough = cycles_are i n (harts_in i.all.schedule) (omega arith) in
    record {
      at = paused.at_first v r stands;
      table = empty;
      owes = owes;
      are = are [] empty stands owes;
      leads = ap (λ (f : ℕ). drawn_slots (machine_of i) n (words_from seed 0 f) (counted_after v [] empty)) (same ∙ sym enough);
    }

-- one draw is fewer
pub one_fewer : (v : Raw × State) (seed n most counter : ℕ) (owed names : List ℕ) → counter < most
    → OnTheWay v seed n counter (most - counter) owed names
    → OnTheWay v seed n counter (suc (most - (counter + 1))) owed names
one_fewer v seed n most counter owed names l way =
    let one : most - counter ≡ suc (most - (counter + 1)) = omega (arith, l) in
    subst (λ (f : ℕ). OnTheWay v seed n counter f owed names) one way

-- all that there may be have been
pub at_last : (v : Raw × State) (seed n before : ℕ) (owed names : List ℕ) → OnTheWay v seed n before 0 owed names
    → StandsAt v (drawn_slot_by_slot (image_of v) seed n).world
unfolding words_from drawn_slots
at_last v seed n before owed names way =
    record {
      order = way.at.order;
      of_harts = way.at.of_harts;
      leads = ap (λ (s : Counted Harts). s.world) way.leads;
      stands = way.at.stands;
    }

module _ (v : Raw × State) (seed n before f : ℕ) (owed names : List ℕ)
    (way : OnTheWay v seed n before (suc f) owed names) where
  abbrev i : Image
  i = image_of v

  abbrev m : Machine
  m = machine_of i

  abbrev s : Counted Harts
  s = counted_after v way.at.order way.table

  abbrev drawn_if : Option ℕ → Counted Harts
  drawn_if o = elim o [ None ↦ s | Some h ↦ drawn_slots m n (words_from seed (suc before) f) (counted m h s) ]

  -- the hart that the word names is the definition's
  next_is : (w : ℕ) (o : Option ℕ) → w ≡ word (seeded seed) before → named w names ≡ o
      → drawn_slots m n (words_from seed before (suc f)) s ≡ drawn_if o
  unfolding words_from drawn_slots
  next_is w o value is =
      ap drawn_if
      (ap (named (word (seeded seed) before)) (sym way.are) ∙ ap (λ (x : ℕ). named x names) (sym value) ∙ is)

  -- it names nobody
  pub over : (w : ℕ) → w ≡ word (seeded seed) before → named w names ≡ None → StandsAt v (drawn_slot_by_slot i seed n).world
  over w value none = record {
    order = way.at.order;
    of_harts = way.at.of_harts;
    leads = ap (λ (x : Counted Harts). x.world) (sym (next_is w None value none) ∙ way.leads);
    stands = way.at.stands;
  }

  -- it names a hart that is left
  pub record IsLeft (h : ℕ) : Type 0 where
    pub hart : h < harts_in i.all.schedule
    pub left : is_owed_or_left m n s h ≡ true

  pub is_left : (w h : ℕ) → named w names ≡ Some h → IsLeft h
  is_left w h is =
      let hs = left_in v way.at.order way.table n in
      let all =
      passing_all (is_owed_or_left m n s) IsLeft (harts_in i.all.schedule) (λ g there e. record { hart = there; left = e }) in
      subst (λ (o : Option ℕ). IfSome o IsLeft) (ap (named w) (sym way.are) ∙ is) (get_holds IsLeft hs (w % length hs) all)

  has_few : (k : ℕ) → k ≡ 0 → (b : Bool) → is_owed_or b k ≡ true → b ≡ true
  has_few zero none b e = e
  has_few (suc k) none b e = cc none

  module _ (w h : ℕ) (value : w ≡ word (seeded seed) before) (is : named w names ≡ Some h) where
    there : h < harts_in i.all.schedule
    there = (is_left w h is).hart

    -- with nothing owed it has slots left
    pub few : slice_index owed h ≡ 0 → slots_of h (harts_after v way.at.order) < n
    few none =
        ltb-true (slots_of h (harts_after v way.at.order)) n
        (has_few (owed_of h s) (sym (way.owes h there) ∙ none) (has_left m n s.world h) (is_left w h is).left)

    -- its event leads there
    leads_on : (order : List ℕ) (table : Table ℕ) → counted_after v order table ≡ counted m h s
        → drawn_slots m n (words_from seed (suc before) f) (counted_after v order table) ≡ drawn_slot_by_slot i seed n
    leads_on order table same =
        ap (drawn_slots m n (words_from seed (suc before) f)) same ∙ sym (next_is w (Some h) value is) ∙ way.leads

    counts : (k : ℕ) → owed_of h s ≡ k → counted_if m h s k ≡ counted m h s
    unfolding counted
    counts k owes = ap (counted_if m h s) (sym owes)

    owes_set : (k : ℕ) → h < length owed → Owes i (set owed h k) (put way.table h k)
    owes_set k within g below = elim (cases_eq g h) [
      | inl same ↦
          subst (λ (x : ℕ). slice_index (set owed h k) x ≡ at 0 (put way.table h k) x) (sym same)
          (get_or-set_same owed h k 0 within ∙ sym (at-put_same 0 way.table h k))
      | inr other ↦
          get_or-set_other owed h g k 0 other ∙ way.owes g below ∙ sym (at-put_other 0 way.table h g k other)
    ]

    -- each hart that owes an event is left
    is_owed : (b : Bool) (k : ℕ) → 0 < k → is_owed_or b k ≡ true
    is_owed b zero some = absurd (omega (arith, some))
    is_owed b (suc k) some = refl

    -- where one is counted off
    module _ (k : ℕ) (within : h < length owed) (owes : slice_index owed h ≡ suc k) where
      abbrev table' : Table ℕ
      table' = put way.table h k

      its : owed_of h s ≡ suc k
      its = sym (way.owes h there) ∙ owes

      counted_off : (names' : List ℕ) → names' ≡ left_in v way.at.order table' n
          → OnTheWay v seed n (suc before) f (set owed h k) names'
      counted_off names' are = record {
        at = way.at;
        table = table';
        owes = owes_set k within;
        are = are;
        leads = leads_on way.at.order table' (counts (suc k) its);
      }

      -- with more to come the same are left
      still : 0 < k → (g : ℕ) → g < harts_in i.all.schedule
          → is_owed_or_left m n (counted_after v way.at.order table') g ≡ is_owed_or_left m n s g
      still some g below = elim (cases_eq g h) [
        | inl same ↦
            subst (λ (x : ℕ). is_owed_or (has_left m n s.world x) (at 0 table' x) ≡ is_owed_or (has_left m n s.world x) (owed_of x s)) (sym same)
            (is_owed _ (at 0 table' h) (let now = at-put_same 0 way.table h k in omega (arith, now, some))
            ∙ sym (is_owed _ (owed_of h s) (omega (arith, its))))
        | inr other ↦ ap (is_owed_or (has_left m n s.world g)) (at-put_other 0 way.table h g k other)
      ]

      pub one_off : 0 < k → OnTheWay v seed n (suc before) f (set owed h k) names
      one_off some =
          counted_off names
          (way.are
          ∙ sym (passing_same (is_owed_or_left m n (counted_after v way.at.order table')) (is_owed_or_left m n s) (harts_in i.all.schedule)
          (still some)))

      pub last_off : (names' : List ℕ)
          → ((order : List ℕ) (table : Table ℕ) → StandsAfter v order → Owes i (set owed h k) table → names' ≡ left_in v order table n)
          → OnTheWay v seed n (suc before) f (set owed h k) names'
      last_off names' are = counted_off names' (are way.at.order table' way.at.stands (owes_set k within))

    -- where none was owed, and it has its next slot
    module _ (t : State) (all : t.off ≡ None) (ends : EndsSlot i way.at.order h t) where
      pub some_events : 0 < ends.events
      some_events = let count = (its_slot v way.at h there t all ends).count in omega (arith, count)

      pub slot_run : (k : ℕ) (names' : List ℕ) → k ≡ ends.events - 1 → h < length owed → slice_index owed h ≡ 0
          → ((order : List ℕ) (table : Table ℕ) → StandsAfter (v.0, t) order → Owes i (set owed h k) table
          → names' ≡ left_in (v.0, t) order table n)
          → OnTheWay (v.0, t) seed n (suc before) f (set owed h k) names'
      slot_run k names' after_switch within none are =
          let p = one_later v way.at h there t all ends in
          let its = its_slot v way.at h there t all ends in
          let own : k ≡ slot_events m h s.world = let count = its.count in omega (arith, count, after_switch) in
          let now : counted_after v p.order (put way.table h k) ≡ counted_if m h s 0 =
          ap (λ (x : Harts). record { world = x; owed = put way.table h k }) its.comes_to
          ∙ ap (λ (j : ℕ). record { world = run_slot m h s.world; owed = put way.table h j }) own in
          record {
            at = p;
            table = put way.table h k;
            owes = owes_set k within;
            are = are p.order (put way.table h k) p.stands (owes_set k within);
            leads = leads_on p.order (put way.table h k) (now ∙ counts 0 (sym (way.owes h there) ∙ none));
          }

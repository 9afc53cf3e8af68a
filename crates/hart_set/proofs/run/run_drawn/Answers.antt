use Rattle.std.proofs.Common.{◌≡◌, ◌∙◌, ℕ, zero, suc, ◌+◌, ◌-◌, ◌<◌, ◌≤◌, List, [], ◌∷◌, length, Option, Some, refl, sym, ap, subst, arith}
use Rattle.std.specs.Prelude.{slice_index}
use Rattle.std.proofs.Math.ListN.{set}
use Rattle.std.proofs.lemmas.List.{length-set}
use Rattle.tp_base.specs.Table.{Table, at-empty}
use Rattle.rand_pcg.specs.Lcg.{Lcg}
use Rattle.seed_words.specs.Words.{seeded, after, word}
use Rattle.seed_words.proofs.Draws.{after_none, word_here, after_next}
use Rattle.image_record.specs.Record.{Raw}
use Rattle.image_check.specs.Image.{image_from}
use Rattle.image_check.specs.Laws.{Runnable}
use Rattle.sched_table.specs.Schedule.{harts_in}
use Rattle.sched_table.proofs.HartSchedules.{few_harts}
use Rattle.event_orders.specs.Orders.{named}
use Rattle.hart_orders.specs.Order.{cycles_before}
use Rattle.guards.specs.declared.Guard.{Guard}
use Rattle.world_view.specs.Harts.{harts_by}
use Rattle.hart_set.specs.Standing.{StandsFor}
use Rattle.hart_set.specs.declared.set.State.{State}
use Rattle.hart_set.specs.declared.choice.Names.{Names}
use Rattle.hart_set.specs.Slots.{EndsSlot}
use Rattle.hart_set.specs.Models.{image_of, StandsAfter}
use Rattle.hart_set.specs.Choosers.{Owes, left_in, names_in}
use Rattle.hart_set.proofs.DrawnSlots.{OnTheWay, at_first, one_fewer, at_last, over, is_left, few, one_off, last_off, some_events, slot_run}
use Rattle.hart_set.proofs.run.run_drawn.Goals.{then-owed-at-gt1, else-owed-at-gt1+then-owed-at-eq1, else-owed-at-gt1+else-owed-at-eq1}
use Rattle.hart_set.proofs.run.run_drawn.Goals as goal

zeros : (h : ℕ) → slice_index (0 ∷ 0 ∷ 0 ∷ 0 ∷ []) h ≡ 0
zeros zero = refl
zeros (suc zero) = refl
zeros (suc (suc zero)) = refl
zeros (suc (suc (suc zero))) = refl
zeros (suc (suc (suc (suc h)))) = refl

pub loop-init : goal.loop-init
loop-init c =
    let v = c.args.harts.now in
    let n = c.args.slots in
    let accepted = subst (λ (x : Raw). Runnable (image_from x)) c.image.ensures.value c.runnable.ensures.runnable in
    let most =
    c.cycles_before-most.ensures.value
    ∙ ap (λ (x : Raw). cycles_before (image_from x) n (harts_in (image_from x).all.schedule)) c.image-2.ensures.value in
    let first = rw c.from.ensures at c.seeded-words.ensures.value in
    record {
      image = refl;
      all = c.requires.all;
      words = first ∙ sym (after_none _);
      four = refl;
      few = c.left-names.ensures.few;
      way =
          at_first v c.args.seed n (c.cycles_before-most.result - 0) (0 ∷ 0 ∷ 0 ∷ 0 ∷ []) (names_in c.left-names.result) accepted
          (omega (arith, most)) c.requires.first (λ h there. zeros h ∙ sym (at-empty 0 h)) c.left-names.ensures.names;
    }

-- the word is the seed's
word_is : (seed counter w : ℕ) (words : Lcg) → words ≡ after counter (seeded seed) → w ≡ word words 0
    → w ≡ word (seeded seed) counter
word_is seed counter w words so_far value = value ∙ word_here counter (seeded seed) words so_far

pub returns-in_default-clause-slots : goal.returns-in_default-clause-slots
returns-in_default-clause-slots c =
    let v = c.loop.harts in
    let most = c.cycles_before-most.result in
    let inv = c.loop.invariant in
    let names = names_in c.loop.names in
    let way = one_fewer v c.args.seed c.args.slots most c.loop.counter c.loop.owed names c.loop-test.true inv.way in
    over v c.args.seed c.args.slots c.loop.counter (most - (c.loop.counter + 1)) c.loop.owed names way c.draw.result
    (word_is c.args.seed c.loop.counter c.draw.result c.loop.words inv.words c.draw.ensures.value)
    (sym c.named.ensures.named ∙ c.in_default.is)

pub returns-clause-slots : goal.returns-clause-slots
returns-clause-slots c =
    let v = c.loop.harts in
    let names = names_in c.loop.names in
    let none : c.cycles_before-most.result - c.loop.counter ≡ 0 = omega arith in
    at_last v c.args.seed c.args.slots c.loop.counter c.loop.owed names
    (subst (λ (f : ℕ). OnTheWay v c.args.seed c.args.slots c.loop.counter f c.loop.owed names) none c.loop.invariant.way)

-- ---- the hart that the word names

-- by its index in the code's lists
module _ (v : Raw × State) (seed n most counter w h k : ℕ) (owed names : List ℕ) (l : counter < most)
    (was : OnTheWay v seed n counter (most - counter) owed names) (is : named w names ≡ Some h) (index : k ≡ h) where
  abbrev f : ℕ
  f = most - (counter + 1)

  abbrev way : OnTheWay v seed n counter (suc f) owed names
  way = one_fewer v seed n most counter owed names l was

  names_it : named w names ≡ Some k
  names_it = is ∙ ap (λ (x : ℕ). Some x) (sym index)

  below : k < harts_in (image_of v).all.schedule
  below = (is_left v seed n counter f owed names way w k names_it).hart

  within : k < 4
  within =
      let most_harts = few_harts (image_of v).all.schedule was.at.accepted.harts.few in
      let here = below in
      omega (arith, most_harts, here)

  there : h < harts_in (image_of v).all.schedule
  there = subst (λ (x : ℕ). x < harts_in (image_of v).all.schedule) index below

pub bounds-owed-at : goal.bounds-owed-at
bounds-owed-at c =
    within c.loop.harts c.args.seed c.args.slots c.cycles_before-most.result c.loop.counter c.draw.result c.in-Some.h c.from-at.result
    c.loop.owed (names_in c.loop.names) c.loop-test.true c.loop.invariant.way (sym c.named.ensures.named ∙ c.in-Some.is) c.from-at.ensures

pub bounds-owed-at-else-owed-at-gt1 : goal.bounds-owed-at-else-owed-at-gt1
bounds-owed-at-else-owed-at-gt1 c =
    within c.loop.harts c.args.seed c.args.slots c.cycles_before-most.result c.loop.counter c.draw.result c.in-Some.h c.from-at.result
    c.loop.owed (names_in c.loop.names) c.loop-test.true c.loop.invariant.way (sym c.named.ensures.named ∙ c.in-Some.is) c.from-at.ensures

pub bounds-owed-at-else-owed-at-eq1 : goal.bounds-owed-at-else-owed-at-eq1
bounds-owed-at-else-owed-at-eq1 c =
    within c.loop.harts c.args.seed c.args.slots c.cycles_before-most.result c.loop.counter c.draw.result c.in-Some.h c.from-at.result
    c.loop.owed (names_in c.loop.names) c.loop-test.true c.loop.invariant.way (sym c.named.ensures.named ∙ c.in-Some.is) c.from-at.ensures

pub run_counted-requires-clause-hart : goal.run_counted-requires-clause-hart
run_counted-requires-clause-hart c =
    there c.loop.harts c.args.seed c.args.slots c.cycles_before-most.result c.loop.counter c.draw.result c.in-Some.h c.from-at.result
    c.loop.owed (names_in c.loop.names) c.loop-test.true c.loop.invariant.way (sym c.named.ensures.named ∙ c.in-Some.is) c.from-at.ensures

-- it owes nothing, so it has slots left
pub run_counted-requires-clause-moments : goal.run_counted-requires-clause-moments
run_counted-requires-clause-moments c is = absurd (cc (is, c.loop.invariant.all))

pub run_counted-requires-clause-slots : goal.run_counted-requires-clause-slots
run_counted-requires-clause-slots c x got =
    let v = c.loop.harts in
    let inv = c.loop.invariant in
    let names = names_in c.loop.names in
    let most = c.cycles_before-most.result in
    let way = one_fewer v c.args.seed c.args.slots most c.loop.counter c.loop.owed names c.loop-test.true inv.way in
    let none : slice_index c.loop.owed c.from-at.result ≡ 0 = omega (arith, c.if-owed-at-gt1.false, c.if-owed-at-eq1.false) in
    let left =
    few v c.args.seed c.args.slots c.loop.counter (most - (c.loop.counter + 1)) c.loop.owed names way c.draw.result c.in-Some.h
    (word_is c.args.seed c.loop.counter c.draw.result c.loop.words inv.words c.draw.ensures.value)
    (sym c.named.ensures.named ∙ c.in-Some.is)
    (subst (λ (k : ℕ). slice_index c.loop.owed k ≡ 0) c.from-at.ensures none) in
    let own = (way.at.stands.each_hart c.in-Some.h x got).slots in
    omega (arith, left, own, c.requires.few)

pub overflow_sub-owed-else-owed-at-eq1 : goal.overflow_sub-owed-else-owed-at-eq1
overflow_sub-owed-else-owed-at-eq1 c =
    let v = c.loop.harts in
    let inv = c.loop.invariant in
    let names = names_in c.loop.names in
    let most = c.cycles_before-most.result in
    let way = one_fewer v c.args.seed c.args.slots most c.loop.counter c.loop.owed names c.loop-test.true inv.way in
    let ends = c.run_counted.ensures.ends way.at.order way.at.of_harts
    (subst (λ (o : Option Guard). StandsFor (image_of v) (harts_by o (image_of v) way.at.order) v.1) (sym inv.all) way.at.stands) in
    let some =
    some_events v c.args.seed c.args.slots c.loop.counter (most - (c.loop.counter + 1)) c.loop.owed names way c.draw.result c.in-Some.h
    (word_is c.args.seed c.loop.counter c.draw.result c.loop.words inv.words c.draw.ensures.value)
    (sym c.named.ensures.named ∙ c.in-Some.is) c.run_counted.new.self.1 (c.run_counted.ensures.off ∙ inv.all) ends.0 in
    omega (arith, some, ends.1)

-- ---- one draw more

moved : (P : Raw × State → List ℕ → Names → Type 0) (u u' : Raw × State) (o o' : List ℕ) (x x' : Names) → u' ≡ u → o' ≡ o → x' ≡ x
    → P u o x → P u' o' x'
moved P u u' o o' x x' a b d p =
    subst (λ (z : Raw × State). P z o' x') (sym a) (subst (λ (z : List ℕ). P u z x') (sym b) (subst (λ (z : Names). P u o z) (sym d) p))

pub loop-preserved : goal.loop-preserved
loop-preserved c =
    let v = c.loop.harts in
    let n = c.args.slots in
    let seed = c.args.seed in
    let j = c.loop.counter in
    let owed = c.loop.owed in
    let inv = c.loop.invariant in
    let names = names_in c.loop.names in
    let most = c.cycles_before-most.result in
    let f = most - (j + 1) in
    let k = c.from-at.result in
    let w = c.draw.result in
    let is = sym c.named.ensures.named ∙ c.in-Some.is in
    let value = word_is seed j w c.loop.words inv.words c.draw.ensures.value in
    let way = one_fewer v seed n most j owed names c.loop-test.true inv.way in
    let named_k = is ∙ ap (λ (x : ℕ). Some x) (sym c.from-at.ensures) in
    let small = within v seed n most j w c.in-Some.h k owed names c.loop-test.true inv.way is c.from-at.ensures in
    let inside : k < length owed = omega (arith, small, inv.four) in
    let words = c.draw.ensures.drawn ∙ after_next j 1 (j + 1) (seeded seed) c.loop.words inv.words refl in
    let next : suc j ≡ j + 1 = omega arith in
    let P : Raw × State → List ℕ → Names → Type 0 = λ u o x. OnTheWay u seed n (j + 1) f o (names_in x) in
    let on : (u : Raw × State) (o : List ℕ) (x : Names) → OnTheWay u seed n (suc j) f o (names_in x) → P u o x =
    λ u o x one. subst (λ (b : ℕ). OnTheWay u seed n b f o (names_in x)) next one in
    elim c.if-owed-at-gt1.branch [
      | then-owed-at-gt1 b ↦
          let owes : slice_index owed k ≡ suc (slice_index owed k - 1) = omega (arith, b.if-owed-at-gt1) in
          let o = set owed k (slice_index owed k - 1) in
          record {
            image = ap (λ (u : Raw × State). u.0) b.harts-is ∙ inv.image;
            all = ap (λ (u : Raw × State). u.1.off) b.harts-is ∙ inv.all;
            words = words;
            four = ap length b.owed-is ∙ length-set owed k (slice_index owed k - 1) ∙ inv.four;
            few = subst (λ (x : Names). x.many ≤ 4) (sym b.names-is) inv.few;
            way =
                moved P v c.if-owed-at-gt1.harts o c.if-owed-at-gt1.owed c.loop.names c.if-owed-at-gt1.names b.harts-is b.owed-is b.names-is
                (on v o c.loop.names
                (one_off v seed n j f owed names way w k value named_k (slice_index owed k - 1) inside owes (omega (arith, b.if-owed-at-gt1))));
          }
      | else-owed-at-gt1+then-owed-at-eq1 b ↦
          let o = set owed k 0 in
          let x = b.left-names-then-owed-at-eq1.result in
          record {
            image = ap (λ (u : Raw × State). u.0) b.harts-is ∙ inv.image;
            all = ap (λ (u : Raw × State). u.1.off) b.harts-is ∙ inv.all;
            words = words;
            four = ap length b.owed-is ∙ length-set owed k 0 ∙ inv.four;
            few = subst (λ (y : Names). y.many ≤ 4) (sym b.names-is) b.left-names-then-owed-at-eq1.ensures.few;
            way =
                moved P v c.if-owed-at-gt1.harts o c.if-owed-at-gt1.owed x c.if-owed-at-gt1.names b.harts-is b.owed-is b.names-is
                (on v o x
                (last_off v seed n j f owed names way w k value named_k 0 inside (omega (arith, b.if-owed-at-eq1)) (names_in x)
                b.left-names-then-owed-at-eq1.ensures.names));
          }
      | else-owed-at-gt1+else-owed-at-eq1 b ↦
          let u = b.run_counted.new.self in
          let events = b.run_counted.result in
          let o = set owed k (events - 1) in
          let x = b.left-names-else-owed-at-eq1.result in
          let image = b.run_counted.ensures.image in
          let none : slice_index owed k ≡ 0 = omega (arith, b.if-owed-at-gt1, b.if-owed-at-eq1) in
          let still = b.run_counted.ensures.off ∙ inv.all in
          let ends : (ends : EndsSlot (image_of v) way.at.order k u.1) × (ends.events ≡ events) =
          subst (λ (g : ℕ). (ends : EndsSlot (image_of v) way.at.order g u.1) × (ends.events ≡ events)) (sym c.from-at.ensures)
          (b.run_counted.ensures.ends way.at.order way.at.of_harts
          (subst (λ (o : Option Guard). StandsFor (image_of v) (harts_by o (image_of v) way.at.order) v.1) (sym inv.all) way.at.stands)) in
          let counted : events - 1 ≡ ends.0.events - 1 = omega (arith, ends.1) in
          let are =
          subst (λ (y : Raw). (order : List ℕ) (table : Table ℕ) → StandsAfter (y, u.1) order → Owes (image_from y) o table
          → names_in x ≡ left_in (y, u.1) order table n) image b.left-names-else-owed-at-eq1.ensures.names in
          record {
            image = ap (λ (z : Raw × State). z.0) b.harts-is ∙ image ∙ inv.image;
            all = ap (λ (z : Raw × State). z.1.off) b.harts-is ∙ still;
            words = words;
            four = ap length b.owed-is ∙ length-set owed k (events - 1) ∙ inv.four;
            few = subst (λ (y : Names). y.many ≤ 4) (sym b.names-is) b.left-names-else-owed-at-eq1.ensures.few;
            way =
                moved P u c.if-owed-at-gt1.harts o c.if-owed-at-gt1.owed x c.if-owed-at-gt1.names b.harts-is b.owed-is b.names-is
                (on u o x
                (subst (λ (y : Raw). OnTheWay (y, u.1) seed n (suc j) f o (names_in x)) (sym image)
                (slot_run v seed n j f owed names way w k value named_k u.1 still ends.0 (events - 1) (names_in x) counted inside none are)));
          }
    ]

-- Where an image has one hart, the machine that goes from slot to slot is the one that goes from event to event, whichever guards are on.
use Rattle.world_view.specs.Mail.{Came, switched_boxes, came_to}
use Rattle.std.proofs.Common.{◌≡◌, ◌∙◌, ℕ, zero, suc, ◌+◌, ◌-◌, ◌<◌, ◌≤◌, Bool, true, false, List, [], ◌∷◌, ◌++◌, Option, None, Some, inl, inr, ap, ap₂, sym, subst, refl, arith, ltb, ltb-true}
use Rattle.std.specs.Prelude.{if◌then◌else◌}
use Rattle.std.specs.List.{All}
use Rattle.std.proofs.lemmas.Bool.{cases_eq, ltb-false}
use Rattle.std.proofs.lemmas.List.Elements.{All-head, All-tail}
use Rattle.tp_base.specs.Table.{at, put, at-put_same, at-put_other, at-empty}
use Rattle.guards.specs.declared.Guard.{Guard}
use Rattle.mem_system.specs.Cost.{Caches, Touched}
use Rattle.irq_partition.specs.Interrupts.{next_of}
use Rattle.sched_table.specs.Schedule.{entry_of_slot, switch_entry, slot_end, last_end, outgoing, place_on, harts_in}
use Rattle.image_check.specs.Public.{Public}
use Rattle.image_check.specs.Image.{Image, own_of}
use Rattle.image_check.specs.Laws.{Runnable}
use Rattle.call_table.specs.Domain.{Dom, is_running}
use Rattle.world_view.specs.Kernel.{no_dom}
use Rattle.world_view.specs.Event.{Storage, interrupts_of}
use Rattle.world_view.specs.Machine.{Local, World, Guards, guards_of, Owned, if_due, first_of, first_due, delivered, delivered_or_step, step_among, steps_among, open_slot, own_slot, own_step, event_if, slot_if, clock_of, ended_of, dom_of, part_of, with_part, with_hart, with_end, setting_by, step, stretch, switch_work_by, switch_on, switch_by, cycles_on, begins_by, ends_by, noted, opening, run_slot_by, whole_by}
use Rattle.world_view.specs.Harts.{Harts, Progress, IsOnOneHart, IsOutside, image_on, progress_of, slots_of, proceeds, settles, begins, runs, goes_on, next_by, all_cold, harts_by, after_by}
use Rattle.world_view.specs.HartLaws.{AreHartsOf}
use Rattle.world_view.specs.Laws.{SameWorld, WholeLaw}
use Rattle.world_view.proofs.opening.Separate.{Separated, separated}
use Rattle.world_view.proofs.steps.Fuel.{stretch_step, stretch_done}
use Rattle.world_view.proofs.runs.GuardLaws.{open_step, open_done}
use Rattle.world_view.proofs.harts.OnHart.{entry_there}
use Rattle.world_view.proofs.harts.OneHart.{one_hart, all_on_first}
use Rattle.world_view.proofs.harts.Runs.{progress-same}
use Rattle.world_view.proofs.harts.Always.{part-with}

same_trans : (u v w : World) → SameWorld u v → SameWorld v w → SameWorld u w
same_trans u v w h k = record {
  doms = λ d. h.doms d ∙ k.doms d;
  storage = h.storage ∙ k.storage;
  caches = h.caches ∙ k.caches;
  clock = h.clock ∙ k.clock;
  used = h.used ∙ k.used;
  came = h.came ∙ k.came;
}

-- what is done to a domain, on worlds that are the same
same_part : (w v : World) (d : ℕ) (a b : Local) → SameWorld w v → a ≡ b → SameWorld (with_part 0 d w a) (with_part 0 d v b)
unfolding with_part with_hart at put
same_part w v d a b h same = record {
  doms = λ e. elim (cases_eq e d) [
    | inl here ↦
        subst (λ (x : ℕ). dom_of (with_part 0 d w a) x ≡ dom_of (with_part 0 d v b) x) (sym here)
        (at-put_same no_dom w.doms d a.dom ∙ ap (λ (x : Local). x.dom) same ∙ sym (at-put_same no_dom v.doms d b.dom))
    | inr other ↦ at-put_other no_dom w.doms d e a.dom other ∙ h.doms e ∙ sym (at-put_other no_dom v.doms d e b.dom other)
  ];
  storage = ap (λ (x : Local). x.storage) same;
  caches = ap (λ (x : Local). x.caches) same;
  clock = ap (λ (x : Local). x.clock) same;
  used = h.used;
  came = h.came;
}

part_is : (w v : World) (d : ℕ) → SameWorld w v → part_of 0 d w ≡ part_of 0 d v
part_is w v d h =
    ap₂ (λ (x : Dom) (y : Storage). record (part_of 0 d w) { dom = x; storage = y }) (h.doms d) h.storage
    ∙ ap₂ (λ (x : Caches) (y : ℕ). record (part_of 0 d v) { caches = x; clock = y }) h.caches h.clock

-- what is put back as it was found changes nothing
same_put : (w : World) (d : ℕ) → SameWorld (with_part 0 d w (part_of 0 d w)) w
unfolding with_part with_hart at put
same_put w d = record {
  doms = λ e. elim (cases_eq e d) [
    | inl here ↦
        subst (λ (x : ℕ). dom_of (with_part 0 d w (part_of 0 d w)) x ≡ dom_of w x) (sym here)
        (at-put_same no_dom w.doms d (dom_of w d))
    | inr other ↦ at-put_other no_dom w.doms d e (dom_of w d) other
  ];
  storage = refl;
  caches = refl;
  clock = refl;
  used = refl;
  came = refl;
}

-- what is put twice, the second time on what is the same
same_twice : (w : World) (d : ℕ) (a b : Local) → SameWorld (with_part 0 d w b) (with_part 0 d (with_part 0 d w a) b)
unfolding with_part with_hart at put
same_twice w d a b = record {
  doms = λ e. elim (cases_eq e d) [
    | inl here ↦
        subst (λ (x : ℕ). dom_of (with_part 0 d w b) x ≡ dom_of (with_part 0 d (with_part 0 d w a) b) x) (sym here)
        (at-put_same no_dom w.doms d b.dom ∙ sym (at-put_same no_dom (with_part 0 d w a).doms d b.dom))
    | inr other ↦
        at-put_other no_dom w.doms d e b.dom other
        ∙ sym (at-put_other no_dom (with_part 0 d w a).doms d e b.dom other ∙ at-put_other no_dom w.doms d e a.dom other)
  ];
  storage = refl;
  caches = refl;
  clock = refl;
  used = refl;
  came = refl;
}

-- when a slot ended is told nobody
same_end : (w : World) (end : ℕ) → SameWorld (with_end 0 w end) w
unfolding with_end at put
same_end w end = record { doms = λ d. refl; storage = refl; caches = refl; clock = refl; used = refl; came = refl }

same_sym : (w v : World) → SameWorld w v → SameWorld v w
same_sym w v h = record {
  doms = λ d. sym (h.doms d);
  storage = sym h.storage;
  caches = sym h.caches;
  clock = sym h.clock;
  used = sym h.used;
  came = sym h.came;
}

same_refl : (w : World) → SameWorld w w
same_refl w = record { doms = λ d. refl; storage = refl; caches = refl; clock = refl; used = refl; came = refl }

-- ---- what is left of a slot

module _ (i : Image) (r : Separated i) (g : Guards) (d end : ℕ) where
  -- by worlds that are the same it leads to the same

  first_same : (w v : World) → SameWorld w v → (n : ℕ) → first_due i 0 w n ≡ first_due i 0 v n
  unfolding first_due
  first_same w v h zero = refl
  first_same w v h (suc e) =
      ap₂ first_of (first_same w v h e)
      (ap₂ (λ (t : ℕ) (x : Dom). if_due t e (next_of (interrupts_of (own_of i e) x))) h.clock (h.doms e))

  event_same : (w v : World) (o : Option Owned) → SameWorld w v
      → SameWorld (delivered_or_step g i 0 d end w o) (delivered_or_step g i 0 d end v o)
  event_same w v None h =
      same_part w v d (step (setting_by g i d) end (part_of 0 d w)) _ h (ap (step (setting_by g i d) end) (part_is w v d h))
  event_same w v (Some x) h =
      same_part w v x.owner (delivered (setting_by g i d) x.moment.line (part_of 0 x.owner w)) _ h
      (ap (delivered (setting_by g i d) x.moment.line) (part_is w v x.owner h))

  among_same : (w v : World) → SameWorld w v → SameWorld (step_among g i 0 d end w) (step_among g i 0 d end v)
  unfolding step_among
  among_same w v h =
      subst (λ (o : Option Owned). SameWorld (step_among g i 0 d end w) (delivered_or_step g i 0 d end v o))
      (ap₂ (λ (x : Dom) (o : Option Owned). if is_running x.status then o else None) (h.doms d) (first_same w v h i.all.domains))
      (event_same w v (if is_running (dom_of w d).status then first_due i 0 w i.all.domains else None) h)

  both_if : (b : Bool) (x y w v : World) → SameWorld x y → SameWorld w v
      → SameWorld (elim b [ true ↦ x | false ↦ w ]) (elim b [ true ↦ y | false ↦ v ])
  both_if true x y w v h k = h
  both_if false x y w v h k = k

  steps_same : (n : ℕ) (w v : World) → SameWorld w v
      → SameWorld (steps_among g i 0 d end n w) (steps_among g i 0 d end n v)
  unfolding steps_among
  steps_same zero w v h = h
  steps_same (suc n) w v h =
      subst (λ (t : ℕ). SameWorld (steps_among g i 0 d end (suc n) w)
      (elim (ltb t end) [ true ↦ steps_among g i 0 d end n (step_among g i 0 d end v) | false ↦ v ])) h.clock
      (both_if (ltb (clock_of 0 w) end) _ _ w v
      (steps_same n (step_among g i 0 d end w) (step_among g i 0 d end v) (among_same w v h)) h)

  slot_same : (b : Bool) (w v : World) → SameWorld w v → SameWorld (slot_if b g i d end w) (slot_if b g i d end v)
  unfolding own_slot
  slot_same true w v h =
      same_part w v d (stretch (setting_by g i d) end (part_of 0 d w)) _ h (ap (stretch (setting_by g i d) end) (part_is w v d h))
  slot_same false w v h =
      subst (λ (t : ℕ). SameWorld (open_slot g i d end w) (steps_among g i 0 d end (end - t) v)) h.clock
      (steps_same (end - clock_of 0 w) w v h)

  -- it is one event, and then the rest

  own_more : (w : World) → clock_of 0 w < end
      → SameWorld (own_slot g i d end w) (own_slot g i d end (own_step g i 0 d end w))
  unfolding own_slot
  own_more w below =
      let a = step (setting_by g i d) end (part_of 0 d w) in
      let all = stretch (setting_by g i d) end (part_of 0 d w) in
      let rest = stretch (setting_by g i d) end (part_of 0 d (own_step g i 0 d end w)) in
      same_trans _ (with_part 0 d (own_step g i 0 d end w) all) _ (same_twice w d a all)
      (same_part _ _ d all rest (same_refl (own_step g i 0 d end w))
      (stretch_step (setting_by g i d) r.timed end (part_of 0 d w) below
      ∙ ap (stretch (setting_by g i d) end) (sym (part-with 0 d w a))))

  slot_more : (b : Bool) (w : World) → clock_of 0 w < end
      → SameWorld (slot_if b g i d end w) (slot_if b g i d end (event_if b g i 0 d end w))
  slot_more true w below = own_more w below
  slot_more false w below =
      subst (SameWorld (open_slot g i d end w)) (open_step i r g d end w below) (same_refl (open_slot g i d end w))

  -- and nothing, where its end has come

  slot_done : (b : Bool) (w : World) → end ≤ clock_of 0 w → SameWorld (slot_if b g i d end w) w
  unfolding own_slot
  slot_done true w over =
      same_trans _ (with_part 0 d w (part_of 0 d w)) w
      (same_part w w d _ (part_of 0 d w) (same_refl w) (stretch_done (setting_by g i d) r.timed end (part_of 0 d w) over))
      (same_put w d)
  slot_done false w over =
      subst (λ (v : World). SameWorld v w) (sym (open_done i r g d end w over)) (same_refl w)

  -- no event tells when the slot ended

  among_end : (w : World) (o : Option Owned) → ended_of 0 (delivered_or_step g i 0 d end w o) ≡ ended_of 0 w
  unfolding with_part with_hart at put
  among_end w None = refl
  among_end w (Some x) = refl

  event_end : (b : Bool) (w : World) → ended_of 0 (event_if b g i 0 d end w) ≡ ended_of 0 w
  unfolding with_part with_hart at put step_among
  event_end true w = refl
  event_end false w = among_end w (if is_running (dom_of w d).status then first_due i 0 w i.all.domains else None)

-- ---- an image of one hart

module _ (off : Option Guard) (i : Image) (r : Runnable i) (one : IsOnOneHart i) where
  abbrev g : Guards
  g = guards_of off i

  abbrev all : Separated i
  all = separated i r

  on_is : image_on i 0 ≡ i
  on_is = ap (λ (p : Public). record i { all = p }) (one_hart i one).entries

  -- the domain whose slot it is
  abbrev its : ℕ → ℕ
  its k = (entry_of_slot i.all.schedule k).domain

  -- ---- events, by all entries

  -- when a slot ends
  abbrev end_in : Image → Bool → ℕ → World → ℕ
  end_in x b k w = if b then slot_end x.all.schedule k else ended_of 0 w

  -- a world as a slot begins
  abbrev ending_in : Image → Bool → ℕ → World → World
  ending_in x b k w = if b then w else with_end 0 w (ends_by (guards_of off x) x k (clock_of 0 w))

  abbrev begun_in : Image → ℕ → World → World
  begun_in x k w =
      ending_in x (guards_of off x).pad k
      (noted (place_on i.all.schedule 0 (switch_entry x.all.schedule k))
      (cycles_on (guards_of off x) x 0 k w) (switch_on (guards_of off x) x 0 k w))

  abbrev begun : ℕ → World → World
  begun k w = ending_in i g.pad k (switch_by g i k w)

  abbrev end_of : ℕ → World → ℕ
  end_of k w = end_in i g.pad k w

  begins_all : (s : Harts) → let k = slots_of 0 s in
      begins off i 0 s ≡ settles 0 s (begun_in i k s.world) k (end_in i g.pad k (begun_in i k s.world))
  unfolding begins
  begins_all s =
      let k = slots_of 0 s in
      subst (λ (x : Image). begins off i 0 s
      ≡ settles 0 s (begun_in x k s.world) k (end_in x (guards_of off x).pad k (begun_in x k s.world))) on_is refl

  -- each entry stands at its own place
  place_is : (k : ℕ) → place_on i.all.schedule 0 (switch_entry i.all.schedule k) ≡ switch_entry i.all.schedule k
  place_is k =
      subst (λ (x : Image). place_on i.all.schedule 0 (switch_entry x.all.schedule k) ≡ switch_entry x.all.schedule k) on_is
      (all_on_first i.all.schedule one (switch_entry (image_on i 0).all.schedule k) (entry_there i r 0 (omega (arith, one)) k))

  begun_is : (k : ℕ) (w : World) → begun_in i k w ≡ begun k w
  unfolding switch_by
  begun_is k w =
      ap (λ (e : ℕ). ending_in i g.pad k (noted e (cycles_on g i 0 k w) (switch_on g i 0 k w))) (place_is k)

  begins_one : (s : Harts) → let k = slots_of 0 s in
      begins off i 0 s ≡ settles 0 s (begun k s.world) k (end_of k (begun k s.world))
  begins_one s =
      let k = slots_of 0 s in
      begins_all s ∙ ap (λ (w : World). settles 0 s w k (end_of k w)) (begun_is k s.world)

  event : ℕ → World → World
  event k w = event_if g.irq g i 0 (its k) (end_of k w) w

  goes_one : (s : Harts) → let k = slots_of 0 s in
      goes_on off i 0 s ≡ settles 0 s (event k s.world) k (end_of k s.world)
  unfolding goes_on runs event
  goes_one s =
      let k = slots_of 0 s in
      subst (λ (x : Image). goes_on off i 0 s
      ≡ settles 0 s (event_if g.irq g i 0 (entry_of_slot x.all.schedule k).domain (end_in x g.pad k s.world) s.world) k
      (end_in x g.pad k s.world)) on_is refl

  -- ---- a switch

  -- the same world, and where nobody waits also when the last slot ended
  record Between (k : ℕ) (w : World) : Type 0 where
    same : SameWorld (whole_by g i k) w
    ended : g.pad ≡ false → ended_of 0 (whole_by g i k) ≡ ended_of 0 w

  -- as slot k begins
  abbrev before : ℕ → World
  before k = switch_by g i k (whole_by g i k)

  ended_if : (b : Bool) (k : ℕ) (w v : World) → (b ≡ false → ended_of 0 w ≡ ended_of 0 v)
      → (if b then last_end i.all.schedule k else ended_of 0 w) ≡ (if b then last_end i.all.schedule k else ended_of 0 v)
  ended_if true k w v h = refl
  ended_if false k w v h = h refl

  abbrev work : ℕ → Caches → Touched
  work k c = switch_work_by g i (outgoing i.all.schedule k) (its k) c

  switch_same : (k : ℕ) (w : World) → Between k w → SameWorld (before k) (switch_by g i k w)
  unfolding switch_by switch_on with_hart at put
  switch_same k w h = record {
    doms = h.same.doms;
    storage =
        ap (λ (s : Storage). record s { boxes = switched_boxes (outgoing i.all.schedule k) (its k) s.boxes }) h.same.storage;
    came =
        ap₂ (λ (xs : List Came) (s : Storage). xs ++ came_to (outgoing i.all.schedule k) (its k) s.boxes ∷ []) h.same.came
        h.same.storage;
    caches = ap (λ (c : Caches). (work k c).caches) h.same.caches;
    clock = ap₂ (λ (c : Caches) (t : ℕ). begins_by g i k (t + (work k c).cost)) h.same.caches h.same.clock;
    used =
        ap₂ (λ (us : List (ℕ × ℕ)) (n : ℕ). us ++ (switch_entry i.all.schedule k, n) ∷ []) h.same.used
        (ap₂ (λ (done ended : ℕ). done - ended)
        (ap₂ (λ (c : Caches) (t : ℕ). t + (work k c).cost) h.same.caches h.same.clock)
        (ended_if g.pad k (whole_by g i k) w h.ended));
  }

  -- ---- in a slot

  abbrev slot : ℕ → ℕ → World → World
  slot k end w = slot_if g.irq g i (its k) end w

  -- when it ends, as it begins
  abbrev its_end : ℕ → ℕ
  its_end k = ends_by g i k (clock_of 0 (before k))

  -- what is left of it leads where all of it leads
  record Left (k : ℕ) (w : World) : Type 0 where
    end : its_end k ≡ end_of k w
    rest : SameWorld (slot k (its_end k) (before k)) (slot k (its_end k) w)

  ending_same : (b : Bool) (k : ℕ) (w : World) → SameWorld w (ending_in i b k w)
  ending_same true k w = same_refl w
  ending_same false k w = same_sym (with_end 0 w (ends_by g i k (clock_of 0 w))) w (same_end w (ends_by g i k (clock_of 0 w)))

  ends_so : (b : Bool) (k : ℕ) (w : World) → SameWorld (before k) w → g.pad ≡ b
      → its_end k ≡ end_in i b k (ending_in i b k w)
  unfolding with_end at put
  ends_so true k w h t = ap (λ (b : Bool). if b then slot_end i.all.schedule k else clock_of 0 (before k) + (entry_of_slot i.all.schedule k).length) t
  ends_so false k w h t = ap (ends_by g i k) h.clock

  begun_left : (k : ℕ) (w : World) → Between k w → Left k (begun k w)
  begun_left k w h =
      let now = switch_by g i k w in
      let same = switch_same k w h in
      record {
        end = ends_so g.pad k now same refl;
        rest = slot_same i all g (its k) (its_end k) g.irq (before k) (begun k w)
            (same_trans (before k) now (begun k w) same (ending_same g.pad k now));
      }

  end_stays : (b : Bool) (k : ℕ) (w v : World) → ended_of 0 w ≡ ended_of 0 v → end_in i b k w ≡ end_in i b k v
  end_stays true k w v h = refl
  end_stays false k w v h = h

  event_left : (k : ℕ) (w : World) → clock_of 0 w < end_of k w → Left k w → Left k (event k w)
  unfolding event
  event_left k w below h =
      let end = its_end k in
      let stays = end_stays g.pad k w (event k w) (sym (event_end i all g (its k) (end_of k w) g.irq w)) in
      record {
        end = h.end ∙ stays;
        rest =
            same_trans _ (slot k end w) _ h.rest
            (subst (λ (e : ℕ). SameWorld (slot k end w) (slot k end (event_if g.irq g i 0 (its k) e w))) h.end
            (slot_more i all g (its k) end g.irq w (subst (λ (e : ℕ). clock_of 0 w < e) (sym h.end) below)));
      }

  whole_ended : (k : ℕ) → ended_of 0 (whole_by g i (suc k)) ≡ its_end k
  unfolding whole_by run_slot_by with_end at put
  whole_ended k = refl

  end_noted : (b : Bool) (k : ℕ) (w : World) → b ≡ false → end_in i b k w ≡ ended_of 0 w
  end_noted true k w t = cc
  end_noted false k w t = refl

  over_between : (k : ℕ) (w : World) → its_end k ≤ clock_of 0 w → Left k w → Between (suc k) w
  unfolding whole_by run_slot_by
  over_between k w over h =
      let end = its_end k in
      let all_of_it = slot k end (before k) in
      record {
        same =
            same_trans _ all_of_it w (same_end all_of_it end)
            (same_trans all_of_it (slot k end w) w h.rest (slot_done i all g (its k) end g.irq w over));
        ended = λ t. whole_ended k ∙ h.end ∙ end_noted g.pad k w t;
      }

  -- ---- the one is where the other is

  FollowsIf : Bool → ℕ → World → Type 0
  FollowsIf true k w = Left k w × (clock_of 0 w < end_of k w)
  FollowsIf false k w = Between k w

  Follows : Harts → Type 0
  Follows s = FollowsIf (progress_of 0 s).inside (slots_of 0 s) s.world

  proceeds_so : (s : Harts) (w : World) (k : ℕ) (b : Bool) → FollowsIf b k w → Follows (proceeds 0 s w k b)
  unfolding proceeds Follows
  proceeds_so s w k b h = subst (λ (x : Progress). FollowsIf x.inside x.slots w) (sym (progress-same 0 s w k b)) h

  settles_if : (b : Bool) (s : Harts) (w : World) (k : ℕ) → Left k w → ltb (clock_of 0 w) (end_of k w) ≡ b
      → Follows (if b then proceeds 0 s w k true else proceeds 0 s w (suc k) false)
  unfolding FollowsIf
  settles_if true s w k h t = proceeds_so s w k true (h, ltb-true _ _ t)
  settles_if false s w k h t =
      proceeds_so s w (suc k) false
      (over_between k w (subst (λ (e : ℕ). e ≤ clock_of 0 w) (sym h.end) (ltb-false _ _ t)) h)

  settles_so : (s : Harts) (w : World) (k end : ℕ) → Left k w → end ≡ end_of k w → Follows (settles 0 s w k end)
  unfolding settles
  settles_so s w k end h is =
      subst (λ (e : ℕ). Follows (settles 0 s w k e)) (sym is) (settles_if (ltb (clock_of 0 w) (end_of k w)) s w k h refl)

  first_so : Follows (harts_by off i [])
  unfolding Follows FollowsIf harts_by after_by whole_by opening all_cold
  first_so =
      subst (λ (x : Progress). FollowsIf x.inside x.slots (all_cold i (harts_in i.all.schedule)))
      (sym (at-empty (record { slots = 0; inside = false }) 0))
      (subst (λ (n : ℕ). Between 0 (all_cold i n)) (sym one) (record { same = same_refl (opening i); ended = λ t. refl }))

  next_if : (b : Bool) (s : Harts) → FollowsIf b (slots_of 0 s) s.world
      → Follows (if b then goes_on off i 0 s else begins off i 0 s)
  unfolding FollowsIf event
  next_if true s h =
      let k = slots_of 0 s in
      let stays = end_stays g.pad k s.world (event k s.world) (sym (event_end i all g (its k) (end_of k s.world) g.irq s.world)) in
      subst Follows (sym (goes_one s))
      (settles_so s (event k s.world) k (end_of k s.world) (event_left k s.world h.1 h.0) stays)
  next_if false s h =
      let k = slots_of 0 s in
      subst Follows (sym (begins_one s))
      (settles_so s (begun k s.world) k (end_of k (begun k s.world)) (begun_left k s.world h) refl)

  next_so : (s : Harts) → Follows s → Follows (next_by off i 0 s)
  unfolding Follows next_by
  next_so s h = next_if (progress_of 0 s).inside s h

  after_so : (order : List ℕ) (s : Harts) → All (λ h. h < harts_in i.all.schedule) order → Follows s
      → Follows (after_by off i order s)
  unfolding after_by
  after_so [] s below h = h
  after_so (x ∷ xs) s below h =
      let here = All-head (λ (n : ℕ). n < harts_in i.all.schedule) x xs below in
      after_so xs (next_by off i x s) (All-tail (λ (n : ℕ). n < harts_in i.all.schedule) x xs below)
      (subst (λ (n : ℕ). Follows (next_by off i n s)) (omega (arith, here, one)) (next_so s h))

  follows : (order : List ℕ) → AreHartsOf i order → Follows (harts_by off i order)
  unfolding harts_by after_by
  follows order below = after_so order (harts_by off i []) below first_so

  -- its next switch, too
  settles_world : (b : Bool) (s : Harts) (w : World) (k : ℕ)
      → (if b then proceeds 0 s w k true else proceeds 0 s w (suc k) false).world ≡ w
  unfolding proceeds
  settles_world true s w k = refl
  settles_world false s w k = refl

  switches : (s : Harts) → (progress_of 0 s).inside ≡ false → Follows s
      → SameWorld (before (slots_of 0 s)) (next_by off i 0 s).world
  unfolding Follows FollowsIf next_by settles
  switches s outside h =
      let k = slots_of 0 s in
      let w = begun k s.world in
      let apart = subst (λ (b : Bool). FollowsIf b k s.world) outside h in
      let now = switch_by g i k s.world in
      subst (λ (v : World). SameWorld (before k) v)
      (sym (ap (λ (b : Bool). (if b then goes_on off i 0 s else begins off i 0 s).world) outside
      ∙ ap (λ (t : Harts). t.world) (begins_one s)
      ∙ settles_world (ltb (clock_of 0 w) (end_of k w)) s w k))
      (same_trans (before k) now w (switch_same k s.world apart) (ending_same g.pad k now))

pub switch_law : (off : Option Guard) (i : Image) (order : List ℕ) (r : Runnable i) → IsOnOneHart i → AreHartsOf i order →
    let s = harts_by off i order in
    IsOutside 0 s
    → SameWorld (switch_by (guards_of off i) i (slots_of 0 s) (whole_by (guards_of off i) i (slots_of 0 s)))
    (next_by off i 0 s).world
switch_law off i order r one below outside = switches off i r one (harts_by off i order) outside (follows off i r one order below)

pub whole_law : WholeLaw
unfolding Follows FollowsIf
whole_law off i order r one below outside =
    let s = harts_by off i order in
    (subst (λ (b : Bool). FollowsIf off i r one b (slots_of 0 s) s.world) outside (follows off i r one order below)).same

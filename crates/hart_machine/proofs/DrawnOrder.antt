-- The order that a seed draws is the one that its words draw of the machine's harts.
use Rattle.std.proofs.Common.{◌≡◌, ◌∙◌, ℕ, zero, suc, List, [], ◌∷◌, ◌++◌, Option, Some, None, ap, sym, refl, subst, arith}
use Rattle.std.specs.Prelude.{if◌then◌else◌}
use Rattle.seed_words.specs.Words.{seeded, word}
use Rattle.event_orders.specs.Orders.{passing, named, has_left, drawn_events}
use Rattle.event_orders.specs.Laws.{SameEnd, AreThrough}
use Rattle.event_orders.proofs.Drawn.{drawn_law}
use Rattle.image_check.specs.Image.{Image}
use Rattle.sched_table.specs.Schedule.{harts_in}
use Rattle.world_view.specs.Harts.{Harts, next, after, harts, harts_by, after_by}
use Rattle.hart_orders.specs.declared.choice.Choice.TheVariants.{Drawn}
use Rattle.hart_orders.specs.Order.{left, drawn, chosen, next_hart, events_from, cycles_before, order_of, ran}
use Rattle.hart_orders.proofs.RunThrough.{event_if, through}
use Rattle.hart_machine.specs.HartMachine.{machine_of}
use Rattle.hart_machine.specs.Laws.{enough, words_from, drawn_slot_by_slot, DrawnBySlotsLaw}
use Rattle.hart_machine.proofs.IsMachine.{is_machine}
use Rattle.hart_machine.proofs.LeastClock.{cycles_are}
use Rattle.hart_machine.proofs.Reports.{same_report, first_reached, first_between}

module _ (i : Image) (seed n : ℕ) where
  -- the harts that have slots left
  left_are : (s : Harts) (b : ℕ) → passing (has_left (machine_of i) n s) b ≡ left n s b
  unfolding passing left
  left_are s zero = refl
  left_are s (suc b) =
      ap (λ (hs : List ℕ). if has_left (machine_of i) n s b then hs ++ b ∷ [] else hs) (left_are s b)

  -- who a word names
  named_is : (j : ℕ) (s : Harts)
      → named (word (seeded seed) j) (passing (has_left (machine_of i) n s) (harts_in i.all.schedule))
      ≡ next_hart i (Drawn seed) n j s
  unfolding chosen drawn
  named_is j s = ap (named (word (seeded seed) j)) (left_are s (harts_in i.all.schedule))

  abbrev events_if : List ℕ → Harts → Option ℕ → Harts
  events_if words s o = elim o [ None ↦ s | Some h ↦ drawn_events (machine_of i) n words (next i h s) ]

  events_are_if : (f j : ℕ) (s : Harts)
      → ((t : Harts) → drawn_events (machine_of i) n (words_from seed (suc j) f) t ≡ after i (events_from i (Drawn seed) n f (suc j) t) t)
      → (o : Option ℕ) → events_if (words_from seed (suc j) f) s o ≡ after i (event_if i (Drawn seed) n f j s o) s
  unfolding after_by
  events_are_if f j s rest None = refl
  events_are_if f j s rest (Some h) = rest (next i h s)

  events_are : (f j : ℕ) (s : Harts)
      → drawn_events (machine_of i) n (words_from seed j f) s ≡ after i (events_from i (Drawn seed) n f j s) s
  unfolding words_from drawn_events events_from after_by
  events_are zero j s = refl
  events_are (suc f) j s =
      ap (events_if (words_from seed (suc j) f) s) (named_is j s)
      ∙ events_are_if f j s (events_are f (suc j)) (next_hart i (Drawn seed) n j s)

  drawn_order : drawn_events (machine_of i) n (words_from seed 0 (enough i n)) (harts i []) ≡ harts i (order_of i (Drawn seed) n)
  unfolding order_of harts_by after_by
  drawn_order =
      ap (λ (f : ℕ). drawn_events (machine_of i) n (words_from seed 0 f) (harts i []))
      (cycles_are i n (harts_in i.all.schedule) (omega arith))
      ∙ events_are (cycles_before i n (harts_in i.all.schedule)) 0 (harts i [])

pub drawn_by_slots : DrawnBySlotsLaw
unfolding ran
drawn_by_slots i seed n r =
    let m = machine_of i in
    let order = order_of i (Drawn seed) n in
    let s = drawn_slot_by_slot i seed n in
    let all : AreThrough m n (harts i order) =
    λ h there. let is = (through i (Drawn seed) n h r there).0 in omega (arith, is) in
    let end : SameEnd m (harts i order) s =
    subst (λ (w : Harts). SameEnd m w s) (drawn_order i seed n)
    (drawn_law m (is_machine i r) n (words_from seed 0 (enough i n)) (harts i []) (first_reached i r) (first_between i r)
    (subst (AreThrough m n) (sym (drawn_order i seed n)) all)) in
    (same_report i r (harts i order) s.world end.alike, end.paid)

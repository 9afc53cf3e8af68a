-- What is seen after the order of a choice, whatever the choice.
use Rattle.std.proofs.Common.{None, ◌≡◌, ◌∙◌, ℕ, ◌<◌, Bool, true, false, List, ap, refl, subst, arith}
use Rattle.sched_table.specs.Schedule.{harts_in}
use Rattle.image_check.specs.Image.{Image}
use Rattle.image_check.specs.Laws.{Runnable}
use Rattle.world_view.specs.Machine.{whole, arrivals}
use Rattle.world_view.specs.Harts.{progress_of, harts, view_on, view_mailed_on, view_alone_on, hart_of_domain}
use Rattle.world_view.specs.HartLaws.{AreHartsOf, IsBetween}
use Rattle.world_view.specs.Laws.{SameWorld}
use Rattle.world_view.proofs.harts.Runs.{home}
use Rattle.world_view.proofs.harts.Isolation.{hart_mail, hart_isolation, hart_pads, hart_largest}
use Rattle.world_view.proofs.harts.Clocks.{hart_begun}
use Rattle.world_view.proofs.harts.Whole.{whole_law}
use Rattle.hart_orders.specs.Order.{order_of, ran}
use Rattle.hart_orders.specs.Laws.{ChoiceMailLaw, ChoiceLaw, ChoicePadLaw, ChoiceLargestLaw, OneHartLaw}
use Rattle.hart_orders.proofs.RunThrough.{harts_law, through}

pub choice_mail : ChoiceMailLaw
unfolding ran view_on
choice_mail i c n d r id =
    let order = order_of i c n in
    let there = through i c n (hart_of_domain i d) r (home i r d) in
    hart_mail i d order r id (harts_law i c n) there.1
    ∙ ap (view_mailed_on i d (arrivals d (harts i order).world)) there.0

pub choice_law : ChoiceLaw
unfolding ran view_on
choice_law i c n d r id none =
    let there = through i c n (hart_of_domain i d) r (home i r d) in
    hart_isolation i d (order_of i c n) r id none (harts_law i c n) there.1 ∙ ap (view_alone_on i d) there.0

pub choice_pad : ChoicePadLaw
unfolding ran
choice_pad i c n r = hart_pads i (order_of i c n) r (harts_law i c n)

pub choice_largest : ChoiceLargestLaw
unfolding ran
choice_largest i c n e r = hart_largest i (order_of i c n) e r (harts_law i c n)

-- a hart that has not begun its next slot is in none
outside_if : (i : Image) (h : ℕ) (order : List ℕ) → Runnable i → AreHartsOf i order → h < harts_in i.all.schedule
    → IsBetween i h (harts i order) → (b : Bool) → (progress_of h (harts i order)).inside ≡ b → b ≡ false
outside_if i h order r below is between true t =
    let begun = hart_begun i h order r below is t in
    absurd (omega (arith, begun, between))
outside_if i h order r below is between false t = refl

pub one_hart_run : OneHartLaw
unfolding ran
one_hart_run i c n r one =
    let order = order_of i c n in
    let below = harts_law i c n in
    let is : 0 < harts_in i.all.schedule = omega (arith, one) in
    let there = through i c n 0 r is in
    let outside = outside_if i 0 order r below is there.1 (progress_of 0 (harts i order)).inside refl in
    subst (λ (k : ℕ). SameWorld (whole i k) (harts i order).world) there.0 (whole_law None i order r one below outside)

-- What waits in a box, and what came to a domain, after one event: only switches of the two harts change it.
use Rattle.std.proofs.Common.{◌≡◌, ◌++◌, ℕ, zero, suc, ◌<◌, ◌≤◌, List, [], ◌∷◌, Some, inl, inr, ap, sym, ◌∙◌, refl, subst, arith}
use Rattle.std.specs.Prelude.{slice_get, option_map}
use Rattle.std.specs.List.{All}
use Rattle.std.proofs.lemmas.List.Elements.{All-nil}
use Rattle.std.proofs.lemmas.Option.{same_Some, slice_get-map}
use Rattle.sched_table.specs.Schedule.{outgoing, harts_in}
use Rattle.image_check.specs.Image.{Image}
use Rattle.image_check.specs.Laws.{Runnable}
use Rattle.mail_slots.specs.Boxes.{Mailbox}
use Rattle.mail_slots.specs.Laws.{pair_of, pairs_of}
use Rattle.world_view.specs.Mail.{arrivals_in, came_to}
use Rattle.world_view.specs.Machine.{arrivals}
use Rattle.world_view.specs.Relations.{IsDomain}
use Rattle.world_view.specs.Harts.{Harts, image_on, domain_in, hart_of_domain, domain_on, slots_of, switches_of, next, harts, harts_by, after_by}
use Rattle.world_view.specs.Laws.{leaves_on}
use Rattle.world_view.proofs.runs.Arrivals.{none_more}
use Rattle.world_view.proofs.harts.OnHart.{separated_on, hart_is}
use Rattle.world_view.proofs.harts.Runs.{Running, came_cold, next_so}
use Rattle.world_view.proofs.harts.Always.{always}
use Rattle.world_view.proofs.mail.Moves.{some_or_none}
use Rattle.world_view.proofs.mail.BoxEvents.{in_or_out, slot_came, switched_came, enters_or_not, goes_or_not, leaves_so, before_at}
use Rattle.world_view.proofs.mail.Waiting.{waits_law}
use Rattle.mail_orders.proofs.Counts.{IsSwitch, switch_or_not, count_outside, count_stays, count_more, count_rises}

-- who leaves at a hart's switch is a domain of it, and a slot has ended
pub record IsLeaver (i : Image) (h k e : ℕ) : Type 0 where
  pub some : 0 < k
  pub domain : IsDomain i e
  pub hart : hart_of_domain i e ≡ h

pub leaver : (i : Image) (r : Runnable i) (h : ℕ) → h < harts_in i.all.schedule → (k e : ℕ)
    → outgoing (image_on i h).all.schedule k ≡ Some e → IsLeaver i h k e
leaver i r h is zero e out = absurd (cc out)
leaver i r h is (suc k) e out =
    let same : domain_in i h k ≡ e = same_Some _ _ out in
    record {
      some = omega arith;
      domain = subst (IsDomain i) same ((separated_on i r h is).named k);
      hart = ap (hart_of_domain i) (sym same) ∙ hart_is i r h is k;
    }

-- a box leads from whom and to whom the image says
pub mail_of : (i : Image) (r : Runnable i) (s : Harts) → Running i r s → (a : ℕ) (x : Mailbox)
    → slice_get s.world.storage.boxes a ≡ Some x → slice_get i.all.mail a ≡ Some (pair_of x)
unfolding pairs_of
mail_of i r s was a x at =
    ap (λ (mail : List (ℕ × ℕ)). slice_get mail a) (sym was.pairs)
    ∙ slice_get-map pair_of s.world.storage.boxes a ∙ ap (option_map pair_of) at

pub ends_of : (i : Image) (r : Runnable i) (s : Harts) → Running i r s → (a e f : ℕ) (x : Mailbox)
    → slice_get i.all.mail a ≡ Some (e, f) → slice_get s.world.storage.boxes a ≡ Some x → pair_of x ≡ (e, f)
ends_of i r s was a e f x mail at = same_Some _ _ (sym (mail_of i r s was a x at) ∙ mail)

module _ (i : Image) (r : Runnable i) (x : ℕ) (is : x < harts_in i.all.schedule) (s : Harts) (was : Running i r s) where
  -- what came to a domain stays but for a switch of its hart
  pub came_stays : (f : ℕ) → (IsSwitch (hart_of_domain i f) x s → ⊥)
      → arrivals f (next i x s).world ≡ arrivals f s.world
  came_stays f none = elim (in_or_out i x s) [
    | inl within ↦ ap (arrivals_in f) (slot_came i x s within)
    | inr outside ↦
        ap (arrivals_in f) (switched_came i x s outside)
        ∙ none_more f s.world.came (came_to (leaves_on i x s) (domain_on i x s) s.world.storage.boxes)
        (λ same. none (record { hart = sym (ap (hart_of_domain i) (sym same) ∙ hart_is i r x is (slots_of x s)); outside = outside }))
  ]

  leaves_here : (e : ℕ) → leaves_on i x s ≡ Some e → IsLeaver i x (slots_of x s) e
  leaves_here e out = leaver i r x is (slots_of x s) e out

  -- a box that had these words waiting before
  pub record HadWaiting (a : ℕ) (later : Mailbox) : Type 0 where
    pub box : Mailbox
    pub there : slice_get s.world.storage.boxes a ≡ Some box
    pub sent : later.sent ≡ box.sent

  -- what waits in a box stays but for a switch of its sender's hart or of its receiver's
  pub waits_still : (a e f : ℕ) → slice_get i.all.mail a ≡ Some (e, f)
      → (IsSwitch (hart_of_domain i e) x s → ⊥) → (IsSwitch (hart_of_domain i f) x s → ⊥) → (later : Mailbox)
      → slice_get (next i x s).world.storage.boxes a ≡ Some later → HadWaiting a later
  waits_still a e f mail no_e no_f later at =
      let b = before_at i x a s r is was later at in
      let ends = ends_of i r s was a e f b.box mail b.there in
      record {
        box = b.box;
        there = b.there;
        sent = b.stayed
            (λ words g.
            let who = leaves_so i x s a b.box b.there words g ∙ ap (λ (p : ℕ × ℕ). Some p.0) ends in
            no_e (record { hart = sym (leaves_here e who).hart; outside = g.leaves.outside }))
            (λ enters.
            let who = enters.who ∙ ap (λ (p : ℕ × ℕ). p.1) ends in
            no_f (record { hart = sym (ap (hart_of_domain i) (sym who) ∙ hart_is i r x is (slots_of x s)); outside = enters.outside }));
      }

-- ---- before its hart's boot nothing has come to a domain

module _ (i : Image) (r : Runnable i) where
  abbrev pub NoneCame : Harts → Type 0
  NoneCame s = (f : ℕ) → switches_of (hart_of_domain i f) s ≡ 0 → arrivals f s.world ≡ []

  first_came : NoneCame (harts i [])
  unfolding harts_by after_by arrivals_in
  first_came f none = ap (arrivals_in f) (came_cold i (harts_in i.all.schedule))

  came_if : (x : ℕ) → x < harts_in i.all.schedule → (s : Harts) → Running i r s → NoneCame s → NoneCame (next i x s)
  came_if x is s was before f none = elim (switch_or_not i (hart_of_domain i f) x s) [
    | inl w ↦ let more = count_more i r x is s was (hart_of_domain i f) w in absurd (omega (arith, more, none))
    | inr not ↦
        came_stays i r x is s was f not
        ∙ before f (sym (count_stays i r x is s was (hart_of_domain i f) not) ∙ none)
  ]

  pub none_came : (order : List ℕ) → All (λ (h : ℕ). h < harts_in i.all.schedule) order → NoneCame (harts i order)
  none_came order below = always i r NoneCame came_if first_came order below

-- ---- before a slot of its sender's hart has ended nothing waits in a box

module _ (i : Image) (r : Runnable i) where
  abbrev pub NoneSent : Harts → Type 0
  NoneSent s = (a : ℕ) (box : Mailbox) → slice_get s.world.storage.boxes a ≡ Some box
      → switches_of (hart_of_domain i box.from) s ≤ 1 → box.sent ≡ []

  not_nothing : (ys : List ℕ) (y : ℕ) (zs : List ℕ) → [] ≡ ys ++ y ∷ zs → ⊥
  not_nothing [] y zs e = cc e
  not_nothing (x ∷ ys) y zs e = cc e

  first_none : NoneSent (harts i [])
  first_none a box at few = elim (some_or_none box.sent) [
    | inl some ↦
        let went = waits_law i a [] box r (All-nil (λ (h : ℕ). h < harts_in i.all.schedule)) at some in
        absurd (not_nothing went.before went.hart went.later went.split)
    | inr none ↦ none
  ]

  module _ (x : ℕ) (is : x < harts_in i.all.schedule) (s : Harts) (was : Running i r s) (before : NoneSent s) where
    still_none : NoneSent (next i x s)
    still_none a later at few =
        let b = before_at i x a s r is was later at in
        let ends : pair_of later ≡ pair_of b.box =
        ends_of i r (next i x s) (next_so i r x is s was).running a b.box.from b.box.to later (mail_of i r s was a b.box b.there) at in
        let from = ap (λ (p : ℕ × ℕ). hart_of_domain i p.0) ends in
        let same = ap (λ (h : ℕ). switches_of h (next i x s)) from in
        elim (enters_or_not i x s b.box.to) [
          | inl enters ↦ b.entered enters
          | inr not ↦ elim (goes_or_not i x s a b.box b.there) [
            | inl goes ↦
                let who = leaver i r x is (slots_of x s) b.box.from (leaves_so i x s a b.box b.there b.box.out goes) in
                let some = who.some in
                let here = count_outside x s goes.leaves.outside in
                let now = count_more i r x is s was x (record { hart = refl; outside = goes.leaves.outside }) in
                let its = ap (λ (h : ℕ). switches_of h (next i x s)) who.hart in
                absurd (omega (arith, few, same, its, now, here, some))
            | inr none ↦
                let rises = count_rises i r x is s was (hart_of_domain i b.box.from) in
                b.stayed none not ∙ before a b.box b.there (omega (arith, few, same, rises))
          ]
        ]

  pub none_sent : (order : List ℕ) → All (λ (h : ℕ). h < harts_in i.all.schedule) order → NoneSent (harts i order)
  none_sent order below = always i r NoneSent still_none first_none order below

-- What one event does to a box and to what came: in a slot nothing goes off, waits no more, or comes.
use Rattle.std.proofs.Common.{◌≡◌, ◌≢◌, ◌⊎◌, ◌++◌, ℕ, zero, suc, ◌<◌, Bool, true, false, List, [], ◌∷◌, Option, Some, None, inl, inr, ap, sym, ◌∙◌, refl}
use Rattle.std.specs.Prelude.{slice_get}
use Rattle.std.proofs.lemmas.Bool.{cases_eq, true≢false}
use Rattle.std.proofs.lemmas.Option.{same_Some}
use Rattle.sched_table.specs.Schedule.{harts_in}
use Rattle.image_check.specs.Image.{Image}
use Rattle.image_check.specs.Laws.{Runnable}
use Rattle.mail_slots.specs.Boxes.{Mailbox, Boxes}
use Rattle.mail_slots.specs.Sides.{others_side}
use Rattle.mail_slots.proofs.Sides.{same_heads, same_tails}
use Rattle.world_view.specs.Mail.{switched_boxes, came_to}
use Rattle.world_view.specs.Machine.{World, with_part, with_hart, guarded, switch_on}
use Rattle.world_view.specs.Harts.{Harts, IsInSlot, IsOutside, domain_on, owner_on, slot_end_on, local_on, progress_of, runs, next}
use Rattle.world_view.specs.Laws.{leaves_on}
use Rattle.world_view.specs.MailLaws.{Enters, GoesOff, NoneGoesOff}
use Rattle.world_view.proofs.opening.Separate.{separated}
use Rattle.world_view.proofs.opening.OpeningFacts.{kernel_of}
use Rattle.world_view.proofs.steps.StepLaws.{keeps_itself, step_keeps}
use Rattle.world_view.proofs.harts.Runs.{Running}
use Rattle.world_view.proofs.harts.Always.{next_in, next_out, named, its_facts}
use Rattle.world_view.proofs.mail.Moves.{some_or_none, left_off, left_waiting, box_left, box_switched, switched_to, switched_own, switched_other, switched_at, changed_from}

-- ---- where all but one domain's side of the boxes stays

-- a box as it was, with what waits in it
pub record Was (a : ℕ) (later : Mailbox) (boxes : Boxes) : Type 0 where
  pub box : Mailbox
  pub there : slice_get boxes a ≡ Some box
  pub to : later.to ≡ box.to
  pub sent : later.sent ≡ box.sent

pub others_was : (n a : ℕ) (after boxes : Boxes) (later : Mailbox) → others_side n after ≡ others_side n boxes
    → slice_get after a ≡ Some later → Was a later boxes
unfolding others_side
others_was n a [] boxes later same is = absurd (cc is)
others_was n a (x ∷ xs) [] later same is = absurd (cc same)
others_was n zero (x ∷ xs) (y ∷ ys) later same is =
    let head = same_heads _ _ _ _ same in
    let its : later ≡ x = sym (same_Some _ _ is) in
    record {
      box = y;
      there = refl;
      to = ap (λ (b : Mailbox). b.to) its ∙ ap (λ (b : Mailbox). b.to) head;
      sent = ap (λ (b : Mailbox). b.sent) its ∙ ap (λ (b : Mailbox). b.sent) head;
    }
others_was n (suc a) (x ∷ xs) (y ∷ ys) later same is =
    let was = others_was n a xs ys later (same_tails _ _ _ _ same) is in
    record { box = was.box; there = was.there; to = was.to; sent = was.sent }

-- ---- a hart's next event

module _ (i : Image) (h : ℕ) (s : Harts) where
  abbrev boxes : Boxes
  boxes = s.world.storage.boxes

  pub switched_are : IsOutside h s
      → (next i h s).world.storage.boxes ≡ switched_boxes (leaves_on i h s) (domain_on i h s) boxes
  unfolding switch_on with_hart
  switched_are outside = ap (λ (w : World). w.storage.boxes) (next_out i h s outside)

  pub switched_came : IsOutside h s
      → (next i h s).world.came ≡ s.world.came ++ came_to (leaves_on i h s) (domain_on i h s) boxes ∷ []
  unfolding switch_on with_hart
  switched_came outside = ap (λ (w : World). w.came) (next_out i h s outside)

  pub slot_came : IsInSlot h s → (next i h s).world.came ≡ s.world.came
  unfolding runs with_part with_hart guarded
  slot_came within = ap (λ (w : World). w.came) (next_in i h s within)

  -- in a slot no hart has a switch
  apart : IsInSlot h s → IsOutside h s → ⊥
  apart within outside = true≢false (sym within ∙ outside)

  pub in_or_out : IsInSlot h s ⊎ IsOutside h s
  in_or_out = by_inside (progress_of h s).inside refl
    where
      by_inside : (b : Bool) → (progress_of h s).inside ≡ b → IsInSlot h s ⊎ IsOutside h s
      by_inside true t = inl t
      by_inside false t = inr t

  pub enters_or_not : (d : ℕ) → Enters i h d s ⊎ (Enters i h d s → ⊥)
  enters_or_not d = elim in_or_out [
    | inl within ↦ inr (λ e. apart within e.outside)
    | inr outside ↦ elim (cases_eq (domain_on i h s) d) [
      | inl same ↦ inl (record { outside = outside; who = same })
      | inr other ↦ inr (λ e. other e.who)
    ]
  ]

  module _ (a : ℕ) (b : Mailbox) (there : slice_get boxes a ≡ Some b) where
    -- the box of which it is told
    its : (x : Mailbox) → slice_get boxes a ≡ Some x → x ≡ b
    its x is = same_Some _ _ (sym is ∙ there)

    pub leaves_so : (words : List ℕ) → GoesOff i h a words s → leaves_on i h s ≡ Some b.from
    leaves_so words g = g.leaves.who ∙ ap (λ (x : Mailbox). Some x.from) (its g.box g.there)

    pub put_in_so : (words : List ℕ) → GoesOff i h a words s → b.out ≡ words
    put_in_so words g = ap (λ (x : Mailbox). x.out) (sym (its g.box g.there)) ∙ g.put_in

    goes_so : IsOutside h s → leaves_on i h s ≡ Some b.from → b.out ≢ [] → GoesOff i h a b.out s
    goes_so outside who some =
        record { box = b; there = there; leaves = record { outside = outside; who = who }; put_in = refl; some = some }

    -- where nothing goes off from it, who leaves put in nothing
    pub none_so : IsOutside h s → NoneGoesOff i h a s → leaves_on i h s ≡ Some b.from → b.out ≡ []
    none_so outside none who = elim (some_or_none b.out) [
      | inl some ↦ absurd (none b.out (goes_so outside who some))
      | inr empty ↦ empty
    ]

    none_by : (leaves_on i h s ≡ Some b.from → b.out ≡ []) → NoneGoesOff i h a s
    none_by none words g = g.some (sym (put_in_so words g) ∙ none (leaves_so words g))

    by_leaver : IsOutside h s → (o : Option ℕ) → leaves_on i h s ≡ o → GoesOff i h a b.out s ⊎ NoneGoesOff i h a s
    by_leaver outside None is = inr (none_by (λ q. absurd (cc (sym is ∙ q))))
    by_leaver outside (Some e) is = elim (cases_eq e b.from) [
      | inl same ↦ elim (some_or_none b.out) [
        | inl some ↦ inl (goes_so outside (is ∙ ap (λ (n : ℕ). Some n) same) some)
        | inr empty ↦ inr (none_by (λ q. empty))
      ]
      | inr other ↦ inr (none_by (λ q. absurd (other (same_Some _ _ (sym is ∙ q)))))
    ]

    pub goes_or_not : GoesOff i h a b.out s ⊎ NoneGoesOff i h a s
    goes_or_not = elim in_or_out [
      | inl within ↦ inr (λ words g. apart within g.leaves.outside)
      | inr outside ↦ by_leaver outside (leaves_on i h s) refl
    ]

-- ---- what waits in a box after it

module _ (i : Image) (h a : ℕ) (s : Harts) where
  pub record Before (later : Mailbox) : Type 0 where
    pub box : Mailbox
    pub there : slice_get s.world.storage.boxes a ≡ Some box
    pub to : later.to ≡ box.to
    pub went : GoesOff i h a box.out s → (Enters i h box.to s → ⊥) → later.sent ≡ box.out
    pub stayed : NoneGoesOff i h a s → (Enters i h box.to s → ⊥) → later.sent ≡ box.sent
    pub entered : Enters i h box.to s → later.sent ≡ []

  -- a switch
  before_out : IsOutside h s → (later b : Mailbox) → slice_get s.world.storage.boxes a ≡ Some b
      → box_switched (leaves_on i h s) (domain_on i h s) b ≡ later → Before later
  before_out outside later b there is =
      let out = leaves_on i h s in
      let into = domain_on i h s in
      let other : (Enters i h b.to s → ⊥) → later.sent ≡ (box_left out b).sent =
      λ not. ap (λ (x : Mailbox). x.sent) (sym is) ∙ switched_other out into b (λ q. not (record { outside = outside; who = q })) in
      record {
        box = b;
        there = there;
        to = ap (λ (x : Mailbox). x.to) (sym is) ∙ switched_to out into b;
        went = λ g not. other not ∙ left_off out b (leaves_so i h s a b there b.out g) g.some;
        stayed = λ none not. other not ∙ left_waiting out b (none_so i h s a b there outside none);
        entered = λ e. ap (λ (x : Mailbox). x.sent) (sym is) ∙ switched_own out into b e.who;
      }

  -- an event of a slot
  before_in : IsInSlot h s → (later : Mailbox) → Was a later s.world.storage.boxes → Before later
  before_in within later was = record {
    box = was.box;
    there = was.there;
    to = was.to;
    went = λ g not. absurd (apart i h s within g.leaves.outside);
    stayed = λ none not. was.sent;
    entered = λ e. absurd (apart i h s within e.outside);
  }

  module _ (r : Runnable i) (is : h < harts_in i.all.schedule) (was : Running i r s) where
    -- in a slot all but its domain's side of the boxes stays
    slot_others : IsInSlot h s
        → let n = (owner_on i h s).number in others_side n (next i h s).world.storage.boxes ≡ others_side n s.world.storage.boxes
    unfolding runs with_part with_hart guarded
    slot_others within =
        let p = i.all.hardware in
        let o = owner_on i h s in
        let kernel = kernel_of i (separated i r) (domain_on i h s) (named i r h is s was) in
        ap (λ (w : World). others_side o.number w.storage.boxes) (next_in i h s within)
        ∙ (step_keeps p o kernel false (slot_end_on i h s) s.world.storage (local_on i h s)
        (keeps_itself p o (local_on i h s) (its_facts i r h is s was))).others

    pub before_at : (later : Mailbox) → slice_get (next i h s).world.storage.boxes a ≡ Some later → Before later
    before_at later at = elim (in_or_out i h s) [
      | inl within ↦ before_in within later (others_was (owner_on i h s).number a _ _ later (slot_others within) at)
      | inr outside ↦
          let out = leaves_on i h s in
          let into = domain_on i h s in
          let from =
          changed_from (box_switched out into) (slice_get s.world.storage.boxes a) later
          (sym (switched_at out into s.world.storage.boxes a)
          ∙ ap (λ (bs : Boxes). slice_get bs a) (sym (switched_are i h s outside)) ∙ at) in
          before_out outside later from.0 from.1 from.2
    ]

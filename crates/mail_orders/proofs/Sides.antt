-- What a domain has put in between two slots of its hart: in two runs the same, where the same came to it.
use Rattle.std.proofs.Common.{◌≡◌, ℕ, zero, suc, Bool, true, false, eqb, eq-eqb, List, [], Some, ap, ap₂, sym, ◌∙◌, subst}
use Rattle.std.specs.Prelude.{slice_get, option_map, if◌then◌else◌}
use Rattle.std.proofs.lemmas.Option.{same_Some, slice_get-map}
use Rattle.sched_table.specs.Schedule.{entry_of_slot, hart_for}
use Rattle.image_check.specs.Public.{Public}
use Rattle.image_check.specs.Own.{Own}
use Rattle.image_check.specs.Image.{Image, own_of}
use Rattle.image_check.specs.Laws.{Runnable}
use Rattle.mail_slots.specs.Boxes.{Mailbox, Boxes}
use Rattle.mail_slots.specs.Sides.{Arrival, own_part, own_side}
use Rattle.world_view.specs.Machine.{Local, part_of, arrivals}
use Rattle.world_view.specs.Relations.{IsDomain, SameSide}
use Rattle.world_view.specs.Harts.{Harts, IsOutside, public_on, image_on, hart_of_domain, slots_of}
use Rattle.world_view.proofs.runs.Joined.{JoinedIf, Joined}
use Rattle.world_view.proofs.harts.Meets.{Meets}
use Rattle.world_view.proofs.harts.Runs.{Running}
use Rattle.world_view.proofs.mail.Reached.{alone_still, alone_before}

-- ---- beside it alone

side_if : (i : Image) (d : ℕ) (came : List Arrival) (k : ℕ) (b : Bool) (x : Local) → JoinedIf i d came k b x
    → SameSide (own_of i d) x.storage.boxes (alone_still i.all (own_of i d) d came k b).storage.boxes
side_if i d came k true x j = j.part.side
side_if i d came k false x j = j.part.side

side_of : (i : Image) (d : ℕ) (came : List Arrival) (k : ℕ) (x : Local) → Joined i d came k x
    → SameSide (own_of i d) x.storage.boxes (alone_before i.all (own_of i d) d came k).storage.boxes
side_of i d came zero x j = j.part.side
side_of i d came (suc k) x j = side_if i d came k (eqb (entry_of_slot i.all.schedule k).domain d) x j

-- what the domain alone has put in, on its hart
abbrev side_alone : Public → Own → ℕ → List Arrival → ℕ → Boxes
side_alone p o d came k = own_side o.number (alone_before (public_on p (hart_for p.schedule d)) o d came k).storage.boxes

side_by : (i : Image) (r : Runnable i) (d : ℕ) → IsDomain i d → (s : Harts) → Running i r s
    → IsOutside (hart_of_domain i d) s
    → own_side d s.world.storage.boxes
    ≡ side_alone i.all (own_of i d) d (arrivals d s.world) (slots_of (hart_of_domain i d) s)
side_by i r d id s was outside =
    let h = hart_of_domain i d in
    let met : Meets i h d (arrivals d s.world) false (slots_of h s) (part_of h d s.world) =
    subst (λ (b : Bool). Meets i h d (arrivals d s.world) b (slots_of h s) (part_of h d s.world)) outside (was.meets d id) in
    ap (λ (n : ℕ). own_side n s.world.storage.boxes) (sym (r.numbered d id))
    ∙ side_of (image_on i h) d (arrivals d s.world) (slots_of h s) (part_of h d s.world) met.at

-- ---- in two runs

module _ (i j : Image) (r : Runnable i) (q : Runnable j) (all : i.all ≡ j.all) (d : ℕ) (id : IsDomain i d) (id' : IsDomain j d)
    (own : own_of i d ≡ own_of j d) (s t : Harts) (was : Running i r s) (was' : Running j q t)
    (outside : IsOutside (hart_of_domain i d) s) (outside' : IsOutside (hart_of_domain i d) t)
    (slots : slots_of (hart_of_domain i d) s ≡ slots_of (hart_of_domain i d) t)
    (came : arrivals d s.world ≡ arrivals d t.world) where
  side_same : own_side d s.world.storage.boxes ≡ own_side d t.world.storage.boxes
  side_same =
      let home : hart_of_domain i d ≡ hart_of_domain j d = ap (λ (p : Public). hart_for p.schedule d) all in
      let k = slots_of (hart_of_domain i d) s in
      side_by i r d id s was outside
      ∙ ap₂ (λ (p : Public) (o : Own). side_alone p o d (arrivals d s.world) k) all own
      ∙ ap (λ (xs : List Arrival). side_alone j.all (own_of j d) d xs k) came
      ∙ ap (side_alone j.all (own_of j d) d (arrivals d t.world)) (slots ∙ ap (λ (h : ℕ). slots_of h t) home)
      ∙ sym (side_by j q d id' t was' (subst (λ (h : ℕ). IsOutside h t) home outside'))

  -- so it has put the same into each box that leads from it
  out_own : (b : Mailbox) → b.from ≡ d → (own_part d b).out ≡ b.out
  out_own b is = ap (λ (c : Bool). if c then b.out else []) (eq-eqb b.from d is)

  pub out_same : (a : ℕ) (x y : Mailbox) → slice_get s.world.storage.boxes a ≡ Some x
      → slice_get t.world.storage.boxes a ≡ Some y → x.from ≡ d → y.from ≡ d → x.out ≡ y.out
  unfolding own_side
  out_same a x y at at' from from' =
      let its : (boxes : Boxes) (b : Mailbox) → slice_get boxes a ≡ Some b
      → slice_get (own_side d boxes) a ≡ Some (own_part d b) =
      λ boxes b is. slice_get-map (own_part d) boxes a ∙ ap (option_map (own_part d)) is in
      let both = sym (its s.world.storage.boxes x at) ∙ ap (λ (bs : Boxes). slice_get bs a) side_same ∙ its t.world.storage.boxes y at' in
      sym (out_own x from) ∙ ap (λ (b : Mailbox). b.out) (same_Some _ _ both) ∙ out_own y from'

-- What a call finds of the hart that it names.
use Rattle.std.proofs.Common.{◌≡◌, ◌∙◌, ℕ, suc, false, ◌<◌, ◌≤◌, List, Option, Some, ◌++◌, replicate, length, refl, sym, ap, subst, arith}
use Rattle.std.specs.Prelude.{slice_get, slice_index_or}
use Rattle.std.proofs.lemmas.Option.{slice_get_read, same_Some}
use Rattle.std.proofs.lemmas.List.Elements.{All-append, All-replicate}
use Rattle.guards.specs.declared.Guard.{Guard}
use Rattle.image_record.specs.Record.{Raw}
use Rattle.sched_table.specs.Schedule.{harts_in}
use Rattle.image_check.specs.Image.{Image, image_from}
use Rattle.kernel_call.specs.declared.domain.Domain.{Domain}
use Rattle.world_view.specs.Relations.{IsDomain}
use Rattle.world_view.specs.Harts.{Harts, Progress, harts_by, after_by, progress_of, slots_of, next_by}
use Rattle.world_view.specs.HartLaws.{AreHartsOf}
use Rattle.hart_orders.specs.Off.{IsServed}
use Rattle.hart_orders.proofs.Held.{Held, held}
use Rattle.hart_orders.proofs.Through.{harts_appended, next_by_law}
use Rattle.hart_orders.specs.declared.hart.Slot.{Slot}
use Rattle.hart_orders.specs.declared.hart.Hart.{Hart as CodeHart}
use Rattle.hart_set.specs.declared.set.State.{State}
use Rattle.hart_set.specs.Standing.{StandsFor, HartStands, AtHart, IsInBounds}
use Rattle.hart_set.specs.Reached.{IsReached}
use Rattle.hart_set.specs.Slots.{EndsSlot, NextStands}
use Rattle.hart_set.specs.Models.{image_of}

pub record Called (i : Image) (t : State) (h : ℕ) (x : CodeHart) : Type 0 where
  pub reached : IsReached i t
  pub below : h < harts_in i.all.schedule
  pub got : slice_get t.harts.items h ≡ Some x

-- the hart of this number has slots to come, and is in this one or in none
pub record GoesFrom (v : Raw × State) (h : ℕ) (where_it_is : Option Slot) : Type 0 where
  pub hart : h < harts_in (image_of v).all.schedule
  pub slot : AtHart v.1 h (λ x. x.slot ≡ where_it_is)
  pub slots : AtHart v.1 h (λ x. x.slots < 65536)

-- events with which a slot of a hart has ended
pub slot_ended : (i : Image) (t : State) (h : ℕ) (t' : State) (order : List ℕ) (n k : ℕ) → k ≡ slots_of h (harts_by t.off i order)
    → t.off ≡ t'.off → let later = after_by t.off i (replicate n h) (harts_by t.off i order) in
    StandsFor i later t' → progress_of h later ≡ record { slots = suc k; inside = false }
    → (ends : EndsSlot i order h t') × (ends.events ≡ n)
slot_ended i t h t' order n k was off stands ended =
    let same = harts_appended t.off i order (replicate n h) in
    subst (λ (o : Option Guard). (ends : EndsSlot i order h (record t' { off = o })) × (ends.events ≡ n)) off (
      record {
        events = n;
        stands = subst (λ (v : Harts). StandsFor i v (record t' { off = t.off })) (sym same)
            (subst (λ (o : Option Guard). StandsFor i (after_by t.off i (replicate n h) (harts_by t.off i order)) (record t' { off = o })) (sym off) stands);
        slots = ap (slots_of h) same ∙ ap (λ (p : Progress). p.slots) ended ∙ ap suc was;
        outside = ap (λ (v : Harts). (progress_of h v).inside) same ∙ ap (λ (p : Progress). p.inside) ended;
      },
      refl,
    )

module _ (image : Raw) (t : State) (v : Raw × State) (view : (image, t) ≡ v) where
  -- what the value says is so of what stands inside, and back
  pub of_image : (P : Image → Type 0) → P (image_of v) → P (image_from image)
  of_image P is = subst (λ (u : Raw × State). P (image_of u)) (sym view) is

  pub to_image : (P : Image → Type 0) → P (image_from image) → P (image_of v)
  to_image P is = subst (λ (u : Raw × State). P (image_of u)) view is

  pub hart_below : (h : ℕ) → h < harts_in (image_of v).all.schedule
      → h < harts_in (image_from image).all.schedule
  hart_below h below = of_image (λ (i : Image). h < harts_in i.all.schedule) below

  pub called : (h : ℕ) → h < harts_in (image_of v).all.schedule → IsReached (image_from image) t
      → (x : CodeHart)
      → x ≡ slice_index_or t.harts.items h x → Called (image_from image) t h x
  called h below reached x read =
      let here = hart_below h below in
      let within : h < length t.harts.items = omega (arith, here, reached.stands.all_harts) in
      record { reached = reached; below = here; got = slice_get_read t.harts.items (length t.harts.items) h x refl within read }

  -- what holds of the image, and at the hart
  pub value_at : (h : ℕ) (x : CodeHart) (Q : Image → CodeHart → Type 0) → slice_get t.harts.items h ≡ Some x
      → AtHart v.1 h (Q (image_of v)) → Q (image_from image) x
  value_at h x Q got is = subst (λ (u : Raw × State). AtHart u.1 h (Q (image_of u))) (sym view) is x got

  pub at_hart : (h : ℕ) (x : CodeHart) (Q : CodeHart → Type 0) → slice_get t.harts.items h ≡ Some x
      → AtHart v.1 h Q → Q x
  at_hart h x Q got is = value_at h x (λ (i : Image). Q) got is

  -- and back
  pub for_hart : (h : ℕ) (x : CodeHart) (Q : Image → CodeHart → Type 0) → slice_get t.harts.items h ≡ Some x
      → Q (image_from image) x
      → AtHart v.1 h (Q (image_of v))
  for_hart h x Q got is =
      subst (λ (u : Raw × State). AtHart u.1 h (Q (image_of u))) view
      (λ y at. subst (Q (image_from image)) (same_Some x y (sym got ∙ at)) is)

  -- what a hart has that was read at an index
  at_index : (h n : ℕ) → n ≡ h → h < harts_in (image_of v).all.schedule → IsReached (image_from image) t
      → (x : CodeHart)
      → x ≡ slice_index_or t.harts.items n x → (Q : CodeHart → Type 0) → Q x → AtHart v.1 n Q
  at_index h n same below reached x read Q is =
      let here = subst (λ (m : ℕ). m < harts_in (image_of v).all.schedule) (sym same) below in
      let k = called n here reached x read in
      for_hart n x (λ (i : Image). Q) k.got is

  -- that it may go on from where it was read
  pub found_in : (h n : ℕ) → n ≡ h → h < harts_in (image_of v).all.schedule
      → AtHart v.1 h (λ x. x.slots < 65536)
      → IsReached (image_from image) t → (x : CodeHart) → x ≡ slice_index_or t.harts.items n x
      → (slot : Option Slot) → x.slot ≡ slot → GoesFrom v n slot
  found_in h n same below few reached x read slot is = record {
    hart = subst (λ (m : ℕ). m < harts_in (image_of v).all.schedule) (sym same) below;
    slot = at_index h n same below reached x read (λ y. y.slot ≡ slot) is;
    slots = subst (λ (m : ℕ). AtHart v.1 m (λ y. y.slots < 65536)) (sym same) few;
  }

  -- the index of a hart is one of the code's harts
  pub within : (h n : ℕ) → n ≡ h → h < harts_in (image_of v).all.schedule → IsReached (image_from image) t
      → n < length t.harts.items
  within h n same below reached =
      let here = hart_below h below in
      omega (arith, here, same, reached.stands.all_harts)

  -- and what holds of the state too
  pub of_value : (P : Image → State → Type 0) → P (image_of v) v.1 → P (image_from image) t
  of_value P is = subst (λ (u : Raw × State). P (image_of u) u.1) (sym view) is

  pub to_value : (P : Image → State → Type 0) → P (image_from image) t → P (image_of v) v.1
  to_value P is = subst (λ (u : Raw × State). P (image_of u) u.1) view is

-- the code's domain of this number
pub domain_read : (i : Image) (t : State) → IsReached i t → (d : ℕ) → IsDomain i d → (n : ℕ) (y : Domain)
    → n ≡ d → y ≡ slice_index_or t.domains.items n y
    → slice_get t.domains.items d ≡ Some y
domain_read i t reached d named n y same read =
    let within : d < length t.domains.items = omega (arith, named, reached.stands.all_domains) in
    slice_get_read t.domains.items (length t.domains.items) d y refl within
    (subst (λ (e : ℕ). y ≡ slice_index_or t.domains.items e y) same read)

module _ (i : Image) (t : State) (h : ℕ) (x : CodeHart) (c : Called i t h x) where
  abbrev pub s : Harts
  s = harts_by t.off i c.reached.order

  -- what holds of any harts that it stands for
  pub held_at : (order : List ℕ) → AreHartsOf i order → Held t.off i c.reached.accepted (harts_by t.off i order)
  held_at order of_harts = held t.off i c.reached.accepted c.reached.served order of_harts

  pub holds : Held t.off i c.reached.accepted s
  holds = held_at c.reached.order c.reached.of_harts

  pub its : HartStands i s t h x
  its = c.reached.stands.each_hart h x c.got

  pub few : slots_of h s ≤ 65536
  few = let most = c.reached.in_bounds.few_slots h x c.got in let same = its.slots in omega (arith, most, same)

  -- after events of it
  pub own_more : (order : List ℕ) (n : ℕ) → AreHartsOf i order → AreHartsOf i (order ++ replicate n h)
  own_more order n of_harts =
      let IsHartOf : ℕ → Type 0 = λ g. g < harts_in i.all.schedule in
      All-append IsHartOf order (replicate n h) of_harts (All-replicate IsHartOf n h c.below)

  pub reached_after : (t' : State) (n : ℕ) → t.off ≡ t'.off → StandsFor i (harts_by t.off i (c.reached.order ++ replicate n h)) t'
      → IsInBounds i t' → IsReached i t'
  reached_after t' n off stands bounds = record {
    accepted = c.reached.accepted;
    served = subst (λ (o : Option Guard). IsServed o i) off c.reached.served;
    order = c.reached.order ++ replicate n h;
    of_harts = own_more c.reached.order n c.reached.of_harts;
    stands = subst (λ (o : Option Guard). StandsFor i (harts_by o i (c.reached.order ++ replicate n h)) t') off stands;
    in_bounds = bounds;
  }

  -- after a slot of it
  pub reached_ended : (t' : State) → t.off ≡ t'.off → EndsSlot i c.reached.order h t' → IsInBounds i t' → IsReached i t'
  reached_ended t' off ends bounds =
      reached_after t' ends.events off
      (subst (λ (o : Option Guard). StandsFor i (harts_by o i (c.reached.order ++ replicate ends.events h)) t') (sym off) ends.stands) bounds

  -- after an event of it, whatever the order before
  module _ (t' : State)
      (next_stands : (order : List ℕ) → AreHartsOf i order → StandsFor i (harts_by t.off i order) t
      → StandsFor i (next_by t.off i h (harts_by t.off i order)) t') where
    pub pushed : NextStands i h t t'
    pushed order of_harts stands =
        subst (λ (z : Harts). StandsFor i z t') (sym (next_by_law t.off i order h)) (next_stands order of_harts stands)

    pub reached_next : t.off ≡ t'.off → IsInBounds i t' → IsReached i t'
    reached_next off bounds = reached_after t' 1 off (pushed c.reached.order c.reached.of_harts c.reached.stands) bounds

-- What holds of an image with the entries of one hart alone.
use Rattle.std.proofs.Common.{◌≡◌, ◌≢◌, ℕ, zero, suc, ◌%◌, ◌<◌, ◌≤◌, length, ap, sym, ◌∙◌, subst, arith, mod-lt}
use Rattle.sched_table.specs.declared.schedule.Entry.{Entry}
use Rattle.sched_table.specs.Schedule.{entry_of_slot, switch_entry, pad_of, on_hart, place_on, harts_in, hart_for}
use Rattle.sched_table.specs.Laws.{IsPlaced}
use Rattle.sched_table.proofs.Harts.{placed_law, domain_hart_law}
use Rattle.image_check.specs.Image.{Image, own_of}
use Rattle.image_check.specs.Laws.{Runnable}
use Rattle.world_view.specs.Relations.{IsDomain, bound, ended_own}
use Rattle.world_view.specs.Harts.{image_on, domain_in, hart_of_domain}
use Rattle.world_view.proofs.opening.Separate.{Separated, separated}

module _ (i : Image) (r : Runnable i) (h : ℕ) (is : h < harts_in i.all.schedule) where
  pub entry_there : (k : ℕ) → switch_entry (on_hart i.all.schedule h) k < length (on_hart i.all.schedule h)
  entry_there zero = let some = r.harts.each h is in omega (arith, some)
  entry_there (suc k) = mod-lt k (r.harts.each h is)

  -- each entry of the hart is one of the image's
  pub placed : (k : ℕ) → IsPlaced i.all.schedule h (k % length (on_hart i.all.schedule h))
  placed k = placed_law i.all.schedule h (k % length (on_hart i.all.schedule h)) (mod-lt k (r.harts.each h is))

  pub placed_switch : (k : ℕ) → IsPlaced i.all.schedule h (switch_entry (on_hart i.all.schedule h) k)
  placed_switch k = placed_law i.all.schedule h (switch_entry (on_hart i.all.schedule h) k) (entry_there k)

  named_on : (k : ℕ) → IsDomain i (domain_in i h k)
  named_on k =
      let p = placed k in
      subst (λ (e : Entry). IsDomain i e.domain) (sym p.same)
      (r.named (place_on i.all.schedule h (k % length (on_hart i.all.schedule h))) p.there)

  pub padded_on : (k : ℕ)
      → bound i.all.hardware (ended_own (image_on i h) k) ≤ pad_of (on_hart i.all.schedule h) k
  padded_on k =
      let p = placed_switch k in
      subst (λ (e : Entry). bound i.all.hardware (own_of i e.domain) ≤ e.pad) (sym p.same)
      (r.padded (place_on i.all.schedule h (switch_entry (on_hart i.all.schedule h) k)) p.there)

  -- a slot takes time
  pub lasts : (k : ℕ) → 0 < (entry_of_slot (on_hart i.all.schedule h) k).length
  lasts k =
      let p = placed k in
      let long = r.lasting (place_on i.all.schedule h (k % length (on_hart i.all.schedule h))) p.there in
      subst (λ (e : Entry). 0 < e.length) (sym p.same) (omega (arith, long))

  -- whose slots are on this hart, is on no other
  pub hart_is : (k : ℕ) → hart_of_domain i (domain_in i h k) ≡ h
  hart_is k =
      let p = placed k in
      let place = place_on i.all.schedule h (k % length (on_hart i.all.schedule h)) in
      ap (λ (e : Entry). hart_for i.all.schedule e.domain) p.same ∙ domain_hart_law i.all.schedule place r.harts p.there ∙ p.hart

  pub not_here : (k d : ℕ) → h ≢ hart_of_domain i d → d ≢ domain_in i h k
  not_here k d other same = other (sym (ap (hart_of_domain i) same ∙ hart_is k))

  pub separated_on : Separated (image_on i h)
  separated_on =
      let all = separated i r in
      record {
        counted = all.counted;
        timed = all.timed;
        named = named_on;
        enough = all.enough;
        sound = all.sound;
        numbered = all.numbered;
        apart = all.apart;
        not_kernel = all.not_kernel;
        padded = padded_on;
        hardware = all.hardware;
      }

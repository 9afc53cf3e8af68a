-- No number of the code's harts is too large.
use Rattle.std.proofs.Common.{◌≡◌, ◌≢◌, ◌∙◌, ℕ, ◌+◌, ◌^◌, ◌<◌, ◌≤◌, Bool, true, false, List, Some, length, ◌⊎◌, inl, inr, refl, sym, subst, arith}
use Rattle.std.specs.Prelude.{slice_get, if◌then◌else◌}
use Rattle.std.proofs.Math.ListN.{set}
use Rattle.std.proofs.lemmas.Option.{slice_get_within, slice_get-get_or}
use Rattle.sched_table.specs.Schedule.{entry_in, harts_in}
use Rattle.sched_table.proofs.Harts.{hart_there_law, domain_hart_law}
use Rattle.image_check.specs.Image.{Image}
use Rattle.image_check.specs.Laws.{Runnable}
use Rattle.kernel_call.specs.declared.domain.Domain.{Domain}
use Rattle.kernel_call.specs.Models.{CountsUpTo}
use Rattle.world_view.specs.Harts.{Harts, hart_of_domain, progress_of, slots_of}
use Rattle.hart_orders.proofs.Held.{Held}
use Rattle.domain_step.proofs.Counts.{counts_later}
use Rattle.domain_step.specs.Usage.{CountedUpTo}
use Rattle.domain_step.proofs.Elements.{each_set_kept}
use Rattle.hart_orders.specs.declared.hart.Hart.{Hart as CodeHart}
use Rattle.hart_set.specs.declared.set.State.{State}
use Rattle.hart_set.specs.Standing.{StandsFor, AtHart, IsEarly, IsInBounds}

-- ---- switches

switches_few : (b : Bool) (k : ℕ) → k ≤ 65536 → (if b then k + 1 else k) ≤ 65537
switches_few true k few = omega (arith, few)
switches_few false k few = omega (arith, few)

module _ (i : Image) (r : Runnable i) (s : Harts) (t : State) (run : Held t.off i r s) (is : StandsFor i s t)
    (bounds : IsInBounds i t) (x : CodeHart) where
  slots_few : (h : ℕ) → h < harts_in i.all.schedule → slots_of h s ≤ 65536
  slots_few h below =
      let within : h < length t.harts.items = omega (arith, below, is.all_harts) in
      let got = slice_get-get_or t.harts.items h x within in
      let few = bounds.few_slots h _ got in
      let same = (is.each_hart h _ got).slots in
      omega (arith, few, same)

  -- the hart of an entry is there
  hart_there : (e : ℕ) → e < length i.all.schedule
      → (entry_in i.all.schedule e).hart < harts_in i.all.schedule
  hart_there e there =
      subst (λ (n : ℕ). n < harts_in i.all.schedule) (domain_hart_law i.all.schedule e r.harts there)
      (hart_there_law i.all.schedule (entry_in i.all.schedule e).domain r.schedule.some)

  pub counted : CountedUpTo (2 ^ 31) t.used.items
  counted = record {
    few = λ e u got.
        let there : e < length i.all.schedule = omega (arith, slice_get_within t.used.items e u got, is.all_entries) in
        let h = (entry_in i.all.schedule e).hart in
        let same = is.each_entry.count e u got in
        let most = run.counted e there in
        let few = switches_few (progress_of h s).inside (slots_of h s) (slots_few h (hart_there e there)) in
        omega (arith, same, most, few);
  }

-- ---- after an event of a hart, which moves its clock on, and at most one domain that is on it

-- it is as it was, or it is on the hart, and its counts fit the clock
pub record IsCounted (i : Image) (h : ℕ) (now d : ℕ) (y : Domain) : Type 0 where
  pub home : hart_of_domain i d ≡ h
  pub few : CountsUpTo now y

module _ (i : Image) (t t' : State) (h : ℕ) (x x' : CodeHart) (got : slice_get t.harts.items h ≡ Some x) (bounds : IsInBounds i t)
    (few : x'.slots ≤ 65536) (early : IsEarly x') (later : x.clock ≤ x'.clock) (harts : t'.harts.items ≡ set t.harts.items h x')
    (domains : (d : ℕ) (y : Domain) → slice_get t'.domains.items d ≡ Some y
    → IsCounted i h x'.clock d y ⊎ (slice_get t.domains.items d ≡ Some y)) where
  within : h < length t.harts.items
  within = slice_get_within t.harts.items h x got

  -- each hart is as it was, or it is this one
  each_now : (Q : ℕ → CodeHart → Type 0) → Q h x'
      → ((g : ℕ) (z : CodeHart) → g ≢ h → slice_get t.harts.items g ≡ Some z → Q g z)
      → (g : ℕ) → AtHart t' g (Q g)
  each_now Q own others g z at =
      each_set_kept Q t.harts.items h x' within own others g z (subst (λ (hs : List CodeHart). slice_get hs g ≡ Some z) harts at)

  calls_if : (d : ℕ) (y : Domain) → IsCounted i h x'.clock d y ⊎ (slice_get t.domains.items d ≡ Some y)
      → AtHart t' (hart_of_domain i d) (λ z. CountsUpTo z.clock y)
  calls_if d y (inl own) z at =
      each_now (λ g v. hart_of_domain i d ≡ g → CountsUpTo v.clock y) (λ q. own.few) (λ g v other at_g q. absurd (other (sym q ∙ own.home)))
      (hart_of_domain i d) z at refl
  calls_if d y (inr was) z at =
      let before = bounds.few_calls d y was in
      each_now (λ g v. hart_of_domain i d ≡ g → CountsUpTo v.clock y)
      (λ q. counts_later x.clock x'.clock y later (before x (subst (λ (g : ℕ). slice_get t.harts.items g ≡ Some x) (sym q) got)))
      (λ g v other at_g q. before v (subst (λ (n : ℕ). slice_get t.harts.items n ≡ Some v) (sym q) at_g)) (hart_of_domain i d) z at refl

  pub in_bounds_next : IsInBounds i t'
  in_bounds_next = record {
    few_slots = each_now (λ g z. z.slots ≤ 65536) few (λ g z other at. bounds.few_slots g z at);
    early = each_now (λ g z. IsEarly z) early (λ g z other at. bounds.early g z at);
    few_calls = λ d y at. calls_if d y (domains d y at);
  }

-- Domains at their entries, each with the kernel clone that works for it.
use Rattle.std.proofs.Common.{◌≡◌, ◌≢◌, ◌∙◌, ℕ, ◌<◌, false, List, [], ◌∷◌, ◌++◌, length, take, drop, Option, Some, None, refl, sym, ap, subst, arith}
use Rattle.std.specs.Prelude.{slice_get}
use Rattle.guards.specs.declared.Guard.{Guard}
use Rattle.guards.specs.declared.Guard.TheVariants as guard
use Rattle.hardware_check.specs.Hardware.{Hardware}
use Rattle.kernel_clone.specs.declared.CloneLayout.{CloneLayout}
use Rattle.kernel_clone.specs.Footprints.{Layout}
use Rattle.kernel_clone.specs.Models.{layout_model}
use Rattle.call_table.specs.Domain.{Dom}
use Rattle.call_table.specs.declared.Reply.{Reply}
use Rattle.kernel_call.specs.LogModel.{log_model}
use Rattle.kernel_call.specs.declared.domain.Domain.{Domain}
use Rattle.kernel_call.specs.Models.{Stands, CountsUpTo, dom_model}
use Rattle.image_check.specs.Own.{Own}
use Rattle.image_check.specs.Image.{Image, own_of}
use Rattle.image_check.specs.Laws.{Runnable}
use Rattle.domain_open.specs.Placing.{IsOpened, AreOpened}
use Rattle.world_view.specs.Cost.{hierarchy}
use Rattle.world_view.specs.Kernel.{layout, opening_dom, estate}
use Rattle.world_view.specs.Machine.{guarded, guards_of}
use Rattle.domain_step.specs.Standing.{DomainStands}
use Rattle.domain_step.proofs.Events.{has_still}
use Rattle.domain_step.proofs.SwitchCounts.{written_back}
use Rattle.hart_set.specs.Clones.{HasClone, HaveClone, AreEntered}

module _ (i : Image) (domains : List Domain)
    (opened : AreOpened i.all.hardware i.owns (length i.owns) domains) where
  -- its own
  pub entered_own : (off : Option Guard)
      → ((d : ℕ) → (guards_of off i).clone d ≡ layout i.all.hardware (own_of i d))
      → AreEntered off i domains
  entered_own off own = record {
    all = opened.all;
    each = λ d x got.
        let is = opened.each d x got in
        record { dom = is.stands; has = is.has; layout = is.layout ∙ sym (own d); moments = is.moments };
    few = λ d x got. (opened.each d x got).few;
  }

-- a domain is as it was, but for its kernel clone
module _ (given : CloneLayout) (old new : Domain) (has : HasClone given old new) where
  same_dom : (readings : List ℕ) (replies : List Reply)
      → dom_model new readings replies ≡ dom_model old readings replies
  same_dom readings replies =
      rw (has.status, has.threads, has.caps, has.interrupts, has.retired, has.printed) refl

  stands_still : (m : Dom) → Stands old m → Stands new m
  stands_still m is = record {
    same = same_dom m.readings m.replies ∙ is.same;
    readings = ap log_model has.readings ∙ is.readings;
    replies = ap log_model has.replies ∙ is.replies;
  }

  few_still : (clock : ℕ) → CountsUpTo clock old → CountsUpTo clock new
  few_still clock few = record {
    retired = rw has.retired few.retired;
    readings = rw has.readings few.readings;
    replies = rw has.replies few.replies;
  }

  entered_with : (p : Hardware) (o : Own) (l : Layout) → IsOpened p o old → layout_model given ≡ l
      → DomainStands (record { machine = p; own = o; levels = hierarchy p; clone = l; pinned = false }) new
      (opening_dom p o)
  entered_with p o l is same = record {
    dom = stands_still (opening_dom p o) is.stands;
    has = has_still (estate p o) old new is.has has.caps has.pool has.map has.calls has.number;
    layout = ap layout_model has.layout_is ∙ same;
    moments = rw has.interrupts is.moments;
  }

first_there : {A : Type 0} (xs : List A) → 0 < length xs → (x : A) × (slice_get xs 0 ≡ Some x)
first_there [] some = absurd (omega (arith, some))
first_there (x ∷ xs) some = (x, refl)

module _ (i : Image) (r : Runnable i) (old new : List Domain)
    (opened : AreOpened i.all.hardware i.owns (length i.owns) old) where
  -- that of domain 0
  entered_shared : ((x : Domain) → slice_get old 0 ≡ Some x → HaveClone x.layout old new)
      → AreEntered (Some guard.Clone) i new
  unfolding guarded
  entered_shared shared =
      let p = i.all.hardware in
      let some = r.some_domain in
      let first = first_there old (omega (arith, some, opened.all)) in
      let have = shared first.0 first.1 in
      let same : layout_model (first.0).layout ≡ layout p (own_of i 0) =
      (opened.each 0 first.0 first.1).layout in
      record {
        all = have.same ∙ opened.all;
        each = λ d x got.
            let (y, there, has) = have.each d x got in
            entered_with (first.0).layout y x has p (own_of i d) (layout p (own_of i 0))
            (opened.each d y there) same;
        few = λ d x got.
            let (y, there, has) = have.each d x got in
            few_still (first.0).layout y x has 0 (opened.each d y there).few;
      }

  -- each with the one that works for it
  pub entered_by : (off : Option Guard) → (off ≢ Some guard.Clone → new ≡ old)
      → ((x : Domain) → off ≡ Some guard.Clone → slice_get old 0 ≡ Some x → HaveClone x.layout old new)
      → AreEntered off i new
  unfolding guarded
  entered_by None kept shared =
      subst (AreEntered None i) (sym (kept (λ e. absurd (cc e))))
      (entered_own i old opened None (λ d. refl))
  entered_by (Some guard.Flush) kept shared =
      subst (AreEntered (Some guard.Flush) i) (sym (kept (λ e. absurd (cc e))))
      (entered_own i old opened (Some guard.Flush) (λ d. refl))
  entered_by (Some guard.Prefetch) kept shared =
      subst (AreEntered (Some guard.Prefetch) i) (sym (kept (λ e. absurd (cc e))))
      (entered_own i old opened (Some guard.Prefetch) (λ d. refl))
  entered_by (Some guard.Pad) kept shared =
      subst (AreEntered (Some guard.Pad) i) (sym (kept (λ e. absurd (cc e))))
      (entered_own i old opened (Some guard.Pad) (λ d. refl))
  entered_by (Some guard.Colour) kept shared =
      subst (AreEntered (Some guard.Colour) i) (sym (kept (λ e. absurd (cc e))))
      (entered_own i old opened (Some guard.Colour) (λ d. refl))
  entered_by (Some guard.Clone) kept shared = entered_shared (λ x got. shared x refl got)
  entered_by (Some guard.Irq) kept shared =
      subst (AreEntered (Some guard.Irq) i) (sym (kept (λ e. absurd (cc e))))
      (entered_own i old opened (Some guard.Irq) (λ d. refl))

  -- and written back
  pub entered_back : (off : Option Guard) → (off ≢ Some guard.Clone → new ≡ old)
      → ((x : Domain) → off ≡ Some guard.Clone → slice_get old 0 ≡ Some x → HaveClone x.layout old new)
      → (n : ℕ) → length old ≡ n → AreEntered off i (take n (new ++ drop (length new) old))
  entered_back off kept shared n was =
      let entered_so = entered_by off kept shared in
      let long : length new ≡ n = entered_so.all ∙ sym opened.all ∙ was in
      subst (AreEntered off i) (sym (written_back new old n long was)) entered_so

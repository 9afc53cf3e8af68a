-- The code's harts before the first event, with all guards on or one hart with one off.
use Rattle.std.proofs.Common.{◌≡◌, ◌∙◌, ℕ, ◌+◌, ◌*◌, ◌^◌, ◌<◌, ◌≤◌, Bool, true, false, [], Option, Some, None, All, length, refl, sym, ap, subst, arith}
use Rattle.std.specs.Prelude.{slice_get, IfSome, if◌then◌else◌}
use Rattle.std.proofs.lemmas.Option.{slice_get_within, get_or_from_slice_get}
use Rattle.tp_base.specs.Table.{Table, at}
use Rattle.guards.specs.declared.Guard.{Guard}
use Rattle.guards.specs.declared.Guard.TheVariants as guard
use Rattle.phys_mem.specs.Holds.{Holds}
use Rattle.repl_policy.specs.Members.{any_stands_for}
use Rattle.mem_system.specs.Cost.{cold, fresh_core}
use Rattle.mem_system.specs.Contents.{SystemStands, system}
use Rattle.mem_system.specs.Translation.{KeepsLeaves}
use Rattle.call_table.specs.Domain.{Dom}
use Rattle.sched_table.specs.Schedule.{harts_in}
use Rattle.image_check.specs.Image.{Image, own_of}
use Rattle.image_check.specs.Laws.{Runnable}
use Rattle.mail_slots.specs.Boxes as mail
use Rattle.kernel_call.specs.declared.domain.Domain.{Domain}
use Rattle.kernel_call.specs.Models.{Stands, CountsUpTo}
use Rattle.domain_open.specs.Placing.{placed_all}
use Rattle.domain_step.specs.Standing.{DomainStands}
use Rattle.world_view.specs.Cost.{hierarchy}
use Rattle.world_view.specs.Event.{Storage}
use Rattle.world_view.specs.Frames.{root_of}
use Rattle.world_view.specs.Kernel.{no_dom}
use Rattle.world_view.specs.Machine.{World, guarded, guards_of, setting_by, dom_of, opening, with_hart}
use Rattle.world_view.specs.Relations.{IsDomain}
use Rattle.world_view.specs.Harts.{Progress, domain_in, end_by, hart_of_domain, all_cold, harts_by, after_by}
use Rattle.world_view.proofs.opening.OpeningLaws.{opening_dom_is}
use Rattle.world_view.proofs.opening.Separate.{separated}
use Rattle.world_view.proofs.harts.Runs.{doms_cold, storage_cold, used_cold, all_cold_are}
use Rattle.domain_step.specs.Usage.{IsUsed}
use Rattle.hart_orders.specs.declared.hart.Slot.{Slot}
use Rattle.hart_orders.specs.declared.hart.Hart.{Hart as CodeHart}
use Rattle.hart_orders.specs.Cold.{IsColdHart}
use Rattle.hart_orders.specs.Off.{IsServed, levels_by}
use Rattle.hart_orders.proofs.Held.{ended_cold, progress_first}
use Rattle.hart_set.specs.declared.set.State.{State}
use Rattle.hart_set.specs.Standing.{StandsFor, HartStands, AtHart, IsInBounds, slot_if, ended_if}
use Rattle.hart_set.specs.Reached.{IsReached}
use Rattle.hart_set.specs.Clones.{AreEntered}

levels_are : (off : Option Guard) (i : Image) → levels_by off i.all.hardware ≡ (guards_of off i).levels
unfolding guarded
levels_are None i = refl
levels_are (Some guard.Flush) i = refl
levels_are (Some guard.Prefetch) i = refl
levels_are (Some guard.Pad) i = refl
levels_are (Some guard.Colour) i = refl
levels_are (Some guard.Clone) i = refl
levels_are (Some guard.Irq) i = refl

-- caches that hold nothing are alike
same_cold : (off : Option Guard) (i : Image) → cold (levels_by off i.all.hardware) ≡ cold (hierarchy i.all.hardware)
unfolding cold fresh_core
same_cold None i = refl
same_cold (Some guard.Flush) i = refl
same_cold (Some guard.Prefetch) i = refl
same_cold (Some guard.Pad) i = refl
same_cold (Some guard.Colour) i = refl
same_cold (Some guard.Clone) i = refl
same_cold (Some guard.Irq) i = refl

-- what the code has before it
pub record IsLoaded (i : Image) (t : State) : Type 0 where
  pub frames : t.memory.frames ≡ i.all.hardware.frames
  pub holds : Holds t.memory (placed_all i)
  pub boxes : t.mail ≡ mail.opening i.all.mail
  pub all_harts : length t.harts.items ≡ harts_in i.all.schedule
  pub cold : All (IsColdHart (levels_by t.off i.all.hardware) t.l2) t.harts.items
  pub entered : AreEntered t.off i t.domains.items
  pub all_entries : length t.used.items ≡ length i.all.schedule
  pub unused : IsUsed t.used.items []

none_ended : (b : Bool) (n : ℕ) → n ≡ 0 → 0 ≡ (if b then 0 else n)
none_ended true n none = refl
none_ended false n none = sym none

module _ (i : Image) (r : Runnable i) (t : State) (is : IsLoaded i t) where
  abbrev many : ℕ
  many = harts_in i.all.schedule

  abbrev first : World
  first = all_cold i many

  cold_at : (h : ℕ) (x : CodeHart) → slice_get t.harts.items h ≡ Some x
      → IsColdHart (levels_by t.off i.all.hardware) t.l2 x
  cold_at h x got =
      subst (IsColdHart (levels_by t.off i.all.hardware) t.l2) (get_or_from_slice_get t.harts.items h x x got)
      (is.cold h x (slice_get_within t.harts.items h x got))

  hart_first : (h : ℕ) → AtHart t h (HartStands i (harts_by t.off i []) t h)
  unfolding harts_by after_by
  hart_first h x got =
      let below : h < many = omega (arith, slice_get_within t.harts.items h x got, is.all_harts) in
      let g = guards_of t.off i in
      let cold_x = cold_at h x got in
      let there = all_cold_are i many h below in
      let at_first = progress_first t.off i r h in
      record {
        machine = record {
          frames = is.frames;
          holds = subst (λ (s : Storage). Holds t.memory s.mem) (sym (storage_cold i many)) is.holds;
          boxes = is.boxes ∙ sym (ap (λ (s : Storage). s.boxes) (storage_cold i many));
          levels = sym (cold_x.levels ∙ levels_are t.off i);
          pinned = cold_x.pinned;
          caches = subst (SystemStands any_stands_for (system x.core t.l2)) (same_cold t.off i ∙ sym there.caches) cold_x.caches;
          time = cold_x.clock ∙ sym there.clock;
        };
        slots = cold_x.slots ∙ sym (ap (λ (q : Progress). q.slots) at_first);
        slot = cold_x.slot ∙ sym (ap (λ (q : Progress). slot_if q.inside (domain_in i h q.slots) (end_by g i h q.slots first)) at_first);
        ended =
            cold_x.ended ∙ none_ended g.pad _ (ended_cold t.off i r many h)
            ∙ sym (ap (λ (q : Progress). ended_if q.inside g i h q.slots first) at_first);
        leaves =
            subst
            (λ (o : Option Slot). IfSome o (λ y. KeepsLeaves first.storage.mem t.memory.frames
            (root_of i.all.hardware (own_of i y.domain)) x.core.tlb))
            (sym cold_x.slot) tt;
      }

  domain_first : (d : ℕ) (x : Domain) → slice_get t.domains.items d ≡ Some x
      → DomainStands (setting_by (guards_of t.off i) i d) x (dom_of (harts_by t.off i []).world d)
  unfolding harts_by after_by opening with_hart
  domain_first d x got =
      let id : IsDomain i d = omega (arith, slice_get_within t.domains.items d x got, is.entered.all) in
      let entered = is.entered.each d x got in
      let dom = ap (λ (ds : Table Dom). at no_dom ds d) (doms_cold i many) ∙ opening_dom_is i (separated i r) d id in
      record { dom = subst (Stands x) (sym dom) entered.dom; has = entered.has; layout = entered.layout; moments = entered.moments }

  pub stands_first : StandsFor i (harts_by t.off i []) t
  unfolding harts_by after_by
  stands_first = record {
    all_harts = is.all_harts;
    each_hart = hart_first;
    all_domains = is.entered.all;
    each_domain = domain_first;
    all_entries = is.all_entries;
    each_entry = subst (IsUsed t.used.items) (sym (used_cold i many)) is.unused;
  }

  bounds_first : IsInBounds i t
  bounds_first = record {
    few_slots = λ h x got. let none = (cold_at h x got).slots in omega (arith, none);
    early = λ h x got.
        let cold_x = cold_at h x got in
        let clock = cold_x.clock in
        record {
          clock = λ none. omega (arith, clock);
          end = subst (λ (o : Option Slot). IfSome o (λ y. y.end ≤ 2 ^ 61 + x.slots * 2 ^ 40 + 2 ^ 39)) (sym cold_x.slot) tt;
        };
    few_calls =
        λ d x got y at_d. subst (λ (n : ℕ). CountsUpTo n x) (sym (cold_at (hart_of_domain i d) y at_d).clock)
        (is.entered.few d x got);
  }

  pub reached_first : IsServed t.off i → IsReached i t
  reached_first served = record {
    accepted = r;
    served = served;
    order = [];
    of_harts = λ k d l. absurd (omega (arith, l));
    stands = stands_first;
    in_bounds = bounds_first;
  }

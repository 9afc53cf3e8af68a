-- What a hart's next switch goes by, as the code finds it.
use Rattle.std.proofs.Common.{◌≡◌, ◌∙◌, ℕ, zero, suc, ◌<◌, List, Some, None, length, refl, sym, ap, subst}
use Rattle.std.specs.Prelude.{slice_index_or}
use Rattle.sched_table.specs.declared.schedule.Entry.{Entry}
use Rattle.sched_table.specs.declared.schedule.Turn.{Turn}
use Rattle.sched_table.specs.Schedule.{entry_in, entry_of_slot, switch_entry, start, last_end, outgoing, entries_on, on_hart, harts_in, hart_schedules}
use Rattle.image_check.specs.declared.public.Public.{Public as CodePublic}
use Rattle.image_check.specs.Public.{Public}
use Rattle.image_check.specs.Models.{public_model}
use Rattle.image_check.specs.Image.{Image}
use Rattle.world_view.specs.Relations.{IsDomain}
use Rattle.world_view.proofs.harts.OnHart.{placed_switch}
use Rattle.world_view.proofs.harts.Schedules.{one_each as every_hart, own_entries as entries_at}
use Rattle.hart_orders.specs.declared.hart.Hart.{Hart as CodeHart}
use Rattle.hart_set.specs.declared.set.State.{State}
use Rattle.hart_set.specs.Turns.{IsTurn}
use Rattle.hart_set.proofs.Called.{Called}

-- ---- the schedules of all harts

module _ (public : CodePublic) (p : Public) (same : public_model public ≡ p) where
  schedules : public.harts.items ≡ hart_schedules p.schedule
  schedules = public.each_hart ∙ ap (λ (q : Public). hart_schedules q.schedule) same

  pub one_each : length public.harts.items ≡ harts_in p.schedule
  one_each = every_hart p.schedule public.harts.items schedules

  pub own_entries : (h : ℕ) (placed : List (ℕ × Entry)) → h < harts_in p.schedule
      → placed ≡ slice_index_or public.harts.items h placed
      → placed ≡ entries_on p.schedule h
  own_entries = entries_at p.schedule public.harts.items schedules

-- what a hart's schedule tells is told of its entries
pub turn_on : (es own : List Entry) (h k : ℕ) (t : Turn) → own ≡ on_hart es h → t.entry ≡ entry_of_slot own k
    → t.start ≡ start own k
    → t.ended ≡ entry_in own (switch_entry own k) → t.last_end ≡ last_end own k → IsTurn (on_hart es h) k t
turn_on es own h k t same entry begins ended last =
    subst (λ (xs : List Entry). IsTurn xs k t) same (record { entry = entry; start = begins; ended = ended; last_end = last })

-- ---- the domain whose slot was last

-- nobody before its first slot
pub none_first : (es : List Entry) (k : ℕ) → k ≡ 0 → None ≡ outgoing es k
none_first es k none = ap (outgoing es) (sym none)

pub last_leaves : (es : List Entry) (k : ℕ) (ended : Entry) → (k ≡ 0 → ⊥) → ended ≡ entry_in es (switch_entry es k)
    → Some ended.domain ≡ outgoing es k
last_leaves es zero ended some is = absurd (some refl)
last_leaves es (suc last) ended some is = ap (λ (e : Entry). Some e.domain) is

module _ (i : Image) (t : State) (h : ℕ) (x : CodeHart) (c : Called i t h x) (ended : Entry)
    (is : ended ≡ entry_in (on_hart i.all.schedule h) (switch_entry (on_hart i.all.schedule h) x.slots)) where
  pub ended_named : IsDomain i ended.domain
  ended_named =
      let r = c.reached.accepted in
      let placed = placed_switch i r h c.below x.slots in
      subst (λ (e : Entry). IsDomain i e.domain) (sym (is ∙ placed.same)) (r.named _ placed.there)

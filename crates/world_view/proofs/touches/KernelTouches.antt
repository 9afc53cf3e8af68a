-- What a kernel operation touches: lines of the domain's own frames, and lines of the shared region.
use Rattle.std.proofs.Common.{◌≡◌, ℕ, ◌<◌, ◌/◌, Bool, true, false, if◌then◌else◌, List, [], ◌∷◌, length, map, slice_index, All, Some, inl, inr, ap, sym, subst, ◌∙◌, refl, zero, suc, arith, true≢false}
use Rattle.std.proofs.lemmas.List.Elements.{All-head, All-tail}
use Rattle.kernel_clone.specs.declared.Kind.{Kind}
use Rattle.kernel_clone.specs.declared.Kind.TheVariants as kind
use Rattle.kernel_clone.specs.Footprints.{WorkDone, LineTouch, touches, delivery_op, leave_op, enter_op}
use Rattle.kernel_clone.specs.Laws.{frame_of, IsLoaded, IsPlaced}
use Rattle.kernel_clone.proofs.PlaceLaws.{placed}
use Rattle.kernel_clone.proofs.LineLaws.{entry_frame}
use Rattle.call_table.specs.Calls.{Note, zeroed_in, entries_in, empties, work_of}
use Rattle.call_table.specs.Laws.{IsMine, IsOwnWork}
use Rattle.hardware_check.specs.Hardware.{Hardware}
use Rattle.image_check.specs.Own.{Own}
use Rattle.world_view.specs.Kernel.{estate, layout}
use Rattle.mem_system.specs.Cost.{EmptyTlb}
use Rattle.mem_system.specs.Operations.{touch_by, touch_of_line, footprint, operation, plain, leave, enter}
use Rattle.mem_system.specs.Sharing.{IsShared, MayTouch, MayTouchAll}
use Rattle.world_view.specs.Cost.{hierarchy, region, own_colour}
use Rattle.world_view.specs.Event.{call_touches, delivery_touches}
use Rattle.world_view.specs.Relations.{IsOwnFrame, IsKernel, MayAll}
use Rattle.mem_system.proofs.OwnTouches.{may_append}
use Rattle.world_view.proofs.actions.TableLaws.{mine_own}
use Rattle.world_view.proofs.touches.Lines.{own_line, is_shared}

module _ (p : Hardware) (o : Own) where
  -- the frame that was zeroed, and those of the entries that were written, are the domain's
  own_zeroed : (ns : List Note) → All (IsOwnWork (estate p o)) ns → (f : ℕ) → zeroed_in ns ≡ Some f
      → IsOwnFrame p o f
  unfolding zeroed_in
  own_zeroed [] all f is = absurd (cc is)
  own_zeroed (Note.Zeroed g ∷ ns) all f is =
      mine_own p o f
      (subst (IsMine (estate p o)) (cc is) (All-head (IsOwnWork (estate p o)) (Note.Zeroed g) ns all))
  own_zeroed (Note.Entry at ∷ ns) all f is = own_zeroed ns (All-tail (IsOwnWork (estate p o)) (Note.Entry at) ns all) f is
  own_zeroed (Note.Emptied ∷ ns) all f is = own_zeroed ns (All-tail (IsOwnWork (estate p o)) Note.Emptied ns all) f is

  own_entries : (ns : List Note) → All (IsOwnWork (estate p o)) ns → (k : ℕ) → k < length (entries_in ns)
      → IsOwnFrame p o (slice_index (entries_in ns) k / 4096)
  unfolding entries_in
  own_entries [] all k below = absurd (omega (arith, below))
  own_entries (Note.Zeroed g ∷ ns) all k below = own_entries ns (All-tail (IsOwnWork (estate p o)) (Note.Zeroed g) ns all) k below
  own_entries (Note.Entry at ∷ ns) all zero below = mine_own p o (at / 4096) (All-head (IsOwnWork (estate p o)) (Note.Entry at) ns all)
  own_entries (Note.Entry at ∷ ns) all (suc k) below =
      own_entries ns (All-tail (IsOwnWork (estate p o)) (Note.Entry at) ns all) k (omega (arith, below))
  own_entries (Note.Emptied ∷ ns) all k below = own_entries ns (All-tail (IsOwnWork (estate p o)) Note.Emptied ns all) k below

  own_by : (f g : ℕ) → f ≡ g → IsOwnFrame p o g → IsOwnFrame p o f
  own_by f g e is = subst (IsOwnFrame p o) (sym e) is

  module _ (kernel : IsKernel p o) (w : WorkDone) (zeroed : (f : ℕ) → w.zeroed ≡ Some f → IsOwnFrame p o f)
      (entries : (k : ℕ) → k < length w.entries → IsOwnFrame p o (slice_index w.entries k / 4096))
      (lines : List ℕ) (loads : (line : ℕ) → IsLoaded (layout p o) w.op line → IsShared lines line) where
    in_frame : (line f : ℕ) → frame_of (layout p o) line ≡ f → IsOwnFrame p o f
        → MayTouch (hierarchy p) (own_colour o) lines (touch_by kind.Store line)
    unfolding layout
    in_frame line f e own = own_line p o line (own_by _ f e own)

    -- where a touch of the footprint lies, it may be made
    may_line : (k : Kind) (line : ℕ) → IsPlaced (layout p o) w k line
        → MayTouch (hierarchy p) (own_colour o) lines (touch_by k line)
    may_line kind.Fetch line (inl e) = in_frame line _ e kernel.text
    may_line kind.Fetch line (inr e) = in_frame line _ e kernel.more_text
    may_line kind.Load line h = inr (loads line h)
    may_line kind.Store line (inl e) = in_frame line _ e kernel.stack
    may_line kind.Store line (inr (inl e)) = in_frame line _ e kernel.data_frame
    may_line kind.Store line (inr (inr (inl e))) = in_frame line _ refl (zeroed _ e)
    may_line kind.Store line (inr (inr (inr e))) =
        in_frame line _
        (ap (frame_of (layout p o)) e.2
        ∙ entry_frame (layout p o) (slice_index w.entries e.0) kernel.has_layout) (entries e.0 e.1)

    may_lines : (ts : List LineTouch) → All (λ t. IsPlaced (layout p o) w t.kind t.line) ts
        → MayTouchAll (hierarchy p) (own_colour o) lines (map touch_of_line ts)
    may_lines [] all = tt
    may_lines (t ∷ ts) all = (
      may_line t.kind t.line
          (All-head (λ (x : LineTouch). IsPlaced (layout p o) w x.kind x.line) t ts all),
      may_lines ts
          (All-tail (λ (x : LineTouch). IsPlaced (layout p o) w x.kind x.line) t ts all),
    )

    pub footprint_may : MayTouchAll (hierarchy p) (own_colour o) lines (footprint (layout p o) w)
    unfolding footprint
    footprint_may = may_lines (touches (layout p o) w) (placed (layout p o) w kernel.has_layout)

  -- a domain leaves and enters: there nothing is loaded, whatever is shared
  module _ (kernel : IsKernel p o) (lines : List ℕ) where
    leave_loads : (line : ℕ) → IsLoaded (layout p o) leave_op line → IsShared lines line
    leave_loads line loaded = absurd (true≢false loaded.call)

    enter_loads : (line : ℕ) → IsLoaded (layout p o) enter_op line → IsShared lines line
    enter_loads line loaded = absurd (true≢false loaded.call)

    pub leave_may : MayTouchAll (hierarchy p) (own_colour o) lines (leave p.costs (layout p o))
    unfolding leave operation
    leave_may = (
      tt,
      footprint_may kernel (plain leave_op) (λ f is. absurd (cc is))
          (λ k below. absurd (omega (arith, below))) lines leave_loads,
    )

    pub enter_may : MayTouchAll (hierarchy p) (own_colour o) lines (enter (layout p o))
    unfolding enter
    enter_may = footprint_may kernel (plain enter_op) (λ f is. absurd (cc is)) (λ k below. absurd (omega (arith, below))) lines enter_loads

  -- a delivery loads one line of what is shared
  pub delivery_may : IsKernel p o → MayAll p o (delivery_touches p (layout p o))
  unfolding delivery_touches operation
  delivery_may kernel = (
    tt,
    footprint_may kernel (plain delivery_op) (λ f is. absurd (cc is)) (λ k below. absurd (omega (arith, below))) (region p)
        (λ line h. is_shared p o h.shared.0 line h.shared.1 h.shared.2),
  )

  may_empty : (b : Bool) → MayAll p o (if b then EmptyTlb ∷ [] else [])
  may_empty true = (tt, tt)
  may_empty false = tt

  pub call_may : IsKernel p o → (number : ℕ) (ns : List Note) → All (IsOwnWork (estate p o)) ns
      → MayAll p o (call_touches p (layout p o) number ns)
  unfolding call_touches operation work_of
  call_may kernel number ns all =
      let own : MayAll p o (operation p.costs (layout p o) (work_of number ns)) = (
        tt,
        footprint_may kernel (work_of number ns) (own_zeroed ns all) (own_entries ns all)
            (region p) (λ line h. is_shared p o h.shared.0 line h.shared.1 h.shared.2),
      ) in
      may_append (hierarchy p) (own_colour o) (region p) (operation p.costs (layout p o) (work_of number ns))
      (if empties ns then EmptyTlb ∷ [] else []) own (may_empty (empties ns))

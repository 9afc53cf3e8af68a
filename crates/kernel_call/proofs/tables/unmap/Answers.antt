use Rattle.std.proofs.Common.{◌≡◌, ◌<◌, ℕ, sym, ap, subst, ◌∙◌, Option, Some, None, Err, refl, ◌∷◌, []}
use Rattle.std.proofs.lemmas.Result.{err_from_is_err_and}
use Rattle.phys_mem.specs.Holds.{Holds}
use Rattle.page_map.specs.Changes.{page_entry, unmapped}
use Rattle.cap_table.specs.declared.Cap.{Cap}
use Rattle.cap_table.specs.declared.Cap.TheVariants as cap
use Rattle.cap_table.specs.Slots.{Slots, cap_at, with_cap, noted}
use Rattle.call_table.specs.Domain.{with_caps}
use Rattle.call_table.specs.Calls.{Note, with_slot}
use Rattle.kernel_clone.specs.Models.{work_model}
use Rattle.kernel_call.specs.declared.error.CallError.TheVariants as error
use Rattle.kernel_call.specs.Models.{dom_model}
use Rattle.kernel_call.specs.Facts.{with_work}
use Rattle.kernel_call.proofs.Keeps.{if_err, rest_of, rest_same}
use Rattle.kernel_call.proofs.Ties.{exits, ends_same, ends_error, ends_unfilled, ends_done, has_set, tables_stand, page_mapped}
use Rattle.kernel_call.proofs.TiesTables.{not_page, none_or, some_or_other, tells_entry_emptied, free_page, unmap_unfilled, unmap_no_page, unmap_nowhere, unmap_done}
use Rattle.kernel_call.proofs.tables.unmap.Goals as goal

pub returns-in_err-mapped : goal.returns-in_err-mapped
returns-in_err-mapped c = record {
  does = λ e readings replies m h.
      let p = err_from_is_err_and c.from_residual.result c.from_residual.ensures.1 in
      ends_unfilled 5 e c.args.domain.now c.args.memory.now m readings replies c.args.a c.filled.result p.0
      c.in_err-mapped.field-0.0 (with_work c.from_residual.result c.args.work.now) _ h
      (c.filled.ensures.finds readings replies m) c.in_err-mapped.was p.2 (exits _ _ c.args.work.now p.1)
      (unmap_unfilled e (dom_model c.args.domain.now readings replies) m c.args.a);
  rest = rest_same c.args.domain.now;
  unchanged = if_err c.from_residual.result refl;
  memory = if_err c.from_residual.result refl;
  unwritten = if_err c.from_residual.result refl;
  frames = refl;
}

pub returns-in_default : goal.returns-in_default
returns-in_default c = record {
  does = λ e readings replies m h.
      ends_same 5 e c.args.domain.now c.args.memory.now m readings replies error.WrongKind _ h
      (unmap_no_page e (dom_model c.args.domain.now readings replies) m c.args.a c.in_ok-mapped.field-0
      c.in_ok-mapped.ensures.below c.in_ok-mapped.ensures.there (not_page c.in_ok-mapped.field-0 c.in_default.not-Frame));
  rest = rest_same c.args.domain.now;
  unchanged = refl;
  memory = refl;
  unwritten = refl;
  frames = refl;
}

pub returns-in_err-va : goal.returns-in_err-va
returns-in_err-va c = record {
  does = λ e readings replies m h.
      let below : c.args.a < 64 = c.in_ok-mapped.ensures.below in
      let there : cap_at c.args.domain.now.caps c.args.a
      ≡ Some (cap.Frame c.in-Frame.frame c.in-Frame.rights c.in-Frame.mapped) =
      c.in_ok-mapped.ensures.there ∙ ap Some c.in-Frame.is in
      let p = err_from_is_err_and c.from_residual-in_err-va.result c.from_residual-in_err-va.ensures.1 in
      let none = none_or c.in-Frame.mapped error.BadAddress c.in_err-va.field-0.0 (sym c.ok_or.ensures.value ∙ c.in_err-va.was) in
      let exit : c.from_residual-in_err-va.result ≡ Err error.BadAddress = p.1 ∙ ap Err (p.2 ∙ sym none.1) in
      ends_error 5 e c.args.domain.now c.args.memory.now m readings replies error.BadAddress
      (with_work c.from_residual-in_err-va.result c.args.work.now) _ h (exits _ _ c.args.work.now exit)
      (unmap_nowhere e (dom_model c.args.domain.now readings replies) m c.args.a
      c.in-Frame.frame c.in-Frame.rights c.in-Frame.mapped below there none.0);
  rest = rest_same c.args.domain.now;
  unchanged = if_err c.from_residual-in_err-va.result refl;
  memory = if_err c.from_residual-in_err-va.result refl;
  unwritten = if_err c.from_residual-in_err-va.result refl;
  frames = refl;
}

pub unmap-entry-requires-clause-tables : goal.unmap-entry-requires-clause-tables
unmap-entry-requires-clause-tables c = tables_stand c.args.memory.now c.args.domain.now c.requires.valid

pub unmap-entry-requires-clause-page : goal.unmap-entry-requires-clause-page
unmap-entry-requires-clause-page c =
    let below : c.args.a < 64 = c.in_ok-mapped.ensures.below in
    let there : cap_at c.args.domain.now.caps c.args.a
    ≡ Some (cap.Frame c.in-Frame.frame c.in-Frame.rights c.in-Frame.mapped) =
    c.in_ok-mapped.ensures.there ∙ ap Some c.in-Frame.is in
    let at : c.in-Frame.mapped ≡ Some c.in_ok-va.va =
    some_or_other c.in-Frame.mapped error.BadAddress c.in_ok-va.va
    (sym c.ok_or.ensures.value ∙ c.in_ok-va.was) in
    page_mapped c.args.memory.now c.args.domain.now c.requires.valid c.args.a c.in-Frame.frame c.in-Frame.rights c.in_ok-va.va below
    (there ∙ ap (λ (w : Option ℕ). Some (cap.Frame c.in-Frame.frame c.in-Frame.rights w)) at)

pub returns : goal.returns
unfolding with_caps
returns c = record {
  does = λ e readings replies m h.
      let below : c.args.a < 64 = c.in_ok-mapped.ensures.below in
      let there : cap_at c.args.domain.now.caps c.args.a
      ≡ Some (cap.Frame c.in-Frame.frame c.in-Frame.rights c.in-Frame.mapped) =
      c.in_ok-mapped.ensures.there ∙ ap Some c.in-Frame.is in
      let at : c.in-Frame.mapped ≡ Some c.in_ok-va.va =
      some_or_other c.in-Frame.mapped error.BadAddress c.in_ok-va.va
      (sym c.ok_or.ensures.value ∙ c.in_ok-va.was) in
      let entry : c.unmap-entry.result ≡ page_entry m e.root c.in_ok-va.va =
      subst (λ (r : ℕ). c.unmap-entry.result ≡ page_entry m r c.in_ok-va.va) h.has.root (c.unmap-entry.ensures.entry m h.holds) in
      let holds : Holds c.unmap-entry.new.mem (unmapped m e.root c.in_ok-va.va) =
      subst (λ (r : ℕ). Holds c.unmap-entry.new.mem (unmapped m r c.in_ok-va.va)) h.has.root (c.unmap-entry.ensures.unmapped m h.holds) in
      let caps : c.note.new.self ≡ with_cap c.args.domain.now.caps c.args.a (Some (cap.Frame c.in-Frame.frame c.in-Frame.rights None)) =
      c.note.ensures.becomes ∙ ap (λ (x : Option Cap). with_cap c.args.domain.now.caps c.args.a (noted x None)) there in
      ends_done 5 e c.args.domain.now _ c.unmap-entry.new.mem readings replies _
      (Note.Entry (page_entry m e.root c.in_ok-va.va) ∷ Note.Emptied ∷ [])
      (unmapped m e.root c.in_ok-va.va)
      (with_slot (dom_model c.args.domain.now readings replies) c.args.a (Some (cap.Frame c.in-Frame.frame c.in-Frame.rights None))) _
      (unmap_done e (dom_model c.args.domain.now readings replies) m c.args.a
      c.in-Frame.frame c.in-Frame.rights c.in-Frame.mapped below there c.in_ok-va.va at)
      (ap (λ (caps : Slots). with_caps caps (dom_model c.args.domain.now readings replies)) caps)
      holds
      (tells_entry_emptied 5 c.unmap-entry.result (page_entry m e.root c.in_ok-va.va)
      (work_model c.tell_entry.new.work) refl (c.tell_entry.ensures.written 5 c.requires.fresh) entry)
      (has_set e c.args.domain.now _ c.args.a _ h.has c.unmap-entry.ensures.root refl refl refl caps
      (free_page e c.args.domain.now.caps c.args.a c.in-Frame.frame c.in-Frame.rights c.in-Frame.mapped None h.has.slots below there));
  rest = rest_of c.args.domain.now _ _ _ _ c.unmap-entry.ensures.root;
  unchanged = tt;
  memory = tt;
  unwritten = tt;
  frames = c.unmap-entry.ensures.frames;
}

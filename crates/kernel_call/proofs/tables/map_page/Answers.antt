use Rattle.std.proofs.Common.{rules, ◌≡◌, ◌<◌, ◌%◌, ℕ, true, false, sym, ap, subst, subst₂, ◌∙◌, Option, Some, None, refl, ◌∷◌, [], inl}
use Rattle.std.specs.Prelude.{is_some, nat_eq}
use Rattle.std.proofs.lemmas.Result.{err_from_is_err_and}
use Rattle.phys_mem.specs.Holds.{Holds}
use Rattle.page_map.specs.Tables.{map_refusal}
use Rattle.page_map.specs.Changes.{page_entry, mapped}
use Rattle.cap_table.specs.declared.Cap.{Cap}
use Rattle.cap_table.specs.declared.Cap.TheVariants as cap
use Rattle.cap_table.specs.Slots.{Slots, cap_at, with_cap, noted}
use Rattle.call_table.specs.Domain.{refused, with_caps}
use Rattle.call_table.specs.Calls.{may_give, Note, with_slot}
use Rattle.kernel_clone.specs.Models.{work_model}
use Rattle.kernel_call.specs.declared.error.CallError.TheVariants as error
use Rattle.kernel_call.specs.Models.{dom_model}
use Rattle.kernel_call.specs.Facts.{reads, with_work}
use Rattle.kernel_call.proofs.Keeps.{if_err, rest_of, rest_same, same_parts}
use Rattle.kernel_call.proofs.Ties.{exits, ends_same, ends_refused, ends_unfilled, ends_done, has_set, tables_stand, page_below, page_apart, has_still}
use Rattle.kernel_call.proofs.TiesTables.{not_page, tells_entry, free_page, map_unfilled, map_no_page, map_no_rights, map_unaligned, map_mapped, map_refused, map_done}
use Rattle.kernel_call.proofs.tables.map_page.Goals as goal

pub returns-in_err-frame : goal.returns-in_err-frame
returns-in_err-frame c = record {
  does = λ e readings replies m h.
      let p = err_from_is_err_and c.from_residual.result c.from_residual.ensures.1 in
      ends_unfilled 4 e c.args.domain.now c.args.memory.now m readings replies c.args.a c.filled.result p.0
      c.in_err-frame.field-0.0 (with_work c.from_residual.result c.args.work.now) _ h
      (c.filled.ensures.finds readings replies m) c.in_err-frame.was p.2 (exits _ _ c.args.work.now p.1)
      (map_unfilled e (dom_model c.args.domain.now readings replies) m c.args.a c.args.b c.args.c);
  rest = rest_same c.args.domain.now;
  unchanged = if_err c.from_residual.result refl;
  memory = if_err c.from_residual.result refl;
  unwritten = if_err c.from_residual.result refl;
  frames = refl;
}

pub returns-in_default : goal.returns-in_default
returns-in_default c = record {
  does = λ e readings replies m h.
      ends_same 4 e c.args.domain.now c.args.memory.now m readings replies error.WrongKind _ h
      (map_no_page e (dom_model c.args.domain.now readings replies) m c.args.a c.args.b c.args.c c.in_ok-frame.field-0
      c.in_ok-frame.ensures.below c.in_ok-frame.ensures.there (not_page c.in_ok-frame.field-0 c.in_default.not-Frame));
  rest = rest_same c.args.domain.now;
  unchanged = refl;
  memory = refl;
  unwritten = refl;
  frames = refl;
}

pub returns-in_default-given_rights : goal.returns-in_default-given_rights
returns-in_default-given_rights c = record {
  does = λ e readings replies m h.
      let below : c.args.a < 64 = c.in_ok-frame.ensures.below in
      let there : cap_at c.args.domain.now.caps c.args.a
      ≡ Some (cap.Frame c.in-Frame.frame c.in-Frame.rights c.in-Frame.mapped) =
      c.in_ok-frame.ensures.there ∙ ap Some c.in-Frame.is in
      let bad : may_give c.in-Frame.rights c.args.c ≡ false = c.in_default-given_rights.ensures.refused in
      ends_same 4 e c.args.domain.now c.args.memory.now m readings replies error.BadRights _ h
      (map_no_rights e (dom_model c.args.domain.now readings replies) m c.args.a c.args.b c.args.c
      c.in-Frame.frame c.in-Frame.rights c.in-Frame.mapped below there bad);
  rest = rest_same c.args.domain.now;
  unchanged = refl;
  memory = refl;
  unwritten = refl;
  frames = refl;
}

pub returns-then-not-is_multiple_of : goal.returns-then-not-is_multiple_of
returns-then-not-is_multiple_of c = record {
  does = λ e readings replies m h.
      let below : c.args.a < 64 = c.in_ok-frame.ensures.below in
      let there : cap_at c.args.domain.now.caps c.args.a
      ≡ Some (cap.Frame c.in-Frame.frame c.in-Frame.rights c.in-Frame.mapped) =
      c.in_ok-frame.ensures.there ∙ ap Some c.in-Frame.is in
      let may : may_give c.in-Frame.rights c.args.c ≡ true = c.in-Some.ensures.given in
      let bad : nat_eq (c.args.b % 4096) 0 ≡ false = search rules in
      ends_same 4 e c.args.domain.now c.args.memory.now m readings replies error.BadAddress _ h
      (map_unaligned e (dom_model c.args.domain.now readings replies) m c.args.a c.args.b c.args.c
      c.in-Frame.frame c.in-Frame.rights c.in-Frame.mapped below there may bad);
  rest = rest_same c.args.domain.now;
  unchanged = refl;
  memory = refl;
  unwritten = refl;
  frames = refl;
}

pub returns-then-is_some : goal.returns-then-is_some
returns-then-is_some c = record {
  does = λ e readings replies m h.
      let below : c.args.a < 64 = c.in_ok-frame.ensures.below in
      let there : cap_at c.args.domain.now.caps c.args.a
      ≡ Some (cap.Frame c.in-Frame.frame c.in-Frame.rights c.in-Frame.mapped) =
      c.in_ok-frame.ensures.there ∙ ap Some c.in-Frame.is in
      let may : may_give c.in-Frame.rights c.args.c ≡ true = c.in-Some.ensures.given in
      let aligned : nat_eq (c.args.b % 4096) 0 ≡ true = search rules in
      let some : is_some c.in-Frame.mapped ≡ true = sym c.is_some.ensures ∙ c.if-is_some.true in
      ends_same 4 e c.args.domain.now c.args.memory.now m readings replies error.Mapped _ h
      (map_mapped e (dom_model c.args.domain.now readings replies) m c.args.a c.args.b c.args.c
      c.in-Frame.frame c.in-Frame.rights c.in-Frame.mapped below there may aligned some);
  rest = rest_same c.args.domain.now;
  unchanged = refl;
  memory = refl;
  unwritten = refl;
  frames = refl;
}

pub map-requires-clause-tables : goal.map-requires-clause-tables
map-requires-clause-tables c = tables_stand c.args.memory.now c.args.domain.now c.requires.valid

pub map-requires-clause-frame : goal.map-requires-clause-frame
map-requires-clause-frame c =
    let below : c.args.a < 64 = c.in_ok-frame.ensures.below in
    let there : cap_at c.args.domain.now.caps c.args.a
    ≡ Some (cap.Frame c.in-Frame.frame c.in-Frame.rights c.in-Frame.mapped) =
    c.in_ok-frame.ensures.there ∙ ap Some c.in-Frame.is in
    page_below c.args.memory.now c.args.domain.now c.requires.valid c.args.a c.in-Frame.frame
    c.in-Frame.rights c.in-Frame.mapped below there

pub map-requires-clause-apart : goal.map-requires-clause-apart
map-requires-clause-apart c =
    let below : c.args.a < 64 = c.in_ok-frame.ensures.below in
    let there : cap_at c.args.domain.now.caps c.args.a
    ≡ Some (cap.Frame c.in-Frame.frame c.in-Frame.rights c.in-Frame.mapped) =
    c.in_ok-frame.ensures.there ∙ ap Some c.in-Frame.is in
    page_apart c.args.memory.now c.args.domain.now c.requires.valid c.args.a c.in-Frame.frame
    c.in-Frame.rights c.in-Frame.mapped below there

pub returns-in-Err : goal.returns-in-Err
returns-in-Err c = record {
  does = λ e readings replies m h.
      let below : c.args.a < 64 = c.in_ok-frame.ensures.below in
      let there : cap_at c.args.domain.now.caps c.args.a
      ≡ Some (cap.Frame c.in-Frame.frame c.in-Frame.rights c.in-Frame.mapped) =
      c.in_ok-frame.ensures.there ∙ ap Some c.in-Frame.is in
      let may : may_give c.in-Frame.rights c.args.c ≡ true = c.in-Some.ensures.given in
      let aligned : nat_eq (c.args.b % 4096) 0 ≡ true = search rules in
      let none : is_some c.in-Frame.mapped ≡ false = sym c.is_some.ensures ∙ c.if-is_some.false in
      let refusal : map_refusal m e.root c.args.b ≡ Some c.in-Err.refusal =
      subst (λ (r : ℕ). map_refusal m r c.args.b ≡ Some c.in-Err.refusal) h.has.root (c.in-Err.ensures.refused m h.holds) in
      ends_refused 4 e c.args.domain.now _ c.map.new.mem m readings replies c.refusal_error.result _
      (subst (λ x. Holds x m) (sym c.in-Err.ensures.unchanged) h.holds)
      (has_still e c.args.domain.now _ h.has c.map.ensures.root refl refl refl refl)
      (map_refused e (dom_model c.args.domain.now readings replies) m c.args.a c.args.b c.args.c
      c.in-Frame.frame c.in-Frame.rights c.in-Frame.mapped below there c.in-Err.refusal may aligned none refusal
      ∙ ap (λ (n : ℕ). reads m (inl (refused n (dom_model c.args.domain.now readings replies)))) (sym c.refusal_error.ensures.value));
  rest = rest_of c.args.domain.now _ _ _ _ c.map.ensures.root;
  unchanged = same_parts c.args.domain.now _ _ _ c.map.ensures.root refl;
  memory = c.in-Err.ensures.unchanged;
  unwritten = refl;
  frames = c.map.ensures.frames;
}

pub returns : goal.returns
unfolding with_caps
returns c = record {
  does = λ e readings replies m h.
      let below : c.args.a < 64 = c.in_ok-frame.ensures.below in
      let there : cap_at c.args.domain.now.caps c.args.a
      ≡ Some (cap.Frame c.in-Frame.frame c.in-Frame.rights c.in-Frame.mapped) =
      c.in_ok-frame.ensures.there ∙ ap Some c.in-Frame.is in
      let may : may_give c.in-Frame.rights c.args.c ≡ true = c.in-Some.ensures.given in
      let aligned : nat_eq (c.args.b % 4096) 0 ≡ true = search rules in
      let none : is_some c.in-Frame.mapped ≡ false = sym c.is_some.ensures ∙ c.if-is_some.false in
      let allowed : map_refusal m e.root c.args.b ≡ None =
      subst (λ (r : ℕ). map_refusal m r c.args.b ≡ None) h.has.root (c.in-Ok.ensures.allowed m h.holds) in
      let entry : c.in-Ok.entry ≡ page_entry m e.root c.args.b =
      subst (λ (r : ℕ). c.in-Ok.entry ≡ page_entry m r c.args.b) h.has.root (c.in-Ok.ensures.entry m h.holds) in
      let number : c.in-Some.given ≡ c.args.c = c.in-Some.ensures.number in
      let holds : Holds c.map.new.mem (mapped m e.root c.args.b c.in-Frame.frame c.args.c) =
      subst₂ (λ (r given : ℕ). Holds c.map.new.mem (mapped m r c.args.b c.in-Frame.frame given)) h.has.root
      number (c.in-Ok.ensures.mapped m h.holds) in
      let caps : c.note.new.self
      ≡ with_cap c.args.domain.now.caps c.args.a
      (Some (cap.Frame c.in-Frame.frame c.in-Frame.rights (Some c.args.b))) =
      c.note.ensures.becomes ∙ ap (λ (x : Option Cap). with_cap c.args.domain.now.caps c.args.a (noted x (Some c.args.b))) there in
      ends_done 4 e c.args.domain.now _ c.map.new.mem readings replies _ (Note.Entry (page_entry m e.root c.args.b) ∷ [])
      (mapped m e.root c.args.b c.in-Frame.frame c.args.c)
      (with_slot (dom_model c.args.domain.now readings replies) c.args.a
      (Some (cap.Frame c.in-Frame.frame c.in-Frame.rights (Some c.args.b)))) _
      (map_done e (dom_model c.args.domain.now readings replies) m c.args.a c.args.b c.args.c
      c.in-Frame.frame c.in-Frame.rights c.in-Frame.mapped below there may aligned none allowed)
      (ap (λ (caps : Slots). with_caps caps (dom_model c.args.domain.now readings replies)) caps)
      holds
      (tells_entry 4 c.in-Ok.entry (page_entry m e.root c.args.b) (work_model c.tell_entry.new.work) refl
      (c.tell_entry.ensures.written 4 c.requires.fresh) entry)
      (has_set e c.args.domain.now _ c.args.a _ h.has c.map.ensures.root refl refl refl caps
      (free_page e c.args.domain.now.caps c.args.a c.in-Frame.frame c.in-Frame.rights c.in-Frame.mapped
      (Some c.args.b) h.has.slots below there));
  rest = rest_of c.args.domain.now _ _ _ _ c.map.ensures.root;
  unchanged = tt;
  memory = tt;
  unwritten = tt;
  frames = c.map.ensures.frames;
}

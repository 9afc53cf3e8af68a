-- x2
use Rattle.std.proofs.Common.{rules, ◌≡◌, ◌<◌, ◌%◌, ℕ, true, false, sym, ap, subst, ◌∙◌, Option, Some, None, refl, ◌∷◌, [], inl}
use Rattle.std.specs.Prelude.{is_some, nat_eq}
use Rattle.std.proofs.lemmas.Result.{err_from_is_err_and}
use Rattle.phys_mem.specs.Holds.{Holds}
use Rattle.page_map.specs.Tables.{install_refusal}
use Rattle.page_map.specs.Changes.{table_entry, installed}
use Rattle.cap_table.specs.declared.Cap.{Cap}
use Rattle.cap_table.specs.declared.Cap.TheVariants as cap
use Rattle.cap_table.specs.Slots.{Slots, cap_at, with_cap, noted}
use Rattle.call_table.specs.Domain.{refused, with_caps}
use Rattle.call_table.specs.Calls.{Note, with_slot}
use Rattle.kernel_clone.specs.Models.{work_model}
use Rattle.kernel_call.specs.declared.error.CallError.TheVariants as error
use Rattle.kernel_call.specs.Models.{dom_model}
use Rattle.kernel_call.specs.Facts.{reads, with_work}
use Rattle.kernel_call.proofs.Keeps.{if_err, rest_of, rest_same, same_parts}
use Rattle.kernel_call.proofs.Ties.{exits, ends_same, ends_refused, ends_unfilled, ends_done, has_set, has_still, tables_stand, table_below, table_apart, table_blank}
use Rattle.kernel_call.proofs.TiesTables.{not_table, tells_entry, free_table, install_unfilled, install_no_table, install_unaligned, install_twice, install_refused, install_done}
use Rattle.kernel_call.proofs.tables.install.Goals as goal

pub returns-in_err-frame : goal.returns-in_err-frame
returns-in_err-frame c = record {
  does = λ e readings replies m h.
      let p = err_from_is_err_and c.from_residual.result c.from_residual.ensures.1 in
      ends_unfilled 3 e c.args.domain.now c.args.memory.now m readings replies c.args.a c.filled.result p.0
      c.in_err-frame.field-0.0 (with_work c.from_residual.result c.args.work.now) _ h
      (c.filled.ensures.finds readings replies m) c.in_err-frame.was p.2 (exits _ _ c.args.work.now p.1)
      (install_unfilled e (dom_model c.args.domain.now readings replies) m c.args.a c.args.b);
  rest = rest_same c.args.domain.now;
  unchanged = if_err c.from_residual.result refl;
  memory = if_err c.from_residual.result refl;
  unwritten = if_err c.from_residual.result refl;
  frames = refl;
}

pub returns-in_default : goal.returns-in_default
returns-in_default c = record {
  does = λ e readings replies m h.
      ends_same 3 e c.args.domain.now c.args.memory.now m readings replies error.WrongKind _ h
      (install_no_table e (dom_model c.args.domain.now readings replies) m c.args.a c.args.b c.in_ok-frame.field-0
      c.in_ok-frame.ensures.below c.in_ok-frame.ensures.there (not_table c.in_ok-frame.field-0 c.in_default.not-Table));
  rest = rest_same c.args.domain.now;
  unchanged = refl;
  memory = refl;
  unwritten = refl;
  frames = refl;
}

pub returns-then-not-is_multiple_of : goal.returns-then-not-is_multiple_of
returns-then-not-is_multiple_of c = record {
  does = λ e readings replies m h.
      let below : c.args.a < 64 = c.in_ok-frame.ensures.below in
      let there : cap_at c.args.domain.now.caps c.args.a
      ≡ Some (cap.Table c.in-Table.frame c.in-Table.installed) =
      c.in_ok-frame.ensures.there ∙ ap Some c.in-Table.is in
      let bad : nat_eq (c.args.b % 4194304) 0 ≡ false = search rules in
      ends_same 3 e c.args.domain.now c.args.memory.now m readings replies error.BadAddress _ h
      (install_unaligned e (dom_model c.args.domain.now readings replies) m c.args.a c.args.b
      c.in-Table.frame c.in-Table.installed below there bad);
  rest = rest_same c.args.domain.now;
  unchanged = refl;
  memory = refl;
  unwritten = refl;
  frames = refl;
}

pub returns-then-is_some : goal.returns-then-is_some
returns-then-is_some c = record {
  does = λ e readings replies m h.
      let below : c.args.a < 64 = c.in_ok-frame.ensures.below in
      let there : cap_at c.args.domain.now.caps c.args.a
      ≡ Some (cap.Table c.in-Table.frame c.in-Table.installed) =
      c.in_ok-frame.ensures.there ∙ ap Some c.in-Table.is in
      let aligned : nat_eq (c.args.b % 4194304) 0 ≡ true = search rules in
      let some : is_some c.in-Table.installed ≡ true = sym c.is_some.ensures ∙ c.if-is_some.true in
      ends_same 3 e c.args.domain.now c.args.memory.now m readings replies error.Mapped _ h
      (install_twice e (dom_model c.args.domain.now readings replies) m c.args.a c.args.b c.in-Table.frame
      c.in-Table.installed below there aligned some);
  rest = rest_same c.args.domain.now;
  unchanged = refl;
  memory = refl;
  unwritten = refl;
  frames = refl;
}

pub install_table-requires-clause-tables : goal.install_table-requires-clause-tables
install_table-requires-clause-tables c = tables_stand c.args.memory.now c.args.domain.now c.requires.valid

pub install_table-requires-clause-frame : goal.install_table-requires-clause-frame
install_table-requires-clause-frame c =
    let below : c.args.a < 64 = c.in_ok-frame.ensures.below in
    let there : cap_at c.args.domain.now.caps c.args.a
    ≡ Some (cap.Table c.in-Table.frame c.in-Table.installed) =
    c.in_ok-frame.ensures.there ∙ ap Some c.in-Table.is in
    let none : is_some c.in-Table.installed ≡ false = sym c.is_some.ensures ∙ c.if-is_some.false in
    table_below c.args.memory.now c.args.domain.now c.requires.valid c.args.a c.in-Table.frame c.in-Table.installed below there none

pub install_table-requires-clause-apart : goal.install_table-requires-clause-apart
install_table-requires-clause-apart c =
    let below : c.args.a < 64 = c.in_ok-frame.ensures.below in
    let there : cap_at c.args.domain.now.caps c.args.a
    ≡ Some (cap.Table c.in-Table.frame c.in-Table.installed) =
    c.in_ok-frame.ensures.there ∙ ap Some c.in-Table.is in
    let none : is_some c.in-Table.installed ≡ false = sym c.is_some.ensures ∙ c.if-is_some.false in
    table_apart c.args.memory.now c.args.domain.now c.requires.valid c.args.a c.in-Table.frame c.in-Table.installed below there none

pub install_table-requires-clause-blank : goal.install_table-requires-clause-blank
install_table-requires-clause-blank c =
    let below : c.args.a < 64 = c.in_ok-frame.ensures.below in
    let there : cap_at c.args.domain.now.caps c.args.a
    ≡ Some (cap.Table c.in-Table.frame c.in-Table.installed) =
    c.in_ok-frame.ensures.there ∙ ap Some c.in-Table.is in
    let none : is_some c.in-Table.installed ≡ false = sym c.is_some.ensures ∙ c.if-is_some.false in
    table_blank c.args.memory.now c.args.domain.now c.requires.valid c.args.a c.in-Table.frame c.in-Table.installed below there none

pub returns-in-Err : goal.returns-in-Err
returns-in-Err c = record {
  does = λ e readings replies m h.
      let below : c.args.a < 64 = c.in_ok-frame.ensures.below in
      let there : cap_at c.args.domain.now.caps c.args.a
      ≡ Some (cap.Table c.in-Table.frame c.in-Table.installed) =
      c.in_ok-frame.ensures.there ∙ ap Some c.in-Table.is in
      let aligned : nat_eq (c.args.b % 4194304) 0 ≡ true = search rules in
      let none : is_some c.in-Table.installed ≡ false = sym c.is_some.ensures ∙ c.if-is_some.false in
      let refusal : install_refusal m e.root c.args.b ≡ Some c.in-Err.refusal =
      subst (λ (r : ℕ). install_refusal m r c.args.b ≡ Some c.in-Err.refusal) h.has.root (c.in-Err.ensures.refused m h.holds) in
      ends_refused 3 e c.args.domain.now _ c.install_table.new.mem m readings replies c.refusal_error.result _
      (subst (λ x. Holds x m) (sym c.in-Err.ensures.unchanged) h.holds)
      (has_still e c.args.domain.now _ h.has c.install_table.ensures.root refl refl refl refl)
      (install_refused e (dom_model c.args.domain.now readings replies) m c.args.a c.args.b c.in-Table.frame c.in-Table.installed
      below there c.in-Err.refusal aligned none refusal
      ∙ ap (λ (n : ℕ). reads m (inl (refused n (dom_model c.args.domain.now readings replies)))) (sym c.refusal_error.ensures.value));
  rest = rest_of c.args.domain.now _ _ _ _ c.install_table.ensures.root;
  unchanged = same_parts c.args.domain.now _ _ _ c.install_table.ensures.root refl;
  memory = c.in-Err.ensures.unchanged;
  unwritten = refl;
  frames = c.install_table.ensures.frames;
}

pub returns : goal.returns
unfolding with_caps
returns c = record {
  does = λ e readings replies m h.
      let below : c.args.a < 64 = c.in_ok-frame.ensures.below in
      let there : cap_at c.args.domain.now.caps c.args.a
      ≡ Some (cap.Table c.in-Table.frame c.in-Table.installed) =
      c.in_ok-frame.ensures.there ∙ ap Some c.in-Table.is in
      let aligned : nat_eq (c.args.b % 4194304) 0 ≡ true = search rules in
      let none : is_some c.in-Table.installed ≡ false = sym c.is_some.ensures ∙ c.if-is_some.false in
      let allowed : install_refusal m e.root c.args.b ≡ None =
      subst (λ (r : ℕ). install_refusal m r c.args.b ≡ None) h.has.root (c.in-Ok.ensures.allowed m h.holds) in
      let entry : c.in-Ok.entry ≡ table_entry e.root c.args.b =
      subst (λ (r : ℕ). c.in-Ok.entry ≡ table_entry r c.args.b) h.has.root c.in-Ok.ensures.entry in
      let holds : Holds c.install_table.new.mem (installed m e.root c.args.b c.in-Table.frame) =
      subst (λ (r : ℕ). Holds c.install_table.new.mem (installed m r c.args.b c.in-Table.frame)) h.has.root
      (c.in-Ok.ensures.installed m h.holds) in
      let caps : c.note.new.self ≡ with_cap c.args.domain.now.caps c.args.a (Some (cap.Table c.in-Table.frame (Some c.args.b))) =
      c.note.ensures.becomes ∙ ap (λ (x : Option Cap). with_cap c.args.domain.now.caps c.args.a (noted x (Some c.args.b))) there in
      ends_done 3 e c.args.domain.now _ c.install_table.new.mem readings replies _ (Note.Entry (table_entry e.root c.args.b) ∷ [])
      (installed m e.root c.args.b c.in-Table.frame)
      (with_slot (dom_model c.args.domain.now readings replies) c.args.a (Some (cap.Table c.in-Table.frame (Some c.args.b)))) _
      (install_done e (dom_model c.args.domain.now readings replies) m c.args.a c.args.b c.in-Table.frame c.in-Table.installed
      below there aligned none allowed)
      (ap (λ (caps : Slots). with_caps caps (dom_model c.args.domain.now readings replies)) caps)
      holds
      (tells_entry 3 c.in-Ok.entry (table_entry e.root c.args.b) (work_model c.tell_entry.new.work) refl
      (c.tell_entry.ensures.written 3 c.requires.fresh) entry)
      (has_set e c.args.domain.now _ c.args.a _ h.has c.install_table.ensures.root refl refl refl caps
      (free_table e c.args.domain.now.caps c.args.a c.in-Table.frame c.in-Table.installed (Some c.args.b) h.has.slots below there));
  rest = rest_of c.args.domain.now _ _ _ _ c.install_table.ensures.root;
  unchanged = tt;
  memory = tt;
  unwritten = tt;
  frames = c.install_table.ensures.frames;
}

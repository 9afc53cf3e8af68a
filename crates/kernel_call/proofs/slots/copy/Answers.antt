use Rattle.std.proofs.Common.{rules, ◌≡◌, ◌<◌, ◌≤◌, true, false, sym, ap, ◌∙◌, Option, Some, Err, refl, []}
use Rattle.std.specs.Prelude.{is_some}
use Rattle.std.proofs.lemmas.Result.{err_from_is_err_and}
use Rattle.cap_table.specs.declared.Cap.{Cap}
use Rattle.cap_table.specs.Slots.{Slots, cap_at, with_cap, copied}
use Rattle.call_table.specs.Domain.{with_caps}
use Rattle.call_table.specs.Calls.{with_slot}
use Rattle.kernel_clone.specs.Models.{work_model}
use Rattle.kernel_call.specs.declared.error.CallError.TheVariants as error
use Rattle.kernel_call.specs.Models.{dom_model}
use Rattle.kernel_call.specs.Facts.{code_of, with_work}
use Rattle.kernel_call.proofs.Keeps.{if_err, rest_of, rest_same}
use Rattle.kernel_call.proofs.Ties.{exits, ends_same, ends_error, ends_done, has_set}
use Rattle.kernel_call.proofs.TiesTables.{none_or, some_or_other, tells_nothing}
use Rattle.kernel_call.proofs.TiesSlots.{copy_bad, copy_bad_too, copy_empty, copy_used, copy_refused, copy_done, free_copied}
use Rattle.kernel_call.proofs.slots.copy.Goals as goal
use Rattle.kernel_call.proofs.slots.copy.Goals.{then-a-ge-SLOTS-via-then-a-ge-SLOTS, then-a-ge-SLOTS-via-else-a-ge-SLOTS+then-b-ge-SLOTS}

pub returns-then-a-ge-SLOTS : goal.returns-then-a-ge-SLOTS
returns-then-a-ge-SLOTS c = record {
  does = λ work fresh e readings replies m h.
      ends_same 6 e c.args.domain.now c.args.memory.now m readings replies error.BadSlot _ h
      (elim c.then-a-ge-SLOTS.branch [
        | then-a-ge-SLOTS-via-then-a-ge-SLOTS w ↦
            let above : 64 ≤ c.args.a = w.if-a-ge-SLOTS.true in
            copy_bad (dom_model c.args.domain.now readings replies) m c.args.a c.args.b c.args.c above
        | then-a-ge-SLOTS-via-else-a-ge-SLOTS+then-b-ge-SLOTS w ↦
            let below : c.args.a < 64 = w.if-a-ge-SLOTS.false in
            let above : 64 ≤ c.args.b = w.if-b-ge-SLOTS.true in
            copy_bad_too (dom_model c.args.domain.now readings replies) m c.args.a c.args.b c.args.c below above
      ]);
  rest = rest_same c.args.domain.now;
  unchanged = refl;
}

pub returns-in_err-cap : goal.returns-in_err-cap
returns-in_err-cap c = record {
  does = λ work fresh e readings replies m h.
      let below : c.args.a < 64 = search rules in
      let in_range : c.args.b < 64 = search rules in
      let p = err_from_is_err_and c.from_residual.result c.from_residual.ensures.1 in
      let none = none_or c.get.result error.Empty c.in_err-cap.field-0.0 (sym c.ok_or.ensures.value ∙ c.in_err-cap.was) in
      let exit : c.from_residual.result ≡ Err error.Empty = p.1 ∙ ap Err (p.2 ∙ sym none.1) in
      ends_error 6 e c.args.domain.now c.args.memory.now m readings replies error.Empty
      (with_work c.from_residual.result work) _ h (exits _ _ work exit)
      (copy_empty (dom_model c.args.domain.now readings replies) m c.args.a c.args.b c.args.c below in_range
      (sym c.get.ensures.cap ∙ none.0));
  rest = rest_same c.args.domain.now;
  unchanged = if_err c.from_residual.result refl;
}

pub returns-then-is_some : goal.returns-then-is_some
returns-then-is_some c = record {
  does = λ work fresh e readings replies m h.
      let below : c.args.a < 64 = search rules in
      let in_range : c.args.b < 64 = search rules in
      let found : c.get.result ≡ Some c.in_ok-cap.cap =
      some_or_other c.get.result error.Empty c.in_ok-cap.cap
      (sym c.ok_or.ensures.value ∙ c.in_ok-cap.was) in
      let full : is_some (cap_at c.args.domain.now.caps c.args.b) ≡ true =
      ap is_some (sym c.get-2.ensures.cap) ∙ (sym c.is_some.ensures ∙ c.if-is_some.true) in
      ends_same 6 e c.args.domain.now c.args.memory.now m readings replies error.Used _ h
      (copy_used (dom_model c.args.domain.now readings replies) m c.args.a c.args.b c.args.c below in_range
      c.in_ok-cap.cap (sym c.get.ensures.cap ∙ found) full);
  rest = rest_same c.args.domain.now;
  unchanged = refl;
}

pub returns-in_err-rights : goal.returns-in_err-rights
returns-in_err-rights c = record {
  does = λ work fresh e readings replies m h.
      let below : c.args.a < 64 = search rules in
      let in_range : c.args.b < 64 = search rules in
      let found : c.get.result ≡ Some c.in_ok-cap.cap =
      some_or_other c.get.result error.Empty c.in_ok-cap.cap
      (sym c.ok_or.ensures.value ∙ c.in_ok-cap.was) in
      let empty : is_some (cap_at c.args.domain.now.caps c.args.b) ≡ false =
      ap is_some (sym c.get-2.ensures.cap) ∙ (sym c.is_some.ensures ∙ c.if-is_some.false) in
      let p = err_from_is_err_and c.from_residual-in_err-rights.result c.from_residual-in_err-rights.ensures.1 in
      let exit : c.from_residual-in_err-rights.result ≡ Err c.in_err-rights.field-0.0 = p.1 ∙ ap Err p.2 in
      ends_error 6 e c.args.domain.now c.args.memory.now m readings replies c.in_err-rights.field-0.0
      (with_work c.from_residual-in_err-rights.result work) _ h (exits _ _ work exit)
      (copy_refused (dom_model c.args.domain.now readings replies) m c.args.a c.args.b c.args.c below in_range
      c.in_ok-cap.cap (sym c.get.ensures.cap ∙ found) (code_of c.in_err-rights.field-0.0) empty c.in_err-rights.ensures.refused);
  rest = rest_same c.args.domain.now;
  unchanged = if_err c.from_residual-in_err-rights.result refl;
}

pub returns : goal.returns
unfolding with_caps
returns c = record {
  does = λ work fresh e readings replies m h.
      let below : c.args.a < 64 = search rules in
      let in_range : c.args.b < 64 = search rules in
      let found : c.get.result ≡ Some c.in_ok-cap.cap =
      some_or_other c.get.result error.Empty c.in_ok-cap.cap
      (sym c.ok_or.ensures.value ∙ c.in_ok-cap.was) in
      let there : cap_at c.args.domain.now.caps c.args.a ≡ Some c.in_ok-cap.cap = sym c.get.ensures.cap ∙ found in
      let empty : is_some (cap_at c.args.domain.now.caps c.args.b) ≡ false =
      ap is_some (sym c.get-2.ensures.cap) ∙ (sym c.is_some.ensures ∙ c.if-is_some.false) in
      let caps : c.copy.new.self ≡ with_cap c.args.domain.now.caps c.args.b (copied (Some c.in_ok-cap.cap) c.args.c) =
      c.copy.ensures.becomes
      ∙ ap (λ (x : Option Cap). with_cap c.args.domain.now.caps c.args.b (copied x c.in_ok-rights.rights)) there
      ∙ ap (λ (x : Option Cap). with_cap c.args.domain.now.caps c.args.b x) c.in_ok-rights.ensures.copied in
      ends_done 6 e c.args.domain.now _ c.args.memory.now readings replies _ [] m
      (with_slot (dom_model c.args.domain.now readings replies) c.args.b (copied (Some c.in_ok-cap.cap) c.args.c)) _
      (copy_done (dom_model c.args.domain.now readings replies) m c.args.a c.args.b c.args.c below in_range
      c.in_ok-cap.cap there empty c.in_ok-rights.ensures.allowed)
      (ap (λ (caps : Slots). with_caps caps (dom_model c.args.domain.now readings replies)) caps)
      h.holds
      (tells_nothing 6 (work_model work) refl fresh)
      (has_set e c.args.domain.now _ c.args.b _ h.has refl refl refl refl caps
      (free_copied e c.args.domain.now.caps c.args.a c.args.b c.args.c c.in_ok-cap.cap h.has.slots below in_range there empty));
  rest = rest_of c.args.domain.now _ _ _ _ refl;
  unchanged = tt;
}

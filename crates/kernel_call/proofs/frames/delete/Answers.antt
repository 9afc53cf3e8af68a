-- DELETE: each refusal, and the frame that comes back.
use Rattle.std.proofs.Common.{refl, ◌≡◌, ◌∙◌, true, false, [], sym}
use Rattle.std.proofs.lemmas.Result.{err_from_is_err_and}
use Rattle.cap_table.specs.Slots.{in_use}
use Rattle.kernel_call.specs.declared.error.CallError.TheVariants as error
use Rattle.kernel_call.proofs.DropsDelete.{delete_unfilled, delete_used, can_clear_at, page_own, page_out, table_own, table_out, delete_ends}
use Rattle.kernel_call.specs.Facts.{with_work}
use Rattle.kernel_call.proofs.Keeps.{if_err, rest_of, rest_same}
use Rattle.kernel_call.proofs.Ties.{exits}
use Rattle.kernel_call.proofs.frames.delete.Goals as goal

pub returns-in_err-filled : goal.returns-in_err-filled
returns-in_err-filled c = record {
  does = λ e readings replies m h.
      let p = err_from_is_err_and c.from_residual.result c.from_residual.ensures.1 in
      delete_unfilled e c.args.domain.now c.args.memory.now readings replies m c.args.a h c.filled.result p.0
      c.in_err-filled.field-0.0 (with_work c.from_residual.result c.args.work.now)
      (c.filled.ensures.finds readings replies m) c.in_err-filled.was (exits _ _ c.args.work.now p.1) p.2;
  rest = rest_same c.args.domain.now;
  unchanged = if_err c.from_residual.result refl;
  memory = if_err c.from_residual.result refl;
  unwritten = if_err c.from_residual.result refl;
  frames = refl;
}

pub returns-then-in_use : goal.returns-then-in_use
returns-then-in_use c = record {
  does = λ e readings replies m h.
      let used : in_use c.args.domain.now.caps c.args.a ≡ true = sym c.in_use.ensures.value ∙ c.if-in_use.true in
      delete_used e c.args.domain.now c.args.memory.now readings replies m c.args.a h c.in_ok-filled.field-0 error.InUse refl
      c.in_ok-filled.ensures.below c.in_ok-filled.ensures.there used;
  rest = rest_same c.args.domain.now;
  unchanged = refl;
  memory = refl;
  unwritten = refl;
  frames = refl;
}

pub clear_entry-requires : goal.clear_entry-requires
clear_entry-requires c =
    let v = c.requires.valid in
    record {
      there = record {
        mem = v.mem;
        holds = v.facts.holds;
        so =
            can_clear_at v.estate c.args.domain.now c.args.memory.now [] [] v.mem c.args.a v.facts
            c.delete-gone.result.unmapped c.delete-gone.result.uninstalled
            c.delete-gone.ensures.unmapped c.delete-gone.ensures.uninstalled;
      };
      fresh = c.requires.fresh;
    }

pub give_back-requires-clause-own_page : goal.give_back-requires-clause-own_page
give_back-requires-clause-own_page c =
    let v = c.requires.valid in
    page_own v.estate c.args.domain.now c.args.memory.now [] [] v.mem c.args.a v.facts
    c.in_ok-filled.ensures.below c.delete-gone.result.held c.delete-gone.ensures.held

pub give_back-requires-clause-page_out : goal.give_back-requires-clause-page_out
give_back-requires-clause-page_out c =
    let v = c.requires.valid in
    page_out v.estate c.args.domain.now c.args.memory.now [] [] v.mem c.args.a v.facts
    c.in_ok-filled.ensures.below c.delete-gone.result.held c.delete-gone.ensures.held

pub give_back-requires-clause-own_table : goal.give_back-requires-clause-own_table
give_back-requires-clause-own_table c =
    let v = c.requires.valid in
    table_own v.estate c.args.domain.now c.args.memory.now [] [] v.mem c.args.a v.facts
    c.in_ok-filled.ensures.below c.delete-gone.result.table c.delete-gone.ensures.table

pub give_back-requires-clause-table_out : goal.give_back-requires-clause-table_out
give_back-requires-clause-table_out c =
    let v = c.requires.valid in
    table_out v.estate c.args.domain.now c.args.memory.now [] [] v.mem c.args.a v.facts
    c.in_ok-filled.ensures.below c.delete-gone.result.table c.delete-gone.ensures.table

pub returns : goal.returns
returns c = record {
  does = λ e readings replies m h.
      let unused : in_use c.args.domain.now.caps c.args.a ≡ false = sym c.in_use.ensures.value ∙ c.if-in_use.false in
      let t =
      delete_ends e c.args.domain.now c.args.memory.now readings replies m c.args.a h
      c.in_ok-filled.ensures.below c.in_ok-filled.field-0
      c.delete-gone.new.self c.give_back.new.pool c.clear_entry.new.map c.clear_entry.new.memory
      c.delete-gone.result.unmapped c.delete-gone.result.uninstalled c.delete-gone.result.held c.delete-gone.result.table
      (record { value = 0; work = c.clear_entry.new.work })
      c.in_ok-filled.ensures.there unused c.delete-gone.ensures.becomes c.delete-gone.ensures.unmapped c.delete-gone.ensures.uninstalled
      c.delete-gone.ensures.held c.delete-gone.ensures.table c.give_back.ensures.becomes c.clear_entry.ensures.map refl
      (c.clear_entry.ensures.clears m h.holds) in
      record {
        value = t.value;
        holds = t.holds;
        work = t.told;
        has = record { root = t.root; pool = t.free; slots = t.slots; calls = h.has.calls; number = h.has.number };
      };
  rest = rest_of c.args.domain.now _ _ _ _ c.clear_entry.ensures.map;
  unchanged = tt;
  memory = tt;
  unwritten = tt;
  frames = c.clear_entry.ensures.frames;
}

-- REVOKE: the refusals, and the slots that are emptied.
use Rattle.std.proofs.Common.{refl, ℕ, List, [], take}
use Rattle.std.proofs.lemmas.Result.{err_from_is_err_and}
use Rattle.kernel_call.proofs.DropsRevoke.{revoke_unfilled, can_revoke, revoke_ends}
use Rattle.kernel_call.specs.Facts.{with_work}
use Rattle.kernel_call.proofs.Keeps.{if_err, rest_of, rest_same}
use Rattle.kernel_call.proofs.Ties.{exits}
use Rattle.kernel_call.proofs.frames.revoke.Goals as goal

pub returns-in_err-filled : goal.returns-in_err-filled
returns-in_err-filled c = record {
  does = λ e readings replies m h.
      let p = err_from_is_err_and c.from_residual.result c.from_residual.ensures.1 in
      revoke_unfilled e c.args.domain.now c.args.memory.now readings replies m c.args.a h c.filled.result p.0
      c.in_err-filled.field-0.0 (with_work c.from_residual.result c.args.work.now)
      (c.filled.ensures.finds readings replies m) c.in_err-filled.was (exits _ _ c.args.work.now p.1) p.2;
  rest = rest_same c.args.domain.now;
  unchanged = if_err c.from_residual.result refl;
  memory = if_err c.from_residual.result refl;
  unwritten = if_err c.from_residual.result refl;
  frames = refl;
}

pub clear_all-requires-clause-there : goal.clear_all-requires-clause-there
clear_all-requires-clause-there c =
    let v = c.requires.valid in
    record {
      mem = v.mem;
      holds = v.facts.holds;
      so = can_revoke v.estate c.args.domain.now c.args.memory.now [] [] v.mem c.args.a v.facts
          (take c.revoke-revoked.result.written c.revoke-revoked.result.entries) c.revoke-revoked.ensures.entries;
    }

pub returns : goal.returns
returns c = record {
  does = λ e readings replies m h.
      let vas : List ℕ = take c.revoke-revoked.result.written c.revoke-revoked.result.entries in
      let t = revoke_ends e c.args.domain.now c.args.memory.now readings replies m c.args.a h c.in_ok-filled.field-0
      c.revoke-revoked.new.self c.args.domain.now.pool c.clear_all.new.map c.clear_all.new.memory vas
      (record { value = c.revoke-revoked.result.count; work = c.clear_all.result })
      c.in_ok-filled.ensures.below c.in_ok-filled.ensures.there c.revoke-revoked.ensures.becomes c.revoke-revoked.ensures.entries
      refl c.clear_all.ensures.map c.revoke-revoked.ensures.count (c.clear_all.ensures.unmaps m h.holds) in
      record {
        value = t.value;
        holds = t.holds;
        work = t.told;
        has = record { root = t.root; pool = t.free; slots = t.slots; calls = h.has.calls; number = h.has.number };
      };
  rest = rest_of c.args.domain.now _ _ _ _ c.clear_all.ensures.map;
  unchanged = tt;
  memory = tt;
  unwritten = tt;
  frames = c.clear_all.ensures.frames;
}

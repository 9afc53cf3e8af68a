-- Each slot is emptied where it is alike, and counted; no page comes back.
use Rattle.std.proofs.Common.{rules, ◌≡◌, ◌≢◌, ℕ, ◌+◌, ◌<◌, true, false, not, slice_set, None, ap, sym, subst, ◌∙◌, arith}
use Rattle.std.specs.Prelude.{is_some}
use Rattle.cap_table.specs.declared.Revoked.{Revoked}
use Rattle.cap_table.specs.Slots.{Slots, cap_at, alike, mapped_at, is_revoked}
use Rattle.cap_table.proofs.RevokeLemmas.{alike_unused, itself_at, another, none_back, still_there, RevokedTo, none_done, one_emptied, one_stays, all_done, CountedTo, none_counted, few_counted, few_written, one_counted, none_more, count_below}
use Rattle.cap_table.proofs.table.CapTable.revoke.Goals as goal
use Rattle.cap_table.proofs.table.CapTable.revoke.Goals.{then-i-slot+then-are_alike+else-prove, else-i-slot, else-i-slot-via-then-i-slot+else-are_alike, else-i-slot-via-else-i-slot}

pub loop-i-init : goal.loop-i-init
loop-i-init c = (
  omega arith,
  c.get-cap.ensures.cap,
  none_done c.args.self.now c.args.slot c.get-cap.ensures.places,
  none_counted c.args.self.now c.args.slot c.none-revoked.result.count c.none-revoked.result.written
      c.none-revoked.result.entries c.none-revoked.ensures.count c.none-revoked.ensures.written,
)

pub delete-gone-requires-clause-unused : goal.delete-gone-requires-clause-unused
delete-gone-requires-clause-unused c =
    let both : alike c.get-cap.result c.get.result ≡ true = search rules in
    alike_unused c.loop-i.self c.get-cap.result c.loop-i.i (ap (alike c.get-cap.result) (sym c.get.ensures.cap) ∙ both)

pub push-requires-clause-room : goal.push-requires-clause-room
push-requires-clause-room c = omega (
  arith,
  c.loop-i-test.true,
  c.requires.below,
  few_counted c.args.self.now c.args.slot c.loop-i.i c.loop-i.revoked.count c.loop-i.revoked.written
      c.loop-i.revoked.entries c.loop-i.invariant.3,
)

pub push-requires-clause-fewer : goal.push-requires-clause-fewer
push-requires-clause-fewer c =
    few_written c.args.self.now c.args.slot c.loop-i.i c.loop-i.revoked.count c.loop-i.revoked.written
    c.loop-i.revoked.entries c.loop-i.invariant.3

pub loop-i-preserved : goal.loop-i-preserved
loop-i-preserved c =
    let slots : Slots = c.args.self.now in
    let below : c.loop-i.i < 64 = omega (arith, c.loop-i-test.true, c.requires.below) in
    let here : cap_at c.loop-i.self c.loop-i.i ≡ cap_at slots c.loop-i.i = c.loop-i.invariant.2.left c.loop-i.i (omega arith) in
    elim c.if-i-slot.branch [
      | then-i-slot+then-are_alike+else-prove w ↦
          let other : c.loop-i.i ≢ c.args.slot = search rules in
          let both : alike c.get-cap.result w.get.result ≡ true = search rules in
          let revoked : is_revoked slots c.args.slot c.loop-i.i ≡ true =
          another slots c.args.slot c.loop-i.i other
          ∙ (ap (λ d. alike d (cap_at slots c.loop-i.i)) (sym c.get-cap.ensures.cap)
          ∙ (ap (alike c.get-cap.result) (sym here ∙ sym w.get.ensures.cap) ∙ both)) in
          let emptied : c.if-i-slot.self ≡ slice_set c.loop-i.self c.loop-i.i None = w.self-is ∙ w.delete-gone.ensures.becomes in
          let at : w.delete-gone.result.unmapped ≡ mapped_at (cap_at slots c.loop-i.i) =
          w.delete-gone.ensures.unmapped ∙ ap mapped_at here in (
            omega (arith, below),
            c.loop-i.invariant.1,
            subst (λ (now : Slots). RevokedTo slots c.args.slot (c.loop-i.i + 1) now) (sym emptied)
                (one_emptied slots c.args.slot c.loop-i.i c.loop-i.self c.loop-i.invariant.2 below revoked),
            subst (λ (r : Revoked). CountedTo slots c.args.slot (c.loop-i.i + 1) r.count r.written r.entries) (sym w.revoked-is)
                (one_counted slots c.args.slot c.loop-i.i c.loop-i.revoked.count c.loop-i.revoked.written
                c.loop-i.revoked.entries c.loop-i.invariant.3 revoked
                w.push.new.self.count w.push.new.self.written w.push.new.self.entries w.push.ensures.count
                (rw (← at) w.push.ensures.written) (rw (← at) w.push.ensures.entries)),
          )
      | else-i-slot w ↦
          let stays : is_revoked slots c.args.slot c.loop-i.i ≡ false = elim w.else-i-slot.branch [
            | else-i-slot-via-then-i-slot+else-are_alike v ↦
                let other : c.loop-i.i ≢ c.args.slot = search rules in
                let both : alike c.get-cap.result v.get.result ≡ false = search rules in
                another slots c.args.slot c.loop-i.i other
                ∙ (ap (λ d. alike d (cap_at slots c.loop-i.i)) (sym c.get-cap.ensures.cap)
                ∙ (ap (alike c.get-cap.result) (sym here ∙ sym v.get.ensures.cap) ∙ both))
            | else-i-slot-via-else-i-slot v ↦
                let same : c.loop-i.i ≡ c.args.slot = search rules in
                itself_at slots c.args.slot c.loop-i.i same
          ] in (
            omega (arith, below),
            c.loop-i.invariant.1,
            subst (λ (now : Slots). RevokedTo slots c.args.slot (c.loop-i.i + 1) now) (sym w.self-is)
                (one_stays slots c.args.slot c.loop-i.i c.loop-i.self c.loop-i.invariant.2 stays),
            subst (λ (r : Revoked). CountedTo slots c.args.slot (c.loop-i.i + 1) r.count r.written r.entries) (sym w.revoked-is)
                (none_more slots c.args.slot c.loop-i.i c.loop-i.revoked.count c.loop-i.revoked.written c.loop-i.revoked.entries c.loop-i.invariant.3 stays),
          )
    ]

pub returns-clause-becomes : goal.returns-clause-becomes
returns-clause-becomes c =
    let end : c.loop-i.i ≡ 64 = omega (arith, c.loop-i.invariant.0, c.loop-i-test.false) in
    all_done c.args.self.now c.args.slot c.loop-i.self c.get-cap.ensures.places
    (subst (λ (n : ℕ). RevokedTo c.args.self.now c.args.slot n c.loop-i.self) end c.loop-i.invariant.2)

pub returns-clause-few : goal.returns-clause-few
returns-clause-few c =
    let end : c.loop-i.i ≡ 64 = omega (arith, c.loop-i.invariant.0, c.loop-i-test.false) in
    let counted =
    subst (λ (n : ℕ). CountedTo c.args.self.now c.args.slot n c.loop-i.revoked.count
    c.loop-i.revoked.written c.loop-i.revoked.entries) end c.loop-i.invariant.3 in
    omega (arith, counted.counted_to, count_below c.args.self.now c.args.slot c.requires.below)

pub returns-clause-fewer : goal.returns-clause-fewer
returns-clause-fewer c =
    few_written c.args.self.now c.args.slot c.loop-i.i c.loop-i.revoked.count c.loop-i.revoked.written
    c.loop-i.revoked.entries c.loop-i.invariant.3

pub prove-unreachable-requires : goal.prove-unreachable-requires
prove-unreachable-requires c =
    let other : c.loop-i.i ≢ c.args.slot = search rules in
    let kept : cap_at c.loop-i.self c.args.slot ≡ c.get-cap.result =
    still_there c.args.self.now c.args.slot c.loop-i.i c.loop-i.self c.loop-i.invariant.2 ∙ sym c.get-cap.ensures.cap in
    let both : alike c.get-cap.result c.get.result ≡ true = search rules in
    let none : c.delete-gone.result.held ≡ None = none_back c.loop-i.self c.args.slot c.loop-i.i c.delete-gone.result.held other
    (ap (λ d. alike d (cap_at c.loop-i.self c.loop-i.i)) kept
    ∙ (ap (alike c.get-cap.result) (sym c.get.ensures.cap) ∙ both)) c.delete-gone.ensures.held in
    let never : false ≡ true = sym (ap is_some none) ∙ (c.is_none.ensures ∙ ap not c.if-prove.true) in
    absurd (cc never)

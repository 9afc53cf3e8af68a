-- Each part is new, and a new buffer keeps no leaf.
use Rattle.std.proofs.Common.{◌≡◌, ℕ, None, refl, subst}
use Rattle.std.specs.Prelude.{IfOk}
use Rattle.set_cache.specs.Calls.{IsNew}
use Rattle.branch_pred.specs.Guesses.{fresh_guesses}
use Rattle.tlb_model.specs.Buffer.{leaf_of}
use Rattle.mem_system.proofs.Leaves.{keeps_none}
use Rattle.mem_system.proofs.Made.{shape_made}
use Rattle.mem_system.proofs.on_core.OnCore.new.Goals as goal

pub returns : goal.returns
returns g c =
    let i = c.args.l1i in
    let d = c.args.l1d in
    let t = c.args.tlb in
    let made = c.in_ok-predictor.ensures in
    let guides = c.new_guides-guides.ensures in
    let level = c.new_first_level.ensures in
    let guesses = subst (λ o. IfOk o (λ m. m.0 ≡ fresh_guesses c.args.predictor)) made.first guides.predictor in
    let tlb =
    subst (λ o.
    IfOk o (λ m. IsNew g.P.Policy.takes g.P.Policy.stands_for t.policy t.sets t.ways m.1.pages))
    made.first guides.tlb in
    let none = subst (λ o. IfOk o (λ m. (page : ℕ) → leaf_of m.1 page ≡ None)) made.first guides.none in
    let l1i = subst (λ o. IfOk o (λ m. IsNew g.P.Policy.takes g.P.Policy.stands_for i.policy i.sets i.ways m.0)) made.second level.l1i in
    let l1d = subst (λ o. IfOk o (λ m. IsNew g.P.Policy.takes g.P.Policy.stands_for d.policy d.sets d.ways m.1)) made.second level.l1d in
    record {
      costs = refl;
      products = refl;
      pinned = refl;
      l1i = shape_made g.P.Policy.takes g.P.Policy.rule g.P.Policy.stands_for i.policy i.sets i.ways _ l1i;
      l1d = shape_made g.P.Policy.takes g.P.Policy.rule g.P.Policy.stands_for d.policy d.sets d.ways _ l1d;
      tlb = shape_made g.P.Policy.takes g.P.Policy.rule g.P.Policy.stands_for t.policy t.sets t.ways _ tlb;
      fresh = record { l1i = l1i.fresh; l1d = l1d.fresh; tlb = tlb.fresh; guesses = guesses };
      kept = λ mem frames root. keeps_none mem frames root _ none;
    }

pub invariant_of-result : goal.invariant_of-result
invariant_of-result g c =
    let d = c.args.l1d in
    let l1d =
    subst (λ o. IfOk o (λ m. IsNew g.P.Policy.takes g.P.Policy.stands_for d.policy d.sets d.ways m.1)) c.in_ok-predictor.ensures.second
    c.new_first_level.ensures.l1d in
    rw (l1d.same_sets, l1d.same_ways) c.requires.dirty

-- A look-up that hits is a touch; one that misses changes nothing.
use Rattle.std.proofs.Common.{Option, Some, None, IfSome, IfNone, ◌⊎◌, ap, sym, subst, inl, inr}
use Rattle.set_cache.specs.Contents.{Contents, kept_at}
use Rattle.l2_colour.specs.Contents.{IsL2}
use Rattle.l2_colour.proofs.AfterTouch.{after_touch, others_stay}
use Rattle.l2_colour.proofs.cache.L2.find.Goals as goal

-- a look-up finds something or nothing
found_or_not : {A : Type 0} {P Q : Type 0} (o : Option A) → IfSome o (λ _. P) → IfNone o Q → P ⊎ Q
found_or_not (Some x) found missed = inl found
found_or_not None found missed = inr missed

pub returns-clause-colour : goal.returns-clause-colour
returns-clause-colour g c =
    let a = c.self.inside in
    rw (← c.number.ensures.same) (rw (← c.self.view_is) (λ s apart.
    elim (found_or_not c.find.result c.find.ensures.touch c.find.ensures.missed) [
      | inl told ↦
          others_stay g.P.Policy.takes g.P.Policy.rule g.P.Policy.stands_for a.line_bits a.colours _ c.self.invariant
          told.answer c.number.result c.find.new.self told.touch s apart
      | inr same ↦ ap (λ (cache : Contents g.row.P.Denot). kept_at cache.table s) same
    ]))

pub invariant_of-self : goal.invariant_of-self
invariant_of-self g c =
    let a = c.self.inside in
    elim (found_or_not c.find.result c.find.ensures.touch c.find.ensures.missed) [
      | inl told ↦
          after_touch g.P.Policy.takes g.P.Policy.rule g.P.Policy.stands_for a.line_bits a.colours _ c.self.invariant
          told.answer c.number.result c.find.new.self told.touch
      | inr same ↦
          subst (λ (cache : Contents g.row.P.Denot). IsL2 a.line_bits a.colours (record {
            line_size = a.line_size;
            back = a.back;
            cache = cache;
          })) (sym same) c.self.invariant
    ]

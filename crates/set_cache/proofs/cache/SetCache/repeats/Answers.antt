use Rattle.std.proofs.Common.{◌≡◌, ◌%◌, ℕ, length, sym, subst, ◌∙◌, arith, rules}
use Rattle.std.proofs.lemmas.Bool.{false≢true}
use Rattle.set_cache.specs.Contents.{Contents}
use Rattle.set_cache.specs.Calls.{IsTouch}
use Rattle.set_cache.specs.Last.{IsLast}
use Rattle.set_cache.proofs.Ways.{hit_answer}
use Rattle.set_cache.proofs.Last.{touch_again, last_below, set_below, way_below}
use Rattle.set_cache.proofs.cache.SetCache.repeats.Goals as goal

pub is_marked-requires : goal.is_marked-requires
is_marked-requires g c =
    let s = c.self.inside in
    let cache : Contents _ =
    record { policy = s.policy; ways = s.packed.ways; epoch = s.packed.epoch; table = s.packed.table } in
    let number : c.from.result ≡ c.args.number = search rules in
    let is : IsLast g.P.Policy.rule g.P.Policy.stands_for cache s.last =
    c.self.invariant.last_stands (omega (arith, number, c.if-self-from.true)) in
    record {
      below = last_below g.P.Policy.takes g.P.Policy.rule g.P.Policy.stands_for cache s.last
          c.self.invariant.sound is;
    }

pub returns-then-not-store : goal.returns-then-not-store
returns-then-not-store g c = record {
  repeats = λ _.
      let s = c.self.inside in
      let cache : Contents _ =
      record { policy = s.policy; ways = s.packed.ways; epoch = s.packed.epoch; table = s.packed.table } in
      let number : c.from.result ≡ c.args.number = search rules in
      let is : IsLast g.P.Policy.rule g.P.Policy.stands_for cache s.last =
      c.self.invariant.last_stands (omega (arith, number, c.if-self-from.true)) in
      let again =
      touch_again g.P.Policy.takes g.P.Policy.rule g.P.Policy.stands_for cache s.last c.args.store
      c.self.invariant.sound is (λ on. absurd (false≢true (sym c.if-not-store.true ∙ on))) in
      subst
      (λ (t : ℕ × Contents _).
      IsTouch g.P.Policy.takes g.P.Policy.rule g.P.Policy.stands_for hit_answer t.0 c.args.store t.1 t.1)
      (λ j. ((c.if-self-from.true ∙ number) j, c.self.view_is j)) again;
}

pub returns-else-not-store : goal.returns-else-not-store
returns-else-not-store g c = record {
  repeats = λ marked.
      let s = c.self.inside in
      let cache : Contents _ =
      record { policy = s.policy; ways = s.packed.ways; epoch = s.packed.epoch; table = s.packed.table } in
      let number : c.from.result ≡ c.args.number = search rules in
      let is : IsLast g.P.Policy.rule g.P.Policy.stands_for cache s.last =
      c.self.invariant.last_stands (omega (arith, number, c.if-self-from.true)) in
      let sound = c.self.invariant.sound in
      let set : ℕ = s.last.number % length s.packed.table in
      let below = set_below g.P.Policy.takes g.P.Policy.stands_for cache set s.last.number sound (λ _. set) in
      let within = way_below g.P.Policy.takes g.P.Policy.rule g.P.Policy.stands_for cache s.last sound is in
      let mark = c.is_marked.ensures.value set is.way below within is.place in
      let again =
      touch_again g.P.Policy.takes g.P.Policy.rule g.P.Policy.stands_for cache s.last c.args.store
      sound is (λ _. sym mark ∙ marked) in
      subst
      (λ (t : ℕ × Contents _).
      IsTouch g.P.Policy.takes g.P.Policy.rule g.P.Policy.stands_for hit_answer t.0 c.args.store t.1 t.1)
      (λ j. ((c.if-self-from.true ∙ number) j, c.self.view_is j)) again;
}

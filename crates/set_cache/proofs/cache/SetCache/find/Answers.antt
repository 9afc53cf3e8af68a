use Rattle.std.proofs.Common.{◌≡◌, ◌<◌, ◌%◌, ◌+◌, ◌*◌, ℕ, true, false, length, Option, Some, None, refl, ap, sym, subst, ◌∙◌, arith, rules}
use Rattle.std.proofs.lemmas.Bool.{false≢true}
use Rattle.std.specs.Prelude.{IfSome, IfNone}
use Rattle.set_cache.specs.Cache.{way_of}
use Rattle.set_cache.specs.Contents.{Contents, kept_at}
use Rattle.set_cache.specs.Calls.{IsTouch, TellsHit}
use Rattle.set_cache.specs.Last.{IsLast}
use Rattle.set_cache.proofs.Ways.{hit_answer}
use Rattle.set_cache.proofs.Last.{IsPlaced, touch_again, last_placed, set_placed, set_first}
use Rattle.set_cache.proofs.cache.SetCache.find.Goals as goal

pub returns-then-self-from : goal.returns-then-self-from
returns-then-self-from g c =
    let s = c.self.inside in
    let cache : Contents _ =
    record { policy = s.policy; ways = s.packed.ways; epoch = s.packed.epoch; table = s.packed.table } in
    let number : c.from.result ≡ c.args.number = search rules in
    let sound = c.self.invariant.sound in
    let is : IsLast g.P.Policy.rule g.P.Policy.stands_for cache s.last =
    c.self.invariant.last_stands (omega (arith, number, c.if-self-from.true)) in
    let of =
    subst (λ (t : ℕ × Contents _). IsPlaced g.P.Policy.takes g.P.Policy.rule g.P.Policy.stands_for t.1 t.0 (Some s.last.place))
    (λ j. ((c.if-self-from.true ∙ number) j, c.self.view_is j))
    (last_placed g.P.Policy.takes g.P.Policy.rule g.P.Policy.stands_for cache s.last sound is) in
    let again =
    subst
    (λ (t : ℕ × Contents _). IsTouch g.P.Policy.takes g.P.Policy.rule g.P.Policy.stands_for hit_answer t.0 false t.1 t.1)
    (λ j. ((c.if-self-from.true ∙ number) j, c.self.view_is j))
    (touch_again g.P.Policy.takes g.P.Policy.rule g.P.Policy.stands_for cache s.last false sound is (λ store. absurd (false≢true store))) in
    record {
      here = of.here;
      stands = of.listed;
      below = of.below;
      missed = tt;
      touch = record { answer = hit_answer; told = refl; touch = again };
      epoch = refl;
    }

pub find-requires : goal.find-requires
find-requires g c =
    let s = c.self.inside in
    let cache : Contents _ =
    record { policy = s.policy; ways = s.packed.ways; epoch = s.packed.epoch; table = s.packed.table } in
    let home = c.set_of-set.ensures.value ∙ ap (λ n. c.args.number % n) c.count-sets.ensures.value in
    let first =
    set_first g.P.Policy.takes g.P.Policy.stands_for cache c.set_of-set.result c.args.number c.self.invariant.sound home in
    record { below = first.0; first = first.1 }

pub returns-in_err-way : goal.returns-in_err-way
returns-in_err-way g c =
    let s = c.self.inside in
    let cache : Contents _ =
    record { policy = s.policy; ways = s.packed.ways; epoch = s.packed.epoch; table = s.packed.table } in
    let set = c.set_of-set.result in
    let home = c.set_of-set.ensures.value ∙ ap (λ n. c.args.number % n) c.count-sets.ensures.value in
    let placed =
    set_placed g.P.Policy.takes g.P.Policy.rule g.P.Policy.stands_for cache c.args.number set None c.self.invariant.sound home
    c.in_err-way.ensures.value in
    let of =
    subst (λ (t : Option ℕ × Contents _). IsPlaced g.P.Policy.takes g.P.Policy.rule g.P.Policy.stands_for t.1 c.args.number t.0)
    (λ j. (sym c.from_residual.ensures j, c.self.view_is j)) placed in
    record {
      here = of.here;
      stands = of.listed;
      below = of.below;
      missed = subst (λ (o : Option ℕ). IfNone o (c.args.self.now ≡ c.args.self.now)) (sym c.from_residual.ensures) refl;
      touch =
          subst
          (λ (o : Option ℕ). IfSome o (λ _. TellsHit g.P.Policy.takes g.P.Policy.rule g.P.Policy.stands_for
          true c.args.number c.args.self.now c.args.self.now))
          (sym c.from_residual.ensures) tt;
      epoch = refl;
    }

pub hit-requires : goal.hit-requires
hit-requires g c =
    let set = c.set_of-set.result in
    let home = c.set_of-set.ensures.value ∙ ap (λ n. c.args.number % n) c.count-sets.ensures.value in
    record {
      home = home ∙ ap (λ (v : Contents _). c.args.number % length v.table) c.self.view_is;
      found =
          ap (λ (v : Contents _). way_of c.args.number (kept_at v.table set).places) (sym c.self.view_is)
          ∙ sym c.in_ok-way.ensures.value;
      within = subst (λ (v : Contents _). c.in_ok-way.way < v.ways) c.self.view_is c.in_ok-way.ensures.below;
    }

pub returns : goal.returns
returns g c =
    let s = c.self.inside in
    let cache : Contents _ =
    record { policy = s.policy; ways = s.packed.ways; epoch = s.packed.epoch; table = s.packed.table } in
    let set = c.set_of-set.result in
    let home = c.set_of-set.ensures.value ∙ ap (λ n. c.args.number % n) c.count-sets.ensures.value in
    let way = c.in_ok-way.way in
    let placed =
    subst (λ (v : Contents _). IsPlaced g.P.Policy.takes g.P.Policy.rule g.P.Policy.stands_for v c.args.number (Some (set * v.ways + way)))
    c.self.view_is
    (set_placed g.P.Policy.takes g.P.Policy.rule g.P.Policy.stands_for cache c.args.number set (Some way) c.self.invariant.sound home
    c.in_ok-way.ensures.value) in
    let of =
    subst (λ (n : ℕ). IsPlaced g.P.Policy.takes g.P.Policy.rule g.P.Policy.stands_for c.args.self.now
    c.args.number (Some n)) (sym c.hit.ensures.place) placed in
    record {
      here = of.here;
      stands = of.listed;
      below = of.below;
      missed = tt;
      touch = record { answer = hit_answer; told = refl; touch = c.hit.ensures.touch };
      epoch = c.hit.ensures.epoch;
    }

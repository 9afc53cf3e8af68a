use Rattle.std.proofs.Common.{◌≡◌, ◌%◌, ◌+◌, ◌*◌, ℕ, Option, Some, None, ap, sym, subst, ◌∙◌, arith, rules}
use Rattle.set_cache.specs.Contents.{Contents}
use Rattle.set_cache.specs.Last.{IsLast}
use Rattle.set_cache.proofs.Last.{IsPlaced, last_placed, set_placed, set_first, place_fits}
use Rattle.set_cache.proofs.cache.SetCache.place_of.Goals as goal

pub returns-then-self-from : goal.returns-then-self-from
returns-then-self-from g c =
    let s = c.self.inside in
    let cache : Contents _ =
    record { policy = s.policy; ways = s.packed.ways; epoch = s.packed.epoch; table = s.packed.table } in
    let number : c.from.result ≡ c.args.number = search rules in
    let is : IsLast g.P.Policy.rule g.P.Policy.stands_for cache s.last =
    c.self.invariant.last_stands (omega (arith, number, c.if-self-from.true)) in
    let of =
    subst (λ (t : ℕ × Contents _). IsPlaced g.P.Policy.takes g.P.Policy.rule g.P.Policy.stands_for t.1 t.0 (Some s.last.place))
    (λ j. ((c.if-self-from.true ∙ number) j, c.self.view_is j))
    (last_placed g.P.Policy.takes g.P.Policy.rule g.P.Policy.stands_for cache s.last c.self.invariant.sound is) in
    record { here = of.here; stands = of.listed; below = of.below; sound = of.sound }

pub find-requires : goal.find-requires
find-requires g c =
    let s = c.self.inside in
    let cache : Contents _ =
    record { policy = s.policy; ways = s.packed.ways; epoch = s.packed.epoch; table = s.packed.table } in
    let home = c.set_of-set.ensures.value ∙ ap (λ n. c.args.number % n) c.count.ensures.value in
    let first =
    set_first g.P.Policy.takes g.P.Policy.stands_for cache c.set_of-set.result c.args.number c.self.invariant.sound home in
    record { below = first.0; first = first.1 }

pub returns-in_err-way : goal.returns-in_err-way
returns-in_err-way g c =
    let s = c.self.inside in
    let cache : Contents _ =
    record { policy = s.policy; ways = s.packed.ways; epoch = s.packed.epoch; table = s.packed.table } in
    let set = c.set_of-set.result in
    let home = c.set_of-set.ensures.value ∙ ap (λ n. c.args.number % n) c.count.ensures.value in
    let placed =
    set_placed g.P.Policy.takes g.P.Policy.rule g.P.Policy.stands_for cache c.args.number set None c.self.invariant.sound home
    c.in_err-way.ensures.value in
    let of =
    subst (λ (t : Option ℕ × Contents _). IsPlaced g.P.Policy.takes g.P.Policy.rule g.P.Policy.stands_for t.1 c.args.number t.0)
    (λ j. (sym c.from_residual.ensures j, c.self.view_is j)) placed in
    record { here = of.here; stands = of.listed; below = of.below; sound = of.sound }

pub returns : goal.returns
returns g c =
    let s = c.self.inside in
    let cache : Contents _ =
    record { policy = s.policy; ways = s.packed.ways; epoch = s.packed.epoch; table = s.packed.table } in
    let set = c.set_of-set.result in
    let home = c.set_of-set.ensures.value ∙ ap (λ n. c.args.number % n) c.count.ensures.value in
    let way = c.in_ok-way.way in
    let placed =
    set_placed g.P.Policy.takes g.P.Policy.rule g.P.Policy.stands_for cache c.args.number set (Some way) c.self.invariant.sound home
    c.in_ok-way.ensures.value in
    let of =
    subst (λ (t : ℕ × Contents _). IsPlaced g.P.Policy.takes g.P.Policy.rule g.P.Policy.stands_for t.1
    c.args.number (Some (set * t.0 + way)))
    (λ j. (sym c.ways.ensures.value j, c.self.view_is j)) placed in
    record { here = of.here; stands = of.listed; below = of.below; sound = of.sound }

pub overflow_mul-result : goal.overflow_mul-result
overflow_mul-result g c =
    let s = c.self.inside in
    let cache : Contents _ =
    record { policy = s.policy; ways = s.packed.ways; epoch = s.packed.epoch; table = s.packed.table } in
    let home = c.set_of-set.ensures.value ∙ ap (λ n. c.args.number % n) c.count.ensures.value in
    let fits =
    place_fits g.P.Policy.takes g.P.Policy.stands_for cache c.set_of-set.result c.args.number c.ways.result c.in_ok-way.way
    c.self.invariant.sound home c.ways.ensures.value c.in_ok-way.ensures.below in
    omega (arith, fits)

pub overflow_add-result : goal.overflow_add-result
overflow_add-result g c =
    let s = c.self.inside in
    let cache : Contents _ =
    record { policy = s.policy; ways = s.packed.ways; epoch = s.packed.epoch; table = s.packed.table } in
    let home = c.set_of-set.ensures.value ∙ ap (λ n. c.args.number % n) c.count.ensures.value in
    let fits =
    place_fits g.P.Policy.takes g.P.Policy.stands_for cache c.set_of-set.result c.args.number c.ways.result c.in_ok-way.way
    c.self.invariant.sound home c.ways.ensures.value c.in_ok-way.ensures.below in
    omega (arith, fits)

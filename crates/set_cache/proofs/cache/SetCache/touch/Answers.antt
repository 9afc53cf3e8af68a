use Rattle.std.proofs.Common.{◌%◌, ◌<◌, ℕ, length, Option, refl, ap, sym, subst, ◌∙◌}
use Rattle.std.specs.Prelude.{IfSome}
use Rattle.set_cache.specs.Cache.{way_of}
use Rattle.set_cache.specs.Contents.{Contents, kept_at}
use Rattle.set_cache.proofs.Last.{set_first}
use Rattle.set_cache.proofs.cache.SetCache.touch.Goals as goal

pub returns-then-repeats : goal.returns-then-repeats
returns-then-repeats g c = record { touch = c.repeats.ensures.repeats c.if-repeats.true; epoch = refl }

pub find-requires : goal.find-requires
find-requires g c =
    let s = c.self.inside in
    let cache : Contents _ =
    record { policy = s.policy; ways = s.packed.ways; epoch = s.packed.epoch; table = s.packed.table } in
    let home = c.set_of-set.ensures.value ∙ ap (λ n. c.args.number % n) c.count.ensures.value in
    let first =
    set_first g.P.Policy.takes g.P.Policy.stands_for cache c.set_of-set.result c.args.number c.self.invariant.sound home in
    record { below = first.0; first = first.1 }

pub hit-requires : goal.hit-requires
hit-requires g c =
    let set = c.set_of-set.result in
    let home = c.set_of-set.ensures.value ∙ ap (λ n. c.args.number % n) c.count.ensures.value in
    record {
      home = home ∙ ap (λ (v : Contents _). c.args.number % length v.table) c.self.view_is;
      found =
          ap (λ (v : Contents _). way_of c.args.number (kept_at v.table set).places) (sym c.self.view_is)
          ∙ sym c.find.ensures.value ∙ c.in-Some.is;
      within =
          subst (λ (v : Contents _). c.in-Some.way < v.ways) c.self.view_is
          (subst (λ (o : Option ℕ). IfSome o (λ way. way < c.self.inside.packed.ways)) c.in-Some.is c.find.ensures.below);
    }

pub fill-requires : goal.fill-requires
fill-requires g c =
    let set = c.set_of-set.result in
    let home = c.set_of-set.ensures.value ∙ ap (λ n. c.args.number % n) c.count.ensures.value in
    record {
      home = home ∙ ap (λ (v : Contents _). c.args.number % length v.table) c.self.view_is;
      missing =
          ap (λ (v : Contents _). way_of c.args.number (kept_at v.table set).places) (sym c.self.view_is)
          ∙ sym c.find.ensures.value ∙ c.in-None.is;
    }

pub returns-in-Some : goal.returns-in-Some
returns-in-Some g c = record { touch = c.hit.ensures.touch; epoch = c.hit.ensures.epoch }

pub returns-in-None : goal.returns-in-None
returns-in-None g c = record { touch = c.fill.ensures.touch; epoch = c.fill.ensures.epoch }

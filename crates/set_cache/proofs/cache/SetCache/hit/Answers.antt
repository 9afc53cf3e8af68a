use Rattle.std.proofs.Common.{arith, ◌<◌, ◌≡◌, ◌%◌, ◌*◌, ◌+◌, ℕ, List, length, Some, refl, sym, subst, rules}
use Rattle.set_cache.specs.Cache.{way_of}
use Rattle.set_cache.specs.Contents.{KeptSet, Contents, kept_at}
use Rattle.set_cache.specs.Packed.{KeptSets}
use Rattle.set_cache.specs.Last.{IsCache}
use Rattle.set_cache.specs.Calls.{IsTouch}
use Rattle.set_cache.proofs.Ways.{hit_answer}
use Rattle.set_cache.proofs.Sets.{OneHit, hit_places, fresh_cache}
use Rattle.set_cache.proofs.Last.{cache_hit, set_below, place_fits}
use Rattle.set_cache.proofs.cache.SetCache.hit.Goals as goal

pub touch-state-requires-clause-valid : goal.touch-state-requires-clause-valid
touch-state-requires-clause-valid g c =
    let s = c.self.inside in
    let cache : Contents _ =
    record { policy = s.policy; ways = s.packed.ways; epoch = s.packed.epoch; table = s.packed.table } in
    let home : c.args.set ≡ c.args.number % length s.packed.table =
    subst (λ (v : Contents _). c.args.set ≡ c.args.number % length v.table)
    (sym c.self.view_is) c.requires.home in
    let sound = c.self.invariant.sound in
    let below = set_below g.P.Policy.takes g.P.Policy.stands_for cache c.args.set c.args.number sound home in
    subst (λ (t : ℕ × ℕ). (list : List ℕ) × g.P.Policy.stands_for s.policy t.0 t.1 list)
    (λ j. (sym c.ways-ways.ensures.value j, sym c.state.ensures.value j))
    (sound.valid c.args.set _ below)

pub invariant_of-self : goal.invariant_of-self
invariant_of-self g c =
    let s = c.self.inside in
    let cache : Contents _ =
    record { policy = s.policy; ways = s.packed.ways; epoch = s.packed.epoch; table = s.packed.table } in
    let home : c.args.set ≡ c.args.number % length s.packed.table =
    subst (λ (v : Contents _). c.args.set ≡ c.args.number % length v.table)
    (sym c.self.view_is) c.requires.home in
    let number : c.args.number ≡ c.from-self-inside.result = search rules in
    let rule = g.P.Policy.rule s.policy in
    let stands = g.P.Policy.stands_for s.policy in
    let ways : c.ways-ways.result ≡ s.packed.ways = c.ways-ways.ensures.value in
    let old : KeptSet = kept_at s.packed.table c.args.set in
    let hit : OneHit = record {
      number = c.args.number;
      store = c.args.store;
      way = c.args.way;
      set = c.args.set;
      old = old;
      new = record {
        places = hit_places old.places c.args.way c.args.number c.args.store;
        state = c.touch-state.result;
      };
    } in
    let of = cache_hit g.P.Policy.takes g.P.Policy.rule g.P.Policy.stands_for cache s.packed.fresh s.last hit
    c.self.invariant (record {
      home = home;
      old = refl;
      hits = record {
        found =
            subst (λ (v : Contents _). way_of c.args.number (kept_at v.table c.args.set).places
            ≡ Some c.args.way)
            (sym c.self.view_is) c.requires.found;
        places = refl;
        touched =
            subst
            (λ (t : ℕ × ℕ). (list : List ℕ) → stands t.0 t.1 list
            → stands t.0 c.touch-state.result ((rule t.0).touched list c.args.way))
            (λ j. (ways j, c.state.ensures.value j)) c.touch-state.ensures.touched;
      };
      again =
          subst
          (λ (n : ℕ). (list : List ℕ) → stands n c.touch-state.result list
          → stands n c.touch-state.result ((rule n).touched list c.args.way))
          ways c.touch-state.ensures.again;
    }) in
    subst
    (λ (t : KeptSets × ℕ × ℕ).
    IsCache g.P.Policy.takes g.P.Policy.rule g.P.Policy.stands_for (fresh_cache s.policy t.0) t.0.fresh
    (record { number = t.2; place = c.args.set * t.1 + c.args.way }))
    (λ j. (sym c.write_hit.ensures.written j, sym ways j, number j)) of.lawful

pub returns-clause-touch : goal.returns-clause-touch
returns-clause-touch g c =
    let s = c.self.inside in
    let cache : Contents _ =
    record { policy = s.policy; ways = s.packed.ways; epoch = s.packed.epoch; table = s.packed.table } in
    let home : c.args.set ≡ c.args.number % length s.packed.table =
    subst (λ (v : Contents _). c.args.set ≡ c.args.number % length v.table)
    (sym c.self.view_is) c.requires.home in
    let rule = g.P.Policy.rule s.policy in
    let stands = g.P.Policy.stands_for s.policy in
    let ways : c.ways-ways.result ≡ s.packed.ways = c.ways-ways.ensures.value in
    let old : KeptSet = kept_at s.packed.table c.args.set in
    let hit : OneHit = record {
      number = c.args.number;
      store = c.args.store;
      way = c.args.way;
      set = c.args.set;
      old = old;
      new = record {
        places = hit_places old.places c.args.way c.args.number c.args.store;
        state = c.touch-state.result;
      };
    } in
    let of = cache_hit g.P.Policy.takes g.P.Policy.rule g.P.Policy.stands_for cache s.packed.fresh s.last hit
    c.self.invariant (record {
      home = home;
      old = refl;
      hits = record {
        found =
            subst (λ (v : Contents _). way_of c.args.number (kept_at v.table c.args.set).places
            ≡ Some c.args.way)
            (sym c.self.view_is) c.requires.found;
        places = refl;
        touched =
            subst
            (λ (t : ℕ × ℕ). (list : List ℕ) → stands t.0 t.1 list
            → stands t.0 c.touch-state.result ((rule t.0).touched list c.args.way))
            (λ j. (ways j, c.state.ensures.value j)) c.touch-state.ensures.touched;
      };
      again =
          subst
          (λ (n : ℕ). (list : List ℕ) → stands n c.touch-state.result list
          → stands n c.touch-state.result ((rule n).touched list c.args.way))
          ways c.touch-state.ensures.again;
    }) in
    subst
    (λ (t : Contents _ × KeptSets).
    IsTouch g.P.Policy.takes g.P.Policy.rule g.P.Policy.stands_for hit_answer c.args.number c.args.store t.0
    (fresh_cache s.policy t.1))
    (λ j. (c.self.view_is j, sym c.write_hit.ensures.written j)) of.touch

pub overflow_mul-place : goal.overflow_mul-place
overflow_mul-place g c =
    let s = c.self.inside in
    let cache : Contents _ =
    record { policy = s.policy; ways = s.packed.ways; epoch = s.packed.epoch; table = s.packed.table } in
    let home : c.args.set ≡ c.args.number % length s.packed.table =
    subst (λ (v : Contents _). c.args.set ≡ c.args.number % length v.table) (sym c.self.view_is) c.requires.home in
    let within : c.args.way < s.packed.ways =
    subst (λ (v : Contents _). c.args.way < v.ways) (sym c.self.view_is) c.requires.within in
    let fits =
    place_fits g.P.Policy.takes g.P.Policy.stands_for cache c.args.set c.args.number c.ways-ways.result c.args.way
    c.self.invariant.sound home c.ways-ways.ensures.value within in
    omega (arith, fits)

pub overflow_add-place : goal.overflow_add-place
overflow_add-place g c =
    let s = c.self.inside in
    let cache : Contents _ =
    record { policy = s.policy; ways = s.packed.ways; epoch = s.packed.epoch; table = s.packed.table } in
    let home : c.args.set ≡ c.args.number % length s.packed.table =
    subst (λ (v : Contents _). c.args.set ≡ c.args.number % length v.table) (sym c.self.view_is) c.requires.home in
    let within : c.args.way < s.packed.ways =
    subst (λ (v : Contents _). c.args.way < v.ways) (sym c.self.view_is) c.requires.within in
    let fits =
    place_fits g.P.Policy.takes g.P.Policy.stands_for cache c.args.set c.args.number c.ways-ways.result c.args.way
    c.self.invariant.sound home c.ways-ways.ensures.value within in
    omega (arith, fits)

pub overflow_cast-place-2 : goal.overflow_cast-place-2
overflow_cast-place-2 g c =
    let s = c.self.inside in
    let cache : Contents _ =
    record { policy = s.policy; ways = s.packed.ways; epoch = s.packed.epoch; table = s.packed.table } in
    let home : c.args.set ≡ c.args.number % length s.packed.table =
    subst (λ (v : Contents _). c.args.set ≡ c.args.number % length v.table) (sym c.self.view_is) c.requires.home in
    let within : c.args.way < s.packed.ways =
    subst (λ (v : Contents _). c.args.way < v.ways) (sym c.self.view_is) c.requires.within in
    let fits =
    place_fits g.P.Policy.takes g.P.Policy.stands_for cache c.args.set c.args.number c.ways-ways.result c.args.way
    c.self.invariant.sound home c.ways-ways.ensures.value within in
    omega (arith, fits)

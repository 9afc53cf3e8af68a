use Rattle.std.proofs.Common.{◌≡◌, ◌%◌, ◌*◌, ◌+◌, ℕ, Bool, List, length, set, Option, Some, None, false, unwrap_or, refl, ap, sym, subst, arith, rules}
use Rattle.std.specs.Prelude.{position, is_none}
use Rattle.set_cache.specs.declared.Touch.{Touch}
use Rattle.set_cache.specs.Cache.{way_of}
use Rattle.set_cache.specs.Contents.{KeptSet, Contents, kept_at}
use Rattle.set_cache.specs.Packed.{KeptSets}
use Rattle.set_cache.specs.Last.{IsCache}
use Rattle.set_cache.specs.Calls.{IsTouch}
use Rattle.set_cache.proofs.Sets.{OneFill, fill_answer, fresh_cache}
use Rattle.set_cache.proofs.Last.{place_fits, cache_fill, set_below}
use Rattle.set_cache.proofs.cache.SetCache.fill.Goals as goal

pub way_for-way-requires-clause-valid : goal.way_for-way-requires-clause-valid
way_for-way-requires-clause-valid g c =
    let s = c.self.inside in
    let cache : Contents _ =
    record { policy = s.policy; ways = s.packed.ways; epoch = s.packed.epoch; table = s.packed.table } in
    let home : c.args.set ≡ c.args.number % length s.packed.table =
    subst (λ (v : Contents _). c.args.set ≡ c.args.number % length v.table)
    (sym c.self.view_is) c.requires.home in
    let sound = c.self.invariant.sound in
    let below = set_below g.P.Policy.takes g.P.Policy.stands_for cache c.args.set c.args.number sound home in
    subst (λ (n : ℕ). (list : List ℕ) × g.P.Policy.stands_for s.policy s.packed.ways n list)
    (sym c.state-state.ensures.value) (sound.valid c.args.set _ below)

pub fill-state-requires-clause-valid : goal.fill-state-requires-clause-valid
fill-state-requires-clause-valid g c =
    let s = c.self.inside in
    let cache : Contents _ =
    record { policy = s.policy; ways = s.packed.ways; epoch = s.packed.epoch; table = s.packed.table } in
    let home : c.args.set ≡ c.args.number % length s.packed.table =
    subst (λ (v : Contents _). c.args.set ≡ c.args.number % length v.table)
    (sym c.self.view_is) c.requires.home in
    let sound = c.self.invariant.sound in
    let below = set_below g.P.Policy.takes g.P.Policy.stands_for cache c.args.set c.args.number sound home in
    subst (λ (t : ℕ × ℕ). (list : List ℕ) × g.P.Policy.stands_for s.policy t.0 t.1 list)
    (λ j. (sym c.ways-ways.ensures.value j, sym c.state-state.ensures.value j))
    (sound.valid c.args.set _ below)

pub invariant_of-self : goal.invariant_of-self
invariant_of-self g c =
    let s = c.self.inside in
    let cache : Contents _ =
    record { policy = s.policy; ways = s.packed.ways; epoch = s.packed.epoch; table = s.packed.table } in
    let home : c.args.set ≡ c.args.number % length s.packed.table =
    subst (λ (v : Contents _). c.args.set ≡ c.args.number % length v.table)
    (sym c.self.view_is) c.requires.home in
    let sound = c.self.invariant.sound in
    let number : c.args.number ≡ c.from-self-inside.result = search rules in
    let rule = g.P.Policy.rule s.policy in
    let stands = g.P.Policy.stands_for s.policy in
    let ways : c.ways-ways.result ≡ s.packed.ways = c.ways-ways.ensures.value in
    let state = c.state-state.ensures.value in
    let below = set_below g.P.Policy.takes g.P.Policy.stands_for cache c.args.set c.args.number sound home in
    let old : KeptSet = kept_at s.packed.table c.args.set in
    let full : length old.places ≡ s.packed.ways = sound.full c.args.set _ below in
    let way : ℕ = c.way_for-way.result in
    let fill : OneFill = record {
      number = c.args.number;
      store = c.args.store;
      way = way;
      set = c.args.set;
      old = old;
      new = record {
        places = set old.places way (Some (record { number = c.args.number; dirty = c.args.store }));
        state = c.fill-state.result;
      };
    } in
    let of = cache_fill g.P.Policy.takes g.P.Policy.rule g.P.Policy.stands_for cache s.packed.fresh s.last fill
    c.self.invariant (record {
      home = home;
      old = refl;
      fills = record {
        missing =
            subst (λ (v : Contents _). way_of c.args.number (kept_at v.table c.args.set).places ≡ None)
            (sym c.self.view_is) c.requires.missing;
        within = omega (arith, c.way_for-way.ensures.within, full);
        places = refl;
        chosen =
            subst
            (λ (n : ℕ). (list : List ℕ) → stands s.packed.ways n list
            → way ≡ unwrap_or (position is_none old.places) ((rule s.packed.ways).victim list))
            state c.way_for-way.ensures.value;
        filled =
            subst
            (λ (t : ℕ × ℕ). (list : List ℕ) → stands t.0 t.1 list
            → stands t.0 c.fill-state.result ((rule t.0).filled list way))
            (λ j. (ways j, state j)) c.fill-state.ensures.filled;
      };
      again =
          subst
          (λ (n : ℕ). (list : List ℕ) → stands n c.fill-state.result list
          → stands n c.fill-state.result ((rule n).touched list way))
          ways c.fill-state.ensures.again;
    }) in
    subst
    (λ (t : KeptSets × ℕ × ℕ).
    IsCache g.P.Policy.takes g.P.Policy.rule g.P.Policy.stands_for (fresh_cache s.policy t.0) t.0.fresh
    (record { number = t.2; place = c.args.set * t.1 + way }))
    (λ j. (sym c.write-old.ensures.written j, sym ways j, number j)) of.lawful

pub returns-clause-touch : goal.returns-clause-touch
returns-clause-touch g c =
    let s = c.self.inside in
    let cache : Contents _ =
    record { policy = s.policy; ways = s.packed.ways; epoch = s.packed.epoch; table = s.packed.table } in
    let home : c.args.set ≡ c.args.number % length s.packed.table =
    subst (λ (v : Contents _). c.args.set ≡ c.args.number % length v.table)
    (sym c.self.view_is) c.requires.home in
    let sound = c.self.invariant.sound in
    let rule = g.P.Policy.rule s.policy in
    let stands = g.P.Policy.stands_for s.policy in
    let ways : c.ways-ways.result ≡ s.packed.ways = c.ways-ways.ensures.value in
    let state = c.state-state.ensures.value in
    let below = set_below g.P.Policy.takes g.P.Policy.stands_for cache c.args.set c.args.number sound home in
    let old : KeptSet = kept_at s.packed.table c.args.set in
    let full : length old.places ≡ s.packed.ways = sound.full c.args.set _ below in
    let way : ℕ = c.way_for-way.result in
    let fill : OneFill = record {
      number = c.args.number;
      store = c.args.store;
      way = way;
      set = c.args.set;
      old = old;
      new = record {
        places = set old.places way (Some (record { number = c.args.number; dirty = c.args.store }));
        state = c.fill-state.result;
      };
    } in
    let of = cache_fill g.P.Policy.takes g.P.Policy.rule g.P.Policy.stands_for cache s.packed.fresh s.last fill
    c.self.invariant (record {
      home = home;
      old = refl;
      fills = record {
        missing =
            subst (λ (v : Contents _). way_of c.args.number (kept_at v.table c.args.set).places ≡ None)
            (sym c.self.view_is) c.requires.missing;
        within = omega (arith, c.way_for-way.ensures.within, full);
        places = refl;
        chosen =
            subst
            (λ (n : ℕ). (list : List ℕ) → stands s.packed.ways n list
            → way ≡ unwrap_or (position is_none old.places) ((rule s.packed.ways).victim list))
            state c.way_for-way.ensures.value;
        filled =
            subst
            (λ (t : ℕ × ℕ). (list : List ℕ) → stands t.0 t.1 list
            → stands t.0 c.fill-state.result ((rule t.0).filled list way))
            (λ j. (ways j, state j)) c.fill-state.ensures.filled;
      };
      again =
          subst
          (λ (n : ℕ). (list : List ℕ) → stands n c.fill-state.result list
          → stands n c.fill-state.result ((rule n).touched list way))
          ways c.fill-state.ensures.again;
    }) in
    let answer : fill_answer old.places way
    ≡ record { hit = false; victim = c.write-old.result.number; dirty_victim = c.write-old.result.dirty } =
    ap (λ (t : Option ℕ × Bool). record { hit = false; victim = t.0; dirty_victim = t.1 })
    (λ j. (sym c.write-old.ensures.number j, sym c.write-old.ensures.dirty j)) in
    subst
    (λ (t : Touch × Contents _ × KeptSets).
    IsTouch g.P.Policy.takes g.P.Policy.rule g.P.Policy.stands_for t.0 c.args.number c.args.store t.1
    (fresh_cache s.policy t.2))
    (λ j. (answer j, c.self.view_is j, sym c.write-old.ensures.written j)) of.touch

pub overflow_mul-self : goal.overflow_mul-self
overflow_mul-self g c =
    let s = c.self.inside in
    let cache : Contents _ =
    record { policy = s.policy; ways = s.packed.ways; epoch = s.packed.epoch; table = s.packed.table } in
    let home : c.args.set ≡ c.args.number % length s.packed.table =
    subst (λ (v : Contents _). c.args.set ≡ c.args.number % length v.table) (sym c.self.view_is) c.requires.home in
    let fits =
    place_fits g.P.Policy.takes g.P.Policy.stands_for cache c.args.set c.args.number c.ways-ways.result c.way_for-way.result
    c.self.invariant.sound home c.ways-ways.ensures.value c.way_for-way.ensures.within in
    omega (arith, fits)

pub overflow_add-self : goal.overflow_add-self
overflow_add-self g c =
    let s = c.self.inside in
    let cache : Contents _ =
    record { policy = s.policy; ways = s.packed.ways; epoch = s.packed.epoch; table = s.packed.table } in
    let home : c.args.set ≡ c.args.number % length s.packed.table =
    subst (λ (v : Contents _). c.args.set ≡ c.args.number % length v.table) (sym c.self.view_is) c.requires.home in
    let fits =
    place_fits g.P.Policy.takes g.P.Policy.stands_for cache c.args.set c.args.number c.ways-ways.result c.way_for-way.result
    c.self.invariant.sound home c.ways-ways.ensures.value c.way_for-way.ensures.within in
    omega (arith, fits)

pub overflow_cast-self-2 : goal.overflow_cast-self-2
overflow_cast-self-2 g c =
    let s = c.self.inside in
    let cache : Contents _ =
    record { policy = s.policy; ways = s.packed.ways; epoch = s.packed.epoch; table = s.packed.table } in
    let home : c.args.set ≡ c.args.number % length s.packed.table =
    subst (λ (v : Contents _). c.args.set ≡ c.args.number % length v.table) (sym c.self.view_is) c.requires.home in
    let fits =
    place_fits g.P.Policy.takes g.P.Policy.stands_for cache c.args.set c.args.number c.ways-ways.result c.way_for-way.result
    c.self.invariant.sound home c.ways-ways.ensures.value c.way_for-way.ensures.within in
    omega (arith, fits)

use Rattle.std.proofs.Common.{◌≡◌, ◌∙◌, Bool, List, Some, cond, option_map, ap, refl, arith, rules}
use Rattle.std.proofs.lemmas.Grind.{common_steps}
use Rattle.set_cache.specs.declared.KeptLine.{KeptLine}
use Rattle.set_cache.specs.Cache.{is_dirty}
use Rattle.set_cache.specs.Contents.{KeptSet}
use Rattle.set_cache.specs.Packed.{KeptSets}
use Rattle.set_cache.proofs.Vectors.{Vectors, NamesWay, OneEntry, line_read, mark_count, write_way, set_below, way_within, place_within, table-entry}
use Rattle.set_cache.proofs.packed.PackedSets.write.Goals as goal

pub overflow_sub-self : goal.overflow_sub-self
overflow_sub-self c =
    let s = c.self.inside in
    let v : Vectors = record {
      ways = s.ways;
      epoch = s.epoch;
      fresh = s.fresh;
      dirty = s.dirty;
      entries = s.entries.items;
      states = s.states.items;
    } in
    let names : NamesWay v c.args.self.now c.args.set c.args.way = record {
      packs = record { view = c.self.view_is; lawful = c.self.invariant };
      below = c.requires.below;
      within = c.requires.within;
    } in
    let line = line_read v c.args.self.now c.args.set c.args.way names c.index-was.result.now c.index-was.ensures in
    let gone : c.from.result ≡ cond c.is_dirty.result 1 0 = search (rules, common_steps) in
    let writes =
    write_way v c.args.self.now c.args.set c.args.way names c.args.line c.args.state c.from.result (mark_count (Some c.args.line))
    (gone ∙ ap (λ (b : Bool). cond b 1 0) (c.is_dirty.ensures.value ∙ ap is_dirty line)) refl in
    writes.goes

pub overflow_add-self : goal.overflow_add-self
overflow_add-self c =
    let s = c.self.inside in
    let v : Vectors = record {
      ways = s.ways;
      epoch = s.epoch;
      fresh = s.fresh;
      dirty = s.dirty;
      entries = s.entries.items;
      states = s.states.items;
    } in
    let names : NamesWay v c.args.self.now c.args.set c.args.way = record {
      packs = record { view = c.self.view_is; lawful = c.self.invariant };
      below = c.requires.below;
      within = c.requires.within;
    } in
    let line = line_read v c.args.self.now c.args.set c.args.way names c.index-was.result.now c.index-was.ensures in
    let gone : c.from.result ≡ cond c.is_dirty.result 1 0 = search (rules, common_steps) in
    let came : c.from-2.result ≡ mark_count (Some c.args.line) = search (rules, common_steps) in
    let writes =
    write_way v c.args.self.now c.args.set c.args.way names c.args.line c.args.state c.from.result c.from-2.result
    (gone ∙ ap (λ (b : Bool). cond b 1 0) (c.is_dirty.ensures.value ∙ ap is_dirty line)) came in
    omega (arith, writes.comes)

pub invariant_of-self : goal.invariant_of-self
invariant_of-self c =
    let s = c.self.inside in
    let v : Vectors = record {
      ways = s.ways;
      epoch = s.epoch;
      fresh = s.fresh;
      dirty = s.dirty;
      entries = s.entries.items;
      states = s.states.items;
    } in
    let names : NamesWay v c.args.self.now c.args.set c.args.way = record {
      packs = record { view = c.self.view_is; lawful = c.self.invariant };
      below = c.requires.below;
      within = c.requires.within;
    } in
    let line = line_read v c.args.self.now c.args.set c.args.way names c.index-was.result.now c.index-was.ensures in
    let gone : c.from.result ≡ cond c.is_dirty.result 1 0 = search (rules, common_steps) in
    let came : c.from-2.result ≡ mark_count (Some c.args.line) = search (rules, common_steps) in
    let writes =
    write_way v c.args.self.now c.args.set c.args.way names c.args.line c.args.state c.from.result c.from-2.result
    (gone ∙ ap (λ (b : Bool). cond b 1 0) (c.is_dirty.ensures.value ∙ ap is_dirty line)) came in
    writes.packed

pub returns-clause-number : goal.returns-clause-number
returns-clause-number c =
    let s = c.self.inside in
    let v : Vectors = record {
      ways = s.ways;
      epoch = s.epoch;
      fresh = s.fresh;
      dirty = s.dirty;
      entries = s.entries.items;
      states = s.states.items;
    } in
    let names : NamesWay v c.args.self.now c.args.set c.args.way = record {
      packs = record { view = c.self.view_is; lawful = c.self.invariant };
      below = c.requires.below;
      within = c.requires.within;
    } in
    let line = line_read v c.args.self.now c.args.set c.args.way names c.index-was.result.now c.index-was.ensures in
    rw (← c.self.view_is) (c.number.ensures.value ∙ ap (option_map (λ (kept : KeptLine). kept.number)) line)

pub returns-clause-dirty : goal.returns-clause-dirty
returns-clause-dirty c =
    let s = c.self.inside in
    let v : Vectors = record {
      ways = s.ways;
      epoch = s.epoch;
      fresh = s.fresh;
      dirty = s.dirty;
      entries = s.entries.items;
      states = s.states.items;
    } in
    let names : NamesWay v c.args.self.now c.args.set c.args.way = record {
      packs = record { view = c.self.view_is; lawful = c.self.invariant };
      below = c.requires.below;
      within = c.requires.within;
    } in
    let line = line_read v c.args.self.now c.args.set c.args.way names c.index-was.result.now c.index-was.ensures in
    rw (← c.self.view_is) (c.is_dirty.ensures.value ∙ ap is_dirty line)

pub returns-clause-written : goal.returns-clause-written
returns-clause-written c =
    let s = c.self.inside in
    let v : Vectors = record {
      ways = s.ways;
      epoch = s.epoch;
      fresh = s.fresh;
      dirty = s.dirty;
      entries = s.entries.items;
      states = s.states.items;
    } in
    let names : NamesWay v c.args.self.now c.args.set c.args.way = record {
      packs = record { view = c.self.view_is; lawful = c.self.invariant };
      below = c.requires.below;
      within = c.requires.within;
    } in
    let entry : OneEntry =
    record { set = c.args.set; way = c.args.way; line = c.args.line; state = c.args.state } in
    let is =
    table-entry s.ways s.epoch s.fresh s.entries.items s.states.items entry
    (set_below v c.args.self.now c.args.set c.args.way names)
    (way_within v c.args.self.now c.args.set c.args.way names) in
    let of : List KeptSet → KeptSets =
    λ sets. record { ways = s.ways; epoch = s.epoch; fresh = s.fresh; table = sets } in
    rw (← c.self.view_is) (ap of is)

pub overflow_mul-place : goal.overflow_mul-place
overflow_mul-place c =
    let s = c.self.inside in
    let v : Vectors = record {
      ways = s.ways;
      epoch = s.epoch;
      fresh = s.fresh;
      dirty = s.dirty;
      entries = s.entries.items;
      states = s.states.items;
    } in
    let names : NamesWay v c.args.self.now c.args.set c.args.way = record {
      packs = record { view = c.self.view_is; lawful = c.self.invariant };
      below = c.requires.below;
      within = c.requires.within;
    } in
    let at = place_within v c.args.self.now c.args.set c.args.way names in omega (arith, at, c.self.invariant.full, c.self.invariant.small)

pub overflow_add-place : goal.overflow_add-place
overflow_add-place c =
    let s = c.self.inside in
    let v : Vectors = record {
      ways = s.ways;
      epoch = s.epoch;
      fresh = s.fresh;
      dirty = s.dirty;
      entries = s.entries.items;
      states = s.states.items;
    } in
    let names : NamesWay v c.args.self.now c.args.set c.args.way = record {
      packs = record { view = c.self.view_is; lawful = c.self.invariant };
      below = c.requires.below;
      within = c.requires.within;
    } in
    let at = place_within v c.args.self.now c.args.set c.args.way names in omega (arith, at, c.self.invariant.full, c.self.invariant.small)

pub index-was-requires : goal.index-was-requires
index-was-requires c =
    let s = c.self.inside in
    let v : Vectors = record {
      ways = s.ways;
      epoch = s.epoch;
      fresh = s.fresh;
      dirty = s.dirty;
      entries = s.entries.items;
      states = s.states.items;
    } in
    let names : NamesWay v c.args.self.now c.args.set c.args.way = record {
      packs = record { view = c.self.view_is; lawful = c.self.invariant };
      below = c.requires.below;
      within = c.requires.within;
    } in
    let at = place_within v c.args.self.now c.args.set c.args.way names in omega (arith, at)

pub index_mut-entry-requires : goal.index_mut-entry-requires
index_mut-entry-requires c =
    let s = c.self.inside in
    let v : Vectors = record {
      ways = s.ways;
      epoch = s.epoch;
      fresh = s.fresh;
      dirty = s.dirty;
      entries = s.entries.items;
      states = s.states.items;
    } in
    let names : NamesWay v c.args.self.now c.args.set c.args.way = record {
      packs = record { view = c.self.view_is; lawful = c.self.invariant };
      below = c.requires.below;
      within = c.requires.within;
    } in
    let at = place_within v c.args.self.now c.args.set c.args.way names in omega (arith, at)

pub index_mut-written-requires : goal.index_mut-written-requires
index_mut-written-requires c =
    let s = c.self.inside in
    let v : Vectors = record {
      ways = s.ways;
      epoch = s.epoch;
      fresh = s.fresh;
      dirty = s.dirty;
      entries = s.entries.items;
      states = s.states.items;
    } in
    let names : NamesWay v c.args.self.now c.args.set c.args.way = record {
      packs = record { view = c.self.view_is; lawful = c.self.invariant };
      below = c.requires.below;
      within = c.requires.within;
    } in
    let at = set_below v c.args.self.now c.args.set c.args.way names in omega (arith, at)

use Rattle.std.proofs.Common.{◌≡◌, ◌∙◌, ◌*◌, ◌+◌, ℕ, None, get_or, ap, sym, subst}
use Rattle.set_cache.specs.Cache.{dirty_number}
use Rattle.set_cache.specs.Contents.{kept_at}
use Rattle.set_cache.specs.Packed.{KeptSets}
use Rattle.set_cache.proofs.Vectors.{Vectors, NamesWay, line_read}
use Rattle.set_cache.proofs.packed.PackedSets.dirty_at.Goals as goal

pub returns : goal.returns
returns c =
    let s = c.self.inside in
    let v : Vectors = record {
      ways = s.ways;
      epoch = s.epoch;
      fresh = s.fresh;
      dirty = s.dirty;
      entries = s.entries.items;
      states = s.states.items;
    } in
    record {
      value = λ set way below within at.
          let names : NamesWay v c.args.self.now set way = record {
            packs = record { view = c.self.view_is; lawful = c.self.invariant };
            below = below;
            within = within;
          } in
          let ways : c.args.self.now.ways ≡ s.ways = sym (ap (λ (k : KeptSets). k.ways) c.self.view_is) in
          let there : c.args.place ≡ set * s.ways + way = at ∙ ap (λ (n : ℕ). set * n + way) ways in
          let read : c.index.result.now ≡ get_or s.entries.items (set * s.ways + way) c.index.result.now =
          subst (λ (n : ℕ). c.index.result.now ≡ get_or s.entries.items n c.index.result.now) there c.index.ensures in
          let line = line_read v c.args.self.now set way names c.index.result.now read in
          subst (λ (sets : KeptSets). c.dirty_number.result ≡ dirty_number (get_or (kept_at sets.table set).places way None))
          c.self.view_is (c.dirty_number.ensures.value ∙ ap dirty_number line);
    }

use Rattle.std.proofs.Common.{◌≡◌, ◌∙◌, ◌<◌, ◌+◌, ◌-◌, ◌*◌, ℕ, List, map, length, take, drop, ap, sym, subst, arith}
use Rattle.std.specs.Prelude.{position}
use Rattle.set_cache.specs.declared.packed.Entry.{Entry}
use Rattle.set_cache.specs.Cache.{is_line}
use Rattle.set_cache.specs.Contents.{AreFirst, kept_at}
use Rattle.set_cache.specs.Packed.{KeptSets, line_in, table_in}
use Rattle.set_cache.proofs.Vectors.{length_table, found_in, kept_places}
use Rattle.set_cache.proofs.packed.PackedSets.find.Goals as goal

pub first_with-requires : goal.first_with-requires
first_with-requires c =
    let s = c.self.inside in
    let base : ℕ = c.args.set * s.ways in
    let count = ap (λ (sets : KeptSets). length sets.table) c.self.view_is in
    let table = length_table s.ways s.epoch s.fresh s.entries.items s.states.items in
    let below : c.args.set < length s.states.items = omega (arith, c.requires.below, count, table) in
    let one : base + s.ways - base ≡ s.ways = omega arith in
    let places =
    ap (λ (n : ℕ). map (line_in s.epoch) (take n (drop base s.entries.items))) one
    ∙ sym (kept_places s.ways s.epoch s.fresh s.entries.items s.states.items c.args.set below) in
    let first : AreFirst (kept_at (table_in s.ways s.epoch s.fresh s.entries.items s.states.items) c.args.set).places =
    subst (λ (sets : KeptSets). AreFirst (kept_at sets.table c.args.set).places) (sym c.self.view_is) c.requires.first in
    record { first = rw (c.deref.ensures.value) (subst AreFirst (sym places) first) }

pub returns-clause-value : goal.returns-clause-value
returns-clause-value c =
    let s = c.self.inside in
    let base : ℕ = c.args.set * s.ways in
    let count = ap (λ (sets : KeptSets). length sets.table) c.self.view_is in
    let table = length_table s.ways s.epoch s.fresh s.entries.items s.states.items in
    let below : c.args.set < length s.states.items = omega (arith, c.requires.below, count, table) in
    let found = found_in
    (is_line c.args.number) s.ways s.epoch s.fresh s.entries.items s.states.items c.args.set
    (base + s.ways - base) below (omega arith) in
    let entries = c.deref.ensures.value in
    rw (← c.self.view_is)
    (c.first_with.ensures.value
    ∙ ap (λ (es : List Entry). position (λ e. is_line c.args.number (line_in s.epoch e))
    (take (base + s.ways - base) (drop base es))) entries
    ∙ found)

use Rattle.std.proofs.Common.{◌≡◌, ◌∙◌, ◌<◌, ◌+◌, ◌*◌, ◌^◌, ℕ, true, false, eqb, List, length, ap, sym, subst, arith}
use Rattle.std.specs.Vec.{with_items}
use Rattle.std.proofs.lemmas.List.{with_items_is}
use Rattle.std.proofs.lemmas.Bool.Decides.{nat_tests}
use Rattle.set_cache.specs.declared.packed.Entry.{Entry}
use Rattle.set_cache.specs.declared.packed.WrittenState.{WrittenState}
use Rattle.set_cache.specs.Contents.{KeptSet}
use Rattle.set_cache.specs.Packed.{KeptSets, fresh_sets, table_in}
use Rattle.set_cache.proofs.Vectors.{length_table, stale-next, stale-unwritten, packed-stale, table-stale}
use Rattle.set_cache.proofs.packed.PackedSets.empty.Goals as goal

pub invariant_of-self : goal.invariant_of-self
invariant_of-self c =
    let s = c.self.inside in
    packed-stale s.ways (s.epoch + 1) s.fresh s.entries.items s.states.items
    (stale-next s.ways s.epoch s.fresh s.dirty s.entries.items s.states.items c.self.invariant)
    c.self.invariant.small (omega arith)

pub returns-then-self-clause-emptied : goal.returns-then-self-clause-emptied
returns-then-self-clause-emptied c =
    let s = c.self.inside in
    let stale = stale-next s.ways s.epoch s.fresh s.dirty s.entries.items s.states.items c.self.invariant in
    let is = table-stale s.ways (s.epoch + 1) s.fresh s.entries.items s.states.items stale in
    let table = length_table s.ways s.epoch s.fresh s.entries.items s.states.items in
    let off : eqb s.epoch 4294967295 ≡ false = grind (arith, nat_tests) in
    let of : List KeptSet → KeptSets =
    λ sets. record { ways = s.ways; epoch = s.epoch + 1; fresh = s.fresh; table = sets } in
    rw (← c.self.view_is, table, off) (ap of is)

pub unwrite_entries-requires : goal.unwrite_entries-requires
unwrite_entries-requires c =
    let s = c.self.inside in
    let table = length_table s.ways s.epoch s.fresh s.entries.items s.states.items in
    let now : c.args.steps.now +
    (1 + length (table_in s.ways s.epoch s.fresh s.entries.items s.states.items) * (s.ways + 1)) < 2 ^ 64 =
    subst (λ (v : KeptSets). c.args.steps.now + (1 + length v.table * (v.ways + 1)) < 2 ^ 64)
    (sym c.self.view_is) c.requires.room in
    let room : c.args.steps.now + (1 + length s.states.items * (s.ways + 1)) < 2 ^ 64 =
    subst (λ (n : ℕ). c.args.steps.now + (1 + n * (s.ways + 1)) < 2 ^ 64) table now in
    record { room = omega (arith, room, c.self.invariant.full, ap length c.deref_mut.ensures.value) }

pub unwrite_states-requires : goal.unwrite_states-requires
unwrite_states-requires c =
    let s = c.self.inside in
    let table = length_table s.ways s.epoch s.fresh s.entries.items s.states.items in
    let now : c.args.steps.now +
    (1 + length (table_in s.ways s.epoch s.fresh s.entries.items s.states.items) * (s.ways + 1)) < 2 ^ 64 =
    subst (λ (v : KeptSets). c.args.steps.now + (1 + length v.table * (v.ways + 1)) < 2 ^ 64)
    (sym c.self.view_is) c.requires.room in
    let room : c.args.steps.now + (1 + length s.states.items * (s.ways + 1)) < 2 ^ 64 =
    subst (λ (n : ℕ). c.args.steps.now + (1 + n * (s.ways + 1)) < 2 ^ 64) table now in
    record {
      room = omega (
        arith,
        room,
        c.self.invariant.full,
        ap length c.deref_mut.ensures.value,
        ap length c.deref_mut-2.ensures.value,
        c.unwrite_entries.ensures.steps,
      );
    }

pub invariant_of-self-2 : goal.invariant_of-self-2
invariant_of-self-2 c =
    let s = c.self.inside in
    let es : List Entry = c.unwrite_entries.new.entries in
    let ss : List WrittenState = c.unwrite_states.new.states in
    let entries : (with_items s.entries es).items ≡ es =
    with_items_is s.entries es
    (omega (arith, c.unwrite_entries.ensures.same, ap length c.deref_mut.ensures.value)) in
    let states : (with_items s.states ss).items ≡ ss =
    with_items_is s.states ss
    (omega (arith, c.unwrite_states.ensures.same, ap length c.deref_mut-2.ensures.value)) in
    let count : length ss ≡ length s.states.items =
    omega (arith, c.unwrite_states.ensures.same, ap length c.deref_mut-2.ensures.value) in
    let long : length es ≡ length s.entries.items =
    omega (arith, c.unwrite_entries.ensures.same, ap length c.deref_mut.ensures.value) in
    let full : length es ≡ length ss * s.ways = rw (long, count) c.self.invariant.full in
    let small : length ss * s.ways < 2 ^ 32 = rw count c.self.invariant.small in
    let stale = stale-unwritten s.ways 1 es ss full
    (omega arith) c.unwrite_entries.ensures.unwritten c.unwrite_states.ensures.unwritten in
    rw (entries, states) (packed-stale s.ways 1 s.fresh es ss stale small (omega arith))

pub returns-clause-emptied : goal.returns-clause-emptied
returns-clause-emptied c =
    let s = c.self.inside in
    let es : List Entry = c.unwrite_entries.new.entries in
    let ss : List WrittenState = c.unwrite_states.new.states in
    let entries : (with_items s.entries es).items ≡ es =
    with_items_is s.entries es
    (omega (arith, c.unwrite_entries.ensures.same, ap length c.deref_mut.ensures.value)) in
    let states : (with_items s.states ss).items ≡ ss =
    with_items_is s.states ss
    (omega (arith, c.unwrite_states.ensures.same, ap length c.deref_mut-2.ensures.value)) in
    let count : length ss ≡ length s.states.items =
    omega (arith, c.unwrite_states.ensures.same, ap length c.deref_mut-2.ensures.value) in
    let long : length es ≡ length s.entries.items =
    omega (arith, c.unwrite_entries.ensures.same, ap length c.deref_mut.ensures.value) in
    let full : length es ≡ length ss * s.ways = rw (long, count) c.self.invariant.full in
    let stale = stale-unwritten s.ways 1 es ss full
    (omega arith) c.unwrite_entries.ensures.unwritten c.unwrite_states.ensures.unwritten in
    let table = length_table s.ways s.epoch s.fresh s.entries.items s.states.items in
    let is : table_in s.ways 1 s.fresh es ss ≡ (fresh_sets (length s.states.items) s.ways 1 s.fresh).table =
    table-stale s.ways 1 s.fresh es ss stale
    ∙ ap (λ (n : ℕ). (fresh_sets n s.ways 1 s.fresh).table) count in
    let on : eqb s.epoch 4294967295 ≡ true = grind (arith, nat_tests) in
    let of : List KeptSet → KeptSets =
    λ sets. record { ways = s.ways; epoch = 1; fresh = s.fresh; table = sets } in
    rw (← c.self.view_is, table, on, entries, states) (ap of is)

pub returns-clause-steps : goal.returns-clause-steps
returns-clause-steps c =
    let s = c.self.inside in
    let table = length_table s.ways s.epoch s.fresh s.entries.items s.states.items in
    let on : eqb s.epoch 4294967295 ≡ true = grind (arith, nat_tests) in
    let sum : c.unwrite_states.new.steps ≡ c.args.steps.now + (1 + length s.states.items * (s.ways + 1)) =
    omega (
      arith,
      c.unwrite_states.ensures.steps,
      c.unwrite_entries.ensures.steps,
      c.self.invariant.full,
      ap length c.deref_mut.ensures.value,
      ap length c.deref_mut-2.ensures.value,
    ) in
    rw (← c.self.view_is, table, on) sum

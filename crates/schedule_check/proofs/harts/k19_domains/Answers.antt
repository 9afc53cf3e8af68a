use Rattle.std.proofs.Common.{◌≡◌, ◌<◌, ◌^◌, rules, arith, pos, to_z, of_z, w64, length, length-take, take, get_or, refl, sym, ◌∙◌}
use Rattle.image_record.proofs.Loops.{passed, found, ended}
use Rattle.sched_table.specs.declared.schedule.Entry.{Entry}
use Rattle.schedule_check.specs.Harts.{k19_domain}
use Rattle.schedule_check.proofs.EntryCases.{alone, elsewhere}
use Rattle.schedule_check.proofs.harts.k19_domains.Goals as goal

pub loop-place-preserved : goal.loop-place-preserved
loop-place-preserved c =
    let entries = c.args.entries.now in
    let k = c.loop-place.place in
    let x : Entry = get_or entries k (record { domain = 0; length = 0; pad = 0; hart = 0 }) in
    passed k19_domain entries k x _ c.loop-place-test.true refl
    (alone (take k entries) x c.if-is_elsewhere.ensures.value) ∙ c.loop-place.invariant

pub returns : goal.returns
returns c = record {
  verdict =
      sym c.loop-place.invariant
      ∙ ended k19_domain _ c.args.entries.now c.loop-place.place c.loop-place-test.false;
}

pub returns-then-is_elsewhere : goal.returns-then-is_elsewhere
returns-then-is_elsewhere c =
    let entries = c.args.entries.now in
    let k = c.loop-place.place in
    let x : Entry = get_or entries k (record { domain = 0; length = 0; pad = 0; hart = 0 }) in
    let small : k < 2 ^ 63 = search rules in
    let same : to_z w64 (of_z w64 c.from.result) ≡ pos x.domain = search rules in
    let count : length (take k entries) ≡ k = omega (arith, length-take k entries, c.loop-place-test.true) in
    let here = elsewhere (take k entries) k x _ c.refusal.result count c.if-is_elsewhere.ensures.value small same c.refusal.ensures.value in
    record { verdict = sym c.loop-place.invariant ∙ found k19_domain entries k x _ c.refusal.result c.loop-place-test.true refl here }

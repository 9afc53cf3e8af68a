use Rattle.std.proofs.Common.{◌≡◌, ◌∙◌, ◌%◌, ℕ, length, Some, refl, ap, sym, subst, rules}
use Rattle.set_cache.specs.Cache.{way_of}
use Rattle.set_cache.specs.Contents.{KeptSet, Contents, kept_at}
use Rattle.set_cache.specs.Packed.{KeptSets, with_kept}
use Rattle.set_cache.specs.Last.{IsCache}
use Rattle.set_cache.specs.Calls.{IsMark}
use Rattle.set_cache.proofs.Sets.{fresh_cache}
use Rattle.set_cache.proofs.Marks.{OneMark, marked_set, cache_mark}
use Rattle.set_cache.proofs.cache.SetCache.mark.Goals as goal

pub invariant_of-self : goal.invariant_of-self
invariant_of-self g c =
    let s = c.self.inside in
    let cache : Contents _ =
    record { policy = s.policy; ways = s.packed.ways; epoch = s.packed.epoch; table = s.packed.table } in
    let set : ℕ = c.set_of-set.result in
    let old : KeptSet = kept_at s.packed.table set in
    let mark : OneMark = record { number = c.args.number; way = c.in-Some.way; set = set; old = old } in
    let home : set ≡ c.args.number % length s.packed.table = search rules in
    let found : way_of c.args.number old.places ≡ Some c.in-Some.way = sym c.find.ensures.value ∙ c.in-Some.is in
    let of =
    cache_mark g.P.Policy.takes g.P.Policy.rule g.P.Policy.stands_for cache s.packed.fresh s.last mark
    c.self.invariant (record { home = home; old = refl; found = found }) in
    let written : c.write_hit.new.self ≡ with_kept s.packed set (marked_set mark) =
    c.write_hit.ensures.written
    ∙ ap (λ (n : ℕ). with_kept s.packed set (record { places = (marked_set mark).places; state = n }))
    c.state.ensures.value in
    subst
    (λ (sets : KeptSets).
    IsCache g.P.Policy.takes g.P.Policy.rule g.P.Policy.stands_for (fresh_cache s.policy sets) sets.fresh s.last)
    (sym written) of.lawful

pub returns-in-Some-clause-marks : goal.returns-in-Some-clause-marks
returns-in-Some-clause-marks g c =
    let s = c.self.inside in
    let cache : Contents _ =
    record { policy = s.policy; ways = s.packed.ways; epoch = s.packed.epoch; table = s.packed.table } in
    let set : ℕ = c.set_of-set.result in
    let old : KeptSet = kept_at s.packed.table set in
    let mark : OneMark = record { number = c.args.number; way = c.in-Some.way; set = set; old = old } in
    let home : set ≡ c.args.number % length s.packed.table = search rules in
    let found : way_of c.args.number old.places ≡ Some c.in-Some.way = sym c.find.ensures.value ∙ c.in-Some.is in
    let of =
    cache_mark g.P.Policy.takes g.P.Policy.rule g.P.Policy.stands_for cache s.packed.fresh s.last mark
    c.self.invariant (record { home = home; old = refl; found = found }) in
    let written : c.write_hit.new.self ≡ with_kept s.packed set (marked_set mark) =
    c.write_hit.ensures.written
    ∙ ap (λ (n : ℕ). with_kept s.packed set (record { places = (marked_set mark).places; state = n }))
    c.state.ensures.value in
    subst
    (λ (t : Contents _ × KeptSets).
    IsMark g.P.Policy.takes g.P.Policy.rule g.P.Policy.stands_for c.args.number t.0 (fresh_cache s.policy t.1))
    (λ j. (c.self.view_is j, sym written j)) of.mark

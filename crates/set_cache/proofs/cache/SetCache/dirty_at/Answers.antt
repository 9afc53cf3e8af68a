use Rattle.std.proofs.Common.{◌≡◌, ◌∙◌, ◌*◌, ◌<◌, ◌/◌, ◌%◌, ℕ, length, get_or, true, IfSome, is_some, None, ap, sym, subst}
use Rattle.set_cache.specs.Cache.{dirty_number}
use Rattle.set_cache.specs.Contents.{Contents}
use Rattle.set_cache.specs.Lines.{place_in, places_kept}
use Rattle.set_cache.proofs.Marks.{is_place, dirty_is_kept}
use Rattle.set_cache.proofs.cache.SetCache.dirty_at.Goals as goal

pub returns-clause-listed : goal.returns-clause-listed
returns-clause-listed g c =
    let s = c.self.inside in
    let place : ℕ = c.args.place in
    let below : place < length s.packed.table * s.packed.ways =
    subst (λ (v : Contents _). place < length v.table * v.ways) (sym c.self.view_is) c.requires.below in
    let at = is_place s.packed.ways s.packed.table place c.self.invariant.sound.full below in
    let here = c.dirty_at.ensures.value (place / s.packed.ways) (place % s.packed.ways) at.below at.within at.is in
    subst (λ (v : Contents _). c.dirty_at.result ≡ dirty_number (get_or (places_kept v.table) place None))
    c.self.view_is (here ∙ ap dirty_number (sym at.listed))

pub returns-clause-kept : goal.returns-clause-kept
returns-clause-kept g c =
    let s = c.self.inside in
    let cache : Contents _ =
    record { policy = s.policy; ways = s.packed.ways; epoch = s.packed.epoch; table = s.packed.table } in
    let place : ℕ = c.args.place in
    let below : place < length s.packed.table * s.packed.ways =
    subst (λ (v : Contents _). place < length v.table * v.ways) (sym c.self.view_is) c.requires.below in
    let at = is_place s.packed.ways s.packed.table place c.self.invariant.sound.full below in
    let here = c.dirty_at.ensures.value (place / s.packed.ways) (place % s.packed.ways) at.below at.within at.is in
    subst (λ (v : Contents _). IfSome c.dirty_at.result (λ number. is_some (place_in v number) ≡ true)) c.self.view_is
    (dirty_is_kept g.P.Policy.takes g.P.Policy.stands_for cache (place / s.packed.ways) (place % s.packed.ways)
    c.dirty_at.result c.self.invariant.sound here)

use Rattle.std.proofs.Common.{◌≡◌, ℕ, Some, true, option_map, is_some, ap, sym}
use Rattle.std.specs.Prelude.{slice_index}
use Rattle.set_cache.specs.Lines.{place_in}
use Rattle.set_cache.proofs.Ways.{places_stay}
use Rattle.tlb_model.proofs.Tlb.find.Goals as goal

pub returns-clause-kept : goal.returns-clause-kept
returns-clause-kept g c =
    let s = c.self.inside in
    let hit = c.in_ok-place.ensures.touch in
    let here : is_some (place_in s.pages c.args.page) ≡ true = sym (ap is_some c.in_ok-place.ensures.here) in
    rw (← c.self.view_is) (λ other. ap (option_map (λ (place : ℕ). slice_index s.leaves.items place))
    (places_stay hit.answer c.args.page (place_in s.pages) (place_in c.find.new.self) hit.touch.moves here other))

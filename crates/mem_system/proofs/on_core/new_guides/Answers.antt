use Rattle.std.proofs.Common.{◌≡◌, ℕ, None}
use Rattle.set_cache.specs.Calls.{IsNew}
use Rattle.branch_pred.specs.Guesses.{fresh_guesses}
use Rattle.tlb_model.specs.Buffer.{leaf_of}
use Rattle.mem_system.proofs.Made.{of_first, of_second}
use Rattle.mem_system.proofs.on_core.new_guides.Goals as goal

pub returns : goal.returns
returns g c =
    let tlb = c.args.tlb in
    let both = c.both in
    record {
      predictor = of_first (λ guesses. guesses ≡ fresh_guesses c.args.predictor) c.new.result both.result both.ensures.first
          c.new.ensures.fresh;
      tlb = of_second (λ made. IsNew g.P.Policy.takes g.P.Policy.stands_for tlb.policy tlb.sets tlb.ways made.pages) c.new-2.result
          both.result both.ensures.second c.new-2.ensures.made;
      none = of_second (λ made. (page : ℕ) → leaf_of made page ≡ None) c.new-2.result both.result both.ensures.second
          c.new-2.ensures.none;
    }

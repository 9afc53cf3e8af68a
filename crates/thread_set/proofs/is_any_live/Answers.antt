use Rattle.std.proofs.Common.{rules, tests, [], ◌∷◌}
use Rattle.std.proofs.lemmas.Iterator.{YieldsList-from_slice}
use Rattle.std.proofs.lemmas.Iterator.Consumers.{YieldsList-from_chain}
use Rattle.std.proofs.lemmas.Iterator.Search.{any_from_yields_List}
use Rattle.thread_set.specs.Threads.{is_live}
use Rattle.thread_set.proofs.is_any_live.Goals as goal

pub returns : goal.returns
returns c = record {
  live = any_from_yields_List (λ x. is_live x.state) _ _ _ c.any.ensures.ran
      (YieldsList-from_chain (YieldsList-from_slice c.args.before.now (cc))
      (YieldsList-from_chain (YieldsList-from_slice (c.args.current.now ∷ []) (cc))
      (YieldsList-from_slice c.args.after.now (cc)) (cc) (cc)) (cc) (cc))
      (λ x b q k. search (rules, tests));
}

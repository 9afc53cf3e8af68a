use Rattle.std.proofs.Common.{rules, tests, [], ◌∷◌}
use Rattle.std.specs.Prelude.{not}
use Rattle.std.proofs.lemmas.Iterator.{YieldsList-from_slice}
use Rattle.std.proofs.lemmas.Iterator.Consumers.{YieldsList-from_chain}
use Rattle.std.proofs.lemmas.Iterator.Search.{position_from_yields_List}
use Rattle.thread_set.specs.Threads.{is_live}
use Rattle.thread_set.proofs.place_of_vacant.Goals as goal

pub returns : goal.returns
returns c = record {
  place = position_from_yields_List (λ x. not (is_live x.state)) _ _ _ c.position.ensures.ran
      (YieldsList-from_chain (YieldsList-from_slice c.args.before.now (cc))
      (YieldsList-from_chain (YieldsList-from_slice (c.args.current.now ∷ []) (cc))
      (YieldsList-from_slice c.args.after.now (cc)) (cc) (cc)) (cc) (cc))
      (λ x b q k. search (rules, tests));
}

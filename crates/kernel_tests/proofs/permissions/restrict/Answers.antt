use Rattle.call_table.specs.Claims as claims
use Rattle.kernel_tests.proofs.permissions.restrict.Goals as goal

-- the facts don't speak of calls
pub returns : goal.returns
unfolding claims.free_frames claims.is_named claims.all_claims claims.claims
returns c =
    let v = c.requires.valid in
    record {
      valid = record {
        estate = record v.estate { calls = c.args.calls };
        mem = v.mem;
        facts = record {
          estate = record { alone = v.facts.estate.alone; stays = v.facts.estate.stays };
          frames = v.facts.frames;
          has = record { root = v.facts.has.root; pool = v.facts.has.pool; slots = v.facts.has.slots; calls = λ i. c.args.calls; number = v.facts.has.number };
          holds = v.facts.holds;
          facts = v.facts.facts;
        };
      };
    }

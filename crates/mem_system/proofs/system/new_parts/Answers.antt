-- What is made is the hierarchy of the geometry, and stands for the cold caches.
use Rattle.std.proofs.Common.{◌≡◌, ℕ}
use Rattle.std.specs.Prelude.{option_map}
use Rattle.tp_base.specs.Table.{empty}
use Rattle.phys_mem.specs.Mem.{Mem}
use Rattle.branch_pred.specs.Guesses.{fresh_guesses}
use Rattle.set_cache.specs.Calls.{IsNew}
use Rattle.set_cache.specs.Contents.{shape_of}
use Rattle.mem_system.specs.Contents.{CoreStands}
use Rattle.mem_system.specs.Geometry.{shape_by, costs_of, product_costs_of}
use Rattle.mem_system.specs.Translation.{KeepsLeaves}
use Rattle.mem_system.proofs.Made.{of_first, of_second, both_cold, both_hierarchy}
use Rattle.mem_system.proofs.system.new_parts.Goals as goal

pub returns : goal.returns
returns g c =
    let core = c.new-core.ensures in
    let l2 = c.new-l2.ensures in
    let first = c.both.ensures.first in
    let second = c.both.ensures.second in
    let made = c.both.result in
    let x = c.args.geometry in
    let fresh =
    of_first (λ m. CoreStands g.P.Policy.stands_for m
    (record { l1i = empty; l1d = empty; tlb = empty; guesses = fresh_guesses x.predictor }))
    c.new-core.result made first core.fresh in
    let new =
    of_second (λ m.
    IsNew g.P.Policy.takes g.P.Policy.stands_for x.l2.policy x.l2.sets x.l2.ways m.cache)
    c.new-l2.result made second l2.made in
    record {
      hierarchy = both_hierarchy g.P.Policy.takes g.P.Policy.rule g.P.Policy.stands_for x c.args.costs c.args.products made fresh new
          (of_first (λ m. m.costs ≡ costs_of c.args.costs) c.new-core.result made first core.costs)
          (of_first (λ m. m.products ≡ option_map product_costs_of c.args.products) c.new-core.result made first core.products)
          (of_first (λ m. shape_of g.P.Policy.rule m.l1i ≡ shape_by g.P.Policy.rule x.l1i) c.new-core.result made first core.l1i)
          (of_first (λ m. shape_of g.P.Policy.rule m.l1d ≡ shape_by g.P.Policy.rule x.l1d) c.new-core.result made first core.l1d)
          (of_first (λ m. shape_of g.P.Policy.rule m.tlb.pages ≡ shape_by g.P.Policy.rule x.tlb) c.new-core.result made first core.tlb)
          (of_second (λ m. m.line_size ≡ x.line_size) c.new-l2.result made second l2.line_size)
          (of_second (λ m. m.back ≡ x.back) c.new-l2.result made second l2.back);
      pinned = of_first (λ m. m.pinned ≡ c.args.pinned) c.new-core.result made first core.pinned;
      cold = both_cold g.P.Policy.takes g.P.Policy.rule g.P.Policy.stands_for x c.args.costs c.args.products made fresh new;
      kept = of_first (λ m. (mem : Mem) (frames root : ℕ) → KeepsLeaves mem frames root m.tlb) c.new-core.result made first core.kept;
    }

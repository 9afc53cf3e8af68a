-- For the tests: calls can be made of the domain that they begin with.
use Rattle.std.proofs.Common.{rules, ℕ, ◌≡◌, ◌∙◌, ap, sym, [], ◌∷◌, Some}
use Rattle.std.specs.Prelude.{slice_get}
use Rattle.std.proofs.lemmas.Option.{same_Some}
use Rattle.frame_colours.specs.Colours.{whole_of, share_of}
use Rattle.frame_colours.specs.FreeList.{FreeList, all_free, without_least}
use Rattle.phys_mem.specs.Contents.{zeroed}
use Rattle.kernel_clone.specs.Permissions.{every_call, calls_below}
use Rattle.kernel_tests.proofs.Opening.{slots_of, first_of, second_of, is_valid}
use Rattle.kernel_tests.proofs.calls.opened_in.Goals as goal

-- the bits of all calls
every : {calls : ℕ} → calls ≡ 1605631 → calls ≡ every_call
unfolding calls_below
every is = is

pub returns : goal.returns
returns c =
    let pool_is : c.in_ok-pool.pool ≡ all_free (share_of (whole_of 64 4) (1 ∷ [])) = search rules in
    let root_is : c.take.result ≡ Some c.in_ok-ok_or.field-0 = search rules in
    let table_is : c.take-2.result ≡ Some c.in_ok-ok_or-2.field-0 = search rules in
    let left_is : c.take.new.self ≡ without_least c.in_ok-pool.pool = search rules in
    let one : c.in_ok-ok_or.field-0 ≡ 1 =
    same_Some c.in_ok-ok_or.field-0 1 (sym root_is ∙ (c.take.ensures.value ∙ first_of c.in_ok-pool.pool pool_is)) in
    let five : c.in_ok-ok_or-2.field-0 ≡ 5 =
    same_Some c.in_ok-ok_or-2.field-0 5 (sym table_is ∙ (c.take-2.ensures.value
    ∙ (ap (λ (l : FreeList). slice_get l.free 0) left_is ∙ second_of c.in_ok-pool.pool pool_is))) in
    let then : c.table-root.new.memory ≡ zeroed c.args.memory.now c.in_ok-ok_or.field-0 = search rules in
    let after : c.table-table.new.memory ≡ zeroed c.table-root.new.memory c.in_ok-ok_or-2.field-0 = search rules in
    let at : c.in_ok-domain.domain.map ≡ c.in_ok-ok_or.field-0 = search rules in
    let free : c.in_ok-domain.domain.pool ≡ without_least (without_least c.in_ok-pool.pool) = search rules in
    let caps : c.in_ok-domain.domain.caps ≡ slots_of c.in_ok-ok_or-2.field-0 = search rules in
    let calls : c.in_ok-domain.domain.calls ≡ every_call = every (search rules) in
    let number : c.in_ok-domain.domain.number ≡ 0 = search rules in
    record {
      valid =
          is_valid c.args.memory.now c.table-root.new.memory c.table-table.new.memory c.in_ok-ok_or.field-0 c.in_ok-ok_or-2.field-0
          c.in_ok-domain.domain c.requires.size c.requires.zero one five then after at
          (free ∙ ap (λ (l : FreeList). without_least (without_least l)) pool_is) caps calls number;
    }

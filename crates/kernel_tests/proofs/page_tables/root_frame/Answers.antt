-- For the tests: the frame of the root.
use Rattle.std.proofs.Common.{rules, ◌≡◌, ◌∙◌, refl, sym, subst, ℕ, [], ◌∷◌}
use Rattle.std.specs.Prelude.{Option}
use Rattle.std.specs.Option.{IsSome}
use Rattle.std.proofs.lemmas.Option.{same_Some}
use Rattle.frame_colours.specs.Colours.{whole_of, share_of}
use Rattle.frame_colours.specs.FreeList.{all_free}
use Rattle.kernel_tests.proofs.TableLemmas.{least_of}
use Rattle.kernel_tests.proofs.page_tables.root_frame.Goals as goal

pub unwrap-requires : goal.unwrap-requires
unwrap-requires c =
    let pool_is : c.in-Ok.pool ≡ all_free (share_of (whole_of 64 4) (2 ∷ [])) = search rules in
    subst (λ (frame : Option ℕ). IsSome frame) (sym (c.take.ensures.value ∙ least_of c.in-Ok.pool pool_is)) refl

pub returns-in-Ok-clause-number : goal.returns-in-Ok-clause-number
returns-in-Ok-clause-number c =
    let pool_is : c.in-Ok.pool ≡ all_free (share_of (whole_of 64 4) (2 ∷ [])) = search rules in
    c.table.ensures.frame ∙ same_Some c.unwrap.result 2 (sym c.unwrap.ensures ∙ (c.take.ensures.value ∙ least_of c.in-Ok.pool pool_is))

use Rattle.std.proofs.Common.{◌≡◌, ◌∙◌, ℕ, Some, None, sym, ap, refl}
use Rattle.image_check.specs.Models.{own_model}
use Rattle.sv32_walk.specs.PageTableEntry.{leaf_word}
use Rattle.world_view.specs.Opening.{rights_in, leaf_with, leaf_entry}
use Rattle.world_view.proofs.opening.Counts.{pages_low, rights_there, rights_are_good}
use Rattle.domain_open.proofs.placement.Placement.leaf_entry.Goals as goal

pub returns-in_default : goal.returns-in_default
unfolding leaf_with leaf_entry
returns-in_default c =
    let none : rights_in (own_model c.args.self.now.own.now).segments c.args.page ≡ None =
    sym (rw c.as_slice.ensures.value at c.in_default.ensures.value) in
    record { value = rw none refl }

pub page_frame-requires : goal.page_frame-requires
page_frame-requires c =
    let ss = (own_model c.args.self.now.own.now).segments in
    let some : rights_in ss c.args.page ≡ Some c.in-Some.rights = sym (rw c.as_slice.ensures.value at c.in-Some.ensures.value) in
    record { there = pages_low ss c.args.page (rights_there ss c.args.page c.in-Some.rights some) }

pub leaf_word-requires : goal.leaf_word-requires
leaf_word-requires c =
    let o = own_model c.args.self.now.own.now in
    let some : rights_in o.segments c.args.page ≡ Some c.in-Some.rights = sym (rw c.as_slice.ensures.value at c.in-Some.ensures.value) in
    record { good = rights_are_good o c.args.page c.in-Some.rights c.args.self.now.has_pool.sound some }

pub returns : goal.returns
unfolding leaf_with leaf_entry
returns c =
    let some : rights_in (own_model c.args.self.now.own.now).segments c.args.page ≡ Some c.in-Some.rights =
    sym (rw c.as_slice.ensures.value at c.in-Some.ensures.value) in
    record { value = rw some (c.leaf_word.ensures.value ∙ ap (λ (f : ℕ). leaf_word f c.in-Some.rights) c.page_frame.ensures.value) }

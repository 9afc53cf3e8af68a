use Rattle.std.proofs.Common.{◌≡◌, ℕ, ◌<◌, ◌++◌, ◌∷◌, [], List, Some, None, length, get_or, ap, sym, subst, ◌∙◌, arith}
use Rattle.std.proofs.Math.ListN.{set}
use Rattle.std.proofs.lemmas.List.{append-nil}
use Rattle.cap_table.specs.Slots.{Slots}
use Rattle.cap_table.specs.Owning.{IsUnnamed}
use Rattle.image_check.specs.Models.{own_model}
use Rattle.image_check.specs.Pages.{pages_in}
use Rattle.domain_open.specs.Giving.{page_cap, slots_after, unnamed}
use Rattle.domain_open.proofs.SlotLaws.{after_long, named_small, slot_empty, slot_given, slots_same, frame_new, frame_named, frame_unnamed, not_kept, is_kept}
use Rattle.domain_open.proofs.giving.place_page.Goals as goal

pub give_page-requires-clause-places : goal.give_page-requires-clause-places
give_page-requires-clause-places c =
    let g = c.requires.giving in
    ap (λ (s : Slots). length s) g.1.given ∙ after_long (own_model c.args.own.now) g.0 c.args.place

pub give_page-requires-clause-page : goal.give_page-requires-clause-page
give_page-requires-clause-page c =
    named_small (own_model c.args.own.now) c.args.place c.in-Some.at.slot c.in-Some.at.page c.requires.sound
    c.in-Some.ensures.page

pub give_page-requires-clause-empty : goal.give_page-requires-clause-empty
give_page-requires-clause-empty c =
    let g = c.requires.giving in
    let at = c.in-Some.at in
    ap (λ (s : Slots). get_or s at.slot None) g.1.given
    ∙ slot_empty (own_model c.args.own.now) g.0 c.args.place at.slot at.page c.in-Some.ensures.slot
    c.in-Some.ensures.page

pub give_page-requires-clause-new : goal.give_page-requires-clause-new
give_page-requires-clause-new c =
    let g = c.requires.giving in
    let enough = g.1.enough in
    let within : c.args.place < length g.0 = omega (arith, enough, c.requires.there) in
    subst (λ (s : Slots). IsUnnamed s c.args.frame) (sym g.1.given)
    (frame_new (own_model c.args.own.now) g.0 g.1.ascend c.args.place c.args.frame within g.1.at)

pub returns-in-Some-clause-caps : goal.returns-in-Some-clause-caps
returns-in-Some-clause-caps c frames g =
    let o = own_model c.args.own.now in
    let at = c.in-Some.at in
    let f = c.args.frame in
    c.give_page.ensures.becomes ∙ ap (λ (s : Slots). set s at.slot (Some (page_cap o f at.page))) g.given
    ∙ slot_given o frames c.args.place at.slot at.page c.in-Some.ensures.slot c.in-Some.ensures.page c.requires.sound f g.at

pub returns-in-Some-clause-kept : goal.returns-in-Some-clause-kept
returns-in-Some-clause-kept c frames g =
    let o = own_model c.args.own.now in
    let at = c.in-Some.at in
    let f = c.args.frame in
    let many = pages_in o.segments in
    let none : unnamed (slots_after o frames many) (f ∷ []) ≡ [] =
    not_kept (slots_after o frames many) f
    (frame_named o frames c.args.place at.slot at.page c.in-Some.ensures.slot c.in-Some.ensures.page many
    f c.requires.there g.at) in
    sym (ap (λ (ys : List ℕ). c.args.kept.now.items ++ ys) none ∙ append-nil c.args.kept.now.items)

pub returns-clause-caps : goal.returns-clause-caps
returns-clause-caps c frames g = g.given ∙ slots_same (own_model c.args.own.now) frames c.args.place c.in_default.ensures.none

pub returns-clause-kept : goal.returns-clause-kept
returns-clause-kept c frames g =
    let o = own_model c.args.own.now in
    let f = c.args.frame in
    let many = pages_in o.segments in
    let enough = g.enough in
    let within : c.args.place < length frames = omega (arith, enough, c.requires.there) in
    let one : unnamed (slots_after o frames many) (f ∷ []) ≡ f ∷ [] =
    is_kept (slots_after o frames many) f
    (frame_unnamed o frames g.ascend c.args.place many f within g.enough g.at c.in_default.ensures.none)
    in
    c.push_reserved.ensures.items ∙ ap (λ (ys : List ℕ). c.args.kept.now.items ++ ys) (sym one)

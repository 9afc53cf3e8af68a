use Rattle.std.proofs.Common.{arith, ◌≡◌, ◌∙◌, sym, subst, ap, ◌∷◌, []}
use Rattle.std.specs.Prelude.{reverse, drop, slice_get, Some}
use Rattle.std.proofs.lemmas.List.{reverse-append}
use Rattle.frame_colours.specs.Colours.{IsOwn, has}
use Rattle.frame_colours.specs.FreeList.{FreeList, IsFreeList, is_free, placed, without_least}
use Rattle.frame_colours.proofs.Ascending.{has_head, has_other}
use Rattle.frame_colours.proofs.Placed.{of, rest_is_free_list, least_is_gone, least_is_least, placed_first}
use Rattle.frame_colours.proofs.pool.Pool.take.Goals as goal

-- the least frame, and the rest
split : (c : goal.After-of)
    → reverse c.self.inside.free.items ≡ c.in_ok-number.number ∷ reverse c.pop.new.self.items
split c = ap reverse c.in_ok-number.ensures.items ∙ reverse-append c.pop.new.self.items (c.in_ok-number.number ∷ [])

sound : (c : goal.After-of)
    → IsFreeList (of c.self.inside.part (c.in_ok-number.number ∷ reverse c.pop.new.self.items))
sound c = subst (λ xs. IsFreeList (of c.self.inside.part xs)) (split c) c.self.invariant.0

pub invariant_of-self-2 : goal.invariant_of-self-2
invariant_of-self-2 c = (
  rest_is_free_list c.self.inside.part c.in_ok-number.number (reverse c.pop.new.self.items) (sound c),
  omega (arith, c.self.invariant.1, c.in_ok-number.ensures.capacity),
  c.self.invariant.2,
)

pub returns-clause-own : goal.returns-clause-own
returns-clause-own c =
    let own : IsOwn c.self.inside.part c.in_ok-number.number =
    (sound c).own c.in_ok-number.number (has_head c.in_ok-number.number (reverse c.pop.new.self.items)) in
    subst (λ (list : FreeList). IsOwn list.share c.of.result) c.self.view_is
    (subst (λ n. IsOwn c.self.inside.part n) (sym c.of.ensures.number) own)

pub returns-clause-gone : goal.returns-clause-gone
returns-clause-gone c =
    ap (has (reverse c.pop.new.self.items)) c.of.ensures.number
    ∙ least_is_gone c.self.inside.part c.in_ok-number.number (reverse c.pop.new.self.items) (sound c)

pub returns-clause-least : goal.returns-clause-least
returns-clause-least c = λ f there.
    let among = ap (λ xs. has xs f) (sym (split c)) ∙ ap (λ (list : FreeList). is_free list f) c.self.view_is ∙ there in
    let least = least_is_least c.self.inside.part c.in_ok-number.number (reverse c.pop.new.self.items) (sound c) f among in
    omega (arith, c.of.ensures.number)

pub returns-clause-sound : goal.returns-clause-sound
returns-clause-sound c = (invariant_of-self-2 c).0

pub returns-clause-again : goal.returns-clause-again
returns-clause-again c =
    ap (λ n. of c.self.inside.part (placed (reverse c.pop.new.self.items) n)) c.of.ensures.number
    ∙ ap (of c.self.inside.part) (placed_first c.self.inside.part c.in_ok-number.number
    (reverse c.pop.new.self.items) (sound c) ∙ sym (split c))
    ∙ c.self.view_is

pub returns-clause-value : goal.returns-clause-value
returns-clause-value c =
    ap Some c.of.ensures.number ∙ ap (λ xs. slice_get xs 0) (sym (split c)) ∙ ap (λ (list : FreeList). slice_get list.free 0) c.self.view_is

pub returns-clause-becomes : goal.returns-clause-becomes
returns-clause-becomes c = ap (λ xs. of c.self.inside.part (drop 1 xs)) (sym (split c)) ∙ ap without_least c.self.view_is

pub returns-clause-was_free : goal.returns-clause-was_free
returns-clause-was_free c =
    let number = c.in_ok-number.number in
    let rest = reverse c.pop.new.self.items in
    ap (λ (list : FreeList). is_free list c.of.result) (sym c.self.view_is)
    ∙ ap (λ xs. has xs c.of.result) (split c) ∙ ap (has (number ∷ rest)) c.of.ensures.number ∙ has_head number rest

pub returns-clause-others : goal.returns-clause-others
returns-clause-others c = λ f other.
    let number = c.in_ok-number.number in
    let rest = reverse c.pop.new.self.items in
    sym (ap (λ (list : FreeList). is_free list f) (sym c.self.view_is) ∙ ap (λ xs. has xs f) (split c)
    ∙ has_other number f rest (λ same. other (sym same ∙ sym c.of.ensures.number)))

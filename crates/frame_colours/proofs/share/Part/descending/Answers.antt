use Rattle.std.proofs.Common.{arith, rules, sym, ap, subst, ◌≡◌, ◌∙◌, ◌<◌, ◌-◌, ℕ, List, [], ◌∷◌, ◌++◌, length, Bool, true, false}
use Rattle.frame_colours.specs.Colours.{Share, colour_of, has, has_colour, pool}
use Rattle.frame_colours.proofs.Pools.{room_for, listed_own, listed_other, listed_whole}
use Rattle.frame_colours.proofs.share.Part.descending.Goals as goal

-- the colour that is counted down is that of the frame below
below_is : (colours colours' frame colour : ℕ) → colours ≡ colours' → colour_of colours (frame - 1) ≡ colour
    → colour_of colours' (frame - 1) ≡ colour
below_is colours colours' frame colour same is = subst (λ (k : ℕ). colour_of k (frame - 1) ≡ colour) same is

-- the share has a frame where its colour is among those that were looked up
looked_up : (s : Share) (own : List ℕ) (frame colour : ℕ) (found : Bool) → own ≡ s.own
    → colour_of s.colours frame ≡ colour
    → found ≡ has own colour → has_colour s frame ≡ found
looked_up s own frame colour found same is value =
    ap (λ (c : ℕ). has s.own c) is ∙ ap (λ (ms : List ℕ). has ms colour) (sym same) ∙ sym value

pub push_reserved-requires : goal.push_reserved-requires
push_reserved-requires c =
    let colour : colour_of c.args.self.now.colours (c.loop-frame.frame - 1) ≡ c.colour_below-colour.result =
    below_is c.self.inside.colours c.args.self.now.colours c.loop-frame.frame c.colour_below-colour.result
    (ap (λ (s : Share). s.colours) c.self.view_is)
    (c.colour_below-colour.ensures.value c.loop-frame.frame (omega (arith, c.loop-frame-test.true))
    (sym (c.loop-frame.invariant.3 ∙ ap (λ (s : Share). colour_of s.colours c.loop-frame.frame) (sym c.self.view_is))))
    in
    let mine : has_colour c.args.self.now (c.loop-frame.frame - 1) ≡ true =
    looked_up c.args.self.now c.deref-2.result.now (c.loop-frame.frame - 1) c.colour_below-colour.result _
    (c.deref-2.ensures.value ∙ ap (λ (s : Share). s.own) c.self.view_is) colour
    (c.named-named.ensures.named c.colour_below-colour.result
    (omega (arith, c.colour_below-colour.ensures.below, c.self.invariant.1))) ∙ c.if-named-colour.true
    in
    let room : length c.loop-frame.frames.items < length (pool c.args.self.now) =
    room_for c.args.self.now c.loop-frame.frames.items (c.loop-frame.frame - 1) c.loop-frame.frame mine
    (omega (arith, c.loop-frame-test.true)) c.loop-frame.invariant.1 c.loop-frame.invariant.0 in
    omega (arith, room, c.loop-frame.invariant.2)

pub loop-frame-preserved-then-named-colour : goal.loop-frame-preserved-then-named-colour
loop-frame-preserved-then-named-colour c =
    let colour : colour_of c.args.self.now.colours (c.loop-frame.frame - 1) ≡ c.colour_below-colour.result =
    below_is c.self.inside.colours c.args.self.now.colours c.loop-frame.frame c.colour_below-colour.result
    (ap (λ (s : Share). s.colours) c.self.view_is)
    (c.colour_below-colour.ensures.value c.loop-frame.frame (omega (arith, c.loop-frame-test.true))
    (sym (c.loop-frame.invariant.3 ∙ ap (λ (s : Share). colour_of s.colours c.loop-frame.frame) (sym c.self.view_is))))
    in
    let mine : has_colour c.args.self.now (c.loop-frame.frame - 1) ≡ true =
    looked_up c.args.self.now c.deref-2.result.now (c.loop-frame.frame - 1) c.colour_below-colour.result _
    (c.deref-2.ensures.value ∙ ap (λ (s : Share). s.own) c.self.view_is) colour
    (c.named-named.ensures.named c.colour_below-colour.result
    (omega (arith, c.colour_below-colour.ensures.below, c.self.invariant.1))) ∙ c.if-named-colour.true
    in
    let pushed : c.push_reserved.new.self.items ≡ c.loop-frame.frames.items ++ (c.loop-frame.frame - 1) ∷ [] = search rules in (
      listed_own c.args.self.now c.loop-frame.frames.items c.push_reserved.new.self.items (c.loop-frame.frame - 1) c.loop-frame.frame mine
          (omega (arith, c.loop-frame-test.true)) c.loop-frame.invariant.1 pushed c.loop-frame.invariant.0,
      omega (arith, c.loop-frame.invariant.1),
      omega (arith, c.loop-frame.invariant.2, c.push_reserved.ensures.capacity),
      sym colour,
    )

pub loop-frame-preserved : goal.loop-frame-preserved
loop-frame-preserved c =
    let colour : colour_of c.args.self.now.colours (c.loop-frame.frame - 1) ≡ c.colour_below-colour.result =
    below_is c.self.inside.colours c.args.self.now.colours c.loop-frame.frame c.colour_below-colour.result
    (ap (λ (s : Share). s.colours) c.self.view_is)
    (c.colour_below-colour.ensures.value c.loop-frame.frame (omega (arith, c.loop-frame-test.true))
    (sym (c.loop-frame.invariant.3 ∙ ap (λ (s : Share). colour_of s.colours c.loop-frame.frame) (sym c.self.view_is))))
    in
    let other : has_colour c.args.self.now (c.loop-frame.frame - 1) ≡ false =
    looked_up c.args.self.now c.deref-2.result.now (c.loop-frame.frame - 1) c.colour_below-colour.result _
    (c.deref-2.ensures.value ∙ ap (λ (s : Share). s.own) c.self.view_is) colour
    (c.named-named.ensures.named c.colour_below-colour.result
    (omega (arith, c.colour_below-colour.ensures.below, c.self.invariant.1))) ∙ c.if-named-colour.false
    in (
      listed_other c.args.self.now c.loop-frame.frames.items (c.loop-frame.frame - 1) c.loop-frame.frame other
          (omega (arith, c.loop-frame-test.true)) c.loop-frame.invariant.1 c.loop-frame.invariant.0,
      omega (arith, c.loop-frame.invariant.1),
      c.loop-frame.invariant.2,
      sym colour,
    )

pub returns-clause-frames : goal.returns-clause-frames
returns-clause-frames c = listed_whole c.args.self.now _ c.loop-frame.frame (omega arith) c.loop-frame.invariant.0

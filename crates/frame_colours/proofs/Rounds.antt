-- Frames round by round: each round of all colours has as many frames of a pool.
use Rattle.std.proofs.Common.{arith, ◌≡◌, ◌∙◌, sym, ap, subst, refl, add-zero, ℕ, Bool, true, false, zero, suc, ◌+◌, ◌-◌, ◌*◌, ◌/◌, ◌%◌, ◌<◌, ◌≤◌, List, length, cond}
use Rattle.std.specs.Prelude.{filter}
use Rattle.std.specs.List.{range_with_len}
use Rattle.std.proofs.lemmas.Nat.{mod-mul-add, div-add-mod', mod_below}
use Rattle.std.proofs.Math.Nat.{mod-eq_of_lt, suc-mul, zero-mul}
use Rattle.frame_colours.specs.Colours.{has, has_colour, colour_of, pool, share_of, whole_of}
use Rattle.frame_colours.proofs.Pools.{length_more}

at_most : (t : Bool) → cond t 1 0 ≤ 1
at_most true = omega arith
at_most false = omega arith

module _ (colours : ℕ) (own : List ℕ) (some : 0 < colours) where
  -- of so many frames, how many are in the pool
  abbrev pub among : ℕ → ℕ
  among frames = length (filter (has_colour (share_of (whole_of frames colours) own)) (range_with_len 0 frames))

  among-more : (frames : ℕ)
      → among (frames + 1) ≡ among frames + cond (has own (colour_of colours frames)) 1 0
  among-more frames = length_more (share_of (whole_of frames colours) own) frames

  pub among-pool : (frames : ℕ) → length (pool (share_of (whole_of frames colours) own)) ≡ among frames
  unfolding pool
  among-pool frames = refl

  -- the frames after so many rounds have the colours of the first ones
  among-after : (rounds rest : ℕ) → rest ≤ colours
      → among (rounds * colours + rest) ≡ among (rounds * colours) + among rest
  among-after rounds zero within =
      let none : among 0 ≡ 0 = refl in
      ap (λ (n : ℕ). among n) (add-zero (rounds * colours)) ∙ omega (arith, none)
  among-after rounds (suc rest) within =
      let same : colour_of colours (rounds * colours + rest) ≡ colour_of colours rest =
      mod-mul-add rounds colours rest (omega (arith, within)) ∙ sym (mod-eq_of_lt (omega (arith, within)))
      in
      let marks : ◌≡◌ {A = ℕ} (cond (has own (colour_of colours (rounds * colours + rest))) 1 0)
      (cond (has own (colour_of colours rest)) 1 0) =
      ap (λ (c : ℕ). cond (has own c) 1 0) same
      in
      let next : rounds * colours + suc rest ≡ rounds * colours + rest + 1 = omega arith in
      let more = among-more (rounds * colours + rest) in
      let few = among-more rest in
      let before = among-after rounds rest (omega (arith, within)) in
      let next' : suc rest ≡ rest + 1 = omega arith in
      ap (λ (n : ℕ). among n) next ∙ more ∙ omega (arith, marks, few, before)
      ∙ ap (λ (n : ℕ). among (rounds * colours) + among n) (sym next')

  among-rounds : (rounds : ℕ) → among (rounds * colours) ≡ rounds * among colours
  among-rounds zero =
      let none : among 0 ≡ 0 = refl in
      ap (λ (n : ℕ). among n) (zero-mul colours) ∙ none ∙ sym (zero-mul (among colours))
  among-rounds (suc rounds) =
      let next : suc rounds * colours ≡ rounds * colours + colours = suc-mul rounds colours in
      let next' : suc rounds * among colours ≡ rounds * among colours + among colours = suc-mul rounds (among colours) in
      ap (λ (n : ℕ). among n) next
      ∙ among-after rounds colours (omega arith)
      ∙ ap (λ (n : ℕ). n + among colours) (among-rounds rounds)
      ∙ sym next'

  -- all of them, in whole rounds and a rest
  among-all : (frames : ℕ) → among frames ≡ frames / colours * among colours + among (frames % colours)
  among-all frames =
      ap (λ (n : ℕ). among n) (sym (div-add-mod' frames colours))
      ∙ among-after (frames / colours) (frames % colours) (omega (arith, mod_below frames colours some))
      ∙ ap (λ (n : ℕ). n + among (frames % colours)) (among-rounds (frames / colours))

  pub pool_rounds : (frames : ℕ) → frames / colours * length (pool (share_of (whole_of colours colours) own))
      + length (pool (share_of (whole_of (frames % colours) colours) own))
      ≡ length (pool (share_of (whole_of frames colours) own))
  pool_rounds frames = sym (rw (among-pool frames, among-pool colours, among-pool (frames % colours)) (among-all frames))

  among-most : (frames : ℕ) → among frames ≤ frames
  among-most zero = omega arith
  among-most (suc frames) =
      let next : suc frames ≡ frames + 1 = omega arith in
      let more = among-more frames in
      let before = among-most frames in
      let most : cond (has own (colour_of colours frames)) 1 0 ≤ 1 = at_most (has own (colour_of colours frames)) in
      subst (λ (n : ℕ). among n ≤ n) (sym next) (omega (arith, more, before, most))

  pub pool_most : (frames : ℕ) → length (pool (share_of (whole_of frames colours) own)) ≤ frames
  pool_most frames = subst (λ (n : ℕ). n ≤ frames) (sym (among-pool frames)) (among-most frames)

-- ---- the colour of the frame below

-- a frame of a colour but 0 is of the same round
pub same_round : (colours colour frame : ℕ) → 0 < colour → colour < colours → colour_of colours frame ≡ colour
    → colour_of colours (frame - 1) ≡ colour - 1
same_round colours colour frame some within is =
    let whole : frame / colours * colours + colour ≡ frame =
    ap (λ (c : ℕ). frame / colours * colours + c) (sym is) ∙ div-add-mod' frame colours in
    let less : frame - 1 ≡ frame / colours * colours + (colour - 1) = omega (arith, whole, some) in
    ap (λ (f : ℕ). colour_of colours f) less ∙ mod-mul-add (frame / colours) colours (colour - 1) (omega (arith, within))

-- below a frame of colour 0 is the last one of the round before
last_of_round : (colours frame rounds : ℕ) → 0 < colours → 0 < frame → frame ≡ rounds * colours
    → colour_of colours (frame - 1) ≡ colours - 1
last_of_round colours frame zero some more is = let none : zero * colours ≡ 0 = zero-mul colours in omega (arith, is, none, more)
last_of_round colours frame (suc rounds) some more is =
    let next : suc rounds * colours ≡ rounds * colours + colours = suc-mul rounds colours in
    let less : frame - 1 ≡ rounds * colours + (colours - 1) = omega (arith, is, next, some) in
    ap (λ (f : ℕ). colour_of colours f) less ∙ mod-mul-add rounds colours (colours - 1) (omega (arith, some))

pub round_before : (colours frame : ℕ) → 0 < colours → 0 < frame → colour_of colours frame ≡ 0
    → colour_of colours (frame - 1) ≡ colours - 1
round_before colours frame some more is =
    let whole : frame / colours * colours + 0 ≡ frame =
    ap (λ (c : ℕ). frame / colours * colours + c) (sym is) ∙ div-add-mod' frame colours in
    last_of_round colours frame (frame / colours) some more (omega (arith, whole))

-- Two events of different harts, one of which is of a slot, may change places.
use Rattle.std.proofs.Common.{◌≡◌, ◌≢◌, ◌⊎◌, inl, inr, ℕ, ◌<◌, true, sym, ◌∙◌, subst}
use Rattle.std.proofs.lemmas.Bool.{cases_eq}
use Rattle.event_orders.specs.Machine.{Machine, IsMachine}
use Rattle.event_orders.specs.Laws.{CommuteLaw, PassLaw}

-- a number is this one, or another
pub this_or_if : (P : ℕ → Type 0) (h : ℕ) → P h → ((j : ℕ) → j ≢ h → P j) → (j : ℕ) → (j ≡ h) ⊎ (j ≢ h) → P j
this_or_if P h here there j (inl same) = subst P (sym same) here
this_or_if P h here there j (inr other) = there j other

pub this_or : (P : ℕ → Type 0) (h : ℕ) → P h → ((j : ℕ) → j ≢ h → P j) → (j : ℕ) → P j
this_or P h here there j = this_or_if P h here there j (cases_eq j h)

module _ (m : Machine) (is : IsMachine m) (g h : ℕ) (w : m.World) (ig : g < m.harts) (ih : h < m.harts) (ne : g ≢ h)
    (s : m.IsSound w) where
  abbrev g_first : m.World
  g_first = m.next h (m.next g w)

  abbrev h_first : m.World
  h_first = m.next g (m.next h w)

  sound_g : m.IsSound (m.next g w)
  sound_g = is.sound g w ig s

  sound_h : m.IsSound (m.next h w)
  sound_h = is.sound h w ih s

  ne' : h ≢ g
  ne' q = ne (sym q)

  -- the one doesn't touch the other's hart
  pub g_still : m.Same g (m.next h w) w
  g_still = is.others g h w ih ne s

  pub h_still : m.Same h (m.next g w) w
  h_still = is.others h g w ig ne' s

  pub still_inside : m.inside g w ≡ true → m.inside g (m.next h w) ≡ true
  still_inside now = (is.as_far g _ w g_still).inside ∙ now

  -- hart g, whose event is of a slot
  pub own : m.inside g w ≡ true → m.Same g h_first g_first
  own now =
      (is.same g).on h_first (m.next g w) g_first (is.work g (m.next h w) w ig sound_h s (still_inside now) g_still)
      ((is.same g).back g_first (m.next g w) (is.others g h (m.next g w) ih ne sound_g))

  -- a third hart
  pub third : (j : ℕ) → j ≢ g → j ≢ h → m.Same j h_first g_first
  third j other other' =
      (is.same j).on h_first w g_first
      ((is.same j).on h_first (m.next h w) w (is.others j g (m.next h w) ig other sound_h) (is.others j h w ih other' s))
      ((is.same j).back g_first w
      ((is.same j).on g_first (m.next g w) w (is.others j h (m.next g w) ih other' sound_g) (is.others j g w ig other s)))

  pub each : m.Same g h_first g_first → m.Same h h_first g_first → (j : ℕ) → m.Same j h_first g_first
  each of_g of_h =
      this_or (λ j. m.Same j h_first g_first) g of_g
      (λ j other. this_or (λ x. x ≢ g → m.Same x h_first g_first) h (λ _. of_h) (λ x other' other. third x other other') j other)

  -- what is shared, after both
  pub left_shared : m.inside g w ≡ true → m.inside h w ≡ true → m.SameShared h_first w
  left_shared now now' =
      is.shared.on h_first (m.next h w) w (is.work_shared g (m.next h w) ig sound_h (still_inside now)) (is.work_shared h w ih s now')

pub commute : (m : Machine) → IsMachine m → CommuteLaw m
commute m is g h w ig ih ne s now now' =
    let ne' : h ≢ g = λ q. ne (sym q) in
    record {
      shared = is.shared.on _ w _ (left_shared m is g h w ig ih ne s now now')
          (is.shared.back _ w (left_shared m is h g w ih ig ne' s now' now));
      each = λ j there.
          each m is g h w ig ih ne s (own m is g h w ig ih ne s now)
          ((is.same h).back _ _ (own m is h g w ih ig ne' s now')) j;
    }

pub pass : (m : Machine) → IsMachine m → PassLaw m
pass m is g h w ig ih ne s now out =
    let sh = is.sound h w ih s in
    let sg = is.sound g w ig s in
    let still = h_still m is g h w ig ih ne s in
    let out' = (is.as_far h _ w still).inside ∙ out in
    let shared = is.work_shared g w ig s now in
    record {
      shared =
          is.shared.on _ (m.next h w) _ (is.work_shared g (m.next h w) ig sh (still_inside m is g h w ig ih ne s now))
          (is.shared.back _ (m.next h w) (is.turn_shared h (m.next g w) w ih sg s out' still shared));
      each = λ j there.
          each m is g h w ig ih ne s (own m is g h w ig ih ne s now)
          ((is.same h).on _ (m.next h w) _ (is.others h g (m.next h w) ig (λ q. ne (sym q)) sh)
          ((is.same h).back _ (m.next h w) (is.turn h (m.next g w) w ih sg s out' still shared))) j;
    }

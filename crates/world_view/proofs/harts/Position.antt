-- Where a hart is after so many of its own events, by the domains of its slots as they are alone.
use Rattle.std.proofs.Common.{None, ◌≡◌, ◌≢◌, ℕ, zero, suc, ◌<◌, Bool, true, false, eqb-true, nat_lt, length, List, [], ◌∷◌, ap, sym, ◌∙◌, refl, subst}
use Rattle.std.specs.Prelude.{◌==◌, cond, if◌then◌else◌}
use Rattle.std.specs.List.{All, filter}
use Rattle.std.proofs.lemmas.Bool.{eqb-false}
use Rattle.std.proofs.lemmas.List.Elements.{All-nil, All-head, All-tail}
use Rattle.hardware_check.specs.Hardware.{Hardware}
use Rattle.image_check.specs.Own.{Own}
use Rattle.image_check.specs.Image.{Image, own_of}
use Rattle.image_check.specs.Laws.{Runnable}
use Rattle.mail_slots.specs.Sides.{Arrival, arrival}
use Rattle.world_view.specs.Mail.{left_boxes}
use Rattle.world_view.proofs.runs.Quiet.{AreNone, left_pairs, nothing_arrives, enter_none, alone_quiet}
use Rattle.sched_table.specs.Schedule.{outgoing, harts_in}
use Rattle.world_view.specs.Machine.{guarded, Hart, Local, World, hart_of, clock_of, part_of, setting, step, arrivals, alone_mail, alone, alone_enter, alone_opening}
use Rattle.world_view.specs.Relations.{IsDomain, HasNoMail, Within}
use Rattle.world_view.specs.Harts.{Harts, Progress, image_on, domain_in, end_on, progress_of, slots_of, proceeds, begins, runs, goes_on, next, after, harts, next_by, after_by, harts_by, settles}
use Rattle.world_view.specs.HartLaws.{AreHartsOf, HasNoMailOn, events_of}
use Rattle.world_view.proofs.opening.Separate.{Separated}
use Rattle.world_view.proofs.runs.Joined.{it_enters}
use Rattle.world_view.proofs.harts.OnHart.{separated_on, hart_is}
use Rattle.world_view.proofs.harts.Events.{IsHart, begun_world, begins_is}
use Rattle.world_view.proofs.harts.Meets.{Meets, within_trans, moved}
use Rattle.world_view.proofs.harts.Runs.{Running, all_cold_are, progress-same, here, there_if, next_so}
use Rattle.world_view.proofs.harts.Clocks.{hart_stays}
use Rattle.world_view.proofs.harts.Isolation.{at_first, running}

-- how far it is, and the domain of its slot, or of the last that it had
pub record Position : Type 0 where
  pub progress : Progress
  pub local : Local

module _ (i : Image) (h : ℕ) where
  abbrev on : Image
  on = image_on i h

  abbrev p : Hardware
  p = i.all.hardware

  abbrev its : ℕ → Own
  its k = own_of i (domain_in i h k)

  -- ---- its events

  -- the domain of slot k as the slot begins
  abbrev entered : ℕ → Local
  entered k = alone_enter on.all (its k) k [] (alone on.all (its k) (domain_in i h k) k)

  -- after an event of it
  abbrev stepped : ℕ → Local → Local
  stepped k a = step (setting p (its k) true) (end_on i h k) a

  -- whether the slot goes on
  ends_if : Bool → ℕ → Local → Position
  ends_if true k a = record { progress = record { slots = k; inside = true }; local = a }
  ends_if false k a = record { progress = record { slots = suc k; inside = false }; local = a }

  -- inside slot k or before it
  moves_if : Bool → ℕ → Local → Position
  moves_if true k a = ends_if (nat_lt (stepped k a).clock (end_on i h k)) k (stepped k a)
  moves_if false k a = record { progress = record { slots = k; inside = true }; local = entered k }

  moves : Position → Position
  moves x = moves_if x.progress.inside x.progress.slots x.local

  -- so many events later
  pub onward : ℕ → Position → Position
  onward zero x = x
  onward (suc n) x = onward n (moves x)

  pub first : Position
  first = record { progress = record { slots = 0; inside = false }; local = alone_opening on.all (own_of i 0) }

  -- ---- the hart is there

  -- in its slot k the domain is as it is alone; between slots the clock stands at the same
  abbrev pub NearIf : Bool → ℕ → World → Local → Type 0
  NearIf true k w a = Within p (its k) (part_of h (domain_in i h k) w) a
  NearIf false k w a = clock_of h w ≡ a.clock

  pub record IsAt (s : Harts) (x : Position) : Type 0 where
    pub progress : progress_of h s ≡ x.progress
    pub near : NearIf x.progress.inside x.progress.slots s.world x.local

  clock_if : (b : Bool) (k : ℕ) (w : World) (a : Local) → NearIf b k w a → clock_of h w ≡ a.clock
  clock_if true k w a near = near.clock
  clock_if false k w a near = near

  pub clock_at : (s : Harts) (x : Position) → IsAt s x → clock_of h s.world ≡ x.local.clock
  clock_at s x at = clock_if x.progress.inside x.progress.slots s.world x.local at.near

  proceeds_at : (s : Harts) (w : World) (k : ℕ) (b : Bool) (a : Local) → NearIf b k w a
      → IsAt (proceeds h s w k b) (record { progress = record { slots = k; inside = b }; local = a })
  unfolding proceeds
  proceeds_at s w k b a near = record { progress = progress-same h s w k b; near = near }

  module _ (r : Runnable i) (is : h < harts_in i.all.schedule) (none : HasNoMailOn i h) where
    abbrev r_on : Separated on
    r_on = separated_on i r h is

    at_start : IsAt (harts i []) first
    unfolding harts_by after_by first alone_opening
    at_start = record { progress = at_first i r h; near = (all_cold_are i _ h is).clock }

    module _ (s : Harts) (was : Running i r s) where
      abbrev k : ℕ
      k = slots_of h s

      abbrev d : ℕ
      d = domain_in i h k

      id : IsDomain i d
      id = r_on.named k

      met : (b : Bool) → (progress_of h s).inside ≡ b → Meets i h d (arrivals d s.world) b k (part_of h d s.world)
      met b t = subst (λ (x : Bool). Meets i h d (arrivals d s.world) x k (part_of h d s.world)) t (here i r s was h d id (hart_is i r h is k))

      -- no box leads to it
      elsewhere : HasNoMail i d
      elsewhere = none d (hart_is i r h is k)

      -- so nothing comes with a switch
      nothing_comes : (words : Arrival)
          → words ≡ arrival d (left_boxes (outgoing on.all.schedule k) s.world.storage.boxes)
          → alone_enter on.all (its k) k words (alone_mail on.all (its k) d (arrivals d s.world) k) ≡ entered k
      nothing_comes words are =
          enter_none on.all (its k) d k words (alone_mail on.all (its k) d (arrivals d s.world) k)
          (subst AreNone (sym are) (nothing_arrives d _
          (subst (λ (mail : List (ℕ × ℕ)). All (λ box. box.1 ≢ d) mail)
          (sym (left_pairs (outgoing on.all.schedule k) s.world.storage.boxes ∙ was.pairs)) elsewhere)))
          ∙ ap (alone_enter on.all (its k) k []) (alone_quiet on.all (its k) d (arrivals d s.world) k (was.quiet d elsewhere))

      its_hart : (b : Bool) → (progress_of h s).inside ≡ b → IsHart i b h k s.world
      its_hart b t = subst (λ (x : Bool). IsHart i x h k s.world) t (was.hart h is)

      -- ---- its own event

      begins_at : (progress_of h s).inside ≡ false
          → IsAt (begins None i h s) (record { progress = record { slots = k; inside = true }; local = entered k })
      begins_at t =
          subst (λ (x : Harts). IsAt x (record { progress = record { slots = k; inside = true }; local = entered k }))
          (sym (begins_is i r h is s (its_hart false t)))
          (proceeds_at s (begun_world i h s) k true (entered k)
          (subst (Within p (its k) (part_of h d (begun_world i h s))) (nothing_comes _ refl)
          (it_enters on r_on d id (arrivals d s.world) h s.world k refl (its_hart false t) (met false t).at)))

      ends_at : (b : Bool) (w : World) (a : Local) → Within p (its k) (part_of h d w) a
          → IsAt (if b then proceeds h s w k true else proceeds h s w (suc k) false) (ends_if b k a)
      unfolding ends_if
      ends_at true w a near = proceeds_at s w k true a near
      ends_at false w a near = proceeds_at s w (suc k) false a near.clock

      goes_at : (a : Local) → (progress_of h s).inside ≡ true → Within p (its k) (part_of h d s.world) a
          → IsAt (goes_on None i h s) (ends_if (nat_lt (stepped k a).clock (end_on i h k)) k (stepped k a))
      unfolding goes_on settles guarded
      goes_at a t near =
          let w = runs None i h k s.world in
          let near' = moved i h d r is id k s.world (its_hart true t) (was.facts d id).facts (there_if i r h s t was.shared) refl a near in
          subst (λ (n : ℕ). IsAt (if (nat_lt n (end_on i h k)) then proceeds h s w k true else proceeds h s w (suc k) false)
          (ends_if (nat_lt (stepped k a).clock (end_on i h k)) k (stepped k a))) (sym near'.clock)
          (ends_at (nat_lt (stepped k a).clock (end_on i h k)) w (stepped k a) near')

      moved_if : (b : Bool) (a : Local) → (progress_of h s).inside ≡ b → NearIf b k s.world a
          → IsAt (if b then goes_on None i h s else begins None i h s) (moves_if b k a)
      unfolding moves_if
      moved_if true a t near = goes_at a t near
      moved_if false a t near = begins_at t

      next_here : (a : Local) → NearIf (progress_of h s).inside k s.world a
          → IsAt (next i h s) (moves (record { progress = progress_of h s; local = a }))
      unfolding next_by moves
      next_here a near = moved_if (progress_of h s).inside a refl near

      own_event : (x : Position) → IsAt s x → IsAt (next i h s) (moves x)
      own_event x at =
          subst (λ (y : Progress). IsAt (next i h s) (moves (record { progress = y; local = x.local }))) at.progress
          (next_here x.local (subst (λ (y : Progress). NearIf y.inside y.slots s.world x.local) (sym at.progress) at.near))

      -- ---- another hart's

      module _ (g : ℕ) (below : g < harts_in i.all.schedule) (other : g ≢ h) where
        stays : hart_of h (next i g s).world ≡ hart_of h s.world
        stays = (hart_stays i h g s (λ q. other (sym q))).hart

        part_stays : (n : ℕ)
            → Within p (its n) (part_of h (domain_in i h n) (next i g s).world)
            (part_of h (domain_in i h n) s.world)
        part_stays n =
            let left = (next_so i r g below s was).left (domain_in i h n) (r_on.named n) (λ q. other (q ∙ hart_is i r h is n)) in
            record {
              dom = left.dom;
              part = record { frames = left.part.frames; side = left.part.side; sets = left.part.sets };
              core = ap (λ (x : Hart). x.core) stays;
              clock = ap (λ (x : Hart). x.clock) stays;
            }

        near_stays : (b : Bool) (n : ℕ) (a : Local) → NearIf b n s.world a → NearIf b n (next i g s).world a
        near_stays true n a near = within_trans p (its n) _ _ a (part_stays n) near
        near_stays false n a near = ap (λ (x : Hart). x.clock) stays ∙ near

        others_event : (x : Position) → IsAt s x → IsAt (next i g s) x
        others_event x at = record {
          progress = (hart_stays i h g s (λ q. other (sym q))).progress ∙ at.progress;
          near = near_stays x.progress.inside x.progress.slots x.local at.near;
        }

      -- ---- every event

      event_at : (g : ℕ) → g < harts_in i.all.schedule → (x : Position) → IsAt s x → (b : Bool) → (g == h) ≡ b
          → IsAt (next i g s) (if b then moves x else x)
      event_at g below x at true t = subst (λ (n : ℕ). IsAt (next i n s) (moves x)) (sym (eqb-true g h t)) (own_event x at)
      event_at g below x at false t = others_event g below (eqb-false g h t) x at

    counts_if : (b : Bool) (g : ℕ) (gs : List ℕ) (x : Position)
        → onward (length (cond b (g ∷ gs) gs)) x ≡ onward (length gs) (if b then moves x else x)
    unfolding onward
    counts_if true g gs x = refl
    counts_if false g gs x = refl

    after_at : (order : List ℕ) (s : Harts) (x : Position) → All (λ g. g < harts_in i.all.schedule) order
        → Running i r s → IsAt s x
        → IsAt (after i order s) (onward (events_of h order) x)
    unfolding after_by onward
    after_at [] s x below was at = at
    after_at (g ∷ gs) s x below was at =
        let one = All-head (λ (n : ℕ). n < harts_in i.all.schedule) g gs below in
        let rest = All-tail (λ (n : ℕ). n < harts_in i.all.schedule) g gs below in
        subst (IsAt (after i gs (next i g s))) (sym (counts_if (g == h) g (filter (λ n. n == h) gs) x))
        (after_at gs (next i g s) (if (g == h) then moves x else x) rest (next_so i r g one s was).running
        (event_at s was g one x at (g == h) refl))

    pub is_at : (order : List ℕ) → AreHartsOf i order
        → IsAt (harts i order) (onward (events_of h order) first)
    unfolding harts_by after_by
    is_at order below = after_at order (harts i []) first below (running i r [] (All-nil (λ (n : ℕ). n < harts_in i.all.schedule))) at_start

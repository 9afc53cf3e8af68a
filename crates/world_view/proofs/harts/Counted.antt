-- How far a hart is, and what is seen of its domains, goes by the number of its own events.
use Rattle.std.proofs.Common.{◌≡◌, ℕ, ◌<◌, Bool, true, false, eqb, eqb-true, sym, ◌∙◌, refl, subst, List}
use Rattle.hardware_check.specs.Hardware.{Hardware}
use Rattle.image_check.specs.Image.{Image, own_of}
use Rattle.image_check.specs.Laws.{Runnable}
use Rattle.sched_table.specs.Schedule.{harts_in}
use Rattle.world_view.specs.Machine.{Local, World, dom_of, part_of, arrivals, alone}
use Rattle.world_view.specs.View.{view}
use Rattle.world_view.specs.Relations.{IsDomain, HasNoMail, SameFrames, Within}
use Rattle.world_view.specs.Harts.{Harts, Progress, image_on, domain_in, hart_of_domain, harts, view_on}
use Rattle.world_view.specs.HartLaws.{AreHartsOf, HasNoMailOn, events_of, EventsLaw, SameEventsLaw}
use Rattle.std.specs.List.{All}
use Rattle.world_view.proofs.runs.Quiet.{AreNone, alone_quiet}
use Rattle.world_view.proofs.runs.Joined.{seen}
use Rattle.world_view.proofs.runs.WholeLaws.{same_view}
use Rattle.world_view.proofs.harts.OnHart.{separated_on}
use Rattle.world_view.proofs.harts.Meets.{Meets, MeetsIn}
use Rattle.world_view.proofs.harts.Runs.{Running, home}
use Rattle.world_view.proofs.harts.Isolation.{running}
use Rattle.world_view.proofs.harts.Position.{Position, onward, first, NearIf, IsAt, clock_at, is_at}

-- after another order with as many of its events
as_many : (i : Image) (h : ℕ) (r : Runnable i) (is : h < harts_in i.all.schedule) (none : HasNoMailOn i h) (one two : List ℕ)
    → AreHartsOf i two
    → events_of h one ≡ events_of h two → IsAt i h (harts i two) (onward i h (events_of h one) (first i h))
as_many i h r is none one two below same =
    subst (λ (n : ℕ). IsAt i h (harts i two) (onward i h n (first i h))) (sym same) (is_at i h r is none two below)

pub events_law : EventsLaw
events_law i h one two r below_one below_two is none same =
    let x = onward i h (events_of h one) (first i h) in
    let at = is_at i h r is none one below_one in
    let other = as_many i h r is none one two below_two same in
    record {
      progress = at.progress ∙ sym other.progress;
      clock = clock_at i h (harts i one) x at ∙ sym (clock_at i h (harts i two) x other);
    }

module _ (i : Image) (r : Runnable i) (d : ℕ) (id : IsDomain i d) where
  abbrev p : Hardware
  p = i.all.hardware

  abbrev h : ℕ
  h = hart_of_domain i d

  abbrev outside : ℕ → Local
  outside k = alone (image_on i h).all (own_of i d) d k

  -- what is seen of it: in a slot of its own as in that slot, else as before it
  shown_in : Bool → ℕ → Local → Local
  shown_in true k a = a
  shown_in false k a = outside k

  shown_if : Bool → ℕ → Local → Local
  shown_if true k a = shown_in (eqb (domain_in i h k) d) k a
  shown_if false k a = outside k

  record Shows (w : World) (a : Local) : Type 0 where
    dom : dom_of w d ≡ a.dom
    frames : SameFrames p (own_of i d) w.storage.mem a.storage.mem

  -- nothing came to it
  abbrev Quiet : World → Type 0
  Quiet w = All AreNone (arrivals d w)

  shows_in : (b : Bool) (k : ℕ) (w : World) (a : Local) → Quiet w → eqb (domain_in i h k) d ≡ b
      → MeetsIn i h d (arrivals d w) b k (part_of h d w) → NearIf i h true k w a
      → Shows w (shown_in b k a)
  unfolding shown_in
  shows_in true k w a none t m near =
      let mine = subst (λ (e : ℕ). Within p (own_of i e) (part_of h e w) a) (eqb-true (domain_in i h k) d t) near in
      record { dom = mine.dom; frames = mine.part.frames }
  shows_in false k w a none t m near =
      subst (Shows w) (alone_quiet (image_on i h).all (own_of i d) d (arrivals d w) k none)
      (record { dom = m.dom; frames = m.part.frames })

  shows_if : (b : Bool) (k : ℕ) (w : World) (a : Local) → Quiet w → Meets i h d (arrivals d w) b k (part_of h d w)
      → NearIf i h b k w a → Shows w (shown_if b k a)
  unfolding shown_if
  shows_if true k w a none m near = shows_in (eqb (domain_in i h k) d) k w a none refl m.at near
  shows_if false k w a none m near =
      let same = seen (image_on i h) (separated_on i r h (home i r d)) d id (arrivals d w) k (part_of h d w) m.at in
      subst (Shows w) (alone_quiet (image_on i h).all (own_of i d) d (arrivals d w) k none)
      (record { dom = same.0; frames = same.1 })

  shown : Position → Local
  shown x = shown_if x.progress.inside x.progress.slots x.local

  view_at : (s : Harts) (x : Position) → Running i r s → HasNoMail i d → IsAt i h s x
      → view_on i d s ≡ view p (own_of i d) (shown x).dom (shown x).storage
  unfolding view_on shown
  view_at s x was none at =
      let met = subst (λ (y : Progress). Meets i h d (arrivals d s.world) y.inside y.slots (part_of h d s.world)) at.progress (was.meets d id) in
      let shows = shows_if x.progress.inside x.progress.slots s.world x.local (was.quiet d none) met at.near in
      same_view p (own_of i d) _ _ _ _ shows.dom shows.frames

pub same_events : SameEventsLaw
same_events i d one two r id below_one below_two none same =
    let h = hart_of_domain i d in
    let is = home i r d in
    let x = onward i h (events_of h one) (first i h) in
    let its = none d refl in
    view_at i r d id (harts i one) x (running i r one below_one) its (is_at i h r is none one below_one)
    ∙ sym (view_at i r d id (harts i two) x (running i r two below_two) its (as_many i h r is none one two below_two same))

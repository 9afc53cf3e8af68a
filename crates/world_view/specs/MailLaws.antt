-- Boxes over whole runs: where what comes to a domain comes from, and who can make a difference to what is seen of it.
use Rattle.std.specs.Prelude.{◌≡◌, ◌≢◌, ℕ, zero, suc, List, [], ◌∷◌, ◌++◌, slice_get, slice_index_or, Some}
use Rattle.image_check.specs.Image.{Image, own_of}
use Rattle.image_check.specs.Laws.{Runnable}
use Rattle.mail_slots.specs.Boxes.{Mailbox}
use Rattle.mail_slots.specs.Sides.{Arrival}
use Rattle.world_view.specs.Machine.{arrivals}
use Rattle.world_view.specs.View.{view_whole}
use Rattle.world_view.specs.Relations.{IsDomain}
use Rattle.world_view.specs.Harts.{Harts, IsOnOneHart, IsOutside, domain_on, next, after, harts}
use Rattle.world_view.specs.HartLaws.{AreHartsOf}
use Rattle.world_view.specs.Laws.{leaves_on}

-- ---- events that move words

-- hart h's next event ends the slot of domain e, or begins one of domain d
pub record Leaves (i : Image) (h e : ℕ) (s : Harts) : Type 0 where
  pub outside : IsOutside h s
  pub who : leaves_on i h s ≡ Some e

pub record Enters (i : Image) (h d : ℕ) (s : Harts) : Type 0 where
  pub outside : IsOutside h s
  pub who : domain_on i h s ≡ d

-- with it these words go off from box a: what its sender had put in
pub record GoesOff (i : Image) (h a : ℕ) (words : List ℕ) (s : Harts) : Type 0 where
  pub box : Mailbox
  pub there : slice_get s.world.storage.boxes a ≡ Some box
  pub leaves : Leaves i h box.from s
  pub put_in : box.out ≡ words
  pub some : words ≢ []

-- nothing does
abbrev pub NoneGoesOff : Image → (h a : ℕ) → Harts → Type 0
NoneGoesOff i h a s = (words : List ℕ) → GoesOff i h a words s → ⊥

-- in these events, from this state on, nothing goes off from box a, and domain d doesn't enter
abbrev pub StaysThere : Image → (a d : ℕ) → List ℕ → Harts → Type 0
StaysThere i a d order s = (before later : List ℕ) (h : ℕ) → order ≡ before ++ h ∷ later →
    let t = after i before s in
    NoneGoesOff i h a t × (Enters i h d t → ⊥)

-- ---- where what comes to a domain comes from

-- these words went off from box a, to domain d, in one of these events, which didn't begin a slot of d; since then nothing went
-- off from it, and d didn't enter
pub record WentOff (i : Image) (a d : ℕ) (words order : List ℕ) : Type 0 where
  pub before : List ℕ
  pub hart : ℕ
  pub later : List ℕ
  pub split : order ≡ before ++ hart ∷ later
  pub goes_off : GoesOff i hart a words (harts i before)
  pub stays : Enters i hart d (harts i before) → ⊥
  pub since : StaysThere i a d later (harts i (before ++ hart ∷ []))

-- what waits in a box is what its sender had put in as a slot of it ended, the last one with which something went off
abbrev pub WaitsLaw : Type 0
WaitsLaw = (i : Image) (a : ℕ) (order : List ℕ) (box : Mailbox) → Runnable i → AreHartsOf i order
    → slice_get (harts i order).world.storage.boxes a ≡ Some box → box.sent ≢ []
    → WentOff i a box.to box.sent order

-- and what went off so waits: nothing is lost
abbrev pub KeptLaw : Type 0
KeptLaw = (i : Image) (a : ℕ) (words order : List ℕ) (box : Mailbox) → Runnable i → AreHartsOf i order
    → slice_get (harts i order).world.storage.boxes a ≡ Some box → WentOff i a box.to words order
    → box.sent ≡ words

-- of what comes, the words of one box
abbrev pub words_of : ℕ → Arrival → List ℕ
words_of a words = slice_index_or words a []

-- as a slot of the box's receiver begins: what goes off in the same event comes, else what waited; unread words stay where
-- nothing comes, and nothing waits any more
pub record Arrives (i : Image) (h a : ℕ) (box : Mailbox) (s : Harts) : Type 0 where
  pub words : Arrival
  pub comes : arrivals box.to (next i h s).world ≡ arrivals box.to s.world ++ words ∷ []
  pub at_once : (ws : List ℕ) → GoesOff i h a ws s → words_of a words ≡ ws
  pub waited : NoneGoesOff i h a s → words_of a words ≡ box.sent
  pub later : Mailbox
  pub there : slice_get (next i h s).world.storage.boxes a ≡ Some later
  pub whole : words_of a words ≢ [] → later.inbox ≡ words_of a words
  pub unread : words_of a words ≡ [] → later.inbox ≡ box.inbox
  pub once : later.sent ≡ []

abbrev pub ArrivesLaw : Type 0
ArrivesLaw = (i : Image) (h a : ℕ) (order : List ℕ) (box : Mailbox) → Runnable i → AreHartsOf i (order ++ h ∷ [])
    → slice_get (harts i order).world.storage.boxes a ≡ Some box → Enters i h box.to (harts i order)
    → Arrives i h a box (harts i order)

-- in no other event anything comes to a domain
abbrev pub NothingElseLaw : Type 0
NothingElseLaw = (i : Image) (h d : ℕ) (order : List ℕ) → Runnable i → AreHartsOf i (order ++ h ∷ [])
    → (Enters i h d (harts i order) → ⊥)
    → arrivals d (harts i (order ++ h ∷ [])).world ≡ arrivals d (harts i order).world

-- ---- who can make a difference: of images of one hart

-- a chain of so many boxes leads from e to d
unfoldable pub LeadsBy : Image → ℕ → ℕ → ℕ → Type 0
LeadsBy i d zero e = e ≡ d
LeadsBy i d (suc n) e = (a : ℕ) × (f : ℕ) × (slice_get i.all.mail a ≡ Some (e, f)) × LeadsBy i d n f

abbrev pub Leads : Image → ℕ → ℕ → Type 0
Leads i d e = (n : ℕ) × LeadsBy i d n e

-- what is seen of a domain goes by what all may know, by its own part, and by those of the domains from which a chain of boxes leads
-- to it
abbrev pub SendersLaw : Type 0
SendersLaw = (i j : Image) (d n : ℕ) → Runnable i → Runnable j → IsOnOneHart i → IsDomain i d → i.all ≡ j.all
    → ((e : ℕ) → Leads i d e → own_of i e ≡ own_of j e) → view_whole i d n ≡ view_whole j d n

-- so nothing comes back: what is seen of a sender is the same whatever a receiver is from which no chain of boxes leads to it
abbrev pub OneWayLaw : Type 0
OneWayLaw = (i j : Image) (d r n : ℕ) → Runnable i → Runnable j → IsOnOneHart i → IsDomain i d → i.all ≡ j.all
    → ((e : ℕ) → e ≢ r → own_of i e ≡ own_of j e) → (Leads i d r → ⊥) → view_whole i d n ≡ view_whole j d n

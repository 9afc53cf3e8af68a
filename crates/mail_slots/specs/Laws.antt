-- What boxes mean: each call by its cases, each move by what it does, and what of it all a domain sees.
use Rattle.std.specs.Prelude.{◌≡◌, ◌≢◌, ◌<◌, ◌≤◌, ℕ, List, [], ◌∷◌, ◌++◌, length, map, slice_get, slice_set, Option, Some, None, Result, Ok, Err}
use Rattle.std.specs.List.{All}
use Rattle.mail_slots.specs.declared.refusal.MailRefusal.{MailRefusal}
use Rattle.mail_slots.specs.declared.refusal.MailRefusal.TheVariants as refusal
use Rattle.mail_slots.specs.Boxes.{Mailbox, Boxes, most_words, AreFit, opening, send, Received, receive, ends, begins}
use Rattle.mail_slots.specs.Sides.{own_side, others_side, arrival, bring}

-- box a is this one, from domain d or to it
pub record IsFrom (d a : ℕ) (boxes : Boxes) (b : Mailbox) : Type 0 where
  pub there : slice_get boxes a ≡ Some b
  pub sender : b.from ≡ d

pub record IsTo (d a : ℕ) (boxes : Boxes) (b : Mailbox) : Type 0 where
  pub there : slice_get boxes a ≡ Some b
  pub receiver : b.to ≡ d

abbrev pub HasNoBoxFrom : ℕ → ℕ → Boxes → Type 0
HasNoBoxFrom d a boxes = (b : Mailbox) → slice_get boxes a ≡ Some b → b.from ≢ d

abbrev pub HasNoBoxTo : ℕ → ℕ → Boxes → Type 0
HasNoBoxTo d a boxes = (b : Mailbox) → slice_get boxes a ≡ Some b → b.to ≢ d

-- ---- calls, by their cases

pub record SendsBy (d a word : ℕ) (boxes : Boxes) : Type 0 where
  pub no_box : HasNoBoxFrom d a boxes → send d a word boxes ≡ Err refusal.NoBox
  pub full : (b : Mailbox) → IsFrom d a boxes b → most_words ≤ length b.out
      → send d a word boxes ≡ Err refusal.BoxFull
  pub sent : (b : Mailbox) → IsFrom d a boxes b → length b.out < most_words
      → send d a word boxes ≡ Ok (slice_set boxes a (record b { out = b.out ++ word ∷ [] }))

abbrev pub SendCasesLaw : Type 0
SendCasesLaw = (d a word : ℕ) (boxes : Boxes) → SendsBy d a word boxes

pub record ReceivesBy (d a : ℕ) (boxes : Boxes) : Type 0 where
  pub no_box : HasNoBoxTo d a boxes → receive d a boxes ≡ Err refusal.NoBox
  pub no_mail : (b : Mailbox) → IsTo d a boxes b → b.inbox ≡ [] → receive d a boxes ≡ Err refusal.NoMail
  pub received : (b : Mailbox) (word : ℕ) (words : List ℕ) → IsTo d a boxes b → b.inbox ≡ word ∷ words
      → receive d a boxes ≡ Ok (record { word = word; boxes = slice_set boxes a (record b { inbox = words }) })

abbrev pub ReceiveCasesLaw : Type 0
ReceiveCasesLaw = (d a : ℕ) (boxes : Boxes) → ReceivesBy d a boxes

-- what a refusal tells
abbrev pub WhyUnsent : ℕ → ℕ → Boxes → MailRefusal → Type 0
WhyUnsent d a boxes refusal.NoBox = HasNoBoxFrom d a boxes
WhyUnsent d a boxes refusal.BoxFull = (b : Mailbox) × IsFrom d a boxes b × (most_words ≤ length b.out)
WhyUnsent d a boxes refusal.NoMail = ⊥

abbrev pub WhyNotReceived : ℕ → ℕ → Boxes → MailRefusal → Type 0
WhyNotReceived d a boxes refusal.NoBox = HasNoBoxTo d a boxes
WhyNotReceived d a boxes refusal.BoxFull = ⊥
WhyNotReceived d a boxes refusal.NoMail = (b : Mailbox) × IsTo d a boxes b × (b.inbox ≡ [])

-- ---- a SEND goes by what was put in alone

abbrev pub refused : {A : Type 0} → Result A MailRefusal → Option MailRefusal
refused (Ok done) = None
refused (Err r) = Some r

-- whatever waits in the box, and whatever its receiver has read
abbrev pub UnreadLaw : Type 0
UnreadLaw = (d a word : ℕ) (boxes : Boxes) (b : Mailbox) (sent inbox : List ℕ) → slice_get boxes a ≡ Some b
    → refused (send d a word (slice_set boxes a (record b { sent = sent; inbox = inbox })))
    ≡ refused (send d a word boxes)

-- ---- a domain's calls are the same on its own side alone

abbrev pub sent_on_side : ℕ → Result Boxes MailRefusal → Result Boxes MailRefusal
sent_on_side d (Ok boxes) = Ok (own_side d boxes)
sent_on_side d (Err r) = Err r

abbrev pub SendLaw : Type 0
SendLaw = (d a word : ℕ) (boxes : Boxes)
    → sent_on_side d (send d a word boxes) ≡ send d a word (own_side d boxes)

abbrev pub received_on_side : ℕ → Result Received MailRefusal → Result Received MailRefusal
received_on_side d (Ok r) = Ok (record { word = r.word; boxes = own_side d r.boxes })
received_on_side d (Err r) = Err r

abbrev pub ReceiveLaw : Type 0
ReceiveLaw = (d a : ℕ) (boxes : Boxes)
    → received_on_side d (receive d a boxes) ≡ receive d a (own_side d boxes)

-- and leave all else
abbrev pub SendKeepsLaw : Type 0
SendKeepsLaw = (d a word : ℕ) (boxes later : Boxes) → send d a word boxes ≡ Ok later
    → others_side d later ≡ others_side d boxes

abbrev pub ReceiveKeepsLaw : Type 0
ReceiveKeepsLaw = (d a : ℕ) (boxes : Boxes) (r : Received) → receive d a boxes ≡ Ok r
    → others_side d r.boxes ≡ others_side d boxes

-- ---- a move is whole

-- a slot of its sender has ended
pub record IsSentOff (b later : Mailbox) : Type 0 where
  pub whole : b.out ≢ [] → later.sent ≡ b.out
  pub none : b.out ≡ [] → later.sent ≡ b.sent
  pub emptied : later.out ≡ []
  pub unread : later.inbox ≡ b.inbox

-- a slot of its receiver has begun
pub record IsDelivered (b later : Mailbox) : Type 0 where
  pub whole : b.sent ≢ [] → later.inbox ≡ b.sent
  pub none : b.sent ≡ [] → later.inbox ≡ b.inbox
  pub emptied : later.sent ≡ []
  pub out : later.out ≡ b.out

pub record EndsBox (d : ℕ) (b later : Mailbox) : Type 0 where
  pub own : b.from ≡ d → IsSentOff b later
  pub others : b.from ≢ d → later ≡ b

pub record BeginsBox (d : ℕ) (b later : Mailbox) : Type 0 where
  pub own : b.to ≡ d → IsDelivered b later
  pub others : b.to ≢ d → later ≡ b

abbrev pub EndMovesLaw : Type 0
EndMovesLaw = (d a : ℕ) (boxes : Boxes) (b later : Mailbox) → slice_get boxes a ≡ Some b
    → slice_get (ends d boxes) a ≡ Some later → EndsBox d b later

abbrev pub BeginMovesLaw : Type 0
BeginMovesLaw = (d a : ℕ) (boxes : Boxes) (b later : Mailbox) → slice_get boxes a ≡ Some b
    → slice_get (begins d boxes) a ≡ Some later → BeginsBox d b later

-- and is made once
abbrev pub EndOnceLaw : Type 0
EndOnceLaw = (d : ℕ) (boxes : Boxes) → ends d (ends d boxes) ≡ ends d boxes

abbrev pub BeginOnceLaw : Type 0
BeginOnceLaw = (d : ℕ) (boxes : Boxes) → begins d (begins d boxes) ≡ begins d boxes

-- where nothing arrives, all stays, words unread too
abbrev pub QuietLaw : Type 0
QuietLaw = (d : ℕ) (boxes : Boxes) → All (λ words. words ≡ []) (arrival d boxes) → begins d boxes ≡ boxes

-- what was put in is there at once for a receiver that follows its sender
abbrev pub FollowLaw : Type 0
FollowLaw = (d e a : ℕ) (boxes : Boxes) (b : Mailbox) → IsFrom d a boxes b → b.to ≡ e → b.out ≢ []
    → slice_get (arrival e (ends d boxes)) a ≡ Some b.out

-- ---- what a domain sees of switches

-- as its slot ends it has put in nothing, whatever waits
abbrev pub EndsLaw : Type 0
EndsLaw = (d : ℕ) (boxes others : Boxes) → own_side d boxes ≡ own_side d others
    → own_side d (ends d boxes) ≡ own_side d (ends d others)

-- as its slot begins it sees what arrives, and nothing else of the others
abbrev pub BeginsLaw : Type 0
BeginsLaw =
    (d : ℕ) (boxes : Boxes) → own_side d (begins d boxes) ≡ bring (arrival d boxes) (own_side d boxes)

abbrev pub BringLaw : Type 0
BringLaw = (d : ℕ) (boxes others : Boxes) → own_side d boxes ≡ own_side d others
    → own_side d (begins d boxes) ≡ own_side d (bring (arrival d boxes) others)

-- of another's it sees nothing
abbrev pub OthersEndLaw : Type 0
OthersEndLaw = (d e : ℕ) (boxes : Boxes) → d ≢ e → own_side d (ends e boxes) ≡ own_side d boxes

abbrev pub OthersBeginLaw : Type 0
OthersBeginLaw = (d e : ℕ) (boxes : Boxes) → d ≢ e → own_side d (begins e boxes) ≡ own_side d boxes

-- nor of anything that leaves what isn't the other's own side
abbrev pub OthersLaw : Type 0
OthersLaw = (d e : ℕ) (boxes later : Boxes) → d ≢ e → others_side e later ≡ others_side e boxes
    → own_side d later ≡ own_side d boxes

-- ---- what never changes

-- the sender and the receiver of each
abbrev pub pair_of : Mailbox → ℕ × ℕ
pair_of b = (b.from, b.to)

unfoldable pub pairs_of : Boxes → List (ℕ × ℕ)
pairs_of boxes = map pair_of boxes

pub record KeepsPairs (d : ℕ) (boxes : Boxes) : Type 0 where
  pub sent : (a word : ℕ) (later : Boxes) → send d a word boxes ≡ Ok later → pairs_of later ≡ pairs_of boxes
  pub received : (a : ℕ) (r : Received) → receive d a boxes ≡ Ok r → pairs_of r.boxes ≡ pairs_of boxes
  pub ended : pairs_of (ends d boxes) ≡ pairs_of boxes
  pub begun : pairs_of (begins d boxes) ≡ pairs_of boxes

abbrev pub OpeningPairsLaw : Type 0
OpeningPairsLaw = (declared : List (ℕ × ℕ)) → pairs_of (opening declared) ≡ declared

abbrev pub PairsLaw : Type 0
PairsLaw = (d : ℕ) (boxes : Boxes) → KeepsPairs d boxes

-- that no list has more than sixteen words
pub record KeepsFit (d : ℕ) (boxes : Boxes) : Type 0 where
  pub sent : (a word : ℕ) (later : Boxes) → send d a word boxes ≡ Ok later → AreFit later
  pub received : (a : ℕ) (r : Received) → receive d a boxes ≡ Ok r → AreFit r.boxes
  pub ended : AreFit (ends d boxes)
  pub begun : AreFit (begins d boxes)

abbrev pub OpeningFitLaw : Type 0
OpeningFitLaw = (declared : List (ℕ × ℕ)) → AreFit (opening declared)

abbrev pub FitLaw : Type 0
FitLaw = (d : ℕ) (boxes : Boxes) → AreFit boxes → KeepsFit d boxes

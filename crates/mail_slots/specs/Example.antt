-- A box from domain 0 to domain 1: a word's way, who is refused, and what becomes of words unread.
use Rattle.std.specs.Prelude.{◌≡◌, ℕ, List, [], ◌∷◌, replicate, Result, Ok, Err, refl}
use Rattle.mail_slots.specs.declared.refusal.MailRefusal.{MailRefusal}
use Rattle.mail_slots.specs.declared.refusal.MailRefusal.TheVariants as refusal
use Rattle.mail_slots.specs.Boxes.{Boxes, opening, send, Received, receive, ends, begins}
use Rattle.mail_slots.specs.Sides.{own_side, arrival}

-- the box with these words
abbrev pub holding : List ℕ → List ℕ → List ℕ → Boxes
holding out sent inbox = record { from = 0; to = 1; out = out; sent = sent; inbox = inbox } ∷ []

abbrev pub got : ℕ → Boxes → Result Received MailRefusal
got word boxes = Ok (record { word = word; boxes = boxes })

pub at_first : opening ((0, 1) ∷ []) ≡ holding [] [] []
unfolding opening
at_first = refl

-- ---- domain 0 has the first slot, domain 1 the second

pub puts_in : send 0 0 77 (holding [] [] []) ≡ Ok (holding (77 ∷ []) [] [])
unfolding send
puts_in = refl

pub waits : ends 0 (holding (77 ∷ []) [] []) ≡ holding [] (77 ∷ []) []
unfolding ends
waits = refl

pub arrives : arrival 1 (holding [] (77 ∷ []) []) ≡ (77 ∷ []) ∷ []
unfolding arrival
arrives = refl

pub comes_in : begins 1 (holding [] (77 ∷ []) []) ≡ holding [] [] (77 ∷ [])
unfolding begins
comes_in = refl

pub takes : receive 1 0 (holding [] [] (77 ∷ [])) ≡ got 77 (holding [] [] [])
unfolding receive
takes = refl

-- a switch is both: what its sender put in is there at once for a receiver that follows it
pub in_one_switch : begins 1 (ends 0 (holding (77 ∷ []) [] [])) ≡ holding [] [] (77 ∷ [])
unfolding ends begins
in_one_switch = refl

-- ---- domain 1 has the first slot, domain 0 the second

pub too_early : receive 1 0 (begins 1 (holding [] [] [])) ≡ Err refusal.NoMail
unfolding begins receive
too_early = refl

pub then_puts_in : send 0 0 77 (begins 0 (ends 1 (holding [] [] []))) ≡ Ok (holding (77 ∷ []) [] [])
unfolding begins ends send
then_puts_in = refl

-- while the sender's slot goes on there is nothing to take
pub not_yet : receive 1 0 (begins 1 (holding (77 ∷ []) [] [])) ≡ Err refusal.NoMail
unfolding begins receive
not_yet = refl

-- ---- who is refused

-- a box is one way, and there is one
pub receiver_sends : send 1 0 77 (holding [] [] []) ≡ Err refusal.NoBox
unfolding send
receiver_sends = refl

pub sender_receives : receive 0 0 (holding [] [] (77 ∷ [])) ≡ Err refusal.NoBox
unfolding receive
sender_receives = refl

pub no_second : send 0 1 77 (holding [] [] []) ≡ Err refusal.NoBox
unfolding send
no_second = refl

pub none_to_receive_in : receive 1 1 (holding [] [] (77 ∷ [])) ≡ Err refusal.NoBox
unfolding receive
none_to_receive_in = refl

-- sixteen words are room for no other, to none but the sender
pub sixteenth : send 0 0 77 (holding (replicate 15 77) [] []) ≡ Ok (holding (replicate 16 77) [] [])
unfolding send
sixteenth = refl

pub seventeenth : send 0 0 77 (holding (replicate 16 77) [] []) ≡ Err refusal.BoxFull
unfolding send
seventeenth = refl

pub full_for_another : send 1 0 77 (holding (replicate 16 77) [] []) ≡ Err refusal.NoBox
unfolding send
full_for_another = refl

-- words that nobody has taken take no room
pub full_elsewhere : send 0 0 77 (holding [] (replicate 16 5) (replicate 16 6))
    ≡ Ok (holding (77 ∷ []) (replicate 16 5) (replicate 16 6))
unfolding send
full_elsewhere = refl

-- ---- words unread

-- they stay where nothing comes in
pub stays : begins 1 (holding [] [] (5 ∷ 6 ∷ [])) ≡ holding [] [] (5 ∷ 6 ∷ [])
unfolding begins
stays = refl

-- and are replaced where something does, the whole list by the whole list
pub replaced : begins 1 (holding [] (7 ∷ []) (5 ∷ 6 ∷ [])) ≡ holding [] [] (7 ∷ [])
unfolding begins
replaced = refl

-- so are words that wait
pub waiting_stays : ends 0 (holding [] (5 ∷ 6 ∷ []) []) ≡ holding [] (5 ∷ 6 ∷ []) []
unfolding ends
waiting_stays = refl

pub waiting_replaced : ends 0 (holding (7 ∷ []) (5 ∷ 6 ∷ []) []) ≡ holding [] (7 ∷ []) []
unfolding ends
waiting_replaced = refl

-- slots of others move nothing in it
pub anothers_end : ends 1 (holding (5 ∷ []) (6 ∷ []) (7 ∷ [])) ≡ holding (5 ∷ []) (6 ∷ []) (7 ∷ [])
unfolding ends
anothers_end = refl

pub anothers_beginning : begins 0 (holding (5 ∷ []) (6 ∷ []) (7 ∷ [])) ≡ holding (5 ∷ []) (6 ∷ []) (7 ∷ [])
unfolding begins
anothers_beginning = refl

-- ---- what each has of it

pub of_sender : own_side 0 (holding (5 ∷ []) (6 ∷ []) (7 ∷ [])) ≡ holding (5 ∷ []) [] []
unfolding own_side
of_sender = refl

pub of_receiver : own_side 1 (holding (5 ∷ []) (6 ∷ []) (7 ∷ [])) ≡ holding [] [] (7 ∷ [])
unfolding own_side
of_receiver = refl

-- Calls by their cases, and what they leave as it was.
use Rattle.std.proofs.Common.{◌≡◌, ◌≢◌, ◌<◌, ℕ, zero, suc, Bool, true, false, eq-eqb, eqb-true, ne_eqb, lt-ltb, le-ltb, ltb-true, ltb-false, true≢false, List, [], ◌∷◌, length, map, set, ap, sym, ◌∙◌, refl, subst, arith}
use Rattle.std.specs.Prelude.{nat_eq, nat_lt, slice_get, slice_set, option_map, Option, Some, None, Result, Ok, Err, IfErr, if◌then◌else◌}
use Rattle.std.proofs.lemmas.Option.{slice_get-map, slice_get_within, get_or_from_slice_get}
use Rattle.std.proofs.lemmas.List.{map-set, length-append}
use Rattle.std.proofs.lemmas.List.Elements.{All-set}
use Rattle.mail_slots.specs.declared.refusal.MailRefusal.{MailRefusal}
use Rattle.mail_slots.specs.declared.refusal.MailRefusal.TheVariants as refusal
use Rattle.mail_slots.specs.Boxes.{Mailbox, Boxes, IsFit, AreFit, at_box, with_word, put_in, boxes_with, send, Taken, take_first, take_out, received_from, Received, receive}
use Rattle.mail_slots.specs.Sides.{others_part, others_side}
use Rattle.mail_slots.specs.Laws.{IsTo, SendCasesLaw, ReceiveCasesLaw, WhyUnsent, WhyNotReceived, refused, UnreadLaw, SendKeepsLaw, ReceiveKeepsLaw, pair_of, pairs_of}
use Rattle.mail_slots.proofs.Slots.{send_none, send_ok, send_err, receive_none, receive_ok, receive_err, set_same}

-- ---- by their cases

no_box_sent : (d a word : ℕ) (boxes : Boxes) (o : Option Mailbox) → slice_get boxes a ≡ o
    → ((b : Mailbox) → slice_get boxes a ≡ Some b → b.from ≢ d) → send d a word boxes ≡ Err refusal.NoBox
no_box_sent d a word boxes None at other = send_none d a word boxes at
no_box_sent d a word boxes (Some b) at other =
    send_err d a word boxes b refusal.NoBox at (rw (ne_eqb b.from d (other b at)) refl)

pub send_cases_law : SendCasesLaw
send_cases_law d a word boxes = record {
  no_box = no_box_sent d a word boxes (slice_get boxes a) refl;
  full = λ b is full. send_err d a word boxes b refusal.BoxFull is.there
      (rw (eq-eqb b.from d is.sender, le-ltb (length b.out) 16 full) refl);
  sent = λ b is room. send_ok d a word boxes b (with_word word b) is.there
      (rw (eq-eqb b.from d is.sender, lt-ltb (length b.out) 16 room) refl);
}

no_box_received : (d a : ℕ) (boxes : Boxes) (o : Option Mailbox) → slice_get boxes a ≡ o
    → ((b : Mailbox) → slice_get boxes a ≡ Some b → b.to ≢ d) → receive d a boxes ≡ Err refusal.NoBox
no_box_received d a boxes None at other = receive_none d a boxes at
no_box_received d a boxes (Some b) at other =
    receive_err d a boxes b refusal.NoBox at (rw (ne_eqb b.to d (other b at)) refl)

pub receive_cases_law : ReceiveCasesLaw
receive_cases_law d a boxes = record {
  no_box = no_box_received d a boxes (slice_get boxes a) refl;
  no_mail = λ b is empty. receive_err d a boxes b refusal.NoMail is.there
      (rw (eq-eqb b.to d is.receiver) (ap (take_first b) empty));
  received = λ b word words is inbox. receive_ok d a boxes b (record { word = word; box = record b { inbox = words } }) is.there
      (rw (eq-eqb b.to d is.receiver) (ap (take_first b) inbox));
}

-- ---- what a refusal tells

same_err : {A : Type 0} (q r : MailRefusal) → ◌≡◌ {A = Result A MailRefusal} (Err q) (Err r) → q ≡ r
same_err q r e = cc e

same_box : (b x : Mailbox) → ◌≡◌ {A = Option Mailbox} (Some b) (Some x) → b ≡ x
same_box b x e = cc e

full_by : (d a word : ℕ) (boxes : Boxes) (b : Mailbox) (r : MailRefusal) (f u : Bool)
    → slice_get boxes a ≡ Some b
    → nat_eq b.from d ≡ f → nat_lt (length b.out) 16 ≡ u
    → ◌≡◌ {A = Result Mailbox MailRefusal}
    (if f then (if u then Ok (with_word word b) else Err refusal.BoxFull) else Err refusal.NoBox) (Err r)
    → WhyUnsent d a boxes r
full_by d a word boxes b r true true at e room is = absurd (cc is)
full_by d a word boxes b r true false at e room is =
    subst (WhyUnsent d a boxes) (same_err refusal.BoxFull r is)
    (b, record { there = at; sender = eqb-true b.from d e }, ltb-false (length b.out) 16 room)
full_by d a word boxes b r false u at e room is =
    subst (WhyUnsent d a boxes) (same_err refusal.NoBox r is)
    (λ x there same.
    let own : b.from ≡ d = ap (λ (y : Mailbox). y.from) (same_box b x (sym at ∙ there)) ∙ same in
    true≢false (sym (eq-eqb b.from d own) ∙ e))

unsent_with : (d a word : ℕ) (boxes : Boxes) (b : Mailbox) (r : MailRefusal)
    (put : Result Mailbox MailRefusal)
    → slice_get boxes a ≡ Some b → put_in d word b ≡ put → boxes_with a boxes put ≡ Err r
    → WhyUnsent d a boxes r
unsent_with d a word boxes b r (Ok x) at put is = absurd (cc is)
unsent_with d a word boxes b r (Err q) at put is =
    full_by d a word boxes b r (nat_eq b.from d) (nat_lt (length b.out) 16) at refl refl
    (put ∙ ap (λ (x : MailRefusal). Err x) (cc is))

unsent_at : (d a word : ℕ) (boxes : Boxes) (r : MailRefusal) (o : Option Mailbox) → slice_get boxes a ≡ o
    → boxes_with a boxes (at_box (put_in d word) o) ≡ Err r → WhyUnsent d a boxes r
unsent_at d a word boxes r None at is =
    subst (WhyUnsent d a boxes) (same_err refusal.NoBox r is) (λ b there. absurd (cc (sym at ∙ there)))
unsent_at d a word boxes r (Some b) at is = unsent_with d a word boxes b r (put_in d word b) at refl is

pub why_unsent : (d a word : ℕ) (boxes : Boxes) (r : MailRefusal) → send d a word boxes ≡ Err r
    → WhyUnsent d a boxes r
unfolding send
why_unsent d a word boxes r is = unsent_at d a word boxes r (slice_get boxes a) refl is

pub cause_unsent : (d a word : ℕ) (boxes : Boxes) (r : Result (Unit {0}) MailRefusal)
    → IfErr r (λ refusal. send d a word boxes ≡ Err refusal)
    → IfErr r (λ refusal. WhyUnsent d a boxes refusal)
cause_unsent d a word boxes (Ok done) is = tt
cause_unsent d a word boxes (Err r) is = why_unsent d a word boxes r is

empty_by : (d a : ℕ) (boxes : Boxes) (b : Mailbox) (r : MailRefusal) (inbox : List ℕ) → IsTo d a boxes b
    → b.inbox ≡ inbox
    → take_first b inbox ≡ Err r → WhyNotReceived d a boxes r
empty_by d a boxes b r [] to e is =
    subst (WhyNotReceived d a boxes) (same_err refusal.NoMail r is) (b, to, e)
empty_by d a boxes b r (word ∷ words) to e is = absurd (cc is)

untaken_by : (d a : ℕ) (boxes : Boxes) (b : Mailbox) (r : MailRefusal) (f : Bool)
    → slice_get boxes a ≡ Some b
    → nat_eq b.to d ≡ f → (if f then take_first b b.inbox else Err refusal.NoBox) ≡ Err r
    → WhyNotReceived d a boxes r
untaken_by d a boxes b r true at e is =
    empty_by d a boxes b r b.inbox (record { there = at; receiver = eqb-true b.to d e }) refl is
untaken_by d a boxes b r false at e is =
    subst (WhyNotReceived d a boxes) (same_err refusal.NoBox r is)
    (λ x there same.
    let own : b.to ≡ d = ap (λ (y : Mailbox). y.to) (same_box b x (sym at ∙ there)) ∙ same in
    true≢false (sym (eq-eqb b.to d own) ∙ e))

unreceived_with : (d a : ℕ) (boxes : Boxes) (b : Mailbox) (r : MailRefusal) (took : Result Taken MailRefusal)
    → slice_get boxes a ≡ Some b → take_out d b ≡ took → received_from a boxes took ≡ Err r
    → WhyNotReceived d a boxes r
unreceived_with d a boxes b r (Ok t) at took is = absurd (cc is)
unreceived_with d a boxes b r (Err q) at took is =
    untaken_by d a boxes b r (nat_eq b.to d) at refl (took ∙ ap (λ (x : MailRefusal). Err x) (cc is))

unreceived_at : (d a : ℕ) (boxes : Boxes) (r : MailRefusal) (o : Option Mailbox) → slice_get boxes a ≡ o
    → received_from a boxes (at_box (take_out d) o) ≡ Err r → WhyNotReceived d a boxes r
unreceived_at d a boxes r None at is =
    subst (WhyNotReceived d a boxes) (same_err refusal.NoBox r is) (λ b there. absurd (cc (sym at ∙ there)))
unreceived_at d a boxes r (Some b) at is = unreceived_with d a boxes b r (take_out d b) at refl is

pub why_not_received : (d a : ℕ) (boxes : Boxes) (r : MailRefusal) → receive d a boxes ≡ Err r
    → WhyNotReceived d a boxes r
unfolding receive
why_not_received d a boxes r is = unreceived_at d a boxes r (slice_get boxes a) refl is

pub cause_unreceived : (d a : ℕ) (boxes : Boxes) (r : Result ℕ MailRefusal)
    → IfErr r (λ refusal. receive d a boxes ≡ Err refusal)
    → IfErr r (λ refusal. WhyNotReceived d a boxes refusal)
cause_unreceived d a boxes (Ok word) is = tt
cause_unreceived d a boxes (Err r) is = why_not_received d a boxes r is

-- ---- a SEND goes by what was put in alone

get_set : (xs : Boxes) (a : ℕ) (b x : Mailbox) → slice_get xs a ≡ Some b → slice_get (set xs a x) a ≡ Some x
get_set [] a b x e = absurd (cc e)
get_set (y ∷ xs) zero b x e = refl
get_set (y ∷ xs) (suc a) b x e = get_set xs a b x e

refused_with : (a : ℕ) (boxes : Boxes) (r : Result Mailbox MailRefusal)
    → refused (boxes_with a boxes r) ≡ refused r
refused_with a boxes (Ok b) = refl
refused_with a boxes (Err r) = refl

refused_at : (d a word : ℕ) (boxes : Boxes) (b : Mailbox) → slice_get boxes a ≡ Some b
    → refused (send d a word boxes) ≡ refused (put_in d word b)
unfolding send
refused_at d a word boxes b at =
    refused_with a boxes (at_box (put_in d word) (slice_get boxes a))
    ∙ ap (λ (o : Option Mailbox). refused (at_box (put_in d word) o)) at

unread_by : (b : Mailbox) (word : ℕ) (sent inbox : List ℕ) (f u : Bool) →
    let x : Mailbox = record b { sent = sent; inbox = inbox } in
    refused {A = Mailbox} (if f then (if u then Ok (with_word word x) else Err refusal.BoxFull) else Err refusal.NoBox)
    ≡ refused {A = Mailbox} (if f then (if u then Ok (with_word word b) else Err refusal.BoxFull) else Err refusal.NoBox)
unread_by b word sent inbox false u = refl
unread_by b word sent inbox true true = refl
unread_by b word sent inbox true false = refl

pub unread_law : UnreadLaw
unread_law d a word boxes b sent inbox at =
    let x : Mailbox = record b { sent = sent; inbox = inbox } in
    refused_at d a word (set boxes a x) x (get_set boxes a b x at)
    ∙ unread_by b word sent inbox (nat_eq b.from d) (nat_lt (length b.out) 16)
    ∙ sym (refused_at d a word boxes b at)

-- ---- what has been sent, or received

pub record WasPut (d word : ℕ) (b later : Mailbox) : Type 0 where
  pub own : nat_eq b.from d ≡ true
  pub room : length b.out < 16
  pub is : with_word word b ≡ later

pub record WasSent (d a word : ℕ) (boxes later : Boxes) : Type 0 where
  pub old : Mailbox
  pub new : Mailbox
  pub there : slice_get boxes a ≡ Some old
  pub put : WasPut d word old new
  pub is : slice_set boxes a new ≡ later

put_by : (d word : ℕ) (b later : Mailbox) (f u : Bool) → nat_eq b.from d ≡ f → nat_lt (length b.out) 16 ≡ u
    → ◌≡◌ {A = Result Mailbox MailRefusal}
    (if f then (if u then Ok (with_word word b) else Err refusal.BoxFull) else Err refusal.NoBox) (Ok later)
    → WasPut d word b later
put_by d word b later true true e room is =
    record { own = e; room = ltb-true (length b.out) 16 room; is = cc is }
put_by d word b later true false e room is = absurd (cc is)
put_by d word b later false u e room is = absurd (cc is)

sent_with : (d a word : ℕ) (boxes later : Boxes) (b : Mailbox) (r : Result Mailbox MailRefusal)
    → slice_get boxes a ≡ Some b
    → put_in d word b ≡ r → boxes_with a boxes r ≡ Ok later → WasSent d a word boxes later
sent_with d a word boxes later b (Ok x) at put is =
    record {
      old = b;
      new = x;
      there = at;
      put = put_by d word b x (nat_eq b.from d) (nat_lt (length b.out) 16) refl refl put;
      is = cc is;
    }
sent_with d a word boxes later b (Err r) at put is = absurd (cc is)

sent_at : (d a word : ℕ) (boxes later : Boxes) (o : Option Mailbox) → slice_get boxes a ≡ o
    → boxes_with a boxes (at_box (put_in d word) o) ≡ Ok later → WasSent d a word boxes later
sent_at d a word boxes later None at is = absurd (cc is)
sent_at d a word boxes later (Some b) at is = sent_with d a word boxes later b (put_in d word b) at refl is

pub was_sent : (d a word : ℕ) (boxes later : Boxes) → send d a word boxes ≡ Ok later
    → WasSent d a word boxes later
unfolding send
was_sent d a word boxes later is = sent_at d a word boxes later (slice_get boxes a) refl is

pub record WasTaken (d : ℕ) (b : Mailbox) (t : Taken) : Type 0 where
  pub own : nat_eq b.to d ≡ true
  pub inbox : b.inbox ≡ t.word ∷ t.box.inbox
  pub is : record b { inbox = t.box.inbox } ≡ t.box

pub record WasReceived (d a : ℕ) (boxes : Boxes) (r : Received) : Type 0 where
  pub old : Mailbox
  pub taken : Taken
  pub there : slice_get boxes a ≡ Some old
  pub took : WasTaken d old taken
  pub is : slice_set boxes a taken.box ≡ r.boxes

taken_first : (d : ℕ) (b : Mailbox) (t : Taken) (inbox : List ℕ) → nat_eq b.to d ≡ true → b.inbox ≡ inbox
    → take_first b inbox ≡ Ok t → WasTaken d b t
taken_first d b t [] e has is = absurd (cc is)
taken_first d b t (word ∷ words) e has is =
    let same : record { word = word; box = record b { inbox = words } } ≡ t = cc is in
    record {
      own = e;
      inbox = has ∙ ap (λ (x : Taken). x.word ∷ x.box.inbox) same;
      is = ap (λ (x : Taken). record b { inbox = x.box.inbox }) (sym same) ∙ ap (λ (x : Taken). x.box) same;
    }

taken_by : (d : ℕ) (b : Mailbox) (t : Taken) (f : Bool) → nat_eq b.to d ≡ f
    → (if f then take_first b b.inbox else Err refusal.NoBox) ≡ Ok t → WasTaken d b t
taken_by d b t true e is = taken_first d b t b.inbox e refl is
taken_by d b t false e is = absurd (cc is)

received_with : (d a : ℕ) (boxes : Boxes) (r : Received) (b : Mailbox) (taken : Result Taken MailRefusal)
    → slice_get boxes a ≡ Some b → take_out d b ≡ taken → received_from a boxes taken ≡ Ok r
    → WasReceived d a boxes r
received_with d a boxes r b (Ok t) at took is =
    let same : record { word = t.word; boxes = slice_set boxes a t.box } ≡ r = cc is in
    record {
      old = b;
      taken = t;
      there = at;
      took = taken_by d b t (nat_eq b.to d) refl took;
      is = ap (λ (x : Received). x.boxes) same;
    }
received_with d a boxes r b (Err e) at took is = absurd (cc is)

received_at : (d a : ℕ) (boxes : Boxes) (r : Received) (o : Option Mailbox) → slice_get boxes a ≡ o
    → received_from a boxes (at_box (take_out d) o) ≡ Ok r → WasReceived d a boxes r
received_at d a boxes r None at is = absurd (cc is)
received_at d a boxes r (Some b) at is = received_with d a boxes r b (take_out d b) at refl is

pub was_received : (d a : ℕ) (boxes : Boxes) (r : Received) → receive d a boxes ≡ Ok r
    → WasReceived d a boxes r
unfolding receive
was_received d a boxes r is = received_at d a boxes r (slice_get boxes a) refl is

-- ---- what calls leave

-- a reading that one changed box leaves
pub reads_same : {A : Type 0} (read : Mailbox → A) (boxes : Boxes) (a : ℕ) (b x : Mailbox)
    → slice_get boxes a ≡ Some b
    → read x ≡ read b → map read (set boxes a x) ≡ map read boxes
reads_same {A} read boxes a b x at same =
    map-set read boxes a x ∙ ap (λ (y : A). set (map read boxes) a y) same
    ∙ set_same (map read boxes) a (read b) (slice_get-map read boxes a ∙ ap (option_map read) at)

others_put : (d word : ℕ) (b x : Mailbox) → WasPut d word b x → others_part d x ≡ others_part d b
others_put d word b x put = ap (others_part d) (sym put.is) ∙ rw put.own refl

pub send_keeps_law : SendKeepsLaw
unfolding others_side
send_keeps_law d a word boxes later is =
    let w = was_sent d a word boxes later is in
    ap (map (others_part d)) (sym w.is)
    ∙ reads_same (others_part d) boxes a w.old w.new w.there (others_put d word w.old w.new w.put)

others_taken : (d : ℕ) (b : Mailbox) (t : Taken) → WasTaken d b t → others_part d t.box ≡ others_part d b
others_taken d b t took = ap (others_part d) (sym took.is) ∙ rw took.own refl

pub receive_keeps_law : ReceiveKeepsLaw
unfolding others_side
receive_keeps_law d a boxes r is =
    let w = was_received d a boxes r is in
    ap (map (others_part d)) (sym w.is)
    ∙ reads_same (others_part d) boxes a w.old w.taken.box w.there (others_taken d w.old w.taken w.took)

pub sent_pairs : (d a word : ℕ) (boxes later : Boxes) → send d a word boxes ≡ Ok later
    → pairs_of later ≡ pairs_of boxes
unfolding pairs_of
sent_pairs d a word boxes later is =
    let w = was_sent d a word boxes later is in
    ap (map pair_of) (sym w.is) ∙ reads_same pair_of boxes a w.old w.new w.there (ap pair_of (sym w.put.is))

pub received_pairs : (d a : ℕ) (boxes : Boxes) (r : Received) → receive d a boxes ≡ Ok r
    → pairs_of r.boxes ≡ pairs_of boxes
unfolding pairs_of
received_pairs d a boxes r is =
    let w = was_received d a boxes r is in
    ap (map pair_of) (sym w.is)
    ∙ reads_same pair_of boxes a w.old w.taken.box w.there (ap pair_of (sym w.took.is))

-- ---- that lists are short

fit_at : (boxes : Boxes) (a : ℕ) (b : Mailbox) → AreFit boxes → slice_get boxes a ≡ Some b → IsFit b
fit_at boxes a b fit at =
    subst IsFit (get_or_from_slice_get boxes a b b at) (fit a b (slice_get_within boxes a b at))

put_fits : (d word : ℕ) (b x : Mailbox) → WasPut d word b x → IsFit b → IsFit x
put_fits d word b x put fit = subst IsFit put.is (record {
  out = omega (arith, put.room, length-append b.out (word ∷ []));
  sent = fit.sent;
  inbox = fit.inbox;
})

pub sent_fits : (d a word : ℕ) (boxes later : Boxes) → AreFit boxes → send d a word boxes ≡ Ok later
    → AreFit later
sent_fits d a word boxes later fit is =
    let w = was_sent d a word boxes later is in
    let new_fits = put_fits d word w.old w.new w.put (fit_at boxes a w.old fit w.there) in
    subst AreFit w.is (All-set IsFit boxes a w.new new_fits fit)

taken_fits : (d : ℕ) (b : Mailbox) (t : Taken) → WasTaken d b t → IsFit b → IsFit t.box
taken_fits d b t took fit = subst IsFit took.is (record {
  out = fit.out;
  sent = fit.sent;
  inbox = omega (arith, fit.inbox, ap (λ (xs : List ℕ). length xs) took.inbox);
})

pub received_fits : (d a : ℕ) (boxes : Boxes) (r : Received) → AreFit boxes → receive d a boxes ≡ Ok r
    → AreFit r.boxes
received_fits d a boxes r fit is =
    let w = was_received d a boxes r is in
    let new_fits = taken_fits d w.old w.taken w.took (fit_at boxes a w.old fit w.there) in
    subst AreFit w.is (All-set IsFit boxes a w.taken.box new_fits fit)

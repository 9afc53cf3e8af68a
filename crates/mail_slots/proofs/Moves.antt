-- What a move does to each box, and that it is made once.
use Rattle.std.proofs.Common.{◌≡◌, ◌≢◌, ℕ, suc, get_or, Bool, true, false, eq-eqb, ne_eqb, List, [], ◌∷◌, map, ap, ap₂, sym, ◌∙◌, refl, subst, arith}
use Rattle.std.specs.Prelude.{nat_eq, slice_get, option_map, Some, if◌then◌else◌}
use Rattle.std.proofs.lemmas.Option.{slice_get-map}
use Rattle.std.proofs.lemmas.List.Elements.{All-map}
use Rattle.mail_slots.specs.Boxes.{Mailbox, Boxes, empty_box, IsFit, AreFit, opening, sent_off, box_ends, ends, come_in, box_begins, begins}
use Rattle.mail_slots.specs.Sides.{arriving, arrival}
use Rattle.mail_slots.specs.Laws.{IsSentOff, IsDelivered, EndsBox, BeginsBox, EndMovesLaw, BeginMovesLaw, EndOnceLaw, BeginOnceLaw, QuietLaw, FollowLaw, pair_of, pairs_of, OpeningPairsLaw, PairsLaw, OpeningFitLaw, FitLaw}
use Rattle.mail_slots.proofs.Sides.{mailbox, read_after}
use Rattle.mail_slots.proofs.Calls.{sent_pairs, received_pairs, sent_fits, received_fits}

-- ---- a box after a move

moved_at : (change : Mailbox → Mailbox) (boxes : Boxes) (a : ℕ) (b later : Mailbox)
    → slice_get boxes a ≡ Some b
    → slice_get (map change boxes) a ≡ Some later → change b ≡ later
moved_at change boxes a b later at is =
    cc (sym (slice_get-map change boxes a ∙ ap (option_map change) at) ∙ is)

is_sent_off : (b : Mailbox) (out : List ℕ) → b.out ≡ out → IsSentOff b (sent_off b out)
is_sent_off b [] e = record { whole = λ some. absurd (some e); none = λ h. refl; emptied = e; unread = refl }
is_sent_off b (word ∷ words) e = record {
  whole = λ some. sym e;
  none = λ h. absurd (cc (sym h ∙ e));
  emptied = refl;
  unread = refl;
}

is_delivered : (b : Mailbox) (sent : List ℕ) → b.sent ≡ sent → IsDelivered b (come_in b sent)
is_delivered b [] e = record { whole = λ some. absurd (some e); none = λ h. refl; emptied = e; out = refl }
is_delivered b (word ∷ words) e = record {
  whole = λ some. sym e;
  none = λ h. absurd (cc (sym h ∙ e));
  emptied = refl;
  out = refl;
}

ends_box : (d : ℕ) (b : Mailbox) → EndsBox d b (box_ends d b)
ends_box d b = record {
  own = λ is. subst (λ (f : Bool). IsSentOff b (if f then sent_off b b.out else b)) (sym (eq-eqb b.from d is))
      (is_sent_off b b.out refl);
  others = λ other. rw (ne_eqb b.from d other) refl;
}

begins_box : (d : ℕ) (b : Mailbox) → BeginsBox d b (box_begins d b)
begins_box d b = record {
  own = λ is. subst (λ (f : Bool). IsDelivered b (if f then come_in b b.sent else b)) (sym (eq-eqb b.to d is))
      (is_delivered b b.sent refl);
  others = λ other. rw (ne_eqb b.to d other) refl;
}

pub end_moves_law : EndMovesLaw
unfolding ends
end_moves_law d a boxes b later at is =
    subst (EndsBox d b) (moved_at (box_ends d) boxes a b later at is) (ends_box d b)

pub begin_moves_law : BeginMovesLaw
unfolding begins
begin_moves_law d a boxes b later at is =
    subst (BeginsBox d b) (moved_at (box_begins d) boxes a b later at is) (begins_box d b)

-- ---- once

ended_once_by : (d from to : ℕ) (out sent inbox : List ℕ) (f : Bool) → nat_eq from d ≡ f
    → let b = mailbox from to out sent inbox in
    box_ends d (if f then sent_off b out else b) ≡ (if f then sent_off b out else b)
ended_once_by d from to out sent inbox false e = rw e refl
ended_once_by d from to [] sent inbox true e = rw e refl
ended_once_by d from to (word ∷ words) sent inbox true e = rw e refl

pub end_once_law : EndOnceLaw
unfolding ends
end_once_law d boxes =
    read_after (box_ends d) (box_ends d) (box_ends d)
    (λ b. ended_once_by d b.from b.to b.out b.sent b.inbox (nat_eq b.from d) refl) boxes

begun_once_by : (d from to : ℕ) (out sent inbox : List ℕ) (t : Bool) → nat_eq to d ≡ t
    → let b = mailbox from to out sent inbox in
    box_begins d (if t then come_in b sent else b) ≡ (if t then come_in b sent else b)
begun_once_by d from to out sent inbox false e = rw e refl
begun_once_by d from to out [] inbox true e = rw e refl
begun_once_by d from to out (word ∷ words) inbox true e = rw e refl

pub begin_once_law : BeginOnceLaw
unfolding begins
begin_once_law d boxes =
    read_after (box_begins d) (box_begins d) (box_begins d)
    (λ b. begun_once_by d b.from b.to b.out b.sent b.inbox (nat_eq b.to d) refl) boxes

-- ---- what arrives

quiet_by : (b : Mailbox) (t : Bool) (sent : List ℕ) → (if t then sent else []) ≡ []
    → (if t then come_in b sent else b) ≡ b
quiet_by b false sent e = refl
quiet_by b true [] e = refl
quiet_by b true (word ∷ words) e = absurd (cc e)

pub quiet_law : QuietLaw
unfolding begins arrival
quiet_law d [] none = refl
quiet_law d (b ∷ boxes) none =
    ap₂ (λ (x : Mailbox) (xs : Boxes). x ∷ xs) (quiet_by b (nat_eq b.to d) b.sent (none 0 [] (omega arith)))
    (quiet_law d boxes (λ k words below. none (suc k) words (omega (arith, below))))

follows_by : (d e from to : ℕ) (out sent inbox : List ℕ) → nat_eq from d ≡ true → nat_eq to e ≡ true
    → out ≢ []
    → arriving e (box_ends d (mailbox from to out sent inbox)) ≡ out
follows_by d e from to [] sent inbox sender receiver some = absurd (some refl)
follows_by d e from to (word ∷ words) sent inbox sender receiver some = rw (sender, receiver) refl

pub follow_law : FollowLaw
unfolding ends arrival
follow_law d e a boxes b is receiver some =
    slice_get-map (arriving e) (map (box_ends d) boxes) a
    ∙ ap (option_map (arriving e)) (slice_get-map (box_ends d) boxes a ∙ ap (option_map (box_ends d)) is.there)
    ∙ ap (λ (words : List ℕ). Some words) (follows_by d e b.from b.to b.out b.sent b.inbox
    (eq-eqb b.from d is.sender) (eq-eqb b.to e receiver) some)

-- ---- what stays

pub opening_pairs_law : OpeningPairsLaw
unfolding opening pairs_of
opening_pairs_law [] = refl
opening_pairs_law (x ∷ declared) =
    ap (λ (xs : List (ℕ × ℕ)). x ∷ xs) (opening_pairs_law declared)

pair_ended : (b : Mailbox) (f : Bool) (out : List ℕ) → pair_of (if f then sent_off b out else b) ≡ pair_of b
pair_ended b false out = refl
pair_ended b true [] = refl
pair_ended b true (word ∷ words) = refl

pair_begun : (b : Mailbox) (t : Bool) (sent : List ℕ)
    → pair_of (if t then come_in b sent else b) ≡ pair_of b
pair_begun b false sent = refl
pair_begun b true [] = refl
pair_begun b true (word ∷ words) = refl

pub pairs_law : PairsLaw
unfolding pairs_of ends begins
pairs_law d boxes = record {
  sent = λ a word later is. sent_pairs d a word boxes later is;
  received = λ a r is. received_pairs d a boxes r is;
  ended = read_after pair_of pair_of (box_ends d) (λ b. pair_ended b (nat_eq b.from d) b.out) boxes;
  begun = read_after pair_of pair_of (box_begins d) (λ b. pair_begun b (nat_eq b.to d) b.sent) boxes;
}

pub opening_fit_law : OpeningFitLaw
unfolding opening
opening_fit_law declared =
    All-map IsFit empty_box declared
    (λ k pair below. record { out = omega arith; sent = omega arith; inbox = omega arith })

ended_fits : (from to : ℕ) (out sent inbox : List ℕ) (f : Bool)
    → let b = mailbox from to out sent inbox in IsFit b → IsFit (if f then sent_off b out else b)
ended_fits from to out sent inbox false fit = fit
ended_fits from to [] sent inbox true fit = fit
ended_fits from to (word ∷ words) sent inbox true fit =
    record { out = omega arith; sent = fit.out; inbox = fit.inbox }

begun_fits : (from to : ℕ) (out sent inbox : List ℕ) (t : Bool)
    → let b = mailbox from to out sent inbox in IsFit b → IsFit (if t then come_in b sent else b)
begun_fits from to out sent inbox false fit = fit
begun_fits from to out [] inbox true fit = fit
begun_fits from to out (word ∷ words) inbox true fit =
    record { out = fit.out; sent = omega arith; inbox = fit.sent }

each_fits : (change : Mailbox → Mailbox) → ((b : Mailbox) → IsFit b → IsFit (change b)) → (boxes : Boxes)
    → AreFit boxes
    → AreFit (map change boxes)
each_fits change fits boxes fit =
    All-map IsFit change boxes (λ k b below. fits (get_or boxes k b) (fit k b below))

pub fit_law : FitLaw
unfolding ends begins
fit_law d boxes fit = record {
  sent = λ a word later is. sent_fits d a word boxes later fit is;
  received = λ a r is. received_fits d a boxes r fit is;
  ended =
      each_fits (box_ends d) (λ b. ended_fits b.from b.to b.out b.sent b.inbox (nat_eq b.from d))
      boxes fit;
  begun =
      each_fits (box_begins d) (λ b. begun_fits b.from b.to b.out b.sent b.inbox (nat_eq b.to d))
      boxes fit;
}

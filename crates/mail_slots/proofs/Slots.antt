-- What calls make of the boxes, from what they make of one.
use Rattle.std.proofs.Common.{◌≡◌, ◌<◌, ◌+◌, ◌++◌, ℕ, zero, suc, List, [], ◌∷◌, length, map, take, drop, get_or, set, ap, sym, ◌∙◌, refl, arith}
use Rattle.std.specs.Prelude.{slice_get, slice_set, option_map, Some, None, Result, Ok, Err, IfOk, IfErr}
use Rattle.std.proofs.lemmas.Option.{slice_get-map}
use Rattle.std.proofs.Math.ListN.{get_or-map}
use Rattle.std.proofs.lemmas.List.{map-set, length-map}
use Rattle.std.proofs.lemmas.List.Edits.{map_over_more}
use Rattle.mail_slots.specs.declared.refusal.MailRefusal.{MailRefusal}
use Rattle.mail_slots.specs.declared.refusal.MailRefusal.TheVariants as refusal
use Rattle.mail_slots.specs.declared.slot.Slot.{Slot}
use Rattle.mail_slots.specs.Boxes.{Mailbox, Boxes, put_in, send, Taken, take_out, receive}
use Rattle.mail_slots.specs.Models.{box_model}

-- where there is no box
pub send_none : (d a word : ℕ) (boxes : Boxes) → slice_get boxes a ≡ None
    → send d a word boxes ≡ Err refusal.NoBox
unfolding send
send_none d a word boxes e = rw e refl

pub receive_none : (d a : ℕ) (boxes : Boxes) → slice_get boxes a ≡ None
    → receive d a boxes ≡ Err refusal.NoBox
unfolding receive
receive_none d a boxes e = rw e refl

-- where there is one
pub send_ok : (d a word : ℕ) (boxes : Boxes) (b later : Mailbox) → slice_get boxes a ≡ Some b
    → put_in d word b ≡ Ok later → send d a word boxes ≡ Ok (slice_set boxes a later)
unfolding send
send_ok d a word boxes b later e put = rw (e, put) refl

pub send_err : (d a word : ℕ) (boxes : Boxes) (b : Mailbox) (r : MailRefusal) → slice_get boxes a ≡ Some b
    → put_in d word b ≡ Err r → send d a word boxes ≡ Err r
unfolding send
send_err d a word boxes b r e put = rw (e, put) refl

pub receive_ok : (d a : ℕ) (boxes : Boxes) (b : Mailbox) (t : Taken) → slice_get boxes a ≡ Some b
    → take_out d b ≡ Ok t → receive d a boxes ≡ Ok (record { word = t.word; boxes = slice_set boxes a t.box })
unfolding receive
receive_ok d a boxes b t e took = rw (e, took) refl

pub receive_err : (d a : ℕ) (boxes : Boxes) (b : Mailbox) (r : MailRefusal) → slice_get boxes a ≡ Some b
    → take_out d b ≡ Err r → receive d a boxes ≡ Err r
unfolding receive
receive_err d a boxes b r e took = rw (e, took) refl

pub set_same : {A : Type 0} (xs : List A) (a : ℕ) (x : A) → slice_get xs a ≡ Some x → set xs a x ≡ xs
set_same [] a x e = refl
set_same {A} (y ∷ xs) zero x e = ap (λ (z : A). z ∷ xs) (sym (cc e))
set_same {A} (y ∷ xs) (suc a) x e = ap (λ (zs : List A). y ∷ zs) (set_same xs a x e)

-- ---- of the code's boxes

pub slot_there : (slots : List Slot) (a : ℕ) (old : Slot) → slice_get slots a ≡ Some old
    → slice_get (map box_model slots) a ≡ Some (box_model old)
slot_there slots a old e = slice_get-map box_model slots a ∙ ap (option_map box_model) e

pub sent_in : (d a word : ℕ) (slots : List Slot) (old later : Slot) (r : Result (Unit {0}) MailRefusal)
    → slice_get slots a ≡ Some old → IfOk r (λ done. put_in d word (box_model old) ≡ Ok (box_model later))
    → IfOk r (λ done. send d a word (map box_model slots) ≡ Ok (map box_model (slice_set slots a later)))
sent_in d a word slots old later (Ok done) e put =
    send_ok d a word (map box_model slots) (box_model old) (box_model later) (slot_there slots a old e) put
    ∙ ap (λ (xs : Boxes). Ok xs) (sym (map-set box_model slots a later))
sent_in d a word slots old later (Err r) e put = tt

pub not_sent : (d a word : ℕ) (slots : List Slot) (old : Slot) (r : Result (Unit {0}) MailRefusal)
    → slice_get slots a ≡ Some old → IfErr r (λ refusal. put_in d word (box_model old) ≡ Err refusal)
    → IfErr r (λ refusal. send d a word (map box_model slots) ≡ Err refusal)
not_sent d a word slots old (Ok done) e put = tt
not_sent d a word slots old (Err r) e put =
    send_err d a word (map box_model slots) (box_model old) r (slot_there slots a old e) put

pub received_in : (d a : ℕ) (slots : List Slot) (old later : Slot) (r : Result ℕ MailRefusal)
    → slice_get slots a ≡ Some old
    → IfOk r (λ word. take_out d (box_model old) ≡ Ok (record { word = word; box = box_model later }))
    → IfOk r (λ word. receive d a (map box_model slots)
    ≡ Ok (record { word = word; boxes = map box_model (slice_set slots a later) }))
received_in d a slots old later (Ok word) e took =
    receive_ok d a (map box_model slots) (box_model old) (record { word = word; box = box_model later })
    (slot_there slots a old e) took
    ∙ ap (λ (xs : Boxes). Ok (record { word = word; boxes = xs })) (sym (map-set box_model slots a later))
received_in d a slots old later (Err r) e took = tt

pub not_received : (d a : ℕ) (slots : List Slot) (old : Slot) (r : Result ℕ MailRefusal)
    → slice_get slots a ≡ Some old → IfErr r (λ refusal. take_out d (box_model old) ≡ Err refusal)
    → IfErr r (λ refusal. receive d a (map box_model slots) ≡ Err refusal)
not_received d a slots old (Ok word) e took = tt
not_received d a slots old (Err r) e took =
    receive_err d a (map box_model slots) (box_model old) r (slot_there slots a old e) took

pub unchanged_in : {T : Type 0} (slots : List Slot) (a : ℕ) (old later : Slot) (r : Result T MailRefusal)
    → slice_get slots a ≡ Some old → IfErr r (λ refusal. later ≡ old)
    → IfErr r (λ refusal. map box_model (slice_set slots a later) ≡ map box_model slots)
unchanged_in slots a old later (Ok done) e same = tt
unchanged_in slots a old later (Err r) e same =
    ap (λ (x : Slot). map box_model (set slots a x)) same ∙ ap (map box_model) (set_same slots a old e)

-- a loop over all of them, once more
pub one_more : (f : Mailbox → Mailbox) (first now : List Slot) (i : ℕ) (old later : Slot) → i < length first
    → map box_model now ≡ map f (take i (map box_model first)) ++ drop i (map box_model first)
    → old ≡ get_or now i old → box_model later ≡ f (box_model (get_or now i old))
    → map box_model (slice_set now i later)
    ≡ map f (take (i + 1) (map box_model first)) ++ drop (i + 1) (map box_model first)
one_more f first now i old later within so_far there becomes =
    map-set box_model now i later ∙ ap (λ (x : Mailbox). set (map box_model now) i x)
    (becomes ∙ ap (λ (s : Slot). f (box_model s)) (sym there))
    ∙ map_over_more f (map box_model first) (map box_model now) i (box_model old)
    (omega (arith, within, length-map first box_model)) so_far
    (ap box_model there ∙ sym (get_or-map box_model now i old))

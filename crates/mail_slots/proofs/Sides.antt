-- A domain's calls go by its own side of the boxes; of the others' slots it sees what arrives alone.
use Rattle.std.proofs.Common.{◌≡◌, ◌≢◌, ℕ, Bool, true, false, eqb-true, ne_eqb, List, [], ◌∷◌, length, map, ap, ap₂, sym, ◌∙◌, refl}
use Rattle.std.specs.Prelude.{nat_eq, nat_lt, slice_get, option_map, Option, Some, None, Result, Ok, Err, if◌then◌else◌}
use Rattle.std.proofs.lemmas.Option.{slice_get-map}
use Rattle.std.proofs.lemmas.List.{map-set}
use Rattle.mail_slots.specs.declared.refusal.MailRefusal.{MailRefusal}
use Rattle.mail_slots.specs.Boxes.{Mailbox, Boxes, at_box, put_in, boxes_with, send, Taken, take_out, received_from, receive, sent_off, box_ends, ends, come_in, box_begins, begins}
use Rattle.mail_slots.specs.Sides.{own_part, own_side, others_part, others_side, arriving, arrival, brought, bring}
use Rattle.mail_slots.specs.Laws.{SendLaw, ReceiveLaw, sent_on_side, received_on_side, EndsLaw, BeginsLaw, BringLaw, OthersEndLaw, OthersBeginLaw, OthersLaw}

-- a box by what it has
abbrev pub mailbox : ℕ → ℕ → List ℕ → List ℕ → List ℕ → Mailbox
mailbox from to out sent inbox = record { from = from; to = to; out = out; sent = sent; inbox = inbox }

-- ---- maps over boxes

-- a reading after a change that is another reading of each box
pub read_after : {A : Type 0} (read other : Mailbox → A) (change : Mailbox → Mailbox)
    → ((b : Mailbox) → read (change b) ≡ other b) → (boxes : Boxes)
    → map read (map change boxes) ≡ map other boxes
read_after read other change same [] = refl
read_after {A} read other change same (b ∷ boxes) =
    ap₂ (λ (x : A) (xs : List A). x ∷ xs) (same b) (read_after read other change same boxes)

pub same_heads : (x y : Mailbox) (xs ys : Boxes) → x ∷ xs ≡ y ∷ ys → x ≡ y
same_heads x y xs ys e = cc e

pub same_tails : (x y : Mailbox) (xs ys : Boxes) → x ∷ xs ≡ y ∷ ys → xs ≡ ys
same_tails x y xs ys e = cc e

-- equal readings are equal after any change of them
pub changed_alike : (f change : Mailbox → Mailbox) (xs ys : Boxes) → map f xs ≡ map f ys
    → map (λ b. change (f b)) xs ≡ map (λ b. change (f b)) ys
changed_alike f change [] [] e = refl
changed_alike f change [] (y ∷ ys) e = absurd (cc e)
changed_alike f change (x ∷ xs) [] e = absurd (cc e)
changed_alike f change (x ∷ xs) (y ∷ ys) e =
    ap₂ (λ (b : Mailbox) (bs : Boxes). b ∷ bs) (ap change (same_heads (f x) (f y) (map f xs) (map f ys) e))
    (changed_alike f change xs ys (same_tails (f x) (f y) (map f xs) (map f ys) e))

-- ---- as a domain's own slots end and begin

no_out : Mailbox → Mailbox
no_out b = record b { out = [] }

own_ended_by : (d from to : ℕ) (out sent inbox : List ℕ) (f : Bool) → nat_eq from d ≡ f
    → let b = mailbox from to out sent inbox in
    own_part d (if f then sent_off b out else b) ≡ no_out (own_part d b)
unfolding no_out
own_ended_by d from to out sent inbox false e = rw e refl
own_ended_by d from to [] sent inbox true e = rw e refl
own_ended_by d from to (word ∷ words) sent inbox true e = rw e refl

own_ended : (d : ℕ) (b : Mailbox) → own_part d (box_ends d b) ≡ no_out (own_part d b)
own_ended d b = own_ended_by d b.from b.to b.out b.sent b.inbox (nat_eq b.from d) refl

pub ends_law : EndsLaw
unfolding ends own_side
ends_law d boxes others same =
    read_after (own_part d) (λ b. no_out (own_part d b)) (box_ends d) (own_ended d) boxes
    ∙ changed_alike (own_part d) no_out boxes others same
    ∙ sym (read_after (own_part d) (λ b. no_out (own_part d b)) (box_ends d) (own_ended d) others)

own_begun_by : (d from to : ℕ) (out sent inbox : List ℕ) (t : Bool) → nat_eq to d ≡ t
    → let b = mailbox from to out sent inbox in
    own_part d (if t then come_in b sent else b) ≡ brought (own_part d b) (if t then sent else [])
own_begun_by d from to out sent inbox false e = refl
own_begun_by d from to out [] inbox true e = refl
own_begun_by d from to out (word ∷ words) inbox true e = rw e refl

own_begun : (d : ℕ) (b : Mailbox) → own_part d (box_begins d b) ≡ brought (own_part d b) (arriving d b)
own_begun d b = own_begun_by d b.from b.to b.out b.sent b.inbox (nat_eq b.to d) refl

pub begins_law : BeginsLaw
unfolding begins own_side arrival bring
begins_law d [] = refl
begins_law d (b ∷ boxes) = ap₂ (λ (x : Mailbox) (xs : Boxes). x ∷ xs) (own_begun d b) (begins_law d boxes)

own_brought_by : (d from to : ℕ) (out sent inbox words : List ℕ) (t : Bool) → nat_eq to d ≡ t
    → let b = mailbox from to out sent inbox in
    own_part d (brought b (if t then words else [])) ≡ brought (own_part d b) (if t then words else [])
own_brought_by d from to out sent inbox words false e = refl
own_brought_by d from to out sent inbox [] true e = refl
own_brought_by d from to out sent inbox (word ∷ words) true e = rw e refl

own_brought : (d : ℕ) (x y : Mailbox) → own_part d x ≡ own_part d y
    → own_part d (box_begins d x) ≡ own_part d (brought y (arriving d x))
own_brought d x y same =
    own_begun d x ∙ ap (λ (b : Mailbox). brought b (arriving d x)) same
    ∙ sym (own_brought_by d y.from y.to y.out y.sent y.inbox x.sent (nat_eq x.to d)
    (ap (λ (b : Mailbox). nat_eq b.to d) (sym same)))

pub bring_law : BringLaw
unfolding begins own_side arrival bring
bring_law d [] [] e = refl
bring_law d [] (y ∷ ys) e = absurd (cc e)
bring_law d (x ∷ xs) [] e = absurd (cc e)
bring_law d (x ∷ xs) (y ∷ ys) e =
    ap₂ (λ (b : Mailbox) (bs : Boxes). b ∷ bs)
    (own_brought d x y (same_heads (own_part d x) (own_part d y) (map (own_part d) xs) (map (own_part d) ys) e))
    (bring_law d xs ys (same_tails (own_part d x) (own_part d y) (map (own_part d) xs) (map (own_part d) ys) e))

-- ---- of the others' slots

apart : (n d e : ℕ) → d ≢ e → nat_eq n e ≡ true → nat_eq n d ≡ false
apart n d e differ is = ne_eqb n d (λ same. differ (sym same ∙ eqb-true n e is))

others_ended_by : (d e from to : ℕ) (out sent inbox : List ℕ) (f : Bool) → d ≢ e → nat_eq from e ≡ f
    → let b = mailbox from to out sent inbox in
    own_part d (if f then sent_off b out else b) ≡ own_part d b
others_ended_by d e from to out sent inbox false differ is = refl
others_ended_by d e from to [] sent inbox true differ is = refl
others_ended_by d e from to (word ∷ words) sent inbox true differ is = rw (apart from d e differ is) refl

pub others_end_law : OthersEndLaw
unfolding ends own_side
others_end_law d e boxes differ =
    read_after (own_part d) (own_part d) (box_ends e)
    (λ b. others_ended_by d e b.from b.to b.out b.sent b.inbox (nat_eq b.from e) differ refl) boxes

others_begun_by : (d e from to : ℕ) (out sent inbox : List ℕ) (t : Bool) → d ≢ e → nat_eq to e ≡ t
    → let b = mailbox from to out sent inbox in
    own_part d (if t then come_in b sent else b) ≡ own_part d b
others_begun_by d e from to out sent inbox false differ is = refl
others_begun_by d e from to out [] inbox true differ is = refl
others_begun_by d e from to out (word ∷ words) inbox true differ is = rw (apart to d e differ is) refl

pub others_begin_law : OthersBeginLaw
unfolding begins own_side
others_begin_law d e boxes differ =
    read_after (own_part d) (own_part d) (box_begins e)
    (λ b. others_begun_by d e b.from b.to b.out b.sent b.inbox (nat_eq b.to e) differ refl) boxes

hidden_by : (n d e : ℕ) (words : List ℕ) (f : Bool) → d ≢ e → nat_eq n e ≡ f
    → (if nat_eq n d then (if f then [] else words) else []) ≡ (if nat_eq n d then words else [])
hidden_by n d e words false differ is = refl
hidden_by n d e words true differ is = rw (apart n d e differ is) refl

-- all that domain d sees is in what isn't domain e's own side
own_of_others : (d e : ℕ) → d ≢ e → (b : Mailbox) → own_part d (others_part e b) ≡ own_part d b
own_of_others d e differ b =
    ap₂ (λ (out inbox : List ℕ). mailbox b.from b.to out [] inbox)
    (hidden_by b.from d e b.out (nat_eq b.from e) differ refl)
    (hidden_by b.to d e b.inbox (nat_eq b.to e) differ refl)

pub others_law : OthersLaw
unfolding own_side others_side
others_law d e boxes later differ same =
    sym (read_after (own_part d) (own_part d) (others_part e) (own_of_others d e differ) later)
    ∙ ap (map (own_part d)) same
    ∙ read_after (own_part d) (own_part d) (others_part e) (own_of_others d e differ) boxes

-- ---- its own calls

own_result : ℕ → Result Mailbox MailRefusal → Result Mailbox MailRefusal
own_result d (Ok b) = Ok (own_part d b)
own_result d (Err r) = Err r

put_own_by : (d word from to : ℕ) (out sent inbox : List ℕ) (f u : Bool) → nat_eq from d ≡ f
    → nat_lt (length out) 16 ≡ u
    → let b = mailbox from to out sent inbox in
    put_in d word (own_part d b) ≡ own_result d (put_in d word b)
unfolding own_result
put_own_by d word from to out sent inbox false u e room = rw e refl
put_own_by d word from to out sent inbox true true e room = rw (e, room, e) refl
put_own_by d word from to out sent inbox true false e room = rw (e, room) refl

put_own : (d word : ℕ) (o : Option Mailbox)
    → at_box (put_in d word) (option_map (own_part d) o) ≡ own_result d (at_box (put_in d word) o)
unfolding own_result
put_own d word None = refl
put_own d word (Some b) =
    put_own_by d word b.from b.to b.out b.sent b.inbox (nat_eq b.from d) (nat_lt (length b.out) 16) refl refl

boxes_with_own : (d a : ℕ) (boxes : Boxes) (r : Result Mailbox MailRefusal)
    → sent_on_side d (boxes_with a boxes r) ≡ boxes_with a (own_side d boxes) (own_result d r)
unfolding own_result own_side
boxes_with_own d a boxes (Ok b) = ap (λ (xs : Boxes). Ok xs) (map-set (own_part d) boxes a b)
boxes_with_own d a boxes (Err r) = refl

pub send_law : SendLaw
unfolding send own_side
send_law d a word boxes =
    boxes_with_own d a boxes (at_box (put_in d word) (slice_get boxes a))
    ∙ ap (boxes_with a (map (own_part d) boxes)) (sym (put_own d word (slice_get boxes a))
    ∙ ap (at_box (put_in d word)) (sym (slice_get-map (own_part d) boxes a)))

own_taken : ℕ → Result Taken MailRefusal → Result Taken MailRefusal
own_taken d (Ok t) = Ok (record { word = t.word; box = own_part d t.box })
own_taken d (Err r) = Err r

take_own_by : (d from to : ℕ) (out sent inbox : List ℕ) (t : Bool) → nat_eq to d ≡ t
    → let b = mailbox from to out sent inbox in
    take_out d (own_part d b) ≡ own_taken d (take_out d b)
unfolding own_taken
take_own_by d from to out sent inbox false e = rw e refl
take_own_by d from to out sent [] true e = rw e refl
take_own_by d from to out sent (word ∷ words) true e = rw (e, e) refl

take_own : (d : ℕ) (o : Option Mailbox)
    → at_box (take_out d) (option_map (own_part d) o) ≡ own_taken d (at_box (take_out d) o)
unfolding own_taken
take_own d None = refl
take_own d (Some b) = take_own_by d b.from b.to b.out b.sent b.inbox (nat_eq b.to d) refl

received_from_own : (d a : ℕ) (boxes : Boxes) (r : Result Taken MailRefusal)
    → received_on_side d (received_from a boxes r) ≡ received_from a (own_side d boxes) (own_taken d r)
unfolding own_taken own_side
received_from_own d a boxes (Ok t) =
    ap (λ (xs : Boxes). Ok (record { word = t.word; boxes = xs })) (map-set (own_part d) boxes a t.box)
received_from_own d a boxes (Err r) = refl

pub receive_law : ReceiveLaw
unfolding receive own_side
receive_law d a boxes =
    received_from_own d a boxes (at_box (take_out d) (slice_get boxes a))
    ∙ ap (received_from a (map (own_part d) boxes)) (sym (take_own d (slice_get boxes a))
    ∙ ap (at_box (take_out d)) (sym (slice_get-map (own_part d) boxes a)))

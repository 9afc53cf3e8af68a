-- Texts that are added to a batch in turn.
use Rattle.std.proofs.Common.{◌≡◌, ℕ, List, [], ◌++◌, Result, Ok, Err, sym, ap, ◌∙◌, subst, append_assoc}
use Rattle.std.proofs.lemmas.List.{append-nil}
use Rattle.tp_io.specs.Sends.{SinkState, Sent, CutShort, Sends}
use Rattle.tp_io.proofs.InTurn as in_turn
use Rattle.tp_report.specs.Batches.{Holding, Added, CutIn, Adds}

-- nothing was to be added, and nothing was
pub added_nothing : (s : Holding) → Added s s []
added_nothing s = record { front = []; sent = in_turn.sent_nothing s.sink; rest = append-nil s.held }

-- what was held and the text were handed on
pub added_sent : (a b : SinkState) (held text : List ℕ) → Sent a b (held ++ text)
    → Added (record { sink = a; held = held }) (record { sink = b; held = [] }) text
added_sent a b held text sent = record { front = held ++ text; sent = sent; rest = sym (append-nil (held ++ text)) }

-- two texts are what was handed on of the first, and then what is held of it and the second
rest_of_both : (a b : Holding) (xs ys front : List ℕ) → a.held ++ xs ≡ front ++ b.held
    → a.held ++ (xs ++ ys) ≡ front ++ (b.held ++ ys)
rest_of_both a b xs ys front rest = sym (append_assoc a.held xs ys) ∙ ap (λ zs. zs ++ ys) rest ∙ append_assoc front b.held ys

-- one text, and then another
pub added_more : (a b c : Holding) (xs ys : List ℕ) → Added a b xs → Added b c ys → Added a c (xs ++ ys)
added_more a b c xs ys first second = record {
  front = first.front ++ second.front;
  sent = in_turn.sent_more a.sink b.sink c.sink first.front second.front first.sent second.sent;
  rest =
      rest_of_both a b xs ys first.front first.rest ∙ ap (λ zs. first.front ++ zs) second.rest
      ∙ sym (append_assoc first.front second.front c.held);
}

-- one text was added, and then the sink was cut short in another
pub cut_after : (a b c : Holding) (xs ys : List ℕ) → Added a b xs → CutIn b c ys → CutIn a c (xs ++ ys)
cut_after a b c xs ys first second = record {
  cut =
      subst (CutShort a.sink c.sink) (sym (rest_of_both a b xs ys first.front first.rest))
      (in_turn.cut_after a.sink b.sink c.sink first.front (b.held ++ ys) first.sent second.cut);
}

-- the sink was cut short in the first of two texts
pub cut_in_first : (a b : Holding) (xs ys : List ℕ) → CutIn a b xs → CutIn a b (xs ++ ys)
cut_in_first a b xs ys first = record {
  cut = subst (CutShort a.sink b.sink) (append_assoc a.held xs ys) (in_turn.cut_in_first a.sink b.sink (a.held ++ xs) ys first.cut);
}

-- one text was added, and then the sink was cut short in the second of three
pub cut_between : (a b c : Holding) (xs ys zs : List ℕ) → Added a b xs → CutIn b c ys
    → CutIn a c (xs ++ (ys ++ zs))
cut_between a b c xs ys zs first cut = cut_after a b c xs (ys ++ zs) first (cut_in_first b c ys zs cut)

-- one text was added, and then a call was to add another, whatever its result
pub then_adds : {T E : Type 0} (a b c : Holding) (r : Result T E) (xs ys : List ℕ) → Added a b xs
    → Adds b c r ys → Adds a c r (xs ++ ys)
then_adds a b c (Ok x) xs ys first second = added_more a b c xs ys first second
then_adds a b c (Err e) xs ys first second = cut_after a b c xs ys first second

-- ---- a batch from its beginning to its end

-- a text was added to an empty batch, and then a call was to hand on what is held, whatever its result
pub then_hands_on : {T E : Type 0} (a b c : SinkState) (r : Result T E) (held text : List ℕ)
    → Added (record { sink = a; held = [] }) (record { sink = b; held = held }) text → Sends b c r held → Sends a c r text
then_hands_on {T} {E} a b c r held text added sends =
    subst (Sends a c r) (sym added.rest) (in_turn.then_sends a b c r added.front held added.sent sends)

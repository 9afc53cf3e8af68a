-- Texts that are written in turn.
use Rattle.std.proofs.Common.{ℕ, List, [], ◌++◌, Result, Ok, Err, refl, sym, ap, ◌∙◌}
use Rattle.tp_io.specs.Bytes.{after_known}
use Rattle.tp_io.specs.Sends.{SinkState, Sent, CutShort, Sends}
use Rattle.tp_io.proofs.Known.{after_known-after_known, after_known-nil, front_more, front_of_first, less-none, less_text, too_long_more, too_long_first}

-- nothing was to be sent, and nothing was
pub sent_nothing : (s : SinkState) → Sent s s []
sent_nothing s = record { written = sym (after_known-nil s.written); steady = refl; sure = sym (less-none s.sure) }

-- one text, and then another
pub sent_more : (a b c : SinkState) (xs ys : List ℕ) → Sent a b xs → Sent b c ys → Sent a c (xs ++ ys)
sent_more a b c xs ys first second = record {
  written = second.written ∙ ap (λ k. after_known k ys) first.written ∙ after_known-after_known a.written xs ys;
  steady = second.steady ∙ first.steady;
  sure = less_text a.sure b.sure c.sure xs ys first.sure second.sure;
}

-- one text was sent, and then the sink failed in another
pub cut_after : (a b c : SinkState) (xs ys : List ℕ) → Sent a b xs → CutShort b c ys → CutShort a c (xs ++ ys)
cut_after a b c xs ys first second = record {
  front = front_more a.written b.written c.written xs ys first.written second.front;
  rose = rw (← first.steady) second.rose;
  never_falls = rw (← first.steady) second.never_falls;
  short = too_long_more a.sure b.sure xs ys first.sure second.short;
}

-- the sink failed in the first of two texts
pub cut_in_first : (a b : SinkState) (xs ys : List ℕ) → CutShort a b xs → CutShort a b (xs ++ ys)
cut_in_first a b xs ys cut = record {
  front = front_of_first a.written b.written xs ys cut.front;
  rose = cut.rose;
  never_falls = cut.never_falls;
  short = too_long_first a.sure xs ys cut.short;
}

-- one text was sent, and then the sink failed in the second of three
pub cut_between : (a b c : SinkState) (xs ys zs : List ℕ) → Sent a b xs → CutShort b c ys
    → CutShort a c (xs ++ (ys ++ zs))
cut_between a b c xs ys zs first cut = cut_after a b c xs (ys ++ zs) first (cut_in_first b c ys zs cut)

-- one text was sent, and then a call was to send another, whatever its result
pub then_sends : {T E : Type 0} (a b c : SinkState) (r : Result T E) (xs ys : List ℕ) → Sent a b xs
    → Sends b c r ys → Sends a c r (xs ++ ys)
then_sends a b c (Ok x) xs ys first second = sent_more a b c xs ys first second
then_sends a b c (Err e) xs ys first second = cut_after a b c xs ys first second

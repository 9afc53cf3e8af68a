-- The boxes that the rule of mailboxes lets through.
use Rattle.std.proofs.Common.{◌≡◌, ◌≢◌, ℕ, ◌<◌, ◌≤◌, not, true, false, List, length, map, take, get_or, None, Some, refl, sym, ap, subst, ◌∙◌, arith, ◌⊎◌, inl, inr, true≢false}
use Rattle.std.specs.Prelude.{ℤ, pos, negsuc, nat_lt, slice_get, Option}
use Rattle.std.specs.List.{All}
use Rattle.std.proofs.lemmas.Bool.{cases_lt, ltb-false}
use Rattle.std.proofs.lemmas.Bool.Decides.{nat_tests}
use Rattle.std.proofs.lemmas.List.{length-map, length-take, get_or-map, get_or-take}
use Rattle.std.proofs.lemmas.Option.{slice_get_within, get_or_from_slice_get}
use Rattle.image_record.specs.Record.{Raw, RawMailbox}
use Rattle.image_record.specs.Numbers.{natural_of, is_same}
use Rattle.image_record.specs.Cases.{or_else, first_in, refusal}
use Rattle.image_record.proofs.FirstCases.{or_first, or_rest, if_first, if_rest, first_in_none}
use Rattle.schedule_check.specs.Schedule.{is_number}
use Rattle.schedule_check.specs.Mail.{alike, if_alike, k20_end, k20_apart, k20_same, k20_once, k20_box, k20_mail, k20, box_of, IsBox, AreBoxes}
use Rattle.schedule_check.proofs.Entries.{number_below}

-- ---- what no broken case leaves of one box

record Passed (domains : ℕ) (earlier : List RawMailbox) (b : RawMailbox) : Type 0 where
  pub from : not (is_number domains b.from) ≡ false
  pub to : not (is_number domains b.to) ≡ false
  pub apart : is_same b.from b.to ≡ false
  pub new : first_in (if_alike b) earlier ≡ None

end_passed : (domains box : ℕ) (x : ℤ) → k20_end domains box x ≡ None → not (is_number domains x) ≡ false
unfolding k20_end
end_passed domains box x n = if_first (not (is_number domains x)) (refusal 20 (pos box) x (pos 2)) None n

are_apart : (box : ℕ) (b : RawMailbox) → k20_apart box b ≡ None → is_same b.from b.to ≡ false
unfolding k20_apart
are_apart box b n = if_first (is_same b.from b.to) (refusal 20 (pos box) b.from (pos 3)) None n

none_same : (box : ℕ) (o : Option ℕ) → k20_same box o ≡ None → o ≡ None
none_same box None n = refl
none_same box (Some e) n = cc

is_new : (earlier : List RawMailbox) (b : RawMailbox) → k20_once earlier b ≡ None
    → first_in (if_alike b) earlier ≡ None
unfolding k20_once
is_new earlier b n = none_same (length earlier) (first_in (if_alike b) earlier) n

passed : (domains : ℕ) (earlier : List RawMailbox) (b : RawMailbox) → k20_box domains earlier b ≡ None
    → Passed domains earlier b
unfolding k20_box
passed domains earlier b n =
    let box = length earlier in
    let last = k20_once earlier b in
    let third = or_else (k20_apart box b) last in
    let second = or_else (k20_end domains box b.to) third in
    let after_from = or_rest (k20_end domains box b.from) second n in
    let after_to = or_rest (k20_end domains box b.to) third after_from in
    record {
      from = end_passed domains box b.from (or_first (k20_end domains box b.from) second n);
      to = end_passed domains box b.to (or_first (k20_end domains box b.to) third after_from);
      apart = are_apart box b (or_first (k20_apart box b) last after_to);
      new = is_new earlier b (or_rest (k20_apart box b) last after_to);
    }

-- ---- numbers of domains are the same as integers where they are as natural ones

same_number : (many : ℕ) (x y : ℤ) → not (is_number many x) ≡ false → not (is_number many y) ≡ false
    → natural_of x ≡ natural_of y → is_same x y ≡ true
same_number many (pos m) (pos n) h k same = grind (arith, nat_tests, same)
same_number many (pos m) (negsuc n) h k same = cc
same_number many (negsuc m) y h k same = cc

is_box : (domains : ℕ) (earlier : List RawMailbox) (b : RawMailbox) → Passed domains earlier b
    → IsBox domains (box_of b)
unfolding box_of
is_box domains earlier b p = record {
  from = number_below domains b.from p.from;
  to = number_below domains b.to p.to;
  apart = λ same. true≢false (sym (same_number domains b.from b.to p.from p.to same) ∙ p.apart);
}

are_alike : (domains : ℕ) (earlier before : List RawMailbox) (b other : RawMailbox) → Passed domains earlier b
    → Passed domains before other → box_of b ≡ box_of other → alike b other ≡ true
unfolding box_of
are_alike domains earlier before b other p q same =
    let from = same_number domains other.from b.from q.from p.from (ap (λ (x : ℕ × ℕ). x.0) (sym same)) in
    let to = same_number domains other.to b.to q.to p.to (ap (λ (x : ℕ × ℕ). x.1) (sym same)) in
    rw (from, to) refl

-- ---- of all boxes

no_mailbox : RawMailbox
no_mailbox = record { from = pos 0; to = pos 0 }

mailbox_at : List RawMailbox → ℕ → RawMailbox
mailbox_at mail k = get_or mail k no_mailbox

module _ (domains : ℕ) (mail : List RawMailbox) (n : first_in (k20_box domains) mail ≡ None) where
  passed_at : (k : ℕ) → k < length mail → Passed domains (take k mail) (mailbox_at mail k)
  unfolding mailbox_at
  passed_at k l = passed domains (take k mail) (get_or mail k no_mailbox) (first_in_none (k20_box domains) mail n k l no_mailbox)

  all_boxes : All (IsBox domains) (map box_of mail)
  unfolding mailbox_at
  all_boxes = λ k d l.
      let within : k < length mail = omega (arith, length-map mail box_of, l) in
      subst (IsBox domains) (sym (get_or-map box_of mail k no_mailbox d within))
      (is_box domains (take k mail) (mailbox_at mail k) (passed_at k within))

  never_again : (j k : ℕ) → j < k → k < length mail → box_of (mailbox_at mail k) ≢ box_of (mailbox_at mail j)
  unfolding mailbox_at
  never_again j k before l = λ same.
      let b = mailbox_at mail k in
      let here = passed_at k l in
      let there = passed_at j (omega (arith, before, l)) in
      let within : j < length (take k mail) = omega (arith, length-take k mail, before, l) in
      let none = first_in_none (if_alike b) (take k mail) here.new j within no_mailbox in
      let other = get_or (take k mail) j no_mailbox in
      let differ = if_first (alike b other) (length (take j (take k mail))) None none in
      let is = get_or-take k mail j no_mailbox before in
      let alike_there = are_alike domains (take k mail) (take j mail) b (mailbox_at mail j) here there same in
      true≢false (sym alike_there ∙ sym (ap (alike b) is) ∙ differ)

  record At (k : ℕ) (box : ℕ × ℕ) : Type 0 where
    pub within : k < length mail
    pub is : box_of (mailbox_at mail k) ≡ box

  at : (k : ℕ) (box : ℕ × ℕ) → slice_get (map box_of mail) k ≡ Some box → At k box
  unfolding mailbox_at
  at k box e =
      let within : k < length mail = omega (arith, length-map mail box_of, slice_get_within (map box_of mail) k box e) in
      record {
        within = within;
        is = sym (get_or-map box_of mail k no_mailbox box within) ∙ get_or_from_slice_get (map box_of mail) k box box e;
      }

  each_once : (j k : ℕ) (box : ℕ × ℕ) → slice_get (map box_of mail) j ≡ Some box
      → slice_get (map box_of mail) k ≡ Some box → j ≡ k
  each_once j k box first second = either (cases_lt j k)
    where
      here : At j box
      here = at j box first

      there : At k box
      there = at k box second

      among : (k < j) ⊎ (j ≤ k) → k ≤ j → j ≡ k
      among (inl before) after = absurd (never_again k j before here.within (here.is ∙ sym there.is))
      among (inr not_before) after = omega (arith, after, not_before)

      either : (j < k) ⊎ (k ≤ j) → j ≡ k
      either (inl before) = absurd (never_again j k before there.within (there.is ∙ sym here.is))
      either (inr after) = among (cases_lt k j) after

-- ---- the law

pub mail_kept : (i : Raw) → k20 i ≡ None → AreBoxes (length i.domains) (map box_of i.mail)
unfolding k20 k20_mail
mail_kept i n =
    let many = refusal 20 (pos 0) (pos (length i.mail)) (pos 1) in
    let cases = first_in (k20_box (length i.domains)) i.mail in
    let each = if_rest (nat_lt 64 (length i.mail)) many cases n in
    let few = ltb-false 64 (length i.mail) (if_first (nat_lt 64 (length i.mail)) many cases n) in
    record {
      few = omega (arith, few, length-map i.mail box_of);
      boxes = all_boxes (length i.domains) i.mail each;
      once = each_once (length i.domains) i.mail each;
    }

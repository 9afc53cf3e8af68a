-- What came to a domain, switch by switch: what comes later makes no difference to it as it was.
use Rattle.std.proofs.Common.{◌≡◌, ◌≢◌, ℕ, zero, suc, ◌≤◌, Bool, true, false, eqb, eq-eqb, List, [], ◌∷◌, ◌++◌, length, ap, ◌∙◌, refl, arith}
use Rattle.std.specs.Prelude.{if◌then◌else◌}
use Rattle.std.proofs.lemmas.Bool.{ne_eqb}
use Rattle.std.proofs.lemmas.List.{get_or_append_left, get_or_push}
use Rattle.sched_table.specs.Schedule.{entry_of_slot}
use Rattle.image_check.specs.Public.{Public}
use Rattle.image_check.specs.Own.{Own}
use Rattle.mail_slots.specs.Sides.{Arrival}
use Rattle.world_view.specs.Mail.{Came, arrivals_in, turns, nth_of}
use Rattle.world_view.specs.Machine.{Local, alone_if, alone_mail}

-- ---- a list of what came, and what comes after it

first_of_both : (b : Bool) (words : Arrival) (xs more : List Arrival)
    → (if b then words ∷ (xs ++ more) else xs ++ more) ≡ (if b then words ∷ xs else xs) ++ more
first_of_both true words xs more = refl
first_of_both false words xs more = refl

module _ (d : ℕ) where
  in_both : (came more : List Came) → arrivals_in d (came ++ more) ≡ arrivals_in d came ++ arrivals_in d more
  unfolding arrivals_in
  in_both [] more = refl
  in_both (x ∷ came) more =
      ap (λ (xs : List Arrival). if eqb x.domain d then x.words ∷ xs else xs) (in_both came more)
      ∙ first_of_both (eqb x.domain d) x.words (arrivals_in d came) (arrivals_in d more)

  -- one more of the domain
  pub one_more : (came : List Came) (x : Came) → x.domain ≡ d
      → arrivals_in d (came ++ x ∷ []) ≡ arrivals_in d came ++ x.words ∷ []
  unfolding arrivals_in
  one_more came x is =
      in_both came (x ∷ [])
      ∙ ap (λ (b : Bool). arrivals_in d came ++ (if b then x.words ∷ [] else [])) (eq-eqb x.domain d is)

  -- and of another
  pub none_more : (came : List Came) (x : Came) → x.domain ≢ d
      → arrivals_in d (came ++ x ∷ []) ≡ arrivals_in d came
  unfolding arrivals_in
  none_more came x other =
      in_both came (x ∷ [])
      ∙ ap (λ (b : Bool). arrivals_in d came ++ (if b then x.words ∷ [] else [])) (ne_eqb x.domain d other)
      ∙ nothing_after (arrivals_in d came)
    where
      nothing_after : (xs : List Arrival) → xs ++ [] ≡ xs
      nothing_after [] = refl
      nothing_after (x ∷ xs) = ap (λ (ys : List Arrival). x ∷ ys) (nothing_after xs)

-- ---- the domain alone

module _ (p : Public) (o : Own) (d : ℕ) where
  -- its slots before slot k
  abbrev before : ℕ → ℕ
  before k = turns p.schedule d k

  early_if : (b : Bool) (k n : ℕ) (s : Local) (came more : List Arrival) → (if b then suc n else n) ≤ length came
      → alone_if p o k (nth_of (came ++ more) n) s b ≡ alone_if p o k (nth_of came n) s b
  unfolding alone_if
  early_if true k n s came more few =
      ap (λ (words : Arrival). alone_if p o k words s true) (get_or_append_left came more [] n (omega (arith, few)))
  early_if false k n s came more few = refl

  fewer_if : (b : Bool) (n most : ℕ) → (if b then suc n else n) ≤ most → n ≤ most
  fewer_if true n most few = omega (arith, few)
  fewer_if false n most few = few

  -- what comes later makes no difference
  pub alone_early : (came more : List Arrival) (k : ℕ) → turns p.schedule d k ≤ length came
      → alone_mail p o d (came ++ more) k ≡ alone_mail p o d came k
  unfolding alone_mail turns
  alone_early came more zero few = refl
  alone_early came more (suc k) few =
      let its = eqb (entry_of_slot p.schedule k).domain d in
      early_if its k (before k) (alone_mail p o d (came ++ more) k) came more few
      ∙ ap (λ (s : Local). alone_if p o k (nth_of came (before k)) s its)
      (alone_early came more k (fewer_if its (before k) (length came) few))

  -- the next slot of its own begins with what comes then
  pub next_arrival : (came : List Arrival) (words : Arrival) (k : ℕ) → length came ≡ turns p.schedule d k
      → nth_of (came ++ words ∷ []) (turns p.schedule d k) ≡ words
  next_arrival came words k all = get_or_push came words [] (before k) all

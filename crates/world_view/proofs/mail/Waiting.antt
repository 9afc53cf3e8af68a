-- Where what waits in a box comes from, by induction on the order of events from its end.
use Rattle.std.proofs.Common.{◌≡◌, ◌≢◌, ◌⊎◌, ◌++◌, ℕ, zero, suc, ◌<◌, List, [], ◌∷◌, Some, inl, inr, ap, sym, ◌∙◌, refl, subst}
use Rattle.std.specs.Prelude.{slice_get}
use Rattle.std.specs.List.{All}
use Rattle.std.proofs.lemmas.List.{append-nil, append_assoc}
use Rattle.std.proofs.lemmas.List.Elements.{All-nil, All-cons, All-head, All-tail, All-push}
use Rattle.std.proofs.lemmas.Option.{same_Some}
use Rattle.sched_table.specs.Schedule.{harts_in}
use Rattle.image_check.specs.Image.{Image}
use Rattle.image_check.specs.Laws.{Runnable}
use Rattle.mail_slots.specs.Boxes.{Mailbox, empty_box, opening}
use Rattle.world_view.specs.Event.{Storage}
use Rattle.world_view.specs.Harts.{Harts, next, after, harts, after_by, harts_by}
use Rattle.world_view.specs.HartLaws.{AreHartsOf}
use Rattle.world_view.specs.MailLaws.{Enters, GoesOff, NoneGoesOff, StaysThere, WentOff, WaitsLaw, KeptLaw}
use Rattle.world_view.proofs.harts.Runs.{storage_cold, Running, next_so}
use Rattle.world_view.proofs.harts.Isolation.{running, next_law}
use Rattle.world_view.proofs.mail.BoxEvents.{put_in_so, enters_or_not, goes_or_not, before_at}

-- ---- orders

not_nothing : (ys : List ℕ) (y : ℕ) (zs : List ℕ) → [] ≡ ys ++ y ∷ zs → ⊥
not_nothing [] y zs e = cc e
not_nothing (x ∷ ys) y zs e = cc e

same_first : (x y : ℕ) (xs ys : List ℕ) → x ∷ xs ≡ y ∷ ys → x ≡ y
same_first x y xs ys e = cc e

same_rest : (x y : ℕ) (xs ys : List ℕ) → x ∷ xs ≡ y ∷ ys → xs ≡ ys
same_rest x y xs ys e = cc e

-- of a list with one more at its end: it is that one, or one before
last_or : (xs : List ℕ) (x : ℕ) (ys : List ℕ) (y : ℕ) (zs : List ℕ) → xs ++ x ∷ [] ≡ ys ++ y ∷ zs
    → ((ys ≡ xs) × (y ≡ x)) ⊎ ((rest : List ℕ) × (xs ≡ ys ++ y ∷ rest))
last_or [] x [] y zs e = inl (refl, sym (same_first _ _ _ _ e))
last_or [] x (w ∷ ys) y zs e = absurd (not_nothing ys y zs (same_rest _ _ _ _ e))
last_or (v ∷ xs) x [] y zs e = inr (xs, ap (λ (n : ℕ). n ∷ xs) (same_first _ _ _ _ e))
last_or (v ∷ xs) x (w ∷ ys) y zs e =
    let first = same_first _ _ _ _ e in
    elim (last_or xs x ys y zs (same_rest _ _ _ _ e)) [
      | inl same ↦ inl (ap (λ (ns : List ℕ). w ∷ ns) same.0 ∙ ap (λ (n : ℕ). n ∷ xs) (sym first), same.1)
      | inr before ↦
          inr (before.0, ap (λ (n : ℕ). n ∷ xs) first ∙ ap (λ (ns : List ℕ). w ∷ ns) before.1)
    ]

module _ (P : ℕ → Type 0) where
  all_before : (xs ys : List ℕ) → All P (xs ++ ys) → All P xs
  all_before [] ys all = All-nil P
  all_before (x ∷ xs) ys all =
      All-cons P x xs (All-head P x (xs ++ ys) all) (all_before xs ys (All-tail P x (xs ++ ys) all))

  all_after : (xs ys : List ℕ) → All P (xs ++ ys) → All P ys
  all_after [] ys all = all
  all_after (x ∷ xs) ys all = all_after xs ys (All-tail P x (xs ++ ys) all)

after_both : (i : Image) (xs ys : List ℕ) (s : Harts) → after i (xs ++ ys) s ≡ after i ys (after i xs s)
unfolding after_by
after_both i [] ys s = refl
after_both i (x ∷ xs) ys s = after_both i xs ys (next i x s)

pub harts_both : (i : Image) (xs ys : List ℕ) → harts i (xs ++ ys) ≡ after i ys (harts i xs)
unfolding harts_by
harts_both i xs ys = after_both i xs ys _

-- ---- before the first event

empty_at : (declared : List (ℕ × ℕ)) (a : ℕ) (box : Mailbox) → slice_get (opening declared) a ≡ Some box → box.sent ≡ []
unfolding opening
empty_at [] a box is = absurd (cc is)
empty_at (x ∷ declared) zero box is = ap (λ (b : Mailbox). b.sent) (sym (same_Some (empty_box x) box is))
empty_at (x ∷ declared) (suc a) box is = empty_at declared a box is

module _ (i : Image) (r : Runnable i) (a : ℕ) where
  abbrev many : ℕ
  many = harts_in i.all.schedule

  first_sent : (box : Mailbox) → slice_get (harts i []).world.storage.boxes a ≡ Some box → box.sent ≡ []
  unfolding harts_by after_by
  first_sent box at =
      empty_at i.all.mail a box
      (subst (λ (t : Storage). slice_get t.boxes a ≡ Some box) (storage_cold i (harts_in i.all.schedule)) at)

  -- ---- one event

  -- one with which nothing goes off, and in which d doesn't enter
  module _ (d : ℕ) (words before : List ℕ) (h : ℕ) (w : WentOff i a d words before)
      (none : NoneGoesOff i h a (harts i before)) (not : Enters i h d (harts i before) → ⊥) where
    abbrev start : List ℕ
    start = w.before ++ w.hart ∷ []

    before_is : after i w.later (harts i start) ≡ harts i before
    before_is =
        sym (harts_both i start w.later)
        ∙ ap (harts i) (append_assoc w.before (w.hart ∷ []) w.later ∙ sym w.split)

    more_stay : StaysThere i a d (w.later ++ h ∷ []) (harts i start)
    more_stay ys zs y e = elim (last_or w.later h ys y zs e) [
      | inl same ↦
          let s = after i ys (harts i start) in
          let is : s ≡ harts i before = ap (λ (xs : List ℕ). after i xs (harts i start)) same.0 ∙ before_is in (
            subst (λ (t : Harts). NoneGoesOff i y a t) (sym is) (subst (λ (g : ℕ). NoneGoesOff i g a (harts i before)) (sym same.1) none),
            λ enters. not (subst (λ (g : ℕ). Enters i g d (harts i before)) same.1 (subst (λ (t : Harts). Enters i y d t) is enters)),
          )
      | inr rest ↦ w.since ys rest.0 y rest.1
    ]

    still_off : WentOff i a d words (before ++ h ∷ [])
    still_off = record {
      before = w.before;
      hart = w.hart;
      later = w.later ++ h ∷ [];
      split = ap (λ (xs : List ℕ). xs ++ h ∷ []) w.split ∙ append_assoc w.before (w.hart ∷ w.later) (h ∷ []);
      goes_off = w.goes_off;
      stays = w.stays;
      since = more_stay;
    }

  -- one with which words go off, to d, which doesn't enter
  now_off : (d : ℕ) (words before : List ℕ) (h : ℕ) → GoesOff i h a words (harts i before)
      → (Enters i h d (harts i before) → ⊥) → WentOff i a d words (before ++ h ∷ [])
  now_off d words before h goes not = record {
    before = before;
    hart = h;
    later = [];
    split = refl;
    goes_off = goes;
    stays = not;
    since = λ ys zs y e. absurd (not_nothing ys y zs e);
  }

  -- ---- every order

  abbrev Comes : List ℕ → Type 0
  Comes order = (box : Mailbox) → slice_get (harts i order).world.storage.boxes a ≡ Some box → box.sent ≢ []
      → WentOff i a box.to box.sent order

  one_more : (before : List ℕ) (h : ℕ) → AreHartsOf i before → h < many → Comes before → Comes (before ++ h ∷ [])
  one_more before h below is comes box at some =
      let s = harts i before in
      let order = before ++ h ∷ [] in
      let b =
      before_at i h a s r is (running i r before below) box
      (ap (λ (t : Harts). slice_get t.world.storage.boxes a) (sym (next_law i before h)) ∙ at) in
      let its : (words : List ℕ) → box.sent ≡ words → WentOff i a b.box.to words order → WentOff i a box.to box.sent order =
      λ words same went.
      subst (λ (d : ℕ). WentOff i a d box.sent order) (sym b.to) (subst (λ (ws : List ℕ). WentOff i a b.box.to ws order) (sym same) went) in
      elim (enters_or_not i h s b.box.to) [
        | inl enters ↦ absurd (some (b.entered enters))
        | inr not ↦ elim (goes_or_not i h s a b.box b.there) [
          | inl goes ↦ its b.box.out (b.went goes not) (now_off b.box.to b.box.out before h goes not)
          | inr none ↦
              let same = b.stayed none not in
              its b.box.sent same
              (still_off b.box.to b.box.sent before h (comes b.box b.there (λ e. some (same ∙ e))) none not)
        ]
      ]

  all_come : (before later : List ℕ) → AreHartsOf i before → AreHartsOf i later → Comes before → Comes (before ++ later)
  all_come before [] below rest comes = subst Comes (sym (append-nil before)) comes
  all_come before (h ∷ later) below rest comes =
      let is = All-head (λ (x : ℕ). x < many) h later rest in
      subst Comes (append_assoc before (h ∷ []) later)
      (all_come (before ++ h ∷ []) later (All-push (λ (x : ℕ). x < many) before h below is)
      (All-tail (λ (x : ℕ). x < many) h later rest) (one_more before h below is comes))

  -- ---- what went off

  -- these words wait for d
  abbrev Waits : ℕ → List ℕ → Harts → Type 0
  Waits d words s = (box : Mailbox) → slice_get s.world.storage.boxes a ≡ Some box → box.to ≡ d → box.sent ≡ words

  kept_from : (d : ℕ) (words later : List ℕ) (s : Harts) → AreHartsOf i later → Running i r s → StaysThere i a d later s
      → Waits d words s → Waits d words (after i later s)
  unfolding after_by
  kept_from d words [] s below was stays waits = waits
  kept_from d words (h ∷ later) s below was stays waits =
      let is = All-head (λ (x : ℕ). x < many) h later below in
      let now = stays [] later h refl in
      kept_from d words later (next i h s) (All-tail (λ (x : ℕ). x < many) h later below) (next_so i r h is s was).running
      (λ ys zs y e. stays (h ∷ ys) zs y (ap (λ (xs : List ℕ). h ∷ xs) e))
      (λ box at to.
      let b = before_at i h a s r is was box at in
      let here : b.box.to ≡ d = sym b.to ∙ to in
      b.stayed now.0 (λ enters. now.1 (subst (λ (x : ℕ). Enters i h x s) here enters)) ∙ waits b.box b.there here)

  went_waits : (d : ℕ) (words before : List ℕ) (h : ℕ) → AreHartsOf i before → h < many
      → GoesOff i h a words (harts i before) → (Enters i h d (harts i before) → ⊥) → Waits d words (harts i (before ++ h ∷ []))
  went_waits d words before h below is goes not box at to =
      let s = harts i before in
      let b =
      before_at i h a s r is (running i r before below) box
      (ap (λ (t : Harts). slice_get t.world.storage.boxes a) (sym (next_law i before h)) ∙ at) in
      let out : b.box.out ≡ words = put_in_so i h s a b.box b.there words goes in
      b.went (subst (λ (ws : List ℕ). GoesOff i h a ws s) (sym out) goes)
      (λ enters. not (subst (λ (x : ℕ). Enters i h x s) (sym b.to ∙ to) enters)) ∙ out

pub waits_law : WaitsLaw
waits_law i a order box r below at some =
    all_come i r a [] order (All-nil (λ (x : ℕ). x < harts_in i.all.schedule)) below
    (λ first there sent. absurd (sent (first_sent i r a first there))) box at some

pub kept_law : KeptLaw
kept_law i a words order box r below at w =
    let many = harts_in i.all.schedule in
    let Below : ℕ → Type 0 = λ x. x < many in
    let all : All Below (w.before ++ w.hart ∷ w.later) = subst (All Below) w.split below in
    let from = all_before Below w.before (w.hart ∷ w.later) all in
    let rest = all_after Below w.before (w.hart ∷ w.later) all in
    let is = All-head Below w.hart w.later rest in
    let start = w.before ++ w.hart ∷ [] in
    let whole : order ≡ start ++ w.later = w.split ∙ sym (append_assoc w.before (w.hart ∷ []) w.later) in
    kept_from i r a box.to words w.later (harts i start) (All-tail Below w.hart w.later rest)
    (running i r start (All-push Below w.before w.hart from is)) w.since
    (went_waits i r a box.to words w.before w.hart from is w.goes_off w.stays) box
    (ap (λ (t : Harts). slice_get t.world.storage.boxes a) (sym (harts_both i start w.later) ∙ ap (harts i) (sym whole)) ∙ at) refl

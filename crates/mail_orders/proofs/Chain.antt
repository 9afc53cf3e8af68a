-- Two runs of images that agree on all from whom a chain of boxes leads to a domain, in which the harts of each box take the same
-- turns: the same comes to each of these domains, by induction on the events of both.
use Rattle.std.proofs.Common.{◌≡◌, ◌≢◌, ◌⊎◌, ◌++◌, ℕ, suc, ◌<◌, ◌≤◌, List, [], ◌∷◌, Some, inl, inr, ap, sym, ◌∙◌, refl, subst, subst₂, arith}
use Rattle.std.specs.Prelude.{slice_get}
use Rattle.std.proofs.lemmas.Bool.{cases_eq, cases_order}
use Rattle.std.proofs.lemmas.List.{append-nil, append_assoc}
use Rattle.sched_table.specs.Schedule.{hart_for, harts_in}
use Rattle.image_check.specs.Public.{Public}
use Rattle.image_check.specs.Image.{Image, own_of}
use Rattle.image_check.specs.Laws.{Runnable}
use Rattle.world_view.specs.Machine.{arrivals}
use Rattle.world_view.specs.Harts.{Harts, IsOutside, hart_of_domain, slots_of, switches_of, next, harts}
use Rattle.world_view.specs.HartLaws.{AreHartsOf}
use Rattle.world_view.specs.MailLaws.{Leads}
use Rattle.world_view.proofs.harts.Runs.{Running}
use Rattle.world_view.proofs.harts.Isolation.{running, next_law}
use Rattle.mail_orders.specs.Turns.{TakeTurns, ChainTakesTurns}
use Rattle.mail_orders.proofs.Prefixes.{all_before, holds_next, each_prefix}
use Rattle.mail_orders.proofs.Counts.{IsSwitch, switch_or_not, count_outside, count_other, count_stays, count_more}
use Rattle.mail_orders.proofs.Turns.{none_first}
use Rattle.mail_orders.proofs.Waits.{ends_of, came_stays, waits_still, NoneCame, none_came, NoneSent, none_sent}
use Rattle.mail_orders.proofs.Both.{SameSent, sent_next, came_next}

module _ (i j : Image) (d : ℕ) (r : Runnable i) (q : Runnable j) (all : i.all ≡ j.all)
    (own : (e : ℕ) → Leads i d e → own_of i e ≡ own_of j e) where
  -- a box of the chain
  record IsBox (a e f : ℕ) : Type 0 where
    mail : slice_get i.all.mail a ≡ Some (e, f)
    leads : Leads i d f

  -- the hart of a domain, which is the same in both
  abbrev home : ℕ → ℕ
  home = hart_of_domain i

  abbrev SameCount : ℕ → Harts → Harts → Type 0
  SameCount h s t = switches_of h s ≡ switches_of h t

  -- the same came to each, as far as its hart has had as many switches in both, and the same waits in each box, as far as both of
  -- its harts have
  record AreSame (s t : Harts) : Type 0 where
    came : (f : ℕ) → Leads i d f → SameCount (home f) s t → arrivals f s.world ≡ arrivals f t.world
    waits : (a e f : ℕ) → IsBox a e f → SameCount (home e) s t → SameCount (home f) s t → SameSent a s t

  -- the harts of each box take the same turns
  abbrev InTurn : Harts → Harts → Type 0
  InTurn s t = (a e f : ℕ) → IsBox a e f → home e ≢ home f → TakeTurns (home e) (home f) s t

  mail' : (a e f : ℕ) → IsBox a e f → slice_get j.all.mail a ≡ Some (e, f)
  mail' a e f box = ap (λ (p : Public). slice_get p.mail a) (sym all) ∙ box.mail

  home_is : (e : ℕ) → home e ≡ hart_of_domain j e
  home_is e = ap (λ (p : Public). hart_for p.schedule e) all

  -- what is known of two runs after some of their events
  record AreRunning (s t : Harts) : Type 0 where
    here : Running i r s
    there : Running j q t
    none_sent_here : NoneSent i r s
    none_sent_there : NoneSent j q t
    none_came_here : NoneCame i r s
    none_came_there : NoneCame j q t

  -- where no slot of the sender's hart has ended, nothing waits in both
  none_waits : (s t : Harts) → AreRunning s t → (a e f : ℕ) → IsBox a e f → switches_of (home e) s ≤ 1
      → switches_of (home e) t ≤ 1 → SameSent a s t
  none_waits s t are a e f box few few' x y at at' =
      let from = ap (λ (p : ℕ × ℕ). switches_of (home p.0) s) (ends_of i r s are.here a e f x box.mail at) in
      let from' = ap (λ (p : ℕ × ℕ). switches_of (hart_of_domain j p.0) t) (ends_of j q t are.there a e f y (mail' a e f box) at') in
      let homes = ap (λ (h : ℕ). switches_of h t) (home_is e) in
      are.none_sent_here a x at (omega (arith, few, from)) ∙ sym (are.none_sent_there a y at' (omega (arith, few', from', homes)))

  -- where one of them is before its first event
  unbegun : (s t : Harts) → AreRunning s t → ((h : ℕ) → SameCount h s t → switches_of h s ≡ 0) → AreSame s t
  unbegun s t are none = record {
    came = λ f leads count.
        are.none_came_here f (none (home f) count)
        ∙ sym (are.none_came_there f (ap (λ (h : ℕ). switches_of h t) (sym (home_is f)) ∙ sym count ∙ none (home f) count));
    waits = λ a e f box count_e count_f.
        let zero_e = none (home e) count_e in
        none_waits s t are a e f box (omega (arith, zero_e)) (omega (arith, zero_e, count_e));
  }

  -- ---- a switch of the same hart in both

  module _ (x : ℕ) (is : x < harts_in i.all.schedule) (s t : Harts) (are : AreRunning s t) (outside : IsOutside x s)
      (outside' : IsOutside x t) (count : SameCount x s t) (before : AreSame s t) where
    there_too : x < harts_in j.all.schedule
    there_too = subst (λ (p : Public). x < harts_in p.schedule) all is

    slots : slots_of x s ≡ slots_of x t
    slots = sym (count_outside x s outside) ∙ count ∙ count_outside x t outside'

    at_home : (h : ℕ) → h ≡ x → SameCount h s t
    at_home h at = subst (λ (n : ℕ). SameCount n s t) (sym at) count

    came_here : (e : ℕ) → Leads i d e → home e ≡ x → arrivals e s.world ≡ arrivals e t.world
    came_here e leads at = before.came e leads (at_home (home e) at)

    -- before it as many as after it
    count_back : (h : ℕ) → SameCount h (next i x s) (next j x t) → SameCount h s t
    count_back h same = elim (cases_eq h x) [
      | inl at ↦ at_home h at
      | inr other ↦
          sym (count_other i r x is s are.here h other) ∙ same
          ∙ count_other j q x there_too t are.there h other
    ]

    waits_both : (a e f : ℕ) → IsBox a e f → SameCount (home e) (next i x s) (next j x t)
        → SameCount (home f) (next i x s) (next j x t) → SameSent a (next i x s) (next j x t)
    waits_both a e f box count_e count_f =
        sent_next i j d r q all own x is s t are.here are.there outside outside' slots came_here a e f box.mail box.leads
        (before.waits a e f box (count_back (home e) count_e) (count_back (home f) count_f))

    module _ (right : InTurn (next i x s) t) (left : InTurn s (next j x t)) (f : ℕ) (leads : Leads i d f) (at : home f ≡ x) where
      one_more_here : switches_of (home f) (next i x s) ≡ suc (switches_of (home f) s)
      one_more_here = count_more i r x is s are.here (home f) (record { hart = sym at; outside = outside })

      one_more_there : switches_of (home f) (next j x t) ≡ suc (switches_of (home f) t)
      one_more_there = count_more j q x there_too t are.there (home f) (record { hart = sym at; outside = outside' })

      -- the sender's hart, where it is another, has had as many switches in both, or no slot of it has ended
      waits_apart : (a e : ℕ) → IsBox a e f → home e ≢ home f → SameSent a s t
      waits_apart a e box apart =
          let other : home e ≢ x = λ same. apart (same ∙ sym at) in
          let here = count_other i r x is s are.here (home e) other in
          let there = count_other j q x there_too t are.there (home e) other in
          let count_f = at_home (home f) at in
          elim (cases_order (switches_of (home e) s) (switches_of (home e) t)) [
            | inl same ↦ before.waits a e f box same count_f
            | inr (inl less) ↦
                let few = (right a e f box apart).behind
                (record { more = omega (arith, one_more_here, count_f); fewer = omega (arith, here, less) }) in
                none_waits s t are a e f box (omega (arith, few, less)) few
            | inr (inr more) ↦
                let few = (left a e f box apart).ahead
                (record { more = omega (arith, there, more); fewer = omega (arith, one_more_there, count_f) }) in
                none_waits s t are a e f box few (omega (arith, few, more))
          ]

      waits_here : (a e : ℕ) → slice_get i.all.mail a ≡ Some (e, f) → SameSent a s t
      waits_here a e mail =
          let box : IsBox a e f = record { mail = mail; leads = leads } in
          elim (cases_eq (home e) (home f)) [
            | inl same ↦ before.waits a e f box (at_home (home e) (same ∙ at)) (at_home (home f) at)
            | inr apart ↦ waits_apart a e box apart
          ]

      came_both : arrivals f (next i x s).world ≡ arrivals f (next j x t).world
      came_both =
          came_next i j d r q all own x is s t are.here are.there outside outside' slots came_here f leads
          (before.came f leads (at_home (home f) at)) waits_here

  -- ---- an event of each

  -- an event is a switch of one of a box's harts
  record IsOfBox (e f x : ℕ) (s : Harts) : Type 0 where
    outside : IsOutside x s
    one : (x ≡ home e) ⊎ (x ≡ home f)

  -- or it leaves what waits in it
  record IsOfNone (e f x : ℕ) (s : Harts) : Type 0 where
    sender : IsSwitch (home e) x s → ⊥
    receiver : IsSwitch (home f) x s → ⊥

  of_box_or_not : (k : Image) (e f x : ℕ) (s : Harts) → IsOfBox e f x s ⊎ IsOfNone e f x s
  of_box_or_not k e f x s = elim (switch_or_not k (home e) x s) [
    | inl w ↦ inl (record { outside = w.outside; one = inl w.hart })
    | inr no_e ↦ elim (switch_or_not k (home f) x s) [
      | inl w ↦ inl (record { outside = w.outside; one = inr w.hart })
      | inr no_f ↦ inr (record { sender = no_e; receiver = no_f })
    ]
  ]

  module _ (x y : ℕ) (is : x < harts_in i.all.schedule) (is' : y < harts_in j.all.schedule) (s t : Harts) (are : AreRunning s t)
      (later : AreRunning (next i x s) (next j y t)) (before : AreSame s t) (right : AreSame (next i x s) t)
      (left : AreSame s (next j y t)) (turn : InTurn s t) (turn_right : InTurn (next i x s) t)
      (turn_left : InTurn s (next j y t)) where
    abbrev s' : Harts
    s' = next i x s

    abbrev t' : Harts
    t' = next j y t

    here_more : (h : ℕ) → x ≡ h → IsOutside x s → switches_of h s' ≡ suc (switches_of h s)
    here_more h same outside = count_more i r x is s are.here h (record { hart = same; outside = outside })

    there_more : (h : ℕ) → y ≡ h → IsOutside y t → switches_of h t' ≡ suc (switches_of h t)
    there_more h same outside = count_more j q y is' t are.there h (record { hart = same; outside = outside })

    here_stays : (h : ℕ) → (IsSwitch h x s → ⊥) → switches_of h s' ≡ switches_of h s
    here_stays h none = count_stays i r x is s are.here h none

    there_stays : (h : ℕ) → (IsSwitch h y t → ⊥) → switches_of h t' ≡ switches_of h t
    there_stays h none = count_stays j q y is' t are.there h none

    -- where both are a switch of the same hart, it has had as many before
    count_before : (h : ℕ) → x ≡ h → y ≡ h → IsOutside x s → IsOutside y t → SameCount h s' t' → SameCount h s t
    count_before h here there outside outside' count =
        let one = here_more h here outside in
        let two = there_more h there outside' in
        omega (arith, one, two, count)

    -- ---- what came

    came_step : (f : ℕ) → Leads i d f → SameCount (home f) s' t' → arrivals f s'.world ≡ arrivals f t'.world
    came_step f leads count = elim (switch_or_not i (home f) x s) [
      | inr none ↦ came_stays i r x is s are.here f none ∙ left.came f leads (sym (here_stays (home f) none) ∙ count)
      | inl w ↦ elim (switch_or_not j (home f) y t) [
        | inr none ↦
            right.came f leads (count ∙ there_stays (home f) none)
            ∙ sym (came_stays j q y is' t are.there f (subst (λ (h : ℕ). IsSwitch h y t → ⊥) (home_is f) none))
        | inl w' ↦
            let same : y ≡ x = w'.hart ∙ sym w.hart in
            let at : home f ≡ x = sym w.hart in
            let before_x = count_before (home f) w.hart w'.hart w.outside w'.outside count in
            came_both x is s t are w.outside (subst (λ (n : ℕ). IsOutside n t) same w'.outside)
            (subst (λ (n : ℕ). SameCount n s t) at before_x) before turn_right
            (subst (λ (n : ℕ). InTurn s (next j n t)) same turn_left) f leads at
            ∙ ap (λ (n : ℕ). arrivals f (next j n t).world) (sym same)
      ]
    ]

    -- ---- what waits

    module _ (a e f : ℕ) (box : IsBox a e f) (count_e : SameCount (home e) s' t') (count_f : SameCount (home f) s' t') where
      -- only one of the harts had a switch, in one of them
      none_here : IsOfNone e f x s → SameSent a s' t'
      none_here none one two at at' =
          let had = waits_still i r x is s are.here a e f box.mail none.sender none.receiver one at in
          had.sent
          ∙ left.waits a e f box (sym (here_stays (home e) none.sender) ∙ count_e) (sym (here_stays (home f) none.receiver) ∙ count_f)
          had.box two had.there at'

      none_there : IsOfNone e f y t → SameSent a s' t'
      none_there none one two at at' =
          let had =
          waits_still j q y is' t are.there a e f (mail' a e f box)
          (subst (λ (h : ℕ). IsSwitch h y t → ⊥) (home_is e) none.sender)
          (subst (λ (h : ℕ). IsSwitch h y t → ⊥) (home_is f) none.receiver) two at' in
          right.waits a e f box (count_e ∙ there_stays (home e) none.sender) (count_f ∙ there_stays (home f) none.receiver)
          one had.box at had.there
          ∙ sym had.sent

      -- both had one, of the same hart
      both_same : (h : ℕ) → x ≡ h → y ≡ h → IsOutside x s → IsOutside y t → SameCount h s' t' → SameSent a s' t'
      both_same h here there outside outside' count =
          let same : y ≡ x = there ∙ sym here in
          let before_h = count_before h here there outside outside' count in
          let over : (P : ℕ → Type 0) → P y → P x = λ P p. subst P same p in
          subst (λ (n : ℕ). SameSent a s' (next j n t)) (sym same)
          (waits_both x is s t are outside (over (λ (n : ℕ). IsOutside n t) outside')
          (subst (λ (n : ℕ). SameCount n s t) (sym here) before_h) before a e f box
          (over (λ (n : ℕ). SameCount (home e) s' (next j n t)) count_e)
          (over (λ (n : ℕ). SameCount (home f) s' (next j n t)) count_f))

      -- or not: then one passes the other
      sender_here : x ≡ home e → y ≡ home f → home e ≢ home f → IsOutside x s → IsOutside y t → switches_of (home e) s' ≤ 1
      sender_here here there apart outside outside' =
          let e_here = here_more (home e) here outside in
          let f_here = here_stays (home f) (λ w. apart (sym here ∙ w.hart)) in
          let f_there = there_more (home f) there outside' in
          let e_there = there_stays (home e) (λ w. apart (sym w.hart ∙ there)) in
          let few = (turn a e f box apart).behind
          (record { more = omega (arith, f_here, f_there, count_f); fewer = omega (arith, e_here, e_there, count_e) }) in
          omega (arith, few, e_there, count_e)

      receiver_here : x ≡ home f → y ≡ home e → home e ≢ home f → IsOutside x s → IsOutside y t → switches_of (home e) s' ≤ 1
      receiver_here here there apart outside outside' =
          let f_here = here_more (home f) here outside in
          let e_here = here_stays (home e) (λ w. apart (sym w.hart ∙ here)) in
          let e_there = there_more (home e) there outside' in
          let f_there = there_stays (home f) (λ w. apart (sym there ∙ w.hart)) in
          let few = (turn a e f box apart).ahead
          (record { more = omega (arith, e_here, e_there, count_e); fewer = omega (arith, f_here, f_there, count_f) }) in
          omega (arith, few, e_here)

      no_slot : switches_of (home e) s' ≤ 1 → SameSent a s' t'
      no_slot few = none_waits s' t' later a e f box few (omega (arith, few, count_e))

      both_if : IsOutside x s → IsOutside y t → (x ≡ home e) ⊎ (x ≡ home f) → (y ≡ home e) ⊎ (y ≡ home f)
          → (home e ≡ home f) ⊎ (home e ≢ home f) → SameSent a s' t'
      both_if outside outside' (inl here) (inl there) o = both_same (home e) here there outside outside' count_e
      both_if outside outside' (inr here) (inr there) o = both_same (home f) here there outside outside' count_f
      both_if outside outside' (inl here) (inr there) (inl same) =
          both_same (home e) here (there ∙ sym same) outside outside' count_e
      both_if outside outside' (inl here) (inr there) (inr apart) = no_slot (sender_here here there apart outside outside')
      both_if outside outside' (inr here) (inl there) (inl same) =
          both_same (home e) (here ∙ sym same) there outside outside' count_e
      both_if outside outside' (inr here) (inl there) (inr apart) = no_slot (receiver_here here there apart outside outside')

      waits_step : SameSent a s' t'
      waits_step = elim (of_box_or_not i e f x s) [
        | inr none ↦ none_here none
        | inl w ↦ elim (of_box_or_not j e f y t) [
          | inr none ↦ none_there none
          | inl w' ↦ both_if w.outside w'.outside w.one w'.one (cases_eq (home e) (home f))
        ]
      ]

    same_step : AreSame s' t'
    same_step = record { came = came_step; waits = waits_step }

  -- ---- all events of both

  module _ (one two : List ℕ) (below : AreHartsOf i one) (below' : AreHartsOf j two) (turns : ChainTakesTurns i j d one two) where
    abbrev many : ℕ
    many = harts_in i.all.schedule

    abbrev many' : ℕ
    many' = harts_in j.all.schedule

    below_at : (before later : List ℕ) → one ≡ before ++ later → AreHartsOf i before
    below_at before later split = all_before (λ (h : ℕ). h < many) before later (subst (AreHartsOf i) split below)

    below_at' : (past rest : List ℕ) → two ≡ past ++ rest → AreHartsOf j past
    below_at' past rest split = all_before (λ (h : ℕ). h < many') past rest (subst (AreHartsOf j) split below')

    running_at : (before later past rest : List ℕ) → one ≡ before ++ later → two ≡ past ++ rest
        → AreRunning (harts i before) (harts j past)
    running_at before later past rest split split' =
        let l = below_at before later split in
        let l' = below_at' past rest split' in
        record {
          here = running i r before l;
          there = running j q past l';
          none_sent_here = none_sent i r before l;
          none_sent_there = none_sent j q past l';
          none_came_here = none_came i r before l;
          none_came_there = none_came j q past l';
        }

    turn_at : (before later past rest : List ℕ) → one ≡ before ++ later → two ≡ past ++ rest
        → InTurn (harts i before) (harts j past)
    turn_at before later past rest split split' a e f box apart =
        turns a e f box.mail box.leads apart before later past rest split split'

    -- whatever the other has come to
    abbrev SameAt : List ℕ → Type 0
    SameAt before = (past rest : List ℕ) → two ≡ past ++ rest → AreSame (harts i before) (harts j past)

    first_at : SameAt []
    first_at past rest split =
        unbegun (harts i []) (harts j past) (running_at [] one past rest refl split) (λ h count. none_first i r h)

    more : (before later : List ℕ) (x : ℕ) → one ≡ before ++ x ∷ later → SameAt before → SameAt (before ++ x ∷ [])
    more before later x split same =
        each_prefix two (λ (past : List ℕ). AreSame (harts i (before ++ x ∷ [])) (harts j past)) both_more
        (unbegun (harts i (before ++ x ∷ [])) (harts j [])
        (running_at (before ++ x ∷ []) later [] two (split_more one before later x split) refl)
        (λ h count. count ∙ none_first j q h))
      where
        split_more : (order xs ys : List ℕ) (h : ℕ) → order ≡ xs ++ h ∷ ys → order ≡ (xs ++ h ∷ []) ++ ys
        split_more order xs ys h e = e ∙ sym (append_assoc xs (h ∷ []) ys)

        both_more : (past rest : List ℕ) (y : ℕ) → two ≡ past ++ y ∷ rest
            → AreSame (harts i (before ++ x ∷ [])) (harts j past) → AreSame (harts i (before ++ x ∷ [])) (harts j (past ++ y ∷ []))
        both_more past rest y split' right =
            let s = harts i before in
            let t = harts j past in
            let here = next_law i before x in
            let there = next_law j past y in
            let after = split_more one before later x split in
            let after' = split_more two past rest y split' in
            subst₂ AreSame (sym here) (sym there)
            (same_step x y (holds_next (λ (h : ℕ). h < many) before later x (subst (AreHartsOf i) split below))
            (holds_next (λ (h : ℕ). h < many') past rest y (subst (AreHartsOf j) split' below')) s t
            (running_at before (x ∷ later) past (y ∷ rest) split split')
            (subst₂ AreRunning here there (running_at (before ++ x ∷ []) later (past ++ y ∷ []) rest after after'))
            (same past (y ∷ rest) split')
            (subst (λ (u : Harts). AreSame u t) here right)
            (subst (AreSame s) there (same (past ++ y ∷ []) rest after'))
            (turn_at before (x ∷ later) past (y ∷ rest) split split')
            (subst (λ (u : Harts). InTurn u t) here (turn_at (before ++ x ∷ []) later past (y ∷ rest) after split'))
            (subst (InTurn s) there (turn_at before (x ∷ later) (past ++ y ∷ []) rest split after')))

    -- after all of them the same came, where its hart has had as many switches
    pub same_came : (f : ℕ) → Leads i d f → SameCount (home f) (harts i one) (harts j two)
        → arrivals f (harts i one).world ≡ arrivals f (harts j two).world
    same_came =
        (each_prefix one SameAt more first_at one [] (sym (append-nil one)) two [] (sym (append-nil two))).came

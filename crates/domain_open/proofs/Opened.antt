-- A domain at its entry: what is free of its pool, and what its slots name.
use Rattle.std.proofs.Common.{◌≡◌, ℕ, zero, suc, ◌+◌, ◌-◌, ◌*◌, ◌<◌, ◌≤◌, min, Bool, true, false, true≢false, cond, not, ◌||◌, List, [], ◌∷◌, ◌++◌, length, get_or, drop, Option, Some, inl, inr, refl, ap, sym, subst, ◌∙◌, arith}
use Rattle.std.specs.Prelude.{filter, IfOk, Result, Ok, Err}
use Rattle.std.specs.List.Sorted.{IsStrictlyIncreasing}
use Rattle.std.proofs.lemmas.Bool.{cases_Bool, cases_lt, and_parts, and_cases, leb-true, ltb-true, leb-false, ltb-false, lt-ltb}
use Rattle.std.proofs.lemmas.Option.{none-some, same_Some}
use Rattle.std.proofs.lemmas.List.{get_or-drop, length-drop}
use Rattle.frame_colours.specs.Colours as colours
use Rattle.frame_colours.proofs.Pools.{all_free_is_free_list}
use Rattle.cap_table.specs.Slots.{Slots}
use Rattle.thread_set.specs.Models.{threads_model}
use Rattle.thread_set.specs.Threads as threads
use Rattle.irq_partition.specs.Interrupts as irq
use Rattle.kernel_clone.specs.Models.{layout_model}
use Rattle.call_table.specs.Claims.{Claim, frame_of, entry_places, claims, is_named, free_frames}
use Rattle.call_table.specs.Domain as domain
use Rattle.call_table.proofs.ClaimLawsSlots.{named_by, names, claims_fixed}
use Rattle.kernel_call.specs.declared.domain.Domain.{Domain}
use Rattle.kernel_call.specs.Logs.{log_of}
use Rattle.kernel_call.specs.Models.{Stands, IsNew, CountsUpTo}
use Rattle.kernel_call.specs.Facts.{Has}
use Rattle.hardware_check.specs.Hardware.{Hardware}
use Rattle.domain_check.specs.declared.capabilities.InitialCap.{InitialCap}
use Rattle.domain_check.specs.declared.capabilities.InitialCap.TheVariants as initial
use Rattle.image_check.specs.Laws.{IsOwn}
use Rattle.image_check.specs.Own.{Segment, Own, cap_at, no_segment}
use Rattle.image_check.specs.Pages.{has_page, has_region, regions_below, regions_in, pages_below, pages_in, frames_in, share_of}
use Rattle.world_view.specs.Frames.{pool, pool_frame, root_of, table_frame, page_frame, clone_frames, first_tables, page_frames}
use Rattle.world_view.specs.Kernel.{first_cap, first_slots, first_regions, opening_dom, estate, layout}
use Rattle.world_view.proofs.opening.Counts.{is_page, region_more, region_same, region_before, pages_low}
use Rattle.world_view.proofs.opening.PoolLaws.{pool_once}
use Rattle.world_view.proofs.opening.OpeningClaims.{Case, case, fix_frame, region_at, slots_long, table_slot, page_slot}
use Rattle.domain_open.specs.Placing.{HasPool, AreApart, kept_frames, IsOpened}
use Rattle.domain_open.specs.Giving.{page_cap, cap_after, slots_after, unnamed}
use Rattle.domain_open.proofs.Pages.{pages_all}
use Rattle.domain_open.proofs.SlotLaws.{none_set, is_page_in}

-- ---- a region, and a page, at each place

region_there : (ss : List Segment) (n j : ℕ) → j < regions_below ss n
    → (r : ℕ) × (r < n) × (has_region ss r ≡ true) × (regions_below ss r ≡ j)
unfolding regions_below
region_there ss zero j h = absurd (omega (arith, h))
region_there ss (suc n) j h =
    elim (cases_lt j (regions_below ss n)) [
      | inl less ↦ let r = region_there ss n j less in let low = r.1 in (r.0, omega (arith, low), r.2, r.3)
      | inr more ↦ elim (cases_Bool (has_region ss n)) [
        | inl some ↦ let step = region_more ss n some in (n, omega arith, some, omega (arith, h, more, step))
        | inr none ↦ let step = region_same ss n none in absurd (omega (arith, h, more, step))
      ]
    ]

none_below_zero : (ss : List Segment) → pages_below ss 0 ≡ 0
unfolding pages_below
none_below_zero [] = refl
none_below_zero (s ∷ ss) = let rest = none_below_zero ss in omega (arith, rest)

-- a page is counted once
one_more : (s : Segment) (n : ℕ)
    → min s.pages (suc n - s.page) ≡ min s.pages (n - s.page) + cond (has_page s n) 1 0
one_more s n =
    elim (cases_Bool (has_page s n)) [
      | inl here ↦
          let parts = and_parts _ _ here in
          let low = leb-true s.page n parts.0 in
          let high = ltb-true n (s.page + s.pages) parts.1 in
          rw here (omega (arith, low, high))
      | inr out ↦ rw out (elim (and_cases _ _ out) [
        | inl before ↦ let past = leb-false s.page n before in omega (arith, past)
        | inr after ↦ let past = ltb-false n (s.page + s.pages) after in omega (arith, past)
      ])
    ]

either_more : (a b : Bool) (x x' y y' : ℕ) → (a ≡ true → b ≡ false) → x' ≡ x + cond a 1 0
    → y' ≡ y + cond b 1 0 → x' + y' ≡ x + y + cond (a || b) 1 0
either_more true true x x' y y' apart e f = absurd (true≢false (apart refl))
either_more true false x x' y y' apart e f = omega (arith, e, f)
either_more false true x x' y y' apart e f = omega (arith, e, f)
either_more false false x x' y y' apart e f = omega (arith, e, f)

of_none : (ss : List Segment) (n : ℕ)
    → ((k : ℕ) → k < length ss → has_page (get_or ss k no_segment) n ≡ false) → is_page ss n ≡ false
unfolding is_page
of_none [] n none = refl
of_none (s ∷ ss) n none = rw (none 0 (omega arith), of_none ss n (λ k h. none (suc k) (omega (arith, h)))) refl

first_apart : (s : Segment) (ss : List Segment) (n : ℕ) → AreApart (s ∷ ss) → has_page s n ≡ true
    → is_page ss n ≡ false
first_apart s ss n apart here = of_none ss n (λ k h. apart.once 0 (suc k) n (omega arith) (omega (arith, h)) here)

rest_apart : (s : Segment) (ss : List Segment) → AreApart (s ∷ ss) → AreApart ss
rest_apart s ss apart = record { once = λ j k n less below. apart.once (suc j) (suc k) n (omega (arith, less)) (omega (arith, below)) }

page_counted : (ss : List Segment) (n : ℕ) → AreApart ss
    → pages_below ss (suc n) ≡ pages_below ss n + cond (is_page ss n) 1 0
unfolding pages_below is_page
page_counted [] n apart = refl
page_counted (s ∷ ss) n apart =
    either_more (has_page s n) (is_page ss n) (min s.pages (n - s.page)) (min s.pages (suc n - s.page))
    (pages_below ss n) (pages_below ss (suc n))
    (first_apart s ss n apart) (one_more s n) (page_counted ss n (rest_apart s ss apart))

page_there : (ss : List Segment) (n j : ℕ) → AreApart ss → j < pages_below ss n
    → (m : ℕ) × (m < n) × (is_page ss m ≡ true) × (pages_below ss m ≡ j)
page_there ss zero j apart h = let none = none_below_zero ss in absurd (omega (arith, h, none))
page_there ss (suc n) j apart h =
    elim (cases_lt j (pages_below ss n)) [
      | inl less ↦ let m = page_there ss n j apart less in let low = m.1 in (m.0, omega (arith, low), m.2, m.3)
      | inr more ↦ by_case (is_page ss n) refl more
    ]
  where
    by_case : (t : Bool) → is_page ss n ≡ t → pages_below ss n ≤ j
        → (m : ℕ) × (m < suc n) × (is_page ss m ≡ true) × (pages_below ss m ≡ j)
    by_case true e more =
        let step = page_counted ss n apart ∙ ap (λ b. pages_below ss n + cond b 1 0) e in
        (n, omega arith, e, omega (arith, h, more, step))
    by_case false e more =
        let step = page_counted ss n apart ∙ ap (λ b. pages_below ss n + cond b 1 0) e in
        absurd (omega (arith, h, more, step))

-- ---- a list of which the first do not pass, and the others do

filter_rest : (q : ℕ → Bool) (n : ℕ) (xs : List ℕ)
    → ((k : ℕ) → k < n → k < length xs → q (get_or xs k 0) ≡ false)
    → ((k : ℕ) → n ≤ k → k < length xs → q (get_or xs k 0) ≡ true) → filter q xs ≡ drop n xs
filter_rest q zero [] fail pass = refl
filter_rest q (suc n) [] fail pass = refl
filter_rest q zero (x ∷ xs) fail pass =
    rw (pass 0 (omega arith) (omega arith)) (ap (λ ys. x ∷ ys) (filter_rest q zero xs
    (λ k low h. absurd (omega (arith, low))) (λ k past h. pass (suc k) (omega arith) (omega (arith, h)))))
filter_rest q (suc n) (x ∷ xs) fail pass =
    rw (fail 0 (omega arith) (omega arith))
    (filter_rest q n xs (λ k low h. fail (suc k) (omega (arith, low)) (omega (arith, h)))
    (λ k past h. pass (suc k) (omega (arith, past)) (omega (arith, h))))

pub increasing_drop : (n : ℕ) (xs : List ℕ) → IsStrictlyIncreasing xs → IsStrictlyIncreasing (drop n xs)
increasing_drop n xs up k h =
    let long = length-drop n xs in
    let next : n + (k + 1) ≡ n + k + 1 = omega arith in
    rw (get_or-drop n xs k 0, get_or-drop n xs (k + 1) 0, next) (up (n + k) (omega (arith, h, long)))

-- ---- a domain

module _ (p : Hardware) (o : Own) where
  pub pool_ascends : IsStrictlyIncreasing (pool p o)
  pool_ascends = (all_free_is_free_list (share_of p o)).increasing

  module _ (enough : frames_in o.segments ≤ length (pool p o)) (sound : IsOwn o) where
    -- the slots when all pages have been given out
    pub slots_are : slots_after o (drop (5 + regions_in o.segments) (pool p o)) (pages_in o.segments)
        ≡ first_slots p o
    unfolding slots_after first_slots first_cap colours.frame_at
    slots_are =
        none_set (λ i. cap_after o frames (pages_in o.segments) (cap_at o i))
        (λ i. first_cap p o (cap_at o i)) (λ i below. by_cap i (cap_at o i) refl)
      where
        frames : List ℕ
        frames = drop (5 + regions_in o.segments) (pool p o)

        by_cap : (i : ℕ) (c : InitialCap) → cap_at o i ≡ c
            → cap_after o (drop (5 + regions_in o.segments) (pool p o)) (pages_in o.segments) c
            ≡ first_cap p o c
        by_cap i initial.None e = refl
        by_cap i (initial.Page n) e =
            rw (lt-ltb (pages_below o.segments n) (pages_in o.segments)
            (pages_low o.segments n (is_page_in o.segments n (sound.pages i n e))))
            (ap (λ (f : ℕ). Some (page_cap o f n)) (get_or-drop (5 + regions_in o.segments) (pool p o) (pages_below o.segments n) 0))
        by_cap i (initial.Irq line) e = refl

    -- ---- a frame of the pool is named exactly where its place is one of the first

    -- a claim's frame stands at one of the first places
    first_place : (i : ℕ) (c : Claim) (f : ℕ) → Case p o i c → frame_of c ≡ Some f
        → (k : ℕ) × (k < frames_in o.segments) × (pool_frame p o k ≡ f)
    unfolding frame_of
    first_place i c f (Case.nothing e) h = absurd (none-some f (sym (ap frame_of e) ∙ h))
    first_place i c f (Case.fixed n a b e) h = (n, omega (arith, b), same_Some _ f (sym (ap frame_of e) ∙ h))
    first_place i c f (Case.table j a b e) h =
        let r = region_at o j b in
        let less = region_before o.segments (get_or (first_regions o) j 0) 1024 r.0 r.1 in
        (5 + regions_below o.segments (get_or (first_regions o) j 0), omega (arith, less), same_Some _ f (sym (ap frame_of e) ∙ h))
    first_place i c f (Case.page n b held there e) h =
        let low = pages_low o.segments n there in
        (5 + regions_in o.segments + pages_below o.segments n, omega (arith, low), same_Some _ f (sym (ap frame_of e) ∙ h))

    named_low : (n : ℕ) → n < length (pool p o)
        → is_named (estate p o) (first_slots p o) (pool_frame p o n) ≡ true → n < frames_in o.segments
    named_low n within named =
        let by = named_by (estate p o) (first_slots p o) (pool_frame p o n) named in
        let at = first_place by.0 (claims (estate p o) (first_slots p o) by.0) (pool_frame p o n) (case p o enough sound by.0) by.1 in
        let low = at.1 in
        let same = pool_once p o at.0 n (omega (arith, low, enough)) within at.2 in
        omega (arith, same, low)

    module _ (apart : AreApart o.segments) where
      claim_at : (n : ℕ) → n < frames_in o.segments
          → (i : ℕ) × (frame_of (claims (estate p o) (first_slots p o) i) ≡ Some (pool_frame p o n))
      unfolding estate frame_of
      claim_at n below =
          elim (cases_lt n 5) [
            | inl low ↦ (64 + n, fixed_at low)
            | inr past ↦ elim (cases_lt n (5 + regions_in o.segments)) [
              | inl table ↦
                  let r = region_there o.segments 1024 (n - 5) (omega (arith, past, table)) in
                  let slot = table_slot p o enough sound r.0 r.2 r.1 in
                  let count = r.3 in
                  let at : 5 + regions_below o.segments r.0 ≡ n = omega (arith, past, count) in
                  (slot.0, ap frame_of slot.1 ∙ table_at r.0 at)
              | inr page ↦
                  let all = pages_all o.segments sound.segments in
                  let m = page_there o.segments 1048576 (n - (5 + regions_in o.segments)) apart (omega (arith, below, page, all)) in
                  let slot = page_slot p o enough sound m.0 m.2 in
                  let count = m.3 in
                  let at : 5 + regions_in o.segments + pages_below o.segments m.0 ≡ n = omega (arith, page, count) in
                  (slot.0, page_at m.0 (claims (estate p o) (first_slots p o) slot.0) slot.1 (entry_places (Some (m.0 * 4096))) slot.2 at)
            ]
          ]
        where
          fixed_at : n < 5
              → frame_of (claims (estate p o) (first_slots p o) (64 + n)) ≡ Some (pool_frame p o n)
          fixed_at low =
              ap frame_of (claims_fixed (estate p o) (first_slots p o) (slots_long p o enough sound) n
              ∙ fix_frame p o enough n low)

          table_at : (r : ℕ) → 5 + regions_below o.segments r ≡ n
              → frame_of (Claim.Directory (table_frame p o r) (Some r)) ≡ Some (pool_frame p o n)
          table_at r at = ap (λ (k : ℕ). Some (pool_frame p o k)) at

          page_at : (m : ℕ) (c : Claim) (b : Bool) (w : Option (ℕ × ℕ))
              → c ≡ Claim.Leaf b (page_frame p o m) w
              → 5 + regions_in o.segments + pages_below o.segments m ≡ n
              → frame_of c ≡ Some (pool_frame p o n)
          page_at m c b w e at = ap frame_of e ∙ ap (λ (k : ℕ). Some (pool_frame p o k)) at

      -- what is left of the pool is free
      pub free_left : drop (frames_in o.segments) (pool p o) ≡ free_frames (estate p o) (first_slots p o)
      unfolding free_frames estate colours.frame_at
      free_left =
          sym (filter_rest (λ f. not (is_named (estate p o) (first_slots p o) f)) (frames_in o.segments)
          (pool p o) (λ k low h. named k low) unnamed_past)
        where
          named : (k : ℕ) → k < frames_in o.segments
              → not (is_named (estate p o) (first_slots p o) (pool_frame p o k)) ≡ false
          named k low = let at = claim_at k low in ap not (names (estate p o) (first_slots p o) (pool_frame p o k) at.0 at.1)

          unnamed_past : (k : ℕ) → frames_in o.segments ≤ k → k < length (pool p o)
              → not (is_named (estate p o) (first_slots p o) (pool_frame p o k)) ≡ true
          unnamed_past k past h = by_case (is_named (estate p o) (first_slots p o) (pool_frame p o k)) refl
            where
              by_case : (t : Bool) → is_named (estate p o) (first_slots p o) (pool_frame p o k) ≡ t
                  → not t ≡ true
              by_case true e = let low = named_low k h e in absurd (omega (arith, low, past))
              by_case false e = refl

      pub has_estate : (d : Domain) → d.map ≡ root_of p o
          → d.pool ≡ record { share = share_of p o; free = drop (frames_in o.segments) (pool p o) }
          → d.caps ≡ first_slots p o → d.calls ≡ o.makes → d.number ≡ o.number → Has (estate p o) d
      unfolding estate
      has_estate d root free caps calls number = record {
        root = root;
        calls = calls;
        number = number;
        pool =
            free
            ∙ ap (λ (fs : List ℕ). record { share = share_of p o; free = fs })
            (free_left ∙ ap (λ (s : Slots). free_frames (estate p o) s) (sym caps));
        slots = ap (λ (s : Slots). length s) caps ∙ slots_long p o enough sound;
      }

  -- ---- at its entry

  pub at_entry : (d : Domain) → IsNew d → threads_model d.threads ≡ threads.threads_at_entry o.entry
      → d.caps ≡ first_slots p o → d.interrupts ≡ irq.none_delivered o.moments → Stands d (opening_dom p o)
  unfolding opening_dom domain.dom_at_entry irq.none_delivered
  at_entry d new at caps irqs = record {
    same = λ i. record {
      status = new.status i;
      threads = at i;
      caps = caps i;
      delivered = (irqs i).delivered;
      bits = (irqs i).bits;
      retired = new.retired i;
      readings = [];
      replies = [];
      printed = new.printed i;
    };
    readings = new.readings;
    replies = new.replies;
  }

  kept_are : unnamed (first_slots p o) (page_frames p o) ≡ kept_frames p o
  unfolding unnamed kept_frames
  kept_are = refl

pub new_counts : (d : Domain) → IsNew d → CountsUpTo 0 d
unfolding log_of
new_counts d new =
    let readings = ap (λ l. l.count) new.readings in
    let replies = ap (λ l. l.count) new.replies in
    let retired = new.retired in
    record { retired = omega (arith, retired); readings = omega (arith, readings); replies = omega (arith, replies) }

module _ (p : Hardware) (o : Own) (has : HasPool p o) (apart : AreApart o.segments) where
  pub is_opened : (d : Domain) → IsNew d → d.map ≡ root_of p o
      → d.pool ≡ record { share = share_of p o; free = drop (frames_in o.segments) (pool p o) } → d.caps ≡ first_slots p o
      → d.interrupts ≡ irq.none_delivered o.moments
      → threads_model d.threads ≡ threads.threads_at_entry o.entry → d.tables.items ≡ first_tables p o
      → d.kept.items ≡ clone_frames p o ++ unnamed (first_slots p o) (page_frames p o)
      → layout_model d.layout ≡ layout p o → d.calls ≡ o.makes → d.number ≡ o.number → IsOpened p o d
  unfolding irq.none_delivered
  is_opened d new root free caps irqs at tables kept clone calls number = record {
    stands = at_entry p o d new at caps irqs;
    has = has_estate p o has.enough has.sound apart d root free caps calls number;
    tables = tables;
    kept = kept ∙ ap (λ (fs : List ℕ). clone_frames p o ++ fs) (kept_are p o);
    layout = clone;
    moments = ap (λ (s : irq.Interrupts). s.moments) irqs;
    few = new_counts d new;
  }

-- ---- results

pub at_ok : {A E : Type 0} (P : A → Type 0) (r : Result A E) (x : A) → r ≡ Ok x → IfOk r P → P x
at_ok P r x e h = subst (λ (q : Result _ _). IfOk q P) e h

pub if_ok : {A E : Type 0} (P : A → Type 0) (r : Result A E) → ((x : A) → r ≡ Ok x → P x) → IfOk r P
if_ok P (Ok x) each = each x refl
if_ok P (Err e) each = tt

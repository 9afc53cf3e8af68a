-- What the rules of colours and frames give: lists of colours that are disjoint, and pools that are large enough.
use Rattle.std.proofs.Common.{◌≡◌, ◌≢◌, ℕ, suc, ◌-◌, ◌<◌, ◌≤◌, true, List, [], length, map, take, None, sym, ap, subst, ◌∙◌, arith, ◌⊎◌, inl, inr, true≢false, ltb-false}
use Rattle.std.specs.Prelude.{pos, nat_lt}
use Rattle.std.specs.List.{All}
use Rattle.std.proofs.lemmas.List.{length-map, get_or-map, get_or_past}
use Rattle.std.proofs.lemmas.Bool.{cases_lt, false_from_ne_true}
use Rattle.frame_colours.specs.Colours.{AreDisjoint, whole_of, pool, has, list_at}
use Rattle.image_record.specs.declared.raw.Raw.{Raw}
use Rattle.image_record.specs.Models.{raw_model}
use Rattle.image_record.specs.Parts.{domain_model}
use Rattle.image_record.specs.Record as text
use Rattle.image_record.specs.Record.{raw_domain, no_raw_domain}
use Rattle.image_record.specs.Cases.{refusal}
use Rattle.image_record.specs.Numbers.{natural_of}
use Rattle.hardware_check.specs.Hardware.{colours_of, hardware_of}
use Rattle.image_record.proofs.FirstCases.{if_first, first_in_none}
use Rattle.image_record.proofs.Ranges.{Within}
use Rattle.hardware_check.proofs.Parts.{colours_sound}
use Rattle.domain_check.specs.Colours.{k9, k10, k10_domain, k10_case, need_case, need_of}
use Rattle.image_record.proofs.Listed.{found}
use Rattle.domain_check.proofs.Slots.{slots, small_caps}
use Rattle.schedule_check.proofs.OwnInterrupts.{interrupts, named_line}
use Rattle.domain_check.proofs.Shares.{named, two_apart}
use Rattle.image_check.specs.Own.{Own, Segment, IsSmallOwn, no_own, own_at, own_from, owns_of, has_mail, segment_of}
use Rattle.image_check.specs.Pages.{regions_below, frames_in, share_of}
use Rattle.image_check.specs.Laws.{KeepsBeforePads}
use Rattle.image_check.specs.Checking.{k8_in_machine, k10_in_machine, broken_but_pads}
use Rattle.image_check.proofs.Kept.{kept_but_pads}
use Rattle.image_check.proofs.Owns.{owns_at, owns_length}

-- ---- the numbers fit those of the code

small_own : (i : text.Raw) → KeepsBeforePads i → text.InKeyRanges i → (d : ℕ) → d < length i.domains
    → IsSmallOwn (raw_domain i.domains d)
small_own i rules ranges d l = record {
  caps =
      small_caps (raw_domain i.domains d) (slots i rules.capabilities d l) (ranges.segments d)
      (named_line (raw_domain i.domains d) (interrupts i rules.lines rules.moments d l));
}

pub small_owns : (raw : Raw) → broken_but_pads (raw_model raw) ≡ []
    → All (λ o. IsSmallOwn (domain_model o)) raw.domains.items
small_owns raw n = λ d o l.
    let i = raw_model raw in
    let m = small_own i (kept_but_pads i n).before raw.in_ranges d (omega (arith, length-map raw.domains.items domain_model, l)) in
    subst IsSmallOwn (get_or-map domain_model raw.domains.items d o no_raw_domain l) m

-- ---- K8, K9: the lists are disjoint

lists : text.Raw → List (List ℕ)
lists i = map (λ o. o.colours) (owns_of i)

-- what holds of each domain's colours, and of none, holds of each list
at_each : (i : text.Raw) (P : List ℕ → Type 0) (d : ℕ)
    → (d < length i.domains → P (map natural_of (raw_domain i.domains d).colours)) → P []
    → P (list_at (lists i) d)
unfolding own_from lists
at_each i P d inside none = either (cases_lt d (length i.domains))
  where
    either : (d < length i.domains) ⊎ (length i.domains ≤ d) → P (list_at (lists i) d)
    either (inl l) =
        let at : list_at (lists i) d ≡ (own_at (owns_of i) d).colours =
        get_or-map (λ o. o.colours) (owns_of i) d no_own [] (omega (arith, owns_length i, l)) in
        let own : (own_at (owns_of i) d).colours ≡ map natural_of (raw_domain i.domains d).colours =
        ap (λ (o : Own). o.colours) (owns_at i d l) in
        subst P (sym (at ∙ own)) (inside l)
    either (inr m) =
        subst P
        (sym (get_or_past (lists i) d []
        (omega (arith, length-map (owns_of i) (λ o. o.colours), owns_length i, m)))) none

record IsOfRange (colours : ℕ) (own : List ℕ) : Type 0 where
  pub within : (c : ℕ) → has own c ≡ true → Within 1 (colours - 1) c

of_range : (i : text.Raw) → k8_in_machine i ≡ None → (d : ℕ)
    → IsOfRange (colours_of (hardware_of i)) (list_at (lists i) d)
of_range i n d = at_each i (IsOfRange (colours_of (hardware_of i))) d
    (λ l. record {
      within = λ c h. let f = found (raw_domain i.domains d).colours c h in
          subst (λ (k : ℕ). Within 1 (colours_of (hardware_of i) - 1) k) f.same
          (named (colours_of (hardware_of i)) i n d l f.place f.within (pos 0));
    })
    (record { within = λ c h. absurd (true≢false (sym h)) })

record IsApart (own other : List ℕ) : Type 0 where
  pub none : (c : ℕ) → has own c ≡ true → has other c ≡ true → ⊥

later_apart : (i : text.Raw) → k8_in_machine i ≡ None → k9 i ≡ None → (d e : ℕ) → e < d
    → IsApart (list_at (lists i) d) (list_at (lists i) e)
later_apart i n m d e before =
    at_each i (λ own. IsApart own (list_at (lists i) e)) d
    (λ l. at_each i (IsApart (map natural_of (raw_domain i.domains d).colours)) e
    (λ _. record { none = λ c mine theirs. two_apart (colours_of (hardware_of i)) i n m d l e before c mine theirs })
    (record { none = λ c mine theirs. true≢false (sym theirs) }))
    (record { none = λ c mine theirs. true≢false (sym mine) })

pub disjoint_colours : (i : text.Raw) → KeepsBeforePads i
    → AreDisjoint (colours_of (hardware_of i)) (map (λ o. o.colours) (owns_of i))
unfolding lists
disjoint_colours i k = record {
  in_range =
      λ d c h. let w = (of_range i k.named d).within c h in
      let some = (colours_sound i k.colours).least in omega (arith, w.least, w.most, some);
  no_zero =
      λ d. false_from_ne_true (has (list_at (lists i) d) 0)
      (λ h. let w = (of_range i k.named d).within 0 h in absurd (omega (arith, w.least)));
  apart = λ d e c other h. false_from_ne_true (has (list_at (lists i) e) c) (λ g. either d e c other h g (cases_lt d e));
}
  where
    either : (d e c : ℕ) → d ≢ e → has (list_at (lists i) d) c ≡ true → has (list_at (lists i) e) c ≡ true
        → (d < e) ⊎ (e ≤ d) → ⊥
    either d e c other h g (inl less) = (later_apart i k.named k.apart e d less).none c g h
    either d e c other h g (inr more) = (later_apart i k.named k.apart d e (omega (arith, more, other))).none c h g

-- ---- K10: the pools are large enough

regions_more : (ss : List Segment) (r : ℕ) → regions_below ss r ≤ regions_below ss (suc r)
unfolding regions_below
regions_more ss r = omega arith

enough : (d frames need : ℕ) → need_case d frames need ≡ None → need ≤ frames
enough d frames need n = ltb-false frames need (if_first (nat_lt frames need) (refusal 10 (pos d) (pos frames) (pos need)) None n)

raw_pools : (i : text.Raw) → k10_in_machine i ≡ None → (d : ℕ) → d < length i.domains
    → frames_in (own_from d (has_mail i) (raw_domain i.domains d)).segments
    ≤ length (pool (share_of (hardware_of i) (own_from d (has_mail i) (raw_domain i.domains d))))
unfolding k10 k10_case own_from
raw_pools i n d l =
    let o = raw_domain i.domains d in
    let ss = map segment_of o.segments in
    let here = first_in_none (k10_domain (whole_of (hardware_of i).frames (colours_of (hardware_of i)))) i.domains n d l no_raw_domain in
    let most = enough (length (take d i.domains)) (length (pool (share_of (hardware_of i) (own_from d (has_mail i) o)))) (need_of ss) here in
    let more = regions_more ss 1024 in
    omega (arith, most, more)

pub pools_enough : (i : text.Raw) → KeepsBeforePads i → (d : ℕ) → d < length i.domains
    → frames_in (own_at (owns_of i) d).segments ≤ length (pool (share_of (hardware_of i) (own_at (owns_of i) d)))
pools_enough i k d l =
    let P : Own → Type 0 = λ o. frames_in o.segments ≤ length (pool (share_of (hardware_of i) o)) in
    subst P (sym (owns_at i d l)) (raw_pools i k.pools d l)

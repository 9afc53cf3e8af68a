-- What the capability slots of a domain name, in an image that breaks no rule.
use Rattle.std.proofs.Common.{◌≡◌, ◌≢◌, ℕ, ◌<◌, ◌≤◌, Bool, true, [], length, map, get_or, Option, None, Some, sym, ap, ◌∙◌, arith, ◌⊎◌, inl, inr}
use Rattle.std.proofs.lemmas.Bool.{cases_lt}
use Rattle.std.proofs.lemmas.List.{length-map, get_or-map, get_or_past}
use Rattle.image_record.specs.Record.{RawDomain}
use Rattle.domain_check.specs.declared.capabilities.InitialCap.{InitialCap}
use Rattle.domain_check.specs.declared.capabilities.InitialCap.TheVariants.{None as NoCap, Page, Irq}
use Rattle.domain_check.specs.CapTexts.{cap_in}
use Rattle.domain_check.specs.Capabilities.{own_cap, cap_of}
use Rattle.domain_check.specs.Pages.{has_page_in}
use Rattle.domain_check.proofs.CapTexts.{cap_is}
use Rattle.domain_check.proofs.Slots.{HasSlots, has_in}
use Rattle.schedule_check.proofs.OwnInterrupts.{HasInterrupts, named_line}
use Rattle.image_check.specs.Own.{own_from, cap_at}

own_cap_is : (x : Option InitialCap) (c : InitialCap) → c ≢ NoCap → own_cap x ≡ c → x ≡ Some c
own_cap_is None c some e = absurd (some (sym e))
own_cap_is (Some d) c some e = ap Some e

record Names (o : RawDomain) (k : ℕ) (c : InitialCap) : Type 0 where
  pub within : k < length o.caps
  pub cap : cap_in (get_or o.caps k []) ≡ Some c

named_at : (n : ℕ) (mail : Bool) (o : RawDomain) (k : ℕ) (c : InitialCap) → c ≢ NoCap → cap_at (own_from n mail o) k ≡ c → Names o k c
unfolding own_from cap_of
named_at n mail o k c some e = either (cases_lt k (length o.caps))
  where
    either : (k < length o.caps) ⊎ (length o.caps ≤ k) → Names o k c
    either (inl l) = record {
      within = l;
      cap =
          own_cap_is (cap_in (get_or o.caps k [])) c some (sym (get_or-map cap_of o.caps k [] NoCap l) ∙ e);
    }
    either (inr m) = absurd (some (sym e ∙ get_or_past (map cap_of o.caps) k NoCap (omega (arith, length-map o.caps cap_of, m))))

-- a line that a slot names is one of 32
pub few_lines : (d : ℕ) (mail : Bool) (o : RawDomain) → HasSlots o → HasInterrupts o → (k n : ℕ)
    → cap_at (own_from d mail o) k ≡ Irq n
    → n < 32
few_lines d mail o has irqs k n e =
    let at = named_at d mail o k (Irq n) (λ (z : Irq n ≡ NoCap). cc) e in
    named_line o irqs n (has.lines k n [] at.within at.cap)

pub has_its_page : (d : ℕ) (mail : Bool) (o : RawDomain) → HasSlots o → (k n : ℕ) → cap_at (own_from d mail o) k ≡ Page n
    → has_page_in (own_from d mail o).segments n ≡ true
unfolding own_from
has_its_page d mail o has k n e =
    let at = named_at d mail o k (Page n) (λ (z : Page n ≡ NoCap). cc) e in
    has_in n o.segments (has.pages k n [] at.within at.cap)

pub named_once : (n : ℕ) (mail : Bool) (o : RawDomain) → HasSlots o → (c : InitialCap) → c ≢ NoCap → (j k : ℕ) → j ≢ k
    → cap_at (own_from n mail o) j ≡ c → cap_at (own_from n mail o) k ≢ c
named_once n mail o has c some j k other mine theirs = either (cases_lt j k)
  where
    here : Names o j c
    here = named_at n mail o j c some mine

    there : Names o k c
    there = named_at n mail o k c some theirs

    same : get_or o.caps j [] ≡ get_or o.caps k []
    same = (cap_is (get_or o.caps j []) c here.cap).0 ∙ sym (cap_is (get_or o.caps k []) c there.cap).0

    either : (j < k) ⊎ (k ≤ j) → ⊥
    either (inl less) = has.apart j k c some less there.within there.cap same
    either (inr more) = has.apart k j c some (omega (arith, more, other)) here.within here.cap (sym same)

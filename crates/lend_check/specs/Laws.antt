-- The rule of lent colours in other words: when it lets an image through, and why it refuses one; and how parties are
-- numbered.
use Rattle.std.specs.Prelude.{◌≡◌, ℕ, ◌+◌, ◌<◌, ◌≤◌, ◌↔◌, ℤ, pos, true, false, List, map, length, take, slice_get, Some, None}
use Rattle.std.specs.List.{sum_by}
use Rattle.frame_colours.specs.Colours.{Whole, has}
use Rattle.image_record.specs.declared.refusal.Refusal.{Refusal}
use Rattle.image_record.specs.Numbers.{natural_of, names}
use Rattle.image_record.specs.Cases.{refusal}
use Rattle.lend_check.specs.Lending.{LendingDomain, LendingEntry, Lending, domain_at, lend_of, own_colours, said, lent}
use Rattle.lend_check.specs.Parties.{parties, Party, Child, number_of, party_of}
use Rattle.lend_check.specs.Rule.{IsOfDomain, frames_of, least_frames, most_parties, k21, AreLent}

abbrev pub AcceptedLaw : Type 0
AcceptedLaw = (whole : Whole) (i : Lending) → (k21 whole i ≡ None) ↔ AreLent whole i

-- ---- why an image is refused

-- a colour that may be lent after these
pub record MayBeLent (colours : ℕ) (domains : List LendingDomain) (earlier : List (ℕ × ℕ)) (c : ℕ) : Type 0 where
  pub some : 0 < c
  pub range : c < colours
  pub unowned : (d : ℕ) → has (own_colours domains d) c ≡ false
  pub new : has (map (λ l. l.1) earlier) c ≡ false

pub record Passes (whole : Whole) (domains : List LendingDomain) (k : ℕ) (c : ℕ) : Type 0 where
  pub lendable : MayBeLent whole.colours domains (take k (lent domains)) c
  pub frames : least_frames ≤ frames_of whole c

-- all lent colours before place k pass
abbrev pub AllPass : Whole → List LendingDomain → ℕ → Type 0
AllPass whole domains k = (j : ℕ) (l : ℕ × ℕ) → j < k → slice_get (lent domains) j ≡ Some l → Passes whole domains j l.1

-- the entry is its domain's own, or set aside for a colour that this one lends
abbrev pub IsOwnOrLent : List LendingDomain → LendingEntry → Type 0
IsOwnOrLent domains e = (x : ℤ) → e.lend ≡ Some x → names (lend_of domains e.domain) x ≡ true

-- case 1: the first place of which some case is broken may not be lent
pub record IsBarredFirst (whole : Whole) (i : Lending) (d : ℕ) (x : ℤ) : Type 0 where
  pub place : ℕ
  pub there : slice_get (said i.domains) place ≡ Some (d, x)
  pub before : AllPass whole i.domains place
  pub barred : ¬ MayBeLent whole.colours i.domains (take place (lent i.domains)) (natural_of x)

-- case 2: it may, and has too few frames
pub record IsSmallFirst (whole : Whole) (i : Lending) (d : ℕ) (x : ℤ) : Type 0 where
  pub place : ℕ
  pub there : slice_get (said i.domains) place ≡ Some (d, x)
  pub before : AllPass whole i.domains place
  pub lendable : MayBeLent whole.colours i.domains (take place (lent i.domains)) (natural_of x)
  pub small : frames_of whole (natural_of x) < least_frames

-- case 3: all lent colours pass, and it is the first entry for a colour that its domain doesn't lend
pub record IsForeignFirst (whole : Whole) (i : Lending) (e : ℕ) (x : ℤ) : Type 0 where
  pub colours : AllPass whole i.domains (length (lent i.domains))
  pub entry : LendingEntry
  pub there : slice_get i.schedule e ≡ Some entry
  pub before : (j : ℕ) (other : LendingEntry) → j < e → slice_get i.schedule j ≡ Some other
      → IsOwnOrLent i.domains other
  pub lend : entry.lend ≡ Some x
  pub foreign : names (lend_of i.domains entry.domain) x ≡ false

-- case 4: all colours and entries pass, and parties are too many
pub record AreTooMany (whole : Whole) (i : Lending) : Type 0 where
  pub colours : AllPass whole i.domains (length (lent i.domains))
  pub entries : (j : ℕ) (other : LendingEntry) → slice_get i.schedule j ≡ Some other → IsOwnOrLent i.domains other
  pub many : most_parties i.version < length i.domains + length (lent i.domains)

pub data Cause (whole : Whole) (i : Lending) (r : Refusal) : Type 0 where
  Barred : (d : ℕ) (x : ℤ) → r ≡ refusal 21 (pos d) x (pos 1) → IsBarredFirst whole i d x → Cause whole i r
  Small : (d : ℕ) (x : ℤ) → r ≡ refusal 21 (pos d) x (pos 2) → IsSmallFirst whole i d x → Cause whole i r
  Foreign : (e : ℕ) (x : ℤ) → r ≡ refusal 21 (pos e) x (pos 3) → IsForeignFirst whole i e x → Cause whole i r
  Many : r ≡ refusal 21 (pos 0) (pos (length i.domains + length (lent i.domains))) (pos 4) → AreTooMany whole i
      → Cause whole i r

abbrev pub CauseLaw : Type 0
CauseLaw = (whole : Whole) (i : Lending) (r : Refusal) → (k21 whole i ≡ Some r) ↔ Cause whole i r

-- ---- parties

-- the colours of a domain's list come in its order, after those of the domains before it
abbrev pub OrderLaw : Type 0
OrderLaw = (domains : List LendingDomain) (d k : ℕ) (x : ℤ) → slice_get (domain_at domains d).lend k ≡ Some x
    → slice_get (said domains) (sum_by (λ o. length o.lend) (take d domains) + k) ≡ Some (d, x)

-- a lent colour's child has the number of domains and the colour's place
abbrev pub ChildLaw : Type 0
ChildLaw = (whole : Whole) (i : Lending) (k d c : ℕ) → AreLent whole i → slice_get (lent i.domains) k ≡ Some (d, c)
    → number_of i.domains (Child d (pos c)) ≡ Some (length i.domains + k)

-- no two have one number
abbrev pub DistinctLaw : Type 0
DistinctLaw = (domains : List LendingDomain) (p q : Party) (n : ℕ) → number_of domains p ≡ Some n
    → number_of domains q ≡ Some n → p ≡ q

-- each number is below how many there are
abbrev pub CountLaw : Type 0
CountLaw = (domains : List LendingDomain) (p : Party) (n : ℕ) → number_of domains p ≡ Some n → n < parties domains

-- and below the limit
abbrev pub LimitLaw : Type 0
LimitLaw = (whole : Whole) (i : Lending) (p : Party) (n : ℕ) → AreLent whole i → number_of i.domains p ≡ Some n
    → n < most_parties i.version

-- and each below how many there are is some party's
abbrev pub EachLaw : Type 0
EachLaw = (whole : Whole) (i : Lending) (n : ℕ) → AreLent whole i → n < parties i.domains
    → (p : Party) × (number_of i.domains p ≡ Some n)

-- whose an entry is has a number, where its domain is there
abbrev pub EntryLaw : Type 0
EntryLaw = (whole : Whole) (i : Lending) (e : ℕ) (entry : LendingEntry) → AreLent whole i
    → slice_get i.schedule e ≡ Some entry → IsOfDomain (length i.domains) entry
    → (n : ℕ) × (number_of i.domains (party_of entry) ≡ Some n)

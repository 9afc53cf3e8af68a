-- What holds of the record that a tenant may hold; the laws are the clauses of the functions of `laws`.
use Rattle.std.specs.Prelude.{◌≡◌, ◌≢◌, ℕ, ◌+◌, ◌*◌, ◌<◌, ◌≤◌, ◌↔◌, true, false, List, [], length, map, None}
use Rattle.image_record.specs.Record.{Raw, raw_domain, InKeyRanges}
use Rattle.world_view.specs.View.{view_whole}
use Rattle.world_view.specs.Harts.{IsOnOneHart, hart_of_domain, slots_of, harts, view_on, view_alone_on}
use Rattle.world_view.specs.Relations.{HasNoMail}
use Rattle.world_view.specs.HartLaws.{AreHartsOf, IsBetween}
use Rattle.world_view.specs.MailLaws.{Leads}
use Rattle.image_check.specs.Checking.{broken}
use Rattle.image_check.specs.Image.{image_from, own_of}
use Rattle.image_redact.specs.Redacted.{is_kept, is_taken, numbered, name_beside, taken_names, emptied, redacted}

-- ---- which domains are kept, and what the others are called

-- those from which a chain of boxes leads to the domain, and no others
abbrev pub KeptLaw : Type 0
KeptLaw = (i : Raw) (d e : ℕ) → broken i ≡ [] → d < length i.domains
    → (is_kept i d e ≡ true) ↔ Leads (image_from i) d e

-- the name is `e` and the least of n, n + 32, n + 64 and so on that gives a name which isn't taken
pub record IsLeastFree (taken : List (List ℕ)) (n : ℕ) (name : List ℕ) : Type 0 where
  pub times : ℕ
  pub is : name ≡ numbered (n + 32 * times)
  pub free : is_taken taken name ≡ false
  pub least : (k : ℕ) → k < times → is_taken taken (numbered (n + 32 * k)) ≡ true
  pub few : times ≤ length taken

abbrev pub NameLaw : Type 0
NameLaw = (taken : List (List ℕ)) (n : ℕ) → length taken ≤ 32 → n < 32 → IsLeastFree taken n (name_beside taken n)

-- no two of the others are called the same
abbrev pub ApartLaw : Type 0
ApartLaw = (taken : List (List ℕ)) (m n : ℕ) → length taken ≤ 32 → m < 32 → n < 32 → m ≢ n
    → name_beside taken m ≢ name_beside taken n

-- ---- what it is

-- in the first version no domain says which calls it may make, as in every record that is read
abbrev pub FirstSaysNoCalls : Raw → Type 0
FirstSaysNoCalls i = i.version ≡ 1 → (d : ℕ) → (raw_domain i.domains d).calls ≡ None

-- it breaks no rule
abbrev pub AcceptedLaw : Type 0
AcceptedLaw = (i : Raw) (d : ℕ) → FirstSaysNoCalls i → broken i ≡ [] → broken (redacted i d) ≡ []

-- its numbers and lists stay in the ranges of their keys
abbrev pub RangesLaw : Type 0
RangesLaw = (i : Raw) (d : ℕ) → InKeyRanges i → InKeyRanges (redacted i d)

-- there is nothing more to take
abbrev pub AgainLaw : Type 0
AgainLaw = (i : Raw) (d : ℕ) → redacted (redacted i d) d ≡ redacted i d

-- of the others, nothing is left
abbrev pub EmptiedLaw : Type 0
EmptiedLaw = (i : Raw) (d n : ℕ) → n < length i.domains → is_kept i d n ≡ false
    → raw_domain (redacted i d).domains n ≡ emptied i.version (taken_names i d) n (raw_domain i.domains n)

-- two records that differ in what is the others' own, their colours left out
pub record DifferInOthers (i j : Raw) (d : ℕ) : Type 0 where
  pub rest : record i { domains = [] } ≡ record j { domains = [] }
  pub colours : map (λ o. o.colours) i.domains ≡ map (λ o. o.colours) j.domains
  pub kept : (e : ℕ) → is_kept i d e ≡ true → raw_domain i.domains e ≡ raw_domain j.domains e

-- so it tells nothing of them
abbrev pub SecretLaw : Type 0
SecretLaw = (i j : Raw) (d : ℕ) → DifferInOthers i j d → redacted i d ≡ redacted j d

-- ---- what is seen of the domain

-- all domains may know the same of both, and each that is kept has the same of its own
pub record Alike (i j : Raw) (d : ℕ) : Type 0 where
  pub all : (image_from i).all ≡ (image_from j).all
  pub own : (e : ℕ) → is_kept i d e ≡ true → own_of (image_from i) e ≡ own_of (image_from j) e

abbrev pub AlikeLaw : Type 0
AlikeLaw = (i : Raw) (d : ℕ) → Alike i (redacted i d) d

-- so what is seen of it alone is the same, after every number of slots
abbrev pub SeenAloneLaw : Type 0
SeenAloneLaw = (i : Raw) (d n : ℕ) → d < length i.domains
    → view_alone_on (image_from i) d n ≡ view_alone_on (image_from (redacted i d)) d n

-- and where no box leads to it, among the others, in every two orders of the harts' events after which its hart has had as many slots, and has not
-- begun its next one
abbrev pub SeenLaw : Type 0
SeenLaw = (i : Raw) (d : ℕ) (one two : List ℕ) → InKeyRanges i → FirstSaysNoCalls i → broken i ≡ []
    → d < length i.domains → HasNoMail (image_from i) d →
    let x = image_from i in
    let y = image_from (redacted i d) in
    let h = hart_of_domain x d in
    AreHartsOf x one → AreHartsOf y two → slots_of h (harts x one) ≡ slots_of h (harts y two)
    → IsBetween x h (harts x one) → IsBetween y h (harts y two) → view_on x d (harts x one) ≡ view_on y d (harts y two)

-- on one hart, among the others, whatever boxes lead to it
abbrev pub SeenTogetherLaw : Type 0
SeenTogetherLaw = (i : Raw) (d n : ℕ) → InKeyRanges i → FirstSaysNoCalls i → broken i ≡ [] → d < length i.domains
    → IsOnOneHart (image_from i) → view_whole (image_from i) d n ≡ view_whole (image_from (redacted i d)) d n

-- Which of the cases of its rule an entry has, and what it is in the code.
use Rattle.std.proofs.Common.{◌≡◌, ℕ, ◌<◌, ◌^◌, Bool, true, false, not, List, length, map, take, Option, Some, None, to_z, w64, sym, ap, ◌∙◌}
use Rattle.std.specs.List.{list_any}
use Rattle.std.specs.Prelude.{ℤ, pos, if◌then◌else◌}
use Rattle.image_record.specs.declared.refusal.Refusal.{Refusal}
use Rattle.image_record.specs.Record.{RawEntry}
use Rattle.image_record.specs.Cases.{refusal, outside}
use Rattle.image_record.specs.Numbers.{natural_of}
use Rattle.sched_table.specs.declared.schedule.Entry.{Entry}
use Rattle.image_record.specs.declared.raw.RawEntry as coded
use Rattle.image_record.specs.Parts.{entry_model}
use Rattle.image_record.proofs.Loops.{count_of}
use Rattle.schedule_check.proofs.Told.{told}
use Rattle.schedule_check.specs.Schedule.{is_number, k16_case, k16_entry, entry_of}
use Rattle.schedule_check.specs.Harts.{hart_case, k19_entry, is_elsewhere, k19_domain}

pad_case : ℕ → RawEntry → Option Refusal
pad_case place e = if outside (pos 0) (pos 1000000) e.pad then Some (refusal 16 (pos place) e.pad (pos 4)) else None

length_case : ℕ → RawEntry → Option Refusal
length_case place e = if outside (pos 1000) (pos 1000000) e.length then Some (refusal 16 (pos place) e.length (pos 3)) else pad_case place e

numbered_case : (domains place : ℕ) (e : RawEntry) (b : Bool) → is_number domains e.domain ≡ b
    → k16_case domains place e ≡ (if not b then Some (refusal 16 (pos place) e.domain (pos 2)) else length_case place e)
unfolding k16_case length_case pad_case
numbered_case domains place e b is =
    ap (λ (b : Bool). if not b then Some (refusal 16 (pos place) e.domain (pos 2)) else length_case place e)
    is

pub strange_case : (domains place : ℕ) (e : RawEntry) → is_number domains e.domain ≡ false
    → k16_case domains place e ≡ Some (refusal 16 (pos place) e.domain (pos 2))
strange_case domains place e strange = numbered_case domains place e false strange

long_case : (domains place : ℕ) (e : RawEntry) (b : Bool) → is_number domains e.domain ≡ true
    → outside (pos 1000) (pos 1000000) e.length ≡ b
    → k16_case domains place e ≡ (if b then Some (refusal 16 (pos place) e.length (pos 3)) else pad_case place e)
unfolding length_case
long_case domains place e b there is =
    numbered_case domains place e true there
    ∙ ap (λ (b : Bool). if b then Some (refusal 16 (pos place) e.length (pos 3)) else pad_case place e) is

pub unlasting_case : (domains place : ℕ) (e : RawEntry) → is_number domains e.domain ≡ true
    → outside (pos 1000) (pos 1000000) e.length ≡ true
    → k16_case domains place e ≡ Some (refusal 16 (pos place) e.length (pos 3))
unlasting_case domains place e there is = long_case domains place e true there is

pub padded_case : (domains place : ℕ) (e : RawEntry) (b : Bool) → is_number domains e.domain ≡ true
    → outside (pos 1000) (pos 1000000) e.length ≡ false
    → outside (pos 0) (pos 1000000) e.pad ≡ b → k16_case domains place e ≡ (if b then Some (refusal 16 (pos place) e.pad (pos 4)) else None)
unfolding pad_case
padded_case domains place e b there long is =
    long_case domains place e false there long ∙ ap (λ (b : Bool). if b then Some (refusal 16 (pos place) e.pad (pos 4)) else None) is

pub entry_is : (e : RawEntry) (domain length pad hart : ℕ) → domain ≡ natural_of e.domain
    → length ≡ natural_of e.length → pad ≡ natural_of e.pad → hart ≡ natural_of e.hart
    → ◌≡◌ {A = Entry} (record { domain = domain; length = length; pad = pad; hart = hart }) (entry_of e)
unfolding entry_of
entry_is e domain length pad hart a b c d = λ i. record { domain = a i; length = b i; pad = c i; hart = d i }

-- ---- in a list of entries, as the code goes through it

pub entry_case_at : (domains : ℕ) (texts : List coded.RawEntry) (k : ℕ) (x : RawEntry) (o : Option Refusal)
    → k < length texts → k16_case domains k x ≡ o
    → k16_entry domains (map entry_model (take k texts)) x ≡ o
entry_case_at domains texts k x o below is = ap (λ n. k16_case domains n x) (count_of entry_model texts k below) ∙ is

pub hart_case_at : (texts : List coded.RawEntry) (k : ℕ) (x : RawEntry) (o : Option Refusal)
    → k < length texts → hart_case k x ≡ o
    → k19_entry (map entry_model (take k texts)) x ≡ o
hart_case_at texts k x o below is = ap (λ n. hart_case n x) (count_of entry_model texts k below) ∙ is

-- a domain that none before has on another hart
pub alone : (earlier : List Entry) (x : Entry) → false ≡ list_any (is_elsewhere x) earlier
    → k19_domain earlier x ≡ None
alone earlier x none = ap (λ (b : Bool). if b then Some (refusal 19 (pos (length earlier)) (pos x.domain) (pos 3)) else None) (sym none)

-- one that one before has on another hart
pub elsewhere : (earlier : List Entry) (k : ℕ) (x : Entry) (domain : ℤ) (r : Refusal) → length earlier ≡ k
    → true ≡ list_any (is_elsewhere x) earlier
    → k < 2 ^ 63 → domain ≡ pos x.domain → r ≡ refusal 19 (to_z w64 k) domain (pos 3) → k19_domain earlier x ≡ Some r
elsewhere earlier k x domain r count some small same is =
    ap (λ (b : Bool). if b then Some (refusal 19 (pos (length earlier)) (pos x.domain) (pos 3)) else None) (sym some)
    ∙ ap (λ n. Some (refusal 19 (pos n) (pos x.domain) (pos 3))) count ∙ told 19 k (pos x.domain) domain (pos 3) r small same is

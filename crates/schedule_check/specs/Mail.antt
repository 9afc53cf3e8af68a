-- K20, the rule of mailboxes: there are 64 at most, each from a domain that is there to another one, and no two are alike.
use Rattle.std.specs.Prelude.{◌≡◌, ◌≢◌, ℕ, ◌<◌, ◌≤◌, ◌&&◌, not, nat_lt, ℤ, pos, Bool, if◌then◌else◌, List, length, slice_get, Option, Some, None}
use Rattle.std.specs.List.{All}
use Rattle.image_record.specs.declared.refusal.Refusal.{Refusal}
use Rattle.image_record.specs.Record.{Raw, RawMailbox}
use Rattle.image_record.specs.Numbers.{natural_of, is_same}
use Rattle.image_record.specs.Cases.{or_else, first_in, refusal}
use Rattle.schedule_check.specs.Schedule.{is_number}

-- the box, or 0 where they are too many; what stands there, and the case
abbrev pub k20_refusal : ℕ → ℤ → ℕ → Option Refusal
k20_refusal box found case = Some (refusal 20 (pos box) found (pos case))

-- 2: an end of the box is no domain
unfoldable pub k20_end : ℕ → ℕ → ℤ → Option Refusal
k20_end domains box x = if not (is_number domains x) then k20_refusal box x 2 else None

-- 3: it is from a domain to the same
unfoldable pub k20_apart : ℕ → RawMailbox → Option Refusal
k20_apart box b = if is_same b.from b.to then k20_refusal box b.from 3 else None

abbrev pub alike : RawMailbox → RawMailbox → Bool
alike b other = is_same other.from b.from && is_same other.to b.to

-- the other box's number, where both are alike
abbrev pub if_alike : RawMailbox → List RawMailbox → RawMailbox → Option ℕ
if_alike b earlier other = if alike b other then Some (length earlier) else None

abbrev pub k20_same : ℕ → Option ℕ → Option Refusal
k20_same box None = None
k20_same box (Some e) = k20_refusal box (pos e) 4

-- 4: an earlier one is alike
unfoldable pub k20_once : List RawMailbox → RawMailbox → Option Refusal
k20_once earlier b = k20_same (length earlier) (first_in (if_alike b) earlier)

unfoldable pub k20_box : ℕ → List RawMailbox → RawMailbox → Option Refusal
k20_box domains earlier b =
    or_else (k20_end domains (length earlier) b.from)
    (or_else (k20_end domains (length earlier) b.to)
    (or_else (k20_apart (length earlier) b) (k20_once earlier b)))

-- 1: more than 64
unfoldable pub k20_mail : ℕ → List RawMailbox → Option Refusal
k20_mail domains mail =
    if nat_lt 64 (length mail) then k20_refusal 0 (pos (length mail)) 1 else first_in (k20_box domains) mail

unfoldable pub k20 : Raw → Option Refusal
k20 i = k20_mail (length i.domains) i.mail

-- ---- what a box is

-- the domain that puts words in, and that which takes them
unfoldable pub box_of : RawMailbox → ℕ × ℕ
box_of b = (natural_of b.from, natural_of b.to)

pub record IsBox (domains : ℕ) (box : ℕ × ℕ) : Type 0 where
  pub from : box.0 < domains
  pub to : box.1 < domains
  pub apart : box.0 ≢ box.1

-- boxes that the rule lets through
pub record AreBoxes (domains : ℕ) (mail : List (ℕ × ℕ)) : Type 0 where
  pub few : length mail ≤ 64
  pub boxes : All (IsBox domains) mail
  pub once : (j k : ℕ) (box : ℕ × ℕ) → slice_get mail j ≡ Some box → slice_get mail k ≡ Some box → j ≡ k

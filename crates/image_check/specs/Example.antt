-- Worked rows: which of the calls that it lists a domain may make, in an image with a box and in one without.
use Rattle.std.specs.Prelude.{◌≡◌, ◌+◌, ◌^◌, pos, List, [], ◌∷◌, Some, refl}
use Rattle.kernel_clone.specs.Permissions.{may_make, calls_below}
use Rattle.image_record.specs.Record.{Raw, RawDomain, RawMailbox}
use Rattle.domain_check.specs.Calls.{calls_in}
use Rattle.image_check.specs.Own.{Own, own_from, own_at, owns_of}

-- of an image with these boxes, the one domain, which lists EXIT and SEND
abbrev own_with : Raw → RawDomain → List RawMailbox → Own
own_with i o boxes =
    own_at (owns_of (record i { domains = record o { calls = Some (pos 0 ∷ pos 19 ∷ []) } ∷ []; mail = boxes })) 0

pub sends : (i : Raw) (o : RawDomain) (b : RawMailbox) → (own_with i o (b ∷ [])).makes ≡ 2 ^ 19 + 1
unfolding owns_of own_from calls_in calls_below
sends i o b = refl

pub exits_alone : (i : Raw) (o : RawDomain) → (own_with i o []).makes ≡ 1
unfolding owns_of own_from calls_in calls_below may_make
exits_alone i o = refl

-- its pads are bound by both all the same
pub lists_both : (i : Raw) (o : RawDomain) → (own_with i o []).calls ≡ 2 ^ 19 + 1
unfolding owns_of own_from calls_in calls_below
lists_both i o = refl

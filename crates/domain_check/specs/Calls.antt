-- K18, the rule of the calls that a domain may make: each is a call's number, and above the one before.
use Rattle.std.specs.Prelude.{ℕ, ◌-◌, ◌||◌, not, ℤ, pos, negsuc, int_lt, Bool, true, false, if◌then◌else◌, List, [], length, slice_get, Option, Some, None}
use Rattle.kernel_clone.specs.Permissions.{is_call, every_call, calls_of}
use Rattle.image_record.specs.declared.refusal.Refusal.{Refusal}
use Rattle.image_record.specs.Record.{Raw, RawDomain}
use Rattle.image_record.specs.Cases.{first_in, refusal}
use Rattle.image_record.specs.Numbers.{names}

-- a number that an image says is a call's
abbrev pub names_call : ℤ → Bool
names_call (pos n) = is_call n
names_call (negsuc n) = false

-- above the number before, if there is one
abbrev pub is_next : Option ℤ → ℤ → Bool
is_next None x = true
is_next (Some y) x = int_lt y x

-- domain d, and the place in its list
unfoldable pub k18_call : ℕ → List ℤ → ℤ → Option Refusal
k18_call d earlier x =
    if not (names_call x) || not (is_next (slice_get earlier (length earlier - 1)) x)
    then Some (refusal 18 (pos d) (pos (length earlier)) (pos 14))
    else None

-- the numbers that are listed, if there is a list
abbrev pub listed : Option (List ℤ) → List ℤ
listed None = []
listed (Some calls) = calls

abbrev pub k18_domain : List RawDomain → RawDomain → Option Refusal
k18_domain earlier o = first_in (k18_call (length earlier)) (listed o.calls)

unfoldable pub k18 : Raw → Option Refusal
k18 i = first_in k18_domain i.domains

-- ---- which calls a domain may make, a bit each: those that are listed, whatever else is; every call where there is no list

unfoldable pub calls_in : Option (List ℤ) → ℕ
calls_in None = every_call
calls_in (Some calls) = calls_of (λ n. names calls (pos n))

abbrev pub own_calls : RawDomain → ℕ
own_calls o = calls_in o.calls

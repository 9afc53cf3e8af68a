-- Which numbers are calls, and which of the calls a domain may make, as a number: bit n is that of call n.
use Rattle.std.specs.Prelude.{◌≡◌, ℕ, zero, suc, ◌+◌, ◌/◌, ◌%◌, ◌^◌, nat_eq, nat_le, Bool, ◌&&◌, ◌||◌, not, if◌then◌else◌}
use Rattle.kernel_clone.specs.Footprints.{bad_call_op}

-- the calls on mailboxes: 19 SEND and 20 RECV
abbrev pub is_mail : ℕ → Bool
is_mail n = nat_eq n 19 || nat_eq n 20

-- 0 to 14, and those
abbrev pub is_call : ℕ → Bool
is_call n = nat_le n 14 || is_mail n

-- above each of them
abbrev pub calls_end : ℕ
calls_end = 21

-- the calls on memory, frames and slots: 1 to 8
abbrev pub is_of_memory : ℕ → Bool
is_of_memory n = nat_le 1 n && nat_le n 8

unfoldable pub may_make : ℕ → ℕ → Bool
may_make calls number = nat_eq (calls / 2 ^ number % 2) 1

-- the number of the call that is made; a call that the domain may not make counts as one that is none
abbrev pub permitted : ℕ → ℕ → ℕ
permitted calls number = if may_make calls number then number else bad_call_op

-- the numbers below this one that a test has, as such a number
unfoldable pub calls_below : (ℕ → Bool) → ℕ → ℕ
calls_below test zero = 0
calls_below test (suc n) = calls_below test n + (if test n then 2 ^ n else 0)

-- all of them
abbrev pub every_call : ℕ
every_call = calls_below is_call calls_end

-- the calls that a test has
abbrev pub calls_of : (ℕ → Bool) → ℕ
calls_of test = calls_below (λ n. is_call n && test n) calls_end

-- those of these calls that are on no mailboxes
abbrev pub without_mail : ℕ → ℕ
without_mail calls = calls_of (λ n. may_make calls n && not (is_mail n))

-- who may make every call may make each, and nothing that is none
abbrev pub EveryCallLaw : Type 0
EveryCallLaw = (n : ℕ) → may_make every_call n ≡ is_call n

-- the calls that a test has may be made, and no others
abbrev pub CallsLaw : Type 0
CallsLaw = (test : ℕ → Bool) (n : ℕ) → may_make (calls_of test) n ≡ (is_call n && test n)

-- without those on mailboxes each other call may be made that might be
abbrev pub WithoutMailLaw : Type 0
WithoutMailLaw =
    (calls n : ℕ) → may_make (without_mail calls) n ≡ (is_call n && (may_make calls n && not (is_mail n)))

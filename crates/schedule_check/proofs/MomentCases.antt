-- What the rule of moments has of a domain, as the code goes through it.
use Rattle.std.proofs.Common.{◌≡◌, ℕ, ◌-◌, ◌<◌, ◌≤◌, ◌^◌, Bool, true, false, not, List, length, map, Option, Some, None, slice_get, option_map, to_z, w64, sym, ap, ap₂, subst, ◌∙◌, arith}
use Rattle.std.specs.Prelude.{ℤ, pos, nat_lt, if◌then◌else◌}
use Rattle.std.proofs.lemmas.Bool.Decides.{nat_tests}
use Rattle.std.proofs.lemmas.Int.{to_z_pos}
use Rattle.std.proofs.lemmas.List.{length-map}
use Rattle.std.proofs.lemmas.Option.{slice_get-map}
use Rattle.image_record.specs.declared.refusal.Refusal.{Refusal}
use Rattle.image_record.specs.declared.raw.RawDomain as coded
use Rattle.image_record.specs.declared.raw.RawMoment as coded_moment
use Rattle.image_record.specs.Parts.{domain_model, moment_model}
use Rattle.image_record.specs.Record.{RawMoment}
use Rattle.image_record.specs.Cases.{first_in, refusal, outside}
use Rattle.image_record.specs.Numbers.{names}
use Rattle.schedule_check.proofs.Told.{told}
use Rattle.schedule_check.specs.Interrupts.{k15_refusal, is_above, order_case, k15_moment, k15_domain}

-- a refusal as the code makes it
pub told_so : (d found case : ℕ) (r : Refusal) → d < 2 ^ 63 → found < 2 ^ 63
    → r ≡ refusal 15 (to_z w64 d) (to_z w64 found) (pos case) → k15_refusal d found case ≡ Some r
told_so d found case r l m is = told 15 d (pos found) (to_z w64 found) (pos case) r l (to_z_pos w64 found m) is

-- where a domain has not too many moments, what the rule has of it is what its moments have
pub moments_left : (earlier : List coded.RawDomain) (o : coded.RawDomain)
    (moments : List coded_moment.RawMoment) → moments ≡ o.moments.items
    → length moments ≤ 1024
    → k15_domain (map domain_model earlier) (domain_model o)
    ≡ first_in (k15_moment o.lines.items (length earlier)) (map moment_model moments)
unfolding k15_domain
moments_left earlier o moments same few =
    let lines = o.lines.items in
    let d = length (map domain_model earlier) in
    let own = map moment_model o.moments.items in
    let rest = first_in (k15_moment lines d) own in
    let many = length-map o.moments.items moment_model ∙ ap (λ (ms : List coded_moment.RawMoment). length ms) (sym same) in
    let tested : nat_lt 1024 (length own) ≡ false = grind (arith, nat_tests, many, few) in
    ap (λ (b : Bool). if b then k15_refusal d (length own) 1 else rest) tested
    ∙ ap (λ (n : ℕ). first_in (k15_moment lines n) own) (length-map earlier domain_model)
    ∙ ap (λ (ms : List coded_moment.RawMoment). first_in (k15_moment lines (length earlier)) (map moment_model ms)) (sym same)

-- where it has too many, how many there are
pub many_case : (earlier : List coded.RawDomain) (o : coded.RawDomain) (moments : List coded_moment.RawMoment)
    (r : Refusal) → moments ≡ o.moments.items
    → 1024 < length moments → length earlier < 2 ^ 63 → length moments < 2 ^ 63
    → r ≡ refusal 15 (to_z w64 (length earlier)) (to_z w64 (length moments)) (pos 1)
    → k15_domain (map domain_model earlier) (domain_model o) ≡ Some r
unfolding k15_domain
many_case earlier o moments r same more few small is =
    let d = length (map domain_model earlier) in
    let own = map moment_model o.moments.items in
    let rest = first_in (k15_moment o.lines.items d) own in
    let many : length own ≡ length moments =
    length-map o.moments.items moment_model
    ∙ ap (λ (ms : List coded_moment.RawMoment). length ms) (sym same) in
    let tested : nat_lt 1024 (length own) ≡ true = grind (arith, nat_tests, many, more) in
    ap (λ (b : Bool). if b then k15_refusal d (length own) 1 else rest) tested
    ∙ ap₂ (λ n m. k15_refusal n m 1) (length-map earlier domain_model) many
    ∙ told_so (length earlier) (length moments) 1 r few small is

-- the same lines, as a part of the domain
pub of_lines : (ls lines : List ℤ) (d : ℕ) (before : List RawMoment) (x : RawMoment) (o : Option Refusal)
    → ls ≡ lines
    → k15_moment ls d before x ≡ o → k15_moment lines d before x ≡ o
of_lines ls lines d before x o same case = subst (λ (ls : List ℤ). k15_moment ls d before x ≡ o) same case

-- ---- one moment: which of the cases is its

line_case : List ℤ → ℕ → List RawMoment → RawMoment → Option Refusal
line_case lines d before x =
    if not (names lines x.line) then k15_refusal d (length before) 3
    else order_case d (length before) x (slice_get before (length before - 1))

pub far_case : (lines : List ℤ) (d : ℕ) (earlier : List coded_moment.RawMoment) (x : RawMoment)
    → outside (pos 0) (pos 1000000000000) x.at ≡ true
    → k15_moment lines d (map moment_model earlier) x ≡ k15_refusal d (length earlier) 2
unfolding k15_moment line_case
far_case lines d earlier x far =
    let before = map moment_model earlier in
    ap (λ (b : Bool). if b then k15_refusal d (length before) 2 else line_case lines d before x) far
    ∙ ap (λ n. k15_refusal d n 2) (length-map earlier moment_model)

near_case : (lines : List ℤ) (d : ℕ) (before : List RawMoment) (x : RawMoment)
    → outside (pos 0) (pos 1000000000000) x.at ≡ false
    → k15_moment lines d before x ≡ line_case lines d before x
unfolding k15_moment line_case
near_case lines d before x near = ap (λ (b : Bool). if b then k15_refusal d (length before) 2 else line_case lines d before x) near

pub foreign_case : (lines : List ℤ) (d : ℕ) (earlier : List coded_moment.RawMoment) (x : RawMoment)
    → outside (pos 0) (pos 1000000000000) x.at ≡ false
    → names lines x.line ≡ false → k15_moment lines d (map moment_model earlier) x ≡ k15_refusal d (length earlier) 3
unfolding line_case
foreign_case lines d earlier x near foreign =
    let before = map moment_model earlier in
    near_case lines d before x near
    ∙ ap (λ (b : Bool). if not b then k15_refusal d (length before) 3 else order_case d (length before) x (slice_get before (length before - 1))) foreign
    ∙ ap (λ n. k15_refusal d n 3) (length-map earlier moment_model)

pub ordered_case : (lines : List ℤ) (d : ℕ) (before : List RawMoment) (x : RawMoment)
    → outside (pos 0) (pos 1000000000000) x.at ≡ false
    → names lines x.line ≡ true → k15_moment lines d before x ≡ order_case d (length before) x (slice_get before (length before - 1))
unfolding line_case
ordered_case lines d before x near own =
    near_case lines d before x near
    ∙ ap (λ (b : Bool). if not b then k15_refusal d (length before) 3 else order_case d (length before) x (slice_get before (length before - 1))) own

-- ---- the order of two moments

-- what the rule has of the moment before, as the code reads it
pub last_is : (earlier : List coded_moment.RawMoment) (d : ℕ) (x : RawMoment)
    (o : Option coded_moment.RawMoment) → o ≡ slice_get earlier (length earlier - 1)
    → order_case d (length (map moment_model earlier)) x (slice_get (map moment_model earlier) (length (map moment_model earlier) - 1))
    ≡ order_case d (length earlier) x (option_map moment_model o)
last_is earlier d x o is =
    ap (λ n. order_case d n x (slice_get (map moment_model earlier) (n - 1))) (length-map earlier moment_model)
    ∙ ap (order_case d (length earlier) x) (slice_get-map moment_model earlier (length earlier - 1) ∙ ap (option_map moment_model) (sym is))

pub above_case : (d place : ℕ) (x y : RawMoment) (b : Bool) → b ≡ is_above x y
    → order_case d place x (Some y) ≡ (if b then None else k15_refusal d place 4)
above_case d place x y b is = ap (λ (b : Bool). if b then None else k15_refusal d place 4) (sym is)

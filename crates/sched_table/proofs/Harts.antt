-- The entries of a hart.
use Rattle.std.proofs.Common.{◌≡◌, ℕ, zero, suc, ◌+◌, ◌<◌, Bool, true, false, true≢false, List, [], ◌∷◌, length, get_or, ◌⊎◌, inl, inr, zero-add, refl, ap, sym, subst, ◌∙◌, arith, eqb-true, eq-eqb}
use Rattle.std.specs.Prelude.{◌==◌, ◌||◌, cond, if◌then◌else◌}
use Rattle.std.proofs.lemmas.Bool.{eqb-false}
use Rattle.std.proofs.lemmas.List.{length-map, get_or-map, get_or_default}
use Rattle.std.proofs.lemmas.List.FromFn.{length-enumerate_from, get_or-enumerate_from}
use Rattle.std.specs.List.{All, filter, enumerate_from, list_any}
use Rattle.std.proofs.lemmas.List.Elements.{filter_passes, All-filter, All-get_or, All-head, All-tail}
use Rattle.sched_table.specs.declared.schedule.Entry.{Entry}
use Rattle.sched_table.specs.Schedule.{no_entry, entry_in, entries_on, on_hart, harts_in, hart_for}
use Rattle.sched_table.specs.Laws.{HartLaw, OneHartLaw, PlacedLaw, DomainHartLaw, HartThereLaw}

pub hart_law : HartLaw
unfolding entries_on
hart_law es h = λ k d l. eqb-true _ h (filter_passes (λ (placed : ℕ × Entry). placed.1.hart == h) (enumerate_from 0 es) k d l)

kept : {A : Type 0} (b : Bool) (x : A) (xs : List A) → b ≡ true → (if b then x ∷ xs else xs) ≡ x ∷ xs
kept b x xs e = rw e refl

all_pass : (n : ℕ) (es : List Entry) → All (λ e. e.hart ≡ 0) es
    → filter (λ (placed : ℕ × Entry). placed.1.hart == 0) (enumerate_from n es) ≡ enumerate_from n es
all_pass n [] on = refl
all_pass n (e ∷ es) on =
    let first : (e.hart == 0) ≡ true = ap (λ (h : ℕ). h == 0) (All-head (λ (x : Entry). x.hart ≡ 0) e es on) in
    let rest = all_pass (n + 1) es (All-tail (λ (x : Entry). x.hart ≡ 0) e es on) in
    kept (e.hart == 0) (n, e) _ first ∙ ap (λ (placed : List (ℕ × Entry)). (n, e) ∷ placed) rest

pub one_hart_law : OneHartLaw
unfolding entries_on
one_hart_law es on = all_pass 0 es on

-- ---- places

-- an entry stands at this place among all
record StandsAt (es : List Entry) (placed : ℕ × Entry) : Type 0 where
  there : placed.0 < length es
  same : placed.1 ≡ entry_in es placed.0

all_stand : (es : List Entry) → All (StandsAt es) (enumerate_from 0 es)
all_stand es = λ k d l.
    let below : k < length es = let n = length-enumerate_from 0 es in omega (arith, n, l) in
    let at : get_or (enumerate_from 0 es) k d ≡ (k, get_or es k d.1) =
    get_or-enumerate_from 0 es k d below ∙ ap {B = ℕ × Entry} (λ (n : ℕ). (n, get_or es k d.1)) (zero-add k) in
    subst (StandsAt es) (sym at) (record { there = below; same = get_or_default es k d.1 no_entry below })

pub placed_law : PlacedLaw
unfolding entries_on
placed_law es h e l =
    let on = entries_on es h in
    let below : e < length on = let n = length-map on (λ (placed : ℕ × Entry). placed.1) in omega (arith, n, l) in
    let at = All-get_or (StandsAt es) on e (0, no_entry) below
    (All-filter (λ (placed : ℕ × Entry). placed.1.hart == h) (StandsAt es) (enumerate_from 0 es) (all_stand es)) in
    let mine : (get_or on e (0, no_entry)).1.hart ≡ h = hart_law es h e (0, no_entry) below in
    record {
      there = at.there;
      same = get_or-map (λ (placed : ℕ × Entry). placed.1) on e (0, no_entry) no_entry below ∙ at.same;
      hart = ap (λ (x : Entry). x.hart) (sym at.same) ∙ mine;
    }

-- ---- which harts have entries

-- one that an entry names
some_from : (h n : ℕ) (es : List Entry) → list_any (λ e. e.hart == h) es ≡ true
    → 0 < length (filter (λ (placed : ℕ × Entry). placed.1.hart == h) (enumerate_from n es))
some_from h n [] some = absurd (true≢false (sym some))
some_from h n (x ∷ xs) some = by_case (some_from h (n + 1) xs) (x.hart == h) some
  where
    later : List (ℕ × Entry)
    later = filter (λ (placed : ℕ × Entry). placed.1.hart == h) (enumerate_from (n + 1) xs)

    by_case : (list_any (λ e. e.hart == h) xs ≡ true → 0 < length later) → (b : Bool)
        → (b || list_any (λ e. e.hart == h) xs) ≡ true
        → 0 < length (cond b ((n, x) ∷ later) later)
    by_case rest true some = omega arith
    by_case rest false some = rest some

pub named_there : (es : List Entry) (h : ℕ) → list_any (λ e. e.hart == h) es ≡ true
    → 0 < length (on_hart es h)
unfolding entries_on
named_there es h some =
    let long = length-map (entries_on es h) (λ (placed : ℕ × Entry). placed.1) in
    omega (arith, long, some_from h 0 es some)

-- the greatest is one
pub greatest_named : (es : List Entry) (h : ℕ) → h + 1 ≡ harts_in es → list_any (λ e. e.hart == h) es ≡ true
unfolding harts_in
greatest_named [] h greatest = absurd (omega (arith, greatest))
greatest_named (x ∷ xs) h greatest = by_case (greatest_named xs h) (x.hart == h) refl
  where
    by_case : (h + 1 ≡ harts_in xs → list_any (λ e. e.hart == h) xs ≡ true) → (b : Bool) → (x.hart == h) ≡ b
        → (b || list_any (λ e. e.hart == h) xs) ≡ true
    by_case rest true here = refl
    by_case rest false here = rest (omega (arith, greatest, eqb-false x.hart h here))

-- ---- the hart of a domain

-- the first entry that names it
record Named (es : List Entry) (d : ℕ) : Type 0 where
  place : ℕ
  there : place < length es
  names : (entry_in es place).domain ≡ d
  hart : hart_for es d ≡ (entry_in es place).hart

named_if : (x : Entry) (xs : List Entry) (d : ℕ) (b : Bool) → (x.domain == d) ≡ b → (b ≡ false → Named xs d)
    → Named (x ∷ xs) d
unfolding hart_for
named_if x xs d true first rest = record { place = 0; there = omega arith; names = eqb-true x.domain d first; hart = rw first refl }
named_if x xs d false later rest =
    let n = rest refl in
    let there = n.there in
    record { place = suc n.place; there = omega (arith, there); names = n.names; hart = rw later n.hart }

named : (es : List Entry) (d e : ℕ) → e < length es → (entry_in es e).domain ≡ d → Named es d
named [] d e l is = absurd (omega (arith, l))
named (x ∷ xs) d zero l is = named_if x xs d _ refl (λ no. absurd (true≢false (sym (eq-eqb x.domain d is) ∙ no)))
named (x ∷ xs) d (suc e) l is = named_if x xs d _ refl (λ no. named xs d e (omega (arith, l)) is)

pub domain_hart_law : DomainHartLaw
domain_hart_law es e harts l =
    let n = named es (entry_in es e).domain e l refl in
    n.hart ∙ harts.one n.place e n.there l n.names

there_if : (b : Bool) (x : Entry) (xs : List Entry) (d : ℕ) → (x.domain == d) ≡ b
    → (hart_for xs d < harts_in xs) ⊎ (hart_for xs d ≡ 0)
    → hart_for (x ∷ xs) d < harts_in (x ∷ xs)
unfolding hart_for harts_in
there_if true x xs d e below = rw e (omega arith)
there_if false x xs d e (inl below) = rw e (omega (arith, below))
there_if false x xs d e (inr none) = rw e (omega (arith, none))

there : (x : Entry) (xs : List Entry) (d : ℕ) → hart_for (x ∷ xs) d < harts_in (x ∷ xs)
unfolding hart_for
there x [] d = there_if (x.domain == d) x [] d refl (inr refl)
there x (y ∷ ys) d = there_if (x.domain == d) x (y ∷ ys) d refl (inl (there y ys d))

pub hart_there_law : HartThereLaw
hart_there_law [] d some = absurd (omega (arith, some))
hart_there_law (x ∷ xs) d some = there x xs d

-- The first moment that is due of any domain, of the code and of the definitions.
use Rattle.std.proofs.Common.{◌≡◌, ◌≢◌, ℕ, zero, suc, ◌+◌, ◌<◌, ◌≤◌, leb, Bool, true, false, List, length, Option, Some, None, ◌⊎◌, inl, inr, refl, ap, ap₂, sym, ◌∙◌, arith, add-one}
use Rattle.std.specs.Prelude.{slice_get, option_map, if◌then◌else◌}
use Rattle.std.proofs.lemmas.Option.{same_Some, slice_get_cases}
use Rattle.irq_partition.specs.declared.Moment.{Moment}
use Rattle.irq_partition.specs.Interrupts.{Interrupts, next_of, cycle_of, next_cycle, line_by, due}
use Rattle.kernel_call.specs.declared.domain.Domain.{Domain}
use Rattle.image_check.specs.Image.{Image, own_of}
use Rattle.world_view.specs.Event.{interrupts_of}
use Rattle.world_view.specs.Machine.{World, clock_of, dom_of, Owned, if_due, first_of, first_due}
use Rattle.domain_step.specs.declared.open.Due.{Due}
use Rattle.domain_step.specs.OpenSlot.{first_among, next_at, owned}

module _ (owner at line : ℕ) where
  abbrev it : Owned
  it = record { owner = owner; moment = record { at = at; line = line } }

  by_test : (b : Bool) (x : Moment) → Some at ≡ Some x.at → Some line ≡ (if b then Some x.line else None)
      → Some it ≡ (if b then Some (record { owner = owner; moment = x }) else None)
  by_test true x e f =
      ap₂ (λ (a l : ℕ). Some (record { owner = owner; moment = record { at = a; line = l } }))
      (same_Some at x.at e) (same_Some line x.line f)
  by_test false x e f = absurd (cc f)

  next_is : (now : ℕ) (next : Option Moment) → Some at ≡ cycle_of next → Some line ≡ line_by now next
      → Some it ≡ if_due now owner next
  next_is now None e f = absurd (cc e)
  next_is now (Some x) e f = by_test (leb x.at now) x e f

  pub due_is : (now : ℕ) (s : Interrupts) → Some at ≡ next_cycle s → Some line ≡ due now s
      → Some it ≡ if_due now owner (next_of s)
  unfolding next_cycle due
  due_is now s e f = next_is now (next_of s) e f

pub first_more : (now : ℕ) (domains : List Domain) (d : ℕ) (x : Domain) → slice_get domains d ≡ Some x
    → first_among now domains (d + 1) ≡ first_of (first_among now domains d)
    (if_due now d (next_of x.interrupts))
unfolding first_among
first_more now domains d x got =
    ap (first_among now domains) (add-one d)
    ∙ ap (λ (o : Option Domain). first_of (first_among now domains d) (if_due now d (next_at o))) got

-- ---- which moment it is

first_of_is : (x y : Option Owned) (o : Owned) → first_of x y ≡ Some o → (x ≡ Some o) ⊎ (y ≡ Some o)
first_of_is None y o e = inr e
first_of_is (Some x) None o e = inl e
first_of_is (Some x) (Some y) o e = first_of_test _ x y o e
  where
    first_of_test : (b : Bool) (x y : Owned) (o : Owned) → (if b then Some y else Some x) ≡ Some o
        → (Some x ≡ Some o) ⊎ (Some y ≡ Some o)
    first_of_test true x y o e = inr e
    first_of_test false x y o e = inl e

owner_test : (b : Bool) (d : ℕ) (x : Moment) (o : Owned)
    → (if b then Some (record { owner = d; moment = x }) else None) ≡ Some o → o.owner ≡ d
owner_test true d x o e = sym (ap (λ (q : Owned). q.owner) (same_Some _ o e))
owner_test false d x o e = absurd (cc e)

owner_is : (now d : ℕ) (next : Option Moment) (o : Owned) → if_due now d next ≡ Some o → o.owner ≡ d
owner_is now d None o e = absurd (cc e)
owner_is now d (Some x) o e = owner_test _ d x o e

line_test : (b : Bool) (d : ℕ) (x : Moment) (o : Owned)
    → (if b then Some (record { owner = d; moment = x }) else None) ≡ Some o
    → (if b then Some x.line else None) ≡ Some o.moment.line
line_test true d x o e = ap (λ (q : Owned). Some q.moment.line) (same_Some _ o e)
line_test false d x o e = absurd (cc e)

line_is : (now d : ℕ) (next : Option Moment) (o : Owned) → if_due now d next ≡ Some o
    → line_by now next ≡ Some o.moment.line
line_is now d None o e = absurd (cc e)
line_is now d (Some x) o e = line_test _ d x o e

-- it is of one of the domains, and due there
pub record Comes (now : ℕ) (domains : List Domain) (o : Owned) : Type 0 where
  pub domain : Domain
  pub got : slice_get domains o.owner ≡ Some domain
  pub due : due now domain.interrupts ≡ Some o.moment.line

module _ (now : ℕ) (domains : List Domain) where
  comes_if : (d : ℕ) (x : Option Domain) (o : Owned) → slice_get domains d ≡ x
      → if_due now d (next_at x) ≡ Some o → Comes now domains o
  unfolding due
  comes_if d None o got e = absurd (cc e)
  comes_if d (Some x) o got e = record {
    domain = x;
    got = ap (slice_get domains) (owner_is now d (next_of x.interrupts) o e) ∙ got;
    due = line_is now d (next_of x.interrupts) o e;
  }

  pub first_comes : (n : ℕ) (o : Owned) → first_among now domains n ≡ Some o → Comes now domains o
  unfolding first_among
  first_comes zero o e = absurd (cc e)
  first_comes (suc d) o e =
      elim (first_of_is (first_among now domains d) (if_due now d (next_at (slice_get domains d))) o e) [
        | inl before ↦ first_comes d o before
        | inr last ↦ comes_if d (slice_get domains d) o refl last
      ]

  -- the same moments are those of the definitions
  module _ (i : Image) (w : World) (all : length domains ≡ length i.owns) (time : now ≡ clock_of 0 w)
      (each : (d : ℕ) (x : Domain) → slice_get domains d ≡ Some x
      → next_of x.interrupts ≡ next_of (interrupts_of (own_of i d) (dom_of w d))) where
    one_is : (d : ℕ) → d < length domains
        → if_due now d (next_at (slice_get domains d)) ≡ if_due (clock_of 0 w) d
        (next_of (interrupts_of (own_of i d) (dom_of w d)))
    one_is d within =
        elim (slice_get_cases domains d).1 [
          | inl there ↦
              ap (λ (x : Option Domain). if_due now d (next_at x)) there.2
              ∙ ap₂ (λ (t : ℕ) (next : Option Moment). if_due t d next) time (each d there.0 there.2)
          | inr past ↦ absurd (omega (arith, within, past.0))
        ]

    pub among_is : (n : ℕ) → n ≤ length domains → first_among now domains n ≡ first_due i 0 w n
    unfolding first_among first_due
    among_is zero few = refl
    among_is (suc d) few = ap₂ first_of (among_is d (omega (arith, few))) (one_is d (omega (arith, few)))

-- what was found is the first
pub found : (now : ℕ) (domains : List Domain) (x : Due) (result : Option Due)
    → option_map owned result ≡ first_among now domains (length domains) → result ≡ Some x
    → first_among now domains (length domains) ≡ Some (owned x)
found now domains x result first is = sym first ∙ ap (option_map owned) is

pub comes_of : (now : ℕ) (domains : List Domain) (x : Due) (result : Option Due)
    → option_map owned result ≡ first_among now domains (length domains) → result ≡ Some x
    → Comes now domains (owned x)
comes_of now domains x result first is = first_comes now domains (length domains) (owned x)
    (found now domains x result first is)

-- or nothing was
pub none_found : (now : ℕ) (domains : List Domain) (result : Option Due)
    → option_map owned result ≡ first_among now domains (length domains) → ((x : Due) → result ≢ Some x)
    → first_among now domains (length domains) ≡ None
none_found now domains None first none = sym first
none_found now domains (Some x) first none = absurd (none x refl)

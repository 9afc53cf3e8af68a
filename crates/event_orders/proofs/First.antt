-- Whose event is next, by clocks.
use Rattle.std.proofs.Common.{◌≡◌, ℕ, zero, suc, ◌<◌, ◌≤◌, ◌⊎◌, inl, inr, Bool, true, false, ltb, ltb-true, ltb-false, Option, Some, None, ap, refl, subst, arith}
use Rattle.std.specs.Prelude.{if◌then◌else◌}
use Rattle.std.proofs.lemmas.Bool.{cases_lt}
use Rattle.event_orders.specs.Machine.{Machine}
use Rattle.event_orders.specs.Orders.{earlier, first}

-- this clock, and this number where they are equal
abbrev pub NotAfter : ℕ → ℕ → ℕ → ℕ → Type 0
NotAfter c h d g = (c < d) ⊎ ((c ≡ d) × (h ≤ g))

pub not_after : (c h d g : ℕ) → c ≤ d → h ≤ g → NotAfter c h d g
not_after c h d g le before = elim (cases_lt c d) [ inl less ↦ inl less | inr not ↦ inr (omega (arith, le, not), before) ]

less_then : (b c h d g k : ℕ) → b < c → NotAfter c h d g → NotAfter b k d g
less_then b c h d g k less (inl lt) = inl (omega (arith, less, lt))
less_then b c h d g k less (inr both) = let same = both.0 in inl (omega (arith, less, same))

only_by : (c h d g : ℕ) → NotAfter c h d g → NotAfter d g c h → h ≡ g
only_by c h d g (inl a) (inl b) = absurd (omega (arith, a, b))
only_by c h d g (inl a) (inr b) = let same = b.0 in absurd (omega (arith, a, same))
only_by c h d g (inr a) (inl b) = let same = a.0 in absurd (omega (arith, same, b))
only_by c h d g (inr a) (inr b) = let x = a.1 in let y = b.1 in omega (arith, x, y)

module _ (m : Machine) (n : ℕ) (w : m.World) where
  -- the hart has slots left, and none below this number that has comes before it
  pub record IsFirst (b h : ℕ) : Type 0 where
    pub hart : h < b
    pub left : m.slots h w < n
    pub leads : (g : ℕ) → g < b → m.slots g w < n → NotAfter (m.clock h w) h (m.clock g w) g

  abbrev pub Found : ℕ → Option ℕ → Type 0
  Found b None = (g : ℕ) → g < b → n ≤ m.slots g w
  Found b (Some h) = IsFirst b h

  -- ---- one hart more

  below_suc : (P : ℕ → Type 0) (b : ℕ) → P b → ((g : ℕ) → g < b → P g) → (g : ℕ) → g < suc b → P g
  below_suc P b here there g under = elim (cases_lt g b) [
    | inl less ↦ there g less
    | inr not ↦ let same : b ≡ g = omega (arith, not, under) in subst P same here
  ]

  passed : (b : ℕ) (o : Option ℕ) → n ≤ m.slots b w → Found b o → Found (suc b) o
  passed b None through f = below_suc (λ g. n ≤ m.slots g w) b through f
  passed b (Some h) through f =
      let under = f.hart in
      record {
        hart = omega (arith, under);
        left = f.left;
        leads = below_suc (λ g. m.slots g w < n → NotAfter (m.clock h w) h (m.clock g w) g) b
            (λ left. absurd (omega (arith, through, left))) f.leads;
      }

  itself_first : (b : ℕ) → m.slots b w < n
      → ((g : ℕ) → g < b → m.slots g w < n → NotAfter (m.clock b w) b (m.clock g w) g) → IsFirst (suc b) b
  itself_first b left others = record {
    hart = omega arith;
    left = left;
    leads = below_suc (λ g. m.slots g w < n → NotAfter (m.clock b w) b (m.clock g w) g) b
        (λ _. inr (refl, omega arith)) others;
  }

  one_of : (b h : ℕ) (t : Bool) → ltb (m.clock b w) (m.clock h w) ≡ t → m.slots b w < n → IsFirst b h
      → Found (suc b) (if t then Some b else Some h)
  one_of b h true less left f =
      itself_first b left
      (λ g under left'. less_then (m.clock b w) (m.clock h w) h (m.clock g w) g b (ltb-true _ _ less) (f.leads g under left'))
  one_of b h false less left f =
      let under = f.hart in
      let le = ltb-false (m.clock b w) (m.clock h w) less in
      record {
        hart = omega (arith, under);
        left = f.left;
        leads = below_suc (λ g. m.slots g w < n → NotAfter (m.clock h w) h (m.clock g w) g) b
            (λ _. not_after (m.clock h w) h (m.clock b w) b le (omega (arith, under))) f.leads;
      }

  joined : (b : ℕ) (o : Option ℕ) → m.slots b w < n → Found b o → Found (suc b) (earlier m w o b)
  joined b None left f = itself_first b left (λ g under left'. let not = f g under in absurd (omega (arith, not, left')))
  joined b (Some h) left f = one_of b h (ltb (m.clock b w) (m.clock h w)) refl left f

  found_if : (b : ℕ) (o : Option ℕ) (t : Bool) → ltb (m.slots b w) n ≡ t → Found b o
      → Found (suc b) (if t then earlier m w o b else o)
  found_if b o true t f = joined b o (ltb-true (m.slots b w) n t) f
  found_if b o false t f = passed b o (ltb-false (m.slots b w) n t) f

  found : (b : ℕ) → Found b (first m n w b)
  unfolding first
  found zero = λ g under. absurd (omega (arith, under))
  found (suc b) = found_if b (first m n w b) (ltb (m.slots b w) n) refl (found b)

  -- ---- of all harts

  pub is_first : (h : ℕ) → first m n w m.harts ≡ Some h → IsFirst m.harts h
  is_first h e = subst (Found m.harts) e (found m.harts)

  pub nobody : first m n w m.harts ≡ None → (g : ℕ) → g < m.harts → n ≤ m.slots g w
  nobody e = subst (Found m.harts) e (found m.harts)

  chosen_if : (h : ℕ) → IsFirst m.harts h → (o : Option ℕ) → Found m.harts o → o ≡ Some h
  chosen_if h f None none = let not = none h f.hart in let left = f.left in absurd (omega (arith, not, left))
  chosen_if h f (Some g) other =
      ap (λ (x : ℕ). Some x)
      (only_by (m.clock g w) g (m.clock h w) h (other.leads h f.hart f.left) (f.leads g other.hart other.left))

  pub chosen : (h : ℕ) → IsFirst m.harts h → first m n w m.harts ≡ Some h
  chosen h f = chosen_if h f (first m n w m.harts) (found m.harts)

  through_if : ((g : ℕ) → g < m.harts → n ≤ m.slots g w) → (o : Option ℕ) → Found m.harts o → o ≡ None
  through_if all None f = refl
  through_if all (Some h) f = let not = all h f.hart in let left = f.left in absurd (omega (arith, not, left))

  pub through : ((g : ℕ) → g < m.harts → n ≤ m.slots g w) → first m n w m.harts ≡ None
  through all = through_if all (first m n w m.harts) (found m.harts)

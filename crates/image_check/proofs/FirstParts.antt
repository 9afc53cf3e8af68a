-- The first of a list, and those after it.
use Rattle.std.proofs.Common.{◌≡◌, ◌<◌, ℕ, List, [], ◌∷◌, ◌++◌, length, get_or, map, ap, sym, ◌∙◌, arith}
use Rattle.std.proofs.lemmas.List.{append_assoc, map_push, length-map}
use Rattle.std.specs.Prelude.{remove}
use Rattle.image_record.specs.Record.{RawDomain}
use Rattle.image_check.specs.declared.own.DomainPart.{DomainPart}
use Rattle.image_check.specs.declared.own.DomainParts.{DomainParts}
use Rattle.image_check.specs.Parts.{HasFirst, BeginsWith, IsPartOf, ArePartsOf}

pub first_and_rest : {A : Type 0} (xs ys : List A) (x : A) → 0 < length xs → x ≡ get_or xs 0 x
    → ys ≡ remove xs 0 → xs ≡ x ∷ ys
first_and_rest [] ys x some first rest = absurd (omega (arith, some))
first_and_rest (z ∷ zs) ys x some first rest = cc

some_in : {A B : Type 0} (f : A → B) (xs : List A) (y : B) (ys : List B) → map f xs ≡ y ∷ ys → 0 < length xs
some_in {B = B} f xs y ys e = let n = ap (λ (zs : List B). length zs) e in omega (arith, n, length-map xs f)

-- each list of the parts of some domains has the first one's
pub has_first : (p : DomainParts) (o : RawDomain) (os : List RawDomain) → ArePartsOf p (o ∷ os) → HasFirst p
has_first p o os parts =
    let calls = ap (λ (ns : List ℕ). length ns) parts.calls in
    record {
      colours = some_in _ _ _ _ parts.colours;
      segments = some_in _ _ _ _ parts.segments;
      caps = some_in _ _ _ _ parts.caps;
      lines = some_in _ _ _ _ parts.lines;
      moments = some_in _ _ _ _ parts.moments;
      calls = omega (arith, calls);
    }

record Both {A B : Type 0} (f : A → B) (x : A) (xs : List A) (y : B) (ys : List B) : Type 0 where
  pub first : f x ≡ y
  pub rest : map f xs ≡ ys

both : {A B : Type 0} (f : A → B) (x : A) (xs all : List A) (y : B) (ys : List B) → map f all ≡ y ∷ ys
    → all ≡ x ∷ xs → Both f x xs y ys
both f x xs all y ys e is = let same : f x ∷ map f xs ≡ y ∷ ys = ap (map f) (sym is) ∙ e in record { first = cc; rest = cc }

first_number : (x y : ℕ) (xs ys : List ℕ) → x ∷ xs ≡ y ∷ ys → x ≡ y
first_number x y xs ys e = cc

other_numbers : (x y : ℕ) (xs ys : List ℕ) → x ∷ xs ≡ y ∷ ys → xs ≡ ys
other_numbers x y xs ys e = cc

-- the first parts are the first domain's
pub is_first : (p left : DomainParts) (first : DomainPart) (o : RawDomain) (os : List RawDomain)
    → ArePartsOf p (o ∷ os) → BeginsWith first left p → IsPartOf first o
is_first p left first o os parts begins = record {
  colours = (both _ _ _ _ _ _ parts.colours begins.colours).first;
  segments = (both _ _ _ _ _ _ parts.segments begins.segments).first;
  caps = (both _ _ _ _ _ _ parts.caps begins.caps).first;
  lines = (both _ _ _ _ _ _ parts.lines begins.lines).first;
  moments = (both _ _ _ _ _ _ parts.moments begins.moments).first;
  calls = first_number _ _ _ _ (sym begins.calls ∙ parts.calls);
}

-- those that are left are the others'
pub are_left : (p left : DomainParts) (first : DomainPart) (o : RawDomain) (os : List RawDomain)
    → ArePartsOf p (o ∷ os) → BeginsWith first left p → ArePartsOf left os
are_left p left first o os parts begins = record {
  colours = (both _ _ _ _ _ _ parts.colours begins.colours).rest;
  segments = (both _ _ _ _ _ _ parts.segments begins.segments).rest;
  caps = (both _ _ _ _ _ _ parts.caps begins.caps).rest;
  lines = (both _ _ _ _ _ _ parts.lines begins.lines).rest;
  moments = (both _ _ _ _ _ _ parts.moments begins.moments).rest;
  calls = other_numbers _ _ _ _ (sym begins.calls ∙ parts.calls);
}

-- one more is made, and one less is left
pub made_more : {A B : Type 0} (f : A → B) (made now : List A) (x : A) (left rest all : List B) (y : B)
    → left ≡ y ∷ rest → map f made ++ left ≡ all
    → now ≡ made ++ x ∷ [] → f x ≡ y → map f now ++ rest ≡ all
made_more {A = A} {B = B} f made now x left rest all y is before more same =
    ap (λ (xs : List A). map f xs ++ rest) more
    ∙ ap (λ (ys : List B). ys ++ rest) (map_push f made x)
    ∙ append_assoc (map f made) (f x ∷ []) rest
    ∙ ap (λ (z : B). map f made ++ z ∷ rest) same
    ∙ ap (λ (ys : List B). map f made ++ ys) (sym is)
    ∙ before

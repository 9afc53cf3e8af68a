-- Bytes that are told, in pieces, and how many more a sink surely takes.
use Rattle.std.proofs.Common.{◌≡◌, ℕ, ◌+◌, ◌-◌, ◌≤◌, List, [], ◌++◌, length, take, drop, Option, Some, None, refl, ap, sym, ◌∙◌, append_assoc, arith}
use Rattle.std.proofs.lemmas.List.{append-nil, take_rest, length-append, take-append-le}
use Rattle.std.proofs.lemmas.Option.{same_Some}
use Rattle.std.proofs.Math.Seq.{take-add, take-append-add}
use Rattle.tp_io.specs.Bytes.{before_known, after_known, TakesSome, PutsFront}
use Rattle.tp_io.specs.Sure.{less, Exceeds}

pub after_known-after_known : (known : Option (List ℕ)) (xs ys : List ℕ)
    → after_known (after_known known xs) ys ≡ after_known known (xs ++ ys)
after_known-after_known None xs ys = refl
after_known-after_known (Some zs) xs ys = ap Some (append_assoc zs xs ys)

pub after_known-nil : (known : Option (List ℕ)) → after_known known [] ≡ known
after_known-nil None = refl
after_known-nil (Some zs) = ap Some (append-nil zs)

pub before_known-before_known : (xs ys : List ℕ) (known : Option (List ℕ))
    → before_known xs (before_known ys known) ≡ before_known (xs ++ ys) known
before_known-before_known xs ys None = refl
before_known-before_known xs ys (Some zs) = ap Some (sym (append_assoc xs ys zs))

-- some bytes were taken, and then more
pub took_more : (old mid new : Option (List ℕ)) (xs ys : List ℕ) → old ≡ before_known xs mid
    → mid ≡ before_known ys new → TakesSome old new
took_more old mid new xs ys so_far more = (xs ++ ys, so_far ∙ ap (before_known xs) more ∙ before_known-before_known xs ys new)

-- one more write of a part of the piece, of which s bytes were written
pub written_more : (old mid new : Option (List ℕ)) (s n : ℕ) (piece : List ℕ)
    → mid ≡ after_known old (take s piece)
    → new ≡ after_known mid (take n (take (length piece - s) (drop s piece)))
    → new ≡ after_known old (take (s + n) piece)
written_more old mid new s n piece so_far more =
    let put : new ≡ after_known mid (take n (drop s piece)) = more ∙ ap (λ rest. after_known mid (take n rest)) (take_rest piece s) in
    put ∙ ap (λ k. after_known k (take n (drop s piece))) so_far
    ∙ after_known-after_known old (take s piece) (take n (drop s piece))
    ∙ ap (after_known old) (sym (take-add s n piece))

-- a front of what comes after a whole text is a front of both
pub front_more : (old mid new : Option (List ℕ)) (xs ys : List ℕ) → mid ≡ after_known old xs
    → PutsFront mid new ys → PutsFront old new (xs ++ ys)
front_more old mid new xs ys put (n, within, e) = (
  length xs + n,
  omega (arith, length-append xs ys),
  (e ∙ ap (λ k. after_known k (take n ys)) put)
      ∙ after_known-after_known old xs (take n ys) ∙ ap (after_known old) (sym (take-append-add xs ys n)),
)

-- a front of the first text is a front of both
pub front_of_first : (old new : Option (List ℕ)) (xs ys : List ℕ) → PutsFront old new xs
    → PutsFront old new (xs ++ ys)
front_of_first old new xs ys (n, within, e) =
    (n, omega (arith, length-append xs ys), e ∙ ap (after_known old) (sym (take-append-le n xs ys within)))

-- ---- what a sink surely takes

less-less : (sure : Option ℕ) (m n : ℕ) → less (less sure m) n ≡ less sure (m + n)
less-less None m n = refl
less-less (Some k) m n =
    let e : k - m - n ≡ k - (m + n) = omega arith in
    ap Some e

pub less-none : (sure : Option ℕ) → less sure 0 ≡ sure
less-none None = refl
less-none (Some k) =
    let e : k - 0 ≡ k = omega arith in
    ap Some e

-- one more write, after s bytes
pub less_more : (old mid new : Option ℕ) (s n : ℕ) → mid ≡ less old s → new ≡ less mid n
    → new ≡ less old (s + n)
less_more old mid new s n so_far more = more ∙ ap (λ k. less k n) so_far ∙ less-less old s n

-- one more text
pub less_text : (old mid new : Option ℕ) (xs ys : List ℕ) → mid ≡ less old (length xs)
    → new ≡ less mid (length ys) → new ≡ less old (length (xs ++ ys))
less_text old mid new xs ys so_far more =
    less_more old mid new (length xs) (length ys) so_far more ∙ ap (less old) (sym (length-append xs ys))

-- what was too long after s bytes was too long with them
pub too_long_rest : (old mid : Option ℕ) (s : ℕ) (rest all : List ℕ) → mid ≡ less old s
    → s + length rest ≤ length all → Exceeds mid rest → Exceeds old all
too_long_rest None mid s rest all so_far within long = tt
too_long_rest (Some k) None s rest all so_far within long = absurd (cc)
too_long_rest (Some k) (Some n) s rest all so_far within long =
    let left : n ≡ k - s = same_Some _ _ so_far in
    omega arith

pub too_long_more : (old mid : Option ℕ) (xs ys : List ℕ) → mid ≡ less old (length xs) → Exceeds mid ys
    → Exceeds old (xs ++ ys)
too_long_more old mid xs ys so_far long = too_long_rest old mid (length xs) ys (xs ++ ys) so_far (omega (arith, length-append xs ys)) long

pub too_long_first : (old : Option ℕ) (xs ys : List ℕ) → Exceeds old xs → Exceeds old (xs ++ ys)
too_long_first None xs ys long = tt
too_long_first (Some k) xs ys long = omega (arith, length-append xs ys)

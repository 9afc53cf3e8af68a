-- Models of items, one after the other.
use Rattle.std.proofs.Common.{◌≡◌, List, [], ◌∷◌, map, refl, ap}

pub map_of_map : {A B C : Type 0} (g : B → C) (f : A → B) (xs : List A) → map (λ x. g (f x)) xs ≡ map g (map f xs)
map_of_map g f [] = refl
map_of_map g f (x ∷ xs) = ap (λ ys. g (f x) ∷ ys) (map_of_map g f xs)

-- A part of a domain, in the list of these parts of all domains.
use Rattle.std.proofs.Common.{◌≡◌, ℕ, ◌<◌, List, length, map, get_or, sym, ap, ◌∙◌, arith}
use Rattle.std.proofs.lemmas.List.{length-map, get_or-map}

pub part_at : {A B C D : Type 0} (xs : List A) (ds : List D) (h : D → B) (f : A → C) (g : B → C)
    → map f xs ≡ map g (map h ds)
    → (k : ℕ) → k < length ds → (x : A) (d : D) → x ≡ get_or xs k x → d ≡ get_or ds k d → f x ≡ g (h d)
part_at xs ds h f g same k below x d x_is d_is =
    let long : k < length xs = omega (arith, length-map xs f, length-map ds h, length-map (map h ds) g, ap length same, below) in
    let there : k < length (map h ds) = omega (arith, length-map ds h, below) in
    let mine : get_or (map f xs) k (f x) ≡ f x = get_or-map f xs k x (f x) long ∙ ap f (sym x_is) in
    let at : get_or (map h ds) k (h d) ≡ h d = get_or-map h ds k d (h d) below ∙ ap h (sym d_is) in
    let theirs : get_or (map g (map h ds)) k (f x) ≡ g (h d) = get_or-map g (map h ds) k (h d) (f x) there ∙ ap g at in
    sym mine ∙ ap (λ ys. get_or ys k (f x)) same ∙ theirs

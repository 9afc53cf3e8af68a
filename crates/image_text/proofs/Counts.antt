-- Lists of values: how many there are, and integers that are read of them.
use Rattle.std.proofs.Common.{◌≡◌, ◌≢◌, ◌==◌, List, [], ◌∷◌, length, map, String, Vec, ℤ, Result, Ok, Err, false, Some, refl, sym, ap, ◌∙◌, arith}
use Rattle.std.proofs.lemmas.Bool.Decides.{nat_tests}
use Rattle.std.specs.declared.alloc.Global.{Global}
use Rattle.toml.specs.declared.value.Value.{Value}
use Rattle.toml.specs.View.{items_view, members_view}
use Rattle.image_text.specs.Rows.{count_items, is_pair}
use Rattle.image_text.specs.Unknown.{is_empty}
use Rattle.image_record.specs.Outcomes.{Makes}
use Rattle.image_record.specs.declared.refusal.ReadRefusal.{ReadRefusal}
use Rattle.image_record.specs.declared.refusal.ReadRefusal.TheVariants.{Broken, Memory}

pub item_count : (vs : List Value) → count_items (items_view vs) ≡ length vs
item_count [] = refl
item_count (v ∷ vs) = let ih = item_count vs in omega (arith, ih)

pub no_pair : (vs : List Value) → length vs ≢ 2 → false ≡ is_pair (Some (items_view vs))
no_pair [] h = refl
no_pair (v ∷ []) h = refl
no_pair (v ∷ w ∷ []) h = absurd (h refl)
no_pair (v ∷ w ∷ u ∷ vs) h = refl

pub no_member : (ms : List (String Global × Value)) → is_empty (members_view ms) ≡ (length ms == 0)
no_member [] = refl
no_member (m ∷ ms) = grind (arith, nat_tests)

same_integers : (zs : List ℤ) → map (λ z. z) zs ≡ zs
same_integers [] = refl
same_integers (z ∷ zs) = ap (λ rest. z ∷ rest) (same_integers zs)

-- integers are read as themselves
pub plain_integers : (result : Result (Vec ℤ Global) ReadRefusal) (ys : List ℤ)
    → Makes (λ found. map (λ z. z) found.items) result ys → Makes (λ found. found.items) result ys
plain_integers (Ok found) ys h = sym (same_integers found.items) ∙ h
plain_integers (Err Memory) ys h = tt
plain_integers (Err (Broken r)) ys h = h

-- Loops that go through a list up to its first broken case, and gather what each item makes.
use Rattle.std.proofs.Common.{◌≡◌, Bool, true, false, ℕ, ◌+◌, ◌<◌, ◌≤◌, List, [], ◌∷◌, ◌++◌, length, map, take, drop, get_or, Option, Some, None, Result, Ok, Err, sym, ap, subst, ◌∙◌, length-take, arith}
use Rattle.std.specs.Prelude.{IfOk, ◌||◌}
use Rattle.std.specs.List.{list_any}
use Rattle.std.specs.Result.{IsErr, IsErrAnd}
use Rattle.std.proofs.lemmas.List.{append_assoc, append-nil, length-map, drop_all, drop_more, take_more, map_push, map_more}
use Rattle.image_record.specs.declared.refusal.Refusal.{Refusal}
use Rattle.image_record.specs.declared.refusal.ReadRefusal.{ReadRefusal}
use Rattle.image_record.specs.declared.refusal.ReadRefusal.TheVariants.{Broken, Memory}
use Rattle.image_record.specs.Cases.{or_else, first_case}
use Rattle.image_record.specs.Outcomes.{IsVerdict, IsVerdictOrMemory, Makes}

-- ---- the exits by `?`

pub refused : {X : Type 0} (result : Result X Refusal) (case : Option Refusal) (r : Refusal)
    → IsErrAnd result (λ e. e ≡ r) → case ≡ Some r → IsVerdict result case
refused (Ok x) case r h is = absurd h
refused (Err e) case r h is = is ∙ ap Some (sym h)

pub broken : {X : Type 0} (result : Result X ReadRefusal) (case : Option Refusal) (r : Refusal)
    → IsErrAnd result (λ e. e ≡ Broken r) → case ≡ Some r → IsVerdictOrMemory result case
broken (Ok x) case r h is = absurd h
broken (Err Memory) case r h is = tt
broken (Err (Broken q)) case r h is = let same : q ≡ r = cc in is ∙ ap Some (sym same)

pub no_memory : {X : Type 0} (result : Result X ReadRefusal) (case : Option Refusal)
    → IsErrAnd result (λ e. e ≡ Memory) → IsVerdictOrMemory result case
no_memory (Ok x) case h = absurd h
no_memory (Err Memory) case h = tt
no_memory (Err (Broken q)) case h = absurd cc

pub unmade : {X Y : Type 0} (model : X → Y) (result : Result X ReadRefusal) (y : Y)
    → IsErrAnd result (λ e. e ≡ Memory) → Makes model result y
unmade model (Ok x) y h = absurd h
unmade model (Err Memory) y h = tt
unmade model (Err (Broken q)) y h = absurd cc

-- a refusal is handed on, or that memory ran out
pub handed_on : {X : Type 0} (result : Result X ReadRefusal) (e : ReadRefusal) (case whole : Option Refusal)
    → IsErrAnd result (λ r. r ≡ e)
    → IsVerdictOrMemory {X = X} (Err e) case → ((q : Refusal) → case ≡ Some q → whole ≡ Some q) → IsVerdictOrMemory result whole
handed_on (Ok x) e case whole h is on = absurd h
handed_on (Err Memory) e case whole h is on = tt
handed_on {X = X} (Err (Broken q)) e case whole h is on =
    on q (subst (λ (r : ReadRefusal). IsVerdictOrMemory {X = X} (Err r) case) (sym h) is)

pub no_value : {X E : Type 0} (result : Result X E) (P : X → Type 0) → IsErr result → IfOk result P
no_value (Ok x) P h = cc
no_value (Err e) P h = tt

-- ---- the first broken case: what the items from here on have of it

-- this item has none
pub passed : {A R : Type 0} (f : List A → A → Option R) (xs : List A) (k : ℕ) (x d : A) → k < length xs
    → x ≡ get_or xs k d → f (take k xs) x ≡ None
    → first_case f (take (k + 1) xs) (drop (k + 1) xs) ≡ first_case f (take k xs) (drop k xs)
passed f xs k x d below is none =
    let rest = drop (k + 1) xs in
    let before = take_more xs k d below ∙ ap (λ y. take k xs ++ y ∷ []) (sym is) in
    ap (λ ys. first_case f ys rest) before
    ∙ sym (ap (λ o. or_else o (first_case f (take k xs ++ x ∷ []) rest)) none)
    ∙ sym (ap (first_case f (take k xs)) (drop_more xs k d below ∙ ap (λ y. y ∷ rest) (sym is)))

-- this item has one
pub found : {A R : Type 0} (f : List A → A → Option R) (xs : List A) (k : ℕ) (x d : A) (r : R) → k < length xs
    → x ≡ get_or xs k d → f (take k xs) x ≡ Some r
    → first_case f (take k xs) (drop k xs) ≡ Some r
found f xs k x d r below is broken =
    let rest = drop (k + 1) xs in
    ap (first_case f (take k xs)) (drop_more xs k d below ∙ ap (λ y. y ∷ rest) (sym is))
    ∙ ap (λ o. or_else o (first_case f (take k xs ++ x ∷ []) rest)) broken

-- no item is left
pub ended : {A R : Type 0} (f : List A → A → Option R) (earlier xs : List A) (k : ℕ) → length xs ≤ k
    → first_case f earlier (drop k xs) ≡ None
ended f earlier xs k past = ap (first_case f earlier) (drop_all k xs past)

-- the same, of a model of the items
pub passed_of : {A B R : Type 0} (f : List B → B → Option R) (g : A → B) (xs : List A) (k : ℕ) (x d : A)
    → k < length xs → x ≡ get_or xs k d
    → f (map g (take k xs)) (g x) ≡ None
    → first_case f (map g (take (k + 1) xs)) (map g (drop (k + 1) xs))
    ≡ first_case f (map g (take k xs)) (map g (drop k xs))
passed_of f g xs k x d below is none =
    let before = map g (take k xs) in
    let rest = map g (drop (k + 1) xs) in
    ap (λ ys. first_case f ys rest) (map_more g xs k d below ∙ ap (λ y. before ++ g y ∷ []) (sym is))
    ∙ sym (ap (λ o. or_else o (first_case f (before ++ g x ∷ []) rest)) none)
    ∙ sym (ap (λ ys. first_case f before (map g ys)) (drop_more xs k d below ∙ ap (λ y. y ∷ drop (k + 1) xs) (sym is)))

pub found_of : {A B R : Type 0} (f : List B → B → Option R) (g : A → B) (xs : List A) (k : ℕ) (x d : A)
    (r : R) → k < length xs → x ≡ get_or xs k d
    → f (map g (take k xs)) (g x) ≡ Some r → first_case f (map g (take k xs)) (map g (drop k xs)) ≡ Some r
found_of f g xs k x d r below is broken =
    let before = map g (take k xs) in
    let rest = map g (drop (k + 1) xs) in
    ap (λ ys. first_case f before (map g ys)) (drop_more xs k d below ∙ ap (λ y. y ∷ drop (k + 1) xs) (sym is))
    ∙ ap (λ o. or_else o (first_case f (before ++ g x ∷ []) rest)) broken

pub ended_of : {A B R : Type 0} (f : List B → B → Option R) (g : A → B) (earlier : List B) (xs : List A)
    (k : ℕ) → length xs ≤ k
    → first_case f earlier (map g (drop k xs)) ≡ None
ended_of f g earlier xs k past = ap (λ ys. first_case f earlier (map g ys)) (drop_all k xs past)

-- how many items came before
pub count_of : {A B : Type 0} (g : A → B) (xs : List A) (k : ℕ) → k < length xs
    → length (map g (take k xs)) ≡ k
count_of g xs k below = omega (arith, length-map (take k xs) g, length-take k xs, below)

-- ---- what the items make: so far, and those from here on

pub made : {A C : Type 0} (h : A → C) (old new : List C) (xs : List A) (k : ℕ) (x d : A) (v : C)
    → k < length xs → x ≡ get_or xs k d → new ≡ old ++ v ∷ []
    → v ≡ h x → new ++ map h (drop (k + 1) xs) ≡ old ++ map h (drop k xs)
made h old new xs k x d v below is pushed same =
    let rest = map h (drop (k + 1) xs) in
    ap (λ vs. vs ++ rest) (pushed ∙ ap (λ y. old ++ y ∷ []) same)
    ∙ append_assoc old (h x ∷ []) rest
    ∙ sym (ap (λ ys. old ++ map h ys) (drop_more xs k d below ∙ ap (λ y. y ∷ drop (k + 1) xs) (sym is)))

pub all_made : {A C : Type 0} (h : A → C) (vs : List C) (xs : List A) (k : ℕ) → length xs ≤ k
    → vs ++ map h (drop k xs) ≡ vs
all_made h vs xs k past = ap (λ ys. vs ++ map h ys) (drop_all k xs past) ∙ append-nil vs

-- the same, of models of the items
pub made_from : {A B C : Type 0} (h : B → C) (g : A → B) (old new : List C) (xs : List A) (k : ℕ) (x d : A)
    (v : C) → k < length xs → x ≡ get_or xs k d
    → new ≡ old ++ v ∷ [] → v ≡ h (g x) → new ++ map h (map g (drop (k + 1) xs)) ≡ old ++ map h (map g (drop k xs))
made_from h g old new xs k x d v below is pushed same =
    let rest = map h (map g (drop (k + 1) xs)) in
    ap (λ vs. vs ++ rest) (pushed ∙ ap (λ y. old ++ y ∷ []) same)
    ∙ append_assoc old (h (g x) ∷ []) rest
    ∙ sym (ap (λ ys. old ++ map h (map g ys)) (drop_more xs k d below ∙ ap (λ y. y ∷ drop (k + 1) xs) (sym is)))

-- and of what is made
pub made_of : {A B C V : Type 0} (m : V → C) (h : B → C) (g : A → B) (old new : List V) (xs : List A) (k : ℕ)
    (x d : A) (v : V) → k < length xs → x ≡ get_or xs k d
    → new ≡ old ++ v ∷ [] → m v ≡ h (g x) → map m new ++ map h (map g (drop (k + 1) xs)) ≡ map m old ++ map h (map g (drop k xs))
made_of m h g old new xs k x d v below is pushed same =
    made_from h g (map m old) (map m new) xs k x d (m v) below is (ap (map m) pushed ∙ map_push m old v) same

pub all_made_of : {A B C : Type 0} (h : B → C) (g : A → B) (vs : List C) (xs : List A) (k : ℕ) → length xs ≤ k
    → vs ++ map h (map g (drop k xs)) ≡ vs
all_made_of h g vs xs k past = ap (λ ys. vs ++ map h (map g ys)) (drop_all k xs past) ∙ append-nil vs

-- ---- whether any of the items from here on passes a test

-- this item doesn't
pub any_more : {A B : Type 0} (p : B → Bool) (g : A → B) (xs : List A) (k : ℕ) (x d : A) → k < length xs
    → x ≡ get_or xs k d → p (g x) ≡ false
    → list_any p (map g (drop (k + 1) xs)) ≡ list_any p (map g (drop k xs))
any_more p g xs k x d below is none =
    let rest = drop (k + 1) xs in
    sym (ap (λ ys. list_any p (map g ys)) (drop_more xs k d below ∙ ap (λ y. y ∷ rest) (sym is))
    ∙ ap (λ b. b || list_any p (map g rest)) none)

-- this item does
pub any_found : {A B : Type 0} (p : B → Bool) (g : A → B) (xs : List A) (k : ℕ) (x d : A) → k < length xs
    → x ≡ get_or xs k d → p (g x) ≡ true
    → list_any p (map g (drop k xs)) ≡ true
any_found p g xs k x d below is passes =
    let rest = drop (k + 1) xs in
    ap (λ ys. list_any p (map g ys)) (drop_more xs k d below ∙ ap (λ y. y ∷ rest) (sym is)) ∙ ap (λ b. b || list_any p (map g rest)) passes

-- no item is left
pub any_ended : {A B : Type 0} (p : B → Bool) (g : A → B) (xs : List A) (k : ℕ) → length xs ≤ k
    → list_any p (map g (drop k xs)) ≡ false
any_ended p g xs k past = ap (λ ys. list_any p (map g ys)) (drop_all k xs past)

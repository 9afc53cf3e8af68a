-- Lists that a loop makes piece by piece.
use Rattle.std.proofs.Common.{◌≡◌, ℕ, zero, suc, ◌+◌, ◌<◌, List, [], ◌∷◌, ◌++◌, length, map, take, get_or, flat_map, Result, Ok, Err, ap, sym, ◌∙◌, arith, append_assoc, append-nil}
use Rattle.std.specs.Prelude.{IfOk, OnOk, is_ok, if◌then◌else◌}
use Rattle.std.specs.List.{range_with_len}
use Rattle.std.proofs.lemmas.List.{take_more}
use Rattle.std.proofs.lemmas.List.Concat.{flat_map-append}
use Rattle.std.proofs.lemmas.List.FromFn.{map-range_with_len_more}
use Rattle.image_gen.specs.Generated.{count, at_domain}
use Rattle.image_gen.specs.Program.{first_words}
use Rattle.image_gen.specs.Text.{front, domains_text, schedule_title, slots_text, text}

flat_map_more : (f : ℕ → List ℕ) (a n b : ℕ) → a + n ≡ b
    → flat_map f (range_with_len a (suc n)) ≡ flat_map f (range_with_len a n) ++ f b
flat_map_more f a zero b e =
    let same : a ≡ b = omega arith in
    append-nil (f a) ∙ ap f same
flat_map_more f a (suc n) b e =
    ap (λ (xs : List ℕ). f a ++ xs) (flat_map_more f (a + 1) n b (omega arith))
    ∙ sym (append_assoc (f a) (flat_map f (range_with_len (a + 1) n)) (f b))

-- the items before place k, and the one there
pub mapped_more : (f : ℕ → List ℕ) (xs : List ℕ) (k d : ℕ) (old new : List ℕ) → k < length xs
    → old ≡ flat_map f (take k xs) → new ≡ old ++ f (get_or xs k d)
    → new ≡ flat_map f (take (k + 1) xs)
mapped_more f xs k d old new below so_far more =
    let x = get_or xs k d in
    let all =
    ap (flat_map f) (take_more xs k d below) ∙ flat_map-append f (take k xs) (x ∷ [])
    ∙ ap (λ ys. flat_map f (take k xs) ++ ys) (append-nil (f x)) in
    more ∙ ap (λ ys. ys ++ f x) so_far ∙ sym all

-- what holds in any case holds of a value
pub whatever_comes : {X E : Type 0} (result : Result X E) (P : Type 0) → P → IfOk result (λ x. P)
whatever_comes (Ok x) P holds = holds
whatever_comes (Err e) P holds = tt

-- text is written, or what was there stays
pub when_written : {X E : Type 0} (result : Result X E) (s whole old : List ℕ)
    → s ≡ (if is_ok result then whole else old) → OnOk result (s ≡ whole)
when_written (Ok x) s whole old is = is
when_written (Err e) s whole old is = tt

-- the piece of place k is written after those of the places before it
pub written_more : (f : ℕ → List ℕ) (k : ℕ) (start old new piece : List ℕ)
    → old ≡ start ++ flat_map f (range_with_len 0 k) → piece ≡ f k → new ≡ old ++ piece
    → new ≡ start ++ flat_map f (range_with_len 0 (k + 1))
written_more f k start old new piece so_far is more =
    let e : k + 1 ≡ suc k = omega arith in
    let one = flat_map_more f 0 k k (omega arith) in
    more ∙ ap (λ (xs : List ℕ). xs ++ piece) so_far ∙ append_assoc start (flat_map f (range_with_len 0 k)) piece
    ∙ ap (λ (xs : List ℕ). start ++ (flat_map f (range_with_len 0 k) ++ xs)) is
    ∙ ap (λ (xs : List ℕ). start ++ xs) (sym one ∙ ap (λ (n : ℕ). flat_map f (range_with_len 0 n)) (sym e))

-- the same after three other parts
pub written_under : (f : ℕ → List ℕ) (k : ℕ) (a b t old new piece : List ℕ)
    → old ≡ a ++ (b ++ (t ++ flat_map f (range_with_len 0 k))) → piece ≡ f k → new ≡ old ++ piece
    → new ≡ a ++ (b ++ (t ++ flat_map f (range_with_len 0 (k + 1))))
written_under f k a b t old new piece so_far is more =
    written_more f k (a ++ (b ++ t)) old new piece (so_far ∙ sym (joined (flat_map f (range_with_len 0 k))))
    is more ∙ joined (flat_map f (range_with_len 0 (k + 1)))
  where
    joined : (s : List ℕ) → (a ++ (b ++ t)) ++ s ≡ a ++ (b ++ (t ++ s))
    joined s = append_assoc a (b ++ t) s ∙ ap (λ (xs : List ℕ). a ++ xs) (append_assoc b t s)

pub titled : (a b t old new : List ℕ) → old ≡ a ++ b → new ≡ old ++ t → new ≡ a ++ (b ++ (t ++ []))
titled a b t old new so_far more =
    more ∙ ap (λ (xs : List ℕ). xs ++ t) so_far ∙ append_assoc a b t ∙ ap (λ (xs : List ℕ). a ++ (b ++ xs)) (sym (append-nil t))

-- one more word of a program
pub program_more : (f : ℕ → ℕ) (k : ℕ) (old new : List ℕ) (x : ℕ)
    → old ≡ first_words ++ map f (range_with_len 0 k) → x ≡ f k → new ≡ old ++ x ∷ []
    → new ≡ first_words ++ map f (range_with_len 0 (k + 1))
program_more f k old new x so_far is more =
    more ∙ ap (λ (xs : List ℕ). xs ++ x ∷ []) so_far ∙ append_assoc first_words (map f (range_with_len 0 k)) (x ∷ [])
    ∙ ap (λ (y : ℕ). first_words ++ (map f (range_with_len 0 k) ++ y ∷ [])) is
    ∙ ap (λ (xs : List ℕ). first_words ++ xs) (sym (map-range_with_len_more f 0 k k (omega arith)))

pub whole_text : (seed : ℕ) (s : List ℕ)
    → s
    ≡ front seed
    ++ (domains_text seed (count seed)
    ++ (schedule_title ++ slots_text (at_domain seed (count seed)) (count seed))) → s ≡ text seed
unfolding text
whole_text seed s e = e

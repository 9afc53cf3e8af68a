-- Frames that are taken from a pool, and zeroed.
use Rattle.std.proofs.Common.{◌≡◌, ◌≢◌, ℕ, zero, suc, ◌<◌, ◌∙◌, Bool, true, false, true≢false, ◌||◌, List, [], ◌∷◌, ◌++◌, Vec, Global, length, get_or, slice_get, Option, Some, IsSome, map, take, drop, ap, ap₂, sym, refl, inl, inr, subst, arith, ◌+◌}
use Rattle.std.proofs.lemmas.Bool.{cases_eq, cases_Bool, lt-ltb}
use Rattle.std.proofs.lemmas.List.{append_assoc, take-append-drop, take-take, drop-take, map_push, map_more}
use Rattle.tp_base.specs.Table.{empty}
use Rattle.phys_mem.specs.Contents.{Contents, word_of, zeroed}
use Rattle.phys_mem.specs.Mem.{Mem, word, zeroed_frame, word-empty, word-zeroed_same, word-zeroed_other}
use Rattle.phys_mem.specs.Holds.{Holds}
use Rattle.phys_mem.proofs.HoldsLemmas.{holds-zeroed}
use Rattle.frame_colours.specs.Colours as colours
use Rattle.frame_colours.specs.Colours.{Whole, whole_of, has, colours_in}
use Rattle.frame_colours.proofs.Ascending.{has_head}
use Rattle.frame_colours.proofs.Pools.{IsOwn-pool}
use Rattle.hardware_check.specs.Hardware.{Hardware, colours_of}
use Rattle.image_check.specs.Own.{Own, own_at, no_own}
use Rattle.image_check.specs.Pages.{share_of}
use Rattle.world_view.specs.Frames.{own_frame, pool}
use Rattle.world_view.proofs.opening.OpeningClaims.{has_append}
use Rattle.domain_open.specs.Placing.{frames_zeroed, AreZeroed, SameElsewhere}

-- ---- frames that are zeroed

pub none_zeroed : (m : Contents) → AreZeroed [] m m
unfolding frames_zeroed
none_zeroed m = record { holds = λ k h. h; others = λ f i out. refl }

-- one frame
pub one_zeroed : (old new : Contents) (f : ℕ) → f < old.frames → new ≡ zeroed old f
    → ((g i : ℕ) → g ≢ f → word_of new g i ≡ word_of old g i)
    → AreZeroed (f ∷ []) old new
unfolding frames_zeroed
one_zeroed old new f below is others = record {
  holds = λ m h. subst (λ (x : Contents). Holds x (zeroed_frame m f)) (sym is) (holds-zeroed old m f below h);
  others = λ g i out. others g i (λ same. true≢false (sym (subst (λ (x : ℕ). has (f ∷ []) x ≡ true) (sym same) (has_head f [])) ∙ out));
}

zeroed_append : (xs ys : List ℕ) (m : Mem)
    → frames_zeroed (xs ++ ys) m ≡ frames_zeroed ys (frames_zeroed xs m)
unfolding frames_zeroed
zeroed_append [] ys m = refl
zeroed_append (x ∷ xs) ys m = zeroed_append xs ys (zeroed_frame m x)

neither : (a b : Bool) → a || b ≡ false → (a ≡ false) × (b ≡ false)
neither true b e = absurd (true≢false e)
neither false b e = (refl, e)

-- some frames, and then others
pub zeroed_then : (xs ys : List ℕ) (first second third : Contents) → AreZeroed xs first second
    → AreZeroed ys second third → AreZeroed (xs ++ ys) first third
zeroed_then xs ys first second third h k = record {
  holds = λ m is. subst (Holds third) (sym (zeroed_append xs ys m)) (k.holds (frames_zeroed xs m) (h.holds m is));
  others = λ f i out.
      let parts = neither (has xs f) (has ys f) (sym (has_append xs ys f) ∙ out) in
      k.others f i parts.1 ∙ h.others f i parts.0;
}

-- a memory that reads zero still does
zeroed_empty : (fs : List ℕ) (m : Mem) (f i : ℕ) → word m f i ≡ 0 → word (frames_zeroed fs m) f i ≡ 0
unfolding frames_zeroed
zeroed_empty [] m f i is = is
zeroed_empty (g ∷ fs) m f i is =
    zeroed_empty fs (zeroed_frame m g) f i
    (elim (cases_eq f g) [
      | inl same ↦ subst (λ (x : ℕ). word (zeroed_frame m g) x i ≡ 0) (sym same) (word-zeroed_same m g i)
      | inr other ↦ word-zeroed_other m g f i other ∙ is
    ])

pub still_blank : (fs : List ℕ) (old new : Contents) → AreZeroed fs old new → Holds old empty
    → Holds new empty
still_blank fs old new h blank =
    let now = h.holds empty blank in
    record {
      size = now.size;
      same = λ f i in_memory in_frame. now.same f i in_memory in_frame ∙ zeroed_empty fs empty f i (word-empty f i) ∙ sym (word-empty f i);
    }

-- ---- the frames of a pool

pub take_split : (a b : ℕ) (xs : List ℕ) → take (a + b) xs ≡ take a xs ++ take b (drop a xs)
take_split a b xs =
    sym (take-append-drop a (take (a + b) xs))
    ∙ ap₂ (λ (ys zs : List ℕ). ys ++ zs) (take-take a (a + b) xs (omega arith)) (drop-take a b xs)

-- the clone's frames, the root, the tables and the pages are the first of the pool
pub used_zeroed : (all : List ℕ) (root tables pages : ℕ) (a b c d e : Contents)
    → take 5 all ≡ take 4 all ++ root ∷ []
    → AreZeroed (take 4 all) a b → AreZeroed (root ∷ []) b c → AreZeroed (take tables (drop 5 all)) c d
    → AreZeroed (take pages (drop (5 + tables) all)) d e → AreZeroed (take (5 + tables + pages) all) a e
used_zeroed all root tables pages a b c d e fifth clone one some more =
    subst (λ (fs : List ℕ). AreZeroed fs a e) (sym (take_split (5 + tables) pages all))
    (zeroed_then (take (5 + tables) all) (take pages (drop (5 + tables) all)) a d e
    (subst (λ (fs : List ℕ). AreZeroed fs a d) (sym (take_split 5 tables all))
    (zeroed_then (take 5 all) (take tables (drop 5 all)) a c d
    (subst (λ (fs : List ℕ). AreZeroed fs a c) (sym fifth) (zeroed_then (take 4 all) (root ∷ []) a b c clone one)) some)) more)

-- no frame of another pool is among them
not_pool : (p : Hardware) (o : Own) (f : ℕ) → own_frame p o f ≡ false → has (pool p o) f ≡ false
not_pool p o f other = elim (cases_Bool (has (pool p o) f)) [
  | inl there ↦
      let own = IsOwn-pool (share_of p o) f there in
      absurd (true≢false (sym (rw (lt-ltb f p.frames own.below, own.coloured) refl) ∙ other))
  | inr none ↦ none
]

pub still_elsewhere : (p : Hardware) (o : Own) (n : ℕ) (old new : Contents)
    → AreZeroed (take n (pool p o)) old new → SameElsewhere p o new old
still_elsewhere p o n old new h f i in_memory in_frame other =
    let all = take n (pool p o) in
    let rest = drop n (pool p o) in
    let out =
    neither (has all f) (has rest f) (sym (has_append all rest f)
    ∙ ap (λ (fs : List ℕ). has fs f) (take-append-drop n (pool p o)) ∙ not_pool p o f other) in
    h.others f i out.0

-- ---- the first of a list

pub first_is : (xs : List ℕ) (first : Option ℕ) → 0 < length xs → first ≡ slice_get xs 0 → IsSome first
first_is [] first some is = absurd (omega (arith, some))
first_is (x ∷ xs) first some is = subst (λ (r : Option ℕ). IsSome r) (sym is) refl

pub is_first : (xs : List ℕ) (x : ℕ) → slice_get xs 0 ≡ Some x → xs ≡ x ∷ drop 1 xs
is_first [] x is = absurd cc
is_first (y ∷ ys) x is = cc

-- ---- a list of which one more is taken

pub record Taken (k : ℕ) (xs : List ℕ) (x : ℕ) (rest : List ℕ) : Type 0 where
  pub at : get_or xs k 0 ≡ x
  pub so_far : take (k + 1) xs ≡ take k xs ++ x ∷ []
  pub left : rest ≡ drop (k + 1) xs

one_taken : (k : ℕ) (xs : List ℕ) (x : ℕ) (rest : List ℕ) → drop k xs ≡ x ∷ rest
    → (get_or xs k 0 ≡ x) × (take (suc k) xs ≡ take k xs ++ x ∷ []) × (rest ≡ drop (suc k) xs)
one_taken zero [] x rest e = absurd cc
one_taken zero (y ∷ ys) x rest e = (cc, cc, cc)
one_taken (suc k) [] x rest e = absurd cc
one_taken (suc k) (y ∷ ys) x rest e = let more = one_taken k ys x rest e in (more.0, ap (λ zs. y ∷ zs) more.1, more.2)

pub taken : (k : ℕ) (xs : List ℕ) (x : ℕ) (rest : List ℕ) → drop k xs ≡ x ∷ rest → Taken k xs x rest
taken k xs x rest e =
    let more = one_taken k xs x rest e in
    let next : suc k ≡ k + 1 = omega arith in
    record { at = more.0; so_far = rw next at more.1; left = rw next at more.2 }

-- the one that is taken next to those before it
pub taken_on : (k : ℕ) (xs old now next : List ℕ) (x : ℕ) → take (k + 1) xs ≡ take k xs ++ x ∷ []
    → now ≡ old ++ take k xs → next ≡ now ++ x ∷ [] → next ≡ old ++ take (k + 1) xs
taken_on k xs old now next x more before e =
    e ∙ ap (λ ys. ys ++ x ∷ []) before ∙ append_assoc old (take k xs) (x ∷ []) ∙ ap (λ ys. old ++ ys) (sym more)

-- ---- shares

-- the colours of one more domain
pub named_more : (lists : List (Vec ℕ Global)) (v : Vec ℕ Global) (owns : List Own) (d : ℕ) → d < length owns
    → colours_in lists ≡ map (λ (o : Own). o.colours) (take d owns) → v.items ≡ (own_at owns d).colours
    → colours_in (lists ++ v ∷ []) ≡ map (λ (o : Own). o.colours) (take (d + 1) owns)
named_more lists v owns d below before named =
    map_push (λ (w : Vec ℕ Global). w.items) lists v
    ∙ ap₂ (λ (ns : List (List ℕ)) (n : List ℕ). ns ++ n ∷ []) before named
    ∙ sym (map_more (λ (o : Own). o.colours) owns d no_own below)

same_shares : (p : Hardware) (owns : List Own)
    → map (colours.share_of (whole_of p.frames (colours_of p))) (map (λ o. o.colours) owns)
    ≡ map (share_of p) owns
same_shares p [] = refl
same_shares p (o ∷ os) = ap (λ ss. share_of p o ∷ ss) (same_shares p os)

pub shares_are : (p : Hardware) (w : Whole) (lists : List (List ℕ)) (owns : List Own)
    → w ≡ whole_of p.frames (colours_of p) → lists ≡ map (λ o. o.colours) owns
    → map (colours.share_of w) lists ≡ map (share_of p) owns
shares_are p w lists owns whole named = rw (whole, named) (same_shares p owns)

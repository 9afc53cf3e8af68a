-- The whole machine at first, as each domain sees it.
use Rattle.std.proofs.Common.{◌≡◌, ◌≢◌, ℕ, false, true, zero, suc, ◌+◌, ◌*◌, ◌<◌, ◌≤◌, List, [], ◌∷◌, get_or, length, take, drop, ◌⊎◌, inl, inr, ap, sym, ◌∙◌, refl, subst, arith, add-zero, true≢false}
use Rattle.std.proofs.lemmas.Bool.{cases_Bool, cases_eq, le-leb, lt-ltb}
use Rattle.std.proofs.Math.Bool.{or-true}
use Rattle.tp_base.specs.Table.{empty, at, put, at-empty, at-put_other, at-put_same}
use Rattle.phys_mem.specs.Mem.{Mem, Frame, frame_at, word}
use Rattle.sv32_walk.specs.PageTableEntry.{valid, table_word}
use Rattle.sv32_walk.proofs.WordLemmas.{valid-zero}
use Rattle.hardware_check.specs.Hardware.{Hardware}
use Rattle.image_check.specs.Own.{Segment, Own, no_own}
use Rattle.image_check.specs.Image.{Image, own_of}
use Rattle.image_check.specs.Pages.{has_page, has_region, regions_below, regions_in, pages_below, frames_in}
use Rattle.world_view.specs.Frames.{pool, pool_frame, root_of, table_frame, page_frame, own_frame}
use Rattle.world_view.specs.Opening.{put_word, tabled, root_entry, leaf_entry, root_placed, table_placed, tables_placed, page_words, pages_placed, segments_placed, placed, all_placed}
use Rattle.world_view.specs.Kernel.{opening_dom, no_dom}
use Rattle.world_view.specs.Machine.{with_hart, opening_doms, opening, alone_opening}
use Rattle.world_view.specs.Relations.{IsDomain, IsOwnFrame, SameFrames}
use Rattle.world_view.proofs.opening.Counts.{region_before, region_once, is_page, pages_low, page_once}
use Rattle.world_view.proofs.opening.PoolLaws.{pool_own, pool_once}
use Rattle.world_view.proofs.opening.Separate.{Separated, all_domains, frames_apart}

-- ---- the values of a function

put_word-same : (x : Frame) (i w : ℕ) → at 0 x i ≡ 0 → at 0 (put_word x i w) i ≡ w
unfolding put_word
put_word-same x i zero none = none
put_word-same x i (suc w) none = at-put_same 0 x i (suc w)

put_word-other : (x : Frame) (i w j : ℕ) → j ≢ i → at 0 (put_word x i w) j ≡ at 0 x j
unfolding put_word
put_word-other x i zero j other = refl
put_word-other x i (suc w) j other = at-put_other 0 x i j (suc w) other

pub at-tabled_past : (f : ℕ → ℕ) (n i : ℕ) → n ≤ i → at 0 (tabled f n) i ≡ 0
unfolding tabled
at-tabled_past f zero i h = at-empty 0 i
at-tabled_past f (suc n) i h = put_word-other (tabled f n) n (f n) i (omega arith) ∙ at-tabled_past f n i (omega arith)

pub at-tabled : (f : ℕ → ℕ) (n i : ℕ) → i < n → at 0 (tabled f n) i ≡ f i
unfolding tabled
at-tabled f zero i h = absurd (omega arith)
at-tabled f (suc n) i h =
    elim (cases_eq i n) [
      | inl same ↦ rw same (put_word-same (tabled f n) n (f n) (at-tabled_past f n n (omega arith)))
      | inr other ↦ put_word-other (tabled f n) n (f n) i other ∙ at-tabled f n i (omega arith)
    ]

-- ---- a frame that was put

put_frame_same : (m : Mem) (f g : ℕ) (x : Frame) → g ≡ f → frame_at (put m g x) f ≡ x
unfolding frame_at
put_frame_same m f g x e = subst (λ (h : ℕ). at empty (put m g x) h ≡ x) e (at-put_same empty m g x)

put_frame_other : (m : Mem) (f g : ℕ) (x : Frame) → f ≢ g → frame_at (put m g x) f ≡ frame_at m f
unfolding frame_at
put_frame_other m f g x other = at-put_other empty m g f x other

pub word-put_same : (m : Mem) (f i : ℕ) (x : Frame) → word (put m f x) f i ≡ at 0 x i
unfolding word frame_at
word-put_same m f i x = ap (λ (y : Frame). at 0 y i) (at-put_same empty m f x)

pub word-put_other : (m : Mem) (f g i : ℕ) (x : Frame) → g ≢ f → word (put m f x) g i ≡ word m g i
unfolding word frame_at
word-put_other m f g i x other = ap (λ (y : Frame). at 0 y i) (at-put_other empty m f g x other)

-- equal frames stay equal
put_alike : (m k : Mem) (g : ℕ) (x : Frame) (f : ℕ) → frame_at m f ≡ frame_at k f
    → frame_at (put m g x) f ≡ frame_at (put k g x) f
put_alike m k g x f same =
    elim (cases_eq f g) [
      | inl here ↦ put_frame_same m f g x (sym here) ∙ sym (put_frame_same k f g x (sym here))
      | inr other ↦ put_frame_other m f g x other ∙ same ∙ sym (put_frame_other k f g x other)
    ]

-- ---- what is placed

module _ (p : Hardware) (o : Own) (f : ℕ) where
  tables_alike : (r : ℕ) (m k : Mem) → frame_at m f ≡ frame_at k f
      → frame_at (tables_placed p o r m) f ≡ frame_at (tables_placed p o r k) f
  unfolding tables_placed table_placed
  tables_alike zero m k same = same
  tables_alike (suc r) m k same =
      elim (cases_Bool (has_region o.segments r)) [
        | inl some ↦ rw some (put_alike (tables_placed p o r m) (tables_placed p o r k) (table_frame p o r) _ f (tables_alike r m k same))
        | inr none ↦ rw none (tables_alike r m k same)
      ]

  pages_alike : (n many : ℕ) (bytes : List ℕ) (m k : Mem) → frame_at m f ≡ frame_at k f
      → frame_at (pages_placed p o n many bytes m) f ≡ frame_at (pages_placed p o n many bytes k) f
  unfolding pages_placed
  pages_alike n zero bytes m k same = same
  pages_alike n (suc many) bytes m k same =
      let x = page_words (take 4096 bytes) in
      pages_alike (suc n) many (drop 4096 bytes) (put m (page_frame p o n) x) (put k (page_frame p o n) x)
      (put_alike m k (page_frame p o n) x f same)

  segments_alike : (ss : List Segment) (m k : Mem) → frame_at m f ≡ frame_at k f
      → frame_at (segments_placed p o ss m) f ≡ frame_at (segments_placed p o ss k) f
  unfolding segments_placed
  segments_alike [] m k same = same
  segments_alike (s ∷ ss) m k same =
      segments_alike ss (pages_placed p o s.page s.pages s.bytes m)
      (pages_placed p o s.page s.pages s.bytes k) (pages_alike s.page s.pages s.bytes m k same)

  pub placed_alike : (m k : Mem) → frame_at m f ≡ frame_at k f
      → frame_at (placed p o m) f ≡ frame_at (placed p o k) f
  unfolding placed root_placed
  placed_alike m k same =
      segments_alike o.segments _ _ (tables_alike 1024 _ _ (put_alike m k (root_of p o) _ f same))

  -- tables leave each frame that holds none
  tables_other : (r : ℕ) (m : Mem) → r ≤ 1024
      → ((q : ℕ) → q < 1024 → has_region o.segments q ≡ true → f ≢ table_frame p o q)
      → frame_at (tables_placed p o r m) f ≡ frame_at m f
  unfolding tables_placed table_placed
  tables_other zero m few out = refl
  tables_other (suc r) m few out =
      elim (cases_Bool (has_region o.segments r)) [
        | inl some ↦ rw some
            (put_frame_other (tables_placed p o r m) f (table_frame p o r) _ (out r (omega arith) some)
            ∙ tables_other r m (omega arith) out)
        | inr none ↦ rw none (tables_other r m (omega arith) out)
      ]

  -- pages leave each frame that holds none of them
  pages_other : (n many : ℕ) (bytes : List ℕ) (m : Mem)
      → ((q : ℕ) → n ≤ q → q < n + many → f ≢ page_frame p o q)
      → frame_at (pages_placed p o n many bytes m) f ≡ frame_at m f
  unfolding pages_placed
  pages_other n zero bytes m out = refl
  pages_other n (suc many) bytes m out =
      let x = page_words (take 4096 bytes) in
      pages_other (suc n) many (drop 4096 bytes) (put m (page_frame p o n) x)
      (λ q low high. out q (omega (arith, low)) (omega (arith, high)))
      ∙ put_frame_other m f (page_frame p o n) x (out n (omega arith) (omega arith))

  segments_other : (ss : List Segment) (m : Mem) → ((q : ℕ) → is_page ss q ≡ true → f ≢ page_frame p o q)
      → frame_at (segments_placed p o ss m) f ≡ frame_at m f
  unfolding segments_placed is_page
  segments_other [] m out = refl
  segments_other (s ∷ ss) m out =
      segments_other ss (pages_placed p o s.page s.pages s.bytes m) (λ q there. out q (rw there (or-true (has_page s q))))
      ∙ pages_other s.page s.pages s.bytes m (λ q low high. out q (rw (le-leb s.page q low, lt-ltb q (s.page + s.pages) high) refl))

-- ---- where tables and pages stand

module _ (p : Hardware) (o : Own) (enough : frames_in o.segments ≤ length (pool p o)) where
  pub root_place : 4 < length (pool p o)
  root_place = omega (arith, enough)

  pub table_place : (r : ℕ) → r < 1024 → has_region o.segments r ≡ true
      → 5 + regions_below o.segments r < 5 + regions_in o.segments
  table_place r below some = let before = region_before o.segments r 1024 some below in omega (arith, before)

  pub page_place : (n : ℕ) → is_page o.segments n ≡ true
      → 5 + regions_in o.segments + pages_below o.segments n < length (pool p o)
  page_place n there = let low = pages_low o.segments n there in omega (arith, low, enough)

  pub table_in : (r : ℕ) → r < 1024 → has_region o.segments r ≡ true
      → 5 + regions_below o.segments r < length (pool p o)
  table_in r below some = let place = table_place r below some in omega (arith, place, enough)

  pub own_root : IsOwnFrame p o (root_of p o)
  own_root = pool_own p o 4 root_place

  pub own_table : (r : ℕ) → r < 1024 → has_region o.segments r ≡ true → IsOwnFrame p o (table_frame p o r)
  own_table r below some = pool_own p o (5 + regions_below o.segments r) (table_in r below some)

  pub own_page : (n : ℕ) → is_page o.segments n ≡ true → IsOwnFrame p o (page_frame p o n)
  own_page n there = pool_own p o (5 + regions_in o.segments + pages_below o.segments n) (page_place n there)

  table_no_root : (r : ℕ) → r < 1024 → has_region o.segments r ≡ true → table_frame p o r ≢ root_of p o
  table_no_root r below some e =
      let same = pool_once p o (5 + regions_below o.segments r) 4 (table_in r below some) root_place e in
      omega (arith, same)

  page_no_root : (n : ℕ) → is_page o.segments n ≡ true → page_frame p o n ≢ root_of p o
  page_no_root n there e =
      let same = pool_once p o (5 + regions_in o.segments + pages_below o.segments n) 4 (page_place n there) root_place e in
      omega (arith, same)

  page_no_table : (n r : ℕ) → is_page o.segments n ≡ true → r < 1024 → has_region o.segments r ≡ true
      → page_frame p o n ≢ table_frame p o r
  page_no_table n r there below some e =
      let same =
      pool_once p o (5 + regions_in o.segments + pages_below o.segments n)
      (5 + regions_below o.segments r) (page_place n there) (table_in r below some) e in
      let place = table_place r below some in
      omega (arith, same, place)

  tables_once : (r q : ℕ) → r < 1024 → q < 1024 → has_region o.segments r ≡ true
      → has_region o.segments q ≡ true → table_frame p o r ≡ table_frame p o q → r ≡ q
  tables_once r q r_below q_below some more e =
      let same =
      pool_once p o (5 + regions_below o.segments r) (5 + regions_below o.segments q)
      (table_in r r_below some) (table_in q q_below more) e in
      region_once o.segments r q some more (omega (arith, same))

  -- each page has a frame of its own
  pub pages_once : (n m : ℕ) → is_page o.segments n ≡ true → is_page o.segments m ≡ true
      → page_frame p o n ≡ page_frame p o m → n ≡ m
  pages_once n m there other e =
      let same =
      pool_once p o (5 + regions_in o.segments + pages_below o.segments n)
      (5 + regions_in o.segments + pages_below o.segments m) (page_place n there)
      (page_place m other) e in
      page_once o.segments n m there other (omega (arith, same))

  -- frames of others are left
  pub placed_other : (m : Mem) (f : ℕ) → own_frame p o f ≡ false → frame_at (placed p o m) f ≡ frame_at m f
  unfolding placed root_placed
  placed_other m f other =
      let outside = λ (g : ℕ) (own : IsOwnFrame p o g) (e : f ≡ g). true≢false (sym own ∙ ap (own_frame p o) (sym e) ∙ other) in
      segments_other p o f o.segments _ (λ q there. outside (page_frame p o q) (own_page q there))
      ∙ tables_other p o f 1024 _ (omega arith) (λ q below some. outside (table_frame p o q) (own_table q below some))
      ∙ put_frame_other m f (root_of p o) (tabled (root_entry p o) 1024) (outside (root_of p o) own_root)

  -- and so are those that hold neither the root, nor a table, nor a page
  pub placed_past : (n : ℕ) → n < length (pool p o) → (n < 4) ⊎ (frames_in o.segments ≤ n) → (m : Mem)
      → frame_at (placed p o m) (pool_frame p o n) ≡ frame_at m (pool_frame p o n)
  unfolding placed root_placed
  placed_past n within past m =
      segments_other p o (pool_frame p o n) o.segments _ (λ q there e.
      let same = pool_once p o n (5 + regions_in o.segments + pages_below o.segments q) within (page_place q there) e in
      let low = pages_low o.segments q there in
      apart _ same (omega arith) (omega (arith, low)))
      ∙ tables_other p o (pool_frame p o n) 1024 _ (omega arith) (λ q below some e.
      let same = pool_once p o n (5 + regions_below o.segments q) within (table_in q below some) e in
      let place = table_place q below some in
      apart _ same (omega arith) (omega (arith, place)))
      ∙ put_frame_other m (pool_frame p o n) (root_of p o) (tabled (root_entry p o) 1024) (λ e.
      apart 4 (pool_once p o n 4 within root_place e) (omega arith) (omega arith))
    where
      -- none of those places is so low, or so high
      apart : (k : ℕ) → n ≡ k → 4 ≤ k → k < frames_in o.segments → ⊥
      apart k same above below = elim past [
        | inl low ↦ omega (arith, same, above, low)
        | inr high ↦ omega (arith, same, below, high)
      ]

  -- the tables below region r, of which one is that of region q
  module _ (q : ℕ) (q_below : q < 1024) (some : has_region o.segments q ≡ true) where
    table_last : (m : Mem)
        → frame_at (tables_placed p o (suc q) m) (table_frame p o q)
        ≡ tabled (λ i. leaf_entry p o (1024 * q + i)) 1024
    unfolding tables_placed table_placed
    table_last m = rw some (put_frame_same (tables_placed p o q m) (table_frame p o q) (table_frame p o q) _ refl)

    table_at : (r : ℕ) (m : Mem) → q < r → r ≤ 1024
        → frame_at (tables_placed p o r m) (table_frame p o q)
        ≡ tabled (λ i. leaf_entry p o (1024 * q + i)) 1024
    unfolding tables_placed table_placed
    table_at zero m h few = absurd (omega arith)
    table_at (suc r) m h few =
        elim (cases_eq q r) [
          | inl same ↦ subst
              (λ (x : ℕ). frame_at (tables_placed p o (suc x) m) (table_frame p o q)
              ≡ tabled (λ i. leaf_entry p o (1024 * q + i)) 1024) same (table_last m)
          | inr other ↦
              elim (cases_Bool (has_region o.segments r)) [
                | inl more ↦
                    rw more (put_frame_other (tables_placed p o r m) (table_frame p o q) (table_frame p o r) _
                    (λ e. other (tables_once q r q_below (omega (arith, few)) some more e))
                    ∙ table_at r m (omega (arith, h, other)) (omega (arith, few)))
                | inr none ↦ rw none (table_at r m (omega (arith, h, other)) (omega (arith, few)))
              ]
        ]

  -- ---- the words of the page tables

  pub root_whole : (m : Mem) → frame_at (placed p o m) (root_of p o) ≡ tabled (root_entry p o) 1024
  unfolding placed root_placed
  root_whole m =
      segments_other p o (root_of p o) o.segments _ (λ q there e. page_no_root q there (sym e))
      ∙ tables_other p o (root_of p o) 1024 _ (omega arith) (λ q h some e. table_no_root q h some (sym e))
      ∙ put_frame_same m (root_of p o) (root_of p o) _ refl

  pub table_whole : (m : Mem) (r : ℕ) → r < 1024 → has_region o.segments r ≡ true
      → frame_at (placed p o m) (table_frame p o r) ≡ tabled (λ i. leaf_entry p o (1024 * r + i)) 1024
  unfolding placed
  table_whole m r below some =
      segments_other p o (table_frame p o r) o.segments _ (λ q there e. page_no_table q r there below some (sym e))
      ∙ table_at r below some 1024 _ below (omega arith)

  pub root_words : (m : Mem) (i : ℕ) → i < 1024 → word (placed p o m) (root_of p o) i ≡ root_entry p o i
  unfolding word
  root_words m i below = ap (λ (x : Frame). at 0 x i) (root_whole m) ∙ at-tabled (root_entry p o) 1024 i below

  pub table_words : (m : Mem) (r j : ℕ) → r < 1024 → j < 1024 → has_region o.segments r ≡ true
      → word (placed p o m) (table_frame p o r) j ≡ leaf_entry p o (1024 * r + j)
  unfolding word
  table_words m r j below j_below some =
      ap (λ (x : Frame). at 0 x j) (table_whole m r below some) ∙ at-tabled (λ i. leaf_entry p o (1024 * r + i)) 1024 j j_below

  -- a valid entry of the root is that of a region that has a page
  pub root_some : (r : ℕ) → valid (root_entry p o r) ≡ true → has_region o.segments r ≡ true
  unfolding root_entry
  root_some r is_valid =
      elim (cases_Bool (has_region o.segments r)) [
        | inl some ↦ some
        | inr none ↦ absurd (true≢false (sym (rw none at is_valid) ∙ valid-zero))
      ]

  pub root_is : (r : ℕ) → has_region o.segments r ≡ true → root_entry p o r ≡ table_word (table_frame p o r)
  unfolding root_entry
  root_is r some = rw some refl

-- ---- all domains

-- a domain that finds enough frames in its pool leaves those of others
abbrev Leaves : Hardware → Own → Type 0
Leaves p o = (m : Mem) (f : ℕ) → own_frame p o f ≡ false → frame_at (placed p o m) f ≡ frame_at m f

-- frames that no domain has are empty
pub none_placed : (p : Hardware) (os : List Own) (f : ℕ)
    → ((e : ℕ) → e < length os → Leaves p (get_or os e no_own))
    → ((e : ℕ) → e < length os → own_frame p (get_or os e no_own) f ≡ false)
    → frame_at (all_placed p os) f ≡ frame_at empty f
unfolding all_placed
none_placed p [] f leaves out = refl
none_placed p (o ∷ os) f leaves out =
    leaves 0 (omega arith) (all_placed p os) f (out 0 (omega arith))
    ∙ none_placed p os f (λ e h. leaves (suc e) (omega (arith, h))) (λ e h. out (suc e) (omega (arith, h)))

-- domain d's frames, where no other domain has them
pub placed_once : (p : Hardware) (os : List Own) (d f : ℕ) → d < length os
    → ((e : ℕ) → e < length os → Leaves p (get_or os e no_own))
    → ((e : ℕ) → e < length os → e ≢ d → own_frame p (get_or os e no_own) f ≡ false)
    → frame_at (all_placed p os) f ≡ frame_at (placed p (get_or os d no_own) empty) f
unfolding all_placed
placed_once p [] d f lt leaves apart = absurd (omega arith)
placed_once p (o ∷ os) zero f lt leaves apart =
    placed_alike p o f (all_placed p os) empty
    (none_placed p os f (λ e h. leaves (suc e) (omega (arith, h))) (λ e h. apart (suc e) (omega (arith, h)) (λ z. cc)))
placed_once p (o ∷ os) (suc d) f lt leaves apart =
    leaves 0 (omega arith) (all_placed p os) f (apart 0 (omega arith) (λ z. cc))
    ∙ placed_once p os d f (omega arith) (λ e h. leaves (suc e) (omega (arith, h)))
    (λ e l ne. apart (suc e) (omega (arith, l)) (λ q. ne (omega arith)))

doms_at : (p : Hardware) (os : List Own) (b j : ℕ) → j < length os
    → at no_dom (opening_doms p os b) (b + j) ≡ opening_dom p (get_or os j no_own)
unfolding opening_doms
doms_at p [] b j h = absurd (omega arith)
doms_at p (o ∷ os) b zero h = rw add-zero (at-put_same no_dom (opening_doms p os (suc b)) b (opening_dom p o))
doms_at p (o ∷ os) b (suc j) h =
    at-put_other no_dom (opening_doms p os (suc b)) b (b + suc j) (opening_dom p o) (omega arith)
    ∙ ap (at no_dom (opening_doms p os (suc b))) (omega arith) ∙ doms_at p os (suc b) j (omega arith)

module _ (i : Image) (r : Separated i) where
  pub opening_dom_is : (d : ℕ) → IsDomain i d
      → at no_dom (opening i).doms d ≡ opening_dom i.all.hardware (own_of i d)
  unfolding opening with_hart at put
  opening_dom_is d is =
      ap (λ (os : List Own). at no_dom (opening_doms i.all.hardware os 0) d) (all_domains i r.counted)
      ∙ (ap (at no_dom (opening_doms i.all.hardware i.owns 0)) (omega arith) ∙ doms_at i.all.hardware i.owns 0 d is)

  pub opening_frames : (d : ℕ) → IsDomain i d
      → SameFrames i.all.hardware (own_of i d) (opening i).storage.mem
      (alone_opening i.all (own_of i d)).storage.mem
  unfolding opening alone_opening with_hart at put
  opening_frames d is f own =
      let p = i.all.hardware in
      ap (λ (os : List Own). frame_at (all_placed p os) f) (all_domains i r.counted)
      ∙ placed_once p i.owns d f is (λ e ie. placed_other p (own_of i e) (r.enough e ie))
      (λ e ie ne. frames_apart p (own_of i d) (own_of i e) f (r.apart d e is ie (λ q. ne (sym q))) own)

-- Pages placed in a memory.
use Rattle.std.proofs.Common.{◌≡◌, ◌≢◌, ℕ, zero, suc, ◌+◌, ◌*◌, ◌/◌, ◌%◌, ◌<◌, ◌≤◌, List, [], ◌∷◌, length, min, take, drop, inl, inr, true, false, refl, sym, ap, subst, ◌∙◌, arith, add-one}
use Rattle.std.proofs.lemmas.Bool.{cases_eq}
use Rattle.std.proofs.lemmas.List.{drop_more, drop_all}
use Rattle.phys_mem.specs.Contents.{Contents}
use Rattle.phys_mem.specs.Holds.{Holds}
use Rattle.phys_mem.specs.Mem.{Frame, Mem, word, written, word-written_same, word-written_place, word-written_frame}
use Rattle.tp_base.specs.Table.{empty, at, put}
use Rattle.hardware_check.specs.Hardware.{Hardware}
use Rattle.image_check.specs.Own as spec
use Rattle.image_check.specs.Pages.{has_region}
use Rattle.world_view.specs.Frames.{table_frame, page_frame}
use Rattle.world_view.specs.Opening.{tabled, leaf_entry, table_placed, tables_placed, page_words, pages_placed, segments_placed, placed, all_placed}
use Rattle.world_view.proofs.opening.OpeningLaws.{word-put_same, word-put_other, placed_other}
use Rattle.domain_open.specs.Placing.{HasPool, SameElsewhere}

-- ---- a page

-- the first n places of a frame written
unfoldable pub filled : Mem → ℕ → (ℕ → ℕ) → ℕ → Mem
filled m f words zero = m
filled m f words (suc n) = written (filled m f words n) f n (words n)

module _ (m : Mem) (f : ℕ) (words : ℕ → ℕ) where
  word-filled_same : (n i : ℕ) → i < n → word (filled m f words n) f i ≡ words i
  unfolding filled
  word-filled_same zero i h = absurd (omega arith)
  word-filled_same (suc n) i h =
      elim (cases_eq i n) [
        | inl same ↦ rw same (word-written_same (filled m f words n) f n (words n))
        | inr other ↦ word-written_place (filled m f words n) f n (words n) i other ∙ word-filled_same n i (omega arith)
      ]

  word-filled_other : (n g i : ℕ) → g ≢ f → word (filled m f words n) g i ≡ word m g i
  unfolding filled
  word-filled_other zero g i other = refl
  word-filled_other (suc n) g i other = word-written_frame (filled m f words n) f n (words n) g i other ∙ word-filled_other n g i other

  pub filled-none : filled m f words 0 ≡ m
  unfolding filled
  filled-none = refl

  filled-suc : (n : ℕ) → filled m f words (suc n) ≡ written (filled m f words n) f n (words n)
  unfolding filled
  filled-suc n = refl

  pub filled-more : (n at w : ℕ) → at ≡ 4096 * f + 4 * n → n < 1024 → w ≡ words n
      → written (filled m f words n) (at / 4096) (at % 4096 / 4) w ≡ filled m f words (n + 1)
  filled-more n at w is h same =
      let frame : at / 4096 ≡ f = omega arith in
      let place : at % 4096 / 4 ≡ n = omega arith in
      rw (frame, place, same, add-one n) (sym (filled-suc n))

-- a frame that was filled may be put at once
-- a word that stands there already
pub holds_kept : (memory : Contents) (m : Mem) (f p value : ℕ) → Holds memory m → value ≡ word m f p
    → Holds memory (written m f p value)
holds_kept memory m f p value holds is = record {
  size = holds.size;
  same = λ frame place in_memory in_frame. holds.same frame place in_memory in_frame ∙ elim (cases_eq frame f) [
    | inl same_frame ↦ elim (cases_eq place p) [
      | inl same_place ↦
          ap (λ (k : ℕ). word m k place) same_frame
          ∙ ap (λ (k : ℕ). word m f k) same_place
          ∙ sym is
          ∙ sym (word-written_same m f p value)
          ∙ ap (λ (k : ℕ). word (written m f p value) f k) (sym same_place)
          ∙ ap (λ (k : ℕ). word (written m f p value) k place) (sym same_frame)
      | inr other_place ↦
          ap (λ (k : ℕ). word m k place) same_frame
          ∙ sym (word-written_place m f p value place other_place)
          ∙ ap (λ (k : ℕ). word (written m f p value) k place) (sym same_frame)
    ]
    | inr other_frame ↦ sym (word-written_frame m f p value frame place other_frame)
  ];
}

pub holds_put : (memory : Contents) (m : Mem) (f : ℕ) (words : ℕ → ℕ) (x : Frame)
    → ((i : ℕ) → i < 1024 → at 0 x i ≡ words i) → Holds memory (filled m f words 1024)
    → Holds memory (put m f x)
holds_put memory m f words x is holds = record {
  size = holds.size;
  same = λ g i in_memory in_frame.
      holds.same g i in_memory in_frame
      ∙ elim (cases_eq g f) [
        | inl same ↦ rw same (word-filled_same m f words 1024 i in_frame ∙ sym (word-put_same m f i x ∙ is i in_frame))
        | inr other ↦ word-filled_other m f words 1024 g i other ∙ sym (word-put_other m f g i x other)
      ];
}

-- ---- tables, by ascending regions

module _ (p : Hardware) (o : spec.Own) (m : Mem) where
  pub tables_none : tables_placed p o 0 m ≡ m
  unfolding tables_placed
  tables_none = refl

  pub tables_more : (r : ℕ) → has_region o.segments r ≡ true
      → tables_placed p o (r + 1) m
      ≡ put (tables_placed p o r m) (table_frame p o r) (tabled (λ i. leaf_entry p o (1024 * r + i)) 1024)
  unfolding tables_placed table_placed
  tables_more r some = rw (add-one r, some) refl

  pub tables_same : (r : ℕ) → has_region o.segments r ≡ false
      → tables_placed p o (r + 1) m ≡ tables_placed p o r m
  unfolding tables_placed
  tables_same r none = rw (add-one r, none) refl

-- ---- pages of a segment, from the first on

pub take_front : {A : Type 0} (n : ℕ) (xs : List A) → take (min (length xs) n) xs ≡ take n xs
take_front zero xs = let none : min (length xs) 0 ≡ 0 = omega arith in rw none refl
take_front (suc n) [] = let none : min 0 (suc n) ≡ 0 = omega arith in rw none refl
take_front (suc n) (x ∷ xs) =
    let more : min (suc (length xs)) (suc n) ≡ suc (min (length xs) n) = omega arith in
    rw more (ap (λ ys. x ∷ ys) (take_front n xs))

pub drop_front : {A : Type 0} (n : ℕ) (xs : List A) → drop (min (length xs) n) xs ≡ drop n xs
drop_front zero xs = let none : min (length xs) 0 ≡ 0 = omega arith in rw none refl
drop_front (suc n) [] = let none : min 0 (suc n) ≡ 0 = omega arith in rw none refl
drop_front (suc n) (x ∷ xs) = let more : min (suc (length xs)) (suc n) ≡ suc (min (length xs) n) = omega arith in rw more (drop_front n xs)

-- some of the work is done: this holds what is done, and what is left to do gives what is due
pub record Placing (memory : Contents) (left : Mem → Mem) (due : Mem) : Type 0 where
  pub done : Mem
  pub holds : Holds memory done
  pub same : left done ≡ due

pub begun : (memory : Contents) (m : Mem) (left : Mem → Mem) → Holds memory m → Placing memory left (left m)
begun memory m left h = record { done = m; holds = h; same = refl }

pub finished : (memory : Contents) (left : Mem → Mem) (due : Mem) → ((m : Mem) → left m ≡ m)
    → Placing memory left due → Holds memory due
finished memory left due none p = subst (Holds memory) (sym (none p.done) ∙ p.same) p.holds

pub went_on : (memory memory' : Contents) (left left' step : Mem → Mem) (due : Mem)
    → ((m : Mem) → left m ≡ left' (step m)) → ((m : Mem) → Holds memory m → Holds memory' (step m))
    → Placing memory left due → Placing memory' left' due
went_on memory memory' left left' step due more moved p =
    record { done = step p.done; holds = moved p.done p.holds; same = sym (more p.done) ∙ p.same }

pub no_page : (p : Hardware) (o : spec.Own) (n many : ℕ) (bytes : List ℕ) → many ≡ 0 → (m : Mem)
    → pages_placed p o n many bytes m ≡ m
unfolding pages_placed
no_page p o n many bytes none m = rw none refl

pub one_page : (p : Hardware) (o : spec.Own) (n many many' : ℕ) (bytes : List ℕ) → many ≡ suc many'
    → (m : Mem)
    → pages_placed p o n many bytes m
    ≡ pages_placed p o (n + 1) many' (drop 4096 bytes)
    (put m (page_frame p o n) (page_words (take 4096 bytes)))
unfolding pages_placed
one_page p o n many many' bytes some m = rw (some, add-one n) refl

-- ---- segments of a domain, from the first on

pub no_segment : (p : Hardware) (o : spec.Own) (m : Mem) → segments_placed p o [] m ≡ m
unfolding segments_placed
no_segment p o m = refl

pub one_segment : (p : Hardware) (o : spec.Own) (s : spec.Segment) (ss : List spec.Segment) (m : Mem)
    → segments_placed p o (s ∷ ss) m ≡ segments_placed p o ss (pages_placed p o s.page s.pages s.bytes m)
unfolding segments_placed
one_segment p o s ss m = refl

-- ---- domains, from the last to the first

pub owns_none : (p : Hardware) (owns : List spec.Own) (k : ℕ) → length owns ≤ k
    → all_placed p (drop k owns) ≡ empty
unfolding all_placed
owns_none p owns k h = rw (drop_all k owns h) refl

pub owns_more : (p : Hardware) (owns : List spec.Own) (k : ℕ) → k < length owns
    → placed p (spec.own_at owns k) (all_placed p (drop (k + 1) owns)) ≡ all_placed p (drop k owns)
unfolding all_placed
owns_more p owns k h = ap (all_placed p) (sym (drop_more owns k spec.no_own h))

-- ---- what is outside the domain's pool

pub placed_elsewhere : (p : Hardware) (o : spec.Own) (old new : Contents) (m : Mem) → HasPool p o
    → old.frames ≡ p.frames → new.frames ≡ old.frames
    → Holds old m → Holds new (placed p o m) → SameElsewhere p o new old
unfolding word
placed_elsewhere p o old new m has size same before after f i in_memory in_frame other =
    after.same f i (omega (arith, in_memory, size, same)) in_frame
    ∙ ap (λ (x : Frame). at 0 x i) (placed_other p o has.enough m f other)
    ∙ sym (before.same f i (omega (arith, in_memory, size)) in_frame)

-- The image of every seed keeps each rule.
use Rattle.std.proofs.Common.{◌≡◌, ℕ, zero, suc, ◌+◌, ◌-◌, ◌%◌, ◌<◌, ◌==◌, true, false, ℤ, pos, List, [], ◌∷◌, ◌++◌, map, length, codes, flat_map, Option, Some, None, refl, sym, ap, subst, ◌∙◌, ◌⊎◌, inl, inr, arith, mod-lt, int_lt}
use Rattle.std.proofs.lemmas.Bool.{cases_Bool}
use Rattle.std.proofs.lemmas.Bool.Decides.{nat_tests}
use Rattle.std.specs.Prelude.{slice_get}
use Rattle.std.specs.Fmt.{digits}
use Rattle.std.specs.Int.{to_le_bytes, w32}
use Rattle.std.specs.List.{range_with_len}
use Rattle.std.specs.Result.{result_ok}
use lib.Count.{ones}
use Rattle.hex.specs.Hex.{encode_lower, decode_pairs, IsBytes}
use Rattle.hex.proofs.HexLemmas.{decode_of-encode_lower}
use Rattle.rand_pcg.specs.Lcg.{Lcg}
use Rattle.frame_colours.specs.Colours.{pool}
use Rattle.image_record.specs.Record.{Raw, RawDomain, RawEntry, RawMoment}
use Rattle.image_record.specs.Cases.{or_else, first_case, first_in, outside}
use Rattle.image_record.specs.Numbers.{natural_of, names}
use Rattle.hardware_check.specs.Hardware.{hardware_of, cache_shape_of, costs_of}
use Rattle.hardware_check.specs.Rules.{k3, k4, k5, k6, k11, cache_case, ways_case, predictor_case, is_region, room_case}
use Rattle.hardware_check.specs.Extensions.{k22}
use Rattle.image_check.specs.Own.{segment_of}
use Rattle.image_check.specs.Pages.{has_region, regions_below, pages_in}
use Rattle.image_check.specs.Checking.{k8_in_machine, k10_in_machine}
use Rattle.domain_check.specs.Names.{k7, k7_domain}
use Rattle.schedule_check.specs.Schedule.{is_number, k16, k16_case, k16_entry, entry_of}
use Rattle.domain_check.specs.Colours.{k8, k8_colour, k9, k10, k10_case}
use Rattle.domain_check.specs.Segments.{bytes_in, k12, k12_domain, segment_case, entry_case}
use Rattle.domain_check.specs.CapTexts.{cap_in, number_after}
use Rattle.domain_check.specs.Capabilities.{k13, k13_case, k13_domain}
use Rattle.schedule_check.specs.Interrupts.{k14, k14_line, k15, k15_moment, k15_domain}
use Rattle.domain_check.specs.Calls.{calls_in, k18, k18_domain}
use Rattle.kernel_clone.specs.Permissions.{may_make, every_call, calls_below}
use Rattle.image_check.specs.Own.{own_from, owns_from, owns_of, own_at}
use Rattle.image_check.specs.Pads.{shape_for, bound_out_of, k17, k17_case, k17_entry}
use Rattle.pad_bound.specs.Bound.{most_written, bound_of, worst_instruction, worst_operation, worst_leave, worst_prefetch, worst_flush, worst_enter}
use Rattle.sched_table.specs.Schedule.{harts_in}
use Rattle.schedule_check.specs.Harts.{k19, hart_case, k19_hart}
use Rattle.schedule_check.specs.Mail.{k20, k20_mail}
use Rattle.image_check.specs.Laws.{Keeps}
use Rattle.image_check.proofs.Kept.{acceptance_law}
use Rattle.seed_words.specs.Words.{after, word}
use Rattle.image_gen.specs.Program.{program, program_bytes}
use Rattle.image_gen.specs.Generated.{domain_with, moment, moment_at, moments_of, entry, slot_length, policy_by, policy_of, image_with, count, at_domain, domains_of, schedule_of, generated}
use Rattle.image_gen.specs.Laws.{AcceptedLaw}

-- ---- two to five

-- a number below four is one of four
by_four : (P : ℕ → Type 0) → P 0 → P 1 → P 2 → P 3 → (k : ℕ) → k < 4 → P k
by_four P a b c d zero l = a
by_four P a b c d (suc zero) l = b
by_four P a b c d (suc (suc zero)) l = c
by_four P a b c d (suc (suc (suc zero))) l = d
by_four P a b c d (suc (suc (suc (suc k)))) l = absurd (omega arith)

pub by_count : (P : ℕ → Type 0) → P 2 → P 3 → P 4 → P 5 → (seed : ℕ) → P (count seed)
unfolding count
by_count P a b c d seed = by_four (λ k. P (2 + k)) a b c d _ (mod-lt _ (omega arith))

-- ---- rules of which each item is tested by itself

-- each item passes, whatever comes before it
abbrev Passes : {A R : Type 0} → (List A → A → Option R) → List A → Type 0
Passes f [] = Unit {0}
Passes f (x ∷ xs) = ((earlier : List _) → f earlier x ≡ None) × Passes f xs

no_case : {A R : Type 0} (f : List A → A → Option R) (earlier xs : List A) → Passes f xs
    → first_case f earlier xs ≡ None
no_case f earlier [] p = refl
no_case f earlier (x ∷ xs) p = rw (p.0 earlier, no_case f (earlier ++ x ∷ []) xs p.1)

passes_map : {A R : Type 0} (f : List A → A → Option R) (make : ℕ → A)
    → ((k : ℕ) (earlier : List A) → f earlier (make k) ≡ None) → (ks : List ℕ) → Passes f (map make ks)
passes_map f make p [] = tt
passes_map f make p (k ∷ ks) = (p k, passes_map f make p ks)

passes_below : {A R : Type 0} (f : List A → A → Option R) (make : ℕ → A) (n : ℕ)
    → ((k : ℕ) (earlier : List A) → k < n → f earlier (make k) ≡ None)
    → (a m : ℕ) → a + m ≡ n → Passes f (map make (range_with_len a m))
passes_below f make n p a zero e = tt
passes_below f make n p a (suc m) e = ((λ earlier. p a earlier (omega arith)), passes_below f make n p (a + 1) m (omega arith))

neither : {A : Type 0} (a b : Option A) → a ≡ None → b ≡ None → or_else a b ≡ None
neither a b none_a none_b = rw (none_a, none_b)

-- ---- the program's text

pub le_bytes : (ws : List ℕ) → IsBytes (flat_map (to_le_bytes w32) ws)
le_bytes [] i = omega arith
le_bytes (w ∷ ws) zero = mod-lt _ (omega arith)
le_bytes (w ∷ ws) (suc zero) = mod-lt _ (omega arith)
le_bytes (w ∷ ws) (suc (suc zero)) = mod-lt _ (omega arith)
le_bytes (w ∷ ws) (suc (suc (suc zero))) = mod-lt _ (omega arith)
le_bytes (w ∷ ws) (suc (suc (suc (suc i)))) = le_bytes ws i

program_long : (g : Lcg) → length (program_bytes g) ≡ 276
unfolding program_bytes program
program_long g = refl

program_read : (g : Lcg) → bytes_in (encode_lower (program_bytes g)) ≡ Some (program_bytes g)
unfolding program_bytes
program_read g = ap result_ok (decode_of-encode_lower (program_bytes g) (le_bytes (program g)))

-- ---- K12

code_kept : (d : ℕ) (hex bytes : List ℕ) (m : List RawMoment) → bytes_in hex ≡ Some bytes → length bytes ≡ 276
    → (before : List RawDomain) → k12_domain before (domain_with d hex m) ≡ None
unfolding k12_domain domain_with segment_case entry_case decode_pairs
code_kept d hex bytes m read long before = rw (read, long)

-- ---- K15

small : (w : ℕ) → w % 20000 < 20000
small w = mod-lt w (omega arith)

own_line : (d : ℕ) → names (pos d ∷ []) (pos d) ≡ true
own_line d = grind (arith, nat_tests)

early : (k w : ℕ) → k < 8 → outside (pos 0) (pos 1000000000000) (pos (moment_at k w)) ≡ false
early k w l = let s = small w in grind (arith, nat_tests)

first_kept : (d place w : ℕ) → k15_moment (pos d ∷ []) place [] (moment d 0 w) ≡ None
unfolding k15_moment
first_kept d place w = rw (early 0 w (omega arith), own_line d)

later_kept : (d place j v w : ℕ) (earlier : List RawMoment) → suc j < 8
    → slice_get earlier (length earlier - 1) ≡ Some (moment d j v)
    → k15_moment (pos d ∷ []) place earlier (moment d (suc j) w) ≡ None
unfolding k15_moment
later_kept d place j v w earlier l before =
    let s = small v in
    let ascends : int_lt (pos (moment_at j v)) (pos (moment_at (suc j) w)) ≡ true = grind (arith, nat_tests) in
    rw (early (suc j) w l, own_line d, before, ascends)

moments_kept : (d : ℕ) (hex : List ℕ) (g : Lcg) (before : List RawDomain)
    → k15_domain before (domain_with d hex (moments_of d g)) ≡ None
unfolding k15_domain domain_with moments_of
moments_kept d hex g before =
    let w : ℕ → ℕ = word (after 64 g) in
    let at : ℕ = length before in
    neither _ _ (first_kept d at (w 0))
    (neither _ _ (later_kept d at 0 (w 0) (w 1) _ (omega arith) refl)
    (neither _ _ (later_kept d at 1 (w 1) (w 2) _ (omega arith) refl)
    (neither _ _ (later_kept d at 2 (w 2) (w 3) _ (omega arith) refl)
    (neither _ _ (later_kept d at 3 (w 3) (w 4) _ (omega arith) refl)
    (neither _ _ (later_kept d at 4 (w 4) (w 5) _ (omega arith) refl)
    (neither _ _ (later_kept d at 5 (w 5) (w 6) _ (omega arith) refl)
    (neither _ _ (later_kept d at 6 (w 6) (w 7) _ (omega arith) refl) refl)))))))

-- ---- the machine

abbrev pub IsPolicy : List ℕ → Type 0
IsPolicy p = (p ≡ codes "lru") ⊎ ((p ≡ codes "fifo") ⊎ (p ≡ codes "plru"))

policy_by_is : (kind : ℕ) → IsPolicy (policy_by kind)
policy_by_is kind = elim (cases_Bool (kind == 0)) [
  | inl lru ↦ inl (rw lru refl)
  | inr other ↦ elim (cases_Bool (kind == 1)) [
    | inl fifo ↦ inr (inl (rw (other, fifo) refl))
    | inr plru ↦ inr (inr (rw (other, plru) refl))
  ]
]

pub policy_is : (seed : ℕ) → IsPolicy (policy_of seed)
unfolding policy_of
policy_is seed = policy_by_is (seed % 3)

parts_kept : (p : List ℕ) (ds : List RawDomain) (es : List RawEntry) → IsPolicy p
    → k3 (image_with p ds es) ≡ None
unfolding k3 cache_case ways_case predictor_case image_with ones
parts_kept p ds es (inl lru) = rw lru refl
parts_kept p ds es (inr (inl fifo)) = rw fifo refl
parts_kept p ds es (inr (inr plru)) = rw plru refl

frames_kept : (p : List ℕ) (ds : List RawDomain) (es : List RawEntry) → k4 (image_with p ds es) ≡ None
unfolding k4 image_with
frames_kept p ds es = refl

colours_kept : (p : List ℕ) (ds : List RawDomain) (es : List RawEntry) → k5 (image_with p ds es) ≡ None
unfolding k5 image_with hardware_of cache_shape_of costs_of
colours_kept p ds es = refl

costs_kept : (p : List ℕ) (ds : List RawDomain) (es : List RawEntry) → k6 (image_with p ds es) ≡ None
unfolding k6 image_with
costs_kept p ds es = refl

shared_kept : (p : List ℕ) (ds : List RawDomain) (es : List RawEntry) → k11 (image_with p ds es) ≡ None
unfolding k11 is_region room_case image_with hardware_of cache_shape_of costs_of
shared_kept p ds es = refl

extensions_kept : (p : List ℕ) (ds : List RawDomain) (es : List RawEntry) → k22 (image_with p ds es) ≡ None
unfolding k22 image_with
extensions_kept p ds es = refl

mail_kept : (p : List ℕ) (ds : List RawDomain) (es : List RawEntry) → k20 (image_with p ds es) ≡ None
unfolding k20 k20_mail image_with
mail_kept p ds es = refl

-- where a domain leaves that may make every call
bound_is : (p : List ℕ) (ds : List RawDomain) (es : List RawEntry)
    → bound_of (shape_for (hardware_of (image_with p ds es)) every_call) ≡ 6150
unfolding image_with hardware_of cache_shape_of costs_of bound_of worst_instruction worst_operation
    worst_leave worst_prefetch worst_flush worst_enter most_written may_make calls_below
bound_is p ds es = refl

-- ---- calls

module _ (h : ℕ → List ℕ) (m : ℕ → List RawMoment) where
  every_one : (first : ℕ) (ks : List ℕ) (n : ℕ)
      → (own_at (owns_from first false (map (λ d. domain_with d (h d) (m d)) ks)) n).calls ≡ every_call
  unfolding own_from domain_with calls_in
  every_one first [] n = refl
  every_one first (k ∷ ks) zero = refl
  every_one first (k ∷ ks) (suc n) = every_one (first + 1) ks n

  bound_out : (p : List ℕ) (ks : List ℕ) (es : List RawEntry) (d : ℤ)
      → bound_out_of (image_with p (map (λ d. domain_with d (h d) (m d)) ks) es) d ≡ 6150
  unfolding bound_out_of owns_of image_with
  bound_out p ks es d =
      let ds = map (λ d. domain_with d (h d) (m d)) ks in
      ap (λ (calls : ℕ). bound_of (shape_for (hardware_of (image_with p ds es)) calls)) (every_one 0 ks (natural_of d)) ∙ bound_is p ds es

none_listed : (d : ℕ) (hex : List ℕ) (m : List RawMoment) (before : List RawDomain)
    → k18_domain before (domain_with d hex m) ≡ None
unfolding domain_with
none_listed d hex m before = refl

-- ---- domains beside each other

abbrev domains_by : (ℕ → List ℕ) → (ℕ → List RawMoment) → ℕ → List RawDomain
domains_by h m n = map (λ d. domain_with d (h d) (m d)) (range_with_len 0 n)

module _ (p : List ℕ) (h : ℕ → List ℕ) (m : ℕ → List RawMoment) (es : List RawEntry) (seed : ℕ) where
  abbrev image : ℕ → Raw
  image n = image_with p (domains_by h m n) es

  names_kept : k7 (image (count seed)) ≡ None
  unfolding k7 k7_domain image_with domain_with digits
  names_kept = by_count (λ n. k7 (image n) ≡ None) refl refl refl refl seed

  colour_lists_kept : k8_in_machine (image (count seed)) ≡ None
  unfolding k8 k8_colour image_with domain_with hardware_of cache_shape_of costs_of
  colour_lists_kept = by_count (λ n. k8_in_machine (image n) ≡ None) refl refl refl refl seed

  apart_kept : k9 (image (count seed)) ≡ None
  unfolding k9 image_with domain_with
  apart_kept = by_count (λ n. k9 (image n) ≡ None) refl refl refl refl seed

  pools_kept : k10_in_machine (image (count seed)) ≡ None
  unfolding k10 k10_case image_with domain_with hardware_of cache_shape_of costs_of pool segment_of
      regions_below has_region pages_in
  pools_kept = by_count (λ n. k10_in_machine (image n) ≡ None) refl refl refl refl seed

  capabilities_kept : k13 (image (count seed)) ≡ None
  unfolding k13 k13_domain k13_case image_with domain_with digits cap_in number_after
  capabilities_kept = by_count (λ n. k13 (image n) ≡ None) refl refl refl refl seed

  lines_kept : k14 (image (count seed)) ≡ None
  unfolding k14 k14_line image_with domain_with
  lines_kept = by_count (λ n. k14 (image n) ≡ None) refl refl refl refl seed

-- ---- the schedule

slot_kept : (n d w place : ℕ) → d < n → k16_case n place (entry d w) ≡ None
unfolding k16_case
slot_kept n d w place l =
    let short : w % 5000 < 5000 = mod-lt w (omega arith) in
    let number : is_number n (pos d) ≡ true = grind (arith, nat_tests) in
    let long : outside (pos 1000) (pos 1000000) (pos (slot_length w)) ≡ false = grind (arith, nat_tests) in
    rw (number, long)

abbrev entries_by : (ℕ → ℕ) → ℕ → List RawEntry
entries_by w n = map (λ d. entry d (w d)) (range_with_len 0 n)

entries_kept : (w : ℕ → ℕ) (n : ℕ) → first_in (k16_entry n) (entries_by w n) ≡ None
entries_kept w n =
    no_case (k16_entry n) [] (entries_by w n)
    (passes_below (k16_entry n) (λ d. entry d (w d)) n (λ d e l. slot_kept n d (w d) (length e) l) 0 n
    (omega arith))

schedule_kept : (p : List ℕ) (h : ℕ → List ℕ) (m : ℕ → List RawMoment) (w : ℕ → ℕ) (seed : ℕ)
    → k16 (image_with p (domains_by h m (count seed)) (entries_by w (count seed))) ≡ None
unfolding k16 image_with
schedule_kept p h m w seed =
    by_count (λ n. k16 (image_with p (domains_by h m n) (entries_by w n)) ≡ None) (entries_kept w 2)
    (entries_kept w 3) (entries_kept w 4) (entries_kept w 5) seed

pad_kept : (k w place : ℕ) → k17_case 6150 place (entry k w) ≡ None
unfolding k17_case
pad_kept k w place = refl

pads_kept : (p : List ℕ) (h : ℕ → List ℕ) (m : ℕ → List RawMoment) (w : ℕ → ℕ) (n : ℕ)
    → k17 (image_with p (domains_by h m n) (entries_by w n)) ≡ None
unfolding k17 image_with
pads_kept p h m w n =
    let i = image_with p (domains_by h m n) (entries_by w n) in
    let kept : (k : ℕ) (earlier : List RawEntry) → k17_entry i earlier (entry k (w k)) ≡ None =
    λ k earlier. subst (λ b. k17_case b (length earlier) (entry k (w k)) ≡ None)
    (sym (bound_out h m p (range_with_len 0 n) (entries_by w n) (pos k)))
    (pad_kept k (w k) (length earlier)) in
    no_case (k17_entry i) [] (entries_by w n) (passes_map (k17_entry i) _ kept (range_with_len 0 n))

harts_kept : (p : List ℕ) (h : ℕ → List ℕ) (m : ℕ → List RawMoment) (w : ℕ → ℕ) (seed : ℕ)
    → k19 (image_with p (domains_by h m (count seed)) (entries_by w (count seed))) ≡ None
unfolding k19 hart_case k19_hart harts_in entry_of image_with
harts_kept p h m w seed = by_count (λ n. k19 (image_with p (domains_by h m n) (entries_by w n)) ≡ None) refl refl refl refl seed

-- ---- all rules

keeps : (seed : ℕ) → Keeps (generated seed)
unfolding generated domains_of schedule_of image_with k12 k15 k18
keeps seed =
    let p = policy_of seed in
    let at : ℕ → Lcg = at_domain seed in
    let h : ℕ → List ℕ = λ d. encode_lower (program_bytes (at d)) in
    let m : ℕ → List RawMoment = λ d. moments_of d (at d) in
    let w : ℕ → ℕ = word (at (count seed)) in
    let ds = domains_of seed in
    let es = schedule_of seed in
    let ns = range_with_len 0 (count seed) in
    record {
      others = record {
        before = record {
          parts = parts_kept p ds es (policy_is seed);
          frames = frames_kept p ds es;
          colours = colours_kept p ds es;
          costs = costs_kept p ds es;
          domains = names_kept p h m es seed;
          named = colour_lists_kept p h m es seed;
          apart = apart_kept p h m es seed;
          pools = pools_kept p h m es seed;
          shared = shared_kept p ds es;
          segments =
              no_case k12_domain [] ds
              (passes_map k12_domain _
              (λ d e. code_kept d (h d) (program_bytes (at d)) (m d) (program_read (at d))
              (program_long (at d)) e) ns);
          capabilities = capabilities_kept p h m es seed;
          lines = lines_kept p h m es seed;
          moments = no_case k15_domain [] ds (passes_map k15_domain _ (λ d e. moments_kept d (h d) (at d) e) ns);
          schedule = schedule_kept p h m w seed;
        };
        calls = no_case k18_domain [] ds (passes_map k18_domain _ (λ d e. none_listed d (h d) (m d) e) ns);
        harts = harts_kept p h m w seed;
        mail = mail_kept p ds es;
        extensions = extensions_kept p ds es;
      };
      pads = pads_kept p h m w (count seed);
    }

pub accepted_law : AcceptedLaw
accepted_law seed l = (acceptance_law (generated seed)).1 (keeps seed)

-- The text of the image that a seed makes, as its parts are written one after the other.
use Rattle.std.specs.Prelude.{ℕ, ◌+◌, ◌==◌, if◌then◌else◌, List, [], ◌∷◌, ◌++◌, codes, decimal}
use Rattle.std.specs.List.{concat, flat_map, range_with_len}
use Rattle.hex.specs.Hex.{encode_lower}
use Rattle.rand_pcg.specs.Lcg.{Lcg}
use Rattle.seed_words.specs.Words.{after, word}
use Rattle.image_gen.specs.Program.{program_bytes}
use Rattle.image_gen.specs.Generated.{moment_at, slot_length, policy_of, count, at_domain}

-- where the text comes from
unfoldable pub heading : ℕ → List ℕ
heading seed =
    concat (codes "# Generated from seed " ∷ decimal seed ∷ codes ", by: ./tp gen --seed " ∷ decimal seed
    ∷ codes "\n" ∷ [])

-- the machine, whose second level has this policy
unfoldable pub machine_text : List ℕ → List ℕ
machine_text policy = concat (
    codes "\n# ---- the machine\n\nframes = 128\nshared = 512\nline = 64\n"
    ∷ codes "l1i = { sets = 16, ways = 2, policy = \"lru\" }\n"
    ∷ codes "l1d = { sets = 16, ways = 2, policy = \"lru\" }\n"
    ∷ codes "l2 = { sets = 512, ways = 4, policy = \"" ∷ policy ∷ codes "\" }\n"
    ∷ codes "tlb = { sets = 4, ways = 2, policy = \"lru\" }\npredictor = 16\n"
    ∷ codes "costs = { base = 1, l1 = 1, l2 = 8, mem = 40, wb = 10, tlb = 1, mispredict = 3, trap = 10, flush = 20 }\n"
    ∷ [])

abbrev pub front : ℕ → List ℕ
front seed = heading seed ++ machine_text (policy_of seed)

-- ---- the parts of a domain

-- a comma stands before all but the first
abbrev pub separator : ℕ → List ℕ
separator k = if k == 0 then [] else codes ", "

abbrev pub moment_text : ℕ → ℕ → ℕ → List ℕ
moment_text d k w =
    concat (separator k ∷ codes "[" ∷ decimal (moment_at k w) ∷ codes ", " ∷ decimal d ∷ codes "]" ∷ [])

unfoldable pub moments_text : ℕ → Lcg → List ℕ
moments_text d g = flat_map (λ k. moment_text d k (word g k)) (range_with_len 0 8)

unfoldable pub name_text : ℕ → List ℕ
name_text d = concat (
    codes "\n# ---- domain " ∷ decimal d ∷ codes "\n\n[[domain]]\nname = \"g" ∷ decimal d
    ∷ codes "\"\ncolours = [" ∷ decimal (d + 1) ∷ codes "]\nentry = 0x10000\n"
    ∷ [])

unfoldable pub interrupts_text : ℕ → List ℕ → List ℕ
interrupts_text d moments = concat (
    codes "caps = [\"irq " ∷ decimal d ∷ codes "\"]\nlines = [" ∷ decimal d ∷ codes "]\nmoments = [" ∷ moments
    ∷ codes "]\n"
    ∷ [])

unfoldable pub segments_text : List ℕ → List ℕ
segments_text hex = concat (
    codes "segment = [\n    { page = 16, pages = 1, rights = \"rx\", hex = \"" ∷ hex
    ∷ codes "\" },\n    { page = 32, pages = 1, rights = \"rw\", hex = \"\" },\n]\n"
    ∷ [])

-- with these interrupts and this program
abbrev pub domain_text_with : ℕ → List ℕ → List ℕ → List ℕ
domain_text_with d moments hex = name_text d ++ (interrupts_text d moments ++ segments_text hex)

abbrev pub domain_text : ℕ → Lcg → List ℕ
domain_text d g = domain_text_with d (moments_text d (after 64 g)) (encode_lower (program_bytes g))

-- ---- the schedule

unfoldable pub slot_text : ℕ → ℕ → List ℕ
slot_text d w = concat (
    codes "\n[[schedule]]\ndomain = " ∷ decimal d ∷ codes "\nlength = " ∷ decimal (slot_length w)
    ∷ codes "\npad = 6150\n"
    ∷ [])

unfoldable pub schedule_title : List ℕ
schedule_title = codes "\n# ---- the schedule\n"

-- ---- all of it

unfoldable pub domains_text : ℕ → ℕ → List ℕ
domains_text seed n = flat_map (λ d. domain_text d (at_domain seed d)) (range_with_len 0 n)

unfoldable pub slots_text : Lcg → ℕ → List ℕ
slots_text g n = flat_map (λ d. slot_text d (word g d)) (range_with_len 0 n)

unfoldable pub text : ℕ → List ℕ
text seed =
    front seed
    ++ (domains_text seed (count seed)
    ++ (schedule_title ++ slots_text (at_domain seed (count seed)) (count seed)))

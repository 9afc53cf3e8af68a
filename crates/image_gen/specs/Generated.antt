-- The record of the image that a seed makes: two to five domains on one machine, each with a program and interrupts of its
-- own, and a schedule of one slot for each.
use Rattle.std.specs.Prelude.{ℕ, ◌+◌, ◌*◌, ◌%◌, ◌==◌, if◌then◌else◌, false, ℤ, pos, List, [], ◌∷◌, ◌++◌, map, codes, decimal, None}
use Rattle.std.specs.List.{range_with_len}
use Rattle.hex.specs.Hex.{encode_lower}
use Rattle.rand_pcg.specs.Lcg.{Lcg}
use Rattle.image_record.specs.Record.{Raw, RawCache, RawCosts, RawSegment, RawMoment, RawDomain, RawEntry}
use Rattle.seed_words.specs.Words.{seeded, after, word}
use Rattle.image_gen.specs.Program.{program_bytes}

-- ---- a domain

abbrev pub segment : ℕ → List ℕ → List ℕ → RawSegment
segment page rights hex = record { page = page; pages = 1; rights = rights; hex = hex }

-- within its 20,000 cycles, so each comes after the one before
abbrev pub moment_at : ℕ → ℕ → ℕ
moment_at k w = 20000 * k + w % 20000

abbrev pub moment : ℕ → ℕ → ℕ → RawMoment
moment d k w = record { at = pos (moment_at k w); line = pos d }

-- of domain d, with this program and these interrupts
unfoldable pub domain_with : ℕ → List ℕ → List RawMoment → RawDomain
domain_with d hex moments = record {
  name = codes "g" ++ decimal d;
  colours = pos (d + 1) ∷ [];
  entry = 0x10000;
  segments = segment 16 (codes "rx") hex ∷ segment 32 (codes "rw") [] ∷ [];
  caps = (codes "irq " ++ decimal d) ∷ [];
  lines = pos d ∷ [];
  moments = moments;
  calls = None;
}

-- the first 64 words are the program's, the next 8 the interrupts'
unfoldable pub moments_of : ℕ → Lcg → List RawMoment
moments_of d g = map (λ k. moment d k (word (after 64 g) k)) (range_with_len 0 8)

abbrev pub domain : ℕ → Lcg → RawDomain
domain d g = domain_with d (encode_lower (program_bytes g)) (moments_of d g)

-- ---- the schedule

abbrev pub slot_length : ℕ → ℕ
slot_length w = 5000 + w % 5000

abbrev pub entry : ℕ → ℕ → RawEntry
entry d w = record { domain = pos d; length = pos (slot_length w); pad = pos 6150; hart = pos 0 }

-- ---- the machine

abbrev pub policy_by : ℕ → List ℕ
policy_by kind = if kind == 0 then codes "lru" else if kind == 1 then codes "fifo" else codes "plru"

-- of the second level
unfoldable pub policy_of : ℕ → List ℕ
policy_of seed = policy_by (seed % 3)

abbrev pub cache : ℤ → ℤ → List ℕ → RawCache
cache sets ways policy = record { sets = sets; ways = ways; policy = policy }

abbrev pub costs : RawCosts
costs = record {
  base = pos 1;
  l1 = pos 1;
  l2 = pos 8;
  mem = pos 40;
  wb = pos 10;
  tlb = pos 1;
  mispredict = pos 3;
  trap = pos 10;
  flush = pos 20;
}

-- of the first version, with eight colours; no write-back into the second level, no history, no products, no target buffer,
-- no mailboxes
unfoldable pub image_with : List ℕ → List RawDomain → List RawEntry → Raw
image_with policy domains schedule = record {
  version = 1;
  frames = pos 128;
  shared = pos 512;
  line = pos 64;
  l1i = cache (pos 16) (pos 2) (codes "lru");
  l1d = cache (pos 16) (pos 2) (codes "lru");
  l2 = cache (pos 512) (pos 4) policy;
  back = false;
  tlb = cache (pos 4) (pos 2) (codes "lru");
  predictor = pos 16;
  history = pos 0;
  costs = costs;
  muldiv = None;
  targets = None;
  domains = domains;
  schedule = schedule;
  mail = [];
}

-- ---- by the words

-- the first word
unfoldable pub count : ℕ → ℕ
count seed = 2 + word (seeded seed) 0 % 4

-- the words of domain d begin after the first and those of the domains before it
abbrev pub at_domain : ℕ → ℕ → Lcg
at_domain seed d = after (1 + 72 * d) (seeded seed)

unfoldable pub domains_of : ℕ → List RawDomain
domains_of seed = map (λ d. domain d (at_domain seed d)) (range_with_len 0 (count seed))

-- then one for each slot
unfoldable pub schedule_of : ℕ → List RawEntry
schedule_of seed = map (λ d. entry d (word (at_domain seed (count seed)) d)) (range_with_len 0 (count seed))

unfoldable pub generated : ℕ → Raw
generated seed = image_with (policy_of seed) (domains_of seed) (schedule_of seed)

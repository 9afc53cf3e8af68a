-- The text of a seed reads as the seed's record.
use Rattle.std.proofs.Common.{◌≡◌, ℕ, ◌+◌, ◌<◌, ◌≤◌, ◌^◌, ◌==◌, true, false, List, [], ◌∷◌, codes, Some, Ok, refl, ◌∙◌, ap₂, arith, IsUtf8, Bool, ◌⊎◌, inl, inr}
use Rattle.std.proofs.lemmas.Bool.{and_parts}
use Rattle.std.proofs.lemmas.Bool.Decides.{nat_tests}
use Rattle.std.proofs.lemmas.List.Sums.{list_all-from_AllPass}
use Rattle.std.proofs.lemmas.Str.{is_utf8-from_IsUtf8}
use Rattle.std.specs.List.{list_all, range_with_len}
use Rattle.hex.specs.Hex.{encode_lower, is_hex_digit}
use Rattle.hex.proofs.HexLemmas.{decode_of-encode_lower, decode_of-ok}
use Rattle.rand_pcg.specs.Lcg.{Lcg}
use Rattle.toml_parser.specs.Lexical.{first}
use Rattle.toml.specs.Data.{Items, Members}
use Rattle.toml.specs.Tables.{Nodes, no_nodes}
use Rattle.toml.specs.Parse.{parse_document}
use Rattle.image_text.specs.Record.{document, image_of}
use Rattle.seed_words.specs.Words.{after, word}
use Rattle.image_gen.specs.Program.{program, program_bytes}
use Rattle.image_gen.specs.Generated.{policy_of, count, at_domain, moments_of, domains_of, schedule_of, generated}
use Rattle.image_gen.specs.Text.{heading, machine_text, front, domain_text, slot_text, schedule_title, domains_text, slots_text, text}
use Rattle.image_gen.proofs.Kept.{by_count, le_bytes, policy_is}
use Rattle.image_gen.proofs.Values.{is_simple}
use Rattle.image_gen.proofs.Documents.{leads_blank, leads_both, leads_whole, Each, each_below, ReadAll, tables_read}
use Rattle.image_gen.proofs.Tables.{at_machine, at_domains, at_schedule, image_members, domain_nodes, moments_data, slot_nodes}
use Rattle.image_gen.proofs.Parts.{heading_blank, schedule_blank, machine_leads, domain_begins, domain_follows, slot_begins, slot_follows}
use Rattle.image_gen.proofs.Recorded.{members, recorded, whole}

-- ---- what a string shows as it is

digit_simple : (c : ℕ) → is_hex_digit c ≡ true → is_simple c ≡ true
digit_simple c h = grind (arith, nat_tests)

all_simple : (p : ℕ → Bool) → ((c : ℕ) → p c ≡ true → is_simple c ≡ true) → (s : List ℕ) → list_all p s ≡ true
    → list_all is_simple s ≡ true
all_simple p from [] h = refl
all_simple p from (c ∷ cs) h =
    let (here, more) = and_parts (p c) (list_all p cs) h in
    rw (from c here, all_simple p from cs more)

hex_simple : (g : Lcg) → list_all is_simple (encode_lower (program_bytes g)) ≡ true
unfolding program_bytes
hex_simple g =
    let bytes = program_bytes g in
    let (even, digits, sizes, back) = decode_of-ok (encode_lower bytes) bytes (decode_of-encode_lower bytes (le_bytes (program g))) in
    all_simple is_hex_digit digit_simple (encode_lower bytes) (list_all-from_AllPass is_hex_digit (encode_lower bytes) digits)

policy_simple : (p : List ℕ) → (p ≡ codes "lru") ⊎ ((p ≡ codes "fifo") ⊎ (p ≡ codes "plru"))
    → list_all is_simple p ≡ true
policy_simple p (inl e) = rw e refl
policy_simple p (inr (inl e)) = rw e refl
policy_simple p (inr (inr e)) = rw e refl

-- ---- the text line after line

few : (seed : ℕ) → (0 < count seed) × (0 + count seed ≤ 256)
few seed =
    by_count (λ n. (0 < n) × (0 + n ≤ 256)) (omega arith, omega arith) (omega arith, omega arith)
    (omega arith, omega arith) (omega arith, omega arith) seed

module _ (seed : ℕ) (small : seed < 2 ^ 64) where
  abbrev p : List ℕ
  p = policy_of seed

  abbrev n : ℕ
  n = count seed

  abbrev at : ℕ → Lcg
  at d = at_domain seed d

  abbrev hex : ℕ → List ℕ
  hex d = encode_lower (program_bytes (at d))

  abbrev draws : ℕ → ℕ → ℕ
  draws d k = word (after 64 (at d)) k

  abbrev domain_made_nodes : ℕ → Nodes
  domain_made_nodes d = domain_nodes d (hex d) (moments_data d (draws d))

  abbrev slot_made_nodes : ℕ → Nodes
  slot_made_nodes d = slot_nodes d (word (at n) d)

  abbrev ks : List ℕ
  ks = range_with_len 0 n

  all_below : Each (λ k. k < 256) ks
  all_below = each_below 0 n 256 (few seed).1

  domains_read : ReadAll (λ k. k < 256) (at_domains p) domain_made_nodes (λ d. domain_text d (at d))
      (λ d l done last. domain_follows p d l (hex d) (hex_simple (at d)) (after 64 (at d)) done last)
      (at_machine p) ks
  domains_read =
      tables_read (λ k. k < 256) (at_domains p) domain_made_nodes (λ d. domain_text d (at d))
      (λ d l done last. domain_follows p d l (hex d) (hex_simple (at d)) (after 64 (at d)) done last)
      (at_machine p)
      (λ d l. domain_begins p d l (hex d) (hex_simple (at d)) (after 64 (at d))) 0 n (few seed).0 all_below

  slots_read : (ds : Items) (domain : Nodes)
      → ReadAll (λ k. k < 256) (at_schedule p ds domain) slot_made_nodes (λ d. slot_text d (word (at n) d))
      (λ d l done last. slot_follows p ds domain d (word (at n) d) l done last) (at_domains p ds domain) ks
  slots_read ds domain =
      tables_read (λ k. k < 256) (at_schedule p ds domain) slot_made_nodes (λ d. slot_text d (word (at n) d))
      (λ d l done last. slot_follows p ds domain d (word (at n) d) l done last) (at_domains p ds domain)
      (λ d l. slot_begins p ds domain d (word (at n) d) l) 0 n (few seed).0 all_below

  abbrev members_then : Members
  members_then = members p hex draws (word (at n)) ks ks

  unmarked : (first (text seed) == 239) ≡ false
  unfolding text heading
  unmarked = refl

  parsed : parse_document (text seed) ≡ Some members_then
  unfolding text domains_text slots_text
  parsed =
      let d = domains_read in
      let s = slots_read d.done d.last in
      let start =
      leads_both (no_nodes, []) (no_nodes, []) (at_machine p) (heading seed) (machine_text p)
      (leads_blank _ (heading seed) (heading_blank seed small))
      (machine_leads p (policy_simple p (policy_is seed))) in
      let end =
      leads_both _ _ _ schedule_title (slots_text (at n) n)
      (leads_blank (at_domains p d.done d.last) schedule_title schedule_blank) s.leads in
      let all = leads_both _ _ _ (front seed) _ start (leads_both _ _ _ (domains_text seed n) _ d.leads end) in
      leads_whole (text seed) (at_schedule p d.done d.last s.done s.last) unmarked all
      ∙ ap₂ (λ (x y : Items). Some (image_members p x y)) d.all s.all

  pub read_back : (bytes : List ℕ) → IsUtf8 bytes → bytes ≡ text seed → image_of bytes ≡ Ok (generated seed)
  unfolding image_of document generated domains_of schedule_of moments_of
  read_back bytes utf8 same =
      let valid = is_utf8-from_IsUtf8 bytes utf8 in
      rw (valid, same, parsed, whole p hex draws (word (at n)) ks ks, recorded p hex draws (word (at n)) ks ks)

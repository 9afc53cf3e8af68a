-- The domains that were made are those of the record.
use Rattle.std.proofs.Common.{◌≡◌, ◌∙◌, ℕ, Bool, List, map, ap, ap₂, sym, subst}
use Rattle.image_record.specs.Record.{RawDomain, AreInKeyRanges}
use Rattle.image_record.specs.declared.raw.Raw.{Raw}
use Rattle.image_record.specs.declared.raw.RawDomain.{RawDomain as Domain}
use Rattle.image_record.specs.Models.{raw_model}
use Rattle.image_record.specs.Parts.{domain_model}
use Rattle.image_redact.specs.Redacted.{kept_domains, names_from, redacted, redacted_from}
use Rattle.image_redact.proofs.Ranges.{ranges_law}

module _ (raw : Raw) (d : ℕ) (kept read these : List Bool) (listed : List Domain) (taken : List (List ℕ)) (made : List Domain)
    (is : kept ≡ kept_domains (raw_model raw) d) (first : read ≡ kept) (all : listed ≡ raw.domains.items)
    (named : taken ≡ names_from read 0 (map domain_model listed)) (second : these ≡ kept)
    (rest : map domain_model made ≡ redacted_from raw.version these taken 0 (map domain_model raw.domains.items)) where
  domains_made : map domain_model made ≡ (redacted (raw_model raw) d).domains
  unfolding redacted
  domains_made =
      let domains = map domain_model raw.domains.items in
      let names = named ∙ ap₂ (λ (k : List Bool) (os : List Domain). names_from k 0 (map domain_model os)) (first ∙ is) all in
      rest ∙ ap₂ (λ (k : List Bool) (ns : List (List ℕ)). redacted_from raw.version k ns 0 domains) (second ∙ is) names

  pub in_ranges : AreInKeyRanges (map domain_model made)
  in_ranges = subst AreInKeyRanges (sym domains_made) (ranges_law (raw_model raw) d raw.in_ranges)

  pub record_made : record (raw_model raw) { domains = map domain_model made } ≡ redacted (raw_model raw) d
  unfolding redacted
  record_made = ap (λ (os : List RawDomain). record (raw_model raw) { domains = os }) domains_made

-- Which records can be written so that the text reads as the record again.
use Rattle.std.specs.Prelude.{◌≡◌, ℕ, ◌<◌, ◌≤◌, ◌⊎◌, List, [], length, None, Ok}
use Rattle.image_record.specs.Record.{Raw, raw_domain, InKeyRanges}
use Rattle.image_check.specs.Checking.{broken}
use Rattle.image_text.specs.Record.{image_of}

pub record IsWritable (r : Raw) : Type 0 where
  pub version : (r.version ≡ 1) ⊎ (r.version ≡ 2)
  pub first : r.version ≡ 1 → (d : ℕ) → (raw_domain r.domains d).calls ≡ None
  pub ranges : InKeyRanges r
  pub some : (d : ℕ) → d < length r.domains → 1 ≤ length (raw_domain r.domains d).segments

-- so is every record that is read and breaks no rule
abbrev pub WritableLaw : Type 0
WritableLaw = (bytes : List ℕ) (r : Raw) → image_of bytes ≡ Ok r → broken r ≡ [] → IsWritable r

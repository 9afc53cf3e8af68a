-- A memory that holds what was written at a frame and a place, by other names of them.
use Rattle.std.proofs.Common.{◌≡◌, subst, ℕ}
use Rattle.phys_mem.specs.Contents.{Contents}
use Rattle.phys_mem.specs.Mem.{Mem, written}
use Rattle.phys_mem.specs.Holds.{Holds}

pub holds_at : (memory : Contents) (mem : Mem) (frame table place index value word : ℕ) → frame ≡ table
    → place ≡ index → value ≡ word
    → Holds memory (written mem frame place value) → Holds memory (written mem table index word)
holds_at memory mem frame table place index value word same_frame same_place same_word holds =
    subst (λ (f : ℕ). Holds memory (written mem f index word)) same_frame
    (subst (λ (p : ℕ). Holds memory (written mem frame p word)) same_place
    (subst (λ (w : ℕ). Holds memory (written mem frame place w)) same_word holds))

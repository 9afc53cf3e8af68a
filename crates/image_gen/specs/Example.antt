-- Worked rows: what seed 7 begins with.
use Rattle.std.specs.Prelude.{◌≡◌, refl, [], ◌∷◌, take}
use Rattle.rand_pcg.specs.Lcg.{state_after}
use Rattle.seed_words.specs.Words.{seeded, after, word}
use Rattle.image_gen.specs.Program.{instruction, program}
use Rattle.image_gen.specs.Generated.{moment_at, slot_length, count, at_domain}

pub first_word : word (seeded 7) 0 ≡ 2215483850
unfolding word state_after
first_word = refl

pub second_word : word (seeded 7) 1 ≡ 315054046
unfolding word state_after
second_word = refl

pub four_domains : count 7 ≡ 4
unfolding count word state_after
four_domains = refl

-- LUI x5, 0x20; ADDI x17, x0, 1; BEQ x9, x13, +8; ADDI x10, x6, 218; ECALL
pub first_instructions : take 5 (program (at_domain 7 0))
    ≡ 0x000202B7 ∷ 0x00100893 ∷ 0x00D48463 ∷ 0x0DA30513 ∷ 0x00000073 ∷ []
unfolding program instruction word state_after
first_instructions = refl

pub first_moment : moment_at 0 (word (after 64 (at_domain 7 0)) 0) ≡ 12587
unfolding word state_after
first_moment = refl

pub first_length : slot_length (word (at_domain 7 4) 0) ≡ 9768
unfolding word state_after
first_length = refl

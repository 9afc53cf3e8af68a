use Rattle.std.proofs.Common.{◌≡◌, ◌++◌, string_bytes}
use Rattle.seed_words.specs.Words.{after}
use Rattle.image_gen.specs.Generated.{count, at_domain}
use Rattle.image_gen.specs.Text.{front, domains_text, schedule_title, slots_text}
use Rattle.image_gen.proofs.generating.generate.Given as goal

abbrev pub invariant-loop-number : goal.invariant-loop-number
invariant-loop-number l =
    (l.count ≡ count l.seed)
    × (string_bytes l.text ≡ front l.seed ++ domains_text l.seed l.number)
    × (l.words ≡ at_domain l.seed l.number)

abbrev pub invariant-loop-number-2 : goal.invariant-loop-number-2
invariant-loop-number-2 l =
    (l.count ≡ count l.seed)
    × (string_bytes l.text
    ≡ front l.seed
    ++ (domains_text l.seed (count l.seed)
    ++ (schedule_title ++ slots_text (at_domain l.seed (count l.seed)) l.number)))
    × (l.words ≡ after l.number (at_domain l.seed (count l.seed)))

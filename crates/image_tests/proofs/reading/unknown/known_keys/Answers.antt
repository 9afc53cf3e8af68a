use Rattle.std.specs.Prelude.{refl}
use Rattle.toml.proofs.OnLiterals.{toml_on_literals}
use Rattle.image_text.specs.Unknown.{all_known, known_table, known_item, known_domain}
use Rattle.image_tests.proofs.reading.unknown.known_keys.Goals as goal

pub returns : goal.returns
unfolding toml_on_literals all_known known_table known_item known_domain
returns c = record { anywhere = refl }

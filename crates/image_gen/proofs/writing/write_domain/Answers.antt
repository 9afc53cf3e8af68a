use Rattle.std.proofs.Common.{◌++◌, string_bytes, ap, ap₂, refl, ◌∙◌}
use Rattle.seed_words.proofs.Draws.{after_next}
use Rattle.image_record.proofs.Loops.{no_value}
use Rattle.image_gen.specs.Text.{moments_text, domain_text_with}
use Rattle.image_gen.proofs.writing.write_domain.Goals as goal

pub returns-in_err-hex-clause-added : goal.returns-in_err-hex-clause-added
returns-in_err-hex-clause-added c = no_value c.from_residual.result _ c.from_residual.ensures.0

pub returns-in_err-hex-clause-drawn : goal.returns-in_err-hex-clause-drawn
returns-in_err-hex-clause-drawn c = no_value c.from_residual.result _ c.from_residual.ensures.0

pub returns-in_err-moments-clause-added : goal.returns-in_err-moments-clause-added
returns-in_err-moments-clause-added c = no_value c.from_residual-in_err-moments.result _ c.from_residual-in_err-moments.ensures.0

pub returns-in_err-moments-clause-drawn : goal.returns-in_err-moments-clause-drawn
returns-in_err-moments-clause-drawn c = no_value c.from_residual-in_err-moments.result _ c.from_residual-in_err-moments.ensures.0

pub write_with-requires : goal.write_with-requires
write_with-requires c = record { number = c.requires.number }

pub returns-in_err-write_with-clause-added : goal.returns-in_err-write_with-clause-added
returns-in_err-write_with-clause-added c = no_value c.from_residual-in_err-write_with.result _ c.from_residual-in_err-write_with.ensures.0

pub returns-in_err-write_with-clause-drawn : goal.returns-in_err-write_with-clause-drawn
returns-in_err-write_with-clause-drawn c = no_value c.from_residual-in_err-write_with.result _ c.from_residual-in_err-write_with.ensures.0

pub returns-clause-added : goal.returns-clause-added
returns-clause-added c =
    let d = c.args.number in
    let moments = c.as_str.ensures.value ∙ c.in_ok-moments.ensures.text ∙ ap (moments_text d) c.in_ok-hex.ensures.drawn in
    let hex = c.as_str-2.ensures.value ∙ c.in_ok-hex.ensures.text in
    c.in_ok-write_with.ensures.added ∙ ap (λ t. string_bytes c.args.text.now ++ t) (ap₂ (domain_text_with d) moments hex)

pub returns-clause-drawn : goal.returns-clause-drawn
returns-clause-drawn c =
    c.in_ok-moments.ensures.drawn
    ∙ after_next 64 8 72 c.args.words.now c.program_hex.new.words c.in_ok-hex.ensures.drawn refl

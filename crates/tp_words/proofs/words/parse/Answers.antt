use Rattle.std.proofs.Common.{◌≡◌, None, sym, ap, subst, ◌∙◌, inl, inr}
use Rattle.clap.specs.Words.{App, IsAmong, kind_of, fault_of, is_simple, is_simple_and_free, subcommand_of}
use Rattle.tp_words.specs.Words.{command}
use Rattle.tp_words.proofs.WordsLaws.{tp_is_simple, tp_is_free, taken, refused}
use Rattle.tp_words.specs.Words.{words_of}
use Rattle.tp_words.proofs.words.parse.Goals as goal

pub returns-in-Ok-clause-value : goal.returns-in-Ok-clause-value
returns-in-Ok-clause-value c =
    let words = words_of c.args.words.now in
    let app = c.in_ok-command.ensures.app in
    let none = sym (ap (λ (a : App). fault_of a words) app) ∙ c.in-Ok.ensures.kinds (ap is_simple_and_free app ∙ tp_is_free) in
    let sub = (c.in-Ok.ensures.matches (ap is_simple app ∙ tp_is_simple)).1 ∙ ap (λ (a : App). subcommand_of a words) app in
    c.asked-command.ensures.value ∙ taken words _ none sub

pub returns : goal.returns
returns c =
    let words = words_of c.args.words.now in
    let app = c.in_ok-command.ensures.app in
    let none : None ≡ command words = elim (c.in-Err.ensures.kinds (ap is_simple_and_free app ∙ tp_is_free)) [
      | inl memory ↦ absurd (c.in_default.not-OutOfMemory (c.kind.ensures ∙ memory))
      | inr among ↦ refused words _ (subst (λ (a : App). IsAmong (kind_of c.in-Err.error) (fault_of a words)) app among)
    ] in
    record { value = none; range = tt }

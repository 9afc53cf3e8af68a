use Rattle.std.proofs.Common.{ap, ◌∙◌, rules}
use Rattle.clap.specs.Words.{found_of, one_text}
use Rattle.clap.proofs.WalkLemmas.{one_text-rows}
use Rattle.tp_words.specs.Partial.{◌>>=◌}
use Rattle.std.proofs.lemmas.Int.{to_z-of_z}
use Rattle.std.specs.Int.{w64}
use Rattle.tp_words.specs.Words.{up_to, number_written, number_in}
use Rattle.tp_words.proofs.WordsLaws.{given, fits}
use Rattle.tp_words.proofs.words.number_in.Goals as goal

pub returns-in_err-number-clause-value : goal.returns-in_err-number-clause-value
unfolding number_in
returns-in_err-number-clause-value c =
    let found = found_of c.args.found.now in
    let read = given c.args.greatest (one_text found c.args.name.now) c.get_one.result c.get_one.ensures.none c.get_one.ensures.value
    ∙ ap (λ t. t >>= number_written c.args.greatest) (one_text-rows found c.args.name.now) in
    let none = rw c.in_err-number.was at read in
    search (rules, none)

pub returns-clause-value : goal.returns-clause-value
unfolding number_in
returns-clause-value c =
    let found = found_of c.args.found.now in
    let read = given c.args.greatest (one_text found c.args.name.now) c.get_one.result c.get_one.ensures.none c.get_one.ensures.value
    ∙ ap (λ t. t >>= number_written c.args.greatest) (one_text-rows found c.args.name.now) in
    let whole = to_z-of_z w64 c.in_ok-number.number (fits _ _ _ c.get_one.ensures.none c.get_one.ensures.value c.in_ok-number.was) in
    c.up_to.ensures.value ∙ ap (up_to c.args.greatest) whole ∙ rw c.in_ok-number.was at read

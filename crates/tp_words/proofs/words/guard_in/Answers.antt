use Rattle.std.proofs.Common.{codes, ap, ◌∙◌, rules}
use Rattle.clap.specs.Words.{found_of}
use Rattle.clap.proofs.WalkLemmas.{first_value-rows}
use Rattle.guards.specs.Names.{named}
use Rattle.tp_words.specs.Partial.{◌>>=◌}
use Rattle.tp_words.specs.Words.{guard_in}
use Rattle.tp_words.proofs.words.guard_in.Goals as goal

pub returns-in_err-get_str : goal.returns-in_err-get_str
unfolding guard_in
returns-in_err-get_str c =
    let read = c.get_str.ensures ∙ first_value-rows (found_of c.args.found.now) (codes "off") in
    let none = rw c.in_err-get_str.was at read in
    search (rules, none)

pub returns : goal.returns
unfolding guard_in
returns c =
    let read = c.get_str.ensures ∙ first_value-rows (found_of c.args.found.now) (codes "off") in
    let some = rw c.in_ok-get_str.was at read in
    record { value = c.named.ensures.guard ∙ ap (λ t. t >>= named) some }

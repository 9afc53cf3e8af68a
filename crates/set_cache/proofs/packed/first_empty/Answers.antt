use Rattle.std.proofs.Common.{◌≡◌, ◌-◌, ◌<◌, ℕ, true, List, length, get_or, is_some, ap, sym, ◌∙◌, arith}
use Rattle.std.proofs.lemmas.Option.{slice_get_within, get_or_from_slice_get}
use Rattle.set_cache.specs.declared.packed.Entry.{Entry}
use Rattle.set_cache.specs.Packed.{line_in}
use Rattle.set_cache.proofs.Filling.{none_empty, some_where}
use Rattle.set_cache.proofs.packed.first_empty.Goals as goal

pub returns-then-not-is_empty : goal.returns-then-not-is_empty
returns-then-not-is_empty c =
    let entries : List Entry = c.args.entries.now in
    let last : Entry = c.in_ok-last.field-0.now in
    let n : ℕ = length entries - 1 in
    let within : n < length entries = slice_get_within entries n last (sym c.in_ok-last.ensures.value) in
    let read : get_or entries n last ≡ last =
    get_or_from_slice_get entries n last last (sym c.in_ok-last.ensures.value) in
    let kept : is_some (line_in c.args.epoch (get_or entries n last)) ≡ true =
    ap (λ (e : Entry). is_some (line_in c.args.epoch e)) read
    ∙ some_where (line_in c.args.epoch last) c.is_empty.result c.is_empty.ensures.value c.if-not-is_empty.true in
    record { value = sym (none_empty (line_in c.args.epoch) entries last n c.requires.first (omega (arith, within)) kept) }

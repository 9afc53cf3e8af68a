use Rattle.std.proofs.Common.{◌≡◌, ◌<◌, ◌≤◌, length, get_or, None, ap, sym, ◌∙◌, arith, rules}
use Rattle.std.proofs.lemmas.List.{get_or_default}
use Rattle.cap_table.specs.Slots.{Slots, with_cap}
use Rattle.domain_check.specs.declared.capabilities.InitialCap.{InitialCap}
use Rattle.domain_check.specs.declared.capabilities.InitialCap.TheVariants as initial
use Rattle.image_check.specs.Models.{own_model}
use Rattle.image_check.specs.Own.{cap_at}
use Rattle.domain_open.specs.Giving.{line_cap}
use Rattle.domain_open.proofs.SlotLaws.{lines_none, lines_long, lines_empty, lines_more, lines_all}
use Rattle.domain_open.proofs.giving.lines_of.Goals as goal

pub loop-slot-init : goal.loop-slot-init
loop-slot-init c = c.in_ok-caps.ensures.empty ∙ sym (lines_none (own_model c.args.own.now))

pub put_line-requires-clause-places : goal.put_line-requires-clause-places
put_line-requires-clause-places c =
    ap (λ (s : Slots). length s) c.loop-slot.invariant
    ∙ lines_long (own_model c.args.own.now) c.loop-slot.slot

pub put_line-requires-clause-empty : goal.put_line-requires-clause-empty
put_line-requires-clause-empty c =
    let k = c.loop-slot.slot in
    let within : k < length c.args.own.now.caps.items = search rules in
    let few = c.requires.sound.few_caps in
    ap (λ (s : Slots). get_or s k None) c.loop-slot.invariant ∙ lines_empty (own_model c.args.own.now) k (omega (arith, within, few))

pub put_line-requires-clause-line : goal.put_line-requires-clause-line
put_line-requires-clause-line c line e =
    let k = c.loop-slot.slot in
    let items = c.args.own.now.caps.items in
    let q = c.index.result.now in
    let within : k < length items = search rules in
    let is : q ≡ get_or items k q = search rules in
    c.requires.sound.few_lines k line (get_or_default items k initial.None q within ∙ sym is ∙ e)

pub loop-slot-preserved : goal.loop-slot-preserved
loop-slot-preserved c =
    let o = own_model c.args.own.now in
    let k = c.loop-slot.slot in
    let items = c.args.own.now.caps.items in
    let q = c.index.result.now in
    let within : k < length items = search rules in
    let few = c.requires.sound.few_caps in
    let is : q ≡ get_or items k q = search rules in
    let named : q ≡ cap_at o k = is ∙ get_or_default items k q initial.None within in
    c.put_line.ensures.becomes ∙ ap (λ (s : Slots). with_cap s k (line_cap q)) c.loop-slot.invariant
    ∙ ap (λ (x : InitialCap). with_cap (Rattle.domain_open.proofs.SlotLaws.lines_before o k) k (line_cap x))
    named ∙ lines_more o k (omega (arith, within, few))

pub returns : goal.returns
returns c =
    let past : length c.args.own.now.caps.items ≤ c.loop-slot.slot = search rules in
    record { lines = c.loop-slot.invariant ∙ lines_all (own_model c.args.own.now) c.loop-slot.slot past }

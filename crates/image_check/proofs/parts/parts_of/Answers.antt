use Rattle.image_record.specs.Models.{raw_model}
use Rattle.hardware_check.specs.Laws.{KeepsParts}
use Rattle.image_check.proofs.Tested.{colours_refused, shared_refused, own_refused, none_refused}
use Rattle.image_check.proofs.parts.parts_of.Goals as goal

pub returns-in_err-owns-clause-refused : goal.returns-in_err-owns-clause-refused
returns-in_err-owns-clause-refused c =
    let i = raw_model c.args.raw.now in
    let parts : KeepsParts i = record {
      parts = c.in_ok-caches.ensures.verdict;
      frames = c.in_ok-frames.ensures.verdict;
      colours = c.in_ok-colours.ensures.verdict;
      costs = c.in_ok-k6.ensures.verdict;
    } in
    colours_refused i c.from_residual-in_err-owns.result c.in_err-owns.field-0.0
    c.from_residual-in_err-owns.ensures.1 parts c.in_err-owns.ensures.refused

pub returns-in_err-hardware-clause-refused : goal.returns-in_err-hardware-clause-refused
returns-in_err-hardware-clause-refused c =
    let i = raw_model c.args.raw.now in
    let parts : KeepsParts i = record {
      parts = c.in_ok-caches.ensures.verdict;
      frames = c.in_ok-frames.ensures.verdict;
      colours = c.in_ok-colours.ensures.verdict;
      costs = c.in_ok-k6.ensures.verdict;
    } in
    shared_refused i c.from_residual-in_err-hardware.result _ c.from_residual-in_err-hardware.ensures.1 parts
    c.in_ok-owns.ensures.accepted c.in_err-hardware.ensures.verdict

pub returns-in_err-domains-clause-refused : goal.returns-in_err-domains-clause-refused
returns-in_err-domains-clause-refused c =
    let i = raw_model c.args.raw.now in
    let parts : KeepsParts i = record {
      parts = c.in_ok-caches.ensures.verdict;
      frames = c.in_ok-frames.ensures.verdict;
      colours = c.in_ok-colours.ensures.verdict;
      costs = c.in_ok-k6.ensures.verdict;
    } in
    own_refused i c.from_residual-in_err-domains.result c.in_err-domains.field-0.0 c.from_residual-in_err-domains.ensures.1 parts
    c.in_ok-owns.ensures.accepted c.in_ok-hardware.ensures.verdict c.in_err-domains.ensures.refused

pub returns-clause-accepted : goal.returns-clause-accepted
returns-clause-accepted c =
    let i = raw_model c.args.raw.now in
    let parts : KeepsParts i = record {
      parts = c.in_ok-caches.ensures.verdict;
      frames = c.in_ok-frames.ensures.verdict;
      colours = c.in_ok-colours.ensures.verdict;
      costs = c.in_ok-k6.ensures.verdict;
    } in
    none_refused i parts c.in_ok-owns.ensures.accepted c.in_ok-hardware.ensures.verdict c.in_ok-domains.ensures.accepted

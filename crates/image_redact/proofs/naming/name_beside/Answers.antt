use Rattle.std.proofs.Common.{◌≡◌, ◌∙◌, ◌<◌, ◌≤◌, ◌+◌, ℕ, List, length, map, string_bytes, sym, ap, subst, arith}
use Rattle.std.specs.Prelude.{IfOk}
use Rattle.std.proofs.lemmas.List.{length-map}
use Rattle.image_redact.specs.Redacted.{is_taken}
use Rattle.image_redact.proofs.Names.{more_tried, free_tried, all_tried}
use Rattle.image_redact.proofs.naming.name_beside.Goals as goal

pub returns-then-not-is_taken : goal.returns-then-not-is_taken
returns-then-not-is_taken c =
    let taken = map (λ s. string_bytes s) c.args.taken.now in
    let name = c.as_str.ensures.value ∙ c.in_ok-name.ensures.name in
    let free = sym (ap (is_taken taken) name) ∙ sym c.is_taken.ensures.value ∙ c.if-not-is_taken.true in
    let many = length-map c.args.taken.now (λ s. string_bytes s) in
    let less : c.loop.counter < length taken + 1 = omega (arith, c.loop-test.true, many) in
    record {
      name =
          c.in_ok-name.ensures.name
          ∙ free_tried taken c.args.n c.loop.counter c.loop.number less free c.loop.invariant;
    }

pub loop-preserved : goal.loop-preserved
loop-preserved c =
    let taken = map (λ s. string_bytes s) c.args.taken.now in
    let name = c.as_str.ensures.value ∙ c.in_ok-name.ensures.name in
    let is = sym (ap (is_taken taken) name) ∙ sym c.is_taken.ensures.value ∙ c.if-not-is_taken.false in
    let many = length-map c.args.taken.now (λ s. string_bytes s) in
    let less : c.loop.counter < length taken + 1 = omega (arith, c.loop-test.true, many) in
    more_tried taken c.args.n c.loop.counter c.loop.number less is c.loop.invariant

pub returns : goal.returns
returns c =
    let taken = map (λ s. string_bytes s) c.args.taken.now in
    let many = length-map c.args.taken.now (λ s. string_bytes s) in
    let end : length taken + 1 ≤ c.loop.counter = omega (arith, c.loop-test.false, many) in
    let same = all_tried taken c.args.n c.loop.counter c.loop.number end c.loop.invariant in
    record {
      name =
          subst (λ (name : List ℕ). IfOk c.numbered-2.result (λ s. string_bytes s ≡ name)) same c.numbered-2.ensures.name;
    }

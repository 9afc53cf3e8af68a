use Rattle.std.proofs.Common.{◌≡◌, ◌+◌, ◌<◌, ℕ, None, Some, rules, to_z, of_z, w64, length, map, sym, ap, ◌∙◌, arith}
use Rattle.std.specs.List.{position}
use Rattle.image_record.specs.Cases.{first_in}
use Rattle.image_record.specs.Numbers.{is_same}
use Rattle.lend_check.specs.Lending.{lent_by}
use Rattle.lend_check.specs.Parties.{if_child, child_number}
use Rattle.lend_check.specs.Models.{domain_model}
use Rattle.lend_check.proofs.Numbers.{in_list, not_in_list, no_domain_there, place_in_list, less_than_all, number_below}
use Rattle.lend_check.proofs.parties.child_number.Goals as goal

pub returns-in_err-get : goal.returns-in_err-get
returns-in_err-get c =
    record {
      value =
          c.from_residual.ensures
          ∙ sym (no_domain_there domain_model c.args.domains.now c.args.domain c.args.colour c.in_err-get.ensures.lookup.3);
    }

pub returns-in_err-place : goal.returns-in_err-place
returns-in_err-place c =
    let z = to_z w64 (of_z w64 c.args.colour) in
    let same : z ≡ c.args.colour = search rules in
    let domains = c.args.domains.now in
    let d = c.args.domain in
    let x = c.in_ok-get.field-0.now in
    let none : None ≡ position (λ y. is_same y z) c.as_slice.result.now = c.in_err-place.ensures.value in
    let own : first_in (if_child (d, z)) (lent_by d x.lend.items) ≡ None =
    place_in_list d z x.lend.items ∙ ap (position (λ y. is_same y z)) (sym c.as_slice.ensures.value) ∙ sym none in
    let number = not_in_list domain_model domains d x x z c.in_ok-get.ensures.lookup.3.0 c.in_ok-get.ensures.lookup.1 own in
    record {
      value = c.from_residual-in_err-place.ensures ∙ sym (sym (ap (child_number (map domain_model domains) d) same) ∙ number);
    }

pub lent_count-requires : goal.lent_count-requires
lent_count-requires c =
    let domains = c.args.domains.now in
    let x = c.in_ok-get.field-0.now in
    let less =
    less_than_all domain_model domains c.args.domain x x c.in_ok-get.ensures.lookup.3.0 c.in_ok-get.ensures.lookup.1 in
    let few = c.requires.few in
    record { few = omega (arith, less, few) }

-- the number is that of a party
below : (c : goal.After-lent_count) → length c.args.domains.now + c.lent_count.result + c.in_ok-place.place < 32
below c =
    let domains = c.args.domains.now in
    let d = c.args.domain in
    let x = c.in_ok-get.field-0.now in
    let own = ap length c.as_slice.ensures.value in
    let within : c.in_ok-place.place < length x.lend.items = omega (arith, own, c.in_ok-place.ensures.within) in
    let number =
    number_below domain_model domains d x x c.in_ok-place.place c.in_ok-get.ensures.lookup.3.0 c.in_ok-get.ensures.lookup.1
    within c.requires.few in
    omega (arith, number, c.lent_count.ensures.value)

pub overflow_add-number : goal.overflow_add-number
overflow_add-number c = let number = below c in omega (arith, number)

pub overflow_add-number-2 : goal.overflow_add-number-2
overflow_add-number-2 c = let number = below c in omega (arith, number)

pub overflow_cast-number : goal.overflow_cast-number
overflow_cast-number c = let number = below c in omega (arith, number)

pub new-requires : goal.new-requires
new-requires c = record { range = below c }

pub returns : goal.returns
returns c =
    let z = to_z w64 (of_z w64 c.args.colour) in
    let same : z ≡ c.args.colour = search rules in
    let domains = c.args.domains.now in
    let d = c.args.domain in
    let x = c.in_ok-get.field-0.now in
    let k = c.in_ok-place.place in
    let some : Some k ≡ position (λ y. is_same y z) c.as_slice.result.now = c.in_ok-place.ensures.value in
    let own : first_in (if_child (d, z)) (lent_by d x.lend.items) ≡ Some k =
    place_in_list d z x.lend.items ∙ ap (position (λ y. is_same y z)) (sym c.as_slice.ensures.value) ∙ sym some in
    let number = in_list domain_model domains d x x z k c.in_ok-get.ensures.lookup.3.0 c.in_ok-get.ensures.lookup.1 own in
    let count = ap (λ (n : ℕ). Some (length domains + n + k)) c.lent_count.ensures.value in
    record { value = ap Some c.new.ensures.value ∙ count ∙ sym (sym (ap (child_number (map domain_model domains) d) same) ∙ number) }

use Rattle.std.proofs.Common.{◌≡◌, ◌<◌, ◌^◌, true, drop}
use Rattle.std.specs.Char.{is_ascii_digit}
use Rattle.std.specs.List.{list_all}
use Rattle.std.specs.Str.Parse.{digits_value, digits_value_after}
use Rattle.domain_check.proofs.capabilities.value_of.Given as goal

abbrev pub invariant-loop-digit : goal.invariant-loop-digit
invariant-loop-digit l = (digits_value_after 10 l.number (drop l.digit-index l.digits) ≡ digits_value 10 l.digits)
    × (list_all is_ascii_digit (drop l.digit-index l.digits) ≡ true)
    × (l.number < 10 ^ l.digit-index)

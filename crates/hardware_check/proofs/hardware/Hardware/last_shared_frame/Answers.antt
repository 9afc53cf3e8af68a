use Rattle.std.proofs.Common.{◌<◌, ◌≤◌, ◌-◌, ◌*◌, ◌^◌, rules, ap, ap₂, ◌∙◌, arith}
use Rattle.std.proofs.lemmas.Nat.{mul-le}
use Rattle.hardware_check.proofs.hardware.Hardware.last_shared_frame.Goals as goal

pub overflow_mul-result : goal.overflow_mul-result
overflow_mul-result c =
    let n = c.saturating_sub.result in
    let fewer : n ≤ 2 ^ 20 = omega (arith, c.saturating_sub.ensures, c.shared_frames.ensures.few) in
    let product = mul-le n c.colours.result (2 ^ 20) 64 fewer c.colours.ensures.few in
    let small : n * c.colours.result < 2 ^ 32 = omega (arith, product) in
    search (rules, small)

pub returns : goal.returns
returns c = record {
  value =
      ap₂ (λ m n. m * n) (c.saturating_sub.ensures ∙ ap (λ n. n - 1) c.shared_frames.ensures.value)
      c.colours.ensures.value;
}

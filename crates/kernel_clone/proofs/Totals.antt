-- How many touches there are where nothing was done beside the operation's own work.
use Rattle.std.proofs.Common.{◌≡◌, Bool, true, false, length, ap, arith}
use Rattle.std.specs.Prelude.{if◌then◌else◌}
use Rattle.kernel_clone.specs.Footprints.{Layout, WorkDone, touches, data_count, is_of_switch}
use Rattle.kernel_clone.specs.Laws.{shared_count, zeroed_count, IsPlain}
use Rattle.kernel_clone.proofs.Items.{length-touches}

pub plain_count : (l : Layout) (w : WorkDone) → IsPlain w → is_of_switch w.op ≡ false
    → length (touches l w) ≡ 9
plain_count l w plain call =
    let whole = length-touches l w in
    let stored : data_count w.op ≡ 2 = ap (λ (b : Bool). if b then 1 else 2) call in
    let loaded : shared_count w.op ≡ 1 = ap (λ (b : Bool). if b then 0 else 1) call in
    let zeroed : zeroed_count l w.zeroed ≡ 0 = ap (zeroed_count l) plain.zeroed in
    let entries : length w.entries ≡ 0 = ap length plain.entries in
    omega (arith, whole, stored, loaded, zeroed, entries)

pub switch_count : (l : Layout) (w : WorkDone) → IsPlain w → is_of_switch w.op ≡ true
    → length (touches l w) ≡ 7
switch_count l w plain switch =
    let whole = length-touches l w in
    let stored : data_count w.op ≡ 1 = ap (λ (b : Bool). if b then 1 else 2) switch in
    let loaded : shared_count w.op ≡ 0 = ap (λ (b : Bool). if b then 0 else 1) switch in
    let zeroed : zeroed_count l w.zeroed ≡ 0 = ap (zeroed_count l) plain.zeroed in
    let entries : length w.entries ≡ 0 = ap length plain.entries in
    omega (arith, whole, stored, loaded, zeroed, entries)

use Rattle.std.proofs.Common.{rules, ◌≡◌, ◌<◌, ◌≤◌, ◌%◌, ℕ, ap, ◌∙◌, refl, List, ◌∷◌, ◌++◌, [], length, bit_and}
use Rattle.std.proofs.lemmas.Nat.{and_mask}
use Rattle.kernel_clone.specs.Models.{work_model}
use Rattle.kernel_call.specs.declared.error.CallError.TheVariants as error
use Rattle.kernel_call.specs.Models.{dom_model}
use Rattle.kernel_call.proofs.Ties.{ends_same, ends_done, has_still}
use Rattle.kernel_call.proofs.TiesTables.{tells_nothing}
use Rattle.kernel_call.proofs.TiesSlots.{put_full, put_done}
use Rattle.kernel_call.proofs.calls.put_byte.Goals as goal

pub returns-then-len-ge-PRINTED-clause-does : goal.returns-then-len-ge-PRINTED-clause-does
returns-then-len-ge-PRINTED-clause-does c work fresh e readings replies m h =
    let above : 4096 ≤ length c.args.domain.now.printed.items = search rules in
    ends_same 1 e c.args.domain.now c.args.memory.now m readings replies error.OutputFull _ h
    (put_full (dom_model c.args.domain.now readings replies) m c.args.a above)

pub returns-clause-does : goal.returns-clause-does
returns-clause-does c work fresh e readings replies m h =
    let below : length c.args.domain.now.printed.items < 4096 = search rules in
    let pushed : c.push.new.self.items ≡ c.args.domain.now.printed.items ++ bit_and c.args.a 255 ∷ [] = search rules in
    let byte : bit_and c.args.a 255 ≡ c.args.a % 256 = and_mask c.args.a 8 in
    let printed : c.push.new.self.items ≡ c.args.domain.now.printed.items ++ c.args.a % 256 ∷ [] =
    pushed ∙ ap (λ (n : ℕ). c.args.domain.now.printed.items ++ n ∷ []) byte in
    ends_done 1 e c.args.domain.now _ c.args.memory.now readings replies _ [] m
    (let d = dom_model c.args.domain.now readings replies in record d { printed = d.printed ++ c.args.a % 256 ∷ [] }) _
    (put_done (dom_model c.args.domain.now readings replies) m c.args.a below)
    (ap (λ (bytes : List ℕ). let d = dom_model c.args.domain.now readings replies in record d { printed = bytes }) printed)
    h.holds
    (tells_nothing 1 (work_model work) refl fresh)
    (has_still e c.args.domain.now _ h.has refl refl refl refl refl)

-- Who doesn't lead back, in two boxes in a row.
use Rattle.std.proofs.Common.{◌≡◌, ℕ, zero, suc, Option, Some, None, ap, subst}
use Rattle.std.specs.Prelude.{slice_get}
use Rattle.image_check.specs.Image.{Image}
use Rattle.world_view.specs.MailLaws.{LeadsBy}
use Rattle.world_view.specs.MailExample.{in_a_row, NoneBackRow}

-- to whom a box leads
receiver : Option (ℕ × ℕ) → ℕ
receiver None = 1
receiver (Some box) = box.1

no_box_to_0 : (i : Image) (a e : ℕ) → slice_get (in_a_row i).all.mail a ≡ Some (e, 0) → ⊥
unfolding receiver
no_box_to_0 i zero e is = cc (ap receiver is)
no_box_to_0 i (suc zero) e is = cc (ap receiver is)
no_box_to_0 i (suc (suc a)) e is = cc (ap receiver is)

by_none : (i : Image) (n e : ℕ) → LeadsBy (in_a_row i) 0 n e → e ≡ 0
unfolding LeadsBy
by_none i zero e by = by
by_none i (suc n) e by =
    let next = by_none i n by.1 by.3 in
    absurd (no_box_to_0 i by.0 e
    (subst (λ (f : ℕ). slice_get (in_a_row i).all.mail by.0 ≡ Some (e, f)) next by.2))

pub none_back : NoneBackRow
none_back i e leads = by_none i leads.0 e leads.1

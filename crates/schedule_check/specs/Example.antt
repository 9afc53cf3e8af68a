-- Boxes among two domains, and the first broken case of their rule.
use Rattle.std.specs.Prelude.{◌≡◌, ℕ, ℤ, pos, negsuc, List, [], ◌∷◌, replicate, Option, Some, None, refl}
use Rattle.image_record.specs.declared.refusal.Refusal.{Refusal}
use Rattle.image_record.specs.Record.{RawMailbox}
use Rattle.image_record.specs.Cases.{refusal}
use Rattle.schedule_check.specs.Mail.{k20_end, k20_apart, k20_once, k20_box, k20_mail}

abbrev pub box : ℤ → ℤ → RawMailbox
box from to = record { from = from; to = to }

-- the rule of these boxes
abbrev pub told : List RawMailbox → Option Refusal
told mail = k20_mail 2 mail

abbrev pub refused : ℕ → ℤ → ℕ → Option Refusal
refused at found wanted = Some (refusal 20 (pos at) found (pos wanted))

pub none : told [] ≡ None
unfolding k20_mail
none = refl

pub there_and_back : told (box (pos 0) (pos 1) ∷ box (pos 1) (pos 0) ∷ []) ≡ None
unfolding k20_mail k20_box k20_end k20_apart k20_once
there_and_back = refl

-- ---- how many there are

pub too_many : told (replicate 65 (box (pos 0) (pos 1))) ≡ refused 0 (pos 65) 1
unfolding k20_mail
too_many = refl

pub not_too_many : told (replicate 64 (box (pos 0) (pos 1))) ≡ refused 1 (pos 0) 4
unfolding k20_mail k20_box k20_end k20_apart k20_once
not_too_many = refl

-- ---- the ends of the second box

pub from_nobody : told (box (pos 0) (pos 1) ∷ box (pos 2) (pos 0) ∷ []) ≡ refused 1 (pos 2) 2
unfolding k20_mail k20_box k20_end k20_apart k20_once
from_nobody = refl

pub to_nobody : told (box (pos 0) (pos 1) ∷ box (pos 0) (negsuc 0) ∷ []) ≡ refused 1 (negsuc 0) 2
unfolding k20_mail k20_box k20_end k20_apart k20_once
to_nobody = refl

-- the first end comes first
pub between_nobody : told (box (pos 0) (pos 1) ∷ box (pos 5) (pos 6) ∷ []) ≡ refused 1 (pos 5) 2
unfolding k20_mail k20_box k20_end k20_apart k20_once
between_nobody = refl

pub to_itself : told (box (pos 0) (pos 1) ∷ box (pos 1) (pos 1) ∷ []) ≡ refused 1 (pos 1) 3
unfolding k20_mail k20_box k20_end k20_apart k20_once
to_itself = refl

-- who is no domain is told before that both ends are one
pub nobody_to_itself : told (box (pos 0) (pos 1) ∷ box (pos 2) (pos 2) ∷ []) ≡ refused 1 (pos 2) 2
unfolding k20_mail k20_box k20_end k20_apart k20_once
nobody_to_itself = refl

-- ---- two that are alike

pub again : told (box (pos 0) (pos 1) ∷ box (pos 1) (pos 0) ∷ box (pos 1) (pos 0) ∷ []) ≡ refused 2 (pos 1) 4
unfolding k20_mail k20_box k20_end k20_apart k20_once
again = refl

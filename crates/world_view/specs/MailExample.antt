-- Two boxes, from domain 0 to domain 1 and from 1 to 2: who leads to whom.
use Rattle.std.specs.Prelude.{◌≡◌, ℕ, List, [], ◌∷◌, refl}
use Rattle.image_check.specs.Image.{Image}
use Rattle.world_view.specs.MailLaws.{LeadsBy, Leads}

-- an image with these boxes, whatever else it has
abbrev pub with_boxes : Image → List (ℕ × ℕ) → Image
with_boxes i mail = record i { all = record i.all { mail = mail } }

abbrev pub in_a_row : Image → Image
in_a_row i = with_boxes i ((0, 1) ∷ (1, 2) ∷ [])

-- ---- each leads to itself, by no box

pub itself : (i : Image) → LeadsBy (in_a_row i) 1 0 1
unfolding LeadsBy
itself i = refl

-- ---- with the boxes, from sender to receiver

pub to_1 : (i : Image) → LeadsBy (in_a_row i) 1 1 0
unfolding LeadsBy
to_1 i = (0, 1, refl, refl)

pub to_2 : (i : Image) → LeadsBy (in_a_row i) 2 1 1
unfolding LeadsBy
to_2 i = (1, 2, refl, refl)

-- a chain of both
pub to_2_by_both : (i : Image) → LeadsBy (in_a_row i) 2 2 0
unfolding LeadsBy
to_2_by_both i = (0, 1, refl, (1, 2, refl, refl))

-- ---- and not back

-- to 0 none leads but itself, by whatever chain: so 0 is seen the same whatever 1 and 2 are
abbrev pub NoneBackRow : Type 0
NoneBackRow = (i : Image) (e : ℕ) → Leads (in_a_row i) 0 e → e ≡ 0

-- ---- where a box leads back, so does the chain

pub and_back : (i : Image) → LeadsBy (with_boxes i ((0, 1) ∷ (1, 0) ∷ [])) 0 2 0
unfolding LeadsBy
and_back i = (0, 1, refl, (1, 0, refl, refl))

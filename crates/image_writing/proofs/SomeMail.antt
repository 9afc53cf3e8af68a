-- Whether an image has boxes, as the code asks it.
use Rattle.std.proofs.Common.{◌≡◌, ◌==◌, true, false, List, [], ◌∷◌, length, map, Some, None, refl, sym, ◌∙◌, arith, true≢false}
use Rattle.std.proofs.lemmas.Bool.Decides.{nat_tests}
use Rattle.image_record.specs.declared.raw.RawMailbox.{RawMailbox}
use Rattle.image_record.specs.Parts.{mailbox_model}
use Rattle.image_writing.specs.Data.{some_mail}

pub no_mail : (bs : List RawMailbox) → (length bs == 0) ≡ true → some_mail (map mailbox_model bs) ≡ None
no_mail [] h = refl
no_mail (b ∷ bs) h =
    let some : (length (b ∷ bs) == 0) ≡ false = grind (arith, nat_tests) in
    absurd (true≢false (sym h ∙ some))

pub has_mail : (bs : List RawMailbox) → (length bs == 0) ≡ false
    → some_mail (map mailbox_model bs) ≡ Some (map mailbox_model bs)
has_mail [] h = absurd (true≢false h)
has_mail (b ∷ bs) h = refl

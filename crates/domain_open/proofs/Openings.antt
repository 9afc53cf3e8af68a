-- Domains at their entries, one after the other.
use Rattle.std.proofs.Common.{◌≡◌, ℕ, ◌+◌, ◌<◌, List, [], ◌∷◌, ◌++◌, length, get_or, drop, ap, refl, sym, subst, ◌∙◌, arith}
use Rattle.std.proofs.lemmas.List.{length-append, get_or-drop, get_or-map}
use Rattle.frame_colours.specs.Colours.{Share}
use Rattle.hardware_check.specs.Hardware.{Hardware}
use Rattle.image_check.specs.Own.{Own, own_at, no_own}
use Rattle.image_check.specs.Pages.{share_of}
use Rattle.image_check.specs.Image.{Image, own_of}
use Rattle.kernel_call.specs.declared.domain.Domain.{Domain}
use Rattle.domain_open.specs.Placing.{IsOpened, AreOpened, all_shares}
use Rattle.domain_open.proofs.Elements.{each_push}

pub opened_none : (p : Hardware) (owns : List Own) → AreOpened p owns 0 []
opened_none p owns = record { all = refl; each = λ d x got. cc }

pub opened_more : (p : Hardware) (domains : List Domain) (owns : List Own) (n : ℕ) (x : Domain)
    → AreOpened p owns n domains
    → IsOpened p (own_at owns n) x → AreOpened p owns (n + 1) (domains ++ x ∷ [])
opened_more p domains owns n x old new =
    record {
      all = omega (arith, old.all, length-append domains (x ∷ []));
      each = each_push (λ j y. IsOpened p (own_at owns j) y) (λ j y. IsOpened p (own_at owns j) y) domains x
          (subst (λ (j : ℕ). IsOpened p (own_at owns j) x) (sym old.all) new) (λ j y h s. s) old.each;
    }

the_same : (d : ℕ) → d + 0 ≡ d
the_same d = omega arith

-- the first of the shares that are left is the next domain's
pub first_share : (i : Image) (d : ℕ) (left : List Share) (s : Share) → d < length i.owns
    → left ≡ drop d (all_shares i) → s ≡ get_or left 0 s
    → s ≡ share_of i.all.hardware (own_of i d)
first_share i d left s below is first =
    first ∙ ap (λ (ss : List Share). get_or ss 0 s) is ∙ get_or-drop d (all_shares i) 0 s
    ∙ ap (λ (k : ℕ). get_or (all_shares i) k s) (the_same d) ∙ get_or-map (share_of i.all.hardware) i.owns d no_own s below

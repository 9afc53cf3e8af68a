-- What a touch of the cache leaves of a second level: its invariant, and the sets of other colours.
use Rattle.std.proofs.Common.{◌≡◌, ◌≢◌, ℕ, List, false, length, ap, sym, subst, ◌∙◌}
use Rattle.set_cache.specs.Rule.{Rule}
use Rattle.set_cache.specs.Contents.{Contents, kept_at}
use Rattle.set_cache.specs.Lines.{mark_in}
use Rattle.set_cache.specs.Calls.{IsTouch}
use Rattle.set_cache.specs.declared.Touch.{Touch}
use Rattle.set_cache.proofs.Ways.{marks_clean, no_dirty_victim}
use Rattle.l2_colour.specs.Colours.{IsColoured, colours_of, colour_of_set, colour_of_line}
use Rattle.l2_colour.specs.Contents.{L2Contents, IsL2}
use Rattle.l2_colour.proofs.Rows.{line_in_colour}

module _ {P : Type 0} (takes : P → ℕ → Type 0) (rule : P → ℕ → Rule) (stands : P → ℕ → ℕ → List ℕ → Type 0)
    (bits colours : ℕ) (l2 : L2Contents P) (is : IsL2 bits colours l2)
    (answer : Touch) (line : ℕ) (new : Contents P) (touch : IsTouch takes rule stands answer line false l2.cache new) where
  pub after_touch : IsL2 bits colours (record { line_size = l2.line_size; back = l2.back; cache = new })
  after_touch =
      let same = sym touch.shape.same_sets in
      record {
        least = is.least;
        power = is.power;
        few_bits = is.few_bits;
        coloured = subst (λ (n : ℕ). IsColoured l2.line_size n) same is.coloured;
        counted = is.counted ∙ ap (colours_of l2.line_size) same;
        clean = λ past. marks_clean answer line (mark_in l2.cache) (mark_in new) touch.marks (is.clean past);
      }

  pub others_stay : (s : ℕ)
      → colour_of_set l2.line_size s ≢ colour_of_line l2.line_size (length l2.cache.table) line
      → kept_at new.table s ≡ kept_at l2.cache.table s
  others_stay s apart =
      touch.other_sets s (λ e.
      apart (ap (colour_of_set l2.line_size) e ∙ line_in_colour l2.line_size (length l2.cache.table) line is.coloured))

  pub clean_victim : l2.back ≡ false → answer.dirty_victim ≡ false
  clean_victim past = no_dirty_victim answer line false (mark_in l2.cache) (mark_in new) touch.marks (is.clean past)

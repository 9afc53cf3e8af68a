-- What a second level keeps.
use Rattle.std.specs.Prelude.{◌≡◌, ℕ, ◌^◌, ◌<◌, ◌≤◌, Bool, false, length, refl}
use Rattle.std.specs.Coded.{Coded, code_by, coded×, coded_ℕ, coded_bool}
use Rattle.set_cache.specs.Contents.{Contents, coded_contents}
use Rattle.set_cache.specs.Lines.{IsClean}
use Rattle.l2_colour.specs.Colours.{IsColoured, colours_of}

-- the bytes of a line, whether lines are written back into it, and the cache
pub record L2Contents (P : Type 0) : Type 0 where
  pub line_size : ℕ
  pub back : Bool
  pub cache : Contents P

abbrev pub coded_l2 : {P : Type 0} → Coded P → Coded (L2Contents P)
coded_l2 {P} p =
    code_by (ℕ × (Bool × Contents P)) (coded× coded_ℕ (coded× coded_bool (coded_contents p)))
    (λ c. (c.line_size, (c.back, c.cache)))
    (λ t. record { line_size = t.0; back = t.1.0; cache = t.1.1 })
    (λ _. refl)

-- what is true of every second level whose lines have 2 to these bits of bytes, and which has this many colours
pub record IsL2 {P : Type 0} (line_bits colours : ℕ) (l2 : L2Contents P) : Type 0 where
  pub least : 16 ≤ l2.line_size
  pub power : l2.line_size ≡ 2 ^ line_bits
  pub few_bits : line_bits < 32
  pub coloured : IsColoured l2.line_size (length l2.cache.table)
  pub counted : colours ≡ colours_of l2.line_size (length l2.cache.table)
  pub clean : l2.back ≡ false → IsClean l2.cache

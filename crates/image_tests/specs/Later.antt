-- Row 26 beside rows of later keys of any kind: a table in a place where none is wanted is looked into.
use Rattle.std.specs.Prelude.{◌≡◌, ℕ, Bool, true, false, List, [], ◌∷◌, map, codes, Option, Some, option_map}
use Rattle.toml.specs.Parse.{parse_document}
use Rattle.image_text.specs.declared.kinds.Place.TheVariants.{Top}
use Rattle.image_text.specs.declared.kinds.Simple.TheVariants.{Integer, Table}
use Rattle.image_text.specs.Rows.{Row, One, Array, Fields, integer, may_have}
use Rattle.image_text.specs.Unknown.{all_known}

abbrev pub later : List Row
later =
    may_have 27 Top (codes "number") (One Integer)
    ∷ may_have 28 Top (codes "tables") (Array Table)
    ∷ may_have 29 Top (codes "fields") (Fields (integer (codes "times") ∷ []))
    ∷ []

-- a text, and whether all its keys are known
abbrev pub texts : List (List ℕ × Bool)
texts =
    (codes "", true)
    ∷ (codes "number = 1", true)
    ∷ (codes "other = 1", false)
    ∷ (codes "number = {}", true)
    ∷ (codes "number = { x = 1 }", false)
    ∷ (codes "number = [1, [[{ x = 1 }]]]", false)
    ∷ (codes "number = [1, [[{}]]]", true)
    ∷ (codes "tables = [{ x = 1 }]", true)
    ∷ (codes "tables = { x = 1 }", false)
    ∷ (codes "tables = [{ x = 1 }, [{ x = 1 }]]", false)
    ∷ (codes "fields = { times = 1 }", true)
    ∷ (codes "fields = { times = { x = 1 } }", false)
    ∷ (codes "fields = [{ times = 1 }]", false)
    ∷ []

-- None where the text is no table
abbrev pub are_known : List ℕ → Option Bool
are_known text = option_map (all_known 1 later) (parse_document text)

abbrev pub KeysAnywhere : Type 0
KeysAnywhere = map (λ t. are_known t.0) texts ≡ map (λ t. Some t.1) texts

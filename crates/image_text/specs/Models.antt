-- How contracts see the code's rows.
use Rattle.std.specs.Prelude.{map}
use Rattle.image_text.specs.Rows as spec
use Rattle.image_text.specs.declared.rows.Row.{Row}
use Rattle.image_text.specs.declared.rows.Broken.{Broken}
use Rattle.image_text.specs.declared.kinds.Field.{Field}
use Rattle.image_text.specs.declared.kinds.Kind.{Kind}
use Rattle.image_text.specs.declared.kinds.Kind.TheVariants.{One, Array, SomeTables, Pairs, Fields}

abbrev pub field_model : Field → spec.Field
field_model f = record { key = f.key.now; simple = f.simple }

abbrev pub kind_model : Kind → spec.Kind
kind_model (One simple) = spec.One simple
kind_model (Array simple) = spec.Array simple
kind_model (SomeTables most) = spec.SomeTables most
kind_model Pairs = spec.Pairs
kind_model (Fields fields) = spec.Fields (map field_model fields.now)

abbrev pub row_model : Row → spec.Row
row_model r = record {
  number = r.number;
  since = r.since;
  place = r.place;
  needed = r.needed;
  key = r.key.now;
  kind = kind_model r.kind;
}

abbrev pub broken_model : Broken → spec.Broken
broken_model b = record { row = b.row; found = b.found }

-- Which shape the payload of a source's lines has.
use Rattle.std.specs.Prelude.{◌≡◌, List}
use Rattle.cedr_base.specs.declared.field.FieldType.{FieldType}
use Rattle.cedr_text.specs.declared.event_line.Shape.{Shape}
use Rattle.cedr_text.specs.declared.event_line.Shape.TheVariants.{AnyText, Fields}

-- the fields of a source have these types
abbrev pub ShapeHasTypes : Shape → List FieldType → Type 0
ShapeHasTypes AnyText types = ⊥
ShapeHasTypes (Fields fields) types = fields.items ≡ types

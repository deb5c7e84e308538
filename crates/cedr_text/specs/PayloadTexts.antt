-- The fields of a payload, however it stands.
use Rattle.std.specs.Prelude.{List}
use Rattle.cedr_base.specs.declared.field.Field.{Field}
use Rattle.cedr_text.specs.declared.payload_text.PayloadKind.{PayloadKind}
use Rattle.cedr_text.specs.declared.payload_text.PayloadKind.TheVariants.{Bare, Read}

-- the fields of a payload, whether it stands in a line or was read from one
abbrev pub fields_in : PayloadKind → List Field
fields_in (Bare fields) = fields
fields_in (Read fields) = fields.value

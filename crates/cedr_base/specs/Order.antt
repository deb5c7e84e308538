-- How texts, fields and payloads compare.
use Rattle.std.specs.Prelude.{ℕ, List}
use Rattle.std.specs.declared.cmp.Ordering.{Ordering}
use Rattle.std.specs.declared.cmp.Ordering.TheVariants.{Less, Greater}
use Rattle.std.specs.Ordering.{nat_cmp, int_cmp}
use Rattle.std.specs.Cmp.Lexicographic.{slice_cmp}
use Rattle.cedr_base.specs.declared.field.Field.{Field}
use Rattle.cedr_base.specs.declared.field.Field.TheVariants.{Number, Bytes}

-- texts compare byte by byte, and a prefix comes first
abbrev pub text_cmp : List ℕ → List ℕ → Ordering
text_cmp = slice_cmp nat_cmp

-- numbers come before texts
abbrev pub field_cmp : Field → Field → Ordering
field_cmp (Number m) (Number n) = int_cmp m n
field_cmp (Number m) (Bytes t) = Less
field_cmp (Bytes s) (Number n) = Greater
field_cmp (Bytes s) (Bytes t) = text_cmp s t

-- payloads compare field by field, and a prefix comes first
abbrev pub payload_cmp : List Field → List Field → Ordering
payload_cmp = slice_cmp field_cmp

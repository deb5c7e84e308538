-- Rows of ports of which those that may pass tests together have a field in common.
use Rattle.std.specs.Prelude.{ℕ, ◌≡◌, ◌<◌, ◌+◌, zero, suc, List, [], length, true, Option, Some, None, nat_eq, if◌then◌else◌}
use Rattle.std.specs.List.{slice_get}
use Rattle.cedr_base.specs.declared.field.Field.{Field}
use Rattle.cedr_base.specs.declared.row.Row.{Row}
use Rattle.cedr_base.specs.Rows.{count_of}
use Rattle.cedr_expr.specs.declared.test.Test.{Test}
use Rattle.cedr_expr.specs.Tests.{passes, test_holds}
use Rattle.cedr_expr.specs.Tags.{field_tag}

-- a test holds for each joined payload that passes these tests
abbrev pub IsWanted : List Test → Test → Type 0
IsWanted tests test = (joined : List Field) → passes tests joined [] ≡ true → test_holds test joined [] ≡ true

-- each joined payload that passes the tests has the same field in two columns, or in both of them none
abbrev pub AreEqual : List Test → ℕ → ℕ → Type 0
AreEqual tests one other = (joined : List Field) → passes tests joined [] ≡ true → slice_get joined one ≡ slice_get joined other

-- the same of a column and of so many others, each a width after the one before it
abbrev pub AreAllEqual : List Test → ℕ → ℕ → ℕ → ℕ → Type 0
AreAllEqual tests column width at zero = Unit {0}
AreAllEqual tests column width at (suc count) = AreEqual tests column at × AreAllEqual tests column width (at + width) count

-- A column of payloads of a width has the same field in so many of them whose joined payload passes the tests. There may be
-- no such column.
abbrev pub IsKey : List Test → ℕ → ℕ → Option ℕ → Type 0
IsKey tests number width None = Unit {0}
IsKey tests number width (Some column) = (column < width) × AreAllEqual tests column width column number

-- the tag of a field that may not be there
abbrev pub tag_of_field : Option Field → ℕ
tag_of_field None = 1
tag_of_field (Some field) = field_tag field

-- the tag of a payload's field in a column, and 1 where there is no column
abbrev pub column_tag : Option ℕ → List Field → ℕ
column_tag None payload = 1
column_tag (Some column) payload = tag_of_field (slice_get payload column)

-- the tag of a payload of a width, and 0 where it has another one
abbrev pub key_tag : ℕ → Option ℕ → List Field → ℕ
key_tag width column payload = if nat_eq (length payload) width then column_tag column payload else 0

-- no row has a tag
abbrev pub LackTag : ℕ → List Row → Type 0
LackTag tag tags = (r : Row) → 0 < count_of r tags → r.end ≡ tag → ⊥

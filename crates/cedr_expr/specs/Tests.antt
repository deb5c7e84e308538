-- When a pair of payloads passes tests.
use Rattle.std.specs.Prelude.{ℕ, ◌+◌, Bool, true, false, not, ◌&&◌, ◌||◌, nat_lt, List, length, Option, Some}
use Rattle.std.specs.List.{list_all}
use Rattle.std.specs.declared.cmp.Ordering.{Ordering}
use Rattle.std.specs.Ordering.{is_eq, is_ne, is_lt, is_le, is_gt, is_ge, int_cmp}
use Rattle.cedr_base.specs.declared.field.Field.{Field}
use Rattle.cedr_base.specs.declared.field.Field.TheVariants.{Number, Bytes}
use Rattle.cedr_base.specs.Order.{text_cmp}
use Rattle.cedr_expr.specs.declared.test.Op.{Op}
use Rattle.cedr_expr.specs.declared.test.Op.TheVariants.{Eq, Ne, Lt, Le, Gt, Ge}
use Rattle.cedr_expr.specs.declared.test.Operand.{Operand}
use Rattle.cedr_expr.specs.declared.test.Operand.TheVariants as operand
use Rattle.cedr_expr.specs.declared.test.Test.{Test}
use Rattle.cedr_expr.specs.Columns.{column}

-- sides that compare so pass
abbrev pub accepts : Op → Ordering → Bool
accepts Eq order = is_eq order
accepts Ne order = is_ne order
accepts Lt order = is_lt order
accepts Le order = is_le order
accepts Gt order = is_gt order
accepts Ge order = is_ge order

-- numbers compare by value and texts by their bytes, and fields of two types never pass
abbrev pub compares : Field → Op → Field → Bool
compares (Number m) op (Number n) = accepts op (int_cmp m n)
compares (Bytes s) op (Bytes t) = accepts op (text_cmp s t)
compares a op b = false

-- the right side of a test: a column, where it is there, or a constant
abbrev pub operand_value : Operand → List Field → List Field → Option Field
operand_value (operand.Column place) left right = column left right place
operand_value (operand.Number n) left right = Some (Number n)
operand_value (operand.Bytes text) left right = Some (Bytes text)

-- both sides are there, and compare as the test says
abbrev pub both_pass : Op → Option Field → Option Field → Bool
both_pass op (Some a) (Some b) = compares a op b
both_pass op a b = false

-- a test holds for a left and a right payload
abbrev pub test_holds : Test → List Field → List Field → Bool
test_holds test left right = both_pass test.op (column left right test.left) (operand_value test.right left right)

-- every test holds
abbrev pub passes : List Test → List Field → List Field → Bool
passes tests left right = list_all (λ test. test_holds test left right) tests

-- the right side of a test is one of the first columns, of which there are so many, or a constant
abbrev pub operand_within : ℕ → Operand → Bool
operand_within columns (operand.Column place) = nat_lt place columns
operand_within columns (operand.Number n) = true
operand_within columns (operand.Bytes text) = true

-- so are both sides of a test
abbrev pub is_within : ℕ → Test → Bool
is_within columns test = nat_lt test.left columns && operand_within columns test.right

-- every test holds whose columns the two payloads have: more columns may come after them
abbrev pub may_pass : List Test → List Field → List Field → Bool
may_pass tests left right = list_all (λ test. not (is_within (length left + length right) test) || test_holds test left right) tests

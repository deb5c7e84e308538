-- Tests in a plan: arrays of a column, a comparison and a right side.
use Rattle.std.specs.Prelude.{ℕ, Bool, false, not, ◌&&◌, ◌||◌, List, [], ◌∷◌, codes, bytes_eq, if◌then◌else◌, ℤ, Option, Some, None, is_some, option_map, option_and_then}
use Rattle.std.specs.Option.{option_map_or}
use Rattle.cedr_expr.specs.declared.test.Op.{Op}
use Rattle.cedr_expr.specs.declared.test.Op.TheVariants as op
use Rattle.cedr_expr.specs.declared.test.Operand.{Operand}
use Rattle.cedr_expr.specs.declared.test.Operand.TheVariants as operand
use Rattle.cedr_expr.specs.declared.test.Test.{Test}
use Rattle.serde_json.specs.Data.{Data}
use Rattle.serde_json.specs.Find.{get, as_str, as_number, as_i64}
use Rattle.cedr_plan.specs.Json.{as_list, as_whole, is_number, is_text, has}

-- the comparison of a word
abbrev pub op_of : List ℕ → Option Op
op_of word = if bytes_eq word (codes "=") then Some op.Eq
    else if bytes_eq word (codes "!=") then Some op.Ne
    else if bytes_eq word (codes "<") then Some op.Lt
    else if bytes_eq word (codes "<=") then Some op.Le
    else if bytes_eq word (codes ">") then Some op.Gt
    else if bytes_eq word (codes ">=") then Some op.Ge
    else None

-- the comparison that a value names
abbrev pub as_op : Data → Option Op
as_op d = option_and_then op_of (as_str d)

-- a whole number of 64 bits with a sign
abbrev pub as_signed : Data → Option ℤ
as_signed d = option_and_then as_i64 (as_number d)

-- a right side has the member `column`, `int` or `text`, and the first of these that is there counts
abbrev pub is_side : Data → Bool
is_side d = if is_some (get (codes "column") d) then has (codes "column") is_number d
    else if is_some (get (codes "int") d) then has (codes "int") is_number d
    else has (codes "text") is_text d

-- the number of a right side is none that it may be
abbrev pub is_bad_side : Data → Bool
is_bad_side d = if is_some (get (codes "column") d) then has (codes "column") (λ column. not (is_some (as_whole column))) d
    else has (codes "int") (λ number. not (is_some (as_signed number))) d

-- the right side that a value is, if it is one
abbrev pub side_of : Data → Option Operand
side_of d = if is_some (get (codes "column") d) then option_map operand.Column (option_and_then as_whole (get (codes "column") d))
    else if is_some (get (codes "int") d) then option_map operand.Number (option_and_then as_signed (get (codes "int") d))
    else option_map operand.Bytes (option_and_then as_str (get (codes "text") d))

-- three values that are a test
abbrev pub are_test : List Data → Bool
are_test (left ∷ op ∷ right ∷ []) = is_number left && is_some (as_op op) && is_side right
are_test values = false

-- the value has a test's form: an array of three such values
abbrev pub is_test : Data → Bool
is_test d = option_map_or are_test (as_list d) false

-- a column of the test isn't whole or is below 0, or its number isn't whole or isn't of 64 bits
abbrev pub have_bad_number : List Data → Bool
have_bad_number (left ∷ op ∷ right ∷ []) = not (is_some (as_whole left)) || is_bad_side right
have_bad_number values = false

-- the value is a test with such a number
abbrev pub is_bad_test : Data → Bool
is_bad_test d = option_map_or have_bad_number (as_list d) false

-- the test of these parts, where all three are there
abbrev pub test_from : Option ℕ → Option Op → Option Operand → Option Test
test_from (Some left) (Some op) (Some right) = Some (record { left = left; op = op; right = right })
test_from left op right = None

-- the test that three values are
abbrev pub test_of_values : List Data → Option Test
test_of_values (left ∷ op ∷ right ∷ []) = test_from (as_whole left) (as_op op) (side_of right)
test_of_values values = None

-- the test that a value is, if it is one
abbrev pub test_of : Data → Option Test
test_of d = option_and_then test_of_values (as_list d)

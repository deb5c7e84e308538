-- What one node of a plan has to be after earlier ones: a predicate for each fault, the first fault, and the
-- node that an accepted one is.
--
-- Each predicate has an answer for every value. Where an earlier fault holds too, that one counts.
use Rattle.std.specs.Prelude.{ℕ, ◌+◌, ◌^◌, ◌==◌, Bool, true, false, not, ◌&&◌, ◌||◌, List, [], ◌∷◌, ◌++◌, length, map, codes, nat_lt, nat_le, bytes_eq, if◌then◌else◌, Option, Some, None, is_some, is_none, option_and_then, unwrap_or, replicate}
use Rattle.std.specs.Option.{option_map_or}
use Rattle.std.specs.Char.{is_ascii_alphanumeric}
use Rattle.std.specs.List.{slice_get, list_all, list_any, filter_map, flat_map, position}
use Rattle.cedr_base.specs.declared.field.FieldType.{FieldType}
use Rattle.cedr_base.specs.declared.field.FieldType.TheVariants as field_type
use Rattle.cedr_base.specs.declared.level.Level.{Level}
use Rattle.cedr_expr.specs.Columns.{kept_columns}
use Rattle.cedr_expr.specs.Types.{same_type, first_bad_column, first_differing, first_past_end}
use Rattle.cedr_expr.specs.declared.test.Test.{Test}
use Rattle.serde_json.specs.Data.{Data}
use Rattle.serde_json.specs.Find.{get, as_bool, as_str}
use Rattle.cedr_plan.specs.declared.plan.NodeKind.{NodeKind}
use Rattle.cedr_plan.specs.declared.plan.NodeKind.TheVariants as kind
use Rattle.cedr_plan.specs.Drawn.{Node}
use Rattle.cedr_plan.specs.Places.{is_output}
use Rattle.cedr_plan.specs.Json.{as_list, as_whole, is_list, is_number, is_text, is_whole_within, has, values_of}
use Rattle.cedr_plan.specs.Levels.{middle, is_level, has_bad_bound, is_unknown_level, level_of, has_block_over_memory}
use Rattle.cedr_plan.specs.Operators.{Row, operator_row, operator_of, member_key, form_of, is_optional}
use Rattle.cedr_plan.specs.Tests.{is_test, is_bad_test, test_of}
use Rattle.cedr_plan.specs.declared.fault.PlanKind.{PlanKind}
use Rattle.cedr_plan.specs.declared.fault.PlanKind.TheVariants as fault
use Rattle.cedr_plan.specs.declared.operator.Operator.{Operator}
use Rattle.cedr_plan.specs.declared.operator.Operator.TheVariants as operator
use Rattle.cedr_plan.specs.declared.operator.Member.{Member}
use Rattle.cedr_plan.specs.declared.operator.Member.TheVariants as member
use Rattle.cedr_plan.specs.declared.operator.Form.{Form}
use Rattle.cedr_plan.specs.declared.operator.Form.TheVariants as form
use Rattle.cedr_plan.specs.declared.operator.Outcome.{Outcome}
use Rattle.cedr_plan.specs.declared.operator.Outcome.TheVariants as outcome

-- ---- what a node says

-- ASCII letters, digits and `_`
abbrev pub is_name_byte : ℕ → Bool
is_name_byte byte = is_ascii_alphanumeric byte || (byte == 95)

-- a name: 1 to 64 such bytes
abbrev pub is_name : List ℕ → Bool
is_name text = nat_le 1 (length text) && nat_le (length text) 64 && list_all is_name_byte text

-- the value is a text that is a name
abbrev pub is_name_value : Data → Bool
is_name_value d = option_map_or is_name (as_str d) false

-- the operator that the member `op` names in this version
abbrev pub operator_at : ℕ → Data → Option Operator
operator_at version d = option_and_then (operator_of version) (option_and_then as_str (get (codes "op") d))

-- the member's text, and the empty one where there is none
abbrev pub text_at : List ℕ → Data → List ℕ
text_at key d = unwrap_or (option_and_then as_str (get key d)) []

-- the member's number, and 0 where there is none
abbrev pub number_at : List ℕ → Data → ℕ
number_at key d = unwrap_or (option_and_then as_whole (get key d)) 0

-- the member's truth value, and false where there is none
abbrev pub truth_at : List ℕ → Data → Bool
truth_at key d = unwrap_or (option_and_then as_bool (get key d)) false

-- the whole numbers of the array that the member is
abbrev pub columns_at : List ℕ → Data → List ℕ
columns_at key d = filter_map as_whole (values_of (get key d))

-- the tests of the array that `where` is
abbrev pub tests_at : Data → List Test
tests_at d = filter_map test_of (values_of (get (codes "where") d))

-- the field type of a word
abbrev pub type_of_word : List ℕ → Option FieldType
type_of_word word = if bytes_eq word (codes "int") then Some field_type.Number
    else if bytes_eq word (codes "text") then Some field_type.Bytes
    else None

-- the field type that a value names
abbrev pub as_type : Data → Option FieldType
as_type d = option_and_then type_of_word (as_str d)

-- the field types of the array that `fields` is
abbrev pub types_at : Data → List FieldType
types_at d = filter_map as_type (values_of (get (codes "fields") d))

-- a node that has ports says what feeds them, and at which level
abbrev pub has_ports : Row → Bool
has_ports row = nat_lt 0 row.most

-- the values that `from` has, and none where the operator has no ports
abbrev pub input_values : Row → Data → List Data
input_values row d = if has_ports row then values_of (get (codes "from") d) else []

-- the level of the node's ports: the middle one where `level` isn't there or the operator has no ports
abbrev pub level_at : Row → Data → Level
level_at row d = if has_ports row then option_map_or level_of (get (codes "level") d) middle else middle

-- ---- the inputs

-- the node has this name
abbrev pub is_named : List ℕ → Node → Bool
is_named name node = bytes_eq node.name name

-- the place of the earlier node that a value names
abbrev pub place_of : List Node → Data → Option ℕ
place_of earlier d = option_and_then (λ name. position (is_named name) earlier) (as_str d)

-- the places of the earlier nodes that `from` names, in port order
abbrev pub inputs_at : List Node → Row → Data → List ℕ
inputs_at earlier row d = filter_map (place_of earlier) (input_values row d)

-- the field types of the node at a place
abbrev pub types_of : List Node → ℕ → List FieldType
types_of earlier place = option_map_or (λ (node : Node). node.types) (slice_get earlier place) []

-- the field types of each port, in port order
abbrev pub ports_at : List Node → Row → Data → List (List FieldType)
ports_at earlier row d = map (types_of earlier) (inputs_at earlier row d)

-- the field types of the first port, and none where there is no port
abbrev pub first_port : List (List FieldType) → List FieldType
first_port [] = []
first_port (types ∷ ports) = types

-- the columns of all ports, in port order
abbrev pub all_ports : List (List FieldType) → List FieldType
all_ports ports = flat_map (λ types. types) ports

-- so many ports, each with the types of the first one
abbrev pub like_first : ℕ → List (List FieldType) → List (List FieldType)
like_first number ports = replicate number (first_port ports)

-- the ports through which the columns of a node count: all of them, or so many as `number` says, each like the first one
abbrev pub counted_ports : Outcome → Data → List (List FieldType) → List (List FieldType)
counted_ports outcome.Declared d ports = ports
counted_ports outcome.First d ports = ports
counted_ports outcome.Alike d ports = ports
counted_ports outcome.Kept d ports = ports
counted_ports outcome.Joined d ports = ports
counted_ports outcome.Repeated d ports = like_first (number_at (codes "number") d) ports
counted_ports outcome.Grouped d ports = ports
counted_ports outcome.Ranged d ports = ports

-- the types of the columns that the members of a node name, after the earlier nodes
abbrev pub column_types : Row → List Node → Data → List FieldType
column_types row earlier d = all_ports (counted_ports row.outcome d (ports_at earlier row d))

-- ---- the result

-- the type of the count, where rows are counted
abbrev pub count_types : Bool → List FieldType
count_types true = field_type.Number ∷ []
count_types false = []

-- the types of keys, then of the count, then of the sums, then of the least and of the greatest fields
abbrev pub group_types : List ℕ → Bool → List ℕ → List ℕ → List ℕ → List FieldType → List FieldType
group_types keys count sums least greatest types =
    kept_columns keys types ++ (count_types count ++ (map (λ _. field_type.Number) sums ++ (kept_columns least types ++ kept_columns greatest types)))

-- how many these are, where a column that isn't there counts too
abbrev pub group_width : List ℕ → Bool → List ℕ → List ℕ → List ℕ → ℕ
group_width keys count sums least greatest = length keys + (length (count_types count) + (length sums + (length least + length greatest)))

-- the types of the result's fields, where the first port has the types `first`, and the columns that members name have the types `all`
abbrev pub result_types : Outcome → Data → List FieldType → List FieldType → List FieldType
result_types outcome.Declared d first all = types_at d
result_types outcome.First d first all = first
result_types outcome.Alike d first all = first
result_types outcome.Kept d first all = kept_columns (columns_at (codes "keep") d) all
result_types outcome.Joined d first all = all
result_types outcome.Repeated d first all = all
result_types outcome.Grouped d first all = group_types (columns_at (codes "keys") d) (truth_at (codes "count") d) (columns_at (codes "sum") d) [] [] all
result_types outcome.Ranged d first all = group_types (columns_at (codes "keys") d) (truth_at (codes "count") d) (columns_at (codes "sum") d) (columns_at (codes "least") d) (columns_at (codes "greatest") d) all

-- how many fields a result of these types has, where a column that isn't there counts too
abbrev pub result_width : Outcome → Data → List FieldType → ℕ
result_width outcome.Declared d types = length types
result_width outcome.First d types = length types
result_width outcome.Alike d types = length types
result_width outcome.Kept d types = length (columns_at (codes "keep") d)
result_width outcome.Joined d types = length types
result_width outcome.Repeated d types = length types
result_width outcome.Grouped d types = group_width (columns_at (codes "keys") d) (truth_at (codes "count") d) (columns_at (codes "sum") d) [] []
result_width outcome.Ranged d types = group_width (columns_at (codes "keys") d) (truth_at (codes "count") d) (columns_at (codes "sum") d) (columns_at (codes "least") d) (columns_at (codes "greatest") d)

-- the types of a node's fields by its row, after the earlier nodes
abbrev pub types_under : Row → List Node → Data → List FieldType
types_under row earlier d = result_types row.outcome d (first_port (ports_at earlier row d)) (column_types row earlier d)

-- ---- the faults of a node, from 3 to 12

-- what a member has to be, before its numbers are looked at
abbrev pub has_form : Form → Data → Bool
has_form form.Text d = is_text d
has_form form.Types d = is_list (λ x. is_some (as_type x)) d
has_form form.Tests d = is_list is_test d
has_form form.Columns d = is_list is_number d
has_form form.Sums d = is_list is_number d
has_form form.OptionalColumns d = is_list is_number d
has_form form.Truth d = is_some (as_bool d)
has_form form.Number d = is_number d
has_form form.InputCount d = is_number d

-- the member isn't in its form, or isn't there and can't be done without
abbrev pub lacks_member : Data → Member → Bool
lacks_member d m = not (option_map_or (has_form (form_of m)) (get (member_key m) d) (is_optional (form_of m)))

-- `from` isn't there, isn't an array of texts, or has too few of them
abbrev pub lacks_inputs : Row → Data → Bool
lacks_inputs row d = has_ports row && (not (has (codes "from") (is_list is_text) d) || nat_lt (length (input_values row d)) row.least)

-- `level` is there and isn't in its form
abbrev pub has_odd_level : Row → Data → Bool
has_odd_level row d = has_ports row && has (codes "level") (λ level. not (is_level level)) d

-- 3
unfoldable pub has_missing_part : Row → Data → Bool
has_missing_part row d = not (has (codes "name") is_name_value d) || (lacks_inputs row d || (list_any (lacks_member d) row.members || has_odd_level row d))

-- over 16 fields or tests
abbrev pub is_too_long : Form → Data → Bool
is_too_long form.Text d = false
is_too_long form.Types d = option_map_or (λ types. nat_lt 16 (length types)) (as_list d) false
is_too_long form.Tests d = option_map_or (λ tests. nat_lt 16 (length tests)) (as_list d) false
is_too_long form.Columns d = false
is_too_long form.Sums d = false
is_too_long form.OptionalColumns d = false
is_too_long form.Truth d = false
is_too_long form.Number d = false
is_too_long form.InputCount d = false

-- 5
unfoldable pub has_too_many : Row → Data → Bool
has_too_many row d = nat_lt row.most (length (input_values row d)) || list_any (λ m. has (member_key m) (is_too_long (form_of m)) d) row.members

-- a number in it isn't whole or isn't in its range, at a node that has so many inputs
abbrev pub is_bad_number : ℕ → Form → Data → Bool
is_bad_number inputs form.Text d = false
is_bad_number inputs form.Types d = false
is_bad_number inputs form.Tests d = option_map_or (list_any is_bad_test) (as_list d) false
is_bad_number inputs form.Columns d = option_map_or (list_any (λ column. is_none (as_whole column))) (as_list d) false
is_bad_number inputs form.Sums d = option_map_or (list_any (λ column. is_none (as_whole column))) (as_list d) false
is_bad_number inputs form.OptionalColumns d = option_map_or (list_any (λ column. is_none (as_whole column))) (as_list d) false
is_bad_number inputs form.Truth d = false
is_bad_number inputs form.Number d = not (is_whole_within 1 (2 ^ 40) d)
is_bad_number inputs form.InputCount d = not (is_whole_within 1 inputs d)

-- 6
unfoldable pub has_bad_number : Row → Data → Bool
has_bad_number row d = list_any (λ m. has (member_key m) (is_bad_number (length (input_values row d)) (form_of m)) d) row.members || (has_ports row && has (codes "level") has_bad_bound d)

-- 7: `level` is no level's name, or its block is over its memory
unfoldable pub has_bad_level : Row → Data → Bool
has_bad_level row d = has_ports row && has (codes "level") (λ level. is_unknown_level level || has_block_over_memory (level_of level)) d

-- 8
unfoldable pub is_named_twice : List Node → Data → Bool
is_named_twice earlier d = list_any (is_named (text_at (codes "name") d)) earlier

-- no earlier node, or an output
abbrev pub is_unknown : List Node → Data → Bool
is_unknown earlier d = option_map_or (λ place. option_map_or (λ (node : Node). is_output node.kind) (slice_get earlier place) true) (place_of earlier d) true

-- 9
unfoldable pub has_unknown_input : List Node → Row → Data → Bool
has_unknown_input earlier row d = list_any (is_unknown earlier) (input_values row d)

-- 10
unfoldable pub is_too_wide : List Node → Row → Data → Bool
is_too_wide earlier row d = nat_lt 16 (result_width row.outcome d (types_under row earlier d))

-- the member names a column that is past the end of these types
abbrev pub is_bad_column : List FieldType → Data → Member → Bool
is_bad_column types d member.File = false
is_bad_column types d member.Fields = false
is_bad_column types d member.Where = is_some (first_bad_column (tests_at d) types [])
is_bad_column types d member.Keep = is_some (first_past_end (columns_at (codes "keep") d) types)
is_bad_column types d member.Keys = is_some (first_past_end (columns_at (codes "keys") d) types)
is_bad_column types d member.Count = false
is_bad_column types d member.Sum = is_some (first_past_end (columns_at (codes "sum") d) types)
is_bad_column types d member.Least = is_some (first_past_end (columns_at (codes "least") d) types)
is_bad_column types d member.Greatest = is_some (first_past_end (columns_at (codes "greatest") d) types)
is_bad_column types d member.Width = false
is_bad_column types d member.By = false
is_bad_column types d member.Every = false
is_bad_column types d member.Scope = false
is_bad_column types d member.Hold = false
is_bad_column types d member.Number = false

-- 11: a column is past the end
unfoldable pub has_bad_column : List Node → Row → Data → Bool
has_bad_column earlier row d = list_any (is_bad_column (column_types row earlier d) d) row.members

-- the column is there and holds texts
abbrev pub is_text_column : List FieldType → ℕ → Bool
is_text_column types column = option_map_or (same_type field_type.Bytes) (slice_get types column) false

-- two lists of field types are the same
abbrev pub same_types : List FieldType → List FieldType → Bool
same_types [] [] = true
same_types (x ∷ xs) (y ∷ ys) = same_type x y && same_types xs ys
same_types xs ys = false

-- the member has a test whose two sides differ in type, or sums a column of texts
abbrev pub member_has_two_types : List FieldType → Data → Member → Bool
member_has_two_types types d member.File = false
member_has_two_types types d member.Fields = false
member_has_two_types types d member.Where = is_some (first_differing (tests_at d) types [])
member_has_two_types types d member.Keep = false
member_has_two_types types d member.Keys = false
member_has_two_types types d member.Count = false
member_has_two_types types d member.Sum = list_any (is_text_column types) (columns_at (codes "sum") d)
member_has_two_types types d member.Least = false
member_has_two_types types d member.Greatest = false
member_has_two_types types d member.Width = false
member_has_two_types types d member.By = false
member_has_two_types types d member.Every = false
member_has_two_types types d member.Scope = false
member_has_two_types types d member.Hold = false
member_has_two_types types d member.Number = false

-- some port has other types than the first one
abbrev pub some_are_unlike : List (List FieldType) → Bool
some_are_unlike ports = list_any (λ types. not (same_types (first_port ports) types)) ports

-- the node needs the same types on all ports, and its ports have different ones
abbrev pub has_unlike_ports : Outcome → List (List FieldType) → Bool
has_unlike_ports outcome.Declared ports = false
has_unlike_ports outcome.First ports = false
has_unlike_ports outcome.Alike ports = some_are_unlike ports
has_unlike_ports outcome.Kept ports = false
has_unlike_ports outcome.Joined ports = false
has_unlike_ports outcome.Repeated ports = some_are_unlike ports
has_unlike_ports outcome.Grouped ports = false
has_unlike_ports outcome.Ranged ports = false

-- 12
unfoldable pub has_type_difference : List Node → Row → Data → Bool
has_type_difference earlier row d = has_unlike_ports row.outcome (ports_at earlier row d) || list_any (member_has_two_types (column_types row earlier d) d) row.members

-- ---- the node

-- what a node of this operator does, by its members
abbrev pub kind_from : Operator → Data → NodeKind
kind_from operator.Source d = kind.Source (text_at (codes "file") d)
kind_from operator.Select d = kind.Select (tests_at d)
kind_from operator.Project d = kind.Project (columns_at (codes "keep") d)
kind_from operator.Union d = kind.Union
kind_from operator.Join d = kind.Join (tests_at d)
kind_from operator.Window d = kind.Window (number_at (codes "width") d)
kind_from operator.Shift d = kind.Shift (number_at (codes "by") d)
kind_from operator.Hop d = kind.Hop (number_at (codes "every") d) (number_at (codes "width") d)
kind_from operator.Starts d = kind.Starts
kind_from operator.Ends d = kind.Ends
kind_from operator.Group d = kind.Group (columns_at (codes "keys") d) (truth_at (codes "count") d) (columns_at (codes "sum") d) [] []
kind_from operator.RangedGroup d = kind.Group (columns_at (codes "keys") d) (truth_at (codes "count") d) (columns_at (codes "sum") d) (columns_at (codes "least") d) (columns_at (codes "greatest") d)
kind_from operator.Sequence d = kind.Sequence (number_at (codes "scope") d) (tests_at d)
kind_from operator.Unless d = kind.Unless (number_at (codes "scope") d) (number_at (codes "hold") d) (tests_at d)
kind_from operator.AtLeast d = kind.AtLeast (number_at (codes "number") d) (number_at (codes "scope") d) (tests_at d)
kind_from operator.Except d = kind.Except (tests_at d)
kind_from operator.Output d = kind.Output

-- the node of an operator that a value says, after the earlier ones
abbrev pub node_from : Operator → List Node → Data → Node
node_from operator earlier d = record {
  name = text_at (codes "name") d;
  kind = kind_from operator d;
  inputs = inputs_at earlier (operator_row operator) d;
  level = level_at (operator_row operator) d;
  types = types_under (operator_row operator) earlier d;
}

-- the kind of the first test that holds
abbrev pub first_fault : List (Bool × PlanKind) → Option PlanKind
first_fault [] = None
first_fault (test ∷ tests) = if test.0 then Some test.1 else first_fault tests

-- what is looked at before the types of the fields, in the order of the numbers
abbrev pub untyped_faults : Row → List Node → Data → List (Bool × PlanKind)
untyped_faults row earlier d =
    (has_missing_part row d, fault.MissingPart)
    ∷ (has_too_many row d, fault.TooMany)
    ∷ (has_bad_number row d, fault.BadNumber)
    ∷ (has_bad_level row d, fault.BadLevel)
    ∷ (is_named_twice earlier d, fault.TwiceNamed)
    ∷ (has_unknown_input earlier row d, fault.UnknownNode)
    ∷ []

-- what is looked at then
abbrev pub typed_faults : Row → List Node → Data → List (Bool × PlanKind)
typed_faults row earlier d =
    (is_too_wide earlier row d, fault.TooWide)
    ∷ (has_bad_column earlier row d, fault.BadColumn)
    ∷ (has_type_difference earlier row d, fault.TypeDiffers)
    ∷ []

-- the first fault of a node of this operator, in the order of the numbers
abbrev pub fault_under : Row → List Node → Data → Option PlanKind
fault_under row earlier d = first_fault (untyped_faults row earlier d ++ typed_faults row earlier d)

-- where the operator isn't known, only `name` and `op` are looked at
abbrev pub fault_without_operator : Data → PlanKind
fault_without_operator d = if has (codes "name") is_name_value d && has (codes "op") is_text d then fault.UnknownOp else fault.MissingPart

-- a value's first fault after these nodes, in this version
abbrev pub node_fault : ℕ → List Node → Data → Option PlanKind
node_fault version earlier d = option_map_or (λ operator. fault_under (operator_row operator) earlier d) (operator_at version d) (Some (fault_without_operator d))

-- the node that a value without a fault is
abbrev pub node_of_value : ℕ → List Node → Data → Node
node_of_value version earlier d = node_from (unwrap_or (operator_at version d) operator.Output) earlier d

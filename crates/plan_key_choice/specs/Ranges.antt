-- What a node may keep, where some of its ports have one key column and others any of theirs.
use Rattle.std.specs.Prelude.{ℕ, ◌+◌, ◌-◌, ◌≤◌, ◌==◌, Bool, true, false, ◌&&◌, ◌||◌, List, [], ◌∷◌, ◌++◌, length, nat_le, nat_lt, max, min, replicate, Option, Some, None, if◌then◌else◌}
use Rattle.std.specs.List.{list_all, list_any, slice_get}
use Rattle.cedr_expr.specs.declared.test.Op.{Op}
use Rattle.cedr_expr.specs.declared.test.Op.TheVariants.{Eq}
use Rattle.cedr_expr.specs.declared.test.Operand.{Operand}
use Rattle.cedr_expr.specs.declared.test.Operand.TheVariants as operand
use Rattle.cedr_expr.specs.declared.test.Test.{Test}
use Rattle.cedr_plan.specs.declared.plan.NodeKind.{NodeKind}
use Rattle.cedr_plan.specs.declared.plan.NodeKind.TheVariants as kind
use Rattle.cedr_plan.specs.declared.plan.PlanNode.{PlanNode}
use Rattle.plan_keys.specs.Keys.{width_at}
use Rattle.plan_key_choice.specs.Partial.{chosen_at}
use Rattle.plan_key_choice.specs.declared.range.ColumnRange.{ColumnRange}
use Rattle.plan_key_choice.specs.declared.range.RangedPort.{RangedPort}

-- ---- ranges

-- a column is in the range
abbrev pub is_in : ℕ → ColumnRange → Bool
is_in column range = nat_le range.least column && nat_le column range.most

-- one column alone
abbrev pub one_column : ℕ → ColumnRange
one_column column = record { least = column; most = column }

-- all columns of so many fields, and 0 where there is none
abbrev pub any_column : ℕ → ColumnRange
any_column width = record { least = 0; most = width - 1 }

-- the chosen column, where it is one of so many, and else all of them
abbrev pub column_range : Option ℕ → ℕ → ColumnRange
column_range None width = any_column width
column_range (Some column) width = if nat_le column (width - 1) then one_column column else any_column width

-- the port that reads the node at a place
abbrev pub ranged_port : List (Option ℕ) → List PlanNode → ℕ → RangedPort
ranged_port choice before place = record { columns = column_range (chosen_at choice place) (width_at before place); width = width_at before place }

-- a range of few columns
pub record IsNarrowRange (range : ColumnRange) : Type 0 where
  pub least : range.least ≤ 15
  pub most : range.most ≤ 15

-- a port of few columns
pub record IsNarrow (port : RangedPort) : Type 0 where
  pub columns : IsNarrowRange port.columns
  pub width : port.width ≤ 16

-- ---- ties

-- the range, so many columns further on
abbrev pub shifted_range : ℕ → ColumnRange → ColumnRange
shifted_range first range = record { least = first + range.least; most = first + range.most }

-- the column alone, where the range has it
abbrev pub narrowed : ℕ → ColumnRange → ColumnRange
narrowed column range = if is_in column range then one_column column else range

-- where the key columns of ports may stand in the payloads of all ports, one after the other, where this is one of them
abbrev pub place_ranges : ℕ → ℕ → List RangedPort → List ColumnRange
place_ranges first column [] = []
place_ranges first column (p ∷ ports) = narrowed column (shifted_range first p.columns) ∷ place_ranges (first + p.width) column ports

-- a test may want a column of one range equal to one of the other
abbrev pub may_compare : ColumnRange → ColumnRange → ℕ → Op → Operand → Bool
may_compare one other left Eq (operand.Column right) = (is_in left one && is_in right other) || (is_in left other && is_in right one)
may_compare one other left op o = false

abbrev pub may_tie : ColumnRange → ColumnRange → Test → Bool
may_tie one other test = may_compare one other test.left test.op test.right

-- a place that is the first one, or may be tied to an earlier one
abbrev pub is_tied_behind : List Test → List ColumnRange → ColumnRange → Bool
is_tied_behind tests earlier place = (length earlier == 0) || list_any (λ (one : ColumnRange). list_any (may_tie one place) tests) earlier

-- each of the places is the first one, or may be tied to an earlier one
abbrev pub are_tied : List Test → List ColumnRange → List ColumnRange → Bool
are_tied tests earlier [] = true
are_tied tests earlier (p ∷ places) = is_tied_behind tests earlier p && are_tied tests (earlier ++ p ∷ []) places

-- some column of the range is one of the port's
abbrev pub is_wide : RangedPort → Bool
is_wide port = nat_lt port.columns.least port.width

-- tests may tie the places of ports, where this is one of them
abbrev pub may_tie_places : List Test → List RangedPort → ℕ → List ColumnRange → Bool
may_tie_places tests ports column places = list_all is_wide ports && (list_any (is_in column) places && are_tied tests [] places)

-- tests may tie the key columns of all ports, where this is one of them
abbrev pub may_be_tied : List Test → List RangedPort → ℕ → Bool
may_be_tied tests ports column = may_tie_places tests ports column (place_ranges 0 column ports)

-- ---- nodes

-- all ports may have this column
abbrev pub may_have : ℕ → List RangedPort → Bool
may_have column ports = list_all (λ (p : RangedPort). is_in column p.columns) ports

-- all ports may have this column, where there is one
abbrev pub may_have_some : Option ℕ → List RangedPort → Bool
may_have_some (Some column) ports = may_have column ports
may_have_some None [] = true
may_have_some None (p ∷ ports) = false

-- all ports may have the column that is kept at this place
abbrev pub may_rename : List ℕ → List RangedPort → ℕ → Bool
may_rename kept ports column = may_have_some (slice_get kept column) ports

-- tests may tie the key columns of all ports, where the first one's is this column
abbrev pub may_keep_first : List Test → List RangedPort → ℕ → Bool
may_keep_first tests [] column = true
may_keep_first tests (p ∷ ports) column = is_in column p.columns && may_be_tied tests (p ∷ ports) column

-- two ports may have one column, and have one width
abbrev pub is_alike : RangedPort → RangedPort → Bool
is_alike one other = (one.width == other.width) && (nat_le one.columns.least other.columns.most && nat_le other.columns.least one.columns.most)

-- each port is like the first one
abbrev pub are_alike : RangedPort → List RangedPort → Bool
are_alike first ports = list_all (is_alike first) ports

-- the columns of the range that all ports may have
abbrev pub common_range : List RangedPort → ColumnRange → ColumnRange
common_range [] range = range
common_range (p ∷ ports) range = common_range ports (record { least = max range.least p.columns.least; most = min range.most p.columns.most })

-- the ports may have one column, and tests tie so many payloads of it
abbrev pub may_repeat : ℕ → List Test → List RangedPort → ℕ → Bool
may_repeat number tests [] column = may_be_tied tests [] column
may_repeat number tests (p ∷ ports) column =
    are_alike p (p ∷ ports) && may_be_tied tests (replicate number (record { columns = common_range (p ∷ ports) p.columns; width = p.width })) column

-- the node may keep the key
abbrev pub may_keep : NodeKind → List RangedPort → ℕ → Bool
may_keep (kind.Source file) ports column = true
may_keep (kind.Project keep) ports column = may_rename keep ports column
may_keep (kind.Join tests) ports column = may_be_tied tests ports column
may_keep (kind.Group keys count sums least greatest) ports column = may_rename keys ports column
may_keep (kind.Sequence scope tests) ports column = may_be_tied tests ports column
may_keep (kind.Unless scope hold tests) ports column = may_keep_first tests ports column
may_keep (kind.AtLeast number scope tests) ports column = may_repeat number tests ports column
may_keep (kind.Except tests) ports column = may_keep_first tests ports column
may_keep other ports column = may_have column ports

-- a pattern of few payloads
abbrev pub RepeatsFew : NodeKind → Type 0
RepeatsFew (kind.AtLeast number scope tests) = number ≤ 4
RepeatsFew other = Unit {0}

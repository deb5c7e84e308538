-- Groups of rows: what each group makes of its rows, and what may be promised at a mark.
use Rattle.std.specs.Prelude.{ℕ, ◌%◌, ◌^◌, List, [], ◌∷◌, ◌++◌, Bool, false, ◌&&◌, ◌||◌, Option, Some, None, length, map, sum_by, min, nat_lt, nat_le, nat_eq, if◌then◌else◌}
use Rattle.std.specs.Int.{w128, cast_unsigned, cast_signed}
use Rattle.std.specs.List.{filter, filter_map, flat_map, list_any, slice_get, count_by}
use Rattle.std.specs.Ordering.{is_eq}
use Rattle.cedr_base.specs.declared.field.Field.{Field}
use Rattle.cedr_base.specs.declared.field.Field.TheVariants.{Number, Bytes}
use Rattle.cedr_base.specs.declared.row.Row.{Row}
use Rattle.cedr_base.specs.Order.{payload_cmp}
use Rattle.cedr_expr.specs.Columns.{kept_columns}
use Rattle.cedr_living.specs.Fields.{least_field, greatest_field}
use Rattle.cedr_table.specs.Operators.{Meaning, table_at, mark_at}
use Rattle.op_group.specs.declared.segment.Totalled.{Totalled}

-- What is asked of groups.
-- keys: the columns of the key.
-- counted: whether the rows are counted.
-- totalled: the columns to be summed, and those of which the least or the greatest field is asked for.
pub record Grouping : Type 0 where
  pub keys : List ℕ
  pub counted : Bool
  pub totalled : Totalled

-- the grouping with these columns of the key, with a count or without, and with the totals of these columns
abbrev pub grouping_with : List ℕ → Bool → Totalled → Grouping
grouping_with keys counted totalled = record { keys = keys; counted = counted; totalled = totalled }

-- the grouping with these columns of the key, with a count or without, with these summed columns, and with the least
-- and the greatest fields of these columns
abbrev pub grouping_by : List ℕ → Bool → List ℕ → List ℕ → List ℕ → Grouping
grouping_by keys counted sums least greatest = grouping_with keys counted (record { sums = sums; least = least; greatest = greatest })

-- the key of a row: the fields in the columns of the key
abbrev pub key_of : Grouping → Row → List Field
key_of grouping r = kept_columns grouping.keys r.payload

-- two payloads are the same where they compare as equal
abbrev pub same_payload : List Field → List Field → Bool
same_payload a b = is_eq (payload_cmp a b)

-- each of the payloads once
abbrev pub distinct : List (List Field) → List (List Field)
distinct [] = []
distinct (key ∷ keys) = if list_any (same_payload key) keys then distinct keys else key ∷ distinct keys

-- the rows of one group: their key fields are equal
abbrev pub rows_of : Grouping → List Field → List Row → List Row
rows_of grouping key rows = filter (λ r. same_payload key (key_of grouping r)) rows

-- a time among times that ascend, at its place, once
abbrev pub put_time : ℕ → List ℕ → List ℕ
put_time t [] = t ∷ []
put_time t (s ∷ ts) = if nat_lt t s then t ∷ s ∷ ts else (if nat_eq t s then s ∷ ts else s ∷ put_time t ts)

-- all begins and ends of rows, each once, in order
abbrev pub cut_points : List Row → List ℕ
cut_points [] = []
cut_points (r ∷ rows) = put_time r.begin (put_time r.end (cut_points rows))

-- each two neighbours
abbrev pub neighbours : List ℕ → List (ℕ × ℕ)
neighbours [] = []
neighbours (p ∷ []) = []
neighbours (p ∷ q ∷ ts) = (p, q) ∷ neighbours (q ∷ ts)

-- a row is valid from one time to another at least
abbrev pub spans : ℕ → ℕ → Row → Bool
spans p q r = nat_le r.begin p && nat_le q r.end

-- a number modulo 2^128, in two's complement
abbrev pub modular : ℕ → Field
modular n = Number (cast_signed w128 (n % 2 ^ 128))

-- what a field adds to a sum, modulo 2^128: nothing where it isn't there or isn't a number
abbrev pub field_number : Option Field → ℕ
field_number None = 0
field_number (Some (Number n)) = cast_unsigned w128 n % 2 ^ 128
field_number (Some (Bytes text)) = 0

-- what a row adds to the sum of a column
abbrev pub column_number : ℕ → Row → ℕ
column_number column r = field_number (slice_get r.payload column)

-- the fields of rows in a column: a row without it has none
abbrev pub column_fields : List Row → ℕ → List Field
column_fields rows column = filter_map (λ (r : Row). slice_get r.payload column) rows

-- the least field of rows in a column, in the order of fields; none where no row has the column
abbrev pub least_in : List Row → ℕ → Option Field
least_in rows column = least_field (column_fields rows column)

-- the greatest one likewise
abbrev pub greatest_in : List Row → ℕ → Option Field
greatest_in rows column = greatest_field (column_fields rows column)

-- the count of rows, where it is asked for, then each sum over them, and then their least and their greatest fields: a
-- field is left out where no row has its column
abbrev pub totals_of : Grouping → List Row → List Field
totals_of grouping rows = (if grouping.counted then modular (length rows) ∷ [] else [])
    ++ (map (λ column. modular (sum_by (column_number column) rows)) grouping.totalled.sums
    ++ (filter_map (least_in rows) grouping.totalled.least ++ filter_map (greatest_in rows) grouping.totalled.greatest))

-- the row of two neighbouring cut points and of the rows that are valid between them: none where there are no such rows
abbrev pub row_between : Grouping → List Field → ℕ → ℕ → List Row → List Row
row_between grouping key p q [] = []
row_between grouping key p q (r ∷ rows) = record { end = q; begin = p; payload = key ++ totals_of grouping (r ∷ rows) } ∷ []

-- the rows that one group makes
abbrev pub segments : Grouping → List Field → List Row → List Row
segments grouping key rows = flat_map (λ n. row_between grouping key n.0 n.1 (filter (spans n.0 n.1) rows)) (neighbours (cut_points rows))

-- the rows that all groups make
abbrev pub grouped : Grouping → List Row → List Row
grouped grouping rows = flat_map (λ key. segments grouping key (rows_of grouping key rows)) (distinct (map (key_of grouping) rows))

-- the least of a time and of others
abbrev pub least_from : ℕ → List ℕ → ℕ
least_from t [] = t
least_from t (s ∷ ts) = min s (least_from t ts)

-- a row of the result begins before a mark and doesn't end before it: its begin is the group's greatest cut point
-- below the mark, and a later retraction may take its end away
abbrev pub is_open : ℕ → Row → Bool
is_open mark r = nat_lt r.begin mark && nat_le mark r.end

-- the least of the mark and of the begins of the rows that are open at it
abbrev pub open_from : ℕ → List Row → ℕ
open_from mark rows = least_from mark (map (λ (r : Row). r.begin) (filter (is_open mark) rows))

-- the row is valid at a time
abbrev pub lives_at : ℕ → Row → Bool
lives_at t r = nat_le r.begin t && nat_lt t r.end

-- At a mark a row that stands for a cut point of a group, from it to the next one, may still be held where it begins at
-- the mark or later, or where it ends at the mark or later and some row of the group is valid at its begin.
abbrev pub may_be_held : Grouping → List Row → ℕ → Row → Bool
may_be_held grouping rows mark r = nat_le mark r.begin || (nat_le mark r.end && nat_lt 0 (count_by (lives_at r.begin) (rows_of grouping r.payload rows)))

-- the fields of a row whose least or greatest ones are asked for
abbrev pub ranked_fields : Grouping → Row → List Field
ranked_fields grouping r = kept_columns (grouping.totalled.least ++ grouping.totalled.greatest) r.payload

-- a row tells of a field of another one: it is valid as long as that one, and has the key of that one and then the field
abbrev pub shows_field : Grouping → Row → Row → Bool
shows_field grouping r x = (nat_eq r.begin x.begin && nat_eq r.end x.end) && list_any (λ field. same_payload r.payload (key_of grouping x ++ (field ∷ []))) (ranked_fields grouping x)

-- At a mark a field may still be held, as a row that tells of it, where it is one of a row that doesn't end before the mark.
abbrev pub field_may_be_held : Grouping → List Row → ℕ → Row → Bool
field_may_be_held grouping rows mark r = nat_le mark r.end && list_any (shows_field grouping r) rows

-- the meaning of a grouping: the rows of all groups, and as the bound the least of the mark and of the
-- begins of open rows
abbrev pub group_of : Grouping → Meaning
group_of grouping = record {
  ports = 1;
  result = λ tables. grouped grouping (table_at tables 0);
  bound = λ tables marks. open_from (mark_at marks 0) (grouped grouping (table_at tables 0));
  may_hold = λ tables marks port r. nat_eq port 0 && (may_be_held grouping (table_at tables 0) (mark_at marks 0) r || field_may_be_held grouping (table_at tables 0) (mark_at marks 0) r);
  echoes = false;
  stateless = false;
}

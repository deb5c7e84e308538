-- The least and the greatest fields of rows depend on the bag of their payloads alone.
use Rattle.std.proofs.Common.{◌≡◌, ℕ, ◌+◌, List, [], ◌∷◌, ◌++◌, refl, ap, sym, ◌∙◌, arith}
use Rattle.std.specs.Prelude.{Option, None, Some, map, sum_by}
use Rattle.std.specs.List.{filter, filter_map, slice_get, cons_option}
use Rattle.std.proofs.lemmas.List.Sums.{sum_by-cons}
use Rattle.std.proofs.lemmas.List.Elements.{filter_map-append}
use Rattle.cedr_base.specs.declared.field.Field.{Field}
use Rattle.cedr_base.specs.declared.row.Row.{Row}
use Rattle.cedr_living.specs.FieldLaws.{least_same, greatest_same}
use Rattle.op_group.specs.declared.segment.Totalled.{Totalled}
use Rattle.op_group.specs.Groups.{column_fields, least_in, greatest_in, lives_at}
use Rattle.op_group.specs.Measures.{part_at, extremes_of}
use Rattle.op_group.specs.FilterLaws.{sum_by-filter, map_alike}
use Rattle.op_group.specs.LawWords.{weighed, SamePayloads}

-- a sum over fields, and a field that may be there
pub sum_cons : (w : Field → ℕ) (o : Option Field) (fs : List Field) → sum_by w (cons_option o fs) ≡ weighed w o + sum_by w fs
sum_cons w None fs = omega arith
sum_cons w (Some f) fs = sum_by-cons w f fs

-- a sum over the fields of rows in a column
pub fields_sum : (w : Field → ℕ) (column : ℕ) (rows : List Row) → sum_by w (column_fields rows column) ≡ sum_by (λ (r : Row). weighed w (slice_get r.payload column)) rows
fields_sum w column [] = refl
fields_sum w column (r ∷ rows) = omega (
  arith,
  sum_cons w (slice_get r.payload column) (column_fields rows column),
  fields_sum w column rows,
  sum_by-cons (λ (x : Row). weighed w (slice_get x.payload column)) r rows,
)

-- the same payloads have the same fields in a column
fields_same : (column : ℕ) (xs ys : List Row) → SamePayloads xs ys → (w : Field → ℕ) → sum_by w (column_fields xs column) ≡ sum_by w (column_fields ys column)
fields_same column xs ys h w = fields_sum w column xs ∙ (h (λ payload. weighed w (slice_get payload column)) ∙ sym (fields_sum w column ys))

pub least_alike : (column : ℕ) (xs ys : List Row) → SamePayloads xs ys → least_in xs column ≡ least_in ys column
least_alike column xs ys h = least_same (column_fields xs column) (column_fields ys column) (fields_same column xs ys h)

pub greatest_alike : (column : ℕ) (xs ys : List Row) → SamePayloads xs ys → greatest_in xs column ≡ greatest_in ys column
greatest_alike column xs ys h = greatest_same (column_fields xs column) (column_fields ys column) (fields_same column xs ys h)

-- rows with the same payloads have the same least and greatest fields
pub extremes_alike : (asked : Totalled) (xs ys : List Row) → SamePayloads xs ys → extremes_of asked xs ≡ extremes_of asked ys
extremes_alike asked xs ys h =
    ap (λ rest. rest ++ map (greatest_in xs) asked.greatest) (map_alike (least_in xs) (least_in ys) asked.least (λ column. least_alike column xs ys h))
    ∙ ap (λ rest. map (least_in ys) asked.least ++ rest) (map_alike (greatest_in xs) (greatest_in ys) asked.greatest (λ column. greatest_alike column xs ys h))

-- and so do those that are valid at a time
pub alive_alike : (asked : Totalled) (t u : ℕ) (xs ys : List Row) → ((w : List Field → ℕ) → sum_by (part_at (λ (r : Row). w r.payload) t) xs ≡ sum_by (part_at (λ (r : Row). w r.payload) u) ys)
    → extremes_of asked (filter (lives_at t) xs) ≡ extremes_of asked (filter (lives_at u) ys)
alive_alike asked t u xs ys h = extremes_alike asked (filter (lives_at t) xs) (filter (lives_at u) ys)
    (λ w. sum_by-filter (λ (r : Row). w r.payload) (lives_at t) xs ∙ (h w ∙ sym (sum_by-filter (λ (r : Row). w r.payload) (lives_at u) ys)))

there_are : (f : ℕ → Option Field) (columns : List ℕ) → filter_map (λ (o : Option Field). o) (map f columns) ≡ filter_map f columns
there_are f [] = refl
there_are f (column ∷ columns) = ap (cons_option (f column)) (there_are f columns)

-- the fields that are there, of all that are asked for
pub extremes_there : (asked : Totalled) (rows : List Row) → filter_map (λ (o : Option Field). o) (extremes_of asked rows) ≡ filter_map (least_in rows) asked.least ++ filter_map (greatest_in rows) asked.greatest
extremes_there asked rows =
    filter_map-append (λ (o : Option Field). o) (map (least_in rows) asked.least) (map (greatest_in rows) asked.greatest)
    ∙ (ap (λ fields. fields ++ filter_map (λ (o : Option Field). o) (map (greatest_in rows) asked.greatest)) (there_are (least_in rows) asked.least)
    ∙ ap (λ fields. filter_map (least_in rows) asked.least ++ fields) (there_are (greatest_in rows) asked.greatest))

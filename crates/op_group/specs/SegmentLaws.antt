-- The rows that one group makes are those between its cut points.
use Rattle.std.proofs.Common.{◌≡◌, ℕ, ◌+◌, ◌%◌, ◌^◌, ◌<◌, ◌≤◌, inl, inr, List, [], ◌∷◌, ◌++◌, Bool, true, false, cond, length, refl, ap, sym, ◌∙◌, arith}
use Rattle.std.specs.Prelude.{nat_eq, nat_lt, nat_le, ◌&&◌, map, sum_by, replicate, Option}
use Rattle.std.specs.Int.{w128, cast_signed}
use Rattle.std.specs.List.{filter, filter_map, flat_map, slice_get}
use Rattle.std.proofs.lemmas.Bool.{cases_lt, eq-eqb, eqb-false, lt-ltb, ltb-true, ltb-false}
use Rattle.std.proofs.lemmas.Bool.Decides.{nat_tests}
use Rattle.std.proofs.lemmas.List.Sums.{sum_by-cons}
use Rattle.cedr_base.specs.declared.field.Field.{Field}
use Rattle.cedr_base.specs.declared.field.Field.TheVariants.{Number}
use Rattle.cedr_base.specs.declared.row.Row.{Row}
use Rattle.cedr_base.specs.Rows.{count_of}
use Rattle.cedr_base.proofs.Bags.{count_of-cons}
use Rattle.change_laws.proofs.BagSums.{count_of-itself, sum_by-without}
use Rattle.op_group.specs.declared.segment.Totalled.{Totalled}
use Rattle.op_group.specs.Groups.{Grouping, modular, field_number, column_number, least_in, greatest_in, totals_of, row_between, spans, neighbours, cut_points, put_time, segments, lives_at}
use Rattle.op_group.specs.Tallies.{Tally}
use Rattle.op_group.specs.Cuts.{one_at, totals, StaysBetweenCuts}
use Rattle.op_group.specs.Measures.{edge_at, part_at, edges_of, living_of, tally_of, extremes_of, no_totals, among, AllAbove, Ascends, one_row, rows_at, Fits, is_cut_of}
use Rattle.op_group.specs.TimeLaws.{above_test, one_here, false_not_true, still_valid, not_valid_yet}
use Rattle.op_group.specs.FilterLaws.{sum_by-filter, map_alike}
use Rattle.op_group.specs.ExtremeLaws.{extremes_alike, alive_alike, extremes_there}
use Rattle.op_group.specs.CutLaws.{among_tail, none_between, above_lower, fits_from_there, there_from_fits}

-- two tests that agree on the rows of a list choose the same ones
filter_alike : (p q : Row → Bool) (xs : List Row) → ((r : Row) → 0 < count_of r xs → p r ≡ q r) → filter p xs ≡ filter q xs
filter_alike p q [] h = refl
filter_alike p q (x ∷ xs) h =
    let here : p x ≡ q x = h x (count_of-itself x xs) in
    let rest : filter p xs ≡ filter q xs = filter_alike p q xs (λ r there. h r (omega (arith, count_of-cons r x xs, there))) in
    ap (λ b. cond b (x ∷ filter p xs) (filter p xs)) here ∙ ap (λ ys. cond (q x) (x ∷ ys) ys) rest

length_is : (xs : List Row) → length xs ≡ sum_by (λ _. 1) xs
length_is [] = refl
length_is (x ∷ xs) = omega (arith, sum_by-cons (λ (_ : Row). 1) x xs, length_is xs)

-- a row's end is a cut point of its group
pub edge_there : (rows : List Row) (r : Row) → 0 < count_of r rows → 0 < edges_of rows r.end
edge_there rows r there = omega (arith, sum_by-without (edge_at r.end) r rows there, one_here r.end)

-- a row's begin is a cut point of its group
pub begin_there : (rows : List Row) (r : Row) → 0 < count_of r rows → 0 < edges_of rows r.begin
begin_there rows r there = omega (arith, sum_by-without (edge_at r.begin) r rows there, one_here r.begin)

put_above_at : (u t s : ℕ) (ts : List ℕ) (b c : Bool) → u < t → u < s → AllAbove u ts → AllAbove u (put_time t ts) → AllAbove u (cond b (t ∷ s ∷ ts) (cond c (s ∷ ts) (s ∷ put_time t ts)))
put_above_at u t s ts true c h k above rest = (h, (k, above))
put_above_at u t s ts false true h k above rest = (k, above)
put_above_at u t s ts false false h k above rest = (k, rest)

put_above : (u t : ℕ) (ts : List ℕ) → u < t → AllAbove u ts → AllAbove u (put_time t ts)
put_above u t [] h above = (h, tt)
put_above u t (s ∷ ts) h above = put_above_at u t s ts (nat_lt t s) (nat_eq t s) h above.0 above.1 (put_above u t ts h above.1)

put_ascends_at : (t s : ℕ) (ts : List ℕ) (b c : Bool) → nat_lt t s ≡ b → nat_eq t s ≡ c → Ascends (s ∷ ts) → Ascends (put_time t ts) → Ascends (cond b (t ∷ s ∷ ts) (cond c (s ∷ ts) (s ∷ put_time t ts)))
put_ascends_at t s ts true c h k up rest = let less = ltb-true t s h in ((less, above_lower t s ts (omega arith) up.0), up)
put_ascends_at t s ts false true h k up rest = up
put_ascends_at t s ts false false h k up rest =
    let not_less = ltb-false t s h in
    let not_same = eqb-false t s k in
    (put_above s t ts (omega arith) up.0, rest)

put_ascends : (t : ℕ) (ts : List ℕ) → Ascends ts → Ascends (put_time t ts)
put_ascends t [] up = (tt, tt)
put_ascends t (s ∷ ts) up = put_ascends_at t s ts (nat_lt t s) (nat_eq t s) refl refl up (put_ascends t ts up.1)

-- cut points ascend
pub cuts_ascend : (rows : List Row) → Ascends (cut_points rows)
cuts_ascend [] = tt
cuts_ascend (r ∷ rows) = put_ascends r.begin (put_time r.end (cut_points rows)) (put_ascends r.end (cut_points rows) (cuts_ascend rows))

either : (u t s : ℕ) (b : Bool) (a : Bool) → nat_eq t s ≡ true → cond (nat_eq u s) true a ≡ cond (nat_eq u t) true (cond (nat_eq u s) true a)
either u t s b true same = grind (arith, nat_tests)
either u t s b false same = grind (arith, nat_tests)

swapped : (b c a : Bool) → cond b true (cond c true a) ≡ cond c true (cond b true a)
swapped true true a = refl
swapped true false a = refl
swapped false true a = refl
swapped false false a = refl

among_put_at : (u t s : ℕ) (ts : List ℕ) (b c : Bool) → nat_eq t s ≡ c → among u (put_time t ts) ≡ cond (nat_eq u t) true (among u ts) → among u (cond b (t ∷ s ∷ ts) (cond c (s ∷ ts) (s ∷ put_time t ts))) ≡ cond (nat_eq u t) true (cond (nat_eq u s) true (among u ts))
among_put_at u t s ts true c h rest = refl
among_put_at u t s ts false true h rest = either u t s true (among u ts) h
among_put_at u t s ts false false h rest = ap (λ a. cond (nat_eq u s) true a) rest ∙ swapped (nat_eq u s) (nat_eq u t) (among u ts)

-- a time that is put is among the times
among_put : (u t : ℕ) (ts : List ℕ) → among u (put_time t ts) ≡ cond (nat_eq u t) true (among u ts)
among_put u t [] = refl
among_put u t (s ∷ ts) = among_put_at u t s ts (nat_lt t s) (nat_eq t s) refl (among_put u t ts)

turned : (t u : ℕ) → nat_eq t u ≡ nat_eq u t
turned t u = grind (arith, nat_tests)

counted_edges : (b c : Bool) (n : ℕ) → cond b true (cond c true (nat_lt 0 n)) ≡ nat_lt 0 (cond b 1 0 + cond c 1 0 + n)
counted_edges true c n = sym (lt-ltb 0 (1 + cond c 1 0 + n) (omega arith))
counted_edges false true n = sym (lt-ltb 0 (0 + 1 + n) (omega arith))
counted_edges false false n = ap (nat_lt 0) (omega arith)

-- a time is among the cut points where some begin or end stands
pub among_cuts : (t : ℕ) (rows : List Row) → among t (cut_points rows) ≡ is_cut_of rows t
among_cuts t [] = refl
among_cuts t (r ∷ rows) =
    let sum : edge_at t r + edges_of rows t ≡ edges_of (r ∷ rows) t = sym (sum_by-cons (edge_at t) r rows) in
    among_put t r.begin (put_time r.end (cut_points rows))
    ∙ (ap (λ a. cond (nat_eq t r.begin) true a) (among_put t r.end (cut_points rows))
    ∙ (ap (λ a. cond (nat_eq t r.begin) true (cond (nat_eq t r.end) true a)) (among_cuts t rows)
    ∙ (ap (λ b. cond b true (cond (nat_eq t r.end) true (is_cut_of rows t))) (turned t r.begin)
    ∙ (ap (λ b. cond (nat_eq r.begin t) true (cond b true (is_cut_of rows t))) (turned t r.end)
    ∙ (counted_edges (nat_eq r.begin t) (nat_eq r.end t) (edges_of rows t)
    ∙ ap (nat_lt 0) sum)))))

map_numbers : (f : ℕ → ℕ) (columns : List ℕ) → map (λ column. modular (f column)) columns ≡ map (λ n. Number (cast_signed w128 n)) (map (λ column. f column % 2 ^ 128) columns)
map_numbers f [] = refl
map_numbers f (column ∷ columns) = ap (λ rest. modular (f column) ∷ rest) (map_numbers f columns)

totals_are : (g : Grouping) (rows : List Row) (living : ℕ) (tally : Tally) → length rows ≡ living → map (λ column. sum_by (column_number column) rows % 2 ^ 128) g.totalled.sums ≡ tally.sums → extremes_of g.totalled rows ≡ tally.extremes
    → totals_of g rows ≡ totals g.counted living tally
totals_are g rows living tally e f h =
    ap (λ fields. cond g.counted (modular (length rows) ∷ []) [] ++ (fields ++ (filter_map (least_in rows) g.totalled.least ++ filter_map (greatest_in rows) g.totalled.greatest)))
    (map_numbers (λ column. sum_by (column_number column) rows) g.totalled.sums ∙ ap (λ ns. map (λ n. Number (cast_signed w128 n)) ns) f)
    ∙ (ap (λ fields. cond g.counted (modular (length rows) ∷ []) [] ++ (map (λ n. Number (cast_signed w128 n)) tally.sums ++ fields)) (sym (extremes_there g.totalled rows) ∙ ap (filter_map (λ (o : Option Field). o)) h)
    ∙ ap (λ n. totals g.counted n tally) e)

row_between_at : (g : Grouping) (key : List Field) (p q : ℕ) (rows : List Row) (living : ℕ) (tally : Tally) → length rows ≡ living → totals_of g rows ≡ totals g.counted living tally
    → row_between g key p q rows ≡ cond (nat_eq living 0) [] (record { end = q; begin = p; payload = key ++ totals g.counted living tally } ∷ [])
row_between_at g key p q [] living tally e f = sym (ap {B = List Row} (λ b. cond b [] (record { end = q; begin = p; payload = key ++ totals g.counted living tally } ∷ [])) (eq-eqb living 0 (sym e)))
row_between_at g key p q (r ∷ rows) living tally e f =
    let some : nat_eq living 0 ≡ false = above_test living 0 (omega arith) in
    ap (λ y. record { end = q; begin = p; payload = key ++ y } ∷ []) f
    ∙ sym (ap {B = List Row} (λ b. cond b [] (record { end = q; begin = p; payload = key ++ totals g.counted living tally } ∷ [])) some)

spans_is : (begin end p q : ℕ) → p < q → (p < end → q ≤ end) → (nat_le begin p && nat_le q end) ≡ (nat_le begin p && nat_lt p end)
spans_is begin end p q h k = grind (arith, nat_tests)

-- between two neighbours the rows that span them are those that are valid at the first
row_of_two : (g : Grouping) (key : List Field) (rows : List Row) (p q : ℕ) → p < q → ((r : Row) → 0 < count_of r rows → p < r.end → q ≤ r.end)
    → row_between g key p q (filter (spans p q) rows) ≡ one_row g.counted key (living_of rows) (tally_of g.totalled rows) p q
row_of_two g key rows p q less ends =
    let chosen : filter (spans p q) rows ≡ filter (lives_at p) rows = filter_alike (spans p q) (lives_at p) rows (λ r there. spans_is r.begin r.end p q less (ends r there)) in
    let many : length (filter (spans p q) rows) ≡ living_of rows p = ap (λ (xs : List Row). length xs) chosen ∙ (length_is (filter (lives_at p) rows) ∙ sum_by-filter (λ _. 1) (lives_at p) rows) in
    let sums : map (λ column. sum_by (column_number column) (filter (spans p q) rows) % 2 ^ 128) g.totalled.sums ≡ (tally_of g.totalled rows p).sums =
    map_alike (λ column. sum_by (column_number column) (filter (spans p q) rows) % 2 ^ 128) (λ column. sum_by (part_at (column_number column) p) rows % 2 ^ 128) g.totalled.sums
    (λ column. ap (λ n. n % 2 ^ 128) (ap (sum_by (column_number column)) chosen ∙ sum_by-filter (column_number column) (lives_at p) rows)) in
    row_between_at g key p q (filter (spans p q) rows) (living_of rows p) (tally_of g.totalled rows p) many (totals_are g (filter (spans p q) rows) (living_of rows p) (tally_of g.totalled rows p) many sums (ap (extremes_of g.totalled) chosen))

next_end : (p q end : ℕ) (ts : List ℕ) → AllAbove q ts → p < q → among end (p ∷ q ∷ ts) ≡ true → p < end → q ≤ end
next_end p q end ts above less is over = elim (cases_lt end q) [
  | inl under ↦ absurd (false_not_true (among end (q ∷ ts)) (none_between end q ts above under) (sym (among_tail end p (q ∷ ts) (above_test end p over)) ∙ is))
  | inr not_under ↦ not_under
]

rest_ends : (p q end : ℕ) (ts : List ℕ) → p < q → q < end → among end (p ∷ q ∷ ts) ≡ true → among end (q ∷ ts) ≡ true
rest_ends p q end ts less over is = sym (among_tail end p (q ∷ ts) (above_test end p (omega arith))) ∙ is

-- the rows of a group along its cut points
along_cuts : (g : Grouping) (key : List Field) (rows : List Row) (p : ℕ) (ts : List ℕ) → Ascends (p ∷ ts) → ((r : Row) → 0 < count_of r rows → p < r.end → among r.end (p ∷ ts) ≡ true)
    → flat_map (λ n. row_between g key n.0 n.1 (filter (spans n.0 n.1) rows)) (neighbours (p ∷ ts)) ≡ rows_at g.counted key (living_of rows) (tally_of g.totalled rows) (p ∷ ts)
along_cuts g key rows p [] up ends = refl
along_cuts g key rows p (q ∷ ts) up ends =
    let less = up.0.0 in
    let first = row_of_two g key rows p q less (λ r there over. next_end p q r.end ts up.1.0 less (ends r there over) over) in
    let rest = along_cuts g key rows q ts up.1 (λ r there over. rest_ends p q r.end ts less over (ends r there (omega arith))) in
    ap (λ xs. xs ++ flat_map (λ n. row_between g key n.0 n.1 (filter (spans n.0 n.1) rows)) (neighbours (q ∷ ts))) first
    ∙ ap (λ xs. one_row g.counted key (living_of rows) (tally_of g.totalled rows) p q ++ xs) rest

segments_along : (g : Grouping) (key : List Field) (rows : List Row) (ts : List ℕ) → Ascends ts → ((r : Row) → 0 < count_of r rows → among r.end ts ≡ true)
    → flat_map (λ n. row_between g key n.0 n.1 (filter (spans n.0 n.1) rows)) (neighbours ts) ≡ rows_at g.counted key (living_of rows) (tally_of g.totalled rows) ts
segments_along g key rows [] up ends = refl
segments_along g key rows (p ∷ ts) up ends = along_cuts g key rows p ts up (λ r there over. ends r there)

-- the rows that a group makes are those between its cut points
pub segments_are : (g : Grouping) (key : List Field) (rows : List Row) → segments g key rows ≡ rows_at g.counted key (living_of rows) (tally_of g.totalled rows) (cut_points rows)
segments_are g key rows = segments_along g key rows (cut_points rows) (cuts_ascend rows) (λ r there. among_cuts r.end rows ∙ lt-ltb 0 (edges_of rows r.end) (edge_there rows r there))

-- what fits fits where the same cut points, and the same rows live
pub fits_alike : (counted : Bool) (key : List Field) (living living' : ℕ → ℕ) (tally tally' : ℕ → Tally) (is_cut is_cut' : ℕ → Bool) (r : Row)
    → ((t : ℕ) → r.begin ≤ t → t ≤ r.end → is_cut t ≡ is_cut' t) → living r.begin ≡ living' r.begin → tally r.begin ≡ tally' r.begin
    → Fits counted key living tally is_cut r → Fits counted key living' tally' is_cut' r
fits_alike counted key l l' s s' c c' r cuts lives summed fits =
    let order = fits.order in
    let some = fits.lives in
    record {
      starts = sym (cuts r.begin (omega arith) (omega arith)) ∙ fits.starts;
      ends = sym (cuts r.end (omega arith) (omega arith)) ∙ fits.ends;
      apart = λ t over under. sym (cuts t (omega arith) (omega arith)) ∙ fits.apart t over under;
      order = order;
      lives = omega arith;
      payload_is = fits.payload_is ∙ (ap (λ n. key ++ totals counted n (s r.begin)) lives ∙ ap (λ ns. key ++ totals counted (l' r.begin) ns) summed);
    }

-- a row that a group makes fits
pub segment_fits : (g : Grouping) (key : List Field) (rows : List Row) (r : Row) → 0 < count_of r (segments g key rows) → Fits g.counted key (living_of rows) (tally_of g.totalled rows) (is_cut_of rows) r
segment_fits g key rows r there =
    let there_at : 0 < count_of r (rows_at g.counted key (living_of rows) (tally_of g.totalled rows) (cut_points rows)) = omega (arith, there, ap (count_of r) (segments_are g key rows)) in
    fits_alike g.counted key (living_of rows) (living_of rows) (tally_of g.totalled rows) (tally_of g.totalled rows) (λ t. among t (cut_points rows)) (is_cut_of rows) r
    (λ t over under. among_cuts t rows) refl refl (fits_from_there g.counted key (living_of rows) (tally_of g.totalled rows) (cut_points rows) r (cuts_ascend rows) there_at)

-- and what fits it makes, once
pub fits_segment : (g : Grouping) (key : List Field) (rows : List Row) (r : Row) → Fits g.counted key (living_of rows) (tally_of g.totalled rows) (is_cut_of rows) r → count_of r (segments g key rows) ≡ 1
fits_segment g key rows r fits =
    ap (count_of r) (segments_are g key rows)
    ∙ there_from_fits g.counted key (living_of rows) (tally_of g.totalled rows) (cut_points rows) r (cuts_ascend rows)
    (fits_alike g.counted key (living_of rows) (living_of rows) (tally_of g.totalled rows) (tally_of g.totalled rows) (is_cut_of rows) (λ t. among t (cut_points rows)) r (λ t over under. sym (among_cuts t rows)) refl refl fits)

module _ (weight : Row → ℕ) where
  no_edge_first : (r : Row) (rows : List Row) (u : ℕ) → edges_of (r ∷ rows) u ≡ 0 → one_at r.begin u + one_at r.end u ≡ 0
  no_edge_first r rows u none = omega (arith, sum_by-cons (edge_at u) r rows, none)

  no_edge_rest : (r : Row) (rows : List Row) (u : ℕ) → edges_of (r ∷ rows) u ≡ 0 → edges_of rows u ≡ 0
  no_edge_rest r rows u none = omega (arith, sum_by-cons (edge_at u) r rows, none)

  -- where no begin and no end stands the same rows stay valid
  part_stays : (rows : List Row) (p t : ℕ) → p ≤ t → ((u : ℕ) → p < u → u ≤ t → edges_of rows u ≡ 0) → sum_by (part_at weight t) rows ≡ sum_by (part_at weight p) rows
  part_stays [] p t h none = refl
  part_stays (r ∷ rows) p t h none =
      let same : lives_at t r ≡ lives_at p r = still_valid r.begin r.end p t h
      (λ over under. omega (arith, no_edge_first r rows r.begin (none r.begin over under), one_here r.begin))
      (λ over under. omega (arith, no_edge_first r rows r.end (none r.end over under), one_here r.end)) in
      omega (arith, sum_by-cons (part_at weight t) r rows, sum_by-cons (part_at weight p) r rows, ap {B = ℕ} (λ b. cond b (weight r) 0) same, part_stays rows p t h (λ u over under. no_edge_rest r rows u (none u over under)))

  -- before all begins no row is valid
  none_yet : (rows : List Row) (t : ℕ) → ((u : ℕ) → u ≤ t → edges_of rows u ≡ 0) → sum_by (part_at weight t) rows ≡ 0
  none_yet [] t none = refl
  none_yet (r ∷ rows) t none = elim (cases_lt t r.begin) [
    | inl later ↦ omega (arith, sum_by-cons (part_at weight t) r rows, ap {B = ℕ} (λ b. cond b (weight r) 0) (not_valid_yet r.begin r.end t later), none_yet rows t (λ u under. no_edge_rest r rows u (none u under)))
    | inr begun ↦ absurd (omega (arith, no_edge_first r rows r.begin (none r.begin begun), one_here r.begin))
  ]

zeros : (f : ℕ → ℕ) (columns : List ℕ) → ((column : ℕ) → f column ≡ 0) → map f columns ≡ replicate (length columns) 0
zeros f [] h = refl
zeros f (column ∷ columns) h = ap (λ n. n ∷ map f columns) (h column) ∙ ap (λ ns. 0 ∷ ns) (zeros f columns h)

-- totals are what they are made of
pub tally_is : (asked : Totalled) (t u : ℕ) (xs ys : List Row) → ((w : List Field → ℕ) → sum_by (part_at (λ (r : Row). w r.payload) t) xs ≡ sum_by (part_at (λ (r : Row). w r.payload) u) ys) → tally_of asked xs t ≡ tally_of asked ys u
tally_is asked t u xs ys h =
    let sums = map_alike (λ column. sum_by (part_at (column_number column) t) xs % 2 ^ 128) (λ column. sum_by (part_at (column_number column) u) ys % 2 ^ 128) asked.sums (λ column. ap (λ n. n % 2 ^ 128) (h (λ payload. field_number (slice_get payload column)))) in
    let extremes = alive_alike asked t u xs ys h in
    λ i. record { sums = sums i; extremes = extremes i }

-- where no row is valid the totals are those of no rows
pub tally_none : (asked : Totalled) (t : ℕ) (rows : List Row) → ((w : List Field → ℕ) → sum_by (part_at (λ (r : Row). w r.payload) t) rows ≡ 0) → tally_of asked rows t ≡ no_totals asked
tally_none asked t rows h =
    let sums = zeros (λ column. sum_by (part_at (column_number column) t) rows % 2 ^ 128) asked.sums (λ column. ap (λ n. n % 2 ^ 128) (h (λ payload. field_number (slice_get payload column)))) in
    let extremes = extremes_alike asked (filter (lives_at t) rows) [] (λ w. sum_by-filter (λ (r : Row). w r.payload) (lives_at t) rows ∙ h w) in
    λ i. record { sums = sums i; extremes = extremes i }

-- the rows of a group stay valid between its cut points
pub group_stays : (asked : Totalled) (rows : List Row) → StaysBetweenCuts (no_totals asked) (edges_of rows) (living_of rows) (tally_of asked rows)
group_stays asked rows = record {
  living_stays = λ p t h none. part_stays (λ _. 1) rows p t h none;
  sums_stay = λ p t h none. tally_is asked t p rows rows (λ w. part_stays (λ (r : Row). w r.payload) rows p t h none);
  none_live = λ t none. none_yet (λ _. 1) rows t none;
  none_summed = λ t none. tally_none asked t rows (λ w. none_yet (λ (r : Row). w r.payload) rows t none);
}

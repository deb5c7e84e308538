-- The rows of a node's result have as many fields as its types say.
use Rattle.std.proofs.Common.{◌≡◌, ℕ, zero, suc, ◌<◌, arith, length, get_or, List, [], ◌∷◌, ◌++◌, Bool, true, false, cond, ◌&&◌, refl, ap, subst, sym, ◌∙◌}
use Rattle.std.specs.Prelude.{All, sum_by, Option, Some, None, map, replicate, nat_lt, min, max}
use Rattle.std.specs.List.{cons_option, filter, filter_map, flat_map, AllByRecursion}
use Rattle.std.specs.declared.cmp.Ordering.{Ordering}
use Rattle.std.specs.Ordering.{is_gt}
use Rattle.std.proofs.lemmas.List.{length-append, length-map, append-nil}
use Rattle.std.proofs.lemmas.List.Elements.{All-head, All-tail}
use Rattle.cedr_base.specs.declared.field.Field.{Field}
use Rattle.cedr_base.specs.declared.field.FieldType.{FieldType}
use Rattle.cedr_base.specs.declared.field.FieldType.TheVariants as field_type
use Rattle.cedr_base.specs.declared.interval.Interval.{Interval}
use Rattle.cedr_base.specs.declared.row.Row.{Row}
use Rattle.cedr_base.specs.Order.{field_cmp}
use Rattle.change_laws.specs.Times.{later}
use Rattle.cedr_expr.specs.declared.test.Test.{Test}
use Rattle.cedr_expr.specs.Columns.{kept_columns}
use Rattle.cedr_expr.specs.Tests.{passes}
use Rattle.cedr_expr.specs.Types.{keep_fault_of}
use Rattle.cedr_expr.proofs.TypeLemmas.{kept_within}
use Rattle.cedr_living.specs.Fields.{first_of, first_by, field_cmp_back}
use Rattle.cedr_plan.specs.declared.plan.NodeKind.{NodeKind}
use Rattle.cedr_plan.specs.declared.plan.NodeKind.TheVariants as kind
use Rattle.cedr_plan.specs.Nodes.{first_port, all_ports, like_first, count_types, group_types}
use Rattle.cedr_plan.specs.Places.{is_source}
use Rattle.cedr_plan.specs.Rules.{FitsPorts, HasTypes}
use Rattle.cedr_table.specs.Operators.{Tables, table_at}
use Rattle.cedr_table.specs.Choices.{choices, chosen}
use Rattle.cedr_table.specs.RowWise.{lives, row_during}
use Rattle.op_row.specs.Rows.{selected, projected}
use Rattle.op_row.specs.Unions.{united}
use Rattle.op_life.specs.Lifetimes.{with_life, windowed, shifted, hopped, started, ended}
use Rattle.op_join.specs.Joins.{joined_rows}
use Rattle.op_except.specs.Parts.{row_until, row_since, parts, matching, excepted}
use Rattle.op_group.specs.Groups.{Grouping, grouping_by, key_of, distinct, rows_of, cut_points, neighbours, spans, modular, column_number, same_payload, column_fields, least_in, greatest_in, totals_of, row_between, segments, grouped}
use Rattle.op_node.specs.Meanings.{node_meaning}
use Rattle.op_node.specs.Ready.{IsReady}
use Rattle.pat_state.specs.Ascending.{ascends, payloads_joined, choice_row, sequence}
use Rattle.pat_unless.specs.Blocking.{is_blocked_by, waited, unblocked}
use Rattle.pat_atleast.specs.Arrangements.{some_of}
use Rattle.pat_atleast.specs.AtLeasts.{by_begin, together, at_least}
use Rattle.plan_keys.specs.Keys.{KeyedPort, AreWide, FitPorts}
use Rattle.plan_keys.proofs.Columns.{there, kept_length}
use Rattle.plan_keys.proofs.Ties.{RowsFit}
use Rattle.plan_keys.proofs.Chosen.{all_append, all_made, all_mapped, choices_fit}
use Rattle.plan_keys.proofs.Kept.{distinct_have}
use Rattle.plan_keys.proofs.Several.{some_fit, ordered_fit}

-- a port of rows of these types
abbrev pub typed : List FieldType → KeyedPort
typed types = record { column = 0; width = length types }

-- rows of a width make rows of one, one by one
each_wide : (v w : ℕ) (f : Row → List Row) → ((r : Row) → length r.payload ≡ v → AreWide w (f r)) → (rows : List Row) → AreWide v rows → AreWide w (flat_map f rows)
each_wide v w f keeps rows wide = all_made (λ (r : Row). length r.payload ≡ v) (λ (r : Row). length r.payload ≡ w) f rows wide keeps

first_wide : (ports : List (List FieldType)) (tables : Tables) → FitPorts (map typed ports) tables → AreWide (length (first_port ports)) (table_at tables 0)
first_wide [] [] fit = tt
first_wide [] (t ∷ ts) fit = absurd fit
first_wide (p ∷ ports) [] fit = absurd fit
first_wide (p ∷ ports) (t ∷ ts) fit = fit.0

one_or_none : (w : ℕ) (r : Row) (b : Bool) → length r.payload ≡ w → AreWide w (cond b (r ∷ []) [])
one_or_none w r true wide = (wide, tt)
one_or_none w r false wide = tt

none_or_one : (w : ℕ) (rows : List Row) (b : Bool) → AreWide w rows → AreWide w (cond b [] rows)
none_or_one w rows true wide = tt
none_or_one w rows false wide = wide

waited_wide : (w scope hold : ℕ) (a : Row) → length a.payload ≡ w → AreWide w (waited scope hold a)
waited_wide w scope hold a wide = let life : Interval = record { begin = later a.begin scope; end = later (later a.begin scope) hold } in one_or_none w (row_during life a.payload) (lives life) wide

parts_wide : (w : ℕ) (x : Row) (bs : List Row) → length x.payload ≡ w → AreWide w (parts x bs)
parts_wide w x [] wide = one_or_none w x (nat_lt x.begin x.end) wide
parts_wide w x (b ∷ bs) wide = all_append (λ (r : Row). length r.payload ≡ w) (parts (row_until b.begin x) bs) (parts (row_since b.end x) bs) (parts_wide w (row_until b.begin x) bs wide) (parts_wide w (row_since b.end x) bs wide)

united_wide : (types : List FieldType) (ports : List (List FieldType)) (tables : Tables) → All (λ (p : List FieldType). p ≡ types) ports → FitPorts (map typed ports) tables → AreWide (length types) (united tables)
united_wide types [] [] alike fit = tt
united_wide types [] (t ∷ ts) alike fit = absurd fit
united_wide types (p ∷ ports) [] alike fit = absurd fit
united_wide types (p ∷ ports) (t ∷ ts) alike fit =
    let same = All-head (λ (q : List FieldType). q ≡ types) p ports alike in
    all_append (λ (r : Row). length r.payload ≡ length types) t (united ts) (subst (λ (q : List FieldType). AreWide (length q) t) same fit.0) (united_wide types ports ts (All-tail (λ (q : List FieldType). q ≡ types) p ports alike) fit.1)

joined_width : (ports : List (List FieldType)) (rows : List Row) → RowsFit (map typed ports) rows → length (payloads_joined rows) ≡ length (all_ports ports)
joined_width [] [] fit = refl
joined_width [] (r ∷ rows) fit = absurd fit
joined_width (p ∷ ports) [] fit = absurd fit
joined_width (p ∷ ports) (r ∷ rows) fit = omega (arith, length-append r.payload (payloads_joined rows), length-append p (all_ports ports), fit.0, joined_width ports rows fit.1)

-- what each choice of fitting rows gives
chosen_wide : (w : ℕ) (ports : List KeyedPort) (image : List Row → List Row) → ((rs : List Row) → RowsFit ports rs → AreWide w (image rs)) → (tables : Tables) → FitPorts ports tables → AreWide w (chosen image tables)
chosen_wide w ports image wide tables fit = all_made (RowsFit ports) (λ (r : Row). length r.payload ≡ w) image (choices tables) (choices_fit ports tables fit) wide

met_wide : (w begin end : ℕ) (payload : List Field) (b : Bool) → length payload ≡ w → AreWide w (cond b (record { end = end; begin = begin; payload = payload } ∷ []) [])
met_wide w begin end payload true wide = (wide, tt)
met_wide w begin end payload false wide = tt

join_wide : (tests : List Test) (ports : List (List FieldType)) (rs : List Row) → RowsFit (map typed ports) rs → AreWide (length (all_ports ports)) (joined_rows (passes tests) rs)
join_wide tests ports [] fit = tt
join_wide tests ports (a ∷ []) fit = tt
join_wide tests ports (a ∷ b ∷ []) fit =
    met_wide (length (all_ports ports)) (max a.begin b.begin) (min a.end b.end) (a.payload ++ b.payload) (passes tests a.payload b.payload && nat_lt (max a.begin b.begin) (min a.end b.end))
    (ap (λ (ys : List Field). length (a.payload ++ ys)) (sym (append-nil b.payload)) ∙ joined_width ports (a ∷ b ∷ []) fit)
join_wide tests ports (a ∷ b ∷ d ∷ rs) fit = tt

sequence_wide : (w scope : ℕ) (tests : List Test) (rs : List Row) → length (payloads_joined rs) ≡ w → AreWide w (sequence scope tests rs)
sequence_wide w scope tests [] wide = tt
sequence_wide w scope tests (e ∷ es) wide = one_or_none w (choice_row scope e es) (ascends e.begin (later e.begin scope) es && passes tests (payloads_joined (e ∷ es)) []) wide

repeated_width : (types : List FieldType) (n : ℕ) (rows : List Row) → RowsFit (replicate n (typed types)) rows → length (payloads_joined rows) ≡ length (all_ports (replicate n types))
repeated_width types zero [] fit = refl
repeated_width types zero (r ∷ rows) fit = absurd fit
repeated_width types (suc n) [] fit = absurd fit
repeated_width types (suc n) (r ∷ rows) fit = omega (arith, length-append r.payload (payloads_joined rows), length-append types (all_ports (replicate n types)), fit.0, repeated_width types n rows fit.1)

alike_wide : (types : List FieldType) (ports : List (List FieldType)) (tables : Tables) → All (λ (p : List FieldType). p ≡ types) ports → FitPorts (map typed ports) tables → AllByRecursion (AreWide (length types)) tables
alike_wide types [] [] alike fit = tt
alike_wide types [] (t ∷ ts) alike fit = absurd fit
alike_wide types (p ∷ ports) [] alike fit = absurd fit
alike_wide types (p ∷ ports) (t ∷ ts) alike fit = (
  subst (λ (q : List FieldType). AreWide (length q) t) (All-head (λ (q : List FieldType). q ≡ types) p ports alike) fit.0,
  alike_wide types ports ts (All-tail (λ (q : List FieldType). q ≡ types) p ports alike) fit.1,
)

at_least_wide : (types : List FieldType) (n scope : ℕ) (tests : List Test) (tables : Tables) → AllByRecursion (AreWide (length types)) tables → AreWide (length (all_ports (replicate n types))) (at_least n scope tests tables)
at_least_wide types n scope tests tables wide =
    let w = length (all_ports (replicate n types)) in
    all_made (FitPorts (replicate n (typed types))) (λ (r : Row). length r.payload ≡ w) (chosen (together scope tests)) (some_of n tables) (some_fit (typed types) n tables wide)
    (λ ts fits. chosen_wide w (replicate n (typed types)) (together scope tests) (λ rs fit. sequence_wide w scope tests (by_begin rs) (repeated_width types n (by_begin rs) (ordered_fit (typed types) n rs fit))) ts fits)

columns_below : (columns : List ℕ) (width : ℕ) → ((k : ℕ) → k < length columns → get_or columns k 0 < width) → AllByRecursion (λ k. k < width) columns
columns_below [] width below = tt
columns_below (c ∷ columns) width below = (below 0 (omega arith), columns_below columns width (λ k h. below (suc k) (omega (arith, h))))

-- columns that fit some types are below their number
pub columns_there : (columns : List ℕ) (types : List FieldType) → keep_fault_of columns types ≡ None → AllByRecursion (λ k. k < length types) columns
columns_there columns types fits = columns_below columns (length types) (kept_within columns types fits)

first_some : (cmp : Field → Field → Ordering) (f : Field) (o : Option Field) → (x : Field) × (first_of cmp f o ≡ Some x)
first_some cmp f None = (f, refl)
first_some cmp f (Some g) = one (is_gt (cmp f g)) where
  one : (b : Bool) → (x : Field) × (cond b (Some g) (Some f) ≡ Some x)
  one true = (g, refl)
  one false = (f, refl)

first_there : (cmp : Field → Field → Ordering) (c : ℕ) (r : Row) (rows : List Row) → c < length r.payload → (x : Field) × (first_by cmp (column_fields (r ∷ rows) c) ≡ Some x)
first_there cmp c r rows inside =
    let field = there r.payload c inside in
    let some = first_some cmp field.0 (first_by cmp (column_fields rows c)) in
    (some.0, ap (λ o. first_by cmp (cons_option o (column_fields rows c))) field.1 ∙ some.1)

ranged_length : (cmp : Field → Field → Ordering) (columns : List ℕ) (width : ℕ) (r : Row) (rows : List Row) → length r.payload ≡ width → AllByRecursion (λ k. k < width) columns → length (filter_map (λ c. first_by cmp (column_fields (r ∷ rows) c)) columns) ≡ length columns
ranged_length cmp [] width r rows wide within = refl
ranged_length cmp (c ∷ columns) width r rows wide within =
    let inside = within.0 in
    let first = first_there cmp c r rows (omega arith) in
    ap (λ o. length (cons_option o (filter_map (λ d. first_by cmp (column_fields (r ∷ rows) d)) columns))) first.1 ∙ ap (λ n. suc n) (ranged_length cmp columns width r rows wide within.1)

all_filtered : {X : Type 0} (P : X → Type 0) (p : X → Bool) (xs : List X) → AllByRecursion P xs → AllByRecursion P (filter p xs)
all_filtered P p [] have = tt
all_filtered P p (x ∷ xs) have = one (p x) (all_filtered P p xs have.1) where
  one : (b : Bool) → AllByRecursion P (filter p xs) → AllByRecursion P (cond b (x ∷ filter p xs) (filter p xs))
  one true rest = (have.0, rest)
  one false rest = rest

counted_length : (count : Bool) (f : Field) → length (cond count (f ∷ []) []) ≡ length (count_types count)
counted_length true f = refl
counted_length false f = refl

module _ (keys : List ℕ) (count : Bool) (sums least greatest : List ℕ) (types : List FieldType) (keys_there : AllByRecursion (λ k. k < length types) keys) (least_there : AllByRecursion (λ k. k < length types) least) (greatest_there : AllByRecursion (λ k. k < length types) greatest) where
  abbrev grouping : Grouping
  grouping = grouping_by keys count sums least greatest

  abbrev Fits : Row → Type 0
  Fits r = length r.payload ≡ length types

  abbrev result_length : ℕ
  result_length = length (group_types keys count sums least greatest types)

  abbrev IsKey : List Field → Type 0
  IsKey key = length key ≡ length keys

  between_wide : (key : List Field) (p q : ℕ) (rows : List Row) → IsKey key → AllByRecursion Fits rows → AreWide result_length (row_between grouping key p q rows)
  between_wide key p q [] is wide = tt
  between_wide key p q (r ∷ rows) is wide =
      let all = r ∷ rows in
      let numbers = map (λ (c : ℕ). modular (sum_by (column_number c) all)) sums in
      let lows = filter_map (least_in all) least in
      let highs = filter_map (greatest_in all) greatest in
      let counts = cond count (modular (length all) ∷ []) [] in
      let kinds = map (λ (c : ℕ). field_type.Number) sums in
      let low_kinds = kept_columns least types in
      let high_kinds = kept_columns greatest types in (
        omega (
          arith,
          is,
          length-append key (totals_of grouping all),
          length-append counts (numbers ++ (lows ++ highs)),
          length-append numbers (lows ++ highs),
          length-append lows highs,
          counted_length count (modular (length all)),
          length-map sums (λ (c : ℕ). modular (sum_by (column_number c) all)),
          ranged_length field_cmp least (length types) r rows wide.0 least_there,
          ranged_length field_cmp_back greatest (length types) r rows wide.0 greatest_there,
          length-append (kept_columns keys types) (count_types count ++ (kinds ++ (low_kinds ++ high_kinds))),
          length-append (count_types count) (kinds ++ (low_kinds ++ high_kinds)),
          length-append kinds (low_kinds ++ high_kinds),
          length-append low_kinds high_kinds,
          length-map sums (λ (c : ℕ). field_type.Number),
          kept_length keys types (length types) refl keys_there,
          kept_length least types (length types) refl least_there,
          kept_length greatest types (length types) refl greatest_there,
        ),
        tt,
      )

  segments_wide : (key : List Field) (rows : List Row) (ns : List (ℕ × ℕ)) → IsKey key → AllByRecursion Fits rows → AreWide result_length (flat_map (λ (n : ℕ × ℕ). row_between grouping key n.0 n.1 (filter (spans n.0 n.1) rows)) ns)
  segments_wide key rows [] is wide = tt
  segments_wide key rows (n ∷ ns) is wide =
      all_append (λ (r : Row). length r.payload ≡ result_length) (row_between grouping key n.0 n.1 (filter (spans n.0 n.1) rows)) (flat_map (λ (n : ℕ × ℕ). row_between grouping key n.0 n.1 (filter (spans n.0 n.1) rows)) ns)
      (between_wide key n.0 n.1 (filter (spans n.0 n.1) rows) is (all_filtered Fits (spans n.0 n.1) rows wide)) (segments_wide key rows ns is wide)

  group_wide : (rows : List Row) → AllByRecursion Fits rows → AreWide result_length (grouped grouping rows)
  group_wide rows wide =
      all_made IsKey (λ (r : Row). length r.payload ≡ result_length) (λ key. segments grouping key (rows_of grouping key rows)) (distinct (map (key_of grouping) rows))
      (distinct_have IsKey (map (key_of grouping) rows) (all_mapped Fits IsKey (key_of grouping) rows wide (λ r w. kept_length keys r.payload (length types) w keys_there)))
      (λ key is. let mine = rows_of grouping key rows in segments_wide key mine (neighbours (cut_points mine)) is (all_filtered Fits (λ r. same_payload key (key_of grouping r)) rows wide))

-- a result of rows of its types' width is one where the types are known
of_types : (types known : List FieldType) (rows : List Row) → types ≡ known → AreWide (length known) rows → AreWide (length types) rows
of_types types known rows is wide = subst (λ (ts : List FieldType). AreWide (length ts) rows) (sym is) wide

alone : (ports : List (List FieldType)) → length ports ≡ 1 → (types : List FieldType) × (ports ≡ types ∷ [])
alone [] h = absurd (omega arith)
alone (p ∷ []) h = (p, refl)
alone (p ∷ q ∷ ports) h = absurd (omega arith)

project_wide : (keep : List ℕ) (p : List FieldType) (tables : Tables) → keep_fault_of keep (p ++ []) ≡ None → FitPorts (typed p ∷ []) tables → AreWide (length (kept_columns keep (p ++ []))) (flat_map (projected keep) (table_at tables 0))
project_wide keep p [] fits fit = absurd fit
project_wide keep p (t ∷ ts) fits fit =
    let there = columns_there keep (p ++ []) fits in
    let same : length p ≡ length (p ++ []) = omega (arith, length-append p []) in
    each_wide (length p) (length (kept_columns keep (p ++ []))) (projected keep) (λ r wide. (kept_length keep r.payload (length (p ++ [])) (wide ∙ same) there ∙ sym (kept_length keep (p ++ []) (length (p ++ [])) refl there), tt)) t fit.0

group_result : (keys : List ℕ) (count : Bool) (sums least greatest : List ℕ) (p : List FieldType) (tables : Tables) → keep_fault_of keys (p ++ []) ≡ None → keep_fault_of least (p ++ []) ≡ None → keep_fault_of greatest (p ++ []) ≡ None → FitPorts (typed p ∷ []) tables
    → AreWide (length (group_types keys count sums least greatest (p ++ []))) (grouped (grouping_by keys count sums least greatest) (table_at tables 0))
group_result keys count sums least greatest p [] k l g fit = absurd fit
group_result keys count sums least greatest p (t ∷ ts) k l g fit =
    group_wide keys count sums least greatest (p ++ []) (columns_there keys (p ++ []) k) (columns_there least (p ++ []) l) (columns_there greatest (p ++ []) g) t
    (subst (λ (q : List FieldType). AllByRecursion (λ (r : Row). length r.payload ≡ length q) t) (sym (append-nil p)) fit.0)

life_wide : (life : ℕ → ℕ → Interval) (ports : List (List FieldType)) (tables : Tables) → FitPorts (map typed ports) tables → AreWide (length (first_port ports)) (flat_map (with_life life) (table_at tables 0))
life_wide life ports tables fit =
    let w = length (first_port ports) in
    each_wide w w (with_life life) (λ r wide. one_or_none w (row_during (life r.begin r.end) r.payload) (lives (life r.begin r.end)) wide) (table_at tables 0) (first_wide ports tables fit)

-- each row of a result has as many fields as the node's types say
pub result_wide : (what : NodeKind) (count : ℕ) (ports : List (List FieldType)) (types : List FieldType) (tables : Tables) → is_source what ≡ false → IsReady what (length ports) → FitsPorts what ports → HasTypes what ports types → FitPorts (map typed ports) tables
    → AreWide (length types) ((node_meaning what count).result tables)
result_wide (kind.Source file) count ports types tables isnt ready fits is fit = cc
result_wide (kind.Select tests) count ports types tables isnt ready fits is fit =
    let w = length (first_port ports) in
    of_types types (first_port ports) _ is (each_wide w w (selected tests) (λ r wide. one_or_none w r (passes tests r.payload []) wide) (table_at tables 0) (first_wide ports tables fit))
result_wide (kind.Project keep) count ports types tables isnt ready fits is fit =
    let one = alone ports ready in
    of_types types (kept_columns keep (all_ports ports)) _ is
    (subst (λ (ps : List (List FieldType)). AreWide (length (kept_columns keep (all_ports ps))) (flat_map (projected keep) (table_at tables 0))) (sym one.1)
    (project_wide keep one.0 tables (subst (λ (ps : List (List FieldType)). keep_fault_of keep (all_ports ps) ≡ None) one.1 fits) (subst (λ (ps : List (List FieldType)). FitPorts (map typed ps) tables) one.1 fit)))
result_wide kind.Union count ports types tables isnt ready fits is fit = of_types types (first_port ports) _ is (united_wide (first_port ports) ports tables fits fit)
result_wide (kind.Join tests) count ports types tables isnt ready fits is fit = of_types types (all_ports ports) _ is (chosen_wide (length (all_ports ports)) (map typed ports) (joined_rows (passes tests)) (join_wide tests ports) tables fit)
result_wide (kind.Window width) count ports types tables isnt ready fits is fit = of_types types (first_port ports) _ is (life_wide (windowed width) ports tables fit)
result_wide (kind.Shift by) count ports types tables isnt ready fits is fit = of_types types (first_port ports) _ is (life_wide (shifted by) ports tables fit)
result_wide (kind.Hop every width) count ports types tables isnt ready fits is fit = of_types types (first_port ports) _ is (life_wide (hopped every width) ports tables fit)
result_wide kind.Starts count ports types tables isnt ready fits is fit = of_types types (first_port ports) _ is (life_wide started ports tables fit)
result_wide kind.Ends count ports types tables isnt ready fits is fit = of_types types (first_port ports) _ is (life_wide ended ports tables fit)
result_wide (kind.Group keys counts sums least greatest) count ports types tables isnt ready fits is fit =
    let one = alone ports ready in
    let on_one = λ (columns : List ℕ) (f : keep_fault_of columns (all_ports ports) ≡ None). subst (λ (ps : List (List FieldType)). keep_fault_of columns (all_ports ps) ≡ None) one.1 f in
    of_types types (group_types keys counts sums least greatest (all_ports ports)) _ is
    (subst (λ (ps : List (List FieldType)). AreWide (length (group_types keys counts sums least greatest (all_ports ps))) (grouped (grouping_by keys counts sums least greatest) (table_at tables 0))) (sym one.1)
    (group_result keys counts sums least greatest one.0 tables (on_one keys fits.0) (on_one least fits.2) (on_one greatest fits.3) (subst (λ (ps : List (List FieldType)). FitPorts (map typed ps) tables) one.1 fit)))
result_wide (kind.Sequence scope tests) count ports types tables isnt ready fits is fit =
    let w = length (all_ports ports) in
    of_types types (all_ports ports) _ is (chosen_wide w (map typed ports) (sequence scope tests) (λ rs f. sequence_wide w scope tests rs (joined_width ports rs f)) tables fit)
result_wide (kind.Unless scope hold tests) count ports types tables isnt ready fits is fit =
    let w = length (first_port ports) in
    of_types types (first_port ports) _ is
    (each_wide w w (unblocked scope hold tests (table_at tables 1)) (λ a wide. none_or_one w (waited scope hold a) (is_blocked_by scope tests (table_at tables 1) a) (waited_wide w scope hold a wide)) (table_at tables 0) (first_wide ports tables fit))
result_wide (kind.AtLeast number scope tests) count ports types tables isnt ready fits is fit =
    of_types types (all_ports (like_first number ports)) _ is (at_least_wide (first_port ports) number scope tests tables (alike_wide (first_port ports) ports tables fits.1 fit))
result_wide (kind.Except tests) count ports types tables isnt ready fits is fit =
    let w = length (first_port ports) in
    of_types types (first_port ports) _ is (each_wide w w (excepted tests (table_at tables 1)) (λ a wide. parts_wide w a (matching tests a (table_at tables 1)) wide) (table_at tables 0) (first_wide ports tables fit))
result_wide kind.Output count ports types tables isnt ready fits is fit = of_types types (first_port ports) _ is (first_wide ports tables fit)

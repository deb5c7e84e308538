-- A row of the result shows the key of its group.
use Rattle.std.proofs.Common.{◌≡◌, ℕ, zero, suc, ◌+◌, ◌%◌, ◌^◌, ◌<◌, ◌≤◌, inl, inr, List, [], ◌∷◌, ◌++◌, Bool, true, false, cond, length, take, max, refl, ap, sym, ◌∙◌, subst, arith}
use Rattle.std.specs.Prelude.{nat_lt, nat_le, map, sum_by, Option, None, Some, is_some}
use Rattle.std.specs.Int.{w128, cast_signed}
use Rattle.std.specs.List.{filter, filter_map, slice_get, cons_option}
use Rattle.std.specs.declared.cmp.Ordering.{Ordering}
use Rattle.std.specs.Ordering.{is_gt}
use Rattle.std.proofs.lemmas.Bool.{cases_lt, lt-ltb, le-ltb}
use Rattle.std.proofs.lemmas.Bool.Decides.{nat_tests}
use Rattle.std.proofs.lemmas.Option.{slice_get-get_or, slice_get_past}
use Rattle.std.proofs.lemmas.List.{length-map, take-append-le, take_all}
use Rattle.std.proofs.lemmas.List.Sums.{sum_by-cons}
use Rattle.cedr_base.specs.declared.field.Field.{Field}
use Rattle.cedr_base.specs.declared.field.Field.TheVariants.{Number, Bytes}
use Rattle.cedr_base.specs.declared.row.Row.{Row}
use Rattle.cedr_living.specs.Fields.{first_of, first_by}
use Rattle.op_group.specs.Groups.{Grouping, key_of, same_payload, rows_of, lives_at, column_fields, least_in, greatest_in}
use Rattle.op_group.specs.Cuts.{totals}
use Rattle.op_group.specs.Measures.{living_of, part_at, tally_of, extremes_of, Fits, columns_below, result_length, longest_for, above_columns, key_in}
use Rattle.op_group.specs.FilterLaws.{sum_by-filter}
use Rattle.op_group.specs.ExtremeLaws.{extremes_there}
use Rattle.op_group.specs.PayloadLaws.{payload_exact}
use Rattle.op_group.specs.LawWords.{longest_payload}

one_rises : (c m n : ℕ) → m ≤ n → cond (nat_lt c m) 1 0 ≤ cond (nat_lt c n) 1 0
one_rises c m n h = elim (cases_lt c m) [
  | inl less ↦ omega (arith, ap {B = ℕ} (λ b. cond b 1 0) (lt-ltb c m less), ap {B = ℕ} (λ b. cond b 1 0) (lt-ltb c n (omega arith)))
  | inr past ↦ omega (arith, ap {B = ℕ} (λ b. cond b 1 0) (le-ltb c m past))
]

-- longer payloads have more of some columns
below_rises : (m n : ℕ) (columns : List ℕ) → m ≤ n → columns_below m columns ≤ columns_below n columns
below_rises m n [] h = omega arith
below_rises m n (c ∷ columns) h = omega (
  arith,
  sum_by-cons (λ column. cond (nat_lt column m) 1 0) c columns,
  sum_by-cons (λ column. cond (nat_lt column n) 1 0) c columns,
  one_rises c m n h,
  below_rises m n columns h,
)

-- those that are longer than each column have all of them
below_all : (m n : ℕ) (columns : List ℕ) → sum_by suc columns ≤ m → m ≤ n → columns_below m columns ≡ columns_below n columns
below_all m n [] h k = refl
below_all m n (c ∷ columns) h k =
    let all : suc c + sum_by suc columns ≤ m = omega (arith, sum_by-cons suc c columns) in
    omega (
      arith,
      sum_by-cons (λ column. cond (nat_lt column m) 1 0) c columns,
      sum_by-cons (λ column. cond (nat_lt column n) 1 0) c columns,
      ap {B = ℕ} (λ b. cond b 1 0) (lt-ltb c m (omega arith)),
      ap {B = ℕ} (λ b. cond b 1 0) (lt-ltb c n (omega arith)),
      below_all m n columns (omega arith) k,
    )

-- a payload has a column that is below its length
has_column : (xs : List Field) (c : ℕ) → is_some (slice_get xs c) ≡ nat_lt c (length xs)
has_column xs c = elim (cases_lt c (length xs)) [
  | inl less ↦ ap (λ o. is_some o) (slice_get-get_or xs c (Bytes []) less) ∙ sym (lt-ltb c (length xs) less)
  | inr past ↦ ap (λ o. is_some o) (slice_get_past xs c past) ∙ sym (le-ltb c (length xs) past)
]

one_more : {X : Type 0} (o : Option X) (xs : List X) → length (cons_option o xs) ≡ cond (is_some o) 1 0 + length xs
one_more None xs = omega arith
one_more (Some x) xs = omega arith

made_length : (f : ℕ → Option Field) (n : ℕ) → ((c : ℕ) → is_some (f c) ≡ nat_lt c n) → (columns : List ℕ) → length (filter_map f columns) ≡ columns_below n columns
made_length f n h [] = refl
made_length f n h (c ∷ columns) = omega (
  arith,
  one_more (f c) (filter_map f columns),
  ap {B = ℕ} (λ b. cond b 1 0) (h c),
  sum_by-cons (λ column. cond (nat_lt column n) 1 0) c columns,
  made_length f n h columns,
)

first_some : (cmp : Field → Field → Ordering) (f : Field) (o : Option Field) → is_some (first_of cmp f o) ≡ true
first_some cmp f None = refl
first_some cmp f (Some g) = at (is_gt (cmp f g))
  where
    at : (b : Bool) → is_some (cond {A = Option Field} b (Some g) (Some f)) ≡ true
    at true = refl
    at false = refl

module _ (cmp : Field → Field → Ordering) where
  first_at : (c : ℕ) (r : Row) (rows : List Row) (o : Option Field) → slice_get r.payload c ≡ o → is_some (first_by cmp (column_fields rows c)) ≡ nat_lt c (longest_payload rows) → is_some (first_by cmp (cons_option o (column_fields rows c))) ≡ nat_lt c (max (length r.payload) (longest_payload rows))
  first_at c r rows None e rest =
      let past : nat_lt c (length r.payload) ≡ false = sym (has_column r.payload c) ∙ ap (λ o. is_some o) e in
      rest ∙ (grind (arith, nat_tests))
  first_at c r rows (Some f) e rest =
      let less : nat_lt c (length r.payload) ≡ true = sym (has_column r.payload c) ∙ ap (λ o. is_some o) e in
      first_some cmp f (first_by cmp (column_fields rows c)) ∙ (grind (arith, nat_tests))

  -- rows have fields in a column that is below the length of the longest payload
  has_first : (rows : List Row) (c : ℕ) → is_some (first_by cmp (column_fields rows c)) ≡ nat_lt c (longest_payload rows)
  has_first [] c = sym (le-ltb c 0 (omega arith))
  has_first (r ∷ rows) c = first_at c r rows (slice_get r.payload c) refl (has_first rows c)

abbrev AllHave : List ℕ → ℕ → List Row → Type 0
AllHave keys n [] = Unit {0}
AllHave keys n (r ∷ rows) = (columns_below (length r.payload) keys ≡ n) × AllHave keys n rows

longest_has : (keys : List ℕ) (n : ℕ) (r : Row) (rows : List Row) → AllHave keys n (r ∷ rows) → columns_below (longest_payload (r ∷ rows)) keys ≡ n
longest_has keys n r [] h = let same : max (length r.payload) 0 ≡ length r.payload = omega arith in ap (λ k. columns_below k keys) same ∙ h.0
longest_has keys n r (x ∷ rows) h = elim (cases_lt (length r.payload) (longest_payload (x ∷ rows))) [
  | inl less ↦ let same : max (length r.payload) (longest_payload (x ∷ rows)) ≡ longest_payload (x ∷ rows) = omega arith in ap (λ k. columns_below k keys) same ∙ longest_has keys n x rows h.1
  | inr not_less ↦ let same : max (length r.payload) (longest_payload (x ∷ rows)) ≡ length r.payload = omega arith in ap (λ k. columns_below k keys) same ∙ h.0
]

module _ (g : Grouping) (key : List Field) (t : ℕ) where
  abbrev alive : List Row → List Row
  alive rows = filter (lives_at t) (rows_of g key rows)

  have_at : (r : Row) (rows : List Row) (b c : Bool) → same_payload key (key_of g r) ≡ b → AllHave g.keys (length key) (alive rows) → AllHave g.keys (length key) (filter (lives_at t) (cond b (r ∷ rows_of g key rows) (rows_of g key rows)))
  have_at r rows true c e rest = own (lives_at t r)
    where
      own : (d : Bool) → AllHave g.keys (length key) (cond d (r ∷ alive rows) (alive rows))
      own true = (sym (made_length (slice_get r.payload) (length r.payload) (has_column r.payload) g.keys) ∙ ap (λ (k : List Field). length k) (sym (payload_exact key (key_of g r) e)), rest)
      own false = rest
  have_at r rows false c e rest = rest

  all_have : (rows : List Row) → AllHave g.keys (length key) (alive rows)
  all_have [] = tt
  all_have (r ∷ rows) = have_at r rows (same_payload key (key_of g r)) true refl (all_have rows)

  some_alive : (ps : List Row) → 0 < sum_by (λ _. 1) ps → AllHave g.keys (length key) ps → columns_below (longest_payload ps) g.keys ≡ length key
  some_alive [] some h = absurd (omega arith)
  some_alive (r ∷ ps) some h = longest_has g.keys (length key) r ps h

  -- the key of a group has as many fields as the longest of its rows has of the key's columns
  key_width : (rows : List Row) → 0 < living_of (rows_of g key rows) t → columns_below (longest_payload (alive rows)) g.keys ≡ length key
  key_width rows lives = some_alive (alive rows) (omega (arith, lives, sum_by-filter (λ _. 1) (lives_at t) (rows_of g key rows))) (all_have rows)

  totals_width_at : (rows : List Row) (living : ℕ) (b : Bool)
      → length (totals b living (tally_of g.totalled (rows_of g key rows) t)) ≡ cond b 1 0 + (length g.totalled.sums + (columns_below (longest_payload (alive rows)) g.totalled.least + columns_below (longest_payload (alive rows)) g.totalled.greatest))
  totals_width_at rows living b =
      let fields : length (filter_map (λ (o : Option Field). o) (extremes_of g.totalled (alive rows))) ≡ columns_below (longest_payload (alive rows)) g.totalled.least + columns_below (longest_payload (alive rows)) g.totalled.greatest = omega (
        arith,
        ap (λ (xs : List Field). length xs) (extremes_there g.totalled (alive rows)),
        Rattle.std.proofs.Common.length-append (filter_map (least_in (alive rows)) g.totalled.least) (filter_map (greatest_in (alive rows)) g.totalled.greatest),
        made_length (least_in (alive rows)) (longest_payload (alive rows)) (has_first Rattle.cedr_base.specs.Order.field_cmp (alive rows)) g.totalled.least,
        made_length (greatest_in (alive rows)) (longest_payload (alive rows)) (has_first Rattle.cedr_living.specs.Fields.field_cmp_back (alive rows)) g.totalled.greatest,
      ) in
      let numbers : length (map (λ n. Number (cast_signed w128 n)) (tally_of g.totalled (rows_of g key rows) t).sums) ≡ length g.totalled.sums =
      length-map (tally_of g.totalled (rows_of g key rows) t).sums (λ n. Number (cast_signed w128 n)) ∙ length-map g.totalled.sums (λ column. sum_by (part_at (Rattle.op_group.specs.Groups.column_number column) t) (rows_of g key rows) % 2 ^ 128) in
      by_count b numbers fields
    where
      by_count : (c : Bool) → length (map (λ n. Number (cast_signed w128 n)) (tally_of g.totalled (rows_of g key rows) t).sums) ≡ length g.totalled.sums
          → length (filter_map (λ (o : Option Field). o) (extremes_of g.totalled (alive rows))) ≡ columns_below (longest_payload (alive rows)) g.totalled.least + columns_below (longest_payload (alive rows)) g.totalled.greatest
          → length (totals c living (tally_of g.totalled (rows_of g key rows) t)) ≡ cond c 1 0 + (length g.totalled.sums + (columns_below (longest_payload (alive rows)) g.totalled.least + columns_below (longest_payload (alive rows)) g.totalled.greatest))
      by_count true e f = omega (arith, Rattle.std.proofs.Common.length-append (map (λ n. Number (cast_signed w128 n)) (tally_of g.totalled (rows_of g key rows) t).sums) (filter_map (λ (o : Option Field). o) (extremes_of g.totalled (alive rows))), e, f)
      by_count false e f = omega (arith, Rattle.std.proofs.Common.length-append (map (λ n. Number (cast_signed w128 n)) (tally_of g.totalled (rows_of g key rows) t).sums) (filter_map (λ (o : Option Field). o) (extremes_of g.totalled (alive rows))), e, f)

-- a row of the result has more fields where its rows are longer
length_rises : (g : Grouping) (m n : ℕ) → m ≤ n → result_length g m ≤ result_length g n
length_rises g m n h = omega (arith, below_rises m n g.keys h, below_rises m n g.totalled.least h, below_rises m n g.totalled.greatest h)

longest_most_at : (g : Grouping) (width bound n : ℕ) (b : Bool) → nat_le (result_length g (suc bound)) width ≡ b → n ≤ suc bound → result_length g n ≤ width → (n ≤ bound → n ≤ longest_for g width bound) → n ≤ cond b (suc bound) (longest_for g width bound)
longest_most_at g width bound n true is h fits rest = h
longest_most_at g width bound n false is h fits rest = elim (cases_lt bound n) [
  | inl over ↦
      let same : n ≡ suc bound = omega arith in
      let within : result_length g (suc bound) ≤ width = subst (λ k. result_length g k ≤ width) same fits in
      absurd (let test : nat_le (result_length g (suc bound)) width ≡ true = grind (arith, nat_tests) in let e : true ≡ false = sym test ∙ is in cc)
  | inr under ↦ rest under
]

longest_most : (g : Grouping) (width bound n : ℕ) → n ≤ bound → result_length g n ≤ width → n ≤ longest_for g width bound
longest_most g width zero n h fits = h
longest_most g width (suc bound) n h fits = longest_most_at g width bound n (nat_le (result_length g (suc bound)) width) refl h fits (λ under. longest_most g width bound n under fits)

longest_fits : (g : Grouping) (width bound : ℕ) → result_length g 0 ≤ width → result_length g (longest_for g width bound) ≤ width
longest_fits g width zero h = h
longest_fits g width (suc bound) h = at (nat_le (result_length g (suc bound)) width) refl (longest_fits g width bound h)
  where
    at : (b : Bool) → nat_le (result_length g (suc bound)) width ≡ b → result_length g (longest_for g width bound) ≤ width → result_length g (cond b (suc bound) (longest_for g width bound)) ≤ width
    at true is rest = grind (arith, nat_tests)
    at false is rest = rest

found_below : (g : Grouping) (width bound n : ℕ) → n ≤ bound → width ≡ result_length g n → columns_below (longest_for g width bound) g.keys ≡ columns_below n g.keys
found_below g width bound n h is =
    let low = longest_most g width bound n h (omega (arith, is)) in
    let high = longest_fits g width bound (omega (arith, is, length_rises g 0 n (omega arith))) in
    omega (
      arith,
      is,
      high,
      below_rises n (longest_for g width bound) g.keys low,
      below_rises n (longest_for g width bound) g.totalled.least low,
      below_rises n (longest_for g width bound) g.totalled.greatest low,
    )

-- how many fields a row of the result has tells how many are the key's
found : (g : Grouping) (width n : ℕ) → width ≡ result_length g n → columns_below (longest_for g width (above_columns g)) g.keys ≡ columns_below n g.keys
found g width n is = elim (cases_lt (above_columns g) n) [
  | inr under ↦ found_below g width (above_columns g) n under is
  | inl over ↦
      let keys = below_all (above_columns g) n g.keys (omega arith) (omega arith) in
      let least = below_all (above_columns g) n g.totalled.least (omega arith) (omega arith) in
      let greatest = below_all (above_columns g) n g.totalled.greatest (omega arith) (omega arith) in
      found_below g width (above_columns g) (above_columns g) (omega arith) (omega (arith, is, keys, least, greatest)) ∙ keys
]

-- a row between neighbouring cut points of a group has the key of that group
pub fits_key : (g : Grouping) (key : List Field) (rows : List Row) (is_cut : ℕ → Bool) (r : Row) → Fits g.counted key (living_of (rows_of g key rows)) (tally_of g.totalled (rows_of g key rows)) is_cut r → key_in g r ≡ key
fits_key g key rows is_cut r fits =
    let is = fits.payload_is in
    let own = key_width g key r.begin rows fits.lives in
    let rest = totals_width_at g key r.begin rows (living_of (rows_of g key rows) r.begin) g.counted in
    let wide : length r.payload ≡ result_length g (longest_payload (filter (lives_at r.begin) (rows_of g key rows))) = omega (
      arith,
      ap (λ (p : List Field). length p) is,
      Rattle.std.proofs.Common.length-append key (totals g.counted (living_of (rows_of g key rows) r.begin) (tally_of g.totalled (rows_of g key rows) r.begin)),
      own,
      rest,
    ) in
    let many : columns_below (longest_for g (length r.payload) (above_columns g)) g.keys ≡ length key = found g (length r.payload) (longest_payload (filter (lives_at r.begin) (rows_of g key rows))) wide ∙ own in
    ap (λ n. take n r.payload) many
    ∙ (ap (take (length key)) is
    ∙ (take-append-le (length key) key (totals g.counted (living_of (rows_of g key rows) r.begin) (tally_of g.totalled (rows_of g key rows) r.begin)) (omega arith) ∙ take_all (length key) key (omega arith)))

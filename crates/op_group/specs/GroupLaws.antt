-- The rows that all groups make, one by one.
use Rattle.std.proofs.Common.{◌≡◌, ℕ, ◌<◌, ◌≤◌, inl, inr, List, [], ◌∷◌, Bool, true, false, cond, refl, ap, sym, ◌∙◌, arith}
use Rattle.std.specs.Prelude.{nat_lt, map, sum_by, ◌||◌}
use Rattle.std.specs.List.{flat_map, list_any}
use Rattle.std.proofs.lemmas.Bool.{cases_lt}
use Rattle.std.proofs.lemmas.List.Sums.{sum_by-cons, sum_by-append}
use Rattle.cedr_base.specs.declared.field.Field.{Field}
use Rattle.cedr_base.specs.declared.row.Row.{Row}
use Rattle.cedr_base.specs.Rows.{one_if_same, count_of, SameRows}
use Rattle.change_laws.proofs.BagSums.{sum_by-same}
use Rattle.op_group.specs.Groups.{Grouping, key_of, same_payload, distinct, rows_of, segments, grouped}
use Rattle.op_group.specs.Measures.{edge_at, part_at, living_of, tally_of, is_cut_of, key_in, IsGroupRow}
use Rattle.op_group.specs.TimeLaws.{same_count}
use Rattle.op_group.specs.FilterLaws.{sum_by-filter}
use Rattle.op_group.specs.LawWords.{SameAlive}
use Rattle.op_group.specs.SegmentLaws.{fits_alike, segment_fits, fits_segment, tally_is}
use Rattle.op_group.specs.PayloadLaws.{payload_exact, payload_itself}
use Rattle.op_group.specs.KeyLaws.{fits_key}
use Rattle.op_group.specs.LawWords.{SameAt}

other_payload : (a b : List Field) (c : Bool) → same_payload a b ≡ c → c ≡ false → a ≡ b → ⊥
other_payload a b true h k e = cc
other_payload a b false h k e = let same = sym (ap (same_payload a) e) ∙ payload_itself a in cc

module _ (f : List Field → ℕ) (key : List Field) (only : (other : List Field) → 0 < f other → other ≡ key) where
  any_of : List (List Field) → Bool
  any_of keys = list_any (same_payload key) keys

  none_of_other : (k : List Field) → same_payload key k ≡ false → f k ≡ 0
  none_of_other k other = elim (cases_lt 0 (f k)) [
    | inl some ↦ absurd (other_payload key k (same_payload key k) refl other (sym (only k some)))
    | inr none ↦ omega arith
  ]

  distinct_at : (k : List Field) (keys : List (List Field)) (b c : Bool) → list_any (same_payload k) keys ≡ b → same_payload key k ≡ c
      → sum_by f (distinct keys) ≡ cond (list_any (same_payload key) keys) (f key) 0
      → sum_by f (cond b (distinct keys) (k ∷ distinct keys)) ≡ cond (c || list_any (same_payload key) keys) (f key) 0
  distinct_at k keys true true h e rest =
      let same = payload_exact key k e in
      let there : list_any (same_payload key) keys ≡ true = ap (λ j. list_any (same_payload j) keys) same ∙ h in
      rest ∙ ap {B = ℕ} (λ b. cond b (f key) 0) there
  distinct_at k keys true false h e rest = rest
  distinct_at k keys false true h e rest =
      let same = payload_exact key k e in
      let gone : list_any (same_payload key) keys ≡ false = ap (λ j. list_any (same_payload j) keys) same ∙ h in
      omega (arith, sum_by-cons f k (distinct keys), rest, ap {B = ℕ} (λ b. cond b (f key) 0) gone, ap f same)
  distinct_at k keys false false h e rest = omega (arith, sum_by-cons f k (distinct keys), rest, none_of_other k e)

  -- a sum over distinct keys, only one of which counts
  pub distinct_sum : (keys : List (List Field)) → sum_by f (distinct keys) ≡ cond (list_any (same_payload key) keys) (f key) 0
  distinct_sum [] = refl
  distinct_sum (k ∷ keys) = distinct_at k keys (list_any (same_payload k) keys) (same_payload key k) refl refl (distinct_sum keys)

none_chosen_at : (g : Grouping) (key : List Field) (r : Row) (rows : List Row) (b : Bool) → (b || list_any (same_payload key) (map (key_of g) rows)) ≡ false → (list_any (same_payload key) (map (key_of g) rows) ≡ false → rows_of g key rows ≡ []) → cond b (r ∷ rows_of g key rows) (rows_of g key rows) ≡ []
none_chosen_at g key r rows true h rest = cc
none_chosen_at g key r rows false h rest = rest h

-- a group whose key no row has is empty
none_chosen : (g : Grouping) (key : List Field) (rows : List Row) → list_any (same_payload key) (map (key_of g) rows) ≡ false → rows_of g key rows ≡ []
none_chosen g key [] h = refl
none_chosen g key (r ∷ rows) h = none_chosen_at g key r rows (same_payload key (key_of g r)) h (none_chosen g key rows)

empty_at : (g : Grouping) (key : List Field) (r : Row) (rows : List Row) (b : Bool) → list_any (same_payload key) (map (key_of g) rows) ≡ b → cond b (count_of r (segments g key (rows_of g key rows))) 0 ≡ count_of r (segments g key (rows_of g key rows))
empty_at g key r rows true h = refl
empty_at g key r rows false h = sym (ap (λ (xs : List Row). count_of r (segments g key xs)) (none_chosen g key rows h))

sum_flat_map : (r : Row) (f : List Field → List Row) (keys : List (List Field)) → count_of r (flat_map f keys) ≡ sum_by (λ k. count_of r (f k)) keys
sum_flat_map r f [] = refl
sum_flat_map r f (k ∷ keys) = omega (arith, sum_by-append (one_if_same r) (f k) (flat_map f keys), sum_by-cons (λ j. count_of r (f j)) k keys, sum_flat_map r f keys)

-- only one group may make a row
pub grouped_count : (g : Grouping) (rows : List Row) (r : Row) → count_of r (grouped g rows) ≡ count_of r (segments g (key_in g r) (rows_of g (key_in g r) rows))
grouped_count g rows r =
    sum_flat_map r (λ key. segments g key (rows_of g key rows)) (distinct (map (key_of g) rows))
    ∙ (distinct_sum (λ key. count_of r (segments g key (rows_of g key rows))) (key_in g r)
    (λ other some. sym (fits_key g other rows (is_cut_of (rows_of g other rows)) r (segment_fits g other (rows_of g other rows) r some)))
    (map (key_of g) rows)
    ∙ empty_at g (key_in g r) r rows (list_any (same_payload (key_in g r)) (map (key_of g) rows)) refl)

-- each row of the result is one that its group makes between neighbouring cut points
pub made_from_there : (g : Grouping) (rows : List Row) (r : Row) → 0 < count_of r (grouped g rows) → IsGroupRow g rows r
made_from_there g rows r there = segment_fits g (key_in g r) (rows_of g (key_in g r) rows) r (omega (arith, there, grouped_count g rows r))

-- a row that its group makes between neighbouring cut points is in the result, once
pub there_from_made : (g : Grouping) (rows : List Row) (r : Row) → IsGroupRow g rows r → count_of r (grouped g rows) ≡ 1
there_from_made g rows r made = grouped_count g rows r ∙ fits_segment g (key_in g r) (rows_of g (key_in g r) rows) r made

-- a group is the same at a time where as many begins and ends stand there, and a sum over the payloads of the rows that are
-- valid is the same
pub same_at : (g : Grouping) (key : List Field) (xs ys : List Row) (t : ℕ) → sum_by (edge_at t) (rows_of g key xs) ≡ sum_by (edge_at t) (rows_of g key ys) → SameAlive t (rows_of g key xs) (rows_of g key ys) → SameAt g key xs ys t
same_at g key xs ys t e alive = record { edges = e; living = alive (λ _. 1); totals = tally_is g.totalled t t (rows_of g key xs) (rows_of g key ys) alive }

-- where a group of one table is at a time the same as in another, it is so the other way round
pub same_back_at : (g : Grouping) (key : List Field) (xs ys : List Row) (t : ℕ) → SameAt g key xs ys t → SameAt g key ys xs t
same_back_at g key xs ys t same = record { edges = sym same.edges; living = sym same.living; totals = sym same.totals }

-- a row is made of two tables alike, where its group is the same all the while
pub made_alike : (g : Grouping) (xs ys : List Row) (r : Row) → ((t : ℕ) → r.begin ≤ t → t ≤ r.end → SameAt g (key_in g r) xs ys t) → IsGroupRow g xs r → IsGroupRow g ys r
made_alike g xs ys r same made =
    let key = key_in g r in
    let order = made.order in
    let first = same r.begin (omega arith) (omega arith) in
    fits_alike g.counted (key_in g r) (living_of (rows_of g (key_in g r) xs)) (living_of (rows_of g (key_in g r) ys)) (tally_of g.totalled (rows_of g (key_in g r) xs)) (tally_of g.totalled (rows_of g (key_in g r) ys))
    (is_cut_of (rows_of g (key_in g r) xs)) (is_cut_of (rows_of g (key_in g r) ys)) r
    (λ t over under. ap (nat_lt 0) (same t over under).edges) first.living first.totals made

-- a row is as often in the results of two tables where its group is the same from its begin to its end
pub count_alike : (g : Grouping) (xs ys : List Row) (r : Row) → ((t : ℕ) → r.begin ≤ t → t ≤ r.end → SameAt g (key_in g r) xs ys t) → count_of r (grouped g xs) ≡ count_of r (grouped g ys)
count_alike g xs ys r same = same_count (count_of r (grouped g xs)) (count_of r (grouped g ys))
    (λ some. there_from_made g ys r (made_alike g xs ys r same (made_from_there g xs r some)))
    (λ some. there_from_made g xs r (made_alike g ys xs r (λ t over under. same_back_at g (key_in g r) xs ys t (same t over under)) (made_from_there g ys r some)))

-- a sum over a group depends on the bag alone
pub group_sum : (g : Grouping) (key : List Field) (w : Row → ℕ) (xs ys : List Row) → SameRows xs ys → sum_by w (rows_of g key xs) ≡ sum_by w (rows_of g key ys)
group_sum g key w xs ys same =
    sum_by-filter w (λ r. same_payload key (key_of g r)) xs
    ∙ (sum_by-same (λ x. cond (same_payload key (key_of g x)) (w x) 0) xs ys same
    ∙ sym (sum_by-filter w (λ r. same_payload key (key_of g r)) ys))

-- two tables that are the same bag make the same result
pub same_grouped : (g : Grouping) (xs ys : List Row) → SameRows xs ys → SameRows (grouped g xs) (grouped g ys)
same_grouped g xs ys same = record {
  each = λ r. count_alike g xs ys r (λ t over under. same_at g (key_in g r) xs ys t (group_sum g (key_in g r) (edge_at t) xs ys same) (λ w. group_sum g (key_in g r) (part_at (λ (x : Row). w x.payload) t) xs ys same));
}

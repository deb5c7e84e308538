-- What a change of a group's rows makes of what is counted at each time.
use Rattle.std.proofs.Common.{◌≡◌, ℕ, ◌+◌, ◌-◌, ◌%◌, ◌^◌, ◌<◌, ◌≤◌, inl, inr, List, [], ◌∷◌, Bool, true, false, cond, refl, ap, sym, ◌∙◌, subst, arith, lit<}
use Rattle.std.specs.Prelude.{nat_lt, nat_le, ◌&&◌, map, sum_by, Option, Some, None}
use Rattle.std.specs.List.{filter, slice_get}
use Rattle.std.proofs.Math.Nat.{add-mod, mod-add-mod, add-mod_right}
use Rattle.std.proofs.lemmas.Nat.{mod_below}
use Rattle.std.proofs.lemmas.Bool.{cases_lt, lt-ltb, le-ltb}
use Rattle.std.proofs.lemmas.Bool.Decides.{nat_tests}
use Rattle.cedr_base.specs.declared.field.Field.{Field}
use Rattle.cedr_base.specs.declared.field.Field.TheVariants.{Number, Bytes}
use Rattle.cedr_base.specs.declared.row.Row.{Row}
use Rattle.cedr_base.specs.declared.change.Change.TheVariants.{Add, Cut}
use Rattle.cedr_base.specs.declared.change.Change.{Change}
use Rattle.cedr_base.specs.Changes.{IsChange, remnant, sync_of}
use Rattle.change_laws.specs.Repairs.{IsMoved}
use Rattle.change_laws.proofs.Moves.{sum_by-moved, remnant_some, remnant_none}
use Rattle.op_group.specs.declared.segment.Segment.{Segment}
use Rattle.op_group.specs.declared.segment.Totalled.{Totalled}
use Rattle.op_group.specs.Groups.{field_number, column_number, lives_at}
use Rattle.op_group.specs.Cuts.{ShowsCuts, one_at, summed, shifted_by, tally_shifted}
use Rattle.op_group.specs.Measures.{edge_at, part_at, edges_of, living_of, tally_of, extremes_of, no_totals}
use Rattle.op_group.specs.Tallies.{Tally}
use Rattle.op_group.specs.FilterLaws.{map_alike, sum_by-filter}
use Rattle.op_group.specs.LawWords.{SameAlive}
use Rattle.op_group.specs.SegmentLaws.{tally_is}
use Rattle.op_group.specs.Sides.{Passes}
use Rattle.op_group.specs.TimeLaws.{above_test, one_elsewhere, not_valid_yet}
use Rattle.op_group.specs.State.{since, ShowsFrom}
use Rattle.op_group.proofs.Shown.{shows_alike}
use Rattle.op_group.proofs.SinceLemmas.{Starts, since_there, since_before}
use Rattle.op_group.proofs.Turning.{group_outside}

-- a number that is added to a sum is below 2^128
number_fits : (o : Option Field) → field_number o < 2 ^ 128
number_fits None = lit< tt
number_fits (Some (Number n)) = mod_below _ (2 ^ 128) (lit< tt)
number_fits (Some (Bytes text)) = lit< tt

-- what adds a number modulo 2^128, and what takes it away
added_modular : (sum sum' n : ℕ) → sum' ≡ sum + n → sum' % 2 ^ 128 ≡ (sum % 2 ^ 128 + n) % 2 ^ 128
added_modular sum sum' n e = ap (λ k. k % 2 ^ 128) e ∙ sym (mod-add-mod sum (2 ^ 128) n)

taken_modular : (sum sum' n : ℕ) → n < 2 ^ 128 → sum' + n ≡ sum → sum' % 2 ^ 128 ≡ (sum % 2 ^ 128 + (2 ^ 128 - n) % 2 ^ 128) % 2 ^ 128
taken_modular sum sum' n small e =
    let whole : sum + (2 ^ 128 - n) ≡ sum' + 2 ^ 128 = omega arith in
    sym (sym (add-mod sum (2 ^ 128 - n) (2 ^ 128)) ∙ (ap (λ k. k % 2 ^ 128) whole ∙ add-mod_right sum' (2 ^ 128)))

summed_columns : (f g h : ℕ → ℕ) (columns : List ℕ) → ((column : ℕ) → h column ≡ (f column + g column) % 2 ^ 128) → map h columns ≡ summed (map f columns) (map g columns)
summed_columns f g h [] e = refl
summed_columns f g h (column ∷ columns) e = ap (λ n. n ∷ map h columns) (e column) ∙ ap (λ ns. ((f column + g column) % 2 ^ 128) ∷ ns) (summed_columns f g h columns e)

-- one more in a sum of parts
more_at : (b : Bool) (sum sum' : ℕ) → sum' + 0 ≡ sum + cond b 1 0 → sum' ≡ cond b (sum + 1) sum
more_at true sum sum' e = omega arith
more_at false sum sum' e = omega arith

more_sums : (b : Bool) (columns : List ℕ) (f f' n : ℕ → ℕ) → ((column : ℕ) → f' column ≡ f column + cond b (n column) 0)
    → map (λ column. f' column % 2 ^ 128) columns ≡ cond b (summed (map (λ column. f column % 2 ^ 128) columns) (map (λ column. shifted_by true (n column)) columns)) (map (λ column. f column % 2 ^ 128) columns)
more_sums true columns f f' n e = summed_columns (λ column. f column % 2 ^ 128) n (λ column. f' column % 2 ^ 128) columns (λ column. added_modular (f column) (f' column) (n column) (e column))
more_sums false columns f f' n e = map_alike (λ column. f' column % 2 ^ 128) (λ column. f column % 2 ^ 128) columns (λ column. ap (λ k. k % 2 ^ 128) (omega (arith, e column)))

fewer_at : (b : Bool) (sum sum' : ℕ) → sum' + cond b 1 0 ≡ sum → sum' ≡ cond b (sum - 1) sum
fewer_at true sum sum' e = omega arith
fewer_at false sum sum' e = omega arith

fewer_sums : (b : Bool) (columns : List ℕ) (f f' n : ℕ → ℕ) → ((column : ℕ) → n column < 2 ^ 128) → ((column : ℕ) → f' column + cond b (n column) 0 ≡ f column)
    → map (λ column. f' column % 2 ^ 128) columns ≡ cond b (summed (map (λ column. f column % 2 ^ 128) columns) (map (λ column. shifted_by false (n column)) columns)) (map (λ column. f column % 2 ^ 128) columns)
fewer_sums true columns f f' n small e = summed_columns (λ column. f column % 2 ^ 128) (λ column. shifted_by false (n column)) (λ column. f' column % 2 ^ 128) columns (λ column. taken_modular (f column) (f' column) (n column) (small column) (e column))
fewer_sums false columns f f' n small e = map_alike (λ column. f' column % 2 ^ 128) (λ column. f column % 2 ^ 128) columns (λ column. ap (λ k. k % 2 ^ 128) (omega (arith, e column)))

-- a function that is something else before a time and another function from it on
since_is : {X : Type 0} (from : ℕ) (before : X) (f g : ℕ → X) → ((t : ℕ) → t < from → f t ≡ before) → ((t : ℕ) → from ≤ t → f t ≡ g t) → (t : ℕ) → f t ≡ since from before g t
since_is from before f g early late t = elim (cases_lt t from) [
  | inl under ↦ early t under ∙ sym (since_before from before g t under)
  | inr over ↦ late t over ∙ sym (since_there from before g t over)
]

-- a change that is seen from the mark on leaves what stands before the mark
starts_after : (asked : Totalled) (c : Change) (old new : List Row) (mark from : ℕ) → IsChange c → IsMoved c old new → mark ≤ sync_of c → from ≤ mark → Starts old mark from → Starts new mark from
starts_after asked c old new mark from is moved late below (inl at_cut) = let low = at_cut.0 in inl (low, subst (λ (n : ℕ). 0 < n) (group_outside asked c old new from is moved (inl (omega arith))).0 at_cut.1)
starts_after asked c old new mark from is moved late below (inr quiet) = inr (λ t before. sym (group_outside asked c old new t is moved (inl (omega arith))).1 ∙ quiet t before)

-- the totals at a time after numbers were added to its sums, where it is one of those at which a row comes or goes
moved_tally : (asked : Totalled) (t : ℕ) (old new : List Row) (numbers : List ℕ) (b : Bool)
    → (tally_of asked new t).sums ≡ cond b (summed (tally_of asked old t).sums numbers) (tally_of asked old t).sums → (b ≡ false → SameAlive t old new)
    → cond b (tally_shifted numbers (extremes_of asked (filter (lives_at t) new)) (tally_of asked old t)) (tally_of asked old t) ≡ tally_of asked new t
moved_tally asked t old new numbers true sums same = λ i. record { sums = sym sums i; extremes = extremes_of asked (filter (lives_at t) new) }
moved_tally asked t old new numbers false sums same = tally_is asked t t old new (same refl)

-- what a map's totals are after numbers were added between two times
abbrev after_shift : Totalled → (ℕ → Bool) → List ℕ → ℕ → List Row → List Row → ℕ → Tally
after_shift asked touched numbers from old new t = cond (touched t) (tally_shifted numbers (extremes_of asked (filter (lives_at t) new)) (since from (no_totals asked) (tally_of asked old) t)) (since from (no_totals asked) (tally_of asked old) t)

shift_is : (asked : Totalled) (touched : ℕ → Bool) (numbers : List ℕ) (from : ℕ) (old new : List Row) → ((t : ℕ) → t < from → touched t ≡ false)
    → ((t : ℕ) → (tally_of asked new t).sums ≡ cond (touched t) (summed (tally_of asked old t).sums numbers) (tally_of asked old t).sums) → ((t : ℕ) → touched t ≡ false → SameAlive t old new)
    → (t : ℕ) → after_shift asked touched numbers from old new t ≡ since from (no_totals asked) (tally_of asked new) t
shift_is asked touched numbers from old new early sums same = since_is from (no_totals asked) (after_shift asked touched numbers from old new) (tally_of asked new)
    (λ t under.
    ap (λ b. cond b (tally_shifted numbers (extremes_of asked (filter (lives_at t) new)) (since from (no_totals asked) (tally_of asked old) t)) (since from (no_totals asked) (tally_of asked old) t)) (early t under)
    ∙ since_before from (no_totals asked) (tally_of asked old) t under)
    (λ t over.
    ap (λ ts. cond (touched t) (tally_shifted numbers (extremes_of asked (filter (lives_at t) new)) ts) ts) (since_there from (no_totals asked) (tally_of asked old) t over)
    ∙ moved_tally asked t old new numbers (touched t) (sums t) (same t))

-- a row that came
pub add_shows : (asked : Totalled) (mark from : ℕ) (cuts cuts' : List (ℕ × Segment)) (old new : List Row) (a : Row) (numbers : List ℕ) → ShowsFrom asked mark from cuts old → IsChange (Add a) → mark ≤ a.begin → IsMoved (Add a) old new → numbers ≡ map (λ column. shifted_by true (field_number (slice_get a.payload column))) asked.sums
    → ShowsCuts cuts' (λ t. since from 0 (edges_of old) t + one_at a.begin t + one_at a.end t) (λ t. cond (lives_at t a) (since from 0 (living_of old) t + 1) (since from 0 (living_of old) t)) (after_shift asked (λ t. lives_at t a) numbers from old new)
    → ShowsFrom asked mark from cuts' new
add_shows asked mark from cuts cuts' old new a numbers was is_row late moved is shows =
    let below = was.below in
    let row = is_row.lives in
    record {
      below = below;
      starts = starts_after asked (Add a) old new mark from is_row moved late below was.starts;
      shows = shows_alike cuts'
          (λ t. since from 0 (edges_of old) t + one_at a.begin t + one_at a.end t) (since from 0 (edges_of new))
          (λ t. cond (lives_at t a) (since from 0 (living_of old) t + 1) (since from 0 (living_of old) t)) (since from 0 (living_of new))
          (after_shift asked (λ t. lives_at t a) numbers from old new) (since from (no_totals asked) (tally_of asked new))
          (since_is from 0 (λ t. since from 0 (edges_of old) t + one_at a.begin t + one_at a.end t) (edges_of new)
          (λ t under. omega (arith, since_before from 0 (edges_of old) t under, one_elsewhere a.begin t (above_test a.begin t (omega arith)), one_elsewhere a.end t (above_test a.end t (omega arith))))
          (λ t over. omega (arith, since_there from 0 (edges_of old) t over, sum_by-moved (edge_at t) (Add a) old new moved.sums)))
          (since_is from 0 (λ t. cond (lives_at t a) (since from 0 (living_of old) t + 1) (since from 0 (living_of old) t)) (living_of new)
          (λ t under. ap (λ b. cond b (since from 0 (living_of old) t + 1) (since from 0 (living_of old) t)) (not_valid_yet a.begin a.end t (omega arith)) ∙ since_before from 0 (living_of old) t under)
          (λ t over. ap (λ n. cond (lives_at t a) (n + 1) n) (since_there from 0 (living_of old) t over)
          ∙ sym (more_at (lives_at t a) (living_of old t) (living_of new t) (omega (arith, sum_by-moved (part_at (λ _. 1) t) (Add a) old new moved.sums)))))
          (shift_is asked (λ t. lives_at t a) numbers from old new
          (λ t under. not_valid_yet a.begin a.end t (omega arith))
          (λ t. more_sums (lives_at t a) asked.sums (λ column. sum_by (part_at (column_number column) t) old) (λ column. sum_by (part_at (column_number column) t) new) (λ column. column_number column a) (λ column. omega (arith, sum_by-moved (part_at (column_number column) t) (Add a) old new moved.sums))
          ∙ ap (λ ns. cond (lives_at t a) (summed (tally_of asked old t).sums ns) (tally_of asked old t).sums) (sym is))
          (λ t dead w. omega (arith, sum_by-moved (part_at (λ (r : Row). w r.payload) t) (Add a) old new moved.sums, ap {B = ℕ} (λ b. cond b (w a.payload) 0) dead)))
          shows;
    }

-- a row is valid up to its earlier end, and from there on
parts_of : (begin end earlier t n : ℕ) → begin ≤ earlier → earlier < end → cond (nat_le begin t && nat_lt t end) n 0 ≡ cond (nat_le earlier t && nat_lt t end) n 0 + cond (nat_le begin t && nat_lt t earlier) n 0
parts_of begin end earlier t n low high = grind (arith, nat_tests)

dead : (begin earlier t : ℕ) → earlier ≤ begin → (nat_le begin t && nat_lt t earlier) ≡ false
dead begin earlier t h = grind (arith, nat_tests)

-- what is left of a cut row has its part up to the earlier end
remnant_part : (weight : Row → ℕ) (a : Row) (e t : ℕ) → weight (record a { end = e }) ≡ weight a → sum_by (part_at weight t) (remnant a e) ≡ cond (nat_le a.begin t && nat_lt t e) (weight a) 0
remnant_part weight a e t keeps = elim (cases_lt a.begin e) [
  | inl lives ↦ omega (arith, ap (sum_by (part_at weight t)) (remnant_some a e lives), ap {B = ℕ} (λ n. cond (nat_le a.begin t && nat_lt t e) n 0) keeps)
  | inr gone ↦ omega (arith, ap (sum_by (part_at weight t)) (remnant_none a e gone), ap {B = ℕ} (λ b. cond b (weight a) 0) (dead a.begin e t gone))
]

cut_part : (weight : Row → ℕ) (a : Row) (e t : ℕ) (old new : List Row) → weight (record a { end = e }) ≡ weight a → a.begin ≤ e → e < a.end → IsMoved (Cut a e) old new
    → sum_by (part_at weight t) new + cond (nat_le e t && nat_lt t a.end) (weight a) 0 ≡ sum_by (part_at weight t) old
cut_part weight a e t old new keeps low high moved =
    omega (arith, sum_by-moved (part_at weight t) (Cut a e) old new moved.sums, remnant_part weight a e t keeps, parts_of a.begin a.end e t (weight a) low high)

cut_edges_at : (n n' b t e end : ℕ) (lives : Bool) → n' + (one_at b t + one_at end t) ≡ n + cond lives (one_at b t + one_at e t) 0 → (n + cond lives (one_at e t) 0) - one_at end t - cond lives 0 (one_at b t) ≡ n'
cut_edges_at n n' b t e end true h = omega arith
cut_edges_at n n' b t e end false h = omega arith

-- before all times that a cut touches
no_edges_yet : (b : Bool) (n more less gone : ℕ) → n ≡ 0 → more ≡ 0 → (n + cond b more 0) - less - cond b 0 gone ≡ 0
no_edges_yet true n more less gone none nothing = omega arith
no_edges_yet false n more less gone none nothing = omega arith

remnant_edges : (a : Row) (e t : ℕ) → sum_by (edge_at t) (remnant a e) ≡ cond (nat_lt a.begin e) (one_at a.begin t + one_at e t) 0
remnant_edges a e t = elim (cases_lt a.begin e) [
  | inl lives ↦ omega (arith, ap (sum_by (edge_at t)) (remnant_some a e lives), ap {B = ℕ} (λ b. cond b (one_at a.begin t + one_at e t) 0) (lt-ltb a.begin e lives))
  | inr gone ↦ omega (arith, ap (sum_by (edge_at t)) (remnant_none a e gone), ap {B = ℕ} (λ b. cond b (one_at a.begin t + one_at e t) 0) (le-ltb a.begin e gone))
]

-- a row that was cut
pub cut_shows : (asked : Totalled) (mark from : ℕ) (cuts cuts' : List (ℕ × Segment)) (old new : List Row) (a : Row) (e : ℕ) (numbers : List ℕ) → ShowsFrom asked mark from cuts old → IsChange (Cut a e) → mark ≤ e → IsMoved (Cut a e) old new → numbers ≡ map (λ column. shifted_by false (field_number (slice_get a.payload column))) asked.sums
    → ShowsCuts cuts' (λ t. (since from 0 (edges_of old) t + cond (nat_lt a.begin e) (one_at e t) 0) - one_at a.end t - cond (nat_lt a.begin e) 0 (one_at a.begin t))
    (λ t. cond (nat_le e t && nat_lt t a.end) (since from 0 (living_of old) t - 1) (since from 0 (living_of old) t))
    (after_shift asked (λ t. nat_le e t && nat_lt t a.end) numbers from old new)
    → ShowsFrom asked mark from cuts' new
cut_shows asked mark from cuts cuts' old new a e numbers was is_cut late moved is shows =
    let below = was.below in
    let low = is_cut.1 in
    let high = is_cut.2 in
    record {
      below = below;
      starts = starts_after asked (Cut a e) old new mark from is_cut moved late below was.starts;
      shows = shows_alike cuts'
          (λ t. (since from 0 (edges_of old) t + cond (nat_lt a.begin e) (one_at e t) 0) - one_at a.end t - cond (nat_lt a.begin e) 0 (one_at a.begin t)) (since from 0 (edges_of new))
          (λ t. cond (nat_le e t && nat_lt t a.end) (since from 0 (living_of old) t - 1) (since from 0 (living_of old) t)) (since from 0 (living_of new))
          (after_shift asked (λ t. nat_le e t && nat_lt t a.end) numbers from old new) (since from (no_totals asked) (tally_of asked new))
          (since_is from 0 (λ t. (since from 0 (edges_of old) t + cond (nat_lt a.begin e) (one_at e t) 0) - one_at a.end t - cond (nat_lt a.begin e) 0 (one_at a.begin t)) (edges_of new)
          (λ t under. no_edges_yet (nat_lt a.begin e) (since from 0 (edges_of old) t) (one_at e t) (one_at a.end t) (one_at a.begin t) (since_before from 0 (edges_of old) t under) (one_elsewhere e t (above_test e t (omega arith))))
          (λ t over. ap (λ n. (n + cond (nat_lt a.begin e) (one_at e t) 0) - one_at a.end t - cond (nat_lt a.begin e) 0 (one_at a.begin t)) (since_there from 0 (edges_of old) t over)
          ∙ cut_edges_at (edges_of old t) (edges_of new t) a.begin t e a.end (nat_lt a.begin e) (omega (arith, sum_by-moved (edge_at t) (Cut a e) old new moved.sums, remnant_edges a e t))))
          (since_is from 0 (λ t. cond (nat_le e t && nat_lt t a.end) (since from 0 (living_of old) t - 1) (since from 0 (living_of old) t)) (living_of new)
          (λ t under. ap (λ b. cond b (since from 0 (living_of old) t - 1) (since from 0 (living_of old) t)) (not_valid_yet e a.end t (omega arith)) ∙ since_before from 0 (living_of old) t under)
          (λ t over. ap (λ n. cond (nat_le e t && nat_lt t a.end) (n - 1) n) (since_there from 0 (living_of old) t over)
          ∙ sym (fewer_at (nat_le e t && nat_lt t a.end) (living_of old t) (living_of new t) (cut_part (λ _. 1) a e t old new refl low high moved))))
          (shift_is asked (λ t. nat_le e t && nat_lt t a.end) numbers from old new
          (λ t under. not_valid_yet e a.end t (omega arith))
          (λ t. fewer_sums (nat_le e t && nat_lt t a.end) asked.sums (λ column. sum_by (part_at (column_number column) t) old) (λ column. sum_by (part_at (column_number column) t) new) (λ column. column_number column a) (λ column. number_fits (slice_get a.payload column)) (λ column. cut_part (column_number column) a e t old new refl low high moved)
          ∙ ap (λ ns. cond (nat_le e t && nat_lt t a.end) (summed (tally_of asked old t).sums ns) (tally_of asked old t).sums) (sym is))
          (λ t dead w. omega (arith, cut_part (λ (r : Row). w r.payload) a e t old new refl low high moved, ap {B = ℕ} (λ b. cond b (w a.payload) 0) dead)))
          shows;
    }

-- a row that came passes the rows that are valid while it is
pub add_passes : (a : Row) (old new : List Row) (t : ℕ) → IsMoved (Add a) old new → a.begin ≤ t → t < a.end → Passes true a.payload (filter (lives_at t) old) (filter (lives_at t) new)
add_passes a old new t moved low high w =
    let lives : lives_at t a ≡ true = grind (arith, nat_tests) in
    omega (
      arith,
      sum_by-filter (λ (r : Row). w r.payload) (lives_at t) old,
      sum_by-filter (λ (r : Row). w r.payload) (lives_at t) new,
      sum_by-moved (part_at (λ (r : Row). w r.payload) t) (Add a) old new moved.sums,
      ap {B = ℕ} (λ b. cond b (w a.payload) 0) lives,
    )

-- and so does one that was cut, from its earlier end on
pub cut_passes : (a : Row) (e : ℕ) (old new : List Row) (t : ℕ) → IsMoved (Cut a e) old new → a.begin ≤ e → e < a.end → e ≤ t → t < a.end → Passes false a.payload (filter (lives_at t) old) (filter (lives_at t) new)
cut_passes a e old new t moved begins ends low high w =
    let touched : (nat_le e t && nat_lt t a.end) ≡ true = grind (arith, nat_tests) in
    omega (
      arith,
      sum_by-filter (λ (r : Row). w r.payload) (lives_at t) old,
      sum_by-filter (λ (r : Row). w r.payload) (lives_at t) new,
      cut_part (λ (r : Row). w r.payload) a e t old new refl begins ends moved,
      ap {B = ℕ} (λ b. cond b (w a.payload) 0) touched,
    )

-- what a map shows from a time on has the least and the greatest fields of the rows
pub shown_extremes : (asked : Totalled) (from : ℕ) (rows : List Row) (t : ℕ) → from ≤ t → (since from (no_totals asked) (tally_of asked rows) t).extremes ≡ extremes_of asked (filter (lives_at t) rows)
shown_extremes asked from rows t low = ap (λ (ts : Tally). ts.extremes) (since_there from (no_totals asked) (tally_of asked rows) t low)

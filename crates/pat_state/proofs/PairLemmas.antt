-- What the search for choices of two rows finds.
use Rattle.std.proofs.Common.{◌≡◌, ℕ, zero, suc, ◌+◌, ◌-◌, List, [], ◌∷◌, ◌++◌, false, refl, ap, sym, ◌∙◌, arith}
use Rattle.std.specs.Prelude.{map, replicate, sum_by}
use Rattle.std.specs.List.{flat_map, filter}
use Rattle.std.proofs.lemmas.List.{append-nil}
use Rattle.cedr_base.specs.declared.row.Row.{Row}
use Rattle.cedr_base.specs.Rows.{count_of, one_if_same, SameRows}
use Rattle.cedr_base.proofs.Bags.{count_of-append}
use Rattle.change_laws.proofs.BagSums.{sum_by-flat_map}
use Rattle.cedr_table.specs.Counted.{spread}
use Rattle.cedr_expr.specs.declared.test.Test.{Test}
use Rattle.cedr_expr.specs.Tests.{passes}
use Rattle.pat_state.specs.Starts.{begins_within}
use Rattle.pat_state.specs.Tags.{IsSought}
use Rattle.pat_state.proofs.FlatLemmas.{flat_map-filter, flat_map-like, flat_map-map, no_copies}
use Rattle.pat_state.specs.Steps.{begun, next_passing, matches}
use Rattle.pat_state.proofs.FindLemmas.{fails_none, outside}
use Rattle.pat_state.proofs.PassingLemmas.{matching_grown}

-- copies of a row that fails the tests make nothing
pub fails_copies : (tests : List Test) (p r : Row) (count : ℕ) → passes tests p.payload r.payload ≡ false → flat_map (next_passing (passes tests) p) (replicate count r) ≡ []
fails_copies tests p r count h = no_copies (next_passing (passes tests) p) count r (fails_none (passes tests) p r h)

-- copies of a first row make as much as copies of the second one
pub first_copies : (scope : ℕ) (tests : List Test) (first second : Row) (count : ℕ) → flat_map (λ r. next_passing (passes tests) (begun scope r) second) (replicate count first) ≡ flat_map (next_passing (passes tests) (begun scope first)) (replicate count second)
first_copies scope tests first second zero = refl
first_copies scope tests first second (suc count) = ap (λ rows. next_passing (passes tests) (begun scope first) second ++ rows) (first_copies scope tests first second count)

second_sought : (scope : ℕ) (tests : List Test) (x q : Row) → IsSought (λ fields. passes tests x.payload fields) (λ r. count_of q (next_passing (passes tests) (begun scope x) r))
second_sought scope tests x q = record { endless = λ r end. refl; none = λ r h. ap (count_of q) (fails_none (passes tests) (begun scope x) r h) }

first_sought : (scope : ℕ) (tests : List Test) (x q : Row) → IsSought (λ fields. passes tests fields x.payload) (λ r. count_of q (next_passing (passes tests) (begun scope r) x))
first_sought scope tests x q = record { endless = λ r end. refl; none = λ r h. ap (count_of q) (fails_none (passes tests) (begun scope r) x h) }

-- the matches of a changed first row
seconds_match : (scope : ℕ) (tests : List Test) (x : Row) (lefts rights : List Row) → matches scope tests x 0 (lefts ∷ rights ∷ []) ≡ flat_map (next_passing (passes tests) (begun scope x)) rights
seconds_match scope tests x lefts rights = matching_grown tests (begun scope x ∷ []) rights ∙ append-nil (flat_map (next_passing (passes tests) (begun scope x)) rights)

-- the rows of the choices with a changed first row are found among those beside it
pub seconds_found : (scope : ℕ) (tests : List Test) (x p : Row) (lefts rights found : List Row) (some : List (Row × ℕ)) → p ≡ begun scope x → found ≡ flat_map (next_passing (passes tests) p) (spread some)
    → ((weight : Row → ℕ) → IsSought (λ fields. passes tests x.payload fields) weight → sum_by weight (filter (begins_within p.begin p.end) (spread some)) ≡ sum_by weight (filter (begins_within p.begin p.end) rights))
    → SameRows found (matches scope tests x 0 (lefts ∷ rights ∷ []))
seconds_found scope tests x p lefts rights found some is were sums = record {
  each = λ q.
      let f = next_passing (passes tests) (begun scope x) in
      let within = λ (rows : List Row). ap (λ (r : Row). filter (begins_within r.begin r.end) rows) is in
      let inside = λ (rows : List Row). flat_map-filter f f (begins_within (begun scope x).begin (begun scope x).end) rows (λ r may. refl) (λ r not. sym (outside (passes tests) (begun scope x) r not)) in
      let first = ap (count_of q) (were ∙ ap (λ (r : Row). flat_map (next_passing (passes tests) r) (spread some)) is) in
      let few = ap (count_of q) (ap (flat_map f) (within (spread some)) ∙ inside (spread some)) in
      let last = ap (count_of q) (ap (flat_map f) (within rights) ∙ (inside rights ∙ sym (seconds_match scope tests x lefts rights))) in
      omega (
        arith,
        first,
        few,
        last,
        sum_by-flat_map (one_if_same q) f (filter (begins_within p.begin p.end) (spread some)),
        sum_by-flat_map (one_if_same q) f (filter (begins_within p.begin p.end) rights),
        sums (λ r. count_of q (f r)) (second_sought scope tests x q),
      );
}

-- the matches of a changed second row
firsts_match : (scope : ℕ) (tests : List Test) (x : Row) (lefts rights : List Row) → matches scope tests x 1 (lefts ∷ rights ∷ []) ≡ flat_map (λ r. next_passing (passes tests) (begun scope r) x) (filter (begins_within (x.begin + 1 - scope) x.begin) lefts)
firsts_match scope tests x lefts rights =
    matching_grown tests (map (begun scope) (filter (begins_within (x.begin + 1 - scope) x.begin) lefts)) (x ∷ [])
    ∙ (flat_map-map (λ p. flat_map (next_passing (passes tests) p) (x ∷ [])) (begun scope) (filter (begins_within (x.begin + 1 - scope) x.begin) lefts)
    ∙ flat_map-like (λ r. flat_map (next_passing (passes tests) (begun scope r)) (x ∷ [])) (λ r. next_passing (passes tests) (begun scope r) x) (filter (begins_within (x.begin + 1 - scope) x.begin) lefts) (λ r. append-nil (next_passing (passes tests) (begun scope r) x)))

-- the rows of the choices with a changed second row are found among those beside it
pub firsts_found : (scope : ℕ) (tests : List Test) (x : Row) (from : ℕ) (lefts rights found : List Row) (tagged others : List (Row × ℕ)) → from ≡ x.begin + 1 - scope
    → found ≡ flat_map (λ r. next_passing (passes tests) (begun scope r) x) (spread tagged) ++ flat_map (λ r. next_passing (passes tests) (begun scope r) x) (spread others)
    → ((weight : Row → ℕ) → IsSought (λ fields. passes tests fields x.payload) weight → sum_by weight (spread tagged) + sum_by weight (spread others) ≡ sum_by weight (filter (begins_within from x.begin) lefts))
    → SameRows found (matches scope tests x 1 (lefts ∷ rights ∷ []))
firsts_found scope tests x from lefts rights found tagged others is were sums = record {
  each = λ q.
      let f = λ (r : Row). next_passing (passes tests) (begun scope r) x in
      let first = ap (count_of q) were in
      let last = ap (count_of q) (ap (λ (time : ℕ). flat_map f (filter (begins_within time x.begin) lefts)) is ∙ sym (firsts_match scope tests x lefts rights)) in
      omega (
        arith,
        first,
        last,
        count_of-append q (flat_map f (spread tagged)) (flat_map f (spread others)),
        sum_by-flat_map (one_if_same q) f (spread tagged),
        sum_by-flat_map (one_if_same q) f (spread others),
        sum_by-flat_map (one_if_same q) f (filter (begins_within from x.begin) lefts),
        sums (λ r. count_of q (f r)) (first_sought scope tests x q),
      );
}

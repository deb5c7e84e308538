-- Tests over a whole payload may be run before its last part is joined.
use Rattle.std.proofs.Common.{◌≡◌, List, [], ◌∷◌, ◌++◌, Bool, true, false, cond, refl, ap, sym, ◌∙◌}
use Rattle.std.specs.Prelude.{nat_lt, ◌&&◌}
use Rattle.std.specs.List.{flat_map, filter, slice_get}
use Rattle.std.proofs.lemmas.Bool.{and_parts}
use Rattle.std.proofs.lemmas.List.{append-nil}
use Rattle.std.proofs.lemmas.List.Elements.{filter-append}
use Rattle.cedr_base.specs.declared.field.Field.{Field}
use Rattle.cedr_base.specs.declared.row.Row.{Row}
use Rattle.cedr_expr.specs.declared.test.Operand.{Operand}
use Rattle.cedr_expr.specs.declared.test.Operand.TheVariants as operand
use Rattle.cedr_expr.specs.declared.test.Test.{Test}
use Rattle.cedr_expr.specs.Tests.{passes, test_holds, operand_value, both_pass}
use Rattle.pat_state.specs.Steps.{next, next_passing, grown, grown_passing, is_match}
use Rattle.pat_state.proofs.MatchLemmas.{longer}

-- columns count on through a right payload, so they are those of the joined one
value_joined : (o : Operand) (x y : List Field) → operand_value o x y ≡ operand_value o (x ++ y) []
value_joined (operand.Column place) x y = ap (λ fields. slice_get fields place) (sym (append-nil (x ++ y)))
value_joined (operand.Number n) x y = refl
value_joined (operand.Bytes text) x y = refl

test_joined : (test : Test) (x y : List Field) → test_holds test x y ≡ test_holds test (x ++ y) []
test_joined test x y = λ i. both_pass test.op (slice_get (sym (append-nil (x ++ y)) i) test.left) (value_joined test.right x y i)

-- tests pass for two payloads where they pass for the joined one
pub passes_joined : (tests : List Test) (x y : List Field) → passes tests x y ≡ passes tests (x ++ y) []
passes_joined [] x y = refl
passes_joined (test ∷ tests) x y = λ i. test_joined test x y i && passes_joined tests x y i

no_row : (b : Bool) → cond {A = List Row} b [] [] ≡ []
no_row true = refl
no_row false = refl

-- the row so far with one row more is a match where that row passes
match_longer : (tests : List Test) (p r : Row) (b : Bool) → (nat_lt p.begin r.begin && nat_lt r.begin p.end) ≡ b → filter (is_match tests) (cond b (longer p r ∷ []) []) ≡ cond (b && passes tests p.payload r.payload) (longer p r ∷ []) []
match_longer tests p r true may =
    let within = (and_parts (nat_lt p.begin r.begin) (nat_lt r.begin p.end) may).1 in
    λ i. cond {A = List Row} (within i && sym (passes_joined tests p.payload r.payload) i) (longer p r ∷ []) []
match_longer tests p r false may = refl

matching_next : (tests : List Test) (p r : Row) → filter (is_match tests) (next p r) ≡ next_passing (passes tests) p r
matching_next tests p r = match_longer tests p r (nat_lt p.begin r.begin && nat_lt r.begin p.end) refl

-- what a test keeps of lists that follow one another
filter-flat_map : {X : Type 0} (test : Row → Bool) (f g : X → List Row) (xs : List X) → ((x : X) → filter test (f x) ≡ g x) → filter test (flat_map f xs) ≡ flat_map g xs
filter-flat_map test f g [] same = refl
filter-flat_map test f g (x ∷ xs) same = filter-append test (f x) (flat_map f xs) ∙ (λ i. same x i ++ filter-flat_map test f g xs same i)

-- the matches among the rows so far with one row more are those of the rows that pass
pub matching_grown : (tests : List Test) (so_far rows : List Row) → filter (is_match tests) (grown so_far rows) ≡ grown_passing (passes tests) so_far rows
matching_grown tests so_far rows = filter-flat_map (is_match tests) (λ p. flat_map (next p) rows) (λ p. flat_map (next_passing (passes tests) p) rows) so_far
    (λ p. filter-flat_map (is_match tests) (next p) (next_passing (passes tests) p) rows (λ r. matching_next tests p r))

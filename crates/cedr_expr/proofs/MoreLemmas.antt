-- Tests over payloads after which more columns come.
use Rattle.std.proofs.Common.{◌≡◌, ℕ, zero, suc, ◌+◌, ◌<◌, List, [], ◌∷◌, ◌++◌, Bool, true, false, not, length, refl, ap, sym, ◌∙◌, arith}
use Rattle.std.specs.Prelude.{nat_lt, ◌&&◌, ◌||◌}
use Rattle.std.specs.List.{slice_get}
use Rattle.std.proofs.lemmas.Bool.{ltb-true, and_parts}
use Rattle.std.proofs.lemmas.List.{append-nil, length-append}
use Rattle.cedr_base.specs.declared.field.Field.{Field}
use Rattle.cedr_expr.specs.declared.test.Operand.{Operand}
use Rattle.cedr_expr.specs.declared.test.Operand.TheVariants as operand
use Rattle.cedr_expr.specs.declared.test.Test.{Test}
use Rattle.cedr_expr.specs.Tests.{passes, may_pass, test_holds, operand_value, both_pass, operand_within, is_within}

first_columns : (xs ys : List Field) (place : ℕ) → place < length xs → slice_get (xs ++ ys) place ≡ slice_get xs place
first_columns [] ys place inside = absurd (omega (arith, inside))
first_columns (x ∷ xs) ys zero inside = refl
first_columns (x ∷ xs) ys (suc place) inside = first_columns xs ys place (omega (arith, inside))

module _ (x y z : List Field) where
  column_more : (place : ℕ) → place < length x + length y → slice_get (((x ++ y) ++ z) ++ []) place ≡ slice_get (x ++ y) place
  column_more place inside = ap (λ fields. slice_get fields place) (append-nil ((x ++ y) ++ z)) ∙ first_columns (x ++ y) z place (omega (arith, inside, length-append x y))

  value_more : (o : Operand) → operand_within (length x + length y) o ≡ true → operand_value o ((x ++ y) ++ z) [] ≡ operand_value o x y
  value_more (operand.Column place) within = column_more place (ltb-true place (length x + length y) within)
  value_more (operand.Number n) within = refl
  value_more (operand.Bytes text) within = refl

  holds_first : (test : Test) (b : Bool) → is_within (length x + length y) test ≡ b → test_holds test ((x ++ y) ++ z) [] ≡ true → (not b || test_holds test x y) ≡ true
  holds_first test false within holds = refl
  holds_first test true within holds =
      let parts = and_parts (nat_lt test.left (length x + length y)) (operand_within (length x + length y) test.right) within in
      let left = column_more test.left (ltb-true test.left (length x + length y) parts.0) in
      let right = value_more test.right parts.1 in
      sym (λ i. both_pass test.op (left i) (right i)) ∙ holds

  -- payloads of which the joined one passes the tests pass those whose columns they have
  pub passes_first : (tests : List Test) → passes tests ((x ++ y) ++ z) [] ≡ true → may_pass tests x y ≡ true
  passes_first [] pass = refl
  passes_first (test ∷ tests) pass =
      let parts = and_parts (test_holds test ((x ++ y) ++ z) []) (passes tests ((x ++ y) ++ z) []) pass in
      λ i. holds_first test (is_within (length x + length y) test) refl parts.0 i && passes_first tests parts.1 i

  -- and so payloads that fail one of these fail whatever comes after them
  pub fails_more : (tests : List Test) → may_pass tests x y ≡ false → passes tests ((x ++ y) ++ z) [] ≡ false
  fails_more tests fails = at (passes tests ((x ++ y) ++ z) []) refl where
    at : (b : Bool) → passes tests ((x ++ y) ++ z) [] ≡ b → passes tests ((x ++ y) ++ z) [] ≡ false
    at true is = absurd (let pass = passes_first tests is in cc)
    at false is = is

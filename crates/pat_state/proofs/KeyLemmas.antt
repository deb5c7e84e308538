-- Columns that tests want equal.
use Rattle.std.proofs.Common.{◌≡◌, ℕ, zero, suc, ◌<◌, List, [], ◌∷◌, ◌++◌, length, get_or, true, ap, sym, ◌∙◌, subst, arith}
use Rattle.std.specs.List.{slice_get}
use Rattle.std.proofs.lemmas.List.{append-nil}
use Rattle.cedr_expr.specs.declared.test.Op.{Op}
use Rattle.cedr_expr.specs.declared.test.Op.TheVariants.{Eq}
use Rattle.cedr_expr.specs.declared.test.Operand.{Operand}
use Rattle.cedr_expr.specs.declared.test.Operand.TheVariants as operand
use Rattle.cedr_expr.specs.declared.test.Test.{Test}
use Rattle.cedr_expr.specs.Tests.{passes, both_pass, operand_value, test_holds}
use Rattle.cedr_expr.proofs.TieLemmas.{equal_sides, both_true}
use Rattle.pat_state.specs.Keys.{IsWanted, AreEqual}

-- a test among some is wanted by them
pub wanted_at : (tests : List Test) (i : ℕ) (d : Test) → i < length tests → IsWanted tests (get_or tests i d)
wanted_at [] i d within = absurd (omega arith)
wanted_at (test ∷ tests) zero d within = λ joined h. (both_true (test_holds test joined []) (passes tests joined []) h).0
wanted_at (test ∷ tests) (suc i) d within = λ joined h. wanted_at tests i d (omega arith) joined (both_true (test_holds test joined []) (passes tests joined []) h).1

-- an equality test of two columns that is wanted makes them equal
pub wanted_equal : (tests : List Test) (test : Test) (other : ℕ) → test.op ≡ Eq → test.right ≡ operand.Column other → IsWanted tests test → AreEqual tests test.left other
wanted_equal tests test other is_eq is_column wanted = λ joined h.
    let same = append-nil joined in
    let holds = subst (λ (o : Operand). both_pass Eq (slice_get (joined ++ []) test.left) (operand_value o joined []) ≡ true) is_column
    (subst (λ (op : Op). both_pass op (slice_get (joined ++ []) test.left) (operand_value test.right joined []) ≡ true) is_eq (wanted joined h)) in
    let here = equal_sides (slice_get (joined ++ []) test.left) (slice_get (joined ++ []) other) holds in
    ap (λ fields. slice_get fields test.left) (sym same) ∙ (here ∙ ap (λ fields. slice_get fields other) same)

-- what equals a column by way of another one
pub equal_by : (tests : List Test) (column one other : ℕ) → AreEqual tests column one → AreEqual tests one other → AreEqual tests column other
equal_by tests column one other first second = λ joined h. first joined h ∙ second joined h

pub equal_turned : (tests : List Test) (one other : ℕ) → AreEqual tests one other → AreEqual tests other one
equal_turned tests one other same = λ joined h. sym (same joined h)

-- The words of operators, and the versions that know them.
use Rattle.std.proofs.Common.{◌≡◌, ℕ, ◌≤◌, Bool, true, false, List, [], ◌∷◌, Option, Some, cond, nat_le, bytes_eq, refl, subst}
use Rattle.std.specs.List.{find}
use Rattle.std.proofs.lemmas.Bool.{and_parts, leb-true}
use Rattle.cedr_plan.specs.Operators.{operator_row, operators, operator_of, goes_by}
use Rattle.cedr_plan.specs.declared.operator.Operator.{Operator}
use Rattle.cedr_plan.specs.declared.operator.Operator.TheVariants as operator

-- an operator's word is its own from its version on
pub word_is : (o : Operator) → operator_of (operator_row o).since (operator_row o).word ≡ Some o
word_is operator.Source = refl
word_is o = refl

here_or_behind : {X : Type 0} (p : X → Bool) (y x : X) (b : Bool) (rest : Option X) → p y ≡ b → cond b (Some y) rest ≡ Some x → (rest ≡ Some x → p x ≡ true) → p x ≡ true
here_or_behind p y x true rest e h behind = let same : y ≡ x = cc in subst (λ z. p z ≡ true) same e
here_or_behind p y x false rest e h behind = behind h

-- what a search finds passes its test
found_passes : {X : Type 0} (p : X → Bool) (xs : List X) (x : X) → find p xs ≡ Some x → p x ≡ true
found_passes p [] x h = cc
found_passes p (y ∷ ys) x h = here_or_behind p y x (p y) (find p ys) refl h (found_passes p ys x)

-- the operator that a word has in a version is known in it
pub known_in : (version : ℕ) (word : List ℕ) (o : Operator) → operator_of version word ≡ Some o → (operator_row o).since ≤ version
known_in version word o h =
    let both = and_parts (nat_le (operator_row o).since version) (bytes_eq (operator_row o).word word) (found_passes (goes_by version word) operators o h) in
    leb-true (operator_row o).since version both.0

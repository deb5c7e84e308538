use Rattle.std.proofs.Common.{◌≡◌, ℕ, ◌+◌, ◌<◌, List, ◌∷◌, length, drop, map, add-one, drop-cons, arith}
use Rattle.std.proofs.lemmas.Grind.{common_steps}
use Rattle.cedr_base.specs.declared.field.FieldType.TheVariants as field_type
use Rattle.cedr_plan.proofs.result.push_numbers.Goals as goal

-- one sum more has one number more
one_more : (sums : List ℕ) (i : ℕ) → i < length sums → map (λ _. field_type.Number) (drop i sums) ≡ field_type.Number ∷ map (λ _. field_type.Number) (drop (i + 1) sums)
one_more sums i within = rw (add-one, drop-cons sums i 0)

pub loop-sum-preserved : goal.loop-sum-preserved
loop-sum-preserved c = grind (arith, common_steps, one_more)

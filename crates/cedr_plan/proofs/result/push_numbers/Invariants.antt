use Rattle.std.proofs.Common.{◌≡◌, ◌++◌, drop, map}
use Rattle.cedr_base.specs.declared.field.FieldType.TheVariants as field_type
use Rattle.cedr_plan.proofs.result.push_numbers.Given as goal

abbrev pub invariant-loop-sum : goal.invariant-loop-sum
invariant-loop-sum l = l.types.items ++ map (λ _. field_type.Number) (drop l._sum-index l.sums) ≡ l.fn.types.items ++ map (λ _. field_type.Number) l.sums

use Rattle.std.proofs.Common.{◌≡◌, ◌++◌, drop}
use Rattle.cedr_plan.specs.CheckTexts.{types_text}
use Rattle.cedr_plan.proofs.check.put_types.Given as goal

abbrev pub invariant-loop-field_type : goal.invariant-loop-field_type
invariant-loop-field_type l = l.text.items ++ types_text (drop l.field_type-index l.types) ≡ l.fn.text.items ++ types_text l.types

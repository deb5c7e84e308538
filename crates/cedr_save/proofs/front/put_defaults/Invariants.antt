use Rattle.std.proofs.Common.{◌≡◌, ◌++◌, take}
use Rattle.cedr_save.specs.Fronts.{default_fields}
use Rattle.cedr_save.proofs.front.put_defaults.Given as goal

abbrev pub invariant-loop-field_type : goal.invariant-loop-field_type
invariant-loop-field_type l = l.line.items ≡ l.initial.line.items ++ default_fields (take l.field_type-index l.types)

use Rattle.std.proofs.Common.{◌≡◌, List, drop}
use Rattle.cedr_base.specs.declared.field.Field.{Field as AnyField}
use Rattle.cedr_base.specs.Stored.{AreCodesOf}
use Rattle.cedr_base.proofs.field_refs.behind.Given as goal

-- what is left are the codes of fields, and behind those that are still to be passed over come the ones asked for
abbrev pub invariant-loop-before : goal.invariant-loop-before
invariant-loop-before l = (fields : List AnyField) → AreCodesOf l.bytes fields → (rest : List AnyField) × (AreCodesOf l.rest rest × (drop l.before rest ≡ drop l.count fields))

abbrev pub decreases-loop-before : goal.decreases-loop-before
decreases-loop-before l = l.before

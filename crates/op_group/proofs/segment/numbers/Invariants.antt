use Rattle.std.proofs.Common.{◌≡◌, take}
use Rattle.std.specs.Prelude.{map}
use Rattle.std.specs.List.{slice_get}
use Rattle.op_group.specs.Groups.{field_number}
use Rattle.op_group.specs.Cuts.{shifted_by}
use Rattle.op_group.proofs.segment.numbers.Given as goal

abbrev pub invariant-loop-column : goal.invariant-loop-column
invariant-loop-column l = l.all.items ≡ map (λ column. shifted_by l.up (field_number (slice_get l.payload column))) (take l.column-index l.columns)

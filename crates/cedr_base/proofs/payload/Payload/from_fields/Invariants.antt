use Rattle.std.proofs.Common.{◌≡◌, take}
use Rattle.cedr_base.proofs.payload.Payload.from_fields.Given as goal

abbrev pub invariant-loop-field : goal.invariant-loop-field
invariant-loop-field l = l.writer ≡ take l.field-index l.field-items

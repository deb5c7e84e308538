use Rattle.std.proofs.Common.{◌≡◌, map}
use Rattle.cedr_base.specs.declared.field.Field.TheVariants.{Bytes}
use Rattle.cedr_base.specs.Order.{payload_cmp}
use Rattle.cedr_text.proofs.payload_text.compare_parts_with_fields.Given as goal

abbrev pub invariant-loop-field : goal.invariant-loop-field
invariant-loop-field l = record {
  can_next : (goal.iterator-loop-field).can_next l.field-iterator;
  is_finite : (goal.iterator-loop-field).is_finite l.field-iterator;
  same : payload_cmp (map (λ part. Bytes part) l.fn.parts) l.fn.fields ≡ payload_cmp (map (λ part. Bytes part) l.parts) l.field-iterator;
}

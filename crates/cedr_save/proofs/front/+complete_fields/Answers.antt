use Rattle.std.proofs.Common.{◌≡◌, List, ◌∷◌, sym, subst, rules}
use Rattle.std.specs.Prelude.{OnOk}
use Rattle.cedr_base.specs.declared.field.FieldType.{FieldType}
use Rattle.cedr_base.specs.Bytes.{comma}
use Rattle.cedr_save.specs.Fronts.{Completes, IsFieldsText}
use Rattle.cedr_save.proofs.CompletedFronts.{fields_whole, fields_completed, fields_next}
use Rattle.cedr_save.proofs.front.+complete_fields.Goals as goal

pub returns-in_default-cut_field-clause-whole : goal.returns-in_default-cut_field-clause-whole
returns-in_default-cut_field-clause-whole t c =
    fields_whole c.put_defaults.result c.args.text.now c.field_rest.result.now c.args.line.now.items c.push.new.self.items c.extend_from_slice.new.self.items c.extend_from_slice-in_default-cut_field.new.self.items c.put_defaults.new.line.items c.in-Some.others.now
    c.field_rest.ensures.whole c.in_ok-push.ensures.items c.in_ok-extend_from_slice.ensures.items c.in_ok-extend_from_slice-2.ensures.items c.put_defaults.ensures

pub returns-in_default-cut_field-clause-goes_on : goal.returns-in_default-cut_field-clause-goes_on
returns-in_default-cut_field-clause-goes_on t c =
    let parts : c.args.types.now ≡ c.in-Some.first.now ∷ c.in-Some.others.now = search rules in
    subst (λ (ts : List FieldType). OnOk c.put_defaults.result (Completes (IsFieldsText ts) (comma ∷ c.args.text.now) c.args.line.now.items c.put_defaults.new.line.items)) (sym parts)
    (fields_completed c.put_defaults.result c.in-Some.first.now c.in-Some.others.now c.args.text.now c.field_rest.result.now c.args.line.now.items c.push.new.self.items c.extend_from_slice.new.self.items c.extend_from_slice-in_default-cut_field.new.self.items c.put_defaults.new.line.items
    c.in_default-cut_field.ensures c.field_rest.ensures.goes_on c.in_ok-push.ensures.items c.in_ok-extend_from_slice.ensures.items c.in_ok-extend_from_slice-2.ensures.items c.put_defaults.ensures)

pub returns-clause-goes_on : goal.returns-clause-goes_on
returns-clause-goes_on t c =
    let parts : c.args.types.now ≡ c.in-Some.first.now ∷ c.in-Some.others.now = search rules in
    subst (λ (ts : List FieldType). OnOk c.complete_fields.result (Completes (IsFieldsText ts) (comma ∷ c.args.text.now) c.args.line.now.items c.complete_fields.new.line.items)) (sym parts)
    (fields_next c.complete_fields.result c.in-Some.first.now c.in-Some.others.now c.args.text.now c.in-Some-cut_field.field.now c.in-Some-cut_field.rest.now c.args.line.now.items c.push.new.self.items c.extend_from_slice-2.new.self.items c.complete_fields.new.line.items
    c.in-Some-cut_field.ensures c.in_ok-push.ensures.items c.in_ok-extend_from_slice-3.ensures.items c.complete_fields.ensures.goes_on)

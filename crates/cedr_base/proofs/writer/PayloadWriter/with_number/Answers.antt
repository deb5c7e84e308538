use Rattle.std.proofs.Common.{◌∙◌, ◌++◌, ◌∷◌, [], ap, to_z-of_z}
use Rattle.std.proofs.lemmas.Result.{IfOk-weaker}
use Rattle.cedr_base.specs.declared.field.Field.TheVariants.{Number}
use Rattle.cedr_base.specs.FieldCodes.{number_code}
use Rattle.cedr_base.proofs.StoredLemmas.{one_written}
use Rattle.cedr_base.proofs.writer.PayloadWriter.with_number.Goals as goal

pub counted-requires : goal.counted-requires
counted-requires c = (c.self.inside.held.0 ++ (Number c.args.number) ∷ [], one_written c.self.inside.code c.push_number.new.out c.self.inside.width c.self.inside.held.0 (Number c.args.number) c.self.inside.held.1 c.ranges.number (c.in_ok-push_number.ensures ∙ ap (λ n. c.self.inside.code ++ number_code n) (to_z-of_z c.ranges.number)))

pub returns : goal.returns
returns c =
    IfOk-weaker c.counted.result _ _
    (λ w made. made (c.self.inside.held.0 ++ (Number c.args.number) ∷ []) (one_written c.self.inside.code c.push_number.new.out c.self.inside.width c.self.inside.held.0 (Number c.args.number) c.self.inside.held.1 c.ranges.number (c.in_ok-push_number.ensures ∙ ap (λ n. c.self.inside.code ++ number_code n) (to_z-of_z c.ranges.number))) ∙ ap (λ fs. fs ++ (Number c.args.number) ∷ []) c.self.view_is)
    c.counted.ensures

use Rattle.std.proofs.Common.{◌∙◌, ◌++◌, ◌∷◌, [], ap}
use Rattle.std.proofs.lemmas.Result.{IfOk-weaker}
use Rattle.cedr_base.specs.declared.field.Field.TheVariants.{Bytes}
use Rattle.cedr_base.proofs.StoredLemmas.{one_written}
use Rattle.cedr_base.proofs.writer.PayloadWriter.with_text.Goals as goal

pub counted-requires : goal.counted-requires
counted-requires c = (c.self.inside.held.0 ++ (Bytes c.args.text.now) ∷ [], one_written c.self.inside.code c.push_text.new.out c.self.inside.width c.self.inside.held.0 (Bytes c.args.text.now) c.self.inside.held.1 tt c.in_ok-push_text.ensures)

pub returns : goal.returns
returns c =
    IfOk-weaker c.counted.result _ _
    (λ w made. made (c.self.inside.held.0 ++ (Bytes c.args.text.now) ∷ []) (one_written c.self.inside.code c.push_text.new.out c.self.inside.width c.self.inside.held.0 (Bytes c.args.text.now) c.self.inside.held.1 tt c.in_ok-push_text.ensures) ∙ ap (λ fs. fs ++ (Bytes c.args.text.now) ∷ []) c.self.view_is)
    c.counted.ensures

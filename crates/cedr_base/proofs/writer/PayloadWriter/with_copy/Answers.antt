use Rattle.std.proofs.Common.{◌∙◌, ◌++◌, ◌∷◌, [], ap}
use Rattle.std.proofs.lemmas.Result.{IfOk-weaker}
use Rattle.cedr_base.proofs.StoredLemmas.{one_written}
use Rattle.cedr_base.proofs.writer.PayloadWriter.with_copy.Goals as goal

pub counted-requires : goal.counted-requires
counted-requires c = (c.self.inside.held.0 ++ c.args.field.now ∷ [], one_written c.self.inside.code c.extend.new.self c.self.inside.width c.self.inside.held.0 c.args.field.now c.self.inside.held.1 c.code.ensures.fits (c.in_ok-extend.ensures ∙ ap (λ xs. c.self.inside.code ++ xs) c.code.ensures.code))

pub returns : goal.returns
returns c =
    IfOk-weaker c.counted.result _ _
    (λ w made. made (c.self.inside.held.0 ++ c.args.field.now ∷ []) (one_written c.self.inside.code c.extend.new.self c.self.inside.width c.self.inside.held.0 c.args.field.now c.self.inside.held.1 c.code.ensures.fits (c.in_ok-extend.ensures ∙ ap (λ xs. c.self.inside.code ++ xs) c.code.ensures.code)) ∙ ap (λ fs. fs ++ c.args.field.now ∷ []) c.self.view_is)
    c.counted.ensures

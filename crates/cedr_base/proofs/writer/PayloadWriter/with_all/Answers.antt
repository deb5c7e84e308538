use Rattle.std.proofs.Common.{◌∙◌, ◌++◌, ap}
use Rattle.std.proofs.lemmas.Result.{IfOk-weaker}
use Rattle.cedr_base.proofs.StoredLemmas.{all_written}
use Rattle.cedr_base.proofs.writer.PayloadWriter.with_all.Goals as goal

pub counted-requires : goal.counted-requires
counted-requires c = (c.self.inside.held.0 ++ c.args.payload.now, all_written c.self.inside.code c.extend.new.self c.self.inside.width c.len.result c.self.inside.held.0 c.args.payload.now c.self.inside.held.1 c.code.ensures.fits (c.in_ok-extend.ensures ∙ ap (λ xs. c.self.inside.code ++ xs) c.code.ensures.code) c.len.ensures)

pub returns : goal.returns
returns c =
    IfOk-weaker c.counted.result _ _
    (λ w made. made (c.self.inside.held.0 ++ c.args.payload.now) (all_written c.self.inside.code c.extend.new.self c.self.inside.width c.len.result c.self.inside.held.0 c.args.payload.now c.self.inside.held.1 c.code.ensures.fits (c.in_ok-extend.ensures ∙ ap (λ xs. c.self.inside.code ++ xs) c.code.ensures.code) c.len.ensures) ∙ ap (λ fs. fs ++ c.args.payload.now) c.self.view_is)
    c.counted.ensures

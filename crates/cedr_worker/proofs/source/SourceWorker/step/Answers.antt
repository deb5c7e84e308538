use Rattle.std.proofs.Common.{sym, ◌∙◌}
use Rattle.std.specs.Vec.{with_items}
use Rattle.cedr_worker.proofs.SourceOutlets.{bare_length}
use Rattle.cedr_worker.proofs.SourceLemmas.{going_total, step_works, step_seen, may_pass}
use Rattle.cedr_worker.proofs.source.SourceWorker.step.Goals as goal

pub take_step-answer-requires-clause-reads : goal.take_step-answer-requires-clause-reads
take_step-answer-requires-clause-reads g c =
    let w = c.requires.works in
    (w.0, w.3.bytes, w.3.given, (w.3.goes_on c.requires.going).0)

pub give_answer-self-requires : goal.give_answer-self-requires
give_answer-self-requires g c =
    let w = c.requires.works in
    let goes = w.3.goes_on c.requires.going in (
      w.3.given,
      going_total g.S.Source.rest g.S.Source.faults w.0 w.1 w.2 c.args.self.now c.args.self.now c.requires.going w.3,
      goes.1,
      w.3.is_given.goes,
      may_pass c.take_step-answer.result _ _ _ _ _ _ w.0 w.3.bytes w.3.given (c.take_step-answer.ensures.took w.0 w.3.bytes w.3.given goes.0),
    )

pub returns-clause-works : goal.returns-clause-works
returns-clause-works g c = λ shape content count works.
    step_works g.S.Source.rest g.S.Source.faults shape content count c.args.self.now
    (record c.args.self.now { source = c.take_step-answer.new.source; lines = c.take_step-answer.new.lines; block = with_items c.args.self.now.block c.take_step-answer.new.block; outlets = c.give_answer-self.new.outlets; stop = c.give_answer-self.result }) c.requires.going works c.take_step-answer.result c.take_step-answer.ensures.took c.give_answer-self.ensures.given
    (bare_length _ _ c.give_answer-self.ensures.bare) (sym (with_items c.args.self.now.block c.take_step-answer.new.block).ok.0 ∙ c.args.self.now.block.ok.0)

pub returns-clause-stepped : goal.returns-clause-stepped
returns-clause-stepped g c =
    let w = c.requires.works in
    let goes = w.3.goes_on c.requires.going in
    step_seen g.S.Source.rest c.args.self.now
    (record c.args.self.now { source = c.take_step-answer.new.source; lines = c.take_step-answer.new.lines; block = with_items c.args.self.now.block c.take_step-answer.new.block; outlets = c.give_answer-self.new.outlets; stop = c.give_answer-self.result }) c.take_step-answer.result w.3.given c.requires.going (c.take_step-answer.ensures.advanced w.0 w.3.bytes w.3.given goes.0)
    (c.give_answer-self.ensures.given w.3.given (going_total g.S.Source.rest g.S.Source.faults w.0 w.1 w.2 c.args.self.now c.args.self.now c.requires.going w.3) goes.1)

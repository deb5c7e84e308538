use Rattle.cedr_worker.proofs.OutputLemmas.{ended_over, begins_extends}
use Rattle.cedr_worker.proofs.output.OutputWorker.finish.Goals as goal

pub returns-clause-over : goal.returns-clause-over
returns-clause-over c = let w = c.args.self in ended_over w.node w.input.taken w.writer w.lacked w.pending c.requires.works.outputs c.requires.ended

pub returns-clause-short : goal.returns-clause-short
returns-clause-short c = let w = c.args.self in begins_extends w.node w.input.taken w.writer.published c.requires.works.outputs.legal c.requires.works.outputs.shown

use Rattle.cedr_worker.proofs.EndLemmas.{works_new}
use Rattle.cedr_worker.proofs.operator.OperatorWorker.new.Goals as goal

pub returns-clause-works : goal.returns-clause-works
returns-clause-works c = works_new c.args.node c.args.inputs.items c.in_ok-outlets.outlets c.requires.stands c.requires.inputs c.requires.taken c.in_ok-outlets.ensures.nothing

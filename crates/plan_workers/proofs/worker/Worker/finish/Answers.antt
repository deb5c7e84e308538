use Rattle.std.proofs.Common.{subst}
use Rattle.plan_workers.specs.Roles.{WorksAs}
use Rattle.plan_workers.proofs.worker.Worker.finish.Goals as goal

pub end_source-requires-clause-works : goal.end_source-requires-clause-works
end_source-requires-clause-works g c = let w = c.requires.works in (w.0, subst (WorksAs g.S.Source.rest g.S.Source.faults w.0) c.in-Source.is w.1)

pub end_operator-requires-clause-works : goal.end_operator-requires-clause-works
end_operator-requires-clause-works g c = let w = c.requires.works in (w.0, subst (WorksAs g.S.Source.rest g.S.Source.faults w.0) c.in-Operator.is w.1)

pub end_output-requires-clause-works : goal.end_output-requires-clause-works
end_output-requires-clause-works g c = let w = c.requires.works in (w.0, subst (WorksAs g.S.Source.rest g.S.Source.faults w.0) c.in-Output.is w.1)

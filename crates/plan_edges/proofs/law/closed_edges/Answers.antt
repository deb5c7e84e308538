use Rattle.plan_edges.proofs.RunLemmas.{closed_ports, closed_run}
use Rattle.plan_edges.proofs.law.closed_edges.Goals as goal

pub returns-clause-ports : goal.returns-clause-ports
returns-clause-ports c = closed_ports

pub returns-clause-runs : goal.returns-clause-runs
returns-clause-runs c = closed_run

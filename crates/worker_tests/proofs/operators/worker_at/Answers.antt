use Rattle.std.proofs.Common.{rules}
use Rattle.worker_tests.proofs.PlanNodes.{ready_at, level_at}
use Rattle.worker_tests.proofs.operators.worker_at.Goals as goal

pub new-requires-2-clause-ready : goal.new-requires-2-clause-ready
new-requires-2-clause-ready c = ready_at c.args.plan.now.nodes.items c.args.place c.index-drawn.result.now c.requires.plan.nodes (search rules) (search rules) (search rules)

pub new-requires-2-clause-level : goal.new-requires-2-clause-level
new-requires-2-clause-level c = level_at c.args.plan.now.nodes.items c.args.place c.index-drawn.result.now c.requires.plan.nodes (search rules) (search rules)

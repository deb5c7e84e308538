use Rattle.std.proofs.Common.{rules}
use Rattle.worker_tests.proofs.PlanNodes.{level_at}
use Rattle.worker_tests.proofs.outputs.output_at.Goals as goal

pub new-requires-in-Output-clause-level : goal.new-requires-in-Output-clause-level
new-requires-in-Output-clause-level c = level_at c.args.plan.now.nodes.items c.args.place c.index-drawn.result.now c.requires.nodes (search rules) (search rules)

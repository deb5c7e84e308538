use Rattle.std.proofs.Common.{◌≡◌, ◌++◌, ◌∷◌, List, length, take}
use Rattle.node_laws.specs.Lists.{Lists}
use Rattle.cedr_net.specs.Networks.{NetStands}
use Rattle.cedr_plan.specs.declared.plan.PlanNode.{PlanNode}
use Rattle.plan_runs.specs.Runs.{lists_at}
use Rattle.plan_runs.specs.Without.{forgot_on}
use Rattle.plan_answer.specs.Answers.{ports_text}
use Rattle.plan_serial.proofs.answer.write_node.Given as goal

abbrev pub invariant-loop-port : goal.invariant-loop-port
invariant-loop-port l = (ports : List Lists) (given : Lists) → NetStands l.nodes l.net ports given → (before after : List PlanNode) (n : PlanNode) → l.nodes ≡ before ++ n ∷ after → length before ≡ l.place → l.out.items ≡ l.initial.out.items ++ ports_text n.name 0 (take l.port (forgot_on n (lists_at ports l.place)))

use Rattle.std.proofs.Common.{◌≡◌, List, map, take}
use Rattle.node_laws.specs.Lists.{Lists}
use Rattle.plan_runs.specs.Without.{forgot_in}
use Rattle.plan_workers.specs.Forgettings.{AllTook}
use Rattle.plan_answer.specs.Forgettings.{nodes_forgot, port_forgot}
use Rattle.plan_workers.proofs.forgotten.tell_forgotten.Given as goal

-- what the ports of the first nodes forgot is listed
abbrev pub invariant-loop-place : goal.invariant-loop-place
invariant-loop-place g l = (ports : List Lists) → AllTook l.fn.nodes ports l.fn.parts → map port_forgot l.all.items ≡ nodes_forgot 0 (take l.place (forgot_in l.fn.nodes ports))

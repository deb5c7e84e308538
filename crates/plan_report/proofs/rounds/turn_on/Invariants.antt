use Rattle.std.proofs.Common.{List}
use Rattle.plan_workers.specs.Roles.{AllWorkAs, Role}
use Rattle.plan_report.proofs.rounds.turn_on.Given as goal

abbrev pub invariant-loop : goal.invariant-loop
invariant-loop g l = (roles : List Role) → AllWorkAs g.S.Source.rest g.S.Source.faults roles l.fn.workers.items → AllWorkAs g.S.Source.rest g.S.Source.faults roles l.workers.items

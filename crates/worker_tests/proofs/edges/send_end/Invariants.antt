use Rattle.std.proofs.Common.{◌≡◌, false}
use Rattle.cedr_base.specs.Messages.{IsLegal}
use Rattle.node_laws.specs.Lawful.{is_over}
use Rattle.worker_tests.proofs.edges.send_end.Given as goal

abbrev pub invariant-loop : goal.invariant-loop
invariant-loop g l = (l.out.edge ≡ l.fn.out.edge) × (is_over l.out.sent ≡ false) × IsLegal l.out.sent

use Rattle.std.proofs.Common.{◌≡◌, ◌++◌, map, take}
use Rattle.plan_answer.specs.Forgettings.{port_forgot}
use Rattle.plan_answer.specs.Reports.{all_forgotten_text}
use Rattle.plan_answer.proofs.text.write_ports.Given as goal

abbrev pub invariant-loop-port : goal.invariant-loop-port
invariant-loop-port l = l.out.items ≡ l.initial.out.items ++ all_forgotten_text l.nodes (map port_forgot (take l.port-index l.forgotten))

use Rattle.std.proofs.Common.{◌≡◌, ◌++◌, take}
use Rattle.plan_answer.specs.Answers.{port_text}
use Rattle.plan_answer.proofs.forgotten.write_port.Given as goal

abbrev pub invariant-loop-one : goal.invariant-loop-one
invariant-loop-one l = l.out.items ≡ l.initial.out.items ++ port_text l.name l.port (take l.one-index l.forgotten)

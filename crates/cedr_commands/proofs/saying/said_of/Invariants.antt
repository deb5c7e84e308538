use Rattle.std.proofs.Common.{◌≡◌, take}
use Rattle.cedr_commands.specs.Steps.{faulty_text}
use Rattle.cedr_commands.proofs.saying.said_of.Given as goal

abbrev pub invariant-loop-source : goal.invariant-loop-source
invariant-loop-source l = l.said.items ≡ faulty_text l.nodes (take l.source-index l.faulty)

use Rattle.std.proofs.Common.{take}
use Rattle.std.specs.List.{All}
use Rattle.pat_state.specs.Groups.{LacksOthers}
use Rattle.pat_state.proofs.grouped.Grouped.lacks_others.Given as goal

abbrev pub invariant-loop-port : goal.invariant-loop-port
invariant-loop-port l = All LacksOthers (take l.port-index l.self.ports.items)

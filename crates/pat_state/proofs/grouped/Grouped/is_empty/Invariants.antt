use Rattle.std.proofs.Common.{take}
use Rattle.std.specs.List.{All}
use Rattle.pat_state.specs.Groups.{IsBare}
use Rattle.pat_state.proofs.grouped.Grouped.is_empty.Given as goal

abbrev pub invariant-loop-port : goal.invariant-loop-port
invariant-loop-port l = All IsBare (take l.port-index l.self.ports.items)

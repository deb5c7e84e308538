use Rattle.std.proofs.Common.{take}
use Rattle.std.specs.List.{All}
use Rattle.pat_atleast.specs.Crossings.{HaveNoRow}
use Rattle.pat_atleast.proofs.pairs.Pairs.is_empty.Given as goal

abbrev pub invariant-loop-port : goal.invariant-loop-port
invariant-loop-port l = All HaveNoRow (take l.port-index l.self.ports.items)

use Rattle.std.proofs.Common.{◌≡◌, false}
use Rattle.format_cases.proofs.source.source.Given as goal

abbrev pub invariant-loop-piece : goal.invariant-loop-piece
invariant-loop-piece g l = l.lines.lines.finished ≡ false

use Rattle.std.proofs.Common.{◌≡◌, ◌≤◌}
use Rattle.std.specs.Prelude.{option_copied}
use Rattle.cedr_living.specs.Fields.{IsFirstField}
use Rattle.cedr_living.specs.Pieces.{halved}
use Rattle.cedr_living.specs.Outer.{outer_cmp, IsSeenBelow}
use Rattle.cedr_living.proofs.pieces.Pieces.outermost.Given as goal

abbrev pub invariant-loop-level : goal.invariant-loop-level
invariant-loop-level l = record {
  piece : l.piece ≡ halved l.level l.fn.at;
  small : l.piece ≤ l.fn.at;
  best : IsFirstField (outer_cmp l.fn.side) (IsSeenBelow l.self l.fn.rests l.fn.column l.fn.at l.level) (option_copied l.best);
}

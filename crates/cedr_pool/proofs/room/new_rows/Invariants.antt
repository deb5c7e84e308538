use Rattle.std.proofs.Common.{◌≡◌, length}
use Rattle.std.specs.List.{All}
use Rattle.cedr_pool.specs.Seats.{IsRowFor}
use Rattle.cedr_pool.proofs.room.new_rows.Given as goal

-- as many rows as were asked for so far, each with room
abbrev pub invariant-loop-i : goal.invariant-loop-i
invariant-loop-i g l = record {
  count : length l.rows.items ≡ l._i;
  rows : All (IsRowFor l.size) l.rows.items;
}

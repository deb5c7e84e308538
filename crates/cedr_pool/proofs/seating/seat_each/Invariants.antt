use Rattle.std.proofs.Common.{◌≡◌, ◌++◌, ℕ, length, map}
use Rattle.std.specs.List.{All}
use Rattle.std.specs.Vec.{vec_capacity}
use Rattle.cedr_pool.specs.Seats.{HoldsNone, IsRowFor, IsSeated, pass_of}
use Rattle.cedr_pool.proofs.seating.seat_each.Given as goal

-- so far, the passes of the seats and those that are left are all, and there is a row for each of these
abbrev pub invariant-loop-pass : goal.invariant-loop-pass
invariant-loop-pass g l = record {
  so : map pass_of l.seats.items ++ l.left.items ≡ l.fn.passes.items;
  left : (size : ℕ) × All (HoldsNone size) l.left.items × All (IsRowFor size) l.rows.items;
  count : length l.rows.items ≡ length l.left.items;
  seated : All IsSeated l.seats.items;
  room : vec_capacity l.seats ≡ vec_capacity l.fn.seats;
}

abbrev pub decreases-loop-pass : goal.decreases-loop-pass
decreases-loop-pass g l = length l.left.items

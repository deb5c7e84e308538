-- Where workers take their turns, and that each works there as what it was made for.
use Rattle.std.specs.Prelude.{ℕ, List, Option}
use Rattle.plan_workers.specs.Roles.{AllAs, Role, WorksAs}
use Rattle.plan_threads.specs.declared.seat.Seat.{Seat}
use Rattle.plan_threads.specs.declared.seat.Seat.TheVariants as seat

-- the worker here works as that, or the one that the thread was started with did
abbrev pub SeatAs : {S R : Type 0} → (S → Option (List ℕ)) → (S → ℕ) → Role → Seat S R → Type 0
SeatAs rest faults role (seat.Here worker) = WorksAs rest faults role worker
SeatAs rest faults role (seat.Away handle) = WorksAs rest faults role handle.promise.0.value

-- each of some workers does, in order
abbrev pub AllSeatAs : {S R : Type 0} → (S → Option (List ℕ)) → (S → ℕ) → List Role → List (Seat S R) → Type 0
AllSeatAs rest faults roles seats = AllAs (SeatAs rest faults) roles seats

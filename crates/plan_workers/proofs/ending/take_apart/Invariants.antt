use Rattle.std.proofs.Common.{◌≡◌, ◌≤◌, length, map}
use Rattle.std.specs.Vec.{vec_len, vec_capacity}
use Rattle.plan_workers.specs.Wents.{part_left, putters_left, ran_left, takers_left}
use Rattle.plan_workers.proofs.ending.take_apart.Given as goal

abbrev pub invariant-loop-end : goal.invariant-loop-end
invariant-loop-end g l =
    (l.takers.items ≡ map takers_left l.yielded) × (l.putters.items ≡ map putters_left l.yielded) × (l.ran.items ≡ map ran_left l.yielded) × (l.parts.items ≡ map part_left l.yielded)
    × (vec_len l.takers ≡ length l.yielded) × (vec_len l.putters ≡ length l.yielded) × (vec_len l.ran ≡ length l.yielded) × (vec_len l.parts ≡ length l.yielded)
    × (length l.fn.ends.items ≤ vec_capacity l.takers) × (length l.fn.ends.items ≤ vec_capacity l.putters) × (length l.fn.ends.items ≤ vec_capacity l.ran) × (length l.fn.ends.items ≤ vec_capacity l.parts)

-- The order of times with tags in a heap.
use Rattle.std.specs.Prelude.{ℕ}
use Rattle.std.specs.declared.cmp.Ordering.{Ordering}
use Rattle.std.specs.Ordering.{nat_cmp, ordering_then}
use Rattle.std.specs.declared.cmp.Reverse.{Reverse}

-- an earlier time is greater, and of those at one time the one with the lesser tag
abbrev pub due_cmp : Reverse (ℕ × ℕ) → Reverse (ℕ × ℕ) → Ordering
due_cmp x y = ordering_then (nat_cmp y.0.0 x.0.0) (nat_cmp y.0.1 x.0.1)

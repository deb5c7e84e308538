-- Rounds of turns.
use Rattle.std.proofs.Common.{◌≡◌, ℕ, zero, suc, ◌+◌, ◌<◌, Bool, true, false, ◌&&◌, List, [], ◌∷◌, length, slice_index_or, slice_set, refl, arith}
use Rattle.plan_workers.specs.declared.worker.Worker.{Worker}
use Rattle.plan_workers.specs.Roles.{HasEnded}

-- one more has ended, where each before it had and it says so
put_ended : {S R : Type 0} (ws : List (Worker S R)) (i : ℕ) (w : Worker S R) → i < length ws → ((k : ℕ) (d : Worker S R) → k < i → HasEnded (slice_index_or ws k d)) → HasEnded w → (k : ℕ) (d : Worker S R) → k < i + 1 → HasEnded (slice_index_or (slice_set ws i w) k d)
put_ended [] i w within before here k d less = absurd (omega (arith, within))
put_ended (x ∷ xs) zero w within before here zero d less = here
put_ended (x ∷ xs) zero w within before here (suc k) d less = absurd (omega (arith, less))
put_ended (x ∷ xs) (suc i) w within before here zero d less = before zero d (omega arith)
put_ended (x ∷ xs) (suc i) w within before here (suc k) d less = put_ended xs i w (omega (arith, within)) (λ j e below. before (suc j) e (omega (arith, below))) here k d (omega (arith, less))

-- one more worker, put back at its place: where the answers say that each one up to it has ended, each has
pub ended_on : {S R : Type 0} (ws : List (Worker S R)) (i : ℕ) (w : Worker S R) (all here : Bool) → i < length ws → (all ≡ true → (k : ℕ) (d : Worker S R) → k < i → HasEnded (slice_index_or ws k d)) → (here ≡ true → HasEnded w) → all && here ≡ true → (k : ℕ) (d : Worker S R) → k < i + 1 → HasEnded (slice_index_or (slice_set ws i w) k d)
ended_on ws i w true true within before ended both = put_ended ws i w within (before refl) (ended refl)
ended_on ws i w true false within before ended both = absurd (cc both)
ended_on ws i w false here within before ended both = absurd (cc both)

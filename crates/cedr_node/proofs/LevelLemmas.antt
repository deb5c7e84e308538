-- The level of a plan's node is one.
use Rattle.std.proofs.Common.{◌≡◌, ℕ, false, Option, Some, None}
use Rattle.std.proofs.lemmas.Bool.{ltb-false}
use Rattle.node_laws.specs.Pass.{IsWithin}
use Rattle.cedr_plan.specs.Levels.{is_over_memory}

-- a block that isn't over a memory is within it
pub within_memory : (block memory : Option ℕ) → is_over_memory block memory ≡ false → IsWithin block memory
within_memory None None h = tt
within_memory (Some b) None h = tt
within_memory None (Some m) h = cc
within_memory (Some b) (Some m) h = ltb-false m b h

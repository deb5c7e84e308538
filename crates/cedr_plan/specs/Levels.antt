-- The member `level`: its form, its numbers, and the level that it is.
use Rattle.std.specs.Prelude.{ℕ, ◌^◌, Bool, true, false, not, ◌&&◌, ◌||◌, List, codes, nat_lt, if◌then◌else◌, Option, Some, None, option_and_then}
use Rattle.cedr_base.specs.declared.level.Level.{Level}
use Rattle.serde_json.specs.Data.{Data}
use Rattle.serde_json.specs.Find.{get}
use Rattle.cedr_plan.specs.Json.{as_whole, is_number, is_text, is_word, is_whole_within, has}

-- the strong level: block and memory are without limit
abbrev pub strong : Level
strong = record { block = None; memory = None }

-- the middle level: no block, and a memory without limit
abbrev pub middle : Level
middle = record { block = Some 0; memory = None }

-- a number, or `inf`
abbrev pub is_bound : Data → Bool
is_bound d = is_number d || is_word (codes "inf") d

-- a text, or an object with both bounds
abbrev pub is_level : Data → Bool
is_level d = is_text d || (has (codes "block") is_bound d && has (codes "memory") is_bound d)

-- a number that isn't whole or isn't from 0 to 2^40
abbrev pub is_bad_bound : Data → Bool
is_bad_bound d = is_number d && not (is_whole_within 0 (2 ^ 40) d)

-- a bound of the level is a number that isn't whole or isn't in its range
abbrev pub has_bad_bound : Data → Bool
has_bad_bound d = has (codes "block") is_bad_bound d || has (codes "memory") is_bad_bound d

-- a text, but no level's name
abbrev pub is_unknown_level : Data → Bool
is_unknown_level d = is_text d && not (is_word (codes "strong") d || is_word (codes "middle") d)

-- the bound of this name, without limit where it isn't a whole number
abbrev pub bound_at : List ℕ → Data → Option ℕ
bound_at key d = option_and_then as_whole (get key d)

-- the level that a value is: the strong one by its name, the middle one by any other text, or else its two
-- bounds
abbrev pub level_of : Data → Level
level_of d = if is_text d then (if is_word (codes "strong") d then strong else middle)
    else record { block = bound_at (codes "block") d; memory = bound_at (codes "memory") d }

-- a block without limit is over each memory that has one
abbrev pub is_over_memory : Option ℕ → Option ℕ → Bool
is_over_memory block None = false
is_over_memory None (Some memory) = true
is_over_memory (Some block) (Some memory) = nat_lt memory block

-- the level's block is over its memory
abbrev pub has_block_over_memory : Level → Bool
has_block_over_memory level = is_over_memory level.block level.memory

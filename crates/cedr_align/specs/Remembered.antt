-- Which of the rows that passed a port remembers.
use Rattle.std.specs.Prelude.{ℕ, ◌-◌, List, max, filter, Bool, not, false, ◌&&◌, Option, Some, None}
use Rattle.cedr_base.specs.declared.row.Row.{Row}
use Rattle.cedr_base.specs.declared.change.Message.{Message}
use Rattle.cedr_base.specs.declared.level.Level.{Level}
use Rattle.cedr_base.specs.Messages.{mark_of}
use Rattle.cedr_table.specs.Counted.{ends_after}
use Rattle.node_laws.specs.Kept.{high_of}
use Rattle.node_laws.specs.Pass.{has_end, passed_table}

-- A retraction that isn't late may still name a row. It is seen from the mark on, no more than the memory before the
-- greatest time, and before the row's end; and nothing comes after the end of the list.
abbrev pub may_be_named : ℕ → Bool → ℕ → ℕ → Row → Bool
may_be_named memory ended mark high r = not ended && ends_after (max mark (high - memory)) r

-- A row that passed is remembered as long as it may be named. Without a limit of the memory none is: nothing is late
-- there, so a retraction of a legal list is no orphan and its row needn't be looked for.
abbrev pub is_remembered : Option ℕ → Bool → ℕ → ℕ → Row → Bool
is_remembered None ended mark high r = false
is_remembered (Some memory) ended mark high r = may_be_named memory ended mark high r

-- a port remembers a row that passed, at its level and after a list of messages
abbrev pub remembers : Level → List Message → Row → Bool
remembers level ms r = is_remembered level.memory (has_end ms) (mark_of ms) (high_of ms) r

-- the passed rows that are remembered
abbrev pub remembered : Level → List Message → List Row
remembered level ms = filter (remembers level ms) (passed_table level ms)

-- Lives in the order of their ends.
use Rattle.std.specs.Prelude.{ℕ, List, Option, if◌then◌else◌}
use Rattle.std.specs.declared.cmp.Ordering.{Ordering}
use Rattle.std.specs.Ordering.{nat_cmp, ordering_then}
use Rattle.std.specs.BTreeMap.{is_at}
use Rattle.cedr_base.specs.Order.{field_cmp}
use Rattle.cedr_living.specs.declared.ending.Ending.{Ending}
use Rattle.cedr_living.specs.Lives.{Living}
use Rattle.cedr_living.specs.Counts.{key_count}

-- endings compare by their ends, then by their begins, then by their columns, then by their fields
abbrev pub ending_cmp : Ending → Ending → Ordering
ending_cmp a b = ordering_then (nat_cmp a.end b.end) (ordering_then (nat_cmp a.begin b.begin) (ordering_then (nat_cmp a.column b.column) (field_cmp a.field b.field)))

-- what a map has at an ending
abbrev pub end_count : List (Ending × ℕ) → Ending → Option ℕ
end_count entries e = key_count ending_cmp entries e

-- the ending of a life
abbrev pub ending_of : Living → Ending
ending_of life = record { end = life.end; begin = life.begin; column = life.column; field = life.field }

-- the life of an ending
abbrev pub life_of : Ending → Living
life_of e = record { column = e.column; begin = e.begin; end = e.end; field = e.field }

-- one for a life of this ending
abbrev pub is_end : Ending → Living → ℕ
is_end e life = if is_at (ending_cmp (ending_of life)) e then 1 else 0

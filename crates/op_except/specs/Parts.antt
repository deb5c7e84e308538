-- Except: the parts of a row's life in which no matching row lives.
use Rattle.std.specs.Prelude.{ℕ, List, [], ◌∷◌, ◌++◌, Bool, false, ◌&&◌, ◌||◌, nat_lt, nat_le, nat_eq, min, max, if◌then◌else◌}
use Rattle.std.specs.List.{flat_map, filter, list_any}
use Rattle.cedr_base.specs.declared.row.Row.{Row}
use Rattle.cedr_table.specs.Operators.{Tables, Meaning, table_at, least_of}
use Rattle.cedr_expr.specs.declared.test.Test.{Test}
use Rattle.cedr_expr.specs.Tests.{passes}

-- a row as far as a time, and from a time on
abbrev pub row_until : ℕ → Row → Row
row_until t x = record x { end = min x.end t }

abbrev pub row_since : ℕ → Row → Row
row_since t x = record x { begin = max x.begin t }

-- The parts of a row in which none of the others lives: the row itself where there is no other one, and else the parts
-- of what lies before the first other's begin, and of what lies from its end on, in which none of the rest lives. What
-- is empty has no part.
abbrev pub parts : Row → List Row → List Row
parts x [] = if nat_lt x.begin x.end then x ∷ [] else []
parts x (b ∷ bs) = parts (row_until b.begin x) bs ++ parts (row_since b.end x) bs

-- the rows of port 1 that pass with a row of port 0
abbrev pub matching : List Test → Row → List Row → List Row
matching tests a others = filter (λ b. passes tests a.payload b.payload) others

-- the parts of a row of port 0 in which no row that passes with it lives
abbrev pub excepted : List Test → List Row → Row → List Row
excepted tests others a = parts a (matching tests a others)

-- the parts of all rows of port 0
abbrev pub all_excepted : List Test → Tables → List Row
all_excepted tests tables = flat_map (excepted tests (table_at tables 1)) (table_at tables 0)

-- A row of the result begins before a mark and doesn't end before it: a later withdrawal may join it with what follows.
abbrev pub may_grow : ℕ → Row → Bool
may_grow mark r = nat_lt r.begin mark && nat_le mark r.end

-- the least of a mark and of the begins of the rows that are open at it
abbrev pub growing_from : ℕ → List Row → ℕ
growing_from mark [] = mark
growing_from mark (r ∷ rows) = min (if may_grow mark r then r.begin else mark) (growing_from mark rows)

-- 1 where a row is open at a mark and begins below a time
abbrev pub open_below : ℕ → ℕ → Row → ℕ
open_below mark k r = if may_grow mark r && nat_lt r.begin k then 1 else 0

-- the lives of two rows meet
abbrev pub meets : Row → Row → Bool
meets a b = nat_lt a.begin b.end && nat_lt b.begin a.end

-- a row begins and ends as another one does
abbrev pub is_life_of : Row → Row → Bool
is_life_of r x = nat_eq r.begin x.begin && nat_eq r.end x.end

-- A row of port 0 may be held that doesn't end before the mark. A row of port 1 may be held that ends after the mark, or
-- that meets a row of port 0 that may be held. Behind both ports the life of a row of the result may be held that doesn't end
-- before the mark.
abbrev pub except_holds : List Test → Tables → ℕ → ℕ → Row → Bool
except_holds tests tables mark port r =
    if nat_eq port 0
    then nat_le mark r.end
    else
    (if nat_eq port 1
    then nat_lt mark r.end || list_any (λ a. nat_le mark a.end && meets a r) (table_at tables 0)
    else nat_le mark r.end && list_any (is_life_of r) (all_excepted tests tables))

-- Two ports. The rows of port 0 in their parts. The bound is the least of the least mark and of the begins of the rows of
-- the result that are open at it.
abbrev pub except_of : List Test → Meaning
except_of tests = record {
  ports = 2;
  result = all_excepted tests;
  bound = λ tables marks. growing_from (least_of marks) (all_excepted tests tables);
  may_hold = λ tables marks port r. except_holds tests tables (least_of marks) port r;
  echoes = false;
  stateless = false;
}

-- What a change does to the parts of a row.
use Rattle.std.specs.Prelude.{ℕ, List, [], ◌∷◌, ◌++◌, Bool, not, ◌&&◌, nat_lt, nat_le, max, if◌then◌else◌}
use Rattle.cedr_base.specs.declared.row.Row.{Row}
use Rattle.cedr_base.specs.declared.change.Change.{Change}
use Rattle.cedr_base.specs.declared.change.Change.TheVariants.{Add, Cut}
use Rattle.op_except.specs.Parts.{row_until, row_since, meets}

-- a part of a row of port 0 ends by the row's new end, or is withdrawn
abbrev pub shortened_at : ℕ → Row → List Change
shortened_at e x = if nat_lt e x.end then Cut x (max x.begin e) ∷ [] else []

-- what begins where b ends is added, where there is something
abbrev pub rest_added : Row → Row → List Change
rest_added b x = if nat_lt b.end x.end then Add (row_since b.end x) ∷ [] else []

-- a matching row b comes on port 1: a part that it meets ends by its begin, or is withdrawn, and what is left after it is added
abbrev pub came_at : Row → Row → List Change
came_at b x = if meets x b then Cut x (max x.begin b.begin) ∷ rest_added b x else []

abbrev pub before_withdrawn : Row → ℕ → Row → List Change
before_withdrawn b e x = if nat_le e b.begin && nat_lt x.begin b.begin then Cut (row_until b.begin x) x.begin ∷ [] else []

abbrev pub rest_withdrawn : Row → Row → List Change
rest_withdrawn b x = if nat_lt b.end x.end then Cut (row_since b.end x) b.end ∷ [] else []

-- A matching row b of port 1 is cut to e. x is a part but for b, that e to b's end meets: what was left of it after b is
-- withdrawn, and where nothing stays of b what was before it too; and what is free now is added.
abbrev pub went_at : Row → ℕ → Row → List Change
went_at b e x =
    if nat_lt x.begin b.end && nat_lt e x.end
    then before_withdrawn b e x ++ (rest_withdrawn b x ++ Add (if nat_le e b.begin then x else row_since e x) ∷ [])
    else []

-- a row is put where a row of port 1 is cut to e, and meets what that frees
abbrev pub unfreed : Row → ℕ → Row → Bool
unfreed b e r = not (nat_lt r.begin b.end && nat_lt e r.end)

-- what a change of a row of port 0 does to one of its parts
abbrev pub own_at : Change → Row → List Change
own_at (Add a) x = Add x ∷ []
own_at (Cut a e) x = shortened_at e x

-- what a change of a matching row of port 1 does to a part that is free of the other ones
abbrev pub turn_at : Change → Row → List Change
turn_at (Add b) x = came_at b x
turn_at (Cut b e) x = went_at b e x

-- which rows of the result a change of port 1 may take: those that meet the row that comes, and those that don't meet the
-- time that is freed
abbrev pub turns_on : Change → Row → Bool
turns_on (Add b) r = meets r b
turns_on (Cut b e) r = unfreed b e r

-- The parts of a row around a time.
use Rattle.std.specs.Prelude.{ℕ, ◌≡◌, ◌<◌, List, [], ◌∷◌, ◌++◌}
use Rattle.std.specs.List.{flat_map}
use Rattle.cedr_base.specs.declared.row.Row.{Row}
use Rattle.cedr_base.specs.Rows.{count_of, AreRows, SameRows}
use Rattle.cedr_table.specs.Counted.{SameAmong}
use Rattle.cedr_expr.specs.declared.test.Test.{Test}
use Rattle.filed_rows.specs.Spans.{AreAmong, lives_within}
use Rattle.op_except.specs.Parts.{parts, matching, excepted}

-- A row is made narrower by rows that pass with it: those of its parts stay that meet the time from one time to another one,
-- beside any rows that these are among.
pub record Narrows (tests : List Test) (from to : ℕ) (rows : List Row) (old new : Row) : Type 0 where
  pub payload : new.payload ≡ old.payload
  pub same : (others : List Row) → AreRows others → AreAmong rows others → SameAmong (lives_within from to) (excepted tests others new) (excepted tests others old)

-- a row's life with its begin and its end exchanged: the canonical order of such rows is that of the begins
abbrev pub flipped : Row → Row
flipped r = record { end = r.begin; begin = r.end; payload = [] }

abbrev pub unflipped : List Row → List Row
unflipped rows = flat_map (λ r. flipped r ∷ []) rows

-- rows that aren't empty, with their begins and ends exchanged
abbrev pub AreFlipped : List Row → Type 0
AreFlipped rows = (r : Row) → 0 < count_of r rows → r.end < r.begin

-- a table of such rows gains what rows leave of a row's parts that pass with it
pub record Gathers (tests : List Test) (rows : List Row) (part : Row) (old new : List Row) : Type 0 where
  pub flip : AreFlipped old → AreFlipped new
  pub same : SameRows (parts part (unflipped new)) (parts part (unflipped old ++ matching tests part rows))

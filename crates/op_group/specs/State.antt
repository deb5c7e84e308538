-- What an operator over groups keeps, and how it answers a change.
use Rattle.std.specs.Prelude.{ℕ, ◌≡◌, ◌<◌, ◌≤◌, ◌+◌, ◌⊎◌, List, [], ◌++◌, Bool, true, false, Option, Some, None, length, nat_le, is_some, not, ◌&&◌, if◌then◌else◌}
use Rattle.std.specs.Map.{lookup, keys_of}
use Rattle.std.specs.List.Sorted.{IsStrictlySortedBy}
use Rattle.std.specs.Ordering.{nat_cmp}
use Rattle.std.specs.BTreeMap.{BTreeMap, is_at}
use Rattle.cedr_base.specs.declared.field.Field.{Field}
use Rattle.cedr_base.specs.declared.row.Row.{Row}
use Rattle.cedr_base.specs.declared.change.Change.{Change}
use Rattle.cedr_base.specs.Order.{payload_cmp}
use Rattle.cedr_base.specs.Rows.{count_of, AreRows}
use Rattle.cedr_table.specs.Operators.{Tables, table_at, mark_at}
use Rattle.op_group.specs.declared.segment.Segment.{Segment}
use Rattle.op_group.specs.declared.points.CutPoint.{CutPoint}
use Rattle.op_group.specs.declared.points.Points.{Points}
use Rattle.op_group.specs.declared.bags.Bags.{Bags}
use Rattle.cedr_living.specs.declared.living.LivingFields.{LivingFields}
use Rattle.op_group.specs.declared.segment.Totalled.{Totalled}
use Rattle.op_group.specs.Bags.{bag_at, BagKeeps, IsLive, lives_of}
use Rattle.cedr_living.specs.Lives.{Living}
use Rattle.op_group.specs.Points.{has_point, left_from, IsOpenCut}
use Rattle.op_group.specs.Groups.{Grouping, grouping_with, same_payload, rows_of, segments}
use Rattle.op_group.specs.Cuts.{ShowsCuts, segment_at, differences}
use Rattle.op_group.specs.Measures.{edges_of, living_of, tally_of, no_totals, is_cut_of}

-- the cut points of a group, where there are any
abbrev pub entries_of : Option (BTreeMap ℕ Segment) → List (ℕ × Segment)
entries_of None = []
entries_of (Some cuts) = cuts.entries

-- the cut points of the group with a key, none where there is no such group
abbrev pub cuts_of : List (List Field × BTreeMap ℕ Segment) → List Field → List (ℕ × Segment)
cuts_of groups key = entries_of (lookup (is_at (payload_cmp key)) groups)

-- what a function says from a time on, and something else before that
abbrev pub since : {X : Type 0} → ℕ → X → (ℕ → X) → ℕ → X
since from before f t = if nat_le from t then f t else before

-- A map shows the rows of a group from a time on, which is no later than the mark: a cut point before the mark, or a
-- time before which nothing was valid.
pub record ShowsFrom (asked : Totalled) (mark from : ℕ) (cuts : List (ℕ × Segment)) (rows : List Row) : Type 0 where
  pub below : from ≤ mark
  pub starts : ((from < mark) × (0 < edges_of rows from)) ⊎ ((t : ℕ) → t + 1 ≡ from → living_of rows t ≡ 0)
  pub shows : ShowsCuts cuts (since from 0 (edges_of rows)) (since from 0 (living_of rows)) (since from (no_totals asked) (tally_of asked rows))

-- the map shows the rows of a group from some time on
pub record ShowsRows (asked : Totalled) (mark : ℕ) (cuts : List (ℕ × Segment)) (rows : List Row) : Type 0 where
  pub from : ℕ
  pub shown : ShowsFrom asked mark from cuts rows

-- the cut points of each group ascend
abbrev pub AllOrdered : List (List Field × BTreeMap ℕ Segment) → Type 0
AllOrdered groups = (key : List Field) → IsStrictlySortedBy nat_cmp (keys_of (cuts_of groups key))

-- each group that is kept has a cut point
abbrev pub NoneEmpty : List (List Field × BTreeMap ℕ Segment) → Type 0
NoneEmpty groups = (key : List Field) (cuts : BTreeMap ℕ Segment) → lookup (is_at (payload_cmp key)) groups ≡ Some cuts → 0 < length cuts.entries

-- a mark has passed a cut point: it is the first one that its group still has, and some row is valid from it on
pub record IsPassed (g : Grouping) (groups : List (List Field × BTreeMap ℕ Segment)) (rows : List Row) (mark t : ℕ) (key : List Field) : Type 0 where
  pub past : t < mark
  pub first : (u : ℕ) → u < t → segment_at u (cuts_of groups key) ≡ None
  pub lives : 0 < living_of (rows_of g key rows) t

-- The groups show the rows of each group; one set has all their cut points; and another has those of them that no mark
-- has passed.
pub record KeepsGroups (g : Grouping) (groups : List (List Field × BTreeMap ℕ Segment)) (all due : List CutPoint) (rows : List Row) (mark : ℕ) : Type 0 where
  pub sorted : IsStrictlySortedBy payload_cmp (keys_of groups)
  pub ordered : AllOrdered groups
  pub some_cuts : NoneEmpty groups
  pub shown : (key : List Field) → ShowsRows g.totalled mark (cuts_of groups key) (rows_of g key rows)
  pub entered : (t : ℕ) (key : List Field) → has_point all t key ≡ is_some (segment_at t (cuts_of groups key))
  pub still : (t : ℕ) (key : List Field) → has_point due t key ≡ true → has_point all t key ≡ true
  pub passed : (t : ℕ) (key : List Field) → has_point all t key ≡ true → has_point due t key ≡ false → IsPassed g groups rows mark t key

-- a group's bag, if it has one, keeps what lives from a cut point of the group on, which a mark has passed
pub record IsForgotten (bags : Bags) (t : ℕ) (key : List Field) : Type 0 where
  pub within : t ≤ bags.passed
  pub from_there : (bag : LivingFields) → bag_at bags.all.entries key ≡ Some bag → t ≤ bag.from

-- The bags keep the fields of each group's rows: those that end after each cut point that a mark has passed. None is kept
-- without a life.
pub record KeepsFields (g : Grouping) (bags : Bags) (due : List CutPoint) (rows : List Row) (mark : ℕ) : Type 0 where
  pub sorted : IsStrictlySortedBy payload_cmp (keys_of bags.all.entries)
  pub within : bags.passed ≤ mark
  pub each : (key : List Field) → BagKeeps (bag_at bags.all.entries key) bags.passed (lives_of g.totalled (rows_of g key rows))
  pub forgotten : (t : ℕ) (key : List Field) → is_cut_of (rows_of g key rows) t ≡ true → has_point due t key ≡ false → IsForgotten bags t key
  pub live : (key : List Field) → IsLive bags.all.entries key

-- one port, whose table is kept by groups
pub record StandsForGroups (g : Grouping) (groups : List (List Field × BTreeMap ℕ Segment)) (points : Points) (bags : Bags) (tables : Tables) (marks : List ℕ) : Type 0 where
  pub table : length tables ≡ 1
  pub mark : length marks ≡ 1
  pub rows : AreRows (table_at tables 0)
  pub keeps : KeepsGroups g groups points.all.keys points.due.keys (table_at tables 0) (mark_at marks 0)
  pub fields : KeepsFields g bags points.due.keys (table_at tables 0) (mark_at marks 0)

-- what is asked of groups, but for the columns of the key
abbrev pub grouping_asked : Bool → Totalled → Grouping
grouping_asked counted asked = grouping_with [] counted asked

-- the rows of one group's result that may change, before a change and after it: all others stay
pub record Turned (counted : Bool) (asked : Totalled) (key : List Field) (old new olds news : List Row) : Type 0 where
  pub some_old : (r : Row) → count_of r olds ≤ count_of r (segments (grouping_asked counted asked) key old)
  pub some_new : (r : Row) → count_of r news ≤ count_of r (segments (grouping_asked counted asked) key new)
  pub others : (r : Row) → count_of r (segments (grouping_asked counted asked) key new) + count_of r olds ≡ count_of r (segments (grouping_asked counted asked) key old) + count_of r news

-- what is appended is the difference between such rows
pub record AnswersGroup (counted : Bool) (asked : Totalled) (key : List Field) (old new : List Row) (before after : List Change) : Type 0 where
  pub olds : List Row
  pub news : List Row
  pub appended : after ≡ before ++ differences olds news
  pub turned : Turned counted asked key old new olds news

-- At a cut point of a group what was before it is left out of its cut points, and so is the cut point itself where
-- nothing is valid from it on. What leaves the group leaves the set of all cut points.
pub record Settles (at : ℕ) (key : List Field) (groups groups' : List (List Field × BTreeMap ℕ Segment)) (all all' : List CutPoint) : Type 0 where
  pub sorted : IsStrictlySortedBy payload_cmp (keys_of groups')
  pub ordered : AllOrdered groups → AllOrdered groups'
  pub some_cuts : NoneEmpty groups → NoneEmpty groups'
  pub cuts_left : (u : ℕ) (other : List Field) → segment_at u (cuts_of groups' other) ≡ (if same_payload key other then left_from at (cuts_of groups other) u else segment_at u (cuts_of groups other))
  pub points_left : (u : ℕ) (other : List Field) → has_point all' u other ≡ (if is_some (segment_at u (cuts_of groups other)) && not (is_some (segment_at u (cuts_of groups' other))) then false else has_point all u other)

-- at a cut point of a group its fields are kept from it on, and what all bags keep stays the same
pub record SettlesFields (at : ℕ) (key : List Field) (bags bags' : Bags) : Type 0 where
  pub sorted : IsStrictlySortedBy payload_cmp (keys_of bags'.all.entries)
  pub passed : bags'.passed ≡ bags.passed
  pub others : (other : List Field) → same_payload key other ≡ false → bag_at bags'.all.entries other ≡ bag_at bags.all.entries other
  pub keeps : (lives : List Living) → at ≤ bags.passed → BagKeeps (bag_at bags.all.entries key) bags.passed lives → BagKeeps (bag_at bags'.all.entries key) bags.passed lives
  pub from_there : (bag : LivingFields) → bag_at bags'.all.entries key ≡ Some bag → at ≤ bag.from
  pub stays : (t : ℕ) → IsForgotten bags t key → (bag : LivingFields) → bag_at bags'.all.entries key ≡ Some bag → t ≤ bag.from

-- at a mark a time is the first cut point that is open at it, or else the mark
pub record IsFirstOpen (groups : List (List Field × BTreeMap ℕ Segment)) (all : List CutPoint) (mark result : ℕ) : Type 0 where
  pub is : (result ≡ mark) ⊎ ((key : List Field) × (has_point all result key ≡ true) × (result < mark) × IsOpenCut (cuts_of groups key) result mark)
  pub first : (t : ℕ) (key : List Field) → has_point all t key ≡ true → t < mark → IsOpenCut (cuts_of groups key) t mark → result ≤ t
  pub within : result ≤ mark

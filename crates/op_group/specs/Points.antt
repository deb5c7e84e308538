-- The cut points of all groups, as sets of them keep them.
use Rattle.std.specs.Prelude.{ℕ, ◌≡◌, ◌<◌, ◌≤◌, List, Bool, true, false, ◌&&◌, ◌||◌, Option, Some, None, nat_lt, nat_eq, is_some, not, if◌then◌else◌}
use Rattle.std.specs.List.{list_any}
use Rattle.std.specs.BTreeMap.{is_at}
use Rattle.std.specs.Ordering.{nat_cmp, ordering_then}
use Rattle.std.specs.declared.cmp.Ordering.{Ordering}
use Rattle.cedr_base.specs.declared.field.Field.{Field}
use Rattle.cedr_base.specs.Order.{payload_cmp}
use Rattle.op_group.specs.declared.segment.Segment.{Segment}
use Rattle.op_group.specs.declared.points.CutPoint.{CutPoint}
use Rattle.op_group.specs.declared.points.Touched.{Touched}
use Rattle.op_group.specs.Groups.{same_payload}
use Rattle.op_group.specs.Cuts.{segment_at}

-- cut points compare by their times, then by the keys of their groups
abbrev pub point_cmp : CutPoint → CutPoint → Ordering
point_cmp a b = ordering_then (nat_cmp a.at b.at) (payload_cmp a.key b.key)

-- a time is a cut point of a group
abbrev pub has_point : List CutPoint → ℕ → List Field → Bool
has_point points t key = list_any (is_at (point_cmp (record { at = t; key = key }))) points

-- a set of cut points has one exactly where it is said to, and has each other one as before
abbrev pub Places : List CutPoint → List CutPoint → ℕ → List Field → Bool → Type 0
Places old new at key there = (t : ℕ) (other : List Field) → has_point new t other ≡ (if nat_eq at t && same_payload key other then there else has_point old t other)

-- at two times a set of cut points has those of a group that it is said to have
abbrev pub Had : List CutPoint → List Field → ℕ → ℕ → Touched → Type 0
Had points key first last was = (has_point points first key ≡ was.first) × (has_point points last key ≡ was.last)

-- at two times a set of cut points has those that a group's map has, and all others as before
abbrev pub Follows : List CutPoint → List CutPoint → List Field → List (ℕ × Segment) → ℕ → ℕ → Type 0
Follows old new key cuts first last = (t : ℕ) (other : List Field) → has_point new t other ≡ (if (nat_eq first t || nat_eq last t) && same_payload key other then is_some (segment_at t cuts) else has_point old t other)

-- the first cut point was taken out of a set, where it stands before a mark
pub record IsFirstTaken (old new : List CutPoint) (mark : ℕ) (point : CutPoint) : Type 0 where
  pub there : has_point old point.at point.key ≡ true
  pub before : point.at < mark
  pub first : (t : ℕ) (key : List Field) → has_point old t key ≡ true → point.at ≤ t
  pub taken : Places old new point.at point.key false

-- no cut point stands before a mark
abbrev pub NoneBefore : List CutPoint → ℕ → Type 0
NoneBefore points mark = (t : ℕ) (key : List Field) → has_point points t key ≡ true → mark ≤ t

-- nothing is valid from a cut point on
abbrev pub is_empty_from : Option Segment → Bool
is_empty_from None = false
is_empty_from (Some s) = nat_eq s.living 0

-- what is left of a group's cut points where all before a time go, and that time too where nothing is valid from it on
abbrev pub left_from : ℕ → List (ℕ × Segment) → ℕ → Option Segment
left_from at cuts u = if nat_lt u at || (nat_eq u at && is_empty_from (segment_at u cuts)) then None else segment_at u cuts

-- what leaves a group's cut points leaves a set of all cut points
abbrev pub Leaves : List Field → List (ℕ × Segment) → List (ℕ × Segment) → List CutPoint → List CutPoint → Type 0
Leaves key cuts cuts' points points' = (u : ℕ) (other : List Field) → has_point points' u other ≡ (if same_payload key other && (is_some (segment_at u cuts) && not (is_some (segment_at u cuts'))) then false else has_point points u other)

-- at a cut point some row is valid, and up to a mark no other one follows
pub record IsOpenCut (cuts : List (ℕ × Segment)) (at mark : ℕ) : Type 0 where
  pub segment : Segment
  pub there : segment_at at cuts ≡ Some segment
  pub lives : 0 < segment.living
  pub last : (u : ℕ) → at < u → u < mark → segment_at u cuts ≡ None

-- Rows of two ports, of which those that may pass tests together are found by a tag.
use Rattle.std.specs.Prelude.{ℕ, ◌≡◌, ◌<◌, ◌≤◌, List, ◌∷◌, Bool, false, ◌&&◌, nat_eq, map}
use Rattle.cedr_base.specs.declared.field.Field.{Field}
use Rattle.cedr_base.specs.declared.row.Row.{Row}
use Rattle.cedr_base.specs.declared.change.Change.{Change}
use Rattle.cedr_base.specs.declared.change.Change.TheVariants.{Add, Cut}
use Rattle.cedr_base.specs.Rows.{count_of, in_order, SameRows}
use Rattle.pat_state.specs.Starts.{all_endless, begins_within}

-- a row with a tag in place of its end
abbrev pub marked : ℕ → Row → Row
marked tag r = record { end = tag; begin = r.begin; payload = r.payload }

-- the rows as if they never ended, in canonical order
abbrev pub bag_of : List Row → List Row
bag_of tags = in_order (all_endless tags)

-- each row of a bag has the tag of its payload
abbrev pub HaveOwnTags : (List Field → ℕ) → List Row → Type 0
HaveOwnTags tag tags = (r : Row) → 0 < count_of r tags → r.end ≡ tag r.payload

-- a row has a tag, and begins within the times
abbrev pub has_tag_within : ℕ → ℕ → ℕ → Row → Bool
has_tag_within tag from before r = nat_eq r.end tag && begins_within from before r

-- a row that a change cuts is there, with a tag
abbrev pub HasMarked : ℕ → List Row → Change → Type 0
HasMarked tag tags (Add r) = Unit {0}
HasMarked tag tags (Cut r e) = 0 < count_of (marked tag r) tags

-- a bag of rows with one tag went through a change: of a cut the begin of the row and its payload count
abbrev pub IsRetagged : ℕ → Change → List Row → List Row → Type 0
IsRetagged tag (Add r) old new = SameRows new (marked tag r ∷ old)
IsRetagged tag (Cut r e) old new = (e ≤ r.begin → SameRows (marked tag r ∷ new) old) × (r.begin < e → new ≡ old)

-- a bag has the rows of another one, each with the tag of its payload
pub record IsTagged (tag : List Field → ℕ) (rows tagged : List Row) : Type 0 where
  pub same : SameRows tagged (map (λ r. marked (tag r.payload) r) rows)

-- a weight of rows that doesn't depend on their ends, and is 0 where they don't pass
pub record IsSought (passes : List Field → Bool) (weight : Row → ℕ) : Type 0 where
  pub endless : (r : Row) (end : ℕ) → weight (record r { end = end }) ≡ weight r
  pub none : (r : Row) → passes r.payload ≡ false → weight r ≡ 0

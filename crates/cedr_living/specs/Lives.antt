-- Fields that live for some time.
use Rattle.std.specs.Prelude.{ℕ, ◌≡◌, List, Bool, ◌&&◌, nat_eq, nat_le, nat_lt, map, sum_by, ◌+◌}
use Rattle.std.specs.List.{filter}
use Rattle.cedr_base.specs.declared.field.Field.{Field}

-- a field of a column that lives from a begin on and before an end
pub record Living : Type 0 where
  pub column : ℕ
  pub begin : ℕ
  pub end : ℕ
  pub field : Field

-- a field lives at a time
abbrev pub is_living_at : ℕ → Living → Bool
is_living_at t l = nat_le l.begin t && nat_lt t l.end

-- the fields of a column that live at a time
abbrev pub fields_at : ℕ → ℕ → List Living → List Field
fields_at column t lives = map (λ (l : Living). l.field) (filter (λ (l : Living). nat_eq column l.column && is_living_at t l) lives)

-- the same bag of lives: what is summed over all of them is the same
abbrev pub SameLives : List Living → List Living → Type 0
SameLives lives others = (w : Living → ℕ) → sum_by w lives ≡ sum_by w others

-- a bag of lives is another one with one life more
abbrev pub IsWith : List Living → Living → List Living → Type 0
IsWith lives life rest = (w : Living → ℕ) → sum_by w lives ≡ w life + sum_by w rest

-- The least and the greatest of some fields.
use Rattle.std.specs.Prelude.{◌≡◌, List, [], ◌∷◌, Option, Some, None, false, if◌then◌else◌}
use Rattle.std.specs.declared.cmp.Ordering.{Ordering}
use Rattle.std.specs.Ordering.{is_gt, flip_args}
use Rattle.cedr_base.specs.declared.field.Field.{Field}
use Rattle.cedr_base.specs.Order.{field_cmp}

-- of a field, and of another one if there is one, that which comes first in an order
abbrev pub first_of : (Field → Field → Ordering) → Field → Option Field → Option Field
first_of cmp f None = Some f
first_of cmp f (Some g) = if is_gt (cmp f g) then Some g else Some f

-- of some fields that which comes first in an order
abbrev pub first_by : (Field → Field → Ordering) → List Field → Option Field
first_by cmp [] = None
first_by cmp (f ∷ fs) = first_of cmp f (first_by cmp fs)

-- the other way round
abbrev pub field_cmp_back : Field → Field → Ordering
field_cmp_back = flip_args field_cmp

-- the lesser one of a field and of another one, if there is one
abbrev pub lesser : Field → Option Field → Option Field
lesser = first_of field_cmp

-- the greater one
abbrev pub greater : Field → Option Field → Option Field
greater = first_of field_cmp_back

-- the least of some fields, if there is any
abbrev pub least_field : List Field → Option Field
least_field = first_by field_cmp

-- the greatest of some fields, if there is any
abbrev pub greatest_field : List Field → Option Field
greatest_field = first_by field_cmp_back

-- What comes first in an order of all fields of which something holds: it holds of that one, and none of the others
-- comes before that one. Where there is none it holds of no field.
pub record IsFirstField (cmp : Field → Field → Ordering) (there : Field → Type 0) (first : Option Field) : Type 0 where
  pub among : (f : Field) → first ≡ Some f → there f
  pub before : (g : Field) → there g → (f : Field) × (first ≡ Some f) × (is_gt (cmp f g) ≡ false)

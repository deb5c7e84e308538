-- Places compare as equal exactly where they are the same.
use Rattle.std.proofs.Common.{◌≡◌, true, Option, Some, None, refl, ap, sym, ◌∙◌}
use Rattle.std.specs.Prelude.{nat_eq, ◌&&◌}
use Rattle.std.specs.Ordering.{nat_cmp, is_eq}
use Rattle.std.specs.Option.{option_cmp}
use Rattle.std.specs.BTreeMap.{is_at}
use Rattle.std.proofs.lemmas.Bool.{eqb-true}
use Rattle.std.proofs.lemmas.Cmp.{tied_itself}
use Rattle.cedr_base.specs.declared.field.Field.{Field}
use Rattle.cedr_base.specs.Order.{field_cmp}
use Rattle.cedr_base.specs.OrderLaws.{field_total}
use Rattle.cedr_living.specs.FieldLaws.{field_exact, from_is_eq}
use Rattle.cedr_living.specs.CompareLaws.{at_is, four_at, both_true}
use Rattle.cedr_living.specs.declared.place.Place.{Place}
use Rattle.cedr_living.specs.Indexes.{place_cmp, is_of, is_on}

-- fields that may be missing are one where they compare as equal
pub option_exact : (a b : Option Field) → is_eq (option_cmp field_cmp a b) ≡ true → a ≡ b
option_exact None None h = refl
option_exact None (Some g) h = cc
option_exact (Some f) None h = cc
option_exact (Some f) (Some g) h = ap (λ x. Some x) (field_exact f g (from_is_eq (field_cmp f g) h))

-- a field that may be missing compares as equal with itself
pub option_itself : (a : Option Field) → is_eq (option_cmp field_cmp a a) ≡ true
option_itself None = refl
option_itself (Some f) = ap is_eq (tied_itself field_total f)

-- a map finds a place by its column, its field, its level and its piece
pub place_test : (p q : Place) → is_at (place_cmp p) q ≡ (is_on p q && nat_eq p.at q.at)
place_test p q =
    four_at (nat_cmp p.column q.column) (nat_cmp p.level q.level) (nat_cmp p.at q.at) (option_cmp field_cmp p.field q.field)
    ∙ (ap (λ b. ((b && is_eq (option_cmp field_cmp p.field q.field)) && is_eq (nat_cmp p.level q.level)) && is_eq (nat_cmp p.at q.at)) (at_is p.column q.column)
    ∙ (ap (λ b. (is_of p.column p.field q && b) && is_eq (nat_cmp p.at q.at)) (at_is p.level q.level)
    ∙ ap (λ b. is_on p q && b) (at_is p.at q.at)))

-- places that a map takes for one are one
pub place_exact : (p q : Place) → is_at (place_cmp p) q ≡ true → p ≡ q
place_exact p q h =
    let all = both_true (is_on p q) (nat_eq p.at q.at) (sym (place_test p q) ∙ h) in
    let on = both_true (is_of p.column p.field q) (nat_eq p.level q.level) all.0 in
    let of = both_true (nat_eq p.column q.column) (is_eq (option_cmp field_cmp p.field q.field)) on.0 in
    let column = eqb-true p.column q.column of.0 in
    let level = eqb-true p.level q.level on.1 in
    let at = eqb-true p.at q.at all.1 in
    let field = option_exact p.field q.field of.1 in
    λ i. record { column = column i; level = level i; at = at i; field = field i }

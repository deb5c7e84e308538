-- The laws of the order of fields and of payloads.
use Rattle.std.proofs.Common.{◌≡◌, [], ◌∷◌, refl, ap}
use Rattle.std.specs.declared.cmp.Ordering.{Ordering}
use Rattle.std.specs.declared.cmp.Ordering.TheVariants.{Less, Equal, Greater}
use Rattle.std.specs.Ordering.{ordering_reverse, ordering_then}
use Rattle.std.specs.Cmp.{IsTotalOrder}
use Rattle.std.specs.Cmp.Lexicographic.{slice_cmp}
use Rattle.std.proofs.lemmas.Cmp.{int_cmp_total, nat_list_cmp_total, lists_total}
use Rattle.std.proofs.lemmas.Map.Lookups.{CmpEqualImpliesEq, exact_signed, exact_bytes}
use Rattle.cedr_base.specs.declared.field.Field.{Field}
use Rattle.cedr_base.specs.declared.field.Field.TheVariants.{Number, Bytes}
use Rattle.cedr_base.specs.Order.{field_cmp, payload_cmp}

field_antisymm : (x y : Field) → field_cmp x y ≡ ordering_reverse (field_cmp y x)
field_antisymm (Number m) (Number n) = int_cmp_total.antisymm m n
field_antisymm (Number m) (Bytes t) = refl
field_antisymm (Bytes s) (Number n) = refl
field_antisymm (Bytes s) (Bytes t) = nat_list_cmp_total.antisymm s t

field_trans : (x y z : Field) → field_cmp x y ≡ Less → field_cmp y z ≡ Less → field_cmp x z ≡ Less
field_trans (Number m) (Number n) (Number o) p q = int_cmp_total.trans m n o p q
field_trans (Number m) (Number n) (Bytes u) p q = refl
field_trans (Number m) (Bytes t) (Number o) p q = cc
field_trans (Number m) (Bytes t) (Bytes u) p q = refl
field_trans (Bytes s) (Number n) (Number o) p q = cc
field_trans (Bytes s) (Number n) (Bytes u) p q = cc
field_trans (Bytes s) (Bytes t) (Number o) p q = cc
field_trans (Bytes s) (Bytes t) (Bytes u) p q = nat_list_cmp_total.trans s t u p q

field_congr : (x y z : Field) → field_cmp x y ≡ Equal → field_cmp x z ≡ field_cmp y z
field_congr (Number m) (Number n) (Number o) p = int_cmp_total.congr m n o p
field_congr (Number m) (Number n) (Bytes u) p = refl
field_congr (Number m) (Bytes t) z p = cc
field_congr (Bytes s) (Number n) z p = cc
field_congr (Bytes s) (Bytes t) (Number o) p = refl
field_congr (Bytes s) (Bytes t) (Bytes u) p = nat_list_cmp_total.congr s t u p

-- the order of fields is total
pub field_total : IsTotalOrder field_cmp
field_total = record { antisymm = field_antisymm; trans = field_trans; congr = field_congr }

-- the order of payloads is total
pub payload_total : IsTotalOrder payload_cmp
payload_total = lists_total field_total

-- where two comparisons one after the other find nothing, each finds nothing
pub both_equal : (o p : Ordering) → ordering_then o p ≡ Equal → (o ≡ Equal) × (p ≡ Equal)
both_equal Less p h = cc
both_equal Equal p h = (refl, h)
both_equal Greater p h = cc

-- lists of elements that are one where they compare as equal are so too
pub exact_lists : {X : Type 0} (R : X → X → Ordering) → CmpEqualImpliesEq R → CmpEqualImpliesEq (slice_cmp R)
exact_lists R exact [] [] h = refl
exact_lists R exact [] (y ∷ ys) h = cc
exact_lists R exact (x ∷ xs) [] h = cc
exact_lists R exact (x ∷ xs) (y ∷ ys) h =
    let both = both_equal (R x y) (slice_cmp R xs ys) h in
    let here = exact x y both.0 in
    let rest = exact_lists R exact xs ys both.1 in
    cc

-- fields that compare as equal are one
pub exact_fields : CmpEqualImpliesEq field_cmp
exact_fields (Number m) (Number n) h = ap (λ z. Number z) (exact_signed m n h)
exact_fields (Number m) (Bytes t) h = cc
exact_fields (Bytes s) (Number n) h = cc
exact_fields (Bytes s) (Bytes t) h = ap (λ z. Bytes z) (exact_bytes s t h)

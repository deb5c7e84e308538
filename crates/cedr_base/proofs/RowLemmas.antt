-- Rows that the canonical order compares as equal are one.
use Rattle.std.specs.Ordering.{nat_cmp}
use Rattle.std.proofs.lemmas.Map.Lookups.{CmpEqualImpliesEq, exact_unsigned}
use Rattle.cedr_base.specs.Order.{field_cmp}
use Rattle.cedr_base.specs.OrderLaws.{both_equal, exact_lists, exact_fields}
use Rattle.cedr_base.specs.Rows.{row_cmp}

-- rows that the canonical order compares as equal are one
pub exact_rows : CmpEqualImpliesEq row_cmp
exact_rows a b h =
    let ends = both_equal (nat_cmp a.end b.end) _ h in
    let begins = both_equal (nat_cmp a.begin b.begin) _ ends.1 in
    let e = exact_unsigned a.end b.end ends.0 in
    let s = exact_unsigned a.begin b.begin begins.0 in
    let p = exact_lists field_cmp exact_fields a.payload b.payload begins.1 in
    λ i. record { end = e i; begin = s i; payload = p i }

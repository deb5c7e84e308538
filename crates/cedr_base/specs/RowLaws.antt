-- The canonical order of rows is total.
use Rattle.std.specs.Cmp.{IsTotalOrder}
use Rattle.std.proofs.lemmas.Cmp.{nat_cmp_total, on_total, then_total}
use Rattle.cedr_base.specs.declared.row.Row.{Row}
use Rattle.cedr_base.specs.OrderLaws.{payload_total}
use Rattle.cedr_base.specs.Rows.{row_cmp}

-- the canonical order of rows is total
pub row_total : IsTotalOrder row_cmp
row_total = then_total (on_total (λ (r : Row). r.end) nat_cmp_total) (then_total (on_total (λ (r : Row). r.begin) nat_cmp_total) (on_total (λ (r : Row). r.payload) payload_total))

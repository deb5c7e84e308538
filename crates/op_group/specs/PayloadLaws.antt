-- Payloads that compare as equal.
use Rattle.std.proofs.Common.{◌≡◌, List, true, refl, ap}
use Rattle.std.specs.declared.cmp.Ordering.{Ordering}
use Rattle.std.specs.declared.cmp.Ordering.TheVariants.{Less, Equal, Greater}
use Rattle.std.specs.Ordering.{is_eq}
use Rattle.std.proofs.lemmas.Cmp.{tied_itself}
use Rattle.cedr_base.specs.declared.field.Field.{Field}
use Rattle.cedr_base.specs.declared.row.Row.{Row}
use Rattle.cedr_base.specs.Order.{payload_cmp}
use Rattle.cedr_base.specs.OrderLaws.{payload_total}
use Rattle.cedr_base.proofs.RowLemmas.{exact_rows}
use Rattle.op_group.specs.Groups.{same_payload}

from_is_eq : (o : Ordering) → is_eq o ≡ true → o ≡ Equal
from_is_eq Less h = cc
from_is_eq Equal h = refl
from_is_eq Greater h = cc

-- payloads that compare as equal are one
pub payload_exact : (a b : List Field) → same_payload a b ≡ true → a ≡ b
payload_exact a b h =
    let rows = exact_rows (record { end = 0; begin = 0; payload = a }) (record { end = 0; begin = 0; payload = b }) (from_is_eq (payload_cmp a b) h) in
    ap (λ (r : Row). r.payload) rows

-- a payload is the same as itself
pub payload_itself : (a : List Field) → same_payload a a ≡ true
payload_itself a = ap is_eq (tied_itself payload_total a)

-- Selection and projection give one row or none.
use Rattle.std.proofs.Common.{◌≡◌, ℕ, ◌<◌, ◌≤◌, inl, List, [], ◌∷◌, Bool, true, false, cond, Some, None, refl, ap, sym, arith}
use Rattle.std.proofs.lemmas.Bool.{lt-ltb}
use Rattle.cedr_base.specs.declared.row.Row.{Row}
use Rattle.cedr_base.specs.Rows.{IsRow}
use Rattle.cedr_table.specs.RowWise.{made, MayBecome}
use Rattle.cedr_expr.specs.declared.test.Test.{Test}
use Rattle.cedr_expr.specs.Tests.{passes}
use Rattle.cedr_expr.specs.Columns.{kept_columns}
use Rattle.op_row.specs.Rows.{selected, projected, same_life, passing}

made_row : (r : Row) → IsRow r → made (same_life r.begin r.end) (Some r.payload) ≡ r ∷ []
made_row r h = ap {B = List Row} (λ b. cond b (r ∷ []) []) (lt-ltb r.begin r.end h.lives)

selected_at : (r : Row) (b : Bool) → IsRow r → cond b (r ∷ []) [] ≡ made (same_life r.begin r.end) (cond b (Some r.payload) None)
selected_at r true h = sym (made_row r h)
selected_at r false h = refl

-- a selection gives the row of a row's own interval and of its payload, where that passes
pub one_selected : (tests : List Test) (r : Row) → IsRow r → selected tests r ≡ made (same_life r.begin r.end) (passing tests r.payload)
one_selected tests r h = selected_at r (passes tests r.payload []) h

-- a projection gives the row of a row's own interval and of its kept columns
pub one_projected : (columns : List ℕ) (r : Row) → IsRow r → projected columns r ≡ made (same_life r.begin r.end) (Some (kept_columns columns r.payload))
one_projected columns r h = sym (made_row (record r { payload = kept_columns columns r.payload }) (record { lives = h.lives; begins = h.begins; ends = h.ends }))

-- where a row is cut to a time or later, its own interval becomes what it may from that time on
pub cut_becomes : (begin end earlier t : ℕ) → earlier < end → t ≤ earlier → MayBecome t (same_life begin end) (same_life begin earlier)
cut_becomes begin end earlier t below from = inl (record { same_begin = refl; within = omega arith; from = λ h. from })

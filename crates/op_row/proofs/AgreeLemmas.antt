-- Selections, projections and unions of tables that agree.
use Rattle.std.proofs.Common.{◌≡◌, ℕ, List, [], ◌∷◌, cond, refl, ap, sym, ◌∙◌, arith, min}
use Rattle.std.specs.Prelude.{sum_by}
use Rattle.cedr_base.specs.declared.row.Row.{Row}
use Rattle.change_laws.proofs.Moves.{sum_one, none_either}
use Rattle.cedr_table.specs.RowWise.{row_wise}
use Rattle.cedr_expr.specs.declared.test.Test.{Test}
use Rattle.cedr_expr.specs.Tests.{passes}
use Rattle.cedr_expr.specs.Columns.{kept_columns}
use Rattle.op_row.specs.Rows.{selected, projected}
use Rattle.cedr_table.specs.Agreements.{KeepsAgreement}
use Rattle.std.proofs.lemmas.List.Sums.{sum_by-append}
use Rattle.cedr_table.specs.Operators.{Tables, least_of}
use Rattle.op_row.specs.Unions.{united, union_of}
use Rattle.cedr_table.proofs.RowWiseAgree.{row_wise_keeps}
use Rattle.cedr_table.proofs.PortsAgree.{AllAgree, least_agree}
use Rattle.change_laws.proofs.AgreeLemmas.{share}
use Rattle.change_laws.proofs.AgreeSums.{shares_agree, agree_shares, late_share, clipped_share}

selected_share : (tests : List Test) (t : ℕ) (q x : Row) → sum_by (share t q) (selected tests x) ≡ cond (passes tests x.payload []) (share t q x) 0
selected_share tests t q x = sum_one (share t q) x (passes tests x.payload [])

-- a selection keeps agreement
pub select_keeps : (tests : List Test) → KeepsAgreement (row_wise (selected tests) (λ mark. mark))
select_keeps tests = row_wise_keeps (selected tests) (λ mark. mark) (λ t q. record {
  late = λ x row from. selected_share tests t q x ∙ none_either (passes tests x.payload []) (share t q x) (late_share t q x from);
  early = λ x row before.
      selected_share tests t q (record x { end = min x.end t })
      ∙ (ap (λ n. cond (passes tests x.payload []) n 0) (clipped_share t q x) ∙ sym (selected_share tests t q x));
})

projected_share : (keep : List ℕ) (t : ℕ) (q x : Row) → sum_by (share t q) (projected keep x) ≡ share t q (record x { payload = kept_columns keep x.payload })
projected_share keep t q x = omega arith

-- so does a projection
pub project_keeps : (keep : List ℕ) → KeepsAgreement (row_wise (projected keep) (λ mark. mark))
project_keeps keep = row_wise_keeps (projected keep) (λ mark. mark) (λ t q. record {
  late = λ x row from. projected_share keep t q x ∙ late_share t q (record x { payload = kept_columns keep x.payload }) from;
  early = λ x row before.
      projected_share keep t q (record x { end = min x.end t })
      ∙ (clipped_share t q (record x { payload = kept_columns keep x.payload }) ∙ sym (projected_share keep t q x));
})

united_shares : (t : ℕ) (tables others : Tables) (q : Row) → AllAgree t tables others → sum_by (share t q) (united tables) ≡ sum_by (share t q) (united others)
united_shares t [] [] q h = refl
united_shares t [] (y ∷ ys) q h = absurd h
united_shares t (x ∷ xs) [] q h = absurd h
united_shares t (x ∷ xs) (y ∷ ys) q h =
    omega (arith, sum_by-append (share t q) x (united xs), sum_by-append (share t q) y (united ys), agree_shares t x y q h.0.agree, united_shares t xs ys q h.1)

-- and a union
pub union_keeps : (ports : ℕ) → KeepsAgreement (union_of ports)
union_keeps ports = record {
  agree = λ tables others marks rows others_rows h. shares_agree (least_of marks) (united tables) (united others) (λ q. united_shares (least_of marks) tables others q (least_agree marks tables others rows others_rows h));
  same_bound = λ tables others marks rows others_rows h. refl;
}

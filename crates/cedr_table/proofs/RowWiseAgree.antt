-- Operators each of whose rows makes its rows of the result by itself.
use Rattle.std.proofs.Common.{ℕ, List, refl, sym, ◌∙◌}
use Rattle.std.specs.Prelude.{sum_by}
use Rattle.std.specs.List.{flat_map}
use Rattle.cedr_base.specs.declared.row.Row.{Row}
use Rattle.cedr_base.specs.Rows.{AreRows}
use Rattle.change_laws.specs.Agreeing.{AgreeUpTo}
use Rattle.change_laws.proofs.BagSums.{sum_by-flat_map}
use Rattle.cedr_table.specs.Operators.{mark_at}
use Rattle.cedr_table.specs.RowWise.{row_wise}
use Rattle.cedr_table.specs.Agreements.{KeepsAgreement}
use Rattle.change_laws.proofs.AgreeLemmas.{share}
use Rattle.change_laws.proofs.AgreeSums.{SeesUpTo, agree_sum, shares_agree}

-- what rows make of tables that agree agrees up to a time before which each row makes what it is itself before another one
pub made_agree : (image : Row → List Row) (t b : ℕ) (xs ys : List Row) → ((q : Row) → SeesUpTo t (λ x. sum_by (share b q) (image x))) → AreRows xs → AreRows ys → AgreeUpTo t xs ys → AgreeUpTo b (flat_map image xs) (flat_map image ys)
made_agree image t b xs ys sees xs_are ys_are agree =
    shares_agree b (flat_map image xs) (flat_map image ys)
    (λ q. sum_by-flat_map (share b q) image xs ∙ (agree_sum t (λ x. sum_by (share b q) (image x)) xs ys xs_are ys_are (sees q) agree ∙ sym (sum_by-flat_map (share b q) image ys)))

-- so it is enough that what each row adds before the guarantee at a time sees the row up to that time
pub row_wise_keeps : (image : Row → List Row) (guarantee : ℕ → ℕ) → ((t : ℕ) (q : Row) → SeesUpTo t (λ x. sum_by (share (guarantee t) q) (image x))) → KeepsAgreement (row_wise image guarantee)
row_wise_keeps image guarantee sees = record {
  agree = λ tables others marks rows others_rows h. made_agree image (mark_at marks 0) (guarantee (mark_at marks 0)) _ _ (sees (mark_at marks 0)) (rows.each 0) (others_rows.each 0) (h.each 0);
  same_bound = λ tables others marks rows others_rows h. refl;
}

-- The laws of operators each of whose rows makes its rows of the result by itself.
use Rattle.std.proofs.Common.{ℕ, ◌≤◌, List, refl, ◌∙◌, arith}
use Rattle.cedr_base.specs.declared.time.TheConstants.{FOREVER}
use Rattle.cedr_base.specs.declared.row.Row.{Row}
use Rattle.change_laws.proofs.BagSums.{same_flat_map}
use Rattle.cedr_table.specs.OperatorLaws.{OperatorLaws}
use Rattle.cedr_table.specs.PortLaws.{rise_length, rise_at, same_length, same_at, time_at}
use Rattle.cedr_table.specs.RowWise.{row_wise, StandsOnOne}

-- the laws hold of an operator each of whose rows makes its own rows of the result, where its guarantee never
-- falls while the mark rises and isn't above FOREVER
pub row_wise_laws : (in_range : Type 0) (image : Row → List Row) (guarantee : ℕ → ℕ) → (in_range → (mark higher : ℕ) → mark ≤ higher → guarantee mark ≤ guarantee higher) → (in_range → (mark : ℕ) → mark ≤ FOREVER → guarantee mark ≤ FOREVER)
    → OperatorLaws (row_wise image guarantee) (StandsOnOne in_range)
row_wise_laws in_range image guarantee rises is_time = record {
  sized = λ tables marks h. (h.table, h.mark);
  rising = λ tables marks later h k. record { range = h.range; table = h.table; mark = rise_length marks later k ∙ h.mark };
  alike = λ tables others marks k h. record { range = h.range; table = same_length tables others k ∙ h.table; mark = h.mark };
  same_rows = λ tables others k. same_flat_map image _ _ (same_at 0 tables others k);
  nothing = record { each = λ r. refl };
  bound_rises = λ tables marks later h k. rises h.range _ _ (rise_at 0 marks later k);
  bound_stays = λ tables marks port change after h k m. omega arith;
  bound_is_time = λ tables marks h k. is_time h.range _ (time_at 0 marks k);
  echo_bound = λ tables marks e h. cc;
}

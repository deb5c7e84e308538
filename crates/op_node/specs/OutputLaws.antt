-- An output that hands each change on is repaired by it.
use Rattle.std.proofs.Common.{◌≡◌, ℕ, List, [], ◌∷◌, length, refl, ap, subst, sym, ◌∙◌, arith}
use Rattle.cedr_base.specs.declared.row.Row.{Row}
use Rattle.cedr_base.specs.declared.change.Change.{Change}
use Rattle.change_laws.specs.Repairs.{IsMoved, Repair}
use Rattle.change_laws.proofs.RepairLemmas.{own_repair}
use Rattle.cedr_table.specs.Operators.{Tables, table_at, with_table, mark_at, CanTake}
use Rattle.cedr_table.specs.OperatorLaws.{OperatorLaws}
use Rattle.cedr_table.specs.PortLaws.{rise_length, rise_at, same_length, same_at, table_at-with, time_at}
use Rattle.op_node.specs.Outputs.{handed_on, StandsForOne}

-- a change of its port repairs an output by itself
pub output_repairs : (tables : Tables) (marks : List ℕ) (port : ℕ) (c : Change) (after : List Row) → length tables ≡ 1 → CanTake tables marks port c → IsMoved c (table_at tables port) after
    → Repair (table_at tables 0) (table_at (with_table tables port after) 0) (mark_at marks 0) (c ∷ [])
output_repairs tables marks port c after one can moved =
    let only : port ≡ 0 = let h = can.port_is in omega arith in
    let can0 = subst (λ (n : ℕ). CanTake tables marks n c) only can in
    let moved0 = subst (λ (n : ℕ). IsMoved c (table_at tables n) after) only moved in
    let new_table : table_at (with_table tables port after) 0 ≡ after = ap (λ n. table_at (with_table tables n after) 0) only ∙ table_at-with tables 0 after (omega arith) in
    subst (λ (rows : List Row). Repair (table_at tables 0) rows (mark_at marks 0) (c ∷ [])) (sym new_table)
    (own_repair (table_at tables 0) after (mark_at marks 0) c can0.legal can0.from moved0)

only_mark : (marks : List ℕ) → length marks ≡ 1 → marks ≡ mark_at marks 0 ∷ []
only_mark [] h = absurd (omega arith)
only_mark (m ∷ []) h = refl
only_mark (m ∷ (n ∷ ms)) h = absurd (omega arith)

-- the laws of the meaning of an output, and of what its state stands for
pub output_laws : OperatorLaws handed_on StandsForOne
output_laws = record {
  sized = λ tables marks h. (h.table, h.mark);
  rising = λ tables marks later h k. record { table = h.table; mark = rise_length marks later k ∙ h.mark };
  alike = λ tables others marks k h. record { table = same_length tables others k ∙ h.table; mark = h.mark };
  same_rows = λ tables others k. same_at 0 tables others k;
  nothing = record { each = λ r. refl };
  bound_rises = λ tables marks later h k. rise_at 0 marks later k;
  bound_stays = λ tables marks port change after h k m. omega arith;
  bound_is_time = λ tables marks h k. time_at 0 marks k;
  echo_bound = λ tables marks e h. only_mark marks h.mark;
}

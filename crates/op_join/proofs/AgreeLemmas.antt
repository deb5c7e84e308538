-- Joins of tables that agree.
use Rattle.std.proofs.Common.{◌≡◌, ℕ, ◌<◌, ◌≤◌, List, [], ◌∷◌, ◌++◌, Bool, true, false, cond, refl, sym, ◌∙◌, arith, min}
use Rattle.std.specs.Prelude.{sum_by, max, nat_lt}
use Rattle.cedr_base.specs.declared.field.Field.{Field}
use Rattle.cedr_base.specs.declared.row.Row.{Row}
use Rattle.cedr_base.specs.Rows.{IsRow}
use Rattle.cedr_table.specs.Operators.{least_of}
use Rattle.cedr_expr.specs.declared.test.Test.{Test}
use Rattle.cedr_expr.specs.Tests.{passes}
use Rattle.op_join.specs.Joins.{PairTest, meet, joined_rows, join_of}
use Rattle.cedr_table.specs.Agreements.{KeepsAgreement}
use Rattle.change_laws.proofs.AgreeLemmas.{share}
use Rattle.change_laws.proofs.AgreeSums.{late_share, same_share, one_share}
use Rattle.cedr_table.proofs.PortsAgree.{least_agree}
use Rattle.cedr_table.proofs.ChoicesAgree.{SeesChoicesUpTo, chosen_agree}

module _ (t : ℕ) (q : Row) where
  meet_share : (pass : Bool) (payload : List Field) (begin end : ℕ) → sum_by (share t q) (meet pass payload begin end) ≡ cond pass (share t q (record { end = end; begin = begin; payload = payload })) 0
  meet_share true payload begin end = one_share t q (record { end = end; begin = begin; payload = payload }) (nat_lt begin end) refl
  meet_share false payload begin end = refl

  meet_late : (pass : Bool) (payload : List Field) (begin end : ℕ) → t ≤ begin → sum_by (share t q) (meet pass payload begin end) ≡ 0
  meet_late true payload begin end h = meet_share true payload begin end ∙ late_share t q (record { end = end; begin = begin; payload = payload }) h
  meet_late false payload begin end h = refl

  meet_same : (pass : Bool) (payload : List Field) (begin e f : ℕ) → min e t ≡ min f t → sum_by (share t q) (meet pass payload begin e) ≡ sum_by (share t q) (meet pass payload begin f)
  meet_same true payload begin e f h = meet_share true payload begin e ∙ (same_share t q begin e f payload h ∙ sym (meet_share true payload begin f))
  meet_same false payload begin e f h = refl

module _ (t : ℕ) (q : Row) (pass : PairTest) where
  abbrev weight : List Row → ℕ
  weight rs = sum_by (share t q) (joined_rows pass rs)

  join_late : (before after : List Row) (x : Row) → IsRow x → t ≤ x.begin → weight (before ++ x ∷ after) ≡ 0
  join_late [] [] x row from = refl
  join_late [] (b ∷ []) x row from = meet_late t q (pass x.payload b.payload) (x.payload ++ b.payload) (max x.begin b.begin) (min x.end b.end) (omega arith)
  join_late [] (b ∷ c ∷ after) x row from = refl
  join_late (a ∷ []) [] x row from = meet_late t q (pass a.payload x.payload) (a.payload ++ x.payload) (max a.begin x.begin) (min a.end x.end) (omega arith)
  join_late (a ∷ []) (b ∷ after) x row from = refl
  join_late (a ∷ b ∷ []) after x row from = refl
  join_late (a ∷ b ∷ c ∷ before) after x row from = refl

  join_early : (before after : List Row) (x : Row) → IsRow x → x.begin < t → weight (before ++ record x { end = min x.end t } ∷ after) ≡ weight (before ++ x ∷ after)
  join_early [] [] x row early = refl
  join_early [] (b ∷ []) x row early = meet_same t q (pass x.payload b.payload) (x.payload ++ b.payload) (max x.begin b.begin) (min (min x.end t) b.end) (min x.end b.end) (omega arith)
  join_early [] (b ∷ c ∷ after) x row early = refl
  join_early (a ∷ []) [] x row early = meet_same t q (pass a.payload x.payload) (a.payload ++ x.payload) (max a.begin x.begin) (min a.end (min x.end t)) (min a.end x.end) (omega arith)
  join_early (a ∷ []) (b ∷ after) x row early = refl
  join_early (a ∷ b ∷ []) after x row early = refl
  join_early (a ∷ b ∷ c ∷ before) after x row early = refl

  pub join_sees : SeesChoicesUpTo t weight
  join_sees = record { late = join_late; early = join_early }

-- a join keeps agreement
pub join_keeps : (tests : List Test) → KeepsAgreement (join_of tests)
join_keeps tests = record {
  agree = λ tables others marks rows others_rows h. chosen_agree (least_of marks) (joined_rows (passes tests)) tables others (λ q. join_sees (least_of marks) q (passes tests)) (least_agree marks tables others rows others_rows h);
  same_bound = λ tables others marks rows others_rows h. refl;
}

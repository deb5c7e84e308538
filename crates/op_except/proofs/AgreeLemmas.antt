-- The results of an except of tables that agree, agree.
use Rattle.std.proofs.Common.{ℕ, List, arith}
use Rattle.cedr_base.specs.declared.row.Row.{Row}
use Rattle.change_laws.specs.Agreeing.{AgreeUpTo}
use Rattle.change_laws.proofs.AgreeLemmas.{agree_earlier, agree_back}
use Rattle.cedr_table.specs.Operators.{Tables, table_at, least_of}
use Rattle.cedr_expr.specs.declared.test.Test.{Test}
use Rattle.op_except.specs.Parts.{all_excepted, except_of}
use Rattle.change_laws.proofs.AgreeLemmas.{share}
use Rattle.change_laws.proofs.AgreeSums.{shares_agree}
use Rattle.op_except.specs.SumLaws.{share_sees}
use Rattle.op_except.specs.PartLaws.{excepted_agree}
use Rattle.op_except.specs.OpenLaws.{open_mark}
use Rattle.cedr_table.proofs.PortsAgree.{RowsAgree, least_agree, rows_agree}
use Rattle.op_except.specs.ExceptLaws.{same_open}
use Rattle.cedr_table.specs.Agreements.{KeepsAgreement}

rows_back : (t : ℕ) (xs ys : List Row) → RowsAgree t xs ys → RowsAgree t ys xs
rows_back t xs ys h = record { agree = agree_back t xs ys h.agree; rows = h.others; others = h.rows }

pub agree_at : (tests : List Test) (t : ℕ) (tables others : Tables) → RowsAgree t (table_at tables 0) (table_at others 0) → RowsAgree t (table_at tables 1) (table_at others 1) → AgreeUpTo t (all_excepted tests tables) (all_excepted tests others)
agree_at tests t tables others h k = shares_agree t (all_excepted tests tables) (all_excepted tests others)
    (λ q. excepted_agree tests t (share t q) (table_at tables 0) (table_at others 0) (table_at tables 1) (table_at others 1) (share_sees t q) h.rows h.others k.rows k.others h.agree k.agree)

pub except_keeps : (tests : List Test) → KeepsAgreement (except_of tests)
except_keeps tests = record {
  agree = λ tables others marks rows others_rows h.
      let all = least_agree marks tables others rows others_rows h in
      agree_earlier _ (least_of marks) (all_excepted tests tables) (all_excepted tests others) (open_mark (least_of marks) (all_excepted tests tables))
      (agree_at tests (least_of marks) tables others (rows_agree (least_of marks) 0 tables others all) (rows_agree (least_of marks) 1 tables others all));
  same_bound = λ tables others marks rows others_rows h.
      let all = least_agree marks tables others rows others_rows h in
      let first = rows_agree (least_of marks) 0 tables others all in
      let second = rows_agree (least_of marks) 1 tables others all in
      omega (
        arith,
        same_open tests (least_of marks) (table_at tables 0) (table_at others 0) (table_at tables 1) (table_at others 1) first second,
        same_open tests (least_of marks) (table_at others 0) (table_at tables 0) (table_at others 1) (table_at tables 1) (rows_back _ _ _ first) (rows_back _ _ _ second),
      );
}

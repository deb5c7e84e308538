use Rattle.std.proofs.Common.{◌≤◌, length, ap, subst}
use Rattle.std.proofs.lemmas.Result.{IfOk-weaker}
use Rattle.cedr_table.specs.Operators.{Tables}
use Rattle.pat_state.specs.Groups.{grouped_rows}
use Rattle.pat_seq.specs.Keeping.{rows_in}
use Rattle.pat_seq.proofs.KeptLemmas.{found_in_order}
use Rattle.pat_seq.proofs.kept.Kept.find.Goals as goal

pub returns-in-More : goal.returns-in-More
returns-in-More c =
    let same = ap rows_in c.in-More.is in
    let few = c.requires.ports.1 in
    IfOk-weaker c.find.result _ _
    (λ rows is. found_in_order c.args.scope c.args.tests.now c.args.row.now c.args.changed c.len.result (rows_in c.args.self.now) (grouped_rows c.in-More.grouped) rows.items same c.len.ensures (subst (λ (ts : Tables). length ts ≤ 4) same few) is)
    c.find.ensures

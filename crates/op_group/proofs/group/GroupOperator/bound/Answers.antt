use Rattle.cedr_table.specs.Operators.{table_at, mark_at}
use Rattle.op_group.specs.Groups.{grouping_with}
use Rattle.op_group.proofs.BoundLemmas.{first_is_bound}
use Rattle.op_group.proofs.group.GroupOperator.bound.Goals as goal

pub returns : goal.returns
returns c = λ tables stands. first_is_bound (grouping_with c.args.self.now.keys c.args.self.now.count c.args.self.now.totalled) c.args.self.now.groups.entries c.args.self.now.points.all.keys c.args.self.now.points.due.keys (table_at tables 0) (mark_at c.args.marks.now 0) c.first_open.result stands.keeps c.first_open.ensures

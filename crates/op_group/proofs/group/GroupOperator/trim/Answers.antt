use Rattle.std.proofs.Common.{arith}
use Rattle.cedr_table.specs.PortLaws.{rise_length, time_at}
use Rattle.cedr_table.specs.Operators.{table_at}
use Rattle.op_group.specs.Groups.{grouping_with}
use Rattle.op_group.specs.StateLaws.{stands_rising}
use Rattle.op_group.proofs.HeldLemmas.{only_holds}
use Rattle.op_group.proofs.group.GroupOperator.trim.Goals as goal

pub returns-clause-stands : goal.returns-clause-stands
returns-clause-stands c = λ tables earlier stands rise.
    let later = stands_rising (grouping_with c.args.self.now.keys c.args.self.now.count c.args.self.now.totalled) c.args.self.now.groups.entries c.args.self.now.points c.args.self.now.bags tables earlier c.args.marks.now rise stands in
    record {
      table = later.table;
      mark = later.mark;
      rows = later.rows;
      keeps = c.forget.ensures.keeps (grouping_with c.args.self.now.keys c.args.self.now.count c.args.self.now.totalled) (table_at tables 0) later.keeps;
      fields = c.forget.ensures.fields (grouping_with c.args.self.now.keys c.args.self.now.count c.args.self.now.totalled) (table_at tables 0) later.fields;
    }

pub returns-clause-held : goal.returns-clause-held
returns-clause-held c = λ tables earlier stands rise.
    let later = stands_rising (grouping_with c.args.self.now.keys c.args.self.now.count c.args.self.now.totalled) c.args.self.now.groups.entries c.args.self.now.points c.args.self.now.bags tables earlier c.args.marks.now rise stands in
    only_holds (grouping_with c.args.self.now.keys c.args.self.now.count c.args.self.now.totalled) c.forget.new.groups.entries c.forget.new.points.all.keys c.forget.new.points.due.keys c.forget.new.bags tables c.args.marks.now
    (c.forget.ensures.keeps (grouping_with c.args.self.now.keys c.args.self.now.count c.args.self.now.totalled) (table_at tables 0) later.keeps) (c.forget.ensures.fields (grouping_with c.args.self.now.keys c.args.self.now.count c.args.self.now.totalled) (table_at tables 0) later.fields) c.forget.ensures.passed (time_at 0 c.args.marks.now c.requires.4)

pub bounds-marks-0 : goal.bounds-marks-0
bounds-marks-0 c = let one = c.requires.2.mark in omega (arith, one, rise_length c.requires.1 c.args.marks.now c.requires.3)

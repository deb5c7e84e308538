use Rattle.std.proofs.Common.{sym, subst}
use Rattle.plan_workers.specs.Closings.{IsDesk}
use Rattle.plan_report.proofs.CrewLemmas.{have_ended, worked_count}
use Rattle.plan_report.proofs.closing.report_run.Goals as goal

pub close_all-closed-requires-clause-works : goal.close_all-closed-requires-clause-works
close_all-closed-requires-clause-works g c =
    let given = c.requires.worked.0 in
    let worked = c.requires.worked.1 in
    (worked.takers, worked.putters, given, c.args.reader.history, worked.roles, worked.wired, worked.roles_are, worked.work)

pub close_all-closed-requires-clause-desk : goal.close_all-closed-requires-clause-desk
close_all-closed-requires-clause-desk g c =
    subst (λ n. IsDesk n c.args.room.desk) (sym (worked_count g.S.Source.rest g.S.Source.faults c.args.plan.now.nodes.items c.requires.worked.0 c.args.reader.history c.args.workers.items c.requires.worked.1)) c.requires.room.desk

pub report_on-requires-clause-ended : goal.report_on-requires-clause-ended
report_on-requires-clause-ended g c =
    (c.requires.worked.0, have_ended g.S.Source.rest g.S.Source.faults c.args.plan.now.nodes.items c.requires.worked.0 c.args.reader.history c.args.workers.items c.close_all-closed.result c.requires.worked.1 c.close_all-closed.ensures)

pub returns-clause-report : goal.returns-clause-report
returns-clause-report g c = λ given worked.
    c.report_on.ensures.report given (have_ended g.S.Source.rest g.S.Source.faults c.args.plan.now.nodes.items given c.args.reader.history c.args.workers.items c.close_all-closed.result worked c.close_all-closed.ensures)

pub returns-clause-so_far : goal.returns-clause-so_far
returns-clause-so_far g c = λ given worked.
    c.report_on.ensures.so_far given (have_ended g.S.Source.rest g.S.Source.faults c.args.plan.now.nodes.items given c.args.reader.history c.args.workers.items c.close_all-closed.result worked c.close_all-closed.ensures)

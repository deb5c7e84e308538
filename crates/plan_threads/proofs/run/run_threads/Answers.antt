use Rattle.std.proofs.Common.{◌≡◌, length, subst, arith}
use Rattle.plan_report.proofs.CrewLemmas.{crew_count, have_worked}
use Rattle.plan_report.specs.Rooms.{IsReportRoom}
use Rattle.plan_threads.proofs.run.run_threads.Goals as goal

pub play-played-requires-clause-posts : goal.play-played-requires-clause-posts
play-played-requires-clause-posts g c κs within =
    let crew = crew_count g.S.Source.rest g.S.Source.faults c.args.plan.now.nodes.items c.args.sources.items c.in_ok-crew.crew.workers.items c.in_ok-crew.crew.reader c.in_ok-crew.ensures.made in
    omega (arith, c.in-Ok.ensures.posts, crew, c.len.ensures, c.args.plan.now.nodes.ok.0)

pub play-played-requires-clause-seats : goal.play-played-requires-clause-seats
play-played-requires-clause-seats g c κs within =
    let crew = crew_count g.S.Source.rest g.S.Source.faults c.args.plan.now.nodes.items c.args.sources.items c.in_ok-crew.crew.workers.items c.in_ok-crew.crew.reader c.in_ok-crew.ensures.made in
    (c.in-Ok.ensures.seats.0, omega (arith, c.in-Ok.ensures.seats.1, crew, c.len.ensures, c.args.plan.now.nodes.ok.0))

pub play-played-requires-clause-joined : goal.play-played-requires-clause-joined
play-played-requires-clause-joined g c κs within =
    let crew = crew_count g.S.Source.rest g.S.Source.faults c.args.plan.now.nodes.items c.args.sources.items c.in_ok-crew.crew.workers.items c.in_ok-crew.crew.reader c.in_ok-crew.ensures.made in
    (c.in-Ok.ensures.joined.0, omega (arith, c.in-Ok.ensures.joined.1, crew, c.len.ensures, c.args.plan.now.nodes.ok.0))

pub report_run-requires-clause-worked : goal.report_run-requires-clause-worked
report_run-requires-clause-worked g c =
    let made = c.in_ok-crew.ensures.made in
    (c.args.sources.items, have_worked g.S.Source.rest g.S.Source.faults c.args.plan.now.nodes.items c.args.sources.items c.in_ok-crew.crew.workers.items c.play-played.result.workers.items c.in_ok-crew.crew.reader c.play-played.new.reader made c.play-played.ensures.reads (c.play-played.ensures.works made.roles made.work))

pub report_run-requires-clause-room : goal.report_run-requires-clause-room
report_run-requires-clause-room g c =
    let count : c.len.result ≡ length c.args.plan.now.nodes.items = omega (arith, c.len.ensures, c.args.plan.now.nodes.ok.0) in
    subst (λ n. IsReportRoom n c.in-Ok.room.report) count c.in-Ok.ensures.report

pub returns-clause-report : goal.returns-clause-report
returns-clause-report g c =
    let made = c.in_ok-crew.ensures.made in
    c.report_run.ensures.report c.args.sources.items (have_worked g.S.Source.rest g.S.Source.faults c.args.plan.now.nodes.items c.args.sources.items c.in_ok-crew.crew.workers.items c.play-played.result.workers.items c.in_ok-crew.crew.reader c.play-played.new.reader made c.play-played.ensures.reads (c.play-played.ensures.works made.roles made.work))

pub returns-clause-so_far : goal.returns-clause-so_far
returns-clause-so_far g c =
    let made = c.in_ok-crew.ensures.made in
    let told = c.report_run.ensures.so_far c.args.sources.items (have_worked g.S.Source.rest g.S.Source.faults c.args.plan.now.nodes.items c.args.sources.items c.in_ok-crew.crew.workers.items c.play-played.result.workers.items c.in_ok-crew.crew.reader c.play-played.new.reader made c.play-played.ensures.reads (c.play-played.ensures.works made.roles made.work)) in
    (told.0, (subst (λ start. g.W.Watcher.stands start c.report_run.new.watcher c.report_run.new.out told.0) c.of-start.ensures told.1.0, told.1.1))

pub returns-clause-whole : goal.returns-clause-whole
returns-clause-whole g c = λ done. subst (λ start. g.W.Watcher.stands start c.report_run.new.watcher c.report_run.new.out c.report_run.result.changes.items) c.of-start.ensures (c.report_run.ensures.whole done)

pub returns-clause-short : goal.returns-clause-short
returns-clause-short g c = λ found. c.report_run.ensures.short (c.play-played.ensures.asked found)

use Rattle.std.proofs.Common.{◌≡◌, ◌<◌, [], length, sym, refl, ◌∙◌, subst, arith}
use Rattle.cedr_history.proofs.Extending.{extends_self}
use Rattle.cedr_plan.proofs.PlaceLemmas.{has_node}
use Rattle.plan_report.proofs.CrewLemmas.{crew_count, have_worked}
use Rattle.plan_report.specs.Rooms.{IsReportRoom}
use Rattle.plan_report.specs.Watching.{ReadsOn}
use Rattle.plan_workers.specs.Roles.{AllWorkAs}
use Rattle.cedr_pool.specs.Rooms.{HasRoomBack, HasRoomIn}
use Rattle.cedr_pool.proofs.RunLemmas.{all_have_roles, all_work_on}
use Rattle.cedr_pool.proofs.run.run_pool.Goals as goal

pub turn_all-turned-requires-clause-works : goal.turn_all-turned-requires-clause-works
turn_all-turned-requires-clause-works g c κs within =
    let made = c.in_ok-crew.ensures.made in
    all_have_roles g.S.Source.rest g.S.Source.faults made.roles c.in_ok-crew.crew.workers.items made.work

pub turn_all-turned-requires-clause-room_in : goal.turn_all-turned-requires-clause-room_in
turn_all-turned-requires-clause-room_in g c κs within =
    let crew = crew_count g.S.Source.rest g.S.Source.faults c.args.plan.now.nodes.items c.args.sources.items c.in_ok-crew.crew.workers.items c.in_ok-crew.crew.reader c.in_ok-crew.ensures.made in
    let count : c.len.result ≡ length c.in_ok-crew.crew.workers.items = omega (arith, c.len.ensures, crew, c.args.plan.now.nodes.ok.0) in
    subst (λ n. HasRoomIn n c.args.workers c.in-Ok.rooms.room_in) count c.in-Ok.ensures.room_in

pub turn_all-turned-requires-clause-room_back : goal.turn_all-turned-requires-clause-room_back
turn_all-turned-requires-clause-room_back g c κs within =
    let crew = crew_count g.S.Source.rest g.S.Source.faults c.args.plan.now.nodes.items c.args.sources.items c.in_ok-crew.crew.workers.items c.in_ok-crew.crew.reader c.in_ok-crew.ensures.made in
    let count : c.len.result ≡ length c.in_ok-crew.crew.workers.items = omega (arith, c.len.ensures, crew, c.args.plan.now.nodes.ok.0) in
    subst (λ n. HasRoomBack n c.args.workers c.in-Ok.rooms.room_back) count c.in-Ok.ensures.room_back

pub turn_on-requires-after_bounds : goal.turn_on-requires-after_bounds
turn_on-requires-after_bounds g c κs within =
    let made = c.in_ok-crew.ensures.made in
    (made.roles, all_work_on g.S.Source.rest g.S.Source.faults made.roles c.in_ok-crew.crew.workers.items c.turn_all-turned.result.items c.turn_all-turned.ensures made.work)

pub report_run-requires-clause-worked : goal.report_run-requires-clause-worked
report_run-requires-clause-worked g c =
    let made = c.in_ok-crew.ensures.made in
    let still : ReadsOn c.in_ok-crew.crew.reader c.in_ok-crew.crew.reader = record { history = refl; last = refl; later = extends_self c.in_ok-crew.crew.reader.seen } in
    let pooled : AllWorkAs g.S.Source.rest g.S.Source.faults made.roles c.turn_all-turned.result.items = all_work_on g.S.Source.rest g.S.Source.faults made.roles c.in_ok-crew.crew.workers.items c.turn_all-turned.result.items c.turn_all-turned.ensures made.work in
    (c.args.sources.items, have_worked g.S.Source.rest g.S.Source.faults c.args.plan.now.nodes.items c.args.sources.items c.in_ok-crew.crew.workers.items c.turn_on.new.workers.items c.in_ok-crew.crew.reader c.in_ok-crew.crew.reader made still (c.turn_on.ensures.works made.roles pooled))

pub report_run-requires-clause-watches : goal.report_run-requires-clause-watches
report_run-requires-clause-watches g c = ([], c.new-quiet.ensures.stands, (c.in_ok-crew.crew.reader.seen.changes, refl))

pub report_run-requires-clause-room : goal.report_run-requires-clause-room
report_run-requires-clause-room g c =
    let count : c.len.result ≡ length c.args.plan.now.nodes.items = omega (arith, c.len.ensures, c.args.plan.now.nodes.ok.0) in
    subst (λ n. IsReportRoom n c.in-Ok.rooms.report) count c.in-Ok.ensures.report

pub returns-clause-report : goal.returns-clause-report
returns-clause-report g c =
    let made = c.in_ok-crew.ensures.made in
    let still : ReadsOn c.in_ok-crew.crew.reader c.in_ok-crew.crew.reader = record { history = refl; last = refl; later = extends_self c.in_ok-crew.crew.reader.seen } in
    let pooled : AllWorkAs g.S.Source.rest g.S.Source.faults made.roles c.turn_all-turned.result.items = all_work_on g.S.Source.rest g.S.Source.faults made.roles c.in_ok-crew.crew.workers.items c.turn_all-turned.result.items c.turn_all-turned.ensures made.work in
    c.report_run.ensures.report c.args.sources.items (have_worked g.S.Source.rest g.S.Source.faults c.args.plan.now.nodes.items c.args.sources.items c.in_ok-crew.crew.workers.items c.turn_on.new.workers.items c.in_ok-crew.crew.reader c.in_ok-crew.crew.reader made still (c.turn_on.ensures.works made.roles pooled))

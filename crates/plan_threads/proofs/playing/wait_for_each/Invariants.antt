use Rattle.std.proofs.Common.{◌≡◌, false, List}
use Rattle.plan_workers.specs.Roles.{Role}
use Rattle.plan_threads.specs.Seats.{AllSeatAs}
use Rattle.plan_report.specs.Watching.{IsAskedNoMore, ReadsOn, Watches}
use Rattle.plan_threads.proofs.playing.wait_for_each.Given as goal

abbrev pub invariant-loop : goal.invariant-loop
invariant-loop g l = record {
  seats : (roles : List Role) → AllSeatAs g.S.Source.rest g.S.Source.faults roles l.initial.seats.items → AllSeatAs g.S.Source.rest g.S.Source.faults roles l.seats.items;
  reads : ReadsOn l.initial.reader l.reader;
  asked : g.W.Watcher.lacked l.initial.watcher ≡ false → IsAskedNoMore (g.W.Watcher.lacked l.watcher) l.looks;
  watches : Watches (g.W.Watcher.stands l.start.value) l.watcher l.out l.reader;
}

use Rattle.std.proofs.Common.{◌≡◌}
use Rattle.plan_report.specs.Watching.{ReadsOn, Watches}
use Rattle.plan_report.proofs.watching.look_on.Given as goal

abbrev pub invariant-loop : goal.invariant-loop
invariant-loop g l = record {
  reads : ReadsOn l.initial.reader l.reader;
  found : g.W.Watcher.lacked l.watcher ≡ g.W.Watcher.lacked l.initial.watcher;
  watches : Watches (g.W.Watcher.stands l.start.value) l.watcher l.out l.reader;
}

use Rattle.std.proofs.Common.{◌≡◌, ◌<◌, [], ◌∷◌, arith, rules}
use Rattle.crossbeam_queue.specs.Passes.{view as known}
use Rattle.pool_queue.proofs.Moves.{opens, learns_open}
use Rattle.pool_queue.proofs.Opening.{opens_apart, opens_next, opens_first, opens_last}
use Rattle.pool_queue.proofs.room.put_all.Goals as goal

pub loop-task-init : goal.loop-task-init
loop-task-init g c = record {
  same = search rules;
  so = opens_first g.T.Placed.place c.args.tasks.items _ _ c.requires.pass c.from_vec-left.ensures.items;
}

pub push_as-requires-clause-rule : goal.push_as-requires-clause-rule
push_as-requires-clause-rule g c =
    let parts = c.loop-task.invariant.so.parts in
    let is : c.loop-task.left.items ≡ c.in-Some.task ∷ c.pop_front.new.self.items = search rules in
    let live : 0 < (known c.loop-task.pass).parts = omega (arith, parts) in
    (opens g.T.Placed.place _ _ _ c.in-Some.task parts (opens_apart g.T.Placed.place c.args.tasks.items c.loop-task.left.items c.pop_front.new.self.items c.in-Some.task _ c.loop-task.invariant.so is c.requires.apart), learns_open g.T.Placed.place _ _ live)

pub loop-task-preserved : goal.loop-task-preserved
loop-task-preserved g c =
    let is : c.loop-task.left.items ≡ c.in-Some.task ∷ c.pop_front.new.self.items = search rules in
    record {
      same = search rules;
      so = opens_next g.T.Placed.place c.args.tasks.items c.loop-task.left.items c.pop_front.new.self.items c.in-Some.task (known c.loop-task.pass) c.loop-task.invariant.so is _ c.in-Ok.ensures.rule;
    }

pub returns-clause-pass : goal.returns-clause-pass
returns-clause-pass g c =
    let none : c.loop-task.left.items ≡ [] = search rules in
    opens_last g.T.Placed.place c.args.tasks.items c.loop-task.left.items _ c.loop-task.invariant.so none

use Rattle.std.proofs.Common.{rules}
use Rattle.cedr_worker.proofs.EndLemmas.{none_broken}
use Rattle.cedr_worker.proofs.TurnLemmas.{not_all, idle_or_moved}
use Rattle.cedr_worker.specs.Inputs.{taken_in}
use Rattle.cedr_worker.proofs.operator.OperatorWorker.turn.Goals as goal

pub returns-then-all_over-clause-broken : goal.returns-then-all_over-clause-broken
returns-then-all_over-clause-broken g c =
    let w = c.work-worked in none_broken w.new.node (taken_in w.new.inputs.items) w.new.outlets w.result.lacked w.result.broke w.ensures.works

pub returns-then-worked-clause-ended : goal.returns-then-worked-clause-ended
returns-then-worked-clause-ended g c = (λ e. cc, λ all. absurd (not_all c.work-worked.new.outlets all (c.if-all_over.ensures.open (search rules))))

pub returns-then-worked-clause-broken : goal.returns-then-worked-clause-broken
returns-then-worked-clause-broken g c =
    let w = c.work-worked in none_broken w.new.node (taken_in w.new.inputs.items) w.new.outlets w.result.lacked w.result.broke w.ensures.works

pub returns-else-worked-clause-ended : goal.returns-else-worked-clause-ended
returns-else-worked-clause-ended g c = (λ e. cc, λ all. absurd (not_all c.work-worked.new.outlets all (c.if-all_over.ensures.open (search rules))))

pub returns-else-worked-clause-moved : goal.returns-else-worked-clause-moved
returns-else-worked-clause-moved g c =
    let w = c.work-worked in
    (λ e. cc, λ both. absurd (idle_or_moved c.args.self.now.outlets w.new.outlets c.args.self.now.inputs.items w.new.inputs.items (w.ensures.turn.idle (search rules)) both.1))

pub returns-else-worked-clause-broken : goal.returns-else-worked-clause-broken
returns-else-worked-clause-broken g c =
    let w = c.work-worked in none_broken w.new.node (taken_in w.new.inputs.items) w.new.outlets w.result.lacked w.result.broke w.ensures.works

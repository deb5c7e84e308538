use Rattle.std.proofs.Common.{sym, subst, ◌∙◌}
use Rattle.node_laws.specs.Lists.{Lists, AreTables}
use Rattle.cedr_plan.specs.Places.{source_count}
use Rattle.plan_runs.specs.Runs.{AllWhole}
use Rattle.node_laws.proofs.Order.{one_canonical}
use Rattle.plan_serial.proofs.query.answer_rows.Goals as goal

pub returns : goal.returns
returns c = λ histories whole are remembers.
    let nodes = c.args.plan.now.nodes.items in
    let run = c.in_ok-net.ensures in
    let rows = c.in_ok-rows.ensures nodes run.ports run.given run.stands in
    sym rows.ordered
    ∙ one_canonical c.in_ok-rows.rows.items _
    (c.network_runs.ensures.query nodes c.in_ok-net.net run.ports run.given run.stands run.settled (subst (AllWhole (source_count nodes)) (sym run.sources) whole) remembers histories
    (subst (λ (ls : Lists). AreTables ls histories) (sym run.sources) are) c.in_ok-rows.rows.items rows.table)

use Rattle.plan_workers.proofs.EndingLemmas.{operator_ends}
use Rattle.plan_workers.proofs.ending.end_operator.Goals as goal

pub returns : goal.returns
returns g c role works =
    let done = c.finish-node in
    operator_ends g.S.Source.rest g.S.Source.faults role c.args.worker done.result c.from_vec.result c.from_vec-2.result works c.from_vec.ensures c.from_vec-2.ensures done.ensures.node done.ensures.inputs
    done.ensures.edges done.ensures.sent done.ensures.sound done.ensures.lost done.ensures.over (done.ensures.ran_number, done.ensures.ran_taken, done.ensures.ran_put)

use Rattle.cedr_worker.proofs.TurnLemmas.{puts_totals, puts_staged, turn_done}
use Rattle.cedr_worker.proofs.WorkLemmas.{works_outlets}
use Rattle.cedr_worker.proofs.working.work.Goals as goal

pub returns-clause-works : goal.returns-clause-works
returns-clause-works g c =
    let closed = c.break_off-broke.new.outlets in
    let put = c.put_each-puts.new.self in
    let puts = c.put_each-puts.ensures.put in
    c.take_unless-takes.ensures.works c.break_off-broke.result
    (works_outlets c.args.node.now _ closed put c.args.lacked c.break_off-broke.result (puts_totals closed put c.put_each-puts.result.moved puts) (puts_staged closed put c.put_each-puts.result.moved puts) (c.break_off-broke.ensures.works c.args.node.now c.requires))

pub returns-clause-turn : goal.returns-clause-turn
returns-clause-turn g c =
    let closes = c.break_off-broke in
    let puts = c.put_each-puts in
    let takes = c.take_unless-takes in
    turn_done c.args.outlets.now closes.new.outlets puts.new.self takes.new.outlets c.args.inputs.now.items takes.new.inputs.items puts.result.moved puts.result.pending takes.result.moved closes.ensures.bare closes.ensures.same closes.ensures.pending puts.ensures.put puts.ensures.none puts.ensures.some takes.ensures.taken takes.ensures.waits takes.ensures.bare takes.ensures.same

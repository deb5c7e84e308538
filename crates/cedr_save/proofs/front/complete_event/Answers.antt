use Rattle.cedr_save.proofs.CompletedFronts.{event_last, event_cut}
use Rattle.cedr_save.proofs.front.complete_event.Goals as goal

pub returns-in_default-clause-goes_on : goal.returns-in_default-clause-goes_on
returns-in_default-clause-goes_on c = event_last c.complete_id.result c.args.types.now c.args.front.now c.in_default.ensures c.complete_id.ensures.goes_on

pub returns-clause-goes_on : goal.returns-clause-goes_on
returns-clause-goes_on c =
    event_cut c.args.types.now c.args.front.now c.in-Some.id.now c.in-Some.rest.now c.in_ok-line.line.items c.push.new.self.items c.complete_row.new.line.items
    c.in-Some.ensures c.in_ok-line.ensures.items c.in_ok-push.ensures.items c.in_ok-complete_row.ensures.goes_on

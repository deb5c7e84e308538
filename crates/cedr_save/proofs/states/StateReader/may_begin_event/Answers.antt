use Rattle.std.proofs.Common.{Option, subst}
use Rattle.cedr_guard.specs.declared.state.EventState.{EventState}
use Rattle.cedr_save.specs.Lines.{ids_of, EventOfFront}
use Rattle.cedr_save.proofs.FrontStands.{event_may, event_never}
use Rattle.cedr_save.proofs.states.StateReader.may_begin_event.Goals as goal

pub returns-in-Some : goal.returns-in-Some
returns-in-Some c = λ source has up.
    let is = subst (λ (o : Option EventState). EventOfFront o source.types c.args.front.now) c.in-Some.is (c.in_ok-event.ensures source.types has) in
    event_may c.is_above.result source (ids_of c.args.self.now.events.items) c.args.front.now c.in-Some.event is (c.is_above.ensures up)

pub returns-in-None : goal.returns-in-None
returns-in-None c = λ source has up.
    event_never source (ids_of c.args.self.now.events.items) c.args.front.now (subst (λ (o : Option EventState). EventOfFront o source.types c.args.front.now) c.in-None.is (c.in_ok-event.ensures source.types has))

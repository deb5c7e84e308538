use Rattle.std.proofs.Common.{◌≡◌, ◌++◌, ◌∷◌, [], Option, Bool, true, false, refl, sym, subst, rules}
use Rattle.std.specs.Prelude.{MatchBool}
use Rattle.cedr_guard.specs.declared.state.EventState.{EventState}
use Rattle.cedr_save.specs.declared.states.Spot.{Spot}
use Rattle.cedr_save.specs.Lines.{ReadsEvent, AreLower, ids_of}
use Rattle.cedr_save.specs.Reading.{StandsAtSpot, IsInSource}
use Rattle.cedr_save.proofs.StandLemmas.{event_refused, event_taken}
use Rattle.cedr_save.proofs.TakeLemmas.{behind_events}
use Rattle.cedr_save.proofs.states.StateReader.take_in_source.Goals as goal

pub returns-then-not-is_above : goal.returns-then-not-is_above
returns-then-not-is_above c = λ before stands next.
    let here : IsInSource c.args.self.now c.args.nodes.now before = subst (λ (s : Spot). StandsAtSpot s c.args.self.now c.args.nodes.now before) c.requires.spot stands in
    let reads = subst (λ (o : Option EventState). ReadsEvent o here.source.types c.args.line.now) c.in-Some.is (c.in_ok-event.ensures here.source.types here.shape) in
    let no : c.is_above.result ≡ false = search rules in
    let high = subst (λ (b : Bool). MatchBool b (AreLower c.in-Some.event.id (ids_of c.args.self.now.events.items)) (AreLower c.in-Some.event.id (ids_of c.args.self.now.events.items) → ⊥)) no (c.is_above.ensures here.open_saved.fit.ascend) in
    event_refused c.args.self.now c.args.nodes.now before c.args.line.now c.in-Some.event here reads.0.id reads.2 high next

pub returns-in_ok-push-in-Some : goal.returns-in_ok-push-in-Some
returns-in_ok-push-in-Some c = λ before stands.
    let here : IsInSource c.args.self.now c.args.nodes.now before = subst (λ (s : Spot). StandsAtSpot s c.args.self.now c.args.nodes.now before) c.requires.spot stands in
    let reads = subst (λ (o : Option EventState). ReadsEvent o here.source.types c.args.line.now) c.in-Some.is (c.in_ok-event.ensures here.source.types here.shape) in
    let yes : c.is_above.result ≡ true = search rules in
    let low = subst (λ (b : Bool). MatchBool b (AreLower c.in-Some.event.id (ids_of c.args.self.now.events.items)) (AreLower c.in-Some.event.id (ids_of c.args.self.now.events.items) → ⊥)) yes (c.is_above.ensures here.open_saved.fit.ascend) in
    let taken = event_taken c.args.self.now (record c.args.self.now { events = c.push.new.self }) c.args.nodes.now before c.args.line.now c.in-Some.event here reads low (record { spot = refl; next = refl; shape = refl; mark = refl }) refl c.in_ok-push-in-Some.ensures.items in
    subst (λ (s : Spot). StandsAtSpot s (record c.args.self.now { events = c.push.new.self }) c.args.nodes.now (before ++ c.args.line.now ∷ [])) (sym c.requires.spot) taken

pub returns-in-None : goal.returns-in-None
returns-in-None c = behind_events c.take_next.result c.args.self.now c.take_next.new.self c.args.nodes.now c.args.line.now c.requires.spot
    (λ types has. subst (λ (o : Option EventState). ReadsEvent o types c.args.line.now) c.in-None.is (c.in_ok-event.ensures types has)) c.take_next.ensures

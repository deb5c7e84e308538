use Rattle.std.proofs.Common.{◌≡◌, ℕ, List, map, ap, ◌∙◌, arith}
use Rattle.std.proofs.lemmas.Grind.{common_steps}
use Rattle.cedr_guard.specs.declared.state.EventState.{EventState}
use Rattle.cedr_guard.specs.Judging.{guarantee_of}
use Rattle.cedr_guard.specs.Spelt.{State}
use Rattle.cedr_guard.specs.Standing.{stored_event}
use Rattle.cedr_guard.proofs.RestoreLemmas.{stored_state}
use Rattle.cedr_guard.proofs.guard.Guard.state.Goals as goal

pub returns : goal.returns
returns c = λ lines guards.
    let all : c.loop-entry.events.items ≡ map (stored_event c.args.self.now) c.in_ok-places.places.items = grind (arith, common_steps) in
    let places = c.in_ok-places.ensures in
    ap {B = State} (λ (m : ℕ). record { mark = m; events = c.loop-entry.events.items }) (c.mark.ensures lines guards.judge)
    ∙ ap {B = State} (λ (es : List EventState). record { mark = guarantee_of lines; events = es }) (all ∙ stored_state c.args.self.now lines c.in_ok-places.places.items guards places.rising places.places)

use Rattle.std.proofs.Common.{◌≡◌, ◌-◌, ◌<◌, List, length, get_or, sym, subst}
use Rattle.std.proofs.lemmas.Bool.{ltb-true}
use Rattle.cedr_guard.specs.declared.state.EventState.{EventState}
use Rattle.cedr_save.proofs.SourceLemmas.{above_last}
use Rattle.cedr_save.proofs.states.StateReader.is_above.Goals as goal

pub returns-in-Some : goal.returns-in-Some
returns-in-Some c = λ up.
    let events = c.args.self.now.events.items in
    let last = c.in-Some.last.now in
    let facts = c.in-Some.ensures in
    let some = subst (λ (es : List EventState). 0 < length es) c.deref.ensures.value (ltb-true 0 (length c.deref.result.now) (sym facts.item.0)) in
    let is = subst (λ (es : List EventState). last ≡ get_or es (length es - 1) last) c.deref.ensures.value facts.item.1 in
    above_last c.args.id c.args.self.now.events.items c.in-Some.last.now up some is

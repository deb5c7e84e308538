use Rattle.std.proofs.Common.{◌≡◌, ◌-◌, ◌<◌, List, length, get_or, sym, subst}
use Rattle.std.proofs.lemmas.Bool.{ltb-true, lt-ltb}
use Rattle.cedr_guard.specs.declared.ids.IdPlace.{IdPlace}
use Rattle.cedr_guard.proofs.IdLemmas.{below_last, last_below}
use Rattle.cedr_guard.proofs.ids.Ids.is_above.Goals as goal

pub returns-in-Some : goal.returns-in-Some
returns-in-Some c =
    let rising = c.args.self.now.rising.items in
    let last = c.in-Some.last.now in
    let facts = c.in-Some.ensures in
    let some = subst (λ (es : List IdPlace). 0 < length es) c.deref.ensures.value (ltb-true 0 (length c.deref.result.now) (sym facts.item.0)) in
    let is = subst (λ (es : List IdPlace). last ≡ get_or es (length es - 1) last) c.deref.ensures.value facts.item.1 in
    (λ above. below_last c.args.id rising last c.args.self.now.rises some is (ltb-true last.id c.args.id above), λ below. lt-ltb last.id c.args.id (last_below c.args.id rising last below some is))

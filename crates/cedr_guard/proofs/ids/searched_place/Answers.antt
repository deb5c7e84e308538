use Rattle.std.proofs.Common.{Ok, Err, rules, sym}
use Rattle.std.proofs.lemmas.List.Sorted.{answers_always}
use Rattle.cedr_guard.specs.declared.ids.IdPlace.{IdPlace}
use Rattle.cedr_guard.proofs.IdLemmas.{place_searched}
use Rattle.cedr_guard.proofs.ids.searched_place.Goals as goal

pub returns-in-Ok : goal.returns-in-Ok
returns-in-Ok c =
    let facts = c.in-Ok.ensures in
    let found = facts.position (λ (e : IdPlace). e.id) (answers_always _ _ _ (λ f a r g called. search rules)) in
    sym (place_searched c.args.id c.args.rising.now (Ok c.in-Ok.index) c.requires facts.bound found (record { id = 0; place = 0 }))

pub returns-in-Err : goal.returns-in-Err
returns-in-Err c =
    let facts = c.in-Err.ensures in
    let found = facts.position (λ (e : IdPlace). e.id) (answers_always _ _ _ (λ f a r g called. search rules)) in
    sym (place_searched c.args.id c.args.rising.now (Err c.in-Err.field-0) c.requires facts.bound found)

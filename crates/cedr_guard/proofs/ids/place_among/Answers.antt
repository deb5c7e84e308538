use Rattle.std.proofs.Common.{length, Some, ap, sym, ◌∙◌}
use Rattle.std.proofs.lemmas.Bool.{ltb-true}
use Rattle.cedr_guard.specs.declared.ids.IdPlace.{IdPlace}
use Rattle.cedr_guard.proofs.IdLemmas.{place_found}
use Rattle.cedr_guard.proofs.ids.place_among.Goals as goal

-- what stands at the place that was looked at has the id
pub returns-in-Some : goal.returns-in-Some
returns-in-Some c =
    let facts = c.in-Some.ensures in
    let within = ltb-true c.unwrap_or-index.result (length c.args.rising.now) (sym facts.lookup.0) in
    let here = facts.lookup.1 in
    let same = ap (λ (e : IdPlace). e.id) (sym here) ∙ c.if-entry-id.true in
    sym (place_found c.args.id c.args.rising.now c.unwrap_or-index.result c.in-Some.entry.now c.requires within same ∙ ap (λ (e : IdPlace). Some e.place) (sym here))

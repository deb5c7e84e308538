use Rattle.std.proofs.Common.{◌≤◌, ℕ, List, ap, sym, ◌∙◌, subst}
use Rattle.cedr_guard.specs.declared.ids.IdPlace.{IdPlace}
use Rattle.cedr_guard.specs.Ids.{place_among}
use Rattle.cedr_guard.proofs.IdOrder.{copies_of, same_places, rising_sorted, gathered_places, gathered_once}
use Rattle.cedr_guard.proofs.ids.Ids.in_order.Goals as goal

pub returns-clause-rising : goal.returns-clause-rising
returns-clause-rising c =
    let ids = c.args.self.now in
    let facts = c.in_ok-entries.ensures in
    let few : (id : ℕ) → copies_of id c.in_ok-entries.entries.items ≤ 1 =
    λ id. subst (λ (entries : List IdPlace). copies_of id entries ≤ 1) (sym facts.all) (gathered_once ids.rising.items ids.others.entries ids.rises facts.ordered ids.apart id) in
    rising_sorted c.in_ok-entries.entries.items c.sort_by_id.new.entries.items c.sort_by_id.ensures.same c.sort_by_id.ensures.sorted few

pub returns-clause-places : goal.returns-clause-places
returns-clause-places c = λ id.
    let ids = c.args.self.now in
    let facts = c.in_ok-entries.ensures in
    let few : (id : ℕ) → copies_of id c.in_ok-entries.entries.items ≤ 1 =
    λ id. subst (λ (entries : List IdPlace). copies_of id entries ≤ 1) (sym facts.all) (gathered_once ids.rising.items ids.others.entries ids.rises facts.ordered ids.apart id) in
    same_places c.in_ok-entries.entries.items c.sort_by_id.new.entries.items c.sort_by_id.ensures.same few id ∙ (ap (place_among id) facts.all ∙ gathered_places id ids.rising.items ids.others.entries)
